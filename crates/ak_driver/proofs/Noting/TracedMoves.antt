-- What a trace tells may come next.
use Rattle.std.proofs.Common.{◌≡◌, ℕ, suc, ◌^◌, ◌<◌, ◌≤◌, Bool, true, false, eqb, List, [], ◌∷◌, length, refl, ap, sym, arith}
use Rattle.std.specs.Prelude.{All, not, nat_lt, ◌==◌, ◌||◌, if◌then◌else◌}
use Rattle.std.specs.List.{IsDistinct as HasDistinctKeys, AllByRecursion, list_any}
use Rattle.std.proofs.lemmas.Bool.{or_parts, eqb-true, eqb-false, ne_eqb, ltb-true, not-false}
use Rattle.std.proofs.lemmas.List.Elements.{All-head, All-tail}
use Rattle.std.proofs.lemmas.Map.Steps.{length-le_from_distinct_below}
use Rattle.ak_core.specs.Layout.{Layout, IsValid}
use Rattle.ak_core.specs.declared.event.Event.{Event}
use Rattle.ak_core.specs.declared.moves.Answer.{Answer}
use Rattle.ak_core.specs.declared.moves.Answer.TheVariants.{Ok, OkHandle, NotEpc, IsSecs}
use Rattle.ak_core.specs.declared.moves.Move.{Move}
use Rattle.ak_core.specs.declared.moves.Move.TheVariants.{SetPte, ReadPte, Eblock, Etrack, Ewb, Eldu, Eldb, Eremove, Epa, Discard, Eenter, Eresume, Run, Interrupt}
use Rattle.ak_model.specs.Clusters.Queue.{is_in}
use Rattle.ak_model.specs.Control.Answers.{answer}
use Rattle.ak_model.specs.Control.ControlState.{Control}
use Rattle.ak_model.specs.Control.LeafRows.{frame_row}
use Rattle.ak_model.specs.Control.Trace.{trace}
use Rattle.ak_model.specs.Kernels.Counted.{service}
use Rattle.ak_model.specs.Laws.Orderly.{IsDistinct}
use Rattle.ak_model.specs.Laws.Premises.{MissesFit}
use Rattle.ak_model.specs.Paging.Histories.{History, Maps, Blocks, Cycles, WritesOut, Loads, Removes, MakesVa, Discards, Enters, Resumes, Exits, Interrupts, change}
use Rattle.ak_model.specs.Paging.Views.{View, view_of}
use Rattle.ak_model.proofs.Control.OneInsideTrace.{counts_right}
use Rattle.ak_model.proofs.Control.OrderlyMoments.{trace_is_orderly}
use Rattle.ak_model.proofs.Paging.ChangesByAnswer.{ok_holds, handle_holds, exit_holds}
use Rattle.ak_model.proofs.Paging.SomeoneInside.{other, outside_ok}
use Rattle.ak_driver.specs.NotedTables.{IsThere}
use Rattle.ak_driver.specs.Notes.{IsPlausible}
use Rattle.ak_driver.proofs.Noting.RequestSteps.{few_clusters}

-- ---- What is named is there

-- a frame that a leaf takes is one of the page cache
in_frames : (view : View) (f : ℕ) (x z : Answer) → (NotEpc ≡ z → ⊥) → frame_row view f x ≡ z → f < view.frames
in_frames view f x z ne h =
    let a = other (not (nat_lt f view.frames)) NotEpc (if f == 0 then IsSecs else x) z ne h in ltb-true f view.frames (not-false _ a.0)

module _ (layout : Layout) (past : History) (control : Control) where
  there : (m : Move) → IsThere layout (change m (answer layout past control m))
  there (SetPte p f flags) = ok_holds (IsThere layout) tt (answer layout past control (SetPte p f flags)) (Maps p.0 f.0 flags) (λ h. tt)
  there (ReadPte p) = tt
  there (Eblock f) = ok_holds (IsThere layout) tt (answer layout past control (Eblock f)) (Blocks f.0) (λ h. in_frames (view_of layout past) f.0 _ Ok (λ e. cc) h)
  there Etrack = ok_holds (IsThere layout) tt (answer layout past control Etrack) Cycles (λ h. tt)
  there (Ewb f va i) =
      handle_holds (IsThere layout) tt (answer layout past control (Ewb f va i)) (λ k. WritesOut f.0 va.0 i k)
      (λ k h. in_frames (view_of layout past) f.0 _ (OkHandle k) (λ e. cc) h)
  there (Eldu f k p va i) =
      ok_holds (IsThere layout) tt (answer layout past control (Eldu f k p va i)) (Loads f.0 k.0 p.0 va.0 i false)
      (λ h. in_frames (view_of layout past) f.0 _ Ok (λ e. cc) h)
  there (Eldb f k p va i) =
      ok_holds (IsThere layout) tt (answer layout past control (Eldb f k p va i)) (Loads f.0 k.0 p.0 va.0 i true)
      (λ h. in_frames (view_of layout past) f.0 _ Ok (λ e. cc) h)
  there (Eremove f) = ok_holds (IsThere layout) tt (answer layout past control (Eremove f)) (Removes f.0) (λ h. in_frames (view_of layout past) f.0 _ Ok (λ e. cc) h)
  there (Epa f) = ok_holds (IsThere layout) tt (answer layout past control (Epa f)) (MakesVa f.0) (λ h. in_frames (view_of layout past) f.0 _ Ok (λ e. cc) h)
  there (Discard k) = ok_holds (IsThere layout) tt (answer layout past control (Discard k)) (Discards k.0) (λ h. tt)
  there (Eenter lp v) = ok_holds (IsThere layout) tt (answer layout past control (Eenter lp v)) (Enters lp.0 v) (λ h. (outside_ok layout past lp.0 _ h).0)
  there (Eresume lp) = ok_holds (IsThere layout) tt (answer layout past control (Eresume lp)) (Resumes lp.0) (λ h. (outside_ok layout past lp.0 _ h).0)
  there (Run lp n) = exit_holds (IsThere layout) tt (answer layout past control (Run lp n)) (λ exit. Exits lp.0 exit) (λ exit. tt)
  there (Interrupt lp) = ok_holds (IsThere layout) tt (answer layout past control (Interrupt lp)) (Interrupts lp.0) (λ h. tt)

-- ---- The queue is short

-- a cluster that is out differs from each that is in
apart : (queue : List ℕ) (c : ℕ) → is_in queue c ≡ false → AllByRecursion (λ y. eqb c y ≡ false) queue
apart [] c out = tt
apart (x ∷ queue) c out =
    let parts = or_parts (x == c) (is_in queue c) out in
    (ne_eqb c x (λ same. eqb-false x c parts.0 (sym same)), apart queue c parts.1)

distinct_keys : (queue : List ℕ) → IsDistinct queue → HasDistinctKeys eqb queue
unfolding HasDistinctKeys
distinct_keys [] h = tt
distinct_keys (c ∷ queue) h = (apart queue c h.0, distinct_keys queue h.1)

below_by : (n : ℕ) (b rest : Bool) (x q : ℕ) → eqb q x ≡ b → (b || rest) ≡ true → x < n → (rest ≡ true → q < n) → q < n
below_by n true rest x q is here low more = let same = eqb-true q x is in omega arith
below_by n false rest x q is here low more = more here

below : (n : ℕ) (queue : List ℕ) → All (λ c. c < n) queue → (q : ℕ) → list_any (eqb q) queue ≡ true → q < n
below n [] h q here = cc
below n (x ∷ queue) h q here =
    below_by n (eqb q x) (list_any (eqb q) queue) x q refl here (All-head (λ c. c < n) x queue h) (below n queue (All-tail (λ c. c < n) x queue h) q)

-- as many moves as there are pairs
pub length-trace : (layout : Layout) (tape : List Event) (moves : List Move) → length (trace layout tape moves).past ≡ length moves
length-trace layout tape [] = refl
length-trace layout tape (m ∷ moves) = ap suc (length-trace layout tape moves)

module _ (layout : Layout) (tape : List Event) (valid : IsValid layout) (misses : MissesFit layout [] tape) where
  few_in : (moves : List Move) → length (service (trace layout tape moves).past).queue ≤ 512
  few_in moves =
      let control = (trace layout tape moves).control in
      let fits = (trace_is_orderly layout valid tape misses moves).queue in
      let few : length control.queue ≤ layout.clusters =
      length-le_from_distinct_below control.queue layout.clusters (distinct_keys control.queue fits.distinct) (below layout.clusters control.queue fits.known) in
      let same = ap length (counts_right layout tape moves).queue_is in
      omega (arith, few_clusters layout valid)

  -- each move may come next, with its answer
  pub traced : (moves : List Move) (m : Move) → length moves < 2 ^ 31
      → IsPlausible layout (trace layout tape moves).past (change m (answer layout (trace layout tape moves).past (trace layout tape moves).control m))
  traced moves m few = record {
    few = let n = length-trace layout tape moves in omega arith;
    there = there layout (trace layout tape moves).past (trace layout tape moves).control m;
    room = few_in (m ∷ moves);
  }
