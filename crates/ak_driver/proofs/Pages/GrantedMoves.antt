-- The table moves of the honest kernel are granted.
use Rattle.std.proofs.Common.{◌≡◌, ℕ, ◌<◌, ◌≤◌, List, [], ◌∷◌, arith, refl, sym, ◌∙◌, subst}
use Rattle.std.specs.Prelude.{true, false, Some, None, nat_lt, ◌==◌}
use Rattle.std.specs.List.{list_all}
use Rattle.std.proofs.lemmas.Bool.{ne_eqb, lt-ltb, and_parts}
use Rattle.std.proofs.lemmas.Bool.Decides.{nat_tests}
use Rattle.ak_core.specs.Layout.{Layout, IsValid}
use Rattle.ak_core.specs.declared.moves.Move.TheVariants.{SetPte, Eblock, Etrack, Ewb, Eldu}
use Rattle.ak_core.specs.declared.moves.Answer.{Answer}
use Rattle.ak_core.specs.declared.moves.Answer.TheVariants.{Ok, OkHandle}
use Rattle.ak_core.specs.declared.page.Flags.{Flags}
use Rattle.ak_model.specs.Paging.Pages.{pages, all_pages}
use Rattle.ak_model.specs.Paging.Holdings.{FreeFrame, InFrame, InHandle}
use Rattle.ak_model.specs.Paging.Histories.{History}
use Rattle.ak_model.specs.Paging.Frames.{held, blocked_at}
use Rattle.ak_model.specs.Paging.Handles.{given, place, slot}
use Rattle.ak_model.specs.Paging.Tracking.{Cycle, is_over, last_is_over, cycles, tracked}
use Rattle.ak_model.specs.Control.ControlState.{Control}
use Rattle.ak_model.specs.Control.Answers.{answer}
use Rattle.ak_model.specs.Control.LeafRows.{frame_row}
use Rattle.ak_model.specs.Paging.Views.{view_of}
use Rattle.ak_model.specs.Laws.OneLiveCopy.{OneCopy}
use Rattle.ak_driver.proofs.Invariant.PageStates.{PageState, Unmapped, Blocked, IsInState}
use Rattle.ak_driver.proofs.Invariant.PagesStand.{PagesStand}
use Rattle.ak_driver.proofs.Pages.MovedPages.{free_low}

-- where all cycles are over, so is the newest
newest_over : (all : List Cycle) → list_all is_over all ≡ true → last_is_over all ≡ true
newest_over [] h = refl
newest_over (cycle ∷ older) h = (and_parts (is_over cycle) (list_all is_over older) h).0

module _ (layout : Layout) (past : History) (states : ℕ → PageState) (control : Control) (valid : IsValid layout) (copies : OneCopy layout past) (old : PagesStand layout past states) where
  -- the kernel may map each program page
  pub set_granted : (p f : ℕ) (flags : Flags) → p < pages layout → answer layout past control (SetPte (record { 0 = p }) (record { 0 = f }) flags) ≡ Ok
  set_granted p f flags low =
      let b : nat_lt p (all_pages layout) ≡ true = lt-ltb p (all_pages layout) (omega arith) in
      rw b refl

  -- a frame of the page cache that is not the first
  frame_fine : (f : ℕ) (a : Answer) → 8 ≤ f → f < layout.frames → frame_row (view_of layout past) f a ≡ a
  frame_fine f a low high =
      let b : nat_lt f layout.frames ≡ true = lt-ltb f layout.frames high in
      let c : (f == 0) ≡ false = ne_eqb f 0 (λ e. omega arith) in
      rw (b, c) refl

  pub block_granted : (p f : ℕ) → p < pages layout → states p ≡ Unmapped → place layout past p ≡ InFrame f → answer layout past control (Eblock (record { 0 = f })) ≡ Ok
  block_granted p f low e at =
      let was : IsInState layout past p Unmapped = subst (λ s. IsInState layout past p s) e (old.each p low) in
      let s : was.0.frame ≡ f = let a = was.0.placed in let b : InFrame was.0.frame ≡ InFrame f = sym a ∙ at in cc in
      let l = was.0.low in let h = was.0.high in
      let free : blocked_at past f ≡ None = subst (λ g. blocked_at past g ≡ None) s was.1 in
      let holds = copies.framed p f at in
      frame_fine f _ (omega arith) (omega arith) ∙ rw (holds, free) refl

  pub track_granted : answer layout past control Etrack ≡ Ok
  track_granted = let e = newest_over (cycles layout past) old.untouched.over in rw e refl

  slot_fine : (p : ℕ) → p < pages layout → nat_lt p 512 ≡ true
  slot_fine p low = let few = valid.few_pages in lt-ltb p 512 (omega arith)

  pub write_granted : (p f : ℕ) → p < pages layout → states p ≡ Blocked → place layout past p ≡ InFrame f → tracked layout past f ≡ true → answer layout past control (Ewb (record { 0 = f }) (record { 0 = 1 }) p) ≡ OkHandle (record { 0 = given layout past })
  write_granted p f low e at done =
      let was : IsInState layout past p Blocked = subst (λ s. IsInState layout past p s) e (old.each p low) in
      let s : was.0.frame ≡ f = let a = was.0.placed in let b : InFrame was.0.frame ≡ InFrame f = sym a ∙ at in cc in
      let l = was.0.low in let h = was.0.high in
      let blocked : blocked_at past f ≡ Some was.1.0 = subst (λ g. blocked_at past g ≡ Some was.1.0) s was.1.1 in
      let holds = copies.framed p f at in
      let va = old.untouched.same.va in let small = slot_fine p low in let empty = was.0.emptied in
      let steps : Answer = answer layout past control (Ewb (record { 0 = f }) (record { 0 = 1 }) p) in
      frame_fine f _ (omega arith) (omega arith) ∙ rw (holds, done, va, small, empty, blocked) refl

  pub load_granted : (p f k : ℕ) → p < pages layout → place layout past p ≡ InHandle k → slot layout past 1 p ≡ Some k → held layout past f ≡ FreeFrame → f < layout.frames
      → answer layout past control (Eldu (record { 0 = f }) (record { 0 = k }) (record { 0 = p }) (record { 0 = 1 }) p) ≡ Ok
  load_granted p f k low at full free high =
      let va = old.untouched.same.va in let small = slot_fine p low in
      let known : nat_lt k (given layout past) ≡ true = lt-ltb k (given layout past) (copies.known p k at) in
      let kept = copies.kept p k at in
      let named = copies.named p k at in
      let s : (k == k) ≡ true = grind (arith, nat_tests) in
      let q : (p == p) ≡ true = grind (arith, nat_tests) in
      frame_fine f _ (free_low layout past states old f free) high ∙ rw (free, va, small, known, kept, full, s, named, q) refl
