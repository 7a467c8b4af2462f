-- A kernel that keeps its rules sees no stop, where the program breaks no access: runs, moves and whole traces.
use Rattle.std.proofs.Common.{◌≡◌, ◌⊎◌, inl, inr, ℕ, zero, suc, List, [], ◌∷◌, ◌++◌, length, reverse, arith, refl, ap, sym, ◌∙◌, subst, append_assoc}
use Rattle.std.specs.Prelude.{Bool, true, false, not, ◌&&◌, Option, Some, None, is_some, nat_lt, ◌==◌}
use Rattle.std.specs.List.{list_all}
use Rattle.std.proofs.lemmas.Bool.{and_parts, eq-eqb, not-true}
use Rattle.std.proofs.lemmas.List.{reverse-append}
use Rattle.std.proofs.lemmas.List.Folds.{list_all-append}
use Rattle.ak_core.specs.Layout.{Layout, IsValid}
use Rattle.ak_core.specs.declared.moves.Exit.{Exit}
use Rattle.ak_core.specs.declared.moves.Exit.TheVariants.{Still, Ask}
use Rattle.ak_core.specs.declared.event.Event.{Event}
use Rattle.ak_core.specs.declared.moves.Move.{Move}
use Rattle.ak_model.specs.Paging.Histories.{History, Resumes, Exits, Interrupts, if_left}
use Rattle.ak_model.specs.Paging.Inside.{inside, someone_inside}
use Rattle.ak_model.specs.Control.ControlState.{Phase, Context, Program, Enter, Probe, Finish, Guard, Leave, Saved, Control, cssa, is_asked}
use Rattle.ak_model.specs.Control.OneTurn.{Turn, Goes, Leaves}
use Rattle.ak_model.specs.Control.Runs.{turn, Ran, go_on, run, unless_left, before_turns}
use Rattle.ak_model.specs.Control.Entering.{entered, resumed_by, interrupted_by}
use Rattle.ak_model.specs.Control.Trace.{Moment, after_move, trace}
use Rattle.ak_model.specs.Control.Moments.{turn_moments, moments}
use Rattle.ak_model.specs.Tapes.ProgramTurns.{program_turns, ProgramTurn, turn_at, turn_in, turns_in, turns_of_run, turns_of_move}
use Rattle.ak_model.specs.Sound.Forced.{queue_by, EachTurn, BreakIsForced, BrokenBy}
use Rattle.ak_model.specs.Laws.Premises.{MissesFit}
use Rattle.ak_model.specs.Kernels.KernelRules.{keeps_mapped, keeps_fetched, entered_since_ask, entered_after, resumes_early, never_resumes_early, Honours}
use Rattle.ak_model.specs.Laws.Orderly.{ContextFits, StackFits, IsOrderly, TurnIsOrderly, OrderlyAfter}
use Rattle.ak_model.specs.Tapes.LastMoment.{FlatRuns}
use Rattle.ak_model.specs.Laws.ToldFault.{is_break}
use Rattle.ak_model.specs.Control.EventTurn.{due}
use Rattle.ak_model.proofs.Tapes.EachTurn.{not-broken_by}
use Rattle.ak_model.proofs.Paging.InsideIsOfLayout.{placed}
use Rattle.ak_model.proofs.Paging.Readings.{Reading, reading}
use Rattle.ak_model.proofs.Control.MovedTo.{Effect, effect, each_move, turns_all}
use Rattle.ak_model.proofs.Control.OrderlySteps.{ClustersFit}
use Rattle.ak_model.proofs.Control.OrderlyTurns.{turn_fits}
use Rattle.ak_model.proofs.Clusters.ValidClusters.{clusters_fit}
use Rattle.ak_model.proofs.Control.OrderlyMoments.{trace_is_orderly}
use Rattle.ak_model.proofs.Kernels.NoTurnStops.{StackCalm, GuardFree, IsCalm, TurnCalm}
use Rattle.ak_model.proofs.Kernels.NoStepStops.{turn_calm}
use Rattle.ak_model.proofs.Control.OrderlyTrace.{turn_more}
use Rattle.ak_model.proofs.Kernels.NoForcedBreak.{not-broken}

module _ (layout : Layout) (fit : ClustersFit layout) (runs : FlatRuns) where
  -- each break is forced
  abbrev Broken : List ProgramTurn → Type 0
  Broken turns = EachTurn (λ turn. λ older. BrokenBy layout runs turn older turn.event) turns

  older_broken : (xs ys : List ProgramTurn) → Broken (xs ++ ys) → Broken ys
  older_broken [] ys h = h
  older_broken (x ∷ xs) ys h = older_broken xs ys h.1

  -- ---- A run

  abbrev mapped_at : History → Control → Bool
  mapped_at past control = keeps_mapped layout (record { past = past; control = control })

  abbrev fetched_at : History → Control → Bool
  fetched_at past control = keeps_fetched layout (record { past = past; control = control })

  abbrev RanCalm : Bool → Ran → Type 0
  RanCalm entered ran = ((ran.exit ≡ Still) × IsCalm entered ran.control) ⊎ IsCalm (entered_after (Exits 0 ran.exit) entered) ran.control

  module _ (lp : ℕ) (past : History) (someone : someone_inside layout past ≡ true) where
    abbrev RunsCalm : ℕ → List ProgramTurn → Control → Type 0
    RunsCalm n older control = IsOrderly layout (queue_by layout older) true control → IsCalm (entered_since_ask past) control → Broken (reverse (turns_of_run layout lp past n control) ++ older) → list_all (mapped_at past) (before_turns layout past n control) ≡ true → list_all (fetched_at past) (before_turns layout past n control) ≡ true → RanCalm (entered_since_ask past) (run layout past n control)

    go_calm : (n : ℕ) (older : List ProgramTurn) (t : Turn) → TurnIsOrderly layout (queue_by layout older) t → TurnCalm (entered_since_ask past) t → Broken (reverse (turns_in lp past (unless_left t (before_turns layout past n))) ++ older) → list_all (mapped_at past) (unless_left t (before_turns layout past n)) ≡ true → list_all (fetched_at past) (unless_left t (before_turns layout past n)) ≡ true → ((control : Control) → RunsCalm n older control) → RanCalm (entered_since_ask past) (go_on t (run layout past n))
    go_calm n older (Goes next) o h b m f later = later next o h b m f
    go_calm n older (Leaves exit next) o h b m f later = inr h

    unbroken : (older : List ProgramTurn) (control : Control) → IsOrderly layout (queue_by layout older) true control → mapped_at past control ≡ true → Broken (reverse (turn_in lp past control control.now) ++ older) → control.now ≡ Some Program → is_break (due control.count control.rest) ≡ false
    unbroken older control orderly m b n =
        let here : Broken (turn_at lp past control ∷ older) = subst (λ now. Broken (reverse (turn_in lp past control now) ++ older)) n b in
        not-broken_by (BreakIsForced layout runs (turn_at lp past control) older) (due control.count control.rest) (not-broken layout runs older lp past control orderly n someone m) here.0

    run_calm : (n : ℕ) (older : List ProgramTurn) (control : Control) → RunsCalm n older control
    run_calm zero older control orderly old b m f = inl (refl, old)
    run_calm (suc n) older control orderly old b m f =
        let ms = and_parts (mapped_at past control) _ m in
        let fs = and_parts (fetched_at past control) _ f in
        let t : Turn = turn layout past control in
        let here : List ProgramTurn = turn_in lp past control control.now in
        let more : List ProgramTurn = turns_in lp past (unless_left t (before_turns layout past n)) in
        let joined : reverse (here ++ more) ++ older ≡ reverse more ++ (reverse here ++ older) =
        ap (λ l. l ++ older) (reverse-append here more) ∙ append_assoc (reverse more) (reverse here) older in
        let all : Broken (reverse more ++ (reverse here ++ older)) = subst Broken joined b in
        let now : Broken (reverse here ++ older) = older_broken (reverse more) (reverse here ++ older) all in
        let fits : TurnIsOrderly layout (queue_by layout (reverse here ++ older)) t =
        subst (λ q. TurnIsOrderly layout q t) (turn_more layout lp past control control.now older) (turn_fits layout (queue_by layout older) fit past control orderly) in
        go_calm n (reverse here ++ older) t fits
        (turn_calm layout past (queue_by layout older) control ms.0 fs.0 someone orderly old (unbroken older control orderly ms.0 now)) all ms.1 fs.1 (run_calm n (reverse here ++ older))

  -- ---- A move

  abbrev After : History → Reading → Control → Type 0
  After past change control = IsCalm (change.entered (entered_since_ask past)) control

  -- a guard with others below it stands in a dead enclave only
  free_guard : (phase : Phase) (d : ℕ) (context : Context) → ContextFits layout phase d context → (is_asked phase ≡ true → d ≡ 0 → ⊥) → GuardFree phase (Some context)
  free_guard phase d Guard fits far = by_asked (is_asked phase) refl
    where
      by_depth : is_asked phase ≡ true → (n : ℕ) → d ≡ n → is_asked phase ≡ false
      by_depth e zero z = absurd (far e z)
      by_depth e (suc n) z = let one : d ≡ 1 = let l = fits.0 in omega arith in ap is_asked (fits.2 one)

      by_asked : (b : Bool) → is_asked phase ≡ b → is_asked phase ≡ false
      by_asked false e = e
      by_asked true e = by_depth e d refl
  free_guard phase d Program fits far = tt
  free_guard phase d (Enter k v) fits far = tt
  free_guard phase d (Probe i) fits far = tt
  free_guard phase d Finish fits far = tt
  free_guard phase d (Leave b a) fits far = tt

  resumes_after : (past : History) (so_far : List ℕ) (someone : Bool) (control : Control) (lp : ℕ) (saved : Saved) (older : List Saved) → control.stack ≡ saved ∷ older → (is_asked control.phase ≡ true → length control.stack ≡ 1 → ⊥) → IsOrderly layout so_far someone control → IsCalm (entered_since_ask past) control → After past (reading (Resumes lp)) (resumed_by control (saved ∷ older))
  resumes_after past so_far someone control lp saved older e far orderly old =
      let fits : StackFits layout control.phase control.queue (saved ∷ older) = subst (StackFits layout control.phase control.queue) e orderly.stack in
      let calm : StackCalm (saved ∷ older) = subst StackCalm e old.stack in
      record {
        cause = old.cause;
        stack = calm.1;
        free = free_guard control.phase (length older) saved.context fits.0.context (λ a d. far a (ap length e ∙ ap suc d));
        asked = λ a. elim (old.asked a) [ inl x ↦ inl x | inr f ↦ absurd (far a f.1) ];
      }

  interrupt_by : (past : History) (control : Control) (lp : ℕ) (now : Option Context) → control.now ≡ now → IsCalm (entered_since_ask past) control → After past (reading (Interrupts lp)) (interrupted_by control now)
  interrupt_by past control lp None n old = record { cause = old.cause; stack = old.stack; free = old.free; asked = old.asked }
  interrupt_by past control lp (Some context) n old = record {
    cause = old.cause;
    stack = (tt, old.stack);
    free = tt;
    asked = λ a. elim (old.asked a) [ inl x ↦ inl x | inr f ↦ absurd (let m = f.0 in let y : is_some control.now ≡ true = ap is_some n in cc) ];
  }

  left_after : (past : History) (lp : ℕ) (exit : Exit) (control : Control) → IsCalm (entered_after (Exits 0 exit) (entered_since_ask past)) control → After past (reading (if_left exit (Exits lp exit))) control
  left_after past lp Still control h = h
  left_after past lp (Ask d c) control h = h
  left_after past lp _ control h = h

  ran_after : (past : History) (lp : ℕ) (ran : Ran) → RanCalm (entered_since_ask past) ran → After past (reading (if_left ran.exit (Exits lp ran.exit))) ran.control
  ran_after past lp ran h =
      elim h [
        | inl s ↦ subst (λ exit. After past (reading (if_left exit (Exits lp exit))) ran.control) (sym s.0) s.1
        | inr f ↦ left_after past lp ran.exit ran.control f
      ]

  -- ---- Whole traces

  abbrev At : Moment → Type 0
  At moment = IsCalm (entered_since_ask moment.past) moment.control

  -- what is asked of a move: each break is forced, and the kernel keeps its rules
  abbrev Asked : List ProgramTurn → Moment → Effect → Type 0
  Asked older moment e = Broken (e.turns ++ older) × (list_all (keeps_mapped layout) e.moments ≡ true) × (list_all (keeps_fetched layout) e.moments ≡ true) × ((e.change.resumes && ((cssa moment.control == 1) && is_asked moment.control.phase)) ≡ false)

  step_calm : (older : List ProgramTurn) (moment : Moment) (m : Move) → ((lp : ℕ) → inside moment.past lp ≡ true → nat_lt lp layout.lps ≡ true) → OrderlyAfter layout older moment → At moment → Asked older moment (effect layout moment m) → At (after_move layout moment m)
  step_calm older moment m low orderly old =
      let past : History = moment.past in
      let control : Control = moment.control in
      each_move layout moment (λ e. Asked older moment e → After past e.change e.next)
      (record {
        quiet = λ h. old;
        enters = λ lp v there out few h. record { cause = old.cause; stack = old.stack; free = tt; asked = λ a. inl refl };
        resumes = λ lp saved rest there out free e h.
            resumes_after past (queue_by layout older) (someone_inside layout past) control lp saved rest e
            (λ a one. let count : (cssa control == 1) ≡ true = eq-eqb (cssa control) 1 one in let early = h.3 in absurd (let x = rw (count, a) at early in cc)) orderly old;
        interrupts = λ lp d h. interrupt_by past control lp control.now refl old;
        runs = λ lp n d someone h.
            ran_after past lp (run layout past n control)
            (run_calm lp past someone n older control (subst (λ x. IsOrderly layout (queue_by layout older) x control) someone orderly) old h.0
            (turns_all layout (keeps_mapped layout) moment n h.1) (turns_all layout (keeps_fetched layout) moment n h.2));
      })
      low m

  trace_calm : (tape : List Event) (moves : List Move) → ((older : List Move) → OrderlyAfter layout (program_turns layout tape older) (trace layout tape older)) → Broken (program_turns layout tape moves) → list_all (keeps_mapped layout) (moments layout tape moves) ≡ true → list_all (keeps_fetched layout) (moments layout tape moves) ≡ true → never_resumes_early layout tape moves ≡ true → At (trace layout tape moves)
  trace_calm tape [] orderly t mapped fetched early = record { cause = refl; stack = tt; free = tt; asked = λ a. absurd (cc) }
  trace_calm tape (m ∷ moves) orderly t mapped fetched early =
      let before : Moment = trace layout tape moves in
      let turns : List Moment = turn_moments layout before m in
      let ms = and_parts (keeps_mapped layout (trace layout tape (m ∷ moves))) _ mapped in
      let fs = and_parts (keeps_fetched layout (trace layout tape (m ∷ moves))) _ fetched in
      let mp = and_parts (list_all (keeps_mapped layout) turns) _ (sym (list_all-append (keeps_mapped layout) turns (moments layout tape moves)) ∙ ms.1) in
      let fp = and_parts (list_all (keeps_fetched layout) turns) _ (sym (list_all-append (keeps_fetched layout) turns (moments layout tape moves)) ∙ fs.1) in
      let es = and_parts (not (resumes_early layout before m)) _ early in
      step_calm (program_turns layout tape moves) before m (λ lp. placed layout lp tape moves) (orderly moves) (trace_calm tape moves orderly (older_broken (turns_of_move layout before m) (program_turns layout tape moves) t) mp.1 fp.1 es.1) (t, mp.0, fp.0, not-true (resumes_early layout before m) es.0)

-- the rules kept, each break forced, and each miss of a cluster that is out: no stop
pub no_stop : (layout : Layout) (runs : FlatRuns) (tape : List Event) (moves : List Move) → IsValid layout → MissesFit layout [] tape → EachTurn (λ turn. λ older. BrokenBy layout runs turn older turn.event) (program_turns layout tape moves) → Honours layout tape moves → (trace layout tape moves).control.cause ≡ None
no_stop layout runs tape moves valid misses b h =
    (trace_calm layout (clusters_fit layout valid) runs tape moves (trace_is_orderly layout valid tape misses) b h.mapped h.fetched h.resumed).cause
