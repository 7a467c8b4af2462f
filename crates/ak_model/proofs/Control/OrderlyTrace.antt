-- Each moment of a trace keeps the laws of the control state.
use Rattle.std.proofs.Common.{◌≡◌, ◌⊎◌, inl, inr, ℕ, zero, suc, List, [], ◌∷◌, ◌++◌, append_assoc, map, reverse, refl, ap, sym, ◌∙◌, subst}
use Rattle.std.specs.Prelude.{Bool, true, false, All, filter_map, if◌then◌else◌, Option, Some, None, nat_lt}
use Rattle.std.proofs.lemmas.Bool.{ltb-true}
use Rattle.std.proofs.lemmas.List.{reverse-append}
use Rattle.std.proofs.lemmas.List.Elements.{All-nil, All-cons, All-append, All-map, All-weaker}
use Rattle.ak_core.specs.Layout.{Layout}
use Rattle.ak_core.specs.declared.moves.Exit.TheVariants.{Still}
use Rattle.ak_core.specs.declared.event.Event.{Event}
use Rattle.ak_core.specs.declared.event.Event.TheVariants.{Call, Miss, Trap, Break}
use Rattle.ak_core.specs.declared.moves.Move.{Move}
use Rattle.ak_core.specs.declared.moves.Move.TheVariants.{Run}
use Rattle.ak_model.specs.Paging.Histories.{History, Exits, if_left}
use Rattle.ak_model.specs.Paging.Inside.{inside, someone_inside}
use Rattle.ak_model.specs.Control.ControlState.{Context, Program, Enter, Probe, Finish, Guard, Leave, Control}
use Rattle.ak_model.specs.Control.OneTurn.{Turn, Goes, Leaves}
use Rattle.ak_model.specs.Control.Runs.{turn, Ran, go_on, run, unless_left, before_turns}
use Rattle.ak_model.specs.Control.Trace.{Moment, after_move, trace}
use Rattle.ak_model.specs.Control.Moments.{turn_moments, moments}
use Rattle.ak_model.specs.Tapes.ProgramTurns.{ProgramTurn, turn_at, turn_in, turns_in, turns_of_run, turns_of_move, program_turns}
use Rattle.ak_model.specs.Sound.Forced.{missed_by, queue_by}
use Rattle.ak_model.specs.Clusters.Queue.{queue_after}
use Rattle.ak_model.specs.Laws.Orderly.{IsOrderly, TurnIsOrderly, after_event, after_turn, OrderlyAfter, KeepsLaws}
use Rattle.ak_model.proofs.Clusters.FewestLeave.{queue_after-more}
use Rattle.ak_model.proofs.Paging.InsideIsOfLayout.{placed}
use Rattle.ak_model.proofs.Paging.Tests.{All-reverse}
use Rattle.ak_model.proofs.Paging.SomeoneInside.{is_someone}
use Rattle.ak_model.proofs.Paging.Readings.{reading, someone_then}
use Rattle.ak_model.proofs.Control.MovedTo.{each_move}
use Rattle.ak_model.proofs.Control.OrderlySteps.{ClustersFit}
use Rattle.ak_model.proofs.Control.OrderlyTurns.{turn_fits}
use Rattle.ak_model.proofs.Control.OrderlyMoves.{AfterChange, widen, enter_fits, resume_fits, interrupt_fits}

module _ (layout : Layout) where
  -- ---- The misses so far

  misses_of : List ProgramTurn → List ℕ
  misses_of older = filter_map (λ turn. missed_by turn.event) older

  -- one more turn with this event
  pub more_by : (lp : ℕ) (past : History) (count : ℕ) (event : Option Event) (older : List ProgramTurn) → queue_by layout (record { lp = lp; past = past; count = count; event = event } ∷ older) ≡ after_event layout (queue_by layout older) event
  unfolding misses_of
  more_by lp past count None older = refl
  more_by lp past count (Some (Call i b a)) older = refl
  more_by lp past count (Some (Trap i v)) older = refl
  more_by lp past count (Some (Break i)) older = refl
  more_by lp past count (Some (Miss i c)) older =
      ap (queue_after layout) (reverse-append (c ∷ []) (misses_of older)) ∙ queue_after-more layout (reverse (misses_of older)) c

  -- one more turn
  pub turn_more : (lp : ℕ) (past : History) (control : Control) (now : Option Context) (older : List ProgramTurn) → after_turn layout (queue_by layout older) control now ≡ queue_by layout (reverse (turn_in lp past control now) ++ older)
  turn_more lp past control None older = refl
  turn_more lp past control (Some Program) older = let turn = turn_at lp past control in sym (more_by turn.lp turn.past turn.count turn.event older)
  turn_more lp past control (Some (Enter k v)) older = refl
  turn_more lp past control (Some (Probe i)) older = refl
  turn_more lp past control (Some Finish) older = refl
  turn_more lp past control (Some Guard) older = refl
  turn_more lp past control (Some (Leave b a)) older = refl

  -- ---- A run

  abbrev RanIsOrderly : List ℕ → Ran → Type 0
  RanIsOrderly so_far ran = ((ran.exit ≡ Still) × IsOrderly layout so_far true ran.control) ⊎ IsOrderly layout so_far false ran.control

  -- a control state before a turn keeps the laws
  abbrev Keeps : Control → Type 0
  Keeps control = (so_far : List ℕ) × IsOrderly layout so_far true control

  module _ (fit : ClustersFit layout) (lp : ℕ) (past : History) where
    abbrev RunIsOrderly : List ProgramTurn → ℕ → Control → Type 0
    RunIsOrderly older n control = RanIsOrderly (queue_by layout (reverse (turns_of_run layout lp past n control) ++ older)) (run layout past n control) × All Keeps (before_turns layout past n control)

    go_fits : (older : List ProgramTurn) (n : ℕ) (t : Turn) → TurnIsOrderly layout (queue_by layout older) t → ((control : Control) → IsOrderly layout (queue_by layout older) true control → RunIsOrderly older n control) → RanIsOrderly (queue_by layout (reverse (turns_in lp past (unless_left t (before_turns layout past n))) ++ older)) (go_on t (run layout past n)) × All Keeps (unless_left t (before_turns layout past n))
    go_fits older n (Goes next) h later = later next h
    go_fits older n (Leaves exit next) h later = (inr h, All-nil Keeps)

    run_fits : (n : ℕ) (older : List ProgramTurn) (control : Control) → IsOrderly layout (queue_by layout older) true control → RunIsOrderly older n control
    run_fits zero older control old = (inl (refl, old), All-nil Keeps)
    run_fits (suc n) older control old =
        let t : Turn = turn layout past control in
        let here : List ProgramTurn = turn_in lp past control control.now in
        let more : List ProgramTurn = turns_in lp past (unless_left t (before_turns layout past n)) in
        let fits : TurnIsOrderly layout (queue_by layout (reverse here ++ older)) t =
        subst (λ q. TurnIsOrderly layout q t) (turn_more lp past control control.now older) (turn_fits layout (queue_by layout older) fit past control old) in
        let on = go_fits (reverse here ++ older) n t fits (λ next. run_fits n (reverse here ++ older) next) in
        let joined : reverse (here ++ more) ++ older ≡ reverse more ++ (reverse here ++ older) =
        ap (λ l. l ++ older) (reverse-append here more) ∙ append_assoc (reverse more) (reverse here) older in (
          subst (λ l. RanIsOrderly (queue_by layout l) (go_on t (run layout past n))) (sym joined) on.0,
          All-cons Keeps control (unless_left t (before_turns layout past n)) (queue_by layout older, old) on.1,
        )

    ran_after : (so_far : List ℕ) (ran : Ran) → someone_inside layout past ≡ true → RanIsOrderly so_far ran → AfterChange layout so_far past (reading (if_left ran.exit (Exits lp ran.exit))) ran.control
    ran_after so_far ran someone h =
        elim h [
          | inl s ↦
              subst (λ exit. AfterChange layout so_far past (reading (if_left exit (Exits lp exit))) ran.control) (sym s.0)
              (subst (λ b. IsOrderly layout so_far b ran.control) (sym someone) s.1)
          | inr f ↦ widen layout so_far (someone_then layout past (reading (if_left ran.exit (Exits lp ran.exit)))) ran.control f
        ]

  -- ---- Whole traces

  module _ (fit : ClustersFit layout) where
    -- one more move
    pub step_fits : (older : List ProgramTurn) (moment : Moment) (m : Move) → ((lp : ℕ) → inside moment.past lp ≡ true → nat_lt lp layout.lps ≡ true) → OrderlyAfter layout older moment → OrderlyAfter layout (turns_of_move layout moment m ++ older) (after_move layout moment m)
    step_fits older moment m low old =
        let past : History = moment.past in
        let control : Control = moment.control in
        let so_far : List ℕ = queue_by layout older in
        each_move layout moment (λ e. AfterChange layout (queue_by layout (e.turns ++ older)) past e.change e.next)
        (record {
          quiet = old;
          enters = λ lp v there out few. enter_fits layout so_far past control lp v there out few old;
          resumes = λ lp saved rest there out free e. resume_fits layout so_far past control lp saved rest there out free e old;
          interrupts = λ lp d. interrupt_fits layout so_far past control lp old;
          runs = λ lp n d someone. ran_after fit lp past _ (run layout past n control) someone (run_fits fit lp past n older control (subst (λ b. IsOrderly layout so_far b control) someone old)).0;
        })
        low m

    abbrev At : List Event → List Move → Type 0
    At tape moves = OrderlyAfter layout (program_turns layout tape moves) (trace layout tape moves)

    -- after all moves
    pub trace_fits : (tape : List Event) (moves : List Move) → At tape [] → At tape moves
    trace_fits tape [] start = start
    trace_fits tape (m ∷ moves) start =
        step_fits (program_turns layout tape moves) (trace layout tape moves) m (λ lp. placed layout lp tape moves) (trace_fits tape moves start)

    -- ---- Moments before turns

    turns_by : (older : List ProgramTurn) (moment : Moment) (lp n : ℕ) (within : Bool) → (within ≡ true → someone_inside layout moment.past ≡ true) → OrderlyAfter layout older moment → All (KeepsLaws layout) (if within then map (λ control. record moment { control = control }) (reverse (before_turns layout moment.past n moment.control)) else [])
    turns_by older moment lp n false someone old = All-nil (KeepsLaws layout)
    turns_by older moment lp n true someone old =
        let here = subst (λ b. IsOrderly layout (queue_by layout older) b moment.control) (someone refl) old in
        let all = (run_fits fit lp moment.past n older moment.control here).1 in
        let controls : List Control = before_turns layout moment.past n moment.control in
        All-map (KeepsLaws layout) (λ control. record moment { control = control }) (reverse controls)
        (All-reverse (λ control. KeepsLaws layout (record moment { control = control })) controls
        (All-weaker Keeps (λ control. KeepsLaws layout (record moment { control = control })) (λ control h. (h.0, subst (λ b. IsOrderly layout h.0 b control) (sym (someone refl)) h.1)) controls all))

    all_turns : (tape : List Event) (moves : List Move) (m : Move) → At tape moves → All (KeepsLaws layout) (turn_moments layout (trace layout tape moves) m)
    all_turns tape moves (Run lp n) old =
        let moment = trace layout tape moves in
        turns_by (program_turns layout tape moves) moment lp.0 n (inside moment.past lp.0)
        (λ e. is_someone layout moment.past lp.0 (ltb-true lp.0 layout.lps (placed layout lp.0 tape moves e)) e) old
    all_turns tape moves _ old = All-nil (KeepsLaws layout)

    -- every moment
    pub moments_fit : (tape : List Event) (moves : List Move) → At tape [] → All (KeepsLaws layout) (moments layout tape moves)
    moments_fit tape [] start = All-cons (KeepsLaws layout) (trace layout tape []) [] (queue_by layout [], start) (All-nil (KeepsLaws layout))
    moments_fit tape (m ∷ moves) start =
        let before : Moment = trace layout tape moves in
        let so_far : List ℕ = queue_by layout (program_turns layout tape (m ∷ moves)) in
        All-cons (KeepsLaws layout) (trace layout tape (m ∷ moves)) (turn_moments layout before m ++ moments layout tape moves) (so_far, trace_fits tape (m ∷ moves) start)
        (All-append (KeepsLaws layout) (turn_moments layout before m) (moments layout tape moves) (all_turns tape moves m (trace_fits tape moves start)) (moments_fit tape moves start))
