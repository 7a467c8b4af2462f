-- Calls and values, and outputs, over whole traces.
use Rattle.std.proofs.Common.{◌≡◌, ℕ, zero, suc, ◌+◌, List, [], ◌∷◌, ◌++◌, append_assoc, append-nil, map, reverse, refl, ap, sym, ◌∙◌, subst, arith}
use Rattle.std.specs.Prelude.{Bool, true, false, filter_map, Option, Some, None, is_some, nat_lt}
use Rattle.std.proofs.lemmas.List.{reverse-append}
use Rattle.std.proofs.lemmas.List.Elements.{filter_map-append}
use Rattle.ak_core.specs.Layout.{Layout, IsValid}
use Rattle.ak_core.specs.declared.event.Event.{Event}
use Rattle.ak_core.specs.declared.moves.Answer.{Answer}
use Rattle.ak_core.specs.declared.moves.Exit.{Exit}
use Rattle.ak_core.specs.declared.moves.Exit.TheVariants.{Still}
use Rattle.ak_core.specs.declared.moves.Move.{Move}
use Rattle.ak_model.specs.Paging.Histories.{History, Exits, if_left}
use Rattle.ak_model.specs.Paging.Inside.{inside, someone_inside}
use Rattle.ak_model.specs.Control.ControlState.{Context, Program, Enter, Probe, Finish, Guard, Leave, Control}
use Rattle.ak_model.specs.Control.OneTurn.{Turn, Goes, Leaves}
use Rattle.ak_model.specs.Control.EventTurn.{due}
use Rattle.ak_model.specs.Control.Runs.{turn, Ran, go_on, run, unless_left, before_turns}
use Rattle.ak_model.specs.Control.Answers.{answer}
use Rattle.ak_model.specs.Control.Trace.{Moment, after_move, trace, answers}
use Rattle.ak_model.specs.Tapes.ProgramTurns.{ProgramTurn, turn_in, turns_in, turns_of_run, turns_of_move, program_turns}
use Rattle.ak_model.specs.Sound.Forced.{queue_by}
use Rattle.ak_model.specs.Sound.Outputs.{output_by, shown_by, shown_outputs}
use Rattle.ak_model.specs.Stops.MovesBefore.{changed}
use Rattle.ak_model.specs.Laws.Premises.{MissesFit}
use Rattle.ak_model.specs.Laws.Orderly.{IsOrderly, TurnIsOrderly, OrderlyAfter}
use Rattle.ak_model.specs.Laws.Calls.{calls_in, calls_by, calls_on, calls_now, IsAnswered, TurnIsAnswered}
use Rattle.ak_model.specs.Laws.ShownOutputs.{output_in, one_more, outputs_by, AreShown, TurnShows, output_of_change}
use Rattle.ak_model.proofs.Paging.InsideIsOfLayout.{placed}
use Rattle.ak_model.proofs.Control.MovedTo.{each_move}
use Rattle.ak_model.proofs.Control.OrderlySteps.{ClustersFit}
use Rattle.ak_model.proofs.Control.OrderlyTurns.{turn_fits}
use Rattle.ak_model.proofs.Control.OrderlyTrace.{turn_more}
use Rattle.ak_model.proofs.Control.OrderlyMoments.{trace_is_orderly}
use Rattle.ak_model.proofs.Clusters.ValidClusters.{clusters_fit}
use Rattle.ak_model.proofs.Tapes.EventsTaken.{with_event, taken, trace-taken}
use Rattle.ak_model.proofs.Tapes.CallTurns.{turn-answered, entered-answered, resumed as resumed_answered, interrupted-answered}
use Rattle.ak_model.proofs.Tapes.ShownSteps.{called_now, turn-shows, entered-shown, resumed as resumed_shown, interrupted-shown}
use Rattle.ak_model.proofs.Tapes.ShownAnswers.{answer-shown}

-- calls and outputs of these turns are answered and shown, where these outputs were shown
pub record AreServed (older : List ProgramTurn) (shown : List ℕ) (control : Control) : Type 0 where
  pub answered : IsAnswered (calls_by older) control
  pub are : AreShown (outputs_by older) shown control

-- ---- Calls that were taken

with_count : (event : Option Event) (rest : List Event) → calls_on (with_event event rest) ≡ calls_in event + calls_on rest
with_count None rest = omega arith
with_count (Some event) rest = refl

taken_count : (turns : List ProgramTurn) (rest : List Event) → calls_on (taken turns rest) ≡ calls_by turns + calls_on rest
taken_count [] rest = omega arith
taken_count (turn ∷ older) rest =
    let all = taken_count older (with_event turn.event rest) in
    let one = with_count turn.event rest in
    omega (arith, all, one)

-- the calls of the turns, and those that are left, are those of the tape
pub calls-taken : (layout : Layout) (tape : List Event) (moves : List Move) → calls_by (program_turns layout tape moves) + calls_on (trace layout tape moves).control.rest ≡ calls_on tape
calls-taken layout tape moves =
    sym (taken_count (program_turns layout tape moves) (trace layout tape moves).control.rest) ∙ ap calls_on (trace-taken layout tape moves)

-- ---- A run

calls_more : (lp : ℕ) (past : History) (control : Control) (now : Option Context) (older : List ProgramTurn) → calls_now control now + calls_by older ≡ calls_by (reverse (turn_in lp past control now) ++ older)
calls_more lp past control None older = omega arith
calls_more lp past control (Some Program) older = refl
calls_more lp past control (Some (Enter k v)) older = omega arith
calls_more lp past control (Some (Probe i)) older = omega arith
calls_more lp past control (Some Finish) older = omega arith
calls_more lp past control (Some Guard) older = omega arith
calls_more lp past control (Some (Leave b a)) older = omega arith

-- what a turn in this context calls for
abbrev outputs_now : List ℕ → Control → Option Context → List ℕ
outputs_now called control (Some Program) = one_more called (output_in (due control.count control.rest))
outputs_now called control _ = called

module _ (layout : Layout) where
  shows_more : (lp : ℕ) (past : History) (control : Control) (now : Option Context) (older : List ProgramTurn) (shown : List ℕ) (old : AreShown (outputs_by older) shown control) → called_now layout control (outputs_by older) shown old now ≡ outputs_by (reverse (turn_in lp past control now) ++ older)
  shows_more lp past control None older shown old = refl
  shows_more lp past control (Some Program) older shown old = refl
  shows_more lp past control (Some (Enter k v)) older shown old = refl
  shows_more lp past control (Some (Probe i)) older shown old = refl
  shows_more lp past control (Some Finish) older shown old = refl
  shows_more lp past control (Some Guard) older shown old = refl
  shows_more lp past control (Some (Leave b a)) older shown old = refl

  -- a run shows at most one output, by its exit
  abbrev RanIsServed : List ProgramTurn → List ℕ → Ran → Type 0
  RanIsServed older shown ran = AreServed older (one_more shown (output_by ran.exit)) ran.control

  module _ (fit : ClustersFit layout) (lp : ℕ) (past : History) where
    go_serves : (older : List ProgramTurn) (shown : List ℕ) (n : ℕ) (t : Turn) → TurnIsOrderly layout (queue_by layout older) t → TurnIsAnswered (calls_by older) t → TurnShows (outputs_by older) shown t →
        ((control : Control) → IsOrderly layout (queue_by layout older) true control → AreServed older shown control → RanIsServed (reverse (turns_of_run layout lp past n control) ++ older) shown (run layout past n control)) →
        RanIsServed (reverse (turns_in lp past (unless_left t (before_turns layout past n))) ++ older) shown (go_on t (run layout past n))
    go_serves older shown n (Goes next) o a s later = later next o (record { answered = a; are = s })
    go_serves older shown n (Leaves exit next) o a s later = record { answered = a; are = s }

    run_serves : (n : ℕ) (older : List ProgramTurn) (shown : List ℕ) (control : Control) → IsOrderly layout (queue_by layout older) true control → AreServed older shown control →
        RanIsServed (reverse (turns_of_run layout lp past n control) ++ older) shown (run layout past n control)
    run_serves zero older shown control orderly old = old
    run_serves (suc n) older shown control orderly old =
        let t : Turn = turn layout past control in
        let here : List ProgramTurn = turn_in lp past control control.now in
        let more : List ProgramTurn = turns_in lp past (unless_left t (before_turns layout past n)) in
        let o : TurnIsOrderly layout (queue_by layout (reverse here ++ older)) t =
        subst (λ q. TurnIsOrderly layout q t) (turn_more layout lp past control control.now older) (turn_fits layout (queue_by layout older) fit past control orderly) in
        let a : TurnIsAnswered (calls_by (reverse here ++ older)) t =
        subst (λ calls. TurnIsAnswered calls t) (calls_more lp past control control.now older) (turn-answered layout control (calls_by older) old.answered past orderly.stack orderly.now) in
        let s : TurnShows (outputs_by (reverse here ++ older)) shown t =
        subst (λ called. TurnShows called shown t) (shows_more lp past control control.now older shown old.are) (turn-shows layout control (outputs_by older) shown old.are past orderly.stack orderly.now) in
        let on = go_serves (reverse here ++ older) shown n t o a s (run_serves n (reverse here ++ older) shown) in
        let joined : reverse (here ++ more) ++ older ≡ reverse more ++ (reverse here ++ older) =
        ap (λ l. l ++ older) (reverse-append here more) ∙ append_assoc (reverse more) (reverse here) older in
        subst (λ turns. RanIsServed turns shown (go_on t (run layout past n))) (sym joined) on

  -- ---- A move

  left_shown : (lp : ℕ) (exit : Exit) → output_of_change (if_left exit (Exits lp exit)) ≡ output_by exit
  left_shown lp Still = refl
  left_shown lp exit = refl

  none_now : (now : Option Context) (someone : Bool) → someone ≡ false → (is_some now ≡ true → someone ≡ true) → now ≡ None
  none_now None someone out inside = refl
  none_now (Some context) someone out inside = absurd (let e = inside refl in cc)

  move_serves : (fit : ClustersFit layout) (older : List ProgramTurn) (shown : List ℕ) (moment : Moment) (m : Move) → ((lp : ℕ) → inside moment.past lp ≡ true → nat_lt lp layout.lps ≡ true) →
      OrderlyAfter layout older moment → AreServed older shown moment.control →
      AreServed (turns_of_move layout moment m ++ older) (one_more shown (output_of_change (changed layout moment m))) (after_move layout moment m).control
  move_serves fit older shown moment m low orderly old =
      let past : History = moment.past in
      let control : Control = moment.control in
      let none : someone_inside layout past ≡ false → control.now ≡ None = λ out. none_now control.now (someone_inside layout past) out orderly.inside in
      each_move layout moment (λ e. AreServed (e.turns ++ older) (one_more shown e.change.output) e.next)
      (record {
        quiet = old;
        enters = λ lp v there out few. record {
          answered = entered-answered layout control (calls_by older) old.answered v (none out);
          are = entered-shown layout control (outputs_by older) shown old.are v (none out);
        };
        resumes = λ lp saved rest there out free e. record {
          answered = resumed_answered layout control (calls_by older) old.answered (saved ∷ rest) e (none out);
          are = resumed_shown layout control (outputs_by older) shown old.are (saved ∷ rest) e (none out);
        };
        interrupts = λ lp d. record {
          answered = interrupted-answered layout control (calls_by older) old.answered;
          are = interrupted-shown layout control (outputs_by older) shown old.are;
        };
        runs = λ lp n d someone.
            let ran = run layout past n control in
            subst (λ output. AreServed (reverse (turns_of_run layout lp past n control) ++ older) (one_more shown output) ran.control) (sym (left_shown lp ran.exit))
            (run_serves fit lp past n older shown control (subst (λ b. IsOrderly layout (queue_by layout older) b control) someone orderly) old);
      })
      low m

  -- ---- Whole traces

  shown_more : (before : List Answer) (a : Answer) (output : Option ℕ) → shown_by a ≡ output → filter_map shown_by (before ++ a ∷ []) ≡ one_more (filter_map shown_by before) output
  shown_more before a None e = filter_map-append shown_by before (a ∷ []) ∙ rw e (append-nil (filter_map shown_by before))
  shown_more before a (Some output) e = filter_map-append shown_by before (a ∷ []) ∙ rw e refl

  module _ (valid : IsValid layout) (tape : List Event) (misses : MissesFit layout [] tape) where
    abbrev ServedAt : List Move → Type 0
    ServedAt moves = AreServed (program_turns layout tape moves) (shown_outputs (answers (trace layout tape moves))) (trace layout tape moves).control

    pub trace_serves : (moves : List Move) → ServedAt moves
    trace_serves [] = record { answered = record { returned = refl }; are = record { are = refl } }
    trace_serves (m ∷ moves) =
        let before : Moment = trace layout tape moves in
        let a : Answer = answer layout before.past before.control m in
        let e : shown_outputs (answers (after_move layout before m)) ≡ one_more (shown_outputs (answers before)) (output_of_change (changed layout before m)) =
        ap (filter_map shown_by) (reverse-append (a ∷ []) (map (λ pair. pair.1) before.past))
        ∙ shown_more (answers before) a (output_of_change (changed layout before m)) (answer-shown layout before.past before.control m) in
        subst (λ shown. AreServed (program_turns layout tape (m ∷ moves)) shown (trace layout tape (m ∷ moves)).control) (sym e)
        (move_serves (clusters_fit layout valid) (program_turns layout tape moves) (shown_outputs (answers before)) before m (λ lp. placed layout lp tape moves)
        (trace_is_orderly layout valid tape misses moves) (trace_serves moves))
