-- Equal tapes give equal answers.
use Rattle.std.proofs.Common.{◌≡◌, List, length, arith, ap, sym, ◌∙◌}
use Rattle.std.specs.Prelude.{reverse}
use Rattle.ak_core.specs.Layout.{Layout}
use Rattle.ak_core.specs.Journal.{Journal}
use Rattle.ak_core.specs.declared.event.Event.{Event}
use Rattle.ak_core.specs.declared.moves.Move.{Move}
use Rattle.ak_model.specs.Laws.Premises.{all_but_last}
use Rattle.ak_model.specs.Control.Trace.{trace, answers}
use Rattle.ak_model.specs.Sound.TracedAnswers.{AnswersAreTraced}
use Rattle.ak_model.proofs.Tapes.CutTraces.{trace-cut}

-- two tapes of which the same events were taken have given the same answers
pub same_past : (layout : Layout) (tape tape' : List Event) (moves : List Move) → all_but_last (length (trace layout tape moves).control.rest) tape ≡ all_but_last (length (trace layout tape' moves).control.rest) tape' → (trace layout tape moves).past ≡ (trace layout tape' moves).past
same_past layout tape tape' moves e =
    sym (ap (λ moment. moment.past) (trace-cut layout (length (trace layout tape moves).control.rest) tape moves (omega arith)))
    ∙ ap (λ events. (trace layout events moves).past) e
    ∙ ap (λ moment. moment.past) (trace-cut layout (length (trace layout tape' moves).control.rest) tape' moves (omega arith))

-- two journals with equal layouts, moves and events have equal answers
pub same_answers : (layout : Layout) (j j' : Journal) → AnswersAreTraced layout j → AnswersAreTraced layout j' → j.moves ≡ j'.moves → j.events ≡ j'.events → j.answers ≡ j'.answers
same_answers layout j j' s s' m e =
    s.answered
    ∙ ap (λ moves. answers (trace layout j.events (reverse moves))) m
    ∙ ap (λ events. answers (trace layout events (reverse j'.moves))) e
    ∙ sym s'.answered
