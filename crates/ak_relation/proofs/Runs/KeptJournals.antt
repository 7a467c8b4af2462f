-- The empty journal is that of the build, and the journal with one more move is that of the machine after it.
use Rattle.std.proofs.Common.{◌≡◌, ℕ, List, [], ◌∷◌, ◌++◌, map, refl, ap, sym, ◌∙◌, append-nil}
use Rattle.std.proofs.lemmas.List.{reverse-append}
use Rattle.std.proofs.lemmas.List.Elements.{filter_map-append}
use Rattle.std.specs.Prelude.{Option, Some, None}
use Rattle.ak_core.specs.Layout.{Layout, IsValid}
use Rattle.ak_core.specs.Journal.{Journal, with_more, first_stop}
use Rattle.ak_core.specs.declared.event.Event.{Event}
use Rattle.ak_core.specs.declared.moves.Move.{Move}
use Rattle.ak_core.specs.declared.moves.Answer.{Answer}
use Rattle.ak_model.specs.Paging.Histories.{History}
use Rattle.ak_model.specs.Sound.Outputs.{shown_by, shown_outputs}
use Rattle.ak_pager.specs.declared.turn.RtTurn.{RtTurn}
use Rattle.ak_relation.specs.State.MachineState.{State}
use Rattle.ak_relation.specs.Program.Turns.{listed}
use Rattle.ak_relation.specs.Premises.Built.{IsBuilt}
use Rattle.ak_relation.specs.Relation.Causes.{NamesMoveCause}
use Rattle.ak_relation.specs.Relation.MoveByMove.{moves_of}
use Rattle.ak_relation.specs.Relation.Stopping.{stop_by}
use Rattle.ak_relation.specs.Relation.Keeping.{KeepsJournal, HasOneMore}

-- one more at the end, as a list
pub with_listed : (events : List Event) (event : Option Event) → events ++ listed event ≡ with_more events event
with_listed events None = append-nil events
with_listed events (Some event) = refl

shown_one : (outputs : List ℕ) (a : Answer) (o : Option ℕ) → shown_by a ≡ o → outputs ++ shown_outputs (a ∷ []) ≡ with_more outputs o
shown_one outputs a None e = rw e (append-nil outputs)
shown_one outputs a (Some x) e = rw e refl

pub one_more_move : (layout : Layout) (image : List ℕ) (past : History) (m : Move) (a : Answer) (event : Option Event) (outcome : RtTurn) (old new : State) (before after : Journal) →
    KeepsJournal layout image past old before → NamesMoveCause layout old new m a event outcome → HasOneMore layout past m a event outcome before after →
    KeepsJournal layout image ((m, a) ∷ past) new after
one_more_move layout image past m a event outcome old new before after k move more =
    let told : before.events ++ listed event ≡ after.events = with_listed before.events event ∙ sym more.events in
    record {
      has = record {
        moved = record {
          valid = k.has.moved.valid;
          moves = (old, before.events, event, k.has.moved.moves, λ image past control turns stands. (move image past control turns stands).0, told);
        };
        moves_are = more.moves ∙ ap (λ moves. moves ++ m ∷ []) k.has.moves_are ∙ sym (reverse-append (m ∷ []) (moves_of past));
        answers_are = more.answers ∙ ap (λ answers. answers ++ a ∷ []) k.has.answers_are ∙ sym (reverse-append (a ∷ []) (map (λ pair. pair.1) past));
        outputs_are = more.outputs ∙ ap (λ outputs. with_more outputs (shown_by a)) k.has.outputs_are ∙ sym (shown_one (shown_outputs before.answers) a (shown_by a) refl)
            ∙ sym (filter_map-append shown_by before.answers (a ∷ [])) ∙ ap shown_outputs (sym more.answers);
      };
      keeps = record {
        outcomes = outcome ∷ k.keeps.outcomes;
        named = (old, before.events, event, k.keeps.outcomes, outcome, k.keeps.named, move, told, refl);
        stop_is = more.stop ∙ ap (λ stop. first_stop stop (stop_by layout past outcome)) k.keeps.stop_is;
      };
    }

-- the empty journal is that of the build
pub built_journal : (layout : Layout) (image : List ℕ) (state : State) (journal : Journal) → IsValid layout → IsBuilt layout image state → journal.moves ≡ [] → journal.answers ≡ [] →
    journal.events ≡ [] → journal.outputs ≡ [] → journal.stop ≡ None → KeepsJournal layout image [] state journal
built_journal layout image state journal valid built moves answers events outputs stop = record {
  has = record {
    moved = record { valid = valid; moves = (built, events) };
    moves_are = moves;
    answers_are = answers;
    outputs_are = outputs ∙ ap shown_outputs (sym answers);
  };
  keeps = record { outcomes = []; named = (built, events, refl); stop_is = stop };
}
