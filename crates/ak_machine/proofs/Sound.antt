-- A machine that stands for a history stands for a longer one after a move.
use Rattle.std.proofs.Common.{ℕ, ◌∷◌, ap, sym, subst, ◌∙◌}
use Rattle.ak_core.specs.Layout.{Layout}
use Rattle.ak_core.specs.declared.moves.Move.{Move}
use Rattle.ak_model.specs.Paging.Pages.{all_pages}
use Rattle.ak_relation.specs.Relation.Does.{at_moment}
use Rattle.ak_relation.specs.Relation.Stands.{Stands}
use Rattle.ak_relation.specs.State.MachineState.{State}
use Rattle.ak_machine.specs.declared.applied.Applied.{Applied}
use Rattle.ak_machine.specs.Machines.{IsSound, IsState, Parts, StandsSomewhere, with_spare}
use Rattle.ak_machine.specs.Moves.{Moves}

module _ (before after : Parts) (m : Move) (applied : Applied) (moves : Moves before m applied after) where
  stands_after : StandsSomewhere before → StandsSomewhere after
  stands_after old =
      let to = moves.moved old.state old.machine in
      let g = to.move old.image old.past old.control old.turns old.stands in
      record {
        image = old.image;
        past = (m, applied.answer) ∷ old.past;
        control = g.control;
        turns = g.turns;
        state = to.new;
        machine = to.machine;
        stands = subst (λ (layout : Layout). Stands layout old.image (at_moment ((m, applied.answer) ∷ old.past) g.control g.turns to.new)) (sym moves.layout) g.stands;
      }

  pub sound_after : IsSound before → IsSound after
  sound_after old = record {
    each = moves.each ∙ old.each ∙ sym (ap (λ (layout : Layout). layout.lps) moves.layout);
    sized = moves.sized ∙ old.sized ∙ sym (ap all_pages moves.layout);
    somewhere = stands_after old.somewhere;
  }

-- how many blank pages are spare is no part of a state
spare_state : (parts : Parts) (n : ℕ) (state : State) → IsState parts state → IsState (with_spare parts n) state
spare_state parts n state machine = record {
  paging = record {
    count = machine.paging.count;
    entries = machine.paging.entries;
    frames = machine.paging.frames;
    sealed_pages = machine.paging.sealed_pages;
    next = machine.paging.next;
    track = machine.paging.track;
    stamps = machine.paging.stamps;
    within = machine.paging.within;
  };
  mapped = machine.mapped;
  processors = machine.processors;
}

pub sound_spare : (parts : Parts) (n : ℕ) → IsSound parts → IsSound (with_spare parts n)
sound_spare parts n s = record {
  each = s.each;
  sized = s.sized;
  somewhere = record {
    image = s.somewhere.image;
    past = s.somewhere.past;
    control = s.somewhere.control;
    turns = s.somewhere.turns;
    state = s.somewhere.state;
    machine = spare_state parts n s.somewhere.state s.somewhere.machine;
    stands = s.somewhere.stands;
  };
}
