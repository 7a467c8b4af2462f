-- Where memory ran out, a run stands for what it stood for.
use Rattle.std.proofs.Common.{◌≡◌, ℕ, List, ap, sym, ◌∙◌, subst}
use Rattle.std.specs.Prelude.{Option}
use Rattle.ak_core.specs.Journal.{Journal, SameLists}
use Rattle.ak_core.specs.declared.event.Event.{Event}
use Rattle.ak_core.specs.declared.event.Stop.{Stop}
use Rattle.ak_core.specs.declared.moves.Answer.{Answer}
use Rattle.ak_core.specs.declared.moves.Move.{Move}
use Rattle.ak_relation.specs.State.MachineState.{State}
use Rattle.ak_machine.specs.Machines.{IsState, Parts, with_spare}
use Rattle.ak_run.specs.Blaming.{Marks}
use Rattle.ak_run.specs.Runs.{Faithful, RunParts, SameRun}

-- the journal with other room
with_room : Journal → ℕ → Journal
with_room journal room = record journal { room = room }

-- a journal of the same lists differs in its room alone
same_lists : (old new : Journal) → SameLists old new → new ≡ with_room old new.room
unfolding with_room
same_lists old new same =
    ap (λ (xs : List Move). record new { moves = xs }) same.moves
    ∙ ap (λ (xs : List Answer). record new { moves = old.moves; answers = xs }) same.answers
    ∙ ap (λ (xs : List ℕ). record new { moves = old.moves; answers = old.answers; outputs = xs }) same.outputs
    ∙ ap (λ (xs : List Event). record new { moves = old.moves; answers = old.answers; outputs = old.outputs; events = xs }) same.events
    ∙ ap (λ (stop : Option Stop). record new { moves = old.moves; answers = old.answers; outputs = old.outputs; events = old.events; stop = stop }) same.stop

-- the machine with other blank pages to spare is in the same state
pub same_state : (parts : Parts) (n : ℕ) (state : State) → IsState parts state → IsState (with_spare parts n) state
same_state parts n state machine = record {
  paging = record {
    count = machine.paging.count;
    entries = machine.paging.entries;
    frames = machine.paging.frames;
    sealed_pages = machine.paging.sealed_pages;
    next = machine.paging.next;
    track = machine.paging.track;
    stamps = machine.paging.stamps;
    within = machine.paging.within;
  };
  mapped = machine.mapped;
  processors = machine.processors;
}

-- the run with other blank pages to spare, and other room
with_more_room : RunParts → ℕ → ℕ → RunParts
with_more_room run spare room = record run { machine = with_spare run.machine spare; journal = record run.journal { room = room } }

same_run : (old new : RunParts) → SameRun old new → new ≡ with_more_room old new.machine.encls.handles.spare new.journal.room
unfolding with_room with_more_room
same_run old new same =
    let n = new.machine.encls.handles.spare in
    let room = new.journal.room in
    ap (λ (machine : Parts). record new { machine = machine }) same.machine
    ∙ ap (λ (journal : Journal). record new { machine = with_spare old.machine n; journal = journal }) (same_lists old.journal new.journal same.journal)
    ∙ ap (λ (count : ℕ). record new { machine = with_spare old.machine n; journal = record old.journal { room = room }; count = count }) same.count
    ∙ ap (λ (queue : List ℕ). record new { machine = with_spare old.machine n; journal = record old.journal { room = room }; count = old.count; queue = queue }) same.queue
    ∙ ap (λ (marks : Marks). record new { machine = with_spare old.machine n; journal = record old.journal { room = room }; count = old.count; queue = old.queue; marks = marks }) same.marks

still_faithful : (image : List ℕ) (run : RunParts) (spare room : ℕ) → Faithful image run → Faithful image (with_more_room run spare room)
unfolding with_more_room
still_faithful image run spare room f = record {
  past = f.past;
  state = f.state;
  machine = same_state run.machine spare f.state f.machine;
  keeps = record {
    has = record { moved = f.keeps.has.moved; moves_are = f.keeps.has.moves_are; answers_are = f.keeps.has.answers_are; outputs_are = f.keeps.has.outputs_are };
    keeps = record { outcomes = f.keeps.keeps.outcomes; named = f.keeps.keeps.named; stop_is = f.keeps.keeps.stop_is };
  };
  names = f.names;
  count = f.count;
  queue = f.queue;
  marks = f.marks;
}

-- the run that differs in these alone is faithful to the same images
pub same_faithful : (image : List ℕ) (old new : RunParts) → SameRun old new → Faithful image old → Faithful image new
same_faithful image old new same f =
    subst (Faithful image) (sym (same_run old new same)) (still_faithful image old new.machine.encls.handles.spare new.journal.room f)
