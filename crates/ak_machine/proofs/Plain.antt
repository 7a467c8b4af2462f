-- A move in which no turn is made, and one that is refused.
use Rattle.std.proofs.Common.{◌≡◌, ◌+◌, false, refl, ap, ◌∙◌, arith, length}
use Rattle.std.specs.Prelude.{None}
use Rattle.ak_core.specs.Layout.{Layout}
use Rattle.ak_core.specs.declared.moves.Answer.{Answer}
use Rattle.ak_core.specs.declared.moves.Move.{Move}
use Rattle.ak_core.specs.declared.moves.Move.TheVariants.{Run}
use Rattle.ak_model.specs.Kernels.Repeats.{is_done}
use Rattle.ak_relation.proofs.Runs.NamedMoves.{other_names}
use Rattle.ak_relation.proofs.Runs.ToldMoves.{other_move}
use Rattle.ak_relation.specs.Relation.Causes.{is_run}
use Rattle.ak_relation.specs.Relation.Does.{IsMove}
use Rattle.ak_relation.specs.State.MachineState.{State}
use Rattle.ak_encls.specs.Answering.{given_by}
use Rattle.ak_encls.specs.Enclave.{Enclave}
use Rattle.ak_machine.specs.Machines.{IsState, Parts}
use Rattle.ak_machine.specs.Moves.{Counts, Moves, MovesTo, plainly}

-- what is refused gives no handle, and is no run
given_none : (a : Answer) → is_done a ≡ false → given_by a ≡ 0
given_none (Answer.OkHandle k) undone = absurd (cc)
given_none _ undone = refl

pub no_run : (m : Move) (a : Answer) → is_done a ≡ false → is_run m a ≡ false
no_run (Run lp n) (Answer.Exit exit) undone = absurd (cc)
no_run _ _ undone = refl

-- a move to a state with as many instructions completed
pub plain_moves : (layout : Layout) (old new : State) (m : Move) (a : Answer) (parts : Parts) → IsState parts new → new.count ≡ old.count → is_run m a ≡ false →
    IsMove layout old new m a None → MovesTo layout old m (plainly a) parts
plain_moves layout old new m a parts machine same none move = record {
  new = new;
  machine = machine;
  count = omega (arith, same);
  move = move;
  cause = other_names layout old new m a None none move;
  notes = other_move layout old new m a none;
}

-- nothing is counted
pub counts_none : (old new : Enclave) (a : Answer) → given_by a ≡ 0 → new.handles ≡ old.handles → new.track.cycles ≡ old.track.cycles →
    new.measure ≡ old.measure → Counts old new a
counts_none old new a none handles cycles measure = record {
  spare = ap (λ n. new.handles.spare + n) none ∙ (let same : new.handles.spare ≡ old.handles.spare = ap (λ h. h.spare) handles in omega arith);
  given = (let same : length new.handles.sealed_pages ≡ length old.handles.sealed_pages = ap (λ h. length h.sealed_pages) handles in omega (arith, none));
  cycles = omega (arith, cycles);
  measure = measure;
}

-- a refusal, after which the machine is as it was
pub stays : (parts : Parts) (m : Move) (a : Answer) → is_done a ≡ false → ((state : State) → IsState parts state → IsMove parts.layout state state m a None) →
    Moves parts m (plainly a) parts
stays parts m a undone move = record {
  layout = refl;
  each = refl;
  sized = refl;
  moved = λ state machine. plain_moves parts.layout state state m a parts machine refl (no_run m a undone) (move state machine);
  refused = λ _. refl;
  counts = counts_none parts.encls parts.encls a (given_none a undone) refl refl refl;
  few = omega arith;
}
