-- A leaf of the kernel.
use Rattle.std.proofs.Common.{◌≡◌, ℕ, Bool, true, false, refl, ap, sym, ◌∙◌, subst, arith}
use Rattle.ak_core.specs.Layout.{Layout}
use Rattle.ak_core.specs.declared.moves.Answer.{Answer}
use Rattle.ak_core.specs.declared.moves.Move.{Move}
use Rattle.ak_core.specs.declared.moves.Move.TheVariants.{Discard, Eblock, Eldb, Eldu, Epa, Eremove, Etrack, Ewb, Run}
use Rattle.ak_model.specs.Control.LeafRows.{is_leaf, leaf_row}
use Rattle.ak_model.specs.Kernels.Repeats.{is_done}
use Rattle.ak_model.specs.Paging.Holdings.{Mapping}
use Rattle.ak_relation.proofs.Leaves.LeafDoes.{does_moves}
use Rattle.ak_relation.proofs.Leaves.LeafMoves.{leaf_refused}
use Rattle.ak_relation.specs.Premises.LeafDoes.{DoesLeaf}
use Rattle.ak_relation.specs.Relation.Causes.{is_run}
use Rattle.ak_relation.specs.State.MachineState.{Processor, State}
use Rattle.ak_relation.specs.State.MachineView.{view_in}
use Rattle.ak_encls.specs.Answering.{KeepsRest}
use Rattle.ak_encls.specs.Enclave.{Enclave}
use Rattle.ak_encls.specs.Paging.{IsPaging, LeadsTo}
use Rattle.ak_enclu.specs.Machines.{IsProcessor}
use Rattle.ak_machine.specs.Machines.{IsState, Parts}
use Rattle.ak_machine.specs.Moves.{Moves, MovesTo, plainly}
use Rattle.ak_machine.proofs.Plain.{plain_moves}

-- what no leaf changes of a machine
record LeafStays (old new : State) : Type 0 where
  table : new.table ≡ old.table
  processors : new.processors ≡ old.processors
  count : new.count ≡ old.count

leaf_stays : (old new : State) (m : Move) → is_leaf m ≡ true → DoesLeaf old new m → LeafStays old new
leaf_stays old new (Eblock f) leaf d = record { table = ap (λ (s : State). s.table) d.others; processors = ap (λ (s : State). s.processors) d.others; count = ap (λ (s : State). s.count) d.others }
leaf_stays old new Etrack leaf d = record { table = ap (λ (s : State). s.table) d; processors = ap (λ (s : State). s.processors) d; count = ap (λ (s : State). s.count) d }
leaf_stays old new (Ewb f va i) leaf d = record { table = d.table; processors = d.processors; count = d.count }
leaf_stays old new (Eldu f k p va i) leaf d = record { table = d.table; processors = d.processors; count = d.count }
leaf_stays old new (Eldb f k p va i) leaf d = record { table = d.table; processors = d.processors; count = d.count }
leaf_stays old new (Eremove f) leaf d = record { table = ap (λ (s : State). s.table) d.others; processors = ap (λ (s : State). s.processors) d.others; count = ap (λ (s : State). s.count) d.others }
leaf_stays old new (Epa f) leaf d = record { table = d.table; processors = d.processors; count = d.count }
leaf_stays old new (Discard k) leaf d = record { table = ap (λ (s : State). s.table) d; processors = ap (λ (s : State). s.processors) d; count = ap (λ (s : State). s.count) d }
leaf_stays old new _ leaf d = absurd (cc)

no_run_leaf : (m : Move) (a : Answer) → is_leaf m ≡ true → is_run m a ≡ false
no_run_leaf (Run lp n) a leaf = absurd (cc)
no_run_leaf _ a leaf = refl

module _ (parts : Parts) (m : Move) (a : Answer) (encls : Enclave) (leaf : is_leaf m ≡ true)
    (row : (layout : Layout) (state : State) → IsPaging layout parts.encls state → a ≡ leaf_row (view_in layout state) m)
    (refused : is_done a ≡ false → encls ≡ parts.encls)
    (done : is_done a ≡ true → (layout : Layout) (state : State) → IsPaging layout parts.encls state → LeadsTo layout state m encls)
    (rest : KeepsRest parts.encls encls a) where
  abbrev after : Parts
  after = record parts { encls = encls }

  led : (state : State) → IsState parts state → LeadsTo parts.layout state m encls → is_done a ≡ true → MovesTo parts.layout state m (plainly a) after
  led state machine to is_so =
      let stay = leaf_stays state to.state m leaf to.does in
      plain_moves parts.layout state to.state m a after
      (record {
        paging = to.paging;
        mapped = λ p low. ap (λ (t : ℕ → Mapping). t p) stay.table ∙ machine.mapped p low;
        processors = record {
          each = λ lp cpu at.
              let was = machine.processors.each lp cpu at in
              (was.0, subst (λ (q : ℕ → Processor). IsProcessor cpu (q lp)) (sym stay.processors) was.1);
          no_more = λ lp many. ap (λ (q : ℕ → Processor). (q lp).inside) stay.processors ∙ machine.processors.no_more lp many;
        };
      })
      stay.count (no_run_leaf m a leaf) (does_moves parts.layout state to.state m a leaf is_so (sym (row parts.layout state machine.paging)) to.does)

  moved : (state : State) → IsState parts state → (b : Bool) → is_done a ≡ b → MovesTo parts.layout state m (plainly a) after
  moved state machine true is_so = led state machine (done is_so parts.layout state machine.paging) is_so
  moved state machine false undone =
      subst (λ (e : Enclave). MovesTo parts.layout state m (plainly a) (record parts { encls = e })) (sym (refused undone))
      (plain_moves parts.layout state state m a parts machine refl (no_run_leaf m a leaf)
      (leaf_refused parts.layout state m a leaf undone (sym (row parts.layout state machine.paging))))

  pub leaf_made : Moves parts m (plainly a) after
  leaf_made = record {
    layout = refl;
    each = refl;
    sized = refl;
    moved = λ state machine. moved state machine (is_done a) refl;
    refused = λ undone. ap (λ (e : Enclave). record parts { encls = e }) (refused undone);
    counts = record { spare = rest.spare; given = rest.given; cycles = rest.cycles; measure = rest.measure };
    few = omega arith;
  }
