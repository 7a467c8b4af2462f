-- A machine and one of its processors.
use Rattle.std.proofs.Common.{◌≡◌, ℕ, suc, ◌+◌, ◌<◌, ◌≤◌, Bool, true, false, not, ◌&&◌, ◌||◌, List, [], ◌∷◌, length, set, ◌==◌, refl, ap, sym, ◌∙◌, subst, arith, get_or-set_same, get_or-set_other}
use Rattle.std.proofs.lemmas.Bool.{eqb-false, eqb-true}
use Rattle.std.proofs.lemmas.List.{length-set}
use Rattle.std.proofs.lemmas.Option.{get_or_from_slice_get, slice_get-get_or, slice_get_within}
use Rattle.std.specs.List.{list_any, range_with_len}
use Rattle.std.specs.Prelude.{Some, slice_get}
use Rattle.ak_core.specs.declared.page.Lp.{Lp}
use Rattle.ak_relation.specs.State.MachineState.{Processor, State}
use Rattle.ak_encls.specs.Enclave.{Enclave}
use Rattle.ak_enclu.specs.Machines.{IsMachine, IsProcessor}
use Rattle.ak_enclu.specs.declared.cpu.Cpu.{Cpu}
use Rattle.ak_machine.specs.Machines.{IsState, Parts}

-- ---- An element that was set

set_there : (xs : List Cpu) (i : ℕ) (v c : Cpu) → slice_get (set xs i v) i ≡ Some c → c ≡ v
set_there xs i v c is =
    let low : i < length xs = let here = slice_get_within (set xs i v) i c is in let same = length-set xs i v in omega (arith, here, same) in
    sym (get_or_from_slice_get (set xs i v) i c v is) ∙ get_or-set_same xs i v v low

set_elsewhere : (xs : List Cpu) (i q : ℕ) (v c : Cpu) → (q == i) ≡ false → slice_get (set xs i v) q ≡ Some c → slice_get xs q ≡ Some c
set_elsewhere xs i q v c other is =
    let low : q < length xs = let here = slice_get_within (set xs i v) q c is in let same = length-set xs i v in omega (arith, here, same) in
    slice_get-get_or xs q c low
    ∙ ap (λ (x : Cpu). Some x) (sym (get_or-set_other xs i q v c (λ same. eqb-false q i other same)) ∙ get_or_from_slice_get (set xs i v) q c c is)

-- ---- One processor

module _ (parts : Parts) (lp : Lp) (cpu : Cpu) (at : slice_get parts.cpus lp.0 ≡ Some cpu) where
  pub lp_low : lp.0 < length parts.cpus
  lp_low = slice_get_within parts.cpus lp.0 cpu at

  module _ (state : State) (machine : IsState parts state) where
    -- it has its place as its number
    pub numbered : cpu.lp ≡ lp
    numbered = ap (λ (n : ℕ). record { 0 = n }) (machine.processors.each lp.0 cpu at).0

    pub same_inside : (state.processors lp.0).inside ≡ cpu.inside
    same_inside = (machine.processors.each lp.0 cpu at).1.inside

    pub one_machine : IsMachine parts.layout cpu parts.table parts.encls state
    one_machine = record {
      processor = subst (λ (q : Lp). IsProcessor cpu (state.processors q.0)) (sym numbered) (machine.processors.each lp.0 cpu at).1;
      mapped = machine.mapped;
      paging = machine.paging;
    }

    -- the machine after this processor alone and the paging part changed
    module _ (after : Cpu) (encls : Enclave) (new : State) (to : IsMachine parts.layout after parts.table encls new) (same : after.lp ≡ cpu.lp)
        (others : (q : ℕ) → (q == lp.0) ≡ false → new.processors q ≡ state.processors q) where
      its_processor : IsProcessor after (new.processors lp.0)
      its_processor = subst (λ (q : Lp). IsProcessor after (new.processors q.0)) (same ∙ numbered) to.processor

      each_at : (q : ℕ) (c : Cpu) (b : Bool) → (q == lp.0) ≡ b → slice_get (set parts.cpus lp.0 after) q ≡ Some c → (c.lp.0 ≡ q) × IsProcessor c (new.processors q)
      each_at q c true is got =
          let P : ℕ → Type 0 = λ i. slice_get (set parts.cpus lp.0 after) i ≡ Some c → (c.lp.0 ≡ i) × IsProcessor c (new.processors i) in
          let here : P lp.0 = λ g.
          subst (λ (x : Cpu). (x.lp.0 ≡ lp.0) × IsProcessor x (new.processors lp.0)) (sym (set_there parts.cpus lp.0 after c g))
          (ap (λ (l : Lp). l.0) (same ∙ numbered), its_processor) in
          subst P (sym (eqb-true q lp.0 is)) here got
      each_at q c false is got =
          let was = machine.processors.each q c (set_elsewhere parts.cpus lp.0 q after c is got) in
          (was.0, subst (IsProcessor c) (sym (others q is)) was.1)

      beyond : (q : ℕ) → length parts.cpus ≤ q → (q == lp.0) ≡ false
      beyond q many = by_test (q == lp.0) refl
        where
          by_test : (b : Bool) → (q == lp.0) ≡ b → b ≡ false
          by_test true is = absurd (let same_place = eqb-true q lp.0 is in let low = lp_low in omega (arith, same_place, low, many))
          by_test false is = refl

      pub replaced : IsState (record parts { encls = encls; cpus = set parts.cpus lp.0 after }) new
      replaced = record {
        paging = to.paging;
        mapped = to.mapped;
        processors = record {
          each = λ q c got. each_at q c (q == lp.0) refl got;
          no_more = λ q many.
              let before : length parts.cpus ≤ q = let same_length = length-set parts.cpus lp.0 after in omega (arith, many, same_length) in
              ap (λ (p : Processor). p.inside) (others q (beyond q before)) ∙ machine.processors.no_more q before;
        };
      }

-- ---- Another processor that is inside

any_from : (state : State) (lp k : ℕ) (cpus : List Cpu) →
    ((i : ℕ) (cpu : Cpu) → slice_get cpus i ≡ Some cpu → (cpu.lp.0 ≡ k + i) × ((state.processors (k + i)).inside ≡ cpu.inside)) →
    list_any (λ (cpu : Cpu). cpu.inside && not (cpu.lp.0 == lp)) cpus ≡ list_any (λ q. (state.processors q).inside && not (q == lp)) (range_with_len k (length cpus))
any_from state lp k [] each = refl
any_from state lp k (cpu ∷ cpus) each =
    let here = each 0 cpu refl in
    let first : k + 0 ≡ k = omega arith in
    let number : cpu.lp.0 ≡ k = here.0 ∙ first in
    let within : cpu.inside ≡ (state.processors k).inside = sym here.1 ∙ ap (λ q. (state.processors q).inside) first in
    ap (λ b. b || list_any (λ (c : Cpu). c.inside && not (c.lp.0 == lp)) cpus) (ap (λ b. b && not (cpu.lp.0 == lp)) within ∙ ap (λ q. (state.processors k).inside && not (q == lp)) number)
    ∙ ap (λ b. ((state.processors k).inside && not (k == lp)) || b)
    (any_from state lp (k + 1) cpus (λ i c at.
    let was = each (suc i) c at in
    let place : k + suc i ≡ k + 1 + i = omega arith in
    (was.0 ∙ place, ap (λ q. (state.processors q).inside) (sym place) ∙ was.1)))

pub others_inside : (parts : Parts) (state : State) (lp : ℕ) → IsState parts state →
    list_any (λ (cpu : Cpu). cpu.inside && not (cpu.lp.0 == lp)) parts.cpus ≡ list_any (λ q. (state.processors q).inside && not (q == lp)) (range_with_len 0 (length parts.cpus))
others_inside parts state lp machine =
    any_from state lp 0 parts.cpus (λ i c at.
    let was = machine.processors.each i c at in
    let place : i ≡ 0 + i = omega arith in
    (was.0 ∙ place, ap (λ q. (state.processors q).inside) (sym place) ∙ was.1.inside))
