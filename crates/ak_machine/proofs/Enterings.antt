-- Entering and resuming.
use Rattle.std.proofs.Common.{◌≡◌, ℕ, zero, suc, ◌+◌, ◌-◌, ◌*◌, ◌^◌, ◌<◌, ◌≤◌, Bool, true, false, not, ◌&&◌, List, [], ◌∷◌, set, nat_lt, ◌==◌, if◌then◌else◌, refl, ap, sym, ◌∙◌, subst, arith}
use Rattle.std.proofs.lemmas.Bool.Decides.{nat_tests}
use Rattle.std.proofs.lemmas.List.{length-set}
use Rattle.std.proofs.lemmas.Bool.{eqb-false}
use Rattle.std.proofs.lemmas.Option.{same_Some}
use Rattle.std.specs.List.{list_any, range_with_len}
use Rattle.std.specs.Prelude.{None, Some, slice_get}
use Rattle.ak_core.specs.Layout.{Layout}
use Rattle.ak_core.specs.declared.moves.Answer.{Answer}
use Rattle.ak_core.specs.declared.moves.Answer.TheVariants.{Ok, NoLp, Gp, Pending, SsaFault}
use Rattle.ak_core.specs.declared.moves.Move.{Move}
use Rattle.ak_core.specs.declared.moves.Move.TheVariants.{Eenter, Eresume}
use Rattle.ak_core.specs.declared.page.Lp.{Lp}
use Rattle.ak_epcm.specs.Entries.{entry_at, has_page}
use Rattle.ak_model.specs.Kernels.Repeats.{is_done}
use Rattle.ak_model.specs.Flat.Instructions.{number_at}
use Rattle.ak_model.specs.Paging.Histories.{History}
use Rattle.ak_model.specs.Paging.Inside.{processors}
use Rattle.ak_model.specs.Paging.Pages.{code_page, ssa_page, tcs_page}
use Rattle.ak_pte.specs.Table.{pte_at}
use Rattle.ak_walk.proofs.Bridge.{tcs_walk_finds-has_page}
use Rattle.ak_relation.proofs.Entering.EnterMoves.{enter_moves, enter_refused, resume_moves, resume_refused}
use Rattle.ak_relation.specs.Bytes.Pages.{IsTcs, flag_number}
use Rattle.ak_relation.specs.Premises.EnterRows.{enter_row, resume_row, saved_in}
use Rattle.ak_relation.specs.Premises.Entering.{EntersAt}
use Rattle.ak_relation.specs.Premises.Resuming.{ResumesAt}
use Rattle.ak_relation.specs.Relation.Does.{IsMove}
use Rattle.ak_relation.specs.State.MachineState.{State}
use Rattle.ak_relation.specs.State.Tables.{TablesStand}
use Rattle.ak_ssa.specs.SavedRegisters.{area_regs}
use Rattle.ak_track.specs.Steps.{TrackStep, EntersBy}
use Rattle.ak_track.specs.Tracking.{HoldsSteps, Marks}
use Rattle.ak_encls.specs.Enclave.{Enclave, frame_at}
use Rattle.ak_enclu.proofs.Entered.{entered, resumed}
use Rattle.ak_enclu.proofs.Rows.{bytes_same, enters_by_row, resumes_by_row}
use Rattle.ak_enclu.specs.EnterAnswers.{area_page, enter_answer, enter_area, finds_area, finds_tcs, held_at, resume_answer, resume_area, unless_outside}
use Rattle.ak_enclu.specs.Machines.{LeadsToWhere}
use Rattle.ak_enclu.specs.Passing.{EntersTo, inside_with, tcs_at}
use Rattle.ak_enclu.specs.Processors.{entry_regs_at}
use Rattle.ak_enclu.specs.TcsBytes.{pending_of, saved_of, with_pending, with_saved}
use Rattle.ak_enclu.specs.declared.cpu.Cpu.{Cpu}
use Rattle.ak_memory.specs.declared.memory.Memory.{Memory}
use Rattle.ak_pte.specs.declared.table.Pte.{Pte}
use Rattle.ak_machine.specs.declared.applied.Applied.{Applied}
use Rattle.ak_machine.specs.Machines.{IsSound, IsState, Parts}
use Rattle.ak_machine.specs.Moves.{Moves, MovesTo, plainly}
use Rattle.ak_machine.proofs.Held.{few_saved, frames_stand, says_flag}
use Rattle.ak_machine.proofs.Plain.{counts_none, plain_moves, stays}
use Rattle.ak_machine.proofs.Processors.{numbered, one_machine, others_inside, replaced}
use Rattle.ak_machine.proofs.Runs.{own_low}

-- a step by which a processor enters begins no cycle
entered_cycles : (old new : Marks) (lps lp : ℕ) (steps : List TrackStep) → HoldsSteps old lps steps → HoldsSteps new lps (EntersBy lp ∷ steps) → new.cycles ≡ old.cycles
entered_cycles old new lps lp steps before after = sym after.count ∙ before.count

-- what was answered Ok found the TCS
unless_found : (inside found busy : Bool) (a : Answer) → unless_outside inside found busy a ≡ Ok → (found ≡ true) × (a ≡ Ok)
unless_found true found busy a is = absurd (cc)
unless_found false false busy a is = absurd (cc)
unless_found false true true a is = absurd (cc)
unless_found false true false a is = (refl, is)

-- what was done was answered Ok
outside_done : (inside found busy : Bool) (a : Answer) → (is_done a ≡ true → a ≡ Ok) → is_done (unless_outside inside found busy a) ≡ true → unless_outside inside found busy a ≡ Ok
outside_done true found busy a ok done = absurd (cc)
outside_done false false busy a ok done = absurd (cc)
outside_done false true true a ok done = absurd (cc)
outside_done false true false a ok done = ok done

enter_done : (full walked : Bool) → is_done (if full then Gp else (if not walked then SsaFault else Ok)) ≡ true → (if full then Gp else (if not walked then SsaFault else Ok)) ≡ Ok
enter_done true walked done = absurd (cc)
enter_done false true done = refl
enter_done false false done = absurd (cc)

resume_done : (none pending walked : Bool) → is_done (if none then Gp else (if pending then Pending else (if not walked then SsaFault else Ok))) ≡ true →
    (if none then Gp else (if pending then Pending else (if not walked then SsaFault else Ok))) ≡ Ok
resume_done true pending walked done = absurd (cc)
resume_done false true walked done = absurd (cc)
resume_done false false true done = refl
resume_done false false false done = absurd (cc)

-- an entering that is done has an area, and a resuming a context that it may resume
enter_not_full : (full walked : Bool) → (if full then Gp else (if not walked then SsaFault else Ok)) ≡ Ok → full ≡ false
enter_not_full true walked is = absurd (cc)
enter_not_full false walked is = refl

resume_may : (none pending walked : Bool) → (if none then Gp else (if pending then Pending else (if not walked then SsaFault else Ok))) ≡ Ok → (none ≡ false) × (pending ≡ false)
resume_may true pending walked is = absurd (cc)
resume_may false true walked is = absurd (cc)
resume_may false false walked is = (refl, refl)

-- a byte that is 0 or 1, and not 1
unflagged : (flag : Bool) (n : ℕ) → n ≡ flag_number flag → (n == 1) ≡ false → n ≡ flag_number false
unflagged true n is other = absurd (let clash : true ≡ false = sym (ap (λ i. i == 1) is) ∙ other in cc)
unflagged false n is other = is

two_at_most : (n : ℕ) → n ≤ 3 → (n ≡ 3 → ⊥) → n ≤ 2
two_at_most zero few other = omega arith
two_at_most (suc zero) few other = omega arith
two_at_most (suc (suc zero)) few other = omega arith
two_at_most (suc (suc (suc zero))) few other = absurd (other refl)
two_at_most (suc (suc (suc (suc n)))) few other = absurd (omega arith)

positive : (n : ℕ) → (n ≡ 0 → ⊥) → 0 < n
positive zero other = absurd (other refl)
positive (suc n) other = omega arith

-- a processor that is put back
put_back : (xs : List Cpu) (i : ℕ) (c : Cpu) → slice_get xs i ≡ Some c → set xs i c ≡ xs
put_back [] i c at = refl
put_back (x ∷ xs) zero c at = ap (λ (y : Cpu). y ∷ xs) (sym (same_Some x c at))
put_back (x ∷ xs) (suc i) c at = ap (λ ys. x ∷ ys) (put_back xs i c at)

-- what EENTER and ERESUME leave, by the page of the TCS and of the code
pub record EnterFacts (layout : Layout) (cpu : Cpu) (v : ℕ) (busy : Bool) (a : Answer) (c : Cpu) (new old : Enclave) (table : List Pte) (t code : ℕ) : Type 0 where
  pub row : a ≡ enter_answer old.entries table t (tcs_at old table t) cpu.inside busy
  pub same_cpu : is_done a ≡ false → c ≡ cpu
  pub same_encls : is_done a ≡ false → new ≡ old
  pub cpu_is : is_done a ≡ true → c ≡ inside_with cpu (entry_regs_at (layout.base + 4096 * code) (saved_of (tcs_at old table t)) v) (held_at table t (saved_of (tcs_at old table t)))
  pub to : is_done a ≡ true → EntersTo cpu.lp.0 (pte_at table t).frame.0 (with_pending false (tcs_at old table t)) old new

pub record ResumeFacts (cpu : Cpu) (busy : Bool) (a : Answer) (c : Cpu) (new old : Enclave) (table : List Pte) (t : ℕ) : Type 0 where
  pub row : a ≡ resume_answer old.entries table t (tcs_at old table t) cpu.inside busy
  pub same_cpu : is_done a ≡ false → c ≡ cpu
  pub same_encls : is_done a ≡ false → new ≡ old
  pub cpu_is : is_done a ≡ true → c ≡ inside_with cpu (area_regs (frame_at old.frames (pte_at table (area_page t (saved_of (tcs_at old table t) - 1))).frame.0))
      (held_at table t (saved_of (tcs_at old table t) - 1))
  pub to : is_done a ≡ true → EntersTo cpu.lp.0 (pte_at table t).frame.0 (with_saved (saved_of (tcs_at old table t) - 1) (tcs_at old table t)) old new

-- ---- No such processor

module _ (parts : Parts) (s : IsSound parts) where
  module _ (lp : Lp) (none : parts.layout.lps ≤ lp.0) where
    unknown : nat_lt lp.0 parts.layout.lps ≡ false
    unknown = grind (arith, nat_tests, none)

    pub no_enter : (v : ℕ) → Moves parts (Eenter lp v) (plainly NoLp) parts
    no_enter v = stays parts (Eenter lp v) NoLp refl (λ state machine. enter_refused parts.layout state lp v NoLp refl (by_lp state))
      where
        by_lp : (state : State) → enter_row parts.layout state lp.0 ≡ NoLp
        by_lp state = rw (unknown) refl

    pub no_resume : Moves parts (Eresume lp) (plainly NoLp) parts
    no_resume = stays parts (Eresume lp) NoLp refl (λ state machine. resume_refused parts.layout state lp NoLp refl (by_lp state))
      where
        by_lp : (state : State) → resume_row parts.layout state lp.0 ≡ NoLp
        by_lp state = rw (unknown) refl

  -- ---- A processor that there is

  -- nothing was changed
  unchanged : (lp : Lp) (cpu : Cpu) → slice_get parts.cpus lp.0 ≡ Some cpu → (c : Cpu) (encls : Enclave) (m : Move) (applied : Applied) → c ≡ cpu → encls ≡ parts.encls →
      Moves parts m applied parts → Moves parts m applied (record parts { encls = encls; cpus = set parts.cpus lp.0 c })
  unchanged lp cpu at c encls m applied same_cpu same_encls moves =
      let back : set parts.cpus lp.0 c ≡ parts.cpus = ap (λ (x : Cpu). set parts.cpus lp.0 x) same_cpu ∙ put_back parts.cpus lp.0 cpu at in
      subst (λ (e : Enclave). Moves parts m applied (record parts { encls = e; cpus = set parts.cpus lp.0 c })) (sym same_encls)
      (subst (λ (cs : List Cpu). Moves parts m applied (record parts { cpus = cs })) (sym back) moves)

  -- an entering counts nothing
  entered_counts : (lp : Lp) (cpu : Cpu) → slice_get parts.cpus lp.0 ≡ Some cpu → (encls : Enclave) (f : ℕ) (bytes : List ℕ) → EntersTo cpu.lp.0 f bytes parts.encls encls → (m : Move) (c : Cpu) →
      ((state : State) → IsState parts state → MovesTo parts.layout state m (plainly Ok) (record parts { encls = encls; cpus = set parts.cpus lp.0 c })) →
      Moves parts m (plainly Ok) (record parts { encls = encls; cpus = set parts.cpus lp.0 c })
  entered_counts lp cpu at encls f bytes to m c moved =
      let w = s.somewhere in
      let cycles = entered_cycles parts.encls.track encls.track parts.layout.lps cpu.lp.0 w.state.track w.machine.paging.track
      (to.track parts.layout.lps w.state.track w.machine.paging.track) in
      record {
        layout = refl;
        each = length-set parts.cpus lp.0 c;
        sized = refl;
        moved = moved;
        refused = λ undone. absurd (cc);
        counts = counts_none parts.encls encls Ok refl (ap (λ (e : Enclave). e.handles) to.leaves) cycles (ap (λ (e : Enclave). e.measure) to.leaves);
        few = omega arith;
      }

  abbrev tcs : ℕ
  tcs = tcs_page parts.layout

  abbrev bytes : List ℕ
  bytes = tcs_at parts.encls parts.table tcs

  -- the TCS that is found has three saved contexts at most
  finds_page : finds_tcs parts.encls.entries parts.table tcs ≡ true → has_page (entry_at parts.encls.entries (pte_at parts.table tcs).frame.0) tcs ≡ true
  finds_page found = tcs_walk_finds-has_page (pte_at parts.table tcs).flags (entry_at parts.encls.entries (pte_at parts.table tcs).frame.0) tcs found

  found_few : finds_tcs parts.encls.entries parts.table tcs ≡ true → saved_of bytes ≤ 3
  found_few found = few_saved parts s (pte_at parts.table tcs).frame.0 (finds_page found)

  module _ (lp : Lp) (cpu : Cpu) (at : slice_get parts.cpus lp.0 ≡ Some cpu) (busy : Bool)
      (busy_is : busy ≡ list_any (λ (c : Cpu). c.inside && not (c.lp.0 == lp.0)) parts.cpus) where
    low : cpu.lp.0 < parts.layout.lps
    low = own_low parts s lp cpu at

    busy_here : (state : State) → IsState parts state → busy ≡ list_any (λ q. (state.processors q).inside && not (q == cpu.lp.0)) (processors parts.layout)
    busy_here state machine =
        busy_is
        ∙ others_inside parts state lp.0 machine
        ∙ ap (λ n. list_any (λ q. (state.processors q).inside && not (q == lp.0)) (range_with_len 0 n)) s.each
        ∙ ap (λ (p : Lp). list_any (λ q. (state.processors q).inside && not (q == p.0)) (processors parts.layout)) (sym (numbered parts lp cpu at state machine))

    -- the machine afterwards
    abbrev after : Cpu → Enclave → Parts
    after c e = record parts { encls = e; cpus = set parts.cpus lp.0 c }

    -- ---- EENTER

    module _ (v : ℕ) (word : v < 2 ^ 64) (a : Answer) (row : a ≡ enter_answer parts.encls.entries parts.table tcs bytes cpu.inside busy) where
      row_here : (state : State) → IsState parts state → (past : History) → TablesStand parts.layout past state → enter_row parts.layout state cpu.lp.0 ≡ a
      row_here state machine past h =
          sym (enters_by_row parts.layout past state cpu parts.table parts.encls h (one_machine parts lp cpu at state machine) low found_few)
          ∙ ap (λ b. enter_answer parts.encls.entries parts.table tcs bytes cpu.inside b) (sym (busy_here state machine))
          ∙ sym row

      -- refused
      enter_refuses : is_done a ≡ false → Moves parts (Eenter lp v) (plainly a) parts
      enter_refuses undone = stays parts (Eenter lp v) a undone (λ state machine.
          subst (λ (q : Lp). IsMove parts.layout state state (Eenter q v) a None) (numbered parts lp cpu at state machine)
          (λ image past control turns st. enter_refused parts.layout state cpu.lp v a undone (row_here state machine past st.tables) image past control turns st))

      -- done
      module _ (encls : Enclave) (ok : a ≡ Ok)
          (to : EntersTo cpu.lp.0 (pte_at parts.table tcs).frame.0 (with_pending false bytes) parts.encls encls) where
        abbrev entering : Cpu
        entering = inside_with cpu (entry_regs_at (parts.layout.base + 4096 * code_page parts.layout) (saved_of bytes) v) (held_at parts.table tcs (saved_of bytes))

        area_left : saved_of bytes ≤ 2
        area_left =
            let found = unless_found cpu.inside (finds_tcs parts.encls.entries parts.table tcs) busy (enter_area parts.encls.entries parts.table tcs bytes) (sym row ∙ ok) in
            let few = found_few found.0 in
            let not_three = eqb-false (saved_of bytes) 3 (enter_not_full (saved_of bytes == 3) (finds_area parts.encls.entries parts.table (area_page tcs (saved_of bytes))) found.1) in
            two_at_most (saved_of bytes) few not_three

        made : (state : State) → IsState parts state → LeadsToWhere parts.layout entering parts.table encls (EntersAt parts.layout cpu.lp.0 (saved_of bytes) v state)
        made state machine =
            entered parts.layout state cpu parts.table parts.encls encls (frames_stand parts s state machine) (one_machine parts lp cpu at state machine) v area_left to

        enters : (state : State) (machine : IsState parts state) → IsMove parts.layout state (made state machine).state (Eenter cpu.lp v) Ok None
        enters state machine image past control turns st =
            let saved_same : saved_of bytes ≡ saved_in parts.layout state =
            ap saved_of (bytes_same parts.layout past state cpu parts.table parts.encls st.tables (one_machine parts lp cpu at state machine)) in
            enter_moves parts.layout state cpu.lp (made state machine).state v word (row_here state machine past st.tables ∙ ok)
            (subst (λ (n : ℕ). EntersAt parts.layout cpu.lp.0 n v state (made state machine).state) saved_same (made state machine).does) image past control turns st

        enter_to : (state : State) → IsState parts state → MovesTo parts.layout state (Eenter lp v) (plainly Ok) (after entering encls)
        enter_to state machine =
            let m = made state machine in
            let number = numbered parts lp cpu at state machine in
            plain_moves parts.layout state m.state (Eenter lp v) Ok (after entering encls)
            (replaced parts lp cpu at state machine entering encls m.state m.machine refl (λ q other. m.does.others q (ap (λ (i : Lp). q == i.0) number ∙ other)))
            m.does.count refl (subst (λ (q : Lp). IsMove parts.layout state m.state (Eenter q v) Ok None) number (enters state machine))

        enter_made : Moves parts (Eenter lp v) (plainly Ok) (after entering encls)
        enter_made = entered_counts lp cpu at encls (pte_at parts.table tcs).frame.0 (with_pending false bytes) to (Eenter lp v) entering enter_to

      pub enter_moved : (c : Cpu) (encls : Enclave) → (is_done a ≡ false → c ≡ cpu) → (is_done a ≡ false → encls ≡ parts.encls) →
          (is_done a ≡ true → c ≡ inside_with cpu (entry_regs_at (parts.layout.base + 4096 * code_page parts.layout) (saved_of bytes) v) (held_at parts.table tcs (saved_of bytes))) →
          (is_done a ≡ true → EntersTo cpu.lp.0 (pte_at parts.table tcs).frame.0 (with_pending false bytes) parts.encls encls) →
          Moves parts (Eenter lp v) (plainly a) (after c encls)
      enter_moved c encls same_cpu same_encls cpu_is to = by_answer (is_done a) refl
        where
          by_answer : (b : Bool) → is_done a ≡ b → Moves parts (Eenter lp v) (plainly a) (after c encls)
          by_answer false undone = unchanged lp cpu at c encls (Eenter lp v) (plainly a) (same_cpu undone) (same_encls undone) (enter_refuses undone)
          by_answer true is_so =
              let ok : a ≡ Ok =
              row ∙ outside_done cpu.inside (finds_tcs parts.encls.entries parts.table tcs) busy (enter_area parts.encls.entries parts.table tcs bytes)
              (enter_done (saved_of bytes == 3) (finds_area parts.encls.entries parts.table (area_page tcs (saved_of bytes)))) (subst (λ x. is_done x ≡ true) row is_so) in
              subst (λ (x : Answer). Moves parts (Eenter lp v) (plainly x) (after c encls)) (sym ok)
              (subst (λ (x : Cpu). Moves parts (Eenter lp v) (plainly Ok) (after x encls)) (sym (cpu_is is_so)) (enter_made encls ok (to is_so)))

    -- ---- ERESUME

    module _ (a : Answer) (row : a ≡ resume_answer parts.encls.entries parts.table tcs bytes cpu.inside busy) where
      resume_here : (state : State) → IsState parts state → (past : History) → TablesStand parts.layout past state → resume_row parts.layout state cpu.lp.0 ≡ a
      resume_here state machine past h =
          sym (resumes_by_row parts.layout past state cpu parts.table parts.encls h (one_machine parts lp cpu at state machine) low found_few)
          ∙ ap (λ b. resume_answer parts.encls.entries parts.table tcs bytes cpu.inside b) (sym (busy_here state machine))
          ∙ sym row

      resume_refuses : is_done a ≡ false → Moves parts (Eresume lp) (plainly a) parts
      resume_refuses undone = stays parts (Eresume lp) a undone (λ state machine.
          subst (λ (q : Lp). IsMove parts.layout state state (Eresume q) a None) (numbered parts lp cpu at state machine)
          (λ image past control turns st. resume_refused parts.layout state cpu.lp a undone (resume_here state machine past st.tables) image past control turns st))

      module _ (encls : Enclave) (ok : a ≡ Ok)
          (to : EntersTo cpu.lp.0 (pte_at parts.table tcs).frame.0 (with_saved (saved_of bytes - 1) bytes) parts.encls encls) where
        abbrev resuming : Cpu
        resuming =
            inside_with cpu (area_regs (frame_at parts.encls.frames (pte_at parts.table (ssa_page parts.layout (saved_of bytes - 1))).frame.0))
            (held_at parts.table tcs (saved_of bytes - 1))

        found_ok : (finds_tcs parts.encls.entries parts.table tcs ≡ true) × (resume_area parts.encls.entries parts.table tcs bytes ≡ Ok)
        found_ok = unless_found cpu.inside (finds_tcs parts.encls.entries parts.table tcs) busy (resume_area parts.encls.entries parts.table tcs bytes) (sym row ∙ ok)

        may : ((saved_of bytes == 0) ≡ false) × (pending_of bytes ≡ false)
        may = resume_may (saved_of bytes == 0) (pending_of bytes) (finds_area parts.encls.entries parts.table (area_page tcs (saved_of bytes - 1))) found_ok.1

        some : 0 < saved_of bytes
        some = positive (saved_of bytes) (eqb-false (saved_of bytes) 0 may.0)

        says : IsTcs (saved_of bytes) false bytes
        says =
            let flag = says_flag parts s (pte_at parts.table tcs).frame.0 (finds_page found_ok.0) in
            record { saved_is = refl; pending_is = unflagged s.somewhere.control.pending (number_at bytes 72 1) flag.pending_is may.1 }

        back : (state : State) → IsState parts state → LeadsToWhere parts.layout resuming parts.table encls (ResumesAt parts.layout cpu.lp.0 (saved_of bytes - 1) state)
        back state machine =
            resumed parts.layout state cpu parts.table parts.encls encls (frames_stand parts s state machine) (one_machine parts lp cpu at state machine) says
            (found_few found_ok.0) some to

        resumes : (state : State) (machine : IsState parts state) → IsMove parts.layout state (back state machine).state (Eresume cpu.lp) Ok None
        resumes state machine image past control turns st =
            let saved_same : saved_of bytes ≡ saved_in parts.layout state =
            ap saved_of (bytes_same parts.layout past state cpu parts.table parts.encls st.tables (one_machine parts lp cpu at state machine)) in
            resume_moves parts.layout state cpu.lp (back state machine).state (resume_here state machine past st.tables ∙ ok)
            (subst (λ (n : ℕ). ResumesAt parts.layout cpu.lp.0 (n - 1) state (back state machine).state) saved_same (back state machine).does) image past control turns st

        resume_to : (state : State) → IsState parts state → MovesTo parts.layout state (Eresume lp) (plainly Ok) (after resuming encls)
        resume_to state machine =
            let m = back state machine in
            let number = numbered parts lp cpu at state machine in
            plain_moves parts.layout state m.state (Eresume lp) Ok (after resuming encls)
            (replaced parts lp cpu at state machine resuming encls m.state m.machine refl (λ q other. m.does.others q (ap (λ (i : Lp). q == i.0) number ∙ other)))
            m.does.count refl (subst (λ (q : Lp). IsMove parts.layout state m.state (Eresume q) Ok None) number (resumes state machine))

        resume_made : Moves parts (Eresume lp) (plainly Ok) (after resuming encls)
        resume_made = entered_counts lp cpu at encls (pte_at parts.table tcs).frame.0 (with_saved (saved_of bytes - 1) bytes) to (Eresume lp) resuming resume_to

      pub resume_moved : (c : Cpu) (encls : Enclave) → (is_done a ≡ false → c ≡ cpu) → (is_done a ≡ false → encls ≡ parts.encls) →
          (is_done a ≡ true → c ≡ inside_with cpu (area_regs (frame_at parts.encls.frames (pte_at parts.table (ssa_page parts.layout (saved_of bytes - 1))).frame.0))
          (held_at parts.table tcs (saved_of bytes - 1))) →
          (is_done a ≡ true → EntersTo cpu.lp.0 (pte_at parts.table tcs).frame.0 (with_saved (saved_of bytes - 1) bytes) parts.encls encls) →
          Moves parts (Eresume lp) (plainly a) (after c encls)
      resume_moved c encls same_cpu same_encls cpu_is to = by_answer (is_done a) refl
        where
          by_answer : (b : Bool) → is_done a ≡ b → Moves parts (Eresume lp) (plainly a) (after c encls)
          by_answer false undone = unchanged lp cpu at c encls (Eresume lp) (plainly a) (same_cpu undone) (same_encls undone) (resume_refuses undone)
          by_answer true is_so =
              let ok : a ≡ Ok =
              row ∙ outside_done cpu.inside (finds_tcs parts.encls.entries parts.table tcs) busy (resume_area parts.encls.entries parts.table tcs bytes)
              (resume_done (saved_of bytes == 0) (pending_of bytes) (finds_area parts.encls.entries parts.table (area_page tcs (saved_of bytes - 1))))
              (subst (λ x. is_done x ≡ true) row is_so) in
              subst (λ (x : Answer). Moves parts (Eresume lp) (plainly x) (after c encls)) (sym ok)
              (subst (λ (x : Cpu). Moves parts (Eresume lp) (plainly Ok) (after x encls)) (sym (cpu_is is_so)) (resume_made encls ok (to is_so)))

    -- ---- Over a memory whose parts are those

    module _ (mid : Memory) (same_encls : mid.encls ≡ parts.encls) (same_table : mid.table ≡ parts.table) (a : Answer) (c : Cpu) (encls : Enclave) (t : ℕ) (is_tcs : t ≡ tcs) where
      abbrev ended : Parts
      ended = record { layout = parts.layout; encls = encls; table = mid.table; cpus = set parts.cpus lp.0 c }

      pub enter_all : (v : ℕ) → v < 2 ^ 64 → (code : ℕ) → code ≡ code_page parts.layout →
          EnterFacts parts.layout cpu v busy a c encls mid.encls mid.table t code → Moves parts (Eenter lp v) (plainly a) ended
      enter_all v word code is_code facts =
          let here : EnterFacts parts.layout cpu v busy a c encls parts.encls parts.table tcs (code_page parts.layout) =
          subst (λ (e : Enclave). EnterFacts parts.layout cpu v busy a c encls e parts.table tcs (code_page parts.layout)) same_encls
          (subst (λ (l : List Pte). EnterFacts parts.layout cpu v busy a c encls mid.encls l tcs (code_page parts.layout)) same_table
          (subst (λ (i : ℕ). EnterFacts parts.layout cpu v busy a c encls mid.encls mid.table i (code_page parts.layout)) is_tcs
          (subst (λ (i : ℕ). EnterFacts parts.layout cpu v busy a c encls mid.encls mid.table t i) is_code facts))) in
          subst (λ (l : List Pte). Moves parts (Eenter lp v) (plainly a) (record { layout = parts.layout; encls = encls; table = l; cpus = set parts.cpus lp.0 c })) (sym same_table)
          (enter_moved v word a here.row c encls here.same_cpu here.same_encls here.cpu_is here.to)

      pub resume_all : ResumeFacts cpu busy a c encls mid.encls mid.table t → Moves parts (Eresume lp) (plainly a) ended
      resume_all facts =
          let here : ResumeFacts cpu busy a c encls parts.encls parts.table tcs =
          subst (λ (e : Enclave). ResumeFacts cpu busy a c encls e parts.table tcs) same_encls
          (subst (λ (l : List Pte). ResumeFacts cpu busy a c encls mid.encls l tcs) same_table
          (subst (λ (i : ℕ). ResumeFacts cpu busy a c encls mid.encls mid.table i) is_tcs facts)) in
          subst (λ (l : List Pte). Moves parts (Eresume lp) (plainly a) (record { layout = parts.layout; encls = encls; table = l; cpus = set parts.cpus lp.0 c })) (sym same_table)
          (resume_moved a here.row c encls here.same_cpu here.same_encls here.cpu_is here.to)
