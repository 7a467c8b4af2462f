use Rattle.std.proofs.Common.{◌≡◌, inl, inr, ℕ, sym, subst, ◌∙◌}
use Rattle.std.specs.Prelude.{if◌then◌else◌}
use Rattle.std.proofs.lemmas.Bool.{eq-eqb}
use Rattle.ak_core.specs.declared.event.StopCause.{StopCause}
use Rattle.ak_core.specs.declared.registers.Mode.{Mode}
use Rattle.ak_pager.specs.Rows.{dying, mode_row, second_cause}
use Rattle.ak_pager.specs.StepsTo.{Performs}
use Rattle.ak_pager.specs.Effects.{AreReads}
use Rattle.ak_pager.proofs.Faults.{differs}
use Rattle.ak_pager.proofs.entry.handle_fault.Goals as goal

pub returns-then-saved-eq2-clause-row : goal.returns-then-saved-eq2-clause-row
returns-then-saved-eq2-clause-row g c r regs reads mode =
    let layout = c.args.layout.now in
    let access = c.args.access in
    let old = g.M.Mem.bytes c.args.mem.now in
    let new = g.M.Mem.bytes c.die.new.mem in
    let two : c.args.saved ≡ 2 = c.if-saved-eq2.true in
    let reads_two : AreReads layout 2 old r = subst (λ (n : ℕ). AreReads layout n old r) two reads in
    subst (λ b. Performs layout (if b then dying r 2 (second_cause layout access) else mode_row layout r access r.saved.regs.mode) old new c.die.result regs)
    (sym (eq-eqb c.args.saved 2 two))
    (subst (λ (cause : StopCause). Performs layout (dying r 2 cause) old new c.die.result regs) c.second_cause.ensures (c.die.ensures.row r regs reads_two))

pub returns-in-Runtime-clause-row : goal.returns-in-Runtime-clause-row
returns-in-Runtime-clause-row g c r regs reads mode =
    let layout = c.args.layout.now in
    let access = c.args.access in
    let old = g.M.Mem.bytes c.args.mem.now in
    let new = g.M.Mem.bytes c.die-in-Runtime.new.mem in
    let one : c.args.saved ≡ 1 = elim c.requires.saved [ inl e ↦ e | inr e ↦ absurd (c.if-saved-eq2.false e) ] in
    let reads_one : AreReads layout 1 old r = subst (λ (n : ℕ). AreReads layout n old r) one reads in
    subst (λ b. Performs layout (if b then dying r 2 (second_cause layout access) else mode_row layout r access r.saved.regs.mode) old new c.die-in-Runtime.result regs)
    (sym (differs c.args.saved 2 c.if-saved-eq2.false))
    (subst (λ (m : Mode). Performs layout (mode_row layout r access m) old new c.die-in-Runtime.result regs) (sym (mode ∙ c.in-Runtime.is)) (c.die-in-Runtime.ensures.row r regs reads_one))

pub returns-in-Program-clause-row : goal.returns-in-Program-clause-row
returns-in-Program-clause-row g c r regs reads mode =
    let layout = c.args.layout.now in
    let access = c.args.access in
    let old = g.M.Mem.bytes c.args.mem.now in
    let new = g.M.Mem.bytes c.program_fault.new.mem in
    let one : c.args.saved ≡ 1 = elim c.requires.saved [ inl e ↦ e | inr e ↦ absurd (c.if-saved-eq2.false e) ] in
    let reads_one : AreReads layout 1 old r = subst (λ (n : ℕ). AreReads layout n old r) one reads in
    subst (λ b. Performs layout (if b then dying r 2 (second_cause layout access) else mode_row layout r access r.saved.regs.mode) old new c.program_fault.result regs)
    (sym (differs c.args.saved 2 c.if-saved-eq2.false))
    (subst (λ (m : Mode). Performs layout (mode_row layout r access m) old new c.program_fault.result regs) (sym (mode ∙ c.in-Program.is)) (c.program_fault.ensures.row r regs reads_one))
