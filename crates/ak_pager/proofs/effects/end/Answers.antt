use Rattle.std.proofs.Common.{◌≡◌, inl, inr, ℕ, sym, subst}
use Rattle.ak_model.specs.Paging.Pages.{state_page}
use Rattle.ak_pager.specs.Rows.{StateSets, AreasGuard, kept_bytes}
use Rattle.ak_pager.specs.Remembered.{phase_of}
use Rattle.ak_pager.specs.Effects.{Changes}
use Rattle.ak_pager.proofs.Changing.{guard_one, guard_two}
use Rattle.ak_pager.proofs.effects.end.Goals as goal

pub returns-then-areas-eq2-clause-changes : goal.returns-then-areas-eq2-clause-changes
returns-then-areas-eq2-clause-changes g c queue has =
    let layout = c.args.layout.now in
    let old = g.M.Mem.bytes c.args.mem.now in
    let frame = kept_bytes (old (state_page layout)) in
    let two : c.args.areas ≡ 2 = c.if-areas-eq2.true in
    subst (λ (n : ℕ). Changes layout (StateSets (phase_of c.args.phase) queue frame) (AreasGuard n) old (g.M.Mem.bytes c.guard_area-then-areas-eq2.new.mem)) (sym two)
    (guard_two layout (phase_of c.args.phase) queue frame old (g.M.Mem.bytes c.set_phase.new.mem) (g.M.Mem.bytes c.guard_area.new.mem) (g.M.Mem.bytes c.guard_area-then-areas-eq2.new.mem)
    (c.set_phase.ensures.changes queue has) c.guard_area.ensures.frame c.guard_area.ensures.others c.guard_area-then-areas-eq2.ensures.frame c.guard_area-then-areas-eq2.ensures.others)

pub returns-else-areas-eq2-clause-changes : goal.returns-else-areas-eq2-clause-changes
returns-else-areas-eq2-clause-changes g c queue has =
    let layout = c.args.layout.now in
    let old = g.M.Mem.bytes c.args.mem.now in
    let frame = kept_bytes (old (state_page layout)) in
    let one : c.args.areas ≡ 1 = elim c.requires.areas [ inl e ↦ e | inr e ↦ absurd (c.if-areas-eq2.false e) ] in
    subst (λ (n : ℕ). Changes layout (StateSets (phase_of c.args.phase) queue frame) (AreasGuard n) old (g.M.Mem.bytes c.guard_area.new.mem)) (sym one)
    (guard_one layout (phase_of c.args.phase) queue frame old (g.M.Mem.bytes c.set_phase.new.mem) (g.M.Mem.bytes c.guard_area.new.mem)
    (c.set_phase.ensures.changes queue has) c.guard_area.ensures.frame c.guard_area.ensures.others)
