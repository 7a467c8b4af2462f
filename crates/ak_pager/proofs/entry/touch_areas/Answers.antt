use Rattle.std.proofs.Common.{◌≡◌, ◌≤◌, ℕ, zero, suc, List, [], ◌∷◌, ◌++◌, refl, ap, sym, ◌∙◌, arith}
use Rattle.std.specs.Prelude.{Some}
use Rattle.std.proofs.lemmas.Result.{err_from_is_err_and}
use Rattle.ak_core.specs.Layout.{Layout}
use Rattle.ak_core.specs.Mem.{Access, access_to}
use Rattle.ak_core.specs.declared.page.Kind.TheVariants.{Write}
use Rattle.ak_model.specs.Paging.Pages.{ssa_page}
use Rattle.ak_pager.specs.Effects.{area_accesses}
use Rattle.ak_pager.proofs.entry.touch_areas.Goals as goal

-- the first area comes first
first_area : (layout : Layout) (saved : ℕ) → 1 ≤ saved → saved ≤ 2 → (later : List Access) × (access_to (ssa_page layout 0) Write ∷ later ≡ area_accesses layout saved)
first_area layout zero low high = absurd (omega arith)
first_area layout (suc zero) low high = ([], refl)
first_area layout (suc (suc zero)) low high = (access_to (ssa_page layout 1) Write ∷ [], refl)
first_area layout (suc (suc (suc n))) low high = absurd (omega arith)

pub returns-in_err-touch_write-clause-touches : goal.returns-in_err-touch_write-clause-touches
returns-in_err-touch_write-clause-touches g c =
    let layout = c.args.layout.now in
    let touch = c.in_err-touch_write.ensures.touch in
    let rest = first_area layout c.args.saved c.if-saved-ge1.true c.requires.few in
    let before = g.M.Mem.granted c.args.mem.now in
    let after = g.M.Mem.granted c.touch_write.new.self in
    let is : c.in_err-touch_write.field-0.0 ≡ access_to (ssa_page layout 0) Write = touch.err ∙ ap (λ (p : ℕ). access_to p Write) c.area.ensures in
    let all : after ++ c.in_err-touch_write.field-0.0 ∷ rest.0 ≡ before ++ area_accesses layout c.args.saved =
    ap (λ (l : List Access). l ++ c.in_err-touch_write.field-0.0 ∷ rest.0) touch.same ∙ ap (λ (t : Access). before ++ t ∷ rest.0) is ∙ ap (λ (l : List Access). before ++ l) rest.1 in
    let refused = touch.refused_is ∙ ap Some (sym touch.err) in
    let p = err_from_is_err_and c.from_residual.result c.from_residual.ensures.1 in
    rw (p.1, p.2) (record { ok = tt; held = tt; unrefused = tt; err = (rest.0, all); refused_is = refused })
