use Rattle.std.proofs.Common.{◌≡◌, ℕ, List, [], ◌∷◌, ◌++◌, refl, ap, sym, subst, ◌∙◌, arith}
use Rattle.std.specs.Prelude.{Some, ◌==◌}
use Rattle.std.proofs.lemmas.Result.{err_from_is_err_and}
use Rattle.ak_core.specs.Mem.{Access, access_to}
use Rattle.ak_core.specs.declared.page.Kind.TheVariants.{Write}
use Rattle.ak_core.specs.declared.registers.Regs.{Regs}
use Rattle.ak_model.specs.Control.ControlState.{Asked}
use Rattle.ak_model.specs.Flat.Instructions.{reg_of, rcx}
use Rattle.ak_model.specs.Paging.Pages.{pages, pages_of, cluster_at, ssa_page, strong_kind}
use Rattle.ak_model.proofs.Clusters.ClusterPages.{page_low}
use Rattle.ak_pager.specs.declared.turn.RtTurn.{RtTurn}
use Rattle.ak_pager.specs.Rows.{Reads, finish_row}
use Rattle.ak_pager.specs.StepsTo.{Performs}
use Rattle.ak_pager.specs.Effects.{AreReads, first_accesses}
use Rattle.ak_pager.proofs.Probed.{few_filtered, found_some, found_none, some_within, some_is}
use Rattle.ak_pager.proofs.ProbesDone.{none_asked, page_faulted, page_probed, end_faulted, probes_ended, finish_reads}
use Rattle.ak_pager.proofs.probing.probe.Goals as goal

pub returns-in_default-clause-steps : goal.returns-in_default-clause-steps
returns-in_default-clause-steps g c =
    let layout = c.args.layout.now in
    let old = g.M.Mem.bytes c.args.mem.now in
    none_asked layout c.requires.valid c.args.regs.now (g.M.Mem.holds c.args.mem.now) old c.requires.begun.held c.requires.at c.load_phase.result c.load_phase.ensures
    old (g.M.Mem.granted c.args.mem.now) (g.M.Mem.refused c.args.mem.now) _ c.args.regs.now c.in_default.not-Asked

pub touch_strong-requires-clause-program : goal.touch_strong-requires-clause-program
touch_strong-requires-clause-program g c =
    let layout = c.args.layout.now in
    let number = reg_of c.args.regs.now rcx in
    let its = pages_of layout c.in-Asked.cluster in
    let found = found_some its number c.in-Some.page (sym c.page_of.ensures ∙ c.in-Some.is) in
    let low = page_low layout c.in-Asked.cluster number (some_within its number c.in-Some.page.0 found) in
    let is = some_is its number c.in-Some.page.0 found in
    omega (arith, low, is)

pub returns-in_err-touch_strong-in-Some-clause-steps : goal.returns-in_err-touch_strong-in-Some-clause-steps
returns-in_err-touch_strong-in-Some-clause-steps g c =
    let layout = c.args.layout.now in
    let number = reg_of c.args.regs.now rcx in
    let its = pages_of layout c.in-Asked.cluster in
    let found = found_some its number c.in-Some.page (sym c.page_of.ensures ∙ c.in-Some.is) in
    let touches = c.in_err-touch_strong-in-Some.ensures.touches in
    let p = err_from_is_err_and c.from_residual.result c.from_residual.ensures.1 in
    rw (p.1, p.2)
    (page_faulted layout c.requires.valid c.args.regs.now (g.M.Mem.holds c.args.mem.now) (g.M.Mem.bytes c.args.mem.now) c.requires.begun.held c.requires.at c.load_phase.result c.load_phase.ensures
    (g.M.Mem.bytes c.touch_strong.new.mem) (g.M.Mem.granted c.touch_strong.new.mem) (g.M.Mem.refused c.touch_strong.new.mem) (RtTurn.Faulted c.in_err-touch_strong-in-Some.field-0.0) c.args.regs.now
    c.in-Asked.cluster c.in-Asked.is c.in-Some.page.0 found c.in_err-touch_strong-in-Some.field-0.0 touches.refused_is touches.err.0
    (touches.err.1 ∙ ap (λ (l : List Access). l ++ access_to c.in-Some.page.0 (strong_kind layout c.in-Some.page.0) ∷ []) c.requires.begun.granted) c.touch_strong.ensures.bytes refl refl)

pub overflow_add-number : goal.overflow_add-number
overflow_add-number g c =
    let layout = c.args.layout.now in
    let number = reg_of c.args.regs.now rcx in
    let its = pages_of layout c.in-Asked.cluster in
    let found = found_some its number c.in-Some.page (sym c.page_of.ensures ∙ c.in-Some.is) in
    let low = some_within its number c.in-Some.page.0 found in
    let few = few_filtered (λ p. cluster_at layout p == c.in-Asked.cluster) 0 (pages layout) in
    omega (arith, low, few, c.requires.valid.few_pages)

pub returns-in_err-touch_write-in-None-clause-steps : goal.returns-in_err-touch_write-in-None-clause-steps
returns-in_err-touch_write-in-None-clause-steps g c =
    let layout = c.args.layout.now in
    let number = reg_of c.args.regs.now rcx in
    let found = found_none (pages_of layout c.in-Asked.cluster) number (sym c.page_of.ensures ∙ c.in-None.is) in
    let touch = c.in_err-touch_write-in-None.ensures.touch in
    let f = c.in_err-touch_write-in-None.field-0.0 in
    let is : f ≡ access_to (ssa_page layout 0) Write = touch.err ∙ ap (λ (p : ℕ). access_to p Write) c.area.ensures in
    let p = err_from_is_err_and c.from_residual-in_err-touch_write-in-None.result c.from_residual-in_err-touch_write-in-None.ensures.1 in
    rw (p.1, p.2)
    (end_faulted layout c.requires.valid c.args.regs.now (g.M.Mem.holds c.args.mem.now) (g.M.Mem.bytes c.args.mem.now) c.requires.begun.held c.requires.at c.load_phase.result c.load_phase.ensures
    (g.M.Mem.bytes c.touch_write.new.self) (g.M.Mem.granted c.touch_write.new.self) (g.M.Mem.refused c.touch_write.new.self) (RtTurn.Faulted f) c.args.regs.now
    c.in-Asked.cluster c.in-Asked.is found f (touch.refused_is ∙ ap Some (sym touch.err))
    (ap (λ (l : List Access). l ++ f ∷ []) (touch.same ∙ c.requires.begun.granted) ∙ ap (λ (t : Access). first_accesses layout ++ t ∷ []) is) c.touch_write.ensures.bytes refl refl)

pub finish-requires-clause-reads : goal.finish-requires-clause-reads
finish-requires-clause-reads g c =
    let layout = c.args.layout.now in
    let cluster = c.in-Asked.cluster in
    subst (λ (b : ℕ → List ℕ). (r : Reads) × AreReads layout 0 b r × (r.phase ≡ Asked cluster)) (sym c.touch_write.ensures.bytes)
    (finish_reads layout c.requires.valid c.args.regs.now (g.M.Mem.holds c.args.mem.now) (g.M.Mem.bytes c.args.mem.now) c.requires.begun.held c.requires.at c.load_phase.result c.load_phase.ensures
    cluster c.in-Asked.is c.requires.some)

pub returns-in_ok-touch_strong-in-Some-clause-steps : goal.returns-in_ok-touch_strong-in-Some-clause-steps
returns-in_ok-touch_strong-in-Some-clause-steps g c =
    let layout = c.args.layout.now in
    let number = reg_of c.args.regs.now rcx in
    let its = pages_of layout c.in-Asked.cluster in
    let found = found_some its number c.in-Some.page (sym c.page_of.ensures ∙ c.in-Some.is) in
    let touches = c.in_ok-touch_strong-in-Some.ensures.touches in
    page_probed layout c.requires.valid c.args.regs.now (g.M.Mem.holds c.args.mem.now) (g.M.Mem.bytes c.args.mem.now) c.requires.begun.held c.requires.at c.load_phase.result c.load_phase.ensures
    (g.M.Mem.bytes c.touch_strong.new.mem) (g.M.Mem.granted c.touch_strong.new.mem) (g.M.Mem.refused c.touch_strong.new.mem) c.probe_at.result c.probe_at.new.regs
    c.in-Asked.cluster c.in-Asked.is c.in-Some.page.0 found touches.unrefused
    (touches.ok ∙ ap (λ (l : List Access). l ++ access_to c.in-Some.page.0 (strong_kind layout c.in-Some.page.0) ∷ []) c.requires.begun.granted) c.touch_strong.ensures.bytes
    c.probe_at.ensures.goes c.probe_at.ensures.at c.probe_at.ensures.number

pub returns-in_ok-touch_write-in-None-clause-steps : goal.returns-in_ok-touch_write-in-None-clause-steps
returns-in_ok-touch_write-in-None-clause-steps g c =
    let layout = c.args.layout.now in
    let cluster = c.in-Asked.cluster in
    let number = reg_of c.args.regs.now rcx in
    let found = found_none (pages_of layout cluster) number (sym c.page_of.ensures ∙ c.in-None.is) in
    let touch = c.in_ok-touch_write-in-None.ensures.touch in
    let stays = c.finish.ensures.stays in
    let old = g.M.Mem.bytes c.args.mem.now in
    let new = g.M.Mem.bytes c.finish.new.mem in
    probes_ended layout c.requires.valid c.args.regs.now (g.M.Mem.holds c.args.mem.now) old c.requires.begun.held c.requires.at c.load_phase.result c.load_phase.ensures
    new (g.M.Mem.granted c.finish.new.mem) (g.M.Mem.refused c.finish.new.mem) c.finish.result c.args.regs.now
    cluster c.in-Asked.is found (stays.refused ∙ touch.unrefused ∙ c.requires.begun.refused)
    (stays.granted ∙ touch.ok ∙ ap (λ (l : List Access). l ++ access_to c.area.result.0 Write ∷ []) c.requires.begun.granted ∙ ap (λ (p : ℕ). first_accesses layout ++ access_to p Write ∷ []) c.area.ensures)
    (subst (λ (b : ℕ → List ℕ). (r : Reads) (x : Regs) → AreReads layout 0 b r → r.phase ≡ Asked cluster → Performs layout (finish_row r r.phase) b new c.finish.result x) c.touch_write.ensures.bytes c.finish.ensures.row)
