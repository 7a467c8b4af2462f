use Rattle.std.proofs.Common.{◌≡◌, ◌⊎◌, inl, inr, ℕ, List, ◌+◌, ◌-◌, ◌*◌, refl, ap, sym, subst, ◌∙◌, arith}
use Rattle.ak_core.specs.Mem.{Access}
use Rattle.ak_core.specs.Layout.{Layout}
use Rattle.ak_core.specs.declared.page.Kind.{Kind}
use Rattle.ak_core.specs.declared.registers.Regs.{Regs}
use Rattle.ak_model.specs.Paging.Pages.{ssa_page}
use Rattle.ak_ssa.specs.SavedFrames.{SavedCause, ByPage, area_place, why_of, HasFrame}
use Rattle.ak_ssa.specs.FramesFit.{FrameFits, CauseFits}
use Rattle.ak_ssa.proofs.Room.{room}
use Rattle.ak_core.specs.declared.moves.Exit.{Exit}
use Rattle.ak_pager.specs.declared.turn.RtTurn.{RtTurn}
use Rattle.ak_pager.specs.Rows.{Reads, saved_row}
use Rattle.ak_pager.specs.StepsTo.{Performs}
use Rattle.ak_pager.specs.Effects.{AreReads}
use Rattle.ak_pager.proofs.Faults.{why_fits, none_noted, vector_noted, page_noted}
use Rattle.ak_pager.proofs.entry.handle.Goals as goal

-- the newest frame
newest : (layout : Layout) (saved : ℕ) (old : ℕ → List ℕ) (r : Reads) → AreReads layout saved old r → (saved ≡ 1) ⊎ (saved ≡ 2) → HasFrame layout area_place (old (ssa_page layout (saved - 1))) r.saved × FrameFits layout r.saved
newest layout saved old r reads n = reads.newest (saved - 1) (elim n [ inl e ↦ omega arith | inr e ↦ omega arith ])

pub page_at-requires : goal.page_at-requires
page_at-requires g c =
    let layout = c.args.layout.now in
    let old = g.M.Mem.bytes c.args.mem.now in
    let r = c.requires.reads.0 in
    let n = newest layout c.args.saved old r c.requires.reads.1 c.requires.saved in
    let fits = n.1 in
    let why : c.why.result ≡ why_of layout r.saved.cause =
    c.why.ensures.saved r.saved.regs (why_of layout r.saved.cause) fits.words (why_fits layout (room layout c.requires.valid) r.saved.cause fits.cause) (c.area_frame-newest.ensures ∙ n.0) in
    let noted = page_noted layout c.in-PageFault.address c.in-PageFault.kind r.saved.cause (sym c.in-PageFault.is ∙ why) in
    let low = subst (λ (cause : SavedCause). CauseFits layout cause) noted.is fits.cause in
    (noted.access.page.0, low, noted.address_is)

pub returns-in-Interrupt-clause-row : goal.returns-in-Interrupt-clause-row
returns-in-Interrupt-clause-row g c r regs reads =
    let layout = c.args.layout.now in
    let old = g.M.Mem.bytes c.args.mem.now in
    let n = newest layout c.args.saved old r reads c.requires.saved in
    let fits = n.1 in
    let why : c.why.result ≡ why_of layout r.saved.cause =
    c.why.ensures.saved r.saved.regs (why_of layout r.saved.cause) fits.words (why_fits layout (room layout c.requires.valid) r.saved.cause fits.cause) (c.area_frame-newest.ensures ∙ n.0) in
    let noted = none_noted layout r.saved.cause (sym c.in-Interrupt.is ∙ why) in
    subst (λ (cause : SavedCause). Performs layout (saved_row layout r c.args.saved cause) old old (RtTurn.Leave Exit.Nothing) regs) (sym noted)
    (record { ends = refl; state = refl; areas = λ i l. refl; others = λ p differs area. refl })

pub returns-in-Vector-clause-row : goal.returns-in-Vector-clause-row
returns-in-Vector-clause-row g c r regs reads =
    let layout = c.args.layout.now in
    let old = g.M.Mem.bytes c.args.mem.now in
    let new = g.M.Mem.bytes c.trap.new.mem in
    let n = newest layout c.args.saved old r reads c.requires.saved in
    let fits = n.1 in
    let why : c.why.result ≡ why_of layout r.saved.cause =
    c.why.ensures.saved r.saved.regs (why_of layout r.saved.cause) fits.words (why_fits layout (room layout c.requires.valid) r.saved.cause fits.cause) (c.area_frame-newest.ensures ∙ n.0) in
    let noted = vector_noted layout c.in-Vector.vector r.saved.cause (sym c.in-Vector.is ∙ why) in
    subst (λ (cause : SavedCause). Performs layout (saved_row layout r c.args.saved cause) old new c.trap.result regs) (sym noted) (c.trap.ensures.row r regs reads)

-- the access at a page
same_access : (layout : Layout) (p : ℕ) (kind : Kind) (t : Access) → layout.base + 4096 * p ≡ layout.base + 4096 * t.page.0 → kind ≡ t.kind → (let made : Access = record { page = record { 0 = p }; kind = kind } in made ≡ t)
same_access layout p kind t e k =
    let same : p ≡ t.page.0 = omega arith in
    let Is : ℕ → Type 0 = λ (q : ℕ). (let made : Access = record { page = record { 0 = q }; kind = kind } in made ≡ t) in
    let At : Kind → Type 0 = λ (x : Kind). (let made : Access = record { page = t.page; kind = x } in made ≡ t) in
    subst Is (sym same) (subst At (sym k) refl)

pub returns-in-PageFault-clause-row : goal.returns-in-PageFault-clause-row
returns-in-PageFault-clause-row g c r regs reads =
    let layout = c.args.layout.now in
    let old = g.M.Mem.bytes c.args.mem.now in
    let new = g.M.Mem.bytes c.handle_fault.new.mem in
    let n = newest layout c.args.saved old r reads c.requires.saved in
    let fits = n.1 in
    let why : c.why.result ≡ why_of layout r.saved.cause =
    c.why.ensures.saved r.saved.regs (why_of layout r.saved.cause) fits.words (why_fits layout (room layout c.requires.valid) r.saved.cause fits.cause) (c.area_frame-newest.ensures ∙ n.0) in
    let noted = page_noted layout c.in-PageFault.address c.in-PageFault.kind r.saved.cause (sym c.in-PageFault.is ∙ why) in
    let loaded = c.load.ensures.saved r.saved.regs (why_of layout r.saved.cause) fits.words (c.area_frame-newest.ensures ∙ n.0) in
    let access = same_access layout c.page_at.result.0 c.in-PageFault.kind noted.access (sym c.page_at.ensures ∙ noted.address_is) noted.kind_is in
    subst (λ (cause : SavedCause). Performs layout (saved_row layout r c.args.saved cause) old new c.handle_fault.result regs) (sym noted.is)
    (subst (λ (t : Access). Performs layout (saved_row layout r c.args.saved (ByPage t)) old new c.handle_fault.result regs) access
    (c.handle_fault.ensures.row r regs reads (ap (λ (x : Regs). x.mode) (sym loaded))))
