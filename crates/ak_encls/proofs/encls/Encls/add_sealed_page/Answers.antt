use Rattle.std.proofs.Common.{◌≡◌, ℕ, ◌<◌, ◌++◌, ◌*◌, ◌==◌, if◌then◌else◌, List, length, set, inl, inr, ap, sym, ◌∙◌, subst}
use Rattle.std.specs.Prelude.{Some}
use Rattle.std.proofs.lemmas.Bool.Decides.{eqb_tells}
use Rattle.std.proofs.lemmas.List.{set-set}
use Rattle.ak_core.specs.declared.page.PageType.TheVariants.{Reg}
use Rattle.ak_epcm.specs.Entries.{free_entry, entry_at}
use Rattle.ak_measure.specs.Absorbed.{HasAbsorbed}
use Rattle.ak_measure.specs.Blocks.{page_blocks}
use Rattle.ak_measure.specs.Secinfo.{secinfo}
use Rattle.ak_measure.specs.declared.measurement.Measure.{Measure}
use Rattle.ak_sealed.specs.SealedPages.{sealed_page_of, sealed_page_at}
use Rattle.ak_encls.specs.Building.{added_entry}
use Rattle.ak_encls.specs.Enclave.{Enclave, frame_at}
use Rattle.ak_encls.proofs.SlotChanges.{entry_same, frame_same, frame_other}
use Rattle.ak_encls.proofs.encls.Encls.add_sealed_page.Goals as goal

pub returns-clause-entries : goal.returns-clause-entries
returns-clause-entries c =
    let f = c.args.f.0 in
    c.seal_into.ensures.entries
    ∙ ap (λ l. set l f free_entry) (ap (λ (e : Enclave). e.entries) c.cycle_alone.ensures.rest ∙ c.add_page.ensures.entries)
    ∙ set-set c.args.self.now.entries f (added_entry c.args.p Reg c.args.perm) free_entry

pub returns-clause-sealed_page : goal.returns-clause-sealed_page
returns-clause-sealed_page c = λ k.
    let f = c.args.f.0 in
    let old = c.args.self.now in
    let before = c.cycle_alone.new.self in
    let added = added_entry c.args.p Reg c.args.perm in
    let entry : entry_at before.entries f ≡ added_entry c.args.p Reg c.args.perm =
    ap (λ l. entry_at l f) (ap (λ (e : Enclave). e.entries) c.cycle_alone.ensures.rest ∙ c.add_page.ensures.entries)
    ∙ entry_same old.entries f (added_entry c.args.p Reg c.args.perm) c.requires.within in
    let frame : frame_at before.frames f ≡ c.args.bytes.now =
    ap (λ l. frame_at l f) (ap (λ (e : Enclave). e.frames) c.cycle_alone.ensures.rest ∙ c.add_page.ensures.frames)
    ∙ frame_same old.frames f c.args.bytes.now c.add_page.ensures.in_frames in
    let handles = ap (λ (e : Enclave). e.handles) (c.cycle_alone.ensures.rest) ∙ ap (λ (e : Enclave). e.handles) c.add_page.ensures.rest in
    c.seal_into.ensures.sealed_page k
    ∙ ap (λ n. if k == n then Some (sealed_page_of (entry_at before.entries f) (frame_at before.frames f)) else sealed_page_at before.handles k) (sym c.seal_into.ensures.handle)
    ∙ ap (λ x. if k == c.seal_into.result.0 then Some (sealed_page_of x (frame_at before.frames f)) else sealed_page_at before.handles k) entry
    ∙ ap (λ b. if k == c.seal_into.result.0 then Some (sealed_page_of (added_entry c.args.p Reg c.args.perm) b) else sealed_page_at before.handles k) frame
    ∙ ap (λ h. if k == c.seal_into.result.0 then Some (sealed_page_of (added_entry c.args.p Reg c.args.perm) c.args.bytes.now) else sealed_page_at h k) handles

pub returns-clause-measure : goal.returns-clause-measure
returns-clause-measure c = λ absorbed was.
    let same = ap (λ (e : Enclave). e.measure) c.seal_into.ensures.rest ∙ ap (λ (e : Enclave). e.measure) c.cycle_alone.ensures.rest in
    let P : Measure → Type 0 = λ m. HasAbsorbed m (absorbed ++ page_blocks (4096 * c.args.p.0) (secinfo Reg c.args.perm) c.args.bytes.now) in
    subst P (sym same) (c.add_page.ensures.measure absorbed was)

-- each frame is as long as it was, but for the one that was set
set_lengths : (frames : List (List ℕ)) (f : ℕ) (bytes : List ℕ) → f < length frames → (g : ℕ) →
    length (frame_at (set frames f bytes) g) ≡ (if g == f then length bytes else length (frame_at frames g))
set_lengths frames f bytes within g =
    elim (eqb_tells g f) [
      | inl same ↦ ap (λ k. length (frame_at (set frames f bytes) k)) same.1 ∙ ap length (frame_same frames f bytes within)
          ∙ sym (ap (λ b. if b then length bytes else length (frame_at frames g)) same.0)
      | inr other ↦ ap length (frame_other frames f g bytes other.1) ∙ sym (ap (λ b. if b then length bytes else length (frame_at frames g)) other.0)
    ]

pub returns-clause-lengths : goal.returns-clause-lengths
returns-clause-lengths c = λ g.
    c.seal_into.ensures.lengths g
    ∙ ap (λ (e : Enclave). length (frame_at e.frames g)) c.cycle_alone.ensures.rest
    ∙ ap (λ l. length (frame_at l g)) c.add_page.ensures.frames
    ∙ set_lengths c.args.self.now.frames c.args.f.0 c.args.bytes.now c.add_page.ensures.in_frames g
