use Rattle.std.proofs.Common.{◌≡◌, ℕ, if◌then◌else◌, List, ap, ◌∙◌, subst}
use Rattle.std.specs.List.{list_any, range_with_len}
use Rattle.ak_core.specs.declared.moves.Answer.TheVariants.{Ok, EnclaveActive}
use Rattle.ak_epcm.specs.Entries.{entry_at}
use Rattle.ak_track.specs.Steps.{TrackStep, inside_by}
use Rattle.ak_track.specs.Tracking.{HoldsSteps}
use Rattle.ak_encls.specs.Enclave.{Enclave}
use Rattle.ak_encls.proofs.Rows.{remove_page}
use Rattle.ak_encls.proofs.encls.Encls.check_removable.Goals as goal

pub returns-in-Reg-clause-row : goal.returns-in-Reg-clause-row
returns-in-Reg-clause-row c = λ layout state h.
    remove_page layout c.args.self.now state h c.args.f.0 c.entry-entry.result c.is_active.result
    (c.entry-entry.ensures.entry ∙ ap (λ (e : Enclave). entry_at e.entries c.args.f.0) c.self.view_is) c.if-not-entry.false c.in-Reg.is
    (c.in_ok-check_frame.ensures.row layout state h)
    (subst (λ (e : Enclave). (lps : ℕ) (steps : List TrackStep) → HoldsSteps e.track lps steps → c.is_active.result ≡ list_any (inside_by steps) (range_with_len 0 lps))
    c.self.view_is c.is_active.ensures)
    ∙ ap (λ b. if b then EnclaveActive else Ok) c.if-is_active.true

pub returns-in-Reg-2-clause-row : goal.returns-in-Reg-2-clause-row
returns-in-Reg-2-clause-row c = λ layout state h.
    remove_page layout c.args.self.now state h c.args.f.0 c.entry-entry.result c.is_active.result
    (c.entry-entry.ensures.entry ∙ ap (λ (e : Enclave). entry_at e.entries c.args.f.0) c.self.view_is) c.if-not-entry.false c.in-Reg.is
    (c.in_ok-check_frame.ensures.row layout state h)
    (subst (λ (e : Enclave). (lps : ℕ) (steps : List TrackStep) → HoldsSteps e.track lps steps → c.is_active.result ≡ list_any (inside_by steps) (range_with_len 0 lps))
    c.self.view_is c.is_active.ensures)
    ∙ ap (λ b. if b then EnclaveActive else Ok) c.if-is_active.false
