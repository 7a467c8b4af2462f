use Rattle.std.proofs.Common.{◌≡◌, true, ap, sym, ◌∙◌}
use Rattle.std.proofs.lemmas.Result.{err_from_is_err_and}
use Rattle.ak_core.specs.declared.page.Entry.{Entry}
use Rattle.ak_epcm.specs.Entries.{entry_at}
use Rattle.ak_relation.specs.State.MachineView.{view_in}
use Rattle.ak_encls.proofs.Rows.{write_no_slot}
use Rattle.ak_encls.proofs.encls.Encls.check_write_out.Goals as goal

pub returns-in_err-slot_of-clause-row : goal.returns-in_err-slot_of-clause-row
returns-in_err-slot_of-clause-row c = λ layout state h.
    let p = err_from_is_err_and c.from_residual-in_err-slot_of.result c.from_residual-in_err-slot_of.ensures.1 in
    let f = c.args.f.0 in
    let blocked : (entry_at c.args.self.now.entries f).blocked ≡ true =
    ap (λ (x : Entry). x.blocked) (sym c.in_ok-page_entry.ensures.entry) ∙ c.if-not-branch.false in
    rw (p.1, p.2)
    (write_no_slot (view_in layout state) f c.args.va.0 c.args.i c.in_err-slot_of.field-0.0 (c.in_ok-page_entry.ensures.row layout state h)
    (ap (λ l. (entry_at l f).blocked) h.entries ∙ blocked)
    (sym (c.is_tracked.ensures layout.lps state.track (state.stamps f) h.track (h.stamps f blocked)) ∙ c.if-not-is_tracked.false)
    (c.in_err-slot_of.ensures.row layout state h))
