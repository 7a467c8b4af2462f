use Rattle.std.proofs.Common.{true, false, sym, ◌∙◌}
use Rattle.std.proofs.lemmas.Result.{err_from_is_err_and}
use Rattle.ak_relation.specs.State.MachineView.{view_in}
use Rattle.ak_encls.proofs.Rows.{load_refused, load_no_slot, load_no_handle, load_empty, load_version, is_dead, is_live, its_page, slot_is}
use Rattle.ak_encls.proofs.encls.Encls.loadable.Goals as goal

pub returns-in_err-check_free-clause-row : goal.returns-in_err-check_free-clause-row
returns-in_err-check_free-clause-row c = λ layout state h.
    let p = err_from_is_err_and c.from_residual.result c.from_residual.ensures.1 in
    rw (p.1, p.2) (load_refused (view_in layout state) c.args.f.0 c.args.h.0 c.args.p.0 c.args.va.0 c.args.i c.in_err-check_free.field-0.0 (c.in_err-check_free.ensures.row layout state h))

pub returns-in_err-version-clause-row : goal.returns-in_err-version-clause-row
returns-in_err-version-clause-row c = λ layout state h.
    let p = err_from_is_err_and c.from_residual-in_err-version.result c.from_residual-in_err-version.ensures.1 in
    rw (p.1, p.2) (load_no_slot (view_in layout state) c.args.f.0 c.args.h.0 c.args.p.0 c.args.va.0 c.args.i (c.in_ok-check_free.ensures.row layout state h)
    c.in_err-version.field-0.0 (c.in_err-version.ensures.row layout state h))

pub returns-in_default-clause-row : goal.returns-in_default-clause-row
returns-in_default-clause-row c = λ layout state h.
    load_no_handle (view_in layout state) c.args.f.0 c.args.h.0 c.args.p.0 c.args.va.0 c.args.i (c.in_ok-check_free.ensures.row layout state h)
    (c.in_ok-version.ensures.row layout state h) (is_dead layout c.args.self.now state h c.args.h.0 (sym c.find.ensures ∙ c.in_default.is))

pub returns-in-None-clause-row : goal.returns-in-None-clause-row
returns-in-None-clause-row c = λ layout state h.
    load_empty (view_in layout state) c.args.f.0 c.args.h.0 c.args.p.0 c.args.va.0 c.args.i (c.in_ok-check_free.ensures.row layout state h)
    (c.in_ok-version.ensures.row layout state h) (is_live layout c.args.self.now state h c.args.h.0 c.in-Some.entry (sym c.find.ensures ∙ c.in-Some.is))
    (slot_is layout c.args.self.now state h c.args.va.0 c.args.i c.in_ok-version.ensures.is_slot ∙ sym c.in_ok-version.ensures.slot ∙ c.in-None.is)

pub returns-in-Some-version-clause-row : goal.returns-in-Some-version-clause-row
returns-in-Some-version-clause-row c = λ layout state h.
    let found = sym c.find.ensures ∙ c.in-Some.is in
    load_version (view_in layout state) c.args.f.0 c.args.h.0 c.args.p.0 c.args.va.0 c.args.i (c.in_ok-check_free.ensures.row layout state h)
    (c.in_ok-version.ensures.row layout state h) c.in-Some-version.version c.in-Some.entry.page.0 true (is_live layout c.args.self.now state h c.args.h.0 c.in-Some.entry found)
    (its_page layout c.args.self.now state h c.args.h.0 c.in-Some.entry found)
    (slot_is layout c.args.self.now state h c.args.va.0 c.args.i c.in_ok-version.ensures.is_slot ∙ sym c.in_ok-version.ensures.slot ∙ c.in-Some-version.is)
    (sym c.is_of.ensures ∙ c.if-is_of.true)

pub returns-in-Some-2-clause-row : goal.returns-in-Some-2-clause-row
returns-in-Some-2-clause-row c = λ layout state h.
    let found = sym c.find.ensures ∙ c.in-Some.is in
    load_version (view_in layout state) c.args.f.0 c.args.h.0 c.args.p.0 c.args.va.0 c.args.i (c.in_ok-check_free.ensures.row layout state h)
    (c.in_ok-version.ensures.row layout state h) c.in-Some-version.version c.in-Some.entry.page.0 false (is_live layout c.args.self.now state h c.args.h.0 c.in-Some.entry found)
    (its_page layout c.args.self.now state h c.args.h.0 c.in-Some.entry found)
    (slot_is layout c.args.self.now state h c.args.va.0 c.args.i c.in_ok-version.ensures.is_slot ∙ sym c.in_ok-version.ensures.slot ∙ c.in-Some-version.is)
    (sym c.is_of.ensures ∙ c.if-is_of.false)
