use Rattle.std.proofs.Common.{◌≡◌, true, ◌==◌, ap, sym, ◌∙◌}
use Rattle.std.specs.Prelude.{Some, None}
use Rattle.std.specs.List.{find}
use Rattle.std.specs.Option.{option_copied}
use Rattle.ak_epcm.specs.Entries.{entry_at, has_page}
use Rattle.ak_epcm.proofs.PageFrames.{frame_with-has, has_page_in_range, has_page_of_page}
use Rattle.ak_memory.specs.Granting.{in_use}
use Rattle.ak_memory.specs.declared.spot.Spot.{Spot}
use Rattle.ak_memory.proofs.Granted.{named_in_use, spot_of_page, touched_spot}
use Rattle.ak_memory.proofs.memory.Memory.frame_of.Goals as goal

pub unreachable-requires : goal.unreachable-requires
unreachable-requires c =
    let none : find (λ (spot : Spot). spot.access.page.0 == c.args.p.0) c.args.self.now.touched.items ≡ None =
    ap (find (λ (spot : Spot). spot.access.page.0 == c.args.p.0)) (sym c.as_slice.ensures.value) ∙ sym c.spot_of.ensures ∙ ap option_copied c.in-None.is in
    touched_spot c.args.self.now.touched.items c.args.p.0 c.requires.touched none

has : (c : goal.After-result-1) → has_page (entry_at c.args.self.now.encls.entries c.in-Some.spot.now.frame.0) c.args.p.0 ≡ true
has c =
    let m = c.args.self.now in
    let found : find (λ (spot : Spot). spot.access.page.0 == c.args.p.0) m.touched.items ≡ Some c.in-Some.spot.now =
    ap (find (λ (spot : Spot). spot.access.page.0 == c.args.p.0)) (sym c.as_slice.ensures.value) ∙ sym c.spot_of.ensures ∙ ap option_copied c.in-Some.is in
    spot_of_page m.encls.entries m.table (in_use m.uses_cache m.tlb) m.touched.items c.args.p.0 c.in-Some.spot.now
    (named_in_use m.uses_cache m.encls.entries m.tlb m.named) m.spots found

pub returns-clause-frame : goal.returns-clause-frame
returns-clause-frame c = frame_with-has c.args.self.now.encls.entries c.in-Some.spot.now.frame.0 c.args.p.0 c.args.self.now.distinct (has c)

pub returns-clause-page : goal.returns-clause-page
returns-clause-page c = has_page_of_page (entry_at c.args.self.now.encls.entries c.in-Some.spot.now.frame.0) c.args.p.0 (has c)

pub returns-clause-in_range : goal.returns-clause-in_range
returns-clause-in_range c = has_page_in_range c.args.self.now.encls.entries c.in-Some.spot.now.frame.0 c.args.p.0 (has c)
