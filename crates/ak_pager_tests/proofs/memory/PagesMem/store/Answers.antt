use Rattle.std.proofs.Common.{length, ap, ◌∙◌, arith}
use Rattle.std.specs.Prelude.{slice_set}
use Rattle.std.proofs.lemmas.List.{get_or_read}
use Rattle.ak_core.specs.Mem.{with_page}
use Rattle.ak_pager_tests.specs.TestPages.{blank_page, page_of}
use Rattle.ak_pager_tests.proofs.InPages.{writable_inside, page_of-set}
use Rattle.ak_pager_tests.proofs.memory.PagesMem.store.Goals as goal

pub index-requires : goal.index-requires
index-requires c =
    let m = c.args.self.now in
    let inside = writable_inside (length m.pages.items) m.granted.items c.args.p.0 m.inside c.requires.touched in
    omega (arith, inside, m.pages.ok.0)

pub index_mut-requires : goal.index_mut-requires
index_mut-requires c =
    let m = c.args.self.now in
    let inside = writable_inside (length m.pages.items) m.granted.items c.args.p.0 m.inside c.requires.touched in
    omega (arith, inside, m.pages.ok.0)

pub returns-clause-bytes : goal.returns-clause-bytes
returns-clause-bytes c =
    let m = c.args.self.now in
    let inside = writable_inside (length m.pages.items) m.granted.items c.args.p.0 m.inside c.requires.touched in
    page_of-set m.pages.items c.args.p.0 (slice_set c.index.result.now c.args.offset c.args.value) inside
    ∙ ap (λ page. with_page (page_of m.pages.items) c.args.p.0 (slice_set page c.args.offset c.args.value))
    (get_or_read m.pages.items c.args.p.0 c.index.result.now inside c.index.ensures blank_page)
