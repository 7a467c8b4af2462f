use Rattle.std.proofs.Common.{length, ap, ◌∙◌, arith}
use Rattle.ak_core.specs.Mem.{with_page}
use Rattle.ak_pager_tests.specs.TestPages.{page_of}
use Rattle.ak_pager_tests.proofs.InPages.{writable_inside, page_of-set}
use Rattle.ak_pager_tests.proofs.memory.PagesMem.write_page.Goals as goal

pub index_mut-requires : goal.index_mut-requires
index_mut-requires c =
    let m = c.args.self.now in
    let inside = writable_inside (length m.pages.items) m.granted.items c.args.p.0 m.inside c.requires.touched in
    omega (arith, inside, m.pages.ok.0)

pub returns-clause-bytes : goal.returns-clause-bytes
returns-clause-bytes c =
    let m = c.args.self.now in
    let inside = writable_inside (length m.pages.items) m.granted.items c.args.p.0 m.inside c.requires.touched in
    page_of-set m.pages.items c.args.p.0 c.copy_from_slice.new.self inside ∙ ap (with_page (page_of m.pages.items) c.args.p.0) c.copy_from_slice.ensures.after
