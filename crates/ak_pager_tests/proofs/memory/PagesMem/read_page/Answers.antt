use Rattle.std.proofs.Common.{length, arith}
use Rattle.std.proofs.lemmas.List.{get_or_read}
use Rattle.ak_pager_tests.specs.TestPages.{blank_page}
use Rattle.ak_pager_tests.proofs.InPages.{touched_inside}
use Rattle.ak_pager_tests.proofs.memory.PagesMem.read_page.Goals as goal

pub index-requires : goal.index-requires
index-requires c =
    let m = c.args.self.now in
    let inside = touched_inside (length m.pages.items) m.granted.items c.args.p.0 m.inside c.requires.touched in
    omega (arith, inside, m.pages.ok.0)

pub returns : goal.returns
returns c =
    let m = c.args.self.now in
    let inside = touched_inside (length m.pages.items) m.granted.items c.args.p.0 m.inside c.requires.touched in
    let is = get_or_read m.pages.items c.args.p.0 c.index.result.now inside c.index.ensures blank_page in cc
