use Rattle.std.proofs.Common.{◌≡◌, ◌+◌, ◌<◌, length, drop, get_or, ap, sym, ◌∙◌, arith}
use Rattle.std.specs.Prelude.{Some, None, find, flat_map}
use Rattle.std.proofs.lemmas.List.{drop_more}
use Rattle.ak_model.specs.Paging.Pages.{pages_of}
use Rattle.ak_driver.specs.Duties.{wants, dropped_by}
use Rattle.ak_driver.proofs.Noting.Searches.{find-append, found-append}
use Rattle.ak_driver.proofs.driver.Driver.first_evicted.Goals as goal

pub returns-in-Some-clause-page : goal.returns-in-Some-clause-page
returns-in-Some-clause-page c =
    let driver = c.args.self.now in
    let layout = c.args.layout.now in
    let i = c.loop-c.c-index in
    let all = dropped_by driver in
    let test = wants driver layout c.args.duty in
    let low : i < length all = omega (arith, c.loop-c-test.true, ap length c.dropped-c-items.ensures) in
    let x = get_or all i 0 in
    let found : find test (pages_of layout x) ≡ Some c.in-Some.p.0 =
    ap (λ xs. find test (pages_of layout (get_or xs i 0))) (sym c.dropped-c-items.ensures) ∙ sym c.in-Some.ensures.page in
    sym (sym c.loop-c.invariant ∙ ap (λ xs. find test (flat_map (pages_of layout) xs)) (drop_more all i 0 low)
    ∙ found-append test (pages_of layout x) (flat_map (pages_of layout) (drop (i + 1) all)) c.in-Some.p.0 found)

pub loop-c-preserved : goal.loop-c-preserved
loop-c-preserved c =
    let driver = c.args.self.now in
    let layout = c.args.layout.now in
    let i = c.loop-c.c-index in
    let all = dropped_by driver in
    let test = wants driver layout c.args.duty in
    let low : i < length all = omega (arith, c.loop-c-test.true, ap length c.dropped-c-items.ensures) in
    let x = get_or all i 0 in
    let none : find test (pages_of layout x) ≡ None =
    ap (λ xs. find test (pages_of layout (get_or xs i 0))) (sym c.dropped-c-items.ensures) ∙ sym c.in_default.ensures.page in
    sym (ap (λ xs. find test (flat_map (pages_of layout) xs)) (drop_more all i 0 low)
    ∙ find-append test (pages_of layout x) (flat_map (pages_of layout) (drop (i + 1) all)) none) ∙ c.loop-c.invariant
