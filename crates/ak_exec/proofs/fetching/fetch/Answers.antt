use Rattle.std.proofs.Common.{◌≡◌, true, ◌+◌, ◌-◌, ◌/◌, ◌%◌, ◌<◌, [], ◌∷◌, ◌++◌, take, drop, length, refl, ap, sym, ◌∙◌, arith}
use Rattle.ak_core.specs.Mem.{access_to}
use Rattle.ak_core.specs.declared.page.Kind.TheVariants.{Exec}
use Rattle.ak_model.specs.Paging.Pages.{pages}
use Rattle.ak_model.specs.Flat.Encodings.{decode}
use Rattle.ak_model.specs.Flat.FlatRuns.{Vector, line_of, perform, in_first_page, page_bytes}
use Rattle.ak_model.proofs.Flat.Decoding.{decode-take}
use Rattle.ak_exec.proofs.Lines.{first_line, first_refused, at_the_end, next_line}
use Rattle.ak_exec.proofs.fetching.fetch.Goals as goal

pub returns-in-Err-clause-line : goal.returns-in-Err-clause-line
returns-in-Err-clause-line g c flat r shows =
    let n : length c.perms.result.now ≡ pages c.args.layout.now = ap length c.perms.ensures.perms in
    first_refused c.args.layout.now flat c.args.rip c.base-base.result (g.M.Mem.granted c.touch_exec.new.self) c.in-Err.fault
    c.base-base.ensures.base r (omega arith) (omega (arith, n))
    (c.in-Err.ensures.touch.same ∙ c.requires.begun) c.in-Err.ensures.touch.err

pub returns-in-Whole-clause-line : goal.returns-in-Whole-clause-line
returns-in-Whole-clause-line g c flat r shows =
    let p = (c.args.rip - c.base-base.result) / 4096 in
    let n : length c.perms.result.now ≡ pages c.args.layout.now = ap length c.perms.ensures.perms in
    let inside : p < pages c.args.layout.now = omega (arith, n) in
    let page : g.M.Mem.bytes c.touch_exec.new.self p ≡ page_bytes flat p = ap (λ f. f p) c.in_default.ensures.bytes ∙ shows p inside c.in_default.ensures.touch.held in
    let rest = drop ((c.args.rip - c.base-base.result) % 4096) (g.M.Mem.bytes c.touch_exec.new.self p) in
    let decoded : c.decode.result ≡ decode (take 10 rest) = c.decode.ensures.table ∙ ap decode c.rest_of.ensures ∙ sym (decode-take rest) in
    let granted : g.M.Mem.granted c.touch_exec.new.self ≡ access_to p Exec ∷ [] = c.in_default.ensures.touch.ok ∙ ap (λ xs. xs ++ access_to p Exec ∷ []) c.requires.begun in
    first_line c.args.layout.now flat c.args.rip c.base-base.result c.decode.result (g.M.Mem.bytes c.touch_exec.new.self p) (take 10 rest)
    c.base-base.ensures.base r (omega arith) (omega (arith, n)) page refl decoded
    ∙ ap (in_first_page c.args.layout.now flat p) c.in-Whole.is
    ∙ ap (λ ts. perform c.args.layout.now flat ts c.in-Whole.instr c.in-Whole.size) (sym granted)

pub returns-in-Illegal-clause-line : goal.returns-in-Illegal-clause-line
returns-in-Illegal-clause-line g c flat r shows =
    let p = (c.args.rip - c.base-base.result) / 4096 in
    let n : length c.perms.result.now ≡ pages c.args.layout.now = ap length c.perms.ensures.perms in
    let inside : p < pages c.args.layout.now = omega (arith, n) in
    let page : g.M.Mem.bytes c.touch_exec.new.self p ≡ page_bytes flat p = ap (λ f. f p) c.in_default.ensures.bytes ∙ shows p inside c.in_default.ensures.touch.held in
    let rest = drop ((c.args.rip - c.base-base.result) % 4096) (g.M.Mem.bytes c.touch_exec.new.self p) in
    let decoded : c.decode.result ≡ decode (take 10 rest) = c.decode.ensures.table ∙ ap decode c.rest_of.ensures ∙ sym (decode-take rest) in
    let granted : g.M.Mem.granted c.touch_exec.new.self ≡ access_to p Exec ∷ [] = c.in_default.ensures.touch.ok ∙ ap (λ xs. xs ++ access_to p Exec ∷ []) c.requires.begun in
    first_line c.args.layout.now flat c.args.rip c.base-base.result c.decode.result (g.M.Mem.bytes c.touch_exec.new.self p) (take 10 rest)
    c.base-base.ensures.base r (omega arith) (omega (arith, n)) page refl decoded
    ∙ ap (in_first_page c.args.layout.now flat p) c.in-Illegal.is
    ∙ ap (λ ts. line_of ts (Vector 6)) (sym granted)

pub returns-then-next-pages-clause-line : goal.returns-then-next-pages-clause-line
returns-then-next-pages-clause-line g c flat r shows =
    let p = (c.args.rip - c.base-base.result) / 4096 in
    let n : length c.perms.result.now ≡ pages c.args.layout.now = ap length c.perms.ensures.perms in
    let inside : p < pages c.args.layout.now = omega (arith, n) in
    let page : g.M.Mem.bytes c.touch_exec.new.self p ≡ page_bytes flat p = ap (λ f. f p) c.in_default.ensures.bytes ∙ shows p inside c.in_default.ensures.touch.held in
    let rest = drop ((c.args.rip - c.base-base.result) % 4096) (g.M.Mem.bytes c.touch_exec.new.self p) in
    let decoded : c.decode.result ≡ decode (take 10 rest) = c.decode.ensures.table ∙ ap decode c.rest_of.ensures ∙ sym (decode-take rest) in
    let granted : g.M.Mem.granted c.touch_exec.new.self ≡ access_to p Exec ∷ [] = c.in_default.ensures.touch.ok ∙ ap (λ xs. xs ++ access_to p Exec ∷ []) c.requires.begun in
    first_line c.args.layout.now flat c.args.rip c.base-base.result c.decode.result (g.M.Mem.bytes c.touch_exec.new.self p) (take 10 rest)
    c.base-base.ensures.base r (omega arith) (omega (arith, n)) page refl decoded
    ∙ ap (in_first_page c.args.layout.now flat p) c.in-NeedMore.is
    ∙ at_the_end c.args.layout.now flat p (omega (arith, n))
    ∙ ap (λ ts. line_of ts (Vector 13)) (sym granted)

pub returns-else-next-pages-clause-line : goal.returns-else-next-pages-clause-line
returns-else-next-pages-clause-line g c flat r shows =
    let p = (c.args.rip - c.base-base.result) / 4096 in
    let n : length c.perms.result.now ≡ pages c.args.layout.now = ap length c.perms.ensures.perms in
    let inside : p < pages c.args.layout.now = omega (arith, n) in
    let next : p + 1 < pages c.args.layout.now = omega (arith, n) in
    let page : g.M.Mem.bytes c.touch_exec.new.self p ≡ page_bytes flat p = ap (λ f. f p) c.in_default.ensures.bytes ∙ shows p inside c.in_default.ensures.touch.held in
    let rest = drop ((c.args.rip - c.base-base.result) % 4096) (g.M.Mem.bytes c.touch_exec.new.self p) in
    let decoded : c.decode.result ≡ decode (take 10 rest) = c.decode.ensures.table ∙ ap decode c.rest_of.ensures ∙ sym (decode-take rest) in
    let window = c.take_bytes.ensures ∙ ap (λ xs. take 10 (xs ++ drop ((c.args.rip - c.base-base.result) % 4096) (g.M.Mem.bytes c.touch_exec.new.self p))) c.new-window.ensures in
    let granted : g.M.Mem.granted c.touch_exec.new.self ≡ access_to p Exec ∷ [] = c.in_default.ensures.touch.ok ∙ ap (λ xs. xs ++ access_to p Exec ∷ []) c.requires.begun in
    let held = λ (h : g.M.Mem.holds c.touch_exec.new.self (p + 1) ≡ true). ap (λ f. f (p + 1)) c.in_default.ensures.bytes ∙ shows (p + 1) next (ap (λ f. f (p + 1)) (sym c.in_default.ensures.holds) ∙ h) in
    next_line c.args.layout.now flat c.args.rip c.base-base.result c.fetch_across.result (g.M.Mem.bytes c.touch_exec.new.self p) c.take_bytes.new.window.items (g.M.Mem.bytes c.touch_exec.new.self (p + 1))
    (g.M.Mem.holds c.touch_exec.new.self) (g.M.Mem.granted c.touch_exec.new.self) (g.M.Mem.granted c.fetch_across.new.mem)
    c.base-base.ensures.base r (omega arith) (omega (arith, n)) next page window held
    (sym c.in-NeedMore.is ∙ decoded ∙ ap decode (sym window)) granted c.fetch_across.ensures.crosses
