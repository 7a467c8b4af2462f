use Rattle.std.proofs.Common.{◌≡◌, ◌-◌, length, drop, length-drop, ap, sym, ◌∙◌, arith}
use Rattle.std.proofs.lemmas.List.{get_or-drop}
use Rattle.ak_exec.proofs.Windows.{filled, taken_more}
use Rattle.ak_exec.proofs.fetching.take_bytes.Goals as goal

pub returns : goal.returns
returns g c =
    let page = g.M.Mem.bytes c.args.mem.now c.args.page.0 in
    let size : length (drop c.args.from page) ≡ 4096 - c.args.from =
    length-drop c.args.from page ∙ ap (λ n. n - c.args.from) (g.M.Mem.whole c.args.mem.now c.args.page.0) in
    filled c.loop-i.window.items c.args.window.now.items (drop c.args.from page) (4096 - c.args.from) c.loop-i.i c.loop-i.invariant.taken size (omega arith) (omega arith)

pub loop-i-preserved : goal.loop-i-preserved
loop-i-preserved g c =
    let page = g.M.Mem.bytes c.args.mem.now c.args.page.0 in
    let size : length (drop c.args.from page) ≡ 4096 - c.args.from =
    length-drop c.args.from page ∙ ap (λ n. n - c.args.from) (g.M.Mem.whole c.args.mem.now c.args.page.0) in
    record {
      taken = taken_more c.loop-i.window.items c.push.new.self.items c.args.window.now.items (drop c.args.from page) c.loop-i.i c.load.result
          c.push.ensures.items c.loop-i.invariant.taken (c.load.ensures ∙ sym (get_or-drop c.args.from page c.loop-i.i 0)) (omega (arith, size));
      count = omega (arith, c.push.ensures.len, c.loop-i.invariant.count);
    }
