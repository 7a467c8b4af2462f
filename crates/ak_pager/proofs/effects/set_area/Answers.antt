use Rattle.std.proofs.Common.{◌≡◌, ℕ, length, ap, sym, ◌∙◌, arith}
use Rattle.ak_core.specs.Mem.{put_at}
use Rattle.ak_pager.specs.Rows.{area_bytes}
use Rattle.ak_pager.proofs.Parts.{put_at_read}
use Rattle.ak_pager.proofs.Written.{written_page}
use Rattle.ak_pager.proofs.effects.set_area.Goals as goal

pub returns-clause-frame : goal.returns-clause-frame
returns-clause-frame g c =
    let p = c.area.result.0 in
    let old = g.M.Mem.bytes c.args.mem.now in
    let new = g.M.Mem.bytes c.store_slice.new.self in
    let whole : length (old p) ≡ 4096 = g.M.Mem.whole c.args.mem.now p in
    ap (λ (q : ℕ). area_bytes (new q)) (sym c.area.ensures)
    ∙ ap area_bytes (written_page old new p (put_at (old p) 3896 c.args.frame.now) c.store_slice.ensures.bytes)
    ∙ put_at_read (old p) c.args.frame.now 3896 200 (omega arith) (omega arith)
