use Rattle.std.proofs.Common.{◌≡◌, ◌-◌, length, ap, arith, drop, length-drop, ◌∙◌}
use Rattle.std.proofs.lemmas.List.{length-take-le}
use Rattle.ak_pager.proofs.effects.area_frame.Goals as goal

pub copy_from_slice-requires : goal.copy_from_slice-requires
copy_from_slice-requires g c =
    let page = c.page.result.now in
    let whole : length page ≡ 4096 = ap length c.page.ensures ∙ g.M.Mem.whole c.args.mem.now c.area.result.0 in
    omega (arith, length-take-le (length page - 3896) (drop 3896 page) (omega (arith, length-drop 3896 page)))
