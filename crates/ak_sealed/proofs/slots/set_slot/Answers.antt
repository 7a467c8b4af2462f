use Rattle.std.proofs.Common.{◌≡◌, ◌≤◌, ◌*◌, ◌+◌, ◌-◌, length, ap, arith}
use Rattle.ak_model.specs.Flat.Instructions.{le_value}
use Rattle.ak_sealed.proofs.OtherSlots.{other_slot}
use Rattle.ak_sealed.proofs.slots.set_slot.Goals as goal

pub returns-clause-others : goal.returns-clause-others
returns-clause-others c = λ j other.
    let start = c.from-start.result * 8 in
    let written = c.copy_from_slice.new.self in
    let at : start ≡ c.args.i * 8 = omega (arith, c.from-start.ensures) in
    let eight : start + 8 - start ≡ 8 = omega arith in
    let within : start ≤ length c.args.va.now = omega (arith, c.fits-va, c.from-start.ensures, c.if-i-ge-SLOTS.false) in
    let size : length written ≡ start + 8 - start = omega (arith, c.copy_from_slice.auto.self) in
    ap le_value (other_slot start (start + 8 - start) c.args.i j c.args.va.now written at eight within size other)
