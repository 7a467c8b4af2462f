use Rattle.ak_image.proofs.Valid.{valid}
use Rattle.ak_image.proofs.image.Image.layout.Goals as goal

pub new-requires : goal.new-requires
new-requires c =
    rw (c.in-Ok.ensures.items, c.in-Ok-from_slice.ensures.items, c.deref.ensures.value, c.deref-2.ensures.value) (valid _ c.args.frames c.args.lps c.self.invariant c.requires.some_frames c.requires.few_frames c.requires.some_lp c.requires.few_lps)
