use Rattle.std.proofs.Common.{map}
use Rattle.ak_image.specs.Pages.{content_of, bytes_of}
use Rattle.ak_image.specs.Views.{page_text_of}
use Rattle.ak_image.specs.declared.fault.ImageFault.TheVariants.{PageBytes}
use Rattle.ak_image.proofs.Each.{joined-none}
use Rattle.ak_image.proofs.pages.bytes_of.Goals as goal

pub loop-place-init : goal.loop-place-init
unfolding bytes_of
loop-place-init c = rw c.in-Ok.ensures.items (joined-none PageBytes content_of (map page_text_of c.args.pages.now))
