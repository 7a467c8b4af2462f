use Rattle.std.proofs.Common.{map}
use Rattle.ak_image.specs.Pages.{perm_of, perms_of}
use Rattle.ak_image.specs.Views.{page_text_of}
use Rattle.ak_image.specs.declared.fault.ImageFault.TheVariants.{PagePerm}
use Rattle.ak_image.proofs.Each.{each-none}
use Rattle.ak_image.proofs.pages.perms_of.Goals as goal

pub loop-place-init : goal.loop-place-init
unfolding perms_of
loop-place-init c = rw c.new-perms.ensures.items (each-none PagePerm perm_of (map page_text_of c.args.pages.now))
