use Rattle.std.proofs.Common.{◌≡◌, map, drop}
use Rattle.ak_image.specs.Pages.{perm_of, perms_of}
use Rattle.ak_image.specs.Views.{page_text_of}
use Rattle.ak_image.specs.declared.fault.ImageFault.TheVariants.{PagePerm}
use Rattle.ak_image.proofs.Each.{after, each_from}
use Rattle.ak_image.proofs.pages.perms_of.Given as goal

-- the permissions so far, and those of the pages that are left, are the permissions of all
abbrev pub invariant-loop-place : goal.invariant-loop-place
invariant-loop-place l =
    after PagePerm perm_of l.perms.items (each_from PagePerm perm_of l.place (map page_text_of (drop l.place l.pages))) ≡ perms_of (map page_text_of l.pages)
