-- The image that bytes spell, or why they are refused.
use Rattle.std.specs.Prelude.{ℕ, not, ◌&&◌, nat_le, List, Result, Ok}
use Rattle.std.specs.Option.{ok_or}
use Rattle.toml.specs.Data.{Members}
use Rattle.ak_measure.specs.Document.{document_of}
use Rattle.ak_measure.specs.Stages.{◌>>=◌}
use Rattle.ak_image.specs.declared.fault.ImageFault.{ImageFault}
use Rattle.ak_image.specs.declared.fault.ImageFault.TheVariants.{NotToml, UnknownKey, MissingKey, WrongType, Version, BaseAlign, PageCount, Entry, Budget}
use Rattle.ak_image.specs.Image.{Image}
use Rattle.ak_image.specs.Keys.{has_unknown_key, has_all_keys}
use Rattle.ak_image.specs.Numbers.{count_of, cluster_of, clusters_of, version_of, base_of, entry_of, budget_of}
use Rattle.ak_image.specs.Pages.{perms_of, bytes_of}
use Rattle.ak_image.specs.Spelled.{Spelled, spelled}
use Rattle.ak_image.specs.Stages.{◌>>◌, refuse}

-- the image of the pages, at its base
abbrev pub image_of_pages : Spelled → ℕ → Result Image ImageFault
image_of_pages text base = do
  perms ← perms_of text.pages
  bytes ← bytes_of text.pages
  entry ← ok_or (entry_of text) Entry
  budget ← ok_or (budget_of text) Budget
  Ok (record { base = base; entry = entry; perms = perms; cluster_of = cluster_of text; clusters = clusters_of text; budget = budget; signer = text.signer; bytes = bytes })

-- the image of numbers and texts
abbrev pub image_of_spelled : Spelled → Result Image ImageFault
image_of_spelled text = do
  ok_or (version_of text) Version
  base ← ok_or (base_of text) BaseAlign
  refuse PageCount (not (nat_le 1 (count_of text) && nat_le (count_of text) 512))
  image_of_pages text base

-- the image of a document
abbrev pub image_of_document : Members → Result Image ImageFault
image_of_document document = do
  refuse UnknownKey (has_unknown_key document)
  refuse MissingKey (not (has_all_keys document))
  text ← ok_or (spelled document) WrongType
  image_of_spelled text

-- the image that the bytes spell, or the first refusal that holds
abbrev pub image_of : List ℕ → Result Image ImageFault
image_of bytes = do
  document ← ok_or (document_of bytes) NotToml
  image_of_document document
