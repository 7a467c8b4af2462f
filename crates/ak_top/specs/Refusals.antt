-- What is told of each refusal: its number and its word.
use Rattle.std.specs.Prelude.{ℕ, List, codes, ◌++◌, Option, Some, None}
use Rattle.std.specs.Fmt.{decimal}
use Rattle.ak_core.specs.declared.page.Page.{Page}
use Rattle.ak_image.specs.declared.fault.ImageFault.{ImageFault}
use Rattle.ak_image.specs.declared.fault.ImageFault.TheVariants as image
use Rattle.ak_measure.specs.declared.fault.SignersFault.{SignersFault}
use Rattle.ak_measure.specs.declared.fault.SignersFault.TheVariants as signers
use Rattle.ak_script.specs.declared.fault.Refusal.{Refusal}
use Rattle.ak_script.specs.Refusal.{number_of, word_of}

-- of an image; where a page is refused, its number follows
abbrev pub image_refusal : ImageFault → List ℕ
image_refusal image.NotToml = codes "image refused: 1 nottoml"
image_refusal image.UnknownKey = codes "image refused: 2 unknownkey"
image_refusal image.MissingKey = codes "image refused: 3 missingkey"
image_refusal image.WrongType = codes "image refused: 4 wrongtype"
image_refusal image.Version = codes "image refused: 5 version"
image_refusal image.BaseAlign = codes "image refused: 6 basealign"
image_refusal image.PageCount = codes "image refused: 7 pagecount"
image_refusal (image.PagePerm page) = codes "image refused: 8 pageperm page "
image_refusal (image.PageBytes page) = codes "image refused: 9 pagebytes page "
image_refusal image.Entry = codes "image refused: 10 entry"
image_refusal image.Budget = codes "image refused: 11 budget"
image_refusal image.OutOfMemory = codes "image refused: out of memory"  -- never told: no bytes are refused for it

-- the page that is refused
abbrev pub page_of : ImageFault → Option Page
page_of (image.PagePerm page) = Some page
page_of (image.PageBytes page) = Some page
page_of _ = None

-- of signers
abbrev pub signers_refusal : SignersFault → List ℕ
signers_refusal signers.NotToml = codes "signers refused: 1 nottoml"
signers_refusal signers.BadKey = codes "signers refused: 2 badkey"
signers_refusal signers.BadDigest = codes "signers refused: 3 baddigest"
signers_refusal signers.Repeated = codes "signers refused: 4 repeated"
signers_refusal signers.OutOfMemory = codes "signers refused: out of memory"  -- never told: no bytes are refused for it

-- of a line of a script, after the line's number
abbrev pub script_refusal : Refusal → List ℕ
script_refusal why = (codes ": " ++ decimal (number_of why) ++ codes " ") ++ (word_of why ++ codes "\n")
