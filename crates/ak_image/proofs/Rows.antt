-- Documents read by computation: an image in two spellings, and each refusal.
use Rattle.std.proofs.Common.{◌≡◌, ℕ, List, [], ◌∷◌, ◌++◌, replicate, Ok, Err, refl, codes}
use Rattle.std.specs.Str.{is_utf8, chars}
use Rattle.toml.proofs.OnLiterals.{toml_on_literals}
use Rattle.hex.proofs.OnLiterals.{hex_on_literals}
use Rattle.ak_core.specs.Layout.{enclave_size}
use Rattle.ak_core.specs.declared.page.Perm.TheVariants.{Rx}
use Rattle.ak_image.specs.Image.{Image}
use Rattle.ak_image.specs.Numbers.{version_of, base_of, entry_of, budget_of}
use Rattle.ak_image.specs.Pages.{perms_of, bytes_of}
use Rattle.ak_image.specs.Reading.{image_of}
use Rattle.ak_image.specs.declared.fault.ImageFault.TheVariants.{NotToml, UnknownKey, MissingKey, WrongType, Version, BaseAlign, PageCount, PagePerm, PageBytes, Entry, Budget}

-- the top of a document, and a page
abbrev top : List ℕ → List ℕ → List ℕ → List ℕ → List ℕ
top version base entry budget =
    codes "version = " ++ version ++ codes "\nbase = " ++ base ++ codes "\nentry = " ++ entry ++ codes "\nbudget = " ++ budget ++ codes "\nsigner = \"lab\"\n"

abbrev good_top : List ℕ
good_top = top (codes "1") (codes "0x10000000") (codes "0") (codes "1")

abbrev page : List ℕ → List ℕ → List ℕ
page perms bytes = codes "[[page]]\nperms = \"" ++ perms ++ codes "\"\ncluster = \"a\"\nbytes = \"" ++ bytes ++ codes "\"\n"

abbrev good_page : List ℕ
good_page = page (codes "rx") (codes "e9FB")

abbrev read_image : Image
read_image =
    record { base = 268435456; entry = 0; perms = Rx ∷ []; cluster_of = 0 ∷ []; clusters = 1; budget = 1; signer = codes "lab"; bytes = 0xe9 ∷ 0xfb ∷ replicate 4094 0 }

by_headers : image_of (good_top ++ good_page) ≡ Ok read_image
unfolding is_utf8 chars enclave_size version_of base_of entry_of budget_of perms_of bytes_of toml_on_literals hex_on_literals
by_headers = refl

inline : image_of (codes "page = [{bytes = 'E9fb', cluster = 'a', perms = 'rx'}] # the page\n" ++ good_top) ≡ Ok read_image
unfolding is_utf8 chars enclave_size version_of base_of entry_of budget_of perms_of bytes_of toml_on_literals hex_on_literals
inline = refl

no_text : image_of (0xff ∷ []) ≡ Err NotToml
unfolding is_utf8 chars toml_on_literals
no_text = refl

one_more_key : image_of (codes "x = 1\n" ++ good_top ++ good_page) ≡ Err UnknownKey
unfolding is_utf8 chars toml_on_literals
one_more_key = refl

nothing : image_of [] ≡ Err MissingKey
unfolding is_utf8 chars toml_on_literals
nothing = refl

text_for_number : image_of (top (codes "\"1\"") (codes "0") (codes "0") (codes "1") ++ good_page) ≡ Err WrongType
unfolding is_utf8 chars toml_on_literals
text_for_number = refl

fourth_version : image_of (top (codes "4") (codes "0x10000000") (codes "0") (codes "1") ++ good_page) ≡ Err Version
unfolding is_utf8 chars version_of toml_on_literals
fourth_version = refl

one_page_off : image_of (top (codes "1") (codes "4096") (codes "0") (codes "1") ++ good_page) ≡ Err BaseAlign
unfolding is_utf8 chars enclave_size version_of base_of toml_on_literals
one_page_off = refl

no_page : image_of (good_top ++ codes "page = []\n") ≡ Err PageCount
unfolding is_utf8 chars enclave_size version_of base_of toml_on_literals
no_page = refl

second_perms : image_of (good_top ++ good_page ++ page (codes "wx") (codes "0")) ≡ Err (PagePerm (record { 0 = 1 }))
unfolding is_utf8 chars enclave_size version_of base_of perms_of toml_on_literals
second_perms = refl

odd_digits : image_of (good_top ++ good_page ++ page (codes "rw") (codes "0")) ≡ Err (PageBytes (record { 0 = 1 }))
unfolding is_utf8 chars enclave_size version_of base_of perms_of bytes_of toml_on_literals hex_on_literals
odd_digits = refl

past_the_pages : image_of (top (codes "1") (codes "0x10000000") (codes "4096") (codes "1") ++ good_page) ≡ Err Entry
unfolding is_utf8 chars enclave_size version_of base_of entry_of perms_of bytes_of toml_on_literals hex_on_literals
past_the_pages = refl

no_budget : image_of (top (codes "1") (codes "0x10000000") (codes "0") (codes "0") ++ good_page) ≡ Err Budget
unfolding is_utf8 chars enclave_size version_of base_of entry_of budget_of perms_of bytes_of toml_on_literals hex_on_literals
no_budget = refl
