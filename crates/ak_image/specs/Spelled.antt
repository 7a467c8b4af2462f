-- What an image's document spells where each value has its type: numbers and texts.
use Rattle.std.specs.Prelude.{ℕ, ℤ, List, Option, Some, None, codes}
use Rattle.std.specs.Option.{option_and_then, option_map}
use Rattle.toml.specs.Data.{Data, Members, get_member, as_str, as_integer, as_array, as_table}
use Rattle.ak_measure.specs.Document.{listed}
use Rattle.ak_measure.specs.Stages.{each_of}

-- a page's three texts
pub record PageText : Type 0 where
  pub perms : List ℕ
  pub cluster : List ℕ
  pub bytes : List ℕ

-- the numbers and texts of a document
pub record Spelled : Type 0 where
  pub version : ℤ
  pub base : ℤ
  pub entry : ℤ
  pub budget : ℤ
  pub signer : List ℕ
  pub pages : List PageText

infixl 10 ◌>>=◌
-- the second step, where the first gave something
abbrev ◌>>=◌ : {A B : Type 0} → Option A → (A → Option B) → Option B
None >>= next = None
Some x >>= next = next x

-- the text, the number and the elements of an array at a key, where it has such a value
abbrev pub text_at : List ℕ → Members → Option (List ℕ)
text_at key ms = option_and_then as_str (get_member key ms)

abbrev pub number_at : List ℕ → Members → Option ℤ
number_at key ms = option_and_then as_integer (get_member key ms)

abbrev pub array_items : Data → Option (List Data)
array_items value = option_map listed (as_array value)

abbrev pub items_at : List ℕ → Members → Option (List Data)
items_at key ms = option_and_then array_items (get_member key ms)

-- what a table spells, where its three values are strings
abbrev pub table_text : Members → Option PageText
table_text ms = do
  perms ← text_at (codes "perms") ms
  cluster ← text_at (codes "cluster") ms
  bytes ← text_at (codes "bytes") ms
  Some (record { perms = perms; cluster = cluster; bytes = bytes })

-- what a page spells, where it is such a table
abbrev pub page_text : Data → Option PageText
page_text value = option_and_then table_text (as_table value)

-- what the document spells, where each value has its type
abbrev pub spelled : Members → Option Spelled
spelled ms = do
  version ← number_at (codes "version") ms
  base ← number_at (codes "base") ms
  entry ← number_at (codes "entry") ms
  budget ← number_at (codes "budget") ms
  signer ← text_at (codes "signer") ms
  items ← items_at (codes "page") ms
  pages ← each_of page_text items
  Some (record { version = version; base = base; entry = entry; budget = budget; signer = signer; pages = pages })
