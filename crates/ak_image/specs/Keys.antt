-- The keys of an image's document.
use Rattle.std.specs.Prelude.{ℕ, Bool, not, ◌&&◌, ◌||◌, List, [], ◌∷◌, Option, Some, is_some, codes}
use Rattle.std.specs.List.{list_any, list_all, filter_map}
use Rattle.std.specs.Str.{bytes_eq}
use Rattle.toml.specs.Data.{Data, array, Members, get_member, as_table}
use Rattle.ak_measure.specs.Document.{listed, entries_of}

-- the keys at the top, and those of a page
abbrev pub top_keys : List (List ℕ)
top_keys = codes "version" ∷ codes "base" ∷ codes "entry" ∷ codes "budget" ∷ codes "signer" ∷ codes "page" ∷ []

abbrev pub page_keys : List (List ℕ)
page_keys = codes "perms" ∷ codes "cluster" ∷ codes "bytes" ∷ []

-- the tables in an array; in another value there are none
abbrev pub tables_in : Option Data → List Members
tables_in (Some (array ds)) = filter_map as_table (listed ds)
tables_in _ = []

abbrev pub page_tables : Members → List Members
page_tables ms = tables_in (get_member (codes "page") ms)

-- a key is none of these
abbrev pub is_other : List (List ℕ) → List ℕ → Bool
is_other known key = not (list_any (bytes_eq key) known)

-- a table has a key that is none of these
abbrev pub has_other : List (List ℕ) → Members → Bool
has_other known ms = list_any (λ e. is_other known e.0) (entries_of ms)

-- a table has each of these keys
abbrev pub has_each : List (List ℕ) → Members → Bool
has_each known ms = list_all (λ key. is_some (get_member key ms)) known

-- the document has another key at the top, or a table in the array `page` has one
abbrev pub has_unknown_key : Members → Bool
has_unknown_key ms = has_other top_keys ms || list_any (has_other page_keys) (page_tables ms)

-- no key is missing, at the top and in each such table
abbrev pub has_all_keys : Members → Bool
has_all_keys ms = has_each top_keys ms && list_all (has_each page_keys) (page_tables ms)
