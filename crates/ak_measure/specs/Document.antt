-- The TOML document that bytes spell.
use Rattle.std.specs.Prelude.{ℕ, List, [], ◌∷◌, Option, None, if◌then◌else◌}
use Rattle.std.specs.Str.{is_utf8}
use Rattle.toml.specs.Data.{Data, Items, no_items, item, Members, no_members, member}
use Rattle.toml.specs.Parse.{parse_document}

-- UTF-8 text that is a document of TOML 1.1, as the members of its root, which ascend by their keys
abbrev pub document_of : List ℕ → Option Members
document_of bytes = if is_utf8 bytes then parse_document bytes else None

-- the items of an array
abbrev pub listed : Items → List Data
listed no_items = []
listed (item d rest) = d ∷ listed rest

-- the entries of a table
abbrev pub entries_of : Members → List (List ℕ × Data)
entries_of no_members = []
entries_of (member key d rest) = (key, d) ∷ entries_of rest
