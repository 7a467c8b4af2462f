-- Bytes and their document; the values and entries of the code as those of the document.
use Rattle.std.proofs.Common.{◌≡◌, ℕ, Bool, true, false, cond, List, [], ◌∷◌, map, Option, Some, None, refl, ap, string_bytes}
use Rattle.std.specs.Str.{is_utf8, IsUtf8}
use Rattle.std.proofs.lemmas.Str.{IsUtf8-from_is_utf8, is_utf8-from_IsUtf8}
use Rattle.toml.specs.Data.{Members}
use Rattle.toml.specs.Parse.{parse_document}
use Rattle.toml.specs.View.{view, items_view, members_view}
use Rattle.toml.specs.declared.value.Value.{Value}
use Rattle.toml.proofs.Views.{Entry}
use Rattle.ak_measure.specs.Document.{document_of, listed, entries_of}

-- bytes that were read
pub document_of-read : (bytes : List ℕ) (ms : Members) → IsUtf8 bytes → parse_document bytes ≡ Some ms → document_of bytes ≡ Some ms
document_of-read bytes ms text parsed = rw (is_utf8-from_IsUtf8 bytes text) parsed

by_case : {A : Type 0} {x : Option A} (b : Bool) → (b ≡ true → x ≡ None) → cond b x None ≡ None
by_case true none = none refl
by_case false none = refl

-- bytes that were refused
pub document_of-none : (bytes : List ℕ) → (IsUtf8 bytes → parse_document bytes ≡ None) → document_of bytes ≡ None
document_of-none bytes none = by_case (is_utf8 bytes) (λ text. none (IsUtf8-from_is_utf8 bytes text))

-- the items of an array, and the entries of a table
pub listed-items_view : (values : List Value) → listed (items_view values) ≡ map view values
listed-items_view [] = refl
listed-items_view (v ∷ values) = ap (λ ds. view v ∷ ds) (listed-items_view values)

pub entries_of-members_view : (es : List Entry) → entries_of (members_view es) ≡ map (λ e. (string_bytes e.0, view e.1)) es
entries_of-members_view [] = refl
entries_of-members_view (e ∷ es) = ap (λ ds. (string_bytes e.0, view e.1) ∷ ds) (entries_of-members_view es)
