-- Words whose first is no command.
use Rattle.std.proofs.Common.{◌≡◌, false, List, [], ◌∷◌, Option, Some, None, codes, refl, map, string_bytes}
use Rattle.std.specs.Prelude.{slice_get, String}
use Rattle.std.specs.Option.{option_and_then}
use Rattle.std.specs.Str.{bytes_eq}
use Rattle.std.proofs.lemmas.Bool.{false_from_ne_true}
use Rattle.std.proofs.lemmas.Slice.Eq.{bytes_eq-Decides}
use Rattle.ak_words.specs.Asked.{asked_with, words_of}
use Rattle.ak_words.specs.Scan.{Given, Text, given_by}

different : (a b : Text) → (a ≡ b → ⊥) → bytes_eq a b ≡ false
different a b other = false_from_ne_true (bytes_eq a b) (λ same. other ((bytes_eq-Decides a b).0 same))

nothing_asked : (command : Text) (given : Option Given) → bytes_eq command (codes "run") ≡ false → bytes_eq command (codes "measure") ≡ false
    → bytes_eq command (codes "demo") ≡ false → None ≡ option_and_then (asked_with command) given
nothing_asked command None e f g = refl
nothing_asked command (Some given) e f g = rw (e, f, g) refl

pub other_command : {Z : Type 0} (words : List (String Z)) (command : String Z) → Some command ≡ slice_get words 0
    → (string_bytes command ≡ codes "run" → ⊥) → (string_bytes command ≡ codes "measure" → ⊥) → (string_bytes command ≡ codes "demo" → ⊥) → None ≡ words_of (map string_bytes words)
other_command [] command is run measure demo = refl
other_command (w ∷ words) command is run measure demo =
    let same : command ≡ w = cc is in
    nothing_asked (string_bytes w) (given_by (map string_bytes words))
    (rw same at (different (string_bytes command) (codes "run") run)) (rw same at (different (string_bytes command) (codes "measure") measure))
    (rw same at (different (string_bytes command) (codes "demo") demo))
