-- What the functions that split a line into words say of them.
use Rattle.std.specs.Prelude.{◌≡◌, ◌≢◌, ℕ, List, [], ◌∷◌, length, Result, MatchResult}
use Rattle.ak_script.specs.declared.fault.Refusal.{Refusal}
use Rattle.ak_script.specs.declared.fault.Refusal.TheVariants as why

-- this word stands before those, if it is one
abbrev pub word_before : List ℕ → List (List ℕ) → List (List ℕ)
word_before [] words = []
word_before (b ∷ bs) words = (b ∷ bs) ∷ words

-- the words are these, or of another number
abbrev pub AreWords : {T : Type 0} → Result T Refusal → (T → List (List ℕ)) → ℕ → List (List ℕ) → Type 0
AreWords result shown n words = MatchResult result (λ found. words ≡ shown found) (λ reason. (reason ≡ why.Words) × (length words ≢ n))
