-- What is known and allowed where there is a single signer.
use Rattle.std.proofs.Common.{◌≡◌, ℕ, Bool, true, false, cond, ◌||◌, ◌&&◌, List, [], ◌∷◌, Some, None, is_some, refl}
use Rattle.std.proofs.lemmas.Bool.Decides.{Decides-at, Decides-and}
use Rattle.std.proofs.lemmas.Slice.Eq.{bytes_eq-Decides}
use Rattle.std.specs.Bool.{Decides}
use Rattle.std.specs.List.{list_any}
use Rattle.std.specs.Option.{option_map_or}
use Rattle.std.specs.Str.{bytes_eq}
use Rattle.ak_measure.specs.Signers.{single, knows, allows}

found : {A : Type 0} (b : Bool) (x : A) → is_some (cond b (Some x) None) ≡ b
found true x = refl
found false x = refl

or_false : (b : Bool) → (b || false) ≡ b
or_false true = refl
or_false false = refl

signed_by : (b : Bool) (digest signed : List ℕ) → option_map_or (list_any (bytes_eq signed)) (cond b (Some (digest ∷ [])) None) false ≡ (b && bytes_eq signed digest)
signed_by true digest signed = or_false (bytes_eq signed digest)
signed_by false digest signed = refl

pub Decides-knows-single : (name digest other : List ℕ) → Decides (knows (single name digest) other) (other ≡ name)
Decides-knows-single name digest other = Decides-at _ _ (found (bytes_eq other name) (digest ∷ [])) (bytes_eq-Decides other name)

pub Decides-allows-single : (name digest other signed : List ℕ) → Decides (allows (single name digest) other signed) ((other ≡ name) × (signed ≡ digest))
Decides-allows-single name digest other signed =
    Decides-at _ _ (signed_by (bytes_eq other name) digest signed)
    (Decides-and (bytes_eq other name) (bytes_eq signed digest) (bytes_eq-Decides other name) (bytes_eq-Decides signed digest))
