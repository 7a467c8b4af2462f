-- What an accepted reading says of its stages.
use Rattle.std.proofs.Common.{◌≡◌, ℕ, ℤ, pos, negsuc, Bool, true, false, Option, Some, None, Result, Ok, Err, cond, refl, ap, ◌∙◌}
use Rattle.std.specs.Option.{ok_or}
use Rattle.ak_measure.specs.Stages.{◌>>=◌}
use Rattle.ak_image.specs.Stages.{◌>>◌, refuse}
use Rattle.ak_image.specs.Numbers.{number_where}
use Rattle.ak_image.specs.declared.fault.ImageFault.{ImageFault}

-- the value of a stage, and what the next one gives
pub accepted : {A B E : Type 0} (r : Result A E) (next : A → Result B E) (y : B) → (r >>= next) ≡ Ok y → (x : A) × (r ≡ Ok x) × (next x ≡ Ok y)
accepted (Ok x) next y h = (x, refl, h)
accepted (Err e) next y h = (cc)

pub accepted_then : {A B E : Type 0} (r : Result A E) (next : Result B E) (y : B) → (r >> next) ≡ Ok y → (x : A) × (r ≡ Ok x) × (next ≡ Ok y)
accepted_then (Ok x) next y h = (x, refl, h)
accepted_then (Err e) next y h = (cc)

pub found : {A E : Type 0} (o : Option A) (e : E) (x : A) → ok_or o e ≡ Ok x → o ≡ Some x
found None e x h = (cc)
found (Some y) e x h = (cc)

pub not_refused : (fault : ImageFault) (b : Bool) (u : Unit {0}) → refuse fault b ≡ Ok u → b ≡ false
not_refused fault true u h = (cc)
not_refused fault false u h = refl

chosen : (b : Bool) (test : ℕ → Bool) (k n : ℕ) → test k ≡ b → cond b (Some k) None ≡ Some n → test n ≡ true
chosen true test k n t h = let same : n ≡ k = cc in ap test same ∙ t
chosen false test k n t h = (cc)

pub number-passes : (test : ℕ → Bool) (z : ℤ) (n : ℕ) → number_where test z ≡ Some n → test n ≡ true
number-passes test (pos k) n h = chosen (test k) test k n refl h
number-passes test (negsuc k) n h = (cc)

-- ---- The stages over what a document spells

-- the first three stages: a value of each, and what the rest gives
pub record Begun {A1 A2 A3 B E : Type 0} (r1 : Result A1 E) (r2 : Result A2 E) (r3 : Result A3 E) (next : A2 → Result B E) (y : B) : Type 0 where
  pub version : A1
  pub version_is : r1 ≡ Ok version
  pub base : A2
  pub base_is : r2 ≡ Ok base
  pub count : A3
  pub count_is : r3 ≡ Ok count
  pub rest : next base ≡ Ok y

pub begun : {A1 A2 A3 B E : Type 0} (r1 : Result A1 E) (r2 : Result A2 E) (r3 : Result A3 E) (next : A2 → Result B E) (y : B)
    → (r1 >> (r2 >>= λ x. (r3 >> next x))) ≡ Ok y → Begun r1 r2 r3 next y
begun (Err e) r2 r3 next y h = absurd (let no : ⊥ = cc in no)
begun (Ok a) (Err e) r3 next y h = absurd (let no : ⊥ = cc in no)
begun (Ok a) (Ok b) (Err e) next y h = absurd (let no : ⊥ = cc in no)
begun (Ok a) (Ok b) (Ok c) next y h = record { version = a; version_is = refl; base = b; base_is = refl; count = c; count_is = refl; rest = h }

-- the last four: a value of each, and what is made of them
pub record Made {A4 A5 A6 A7 B E : Type 0} (r4 : Result A4 E) (r5 : Result A5 E) (r6 : Result A6 E) (r7 : Result A7 E) (make : A4 → A5 → A6 → A7 → B) (y : B) : Type 0 where
  pub perms : A4
  pub perms_is : r4 ≡ Ok perms
  pub bytes : A5
  pub bytes_is : r5 ≡ Ok bytes
  pub entry : A6
  pub entry_is : r6 ≡ Ok entry
  pub budget : A7
  pub budget_is : r7 ≡ Ok budget
  pub made : y ≡ make perms bytes entry budget

pub made : {A4 A5 A6 A7 B E : Type 0} (r4 : Result A4 E) (r5 : Result A5 E) (r6 : Result A6 E) (r7 : Result A7 E) (make : A4 → A5 → A6 → A7 → B) (y : B)
    → (r4 >>= λ p. r5 >>= λ b. r6 >>= λ e. r7 >>= λ g. Ok (make p b e g)) ≡ Ok y → Made r4 r5 r6 r7 make y
made (Err e) r5 r6 r7 make y h = absurd (let no : ⊥ = cc in no)
made (Ok p) (Err e) r6 r7 make y h = absurd (let no : ⊥ = cc in no)
made (Ok p) (Ok b) (Err e) r7 make y h = absurd (let no : ⊥ = cc in no)
made (Ok p) (Ok b) (Ok f) (Err e) make y h = absurd (let no : ⊥ = cc in no)
made (Ok p) (Ok b) (Ok f) (Ok g) make y h =
    record { perms = p; perms_is = refl; bytes = b; bytes_is = refl; entry = f; entry_is = refl; budget = g; budget_is = refl; made = cc }
