-- Clap's rows, where each has one value.
use Rattle.std.proofs.Common.{◌≡◌, inl, inr, ◌||◌, Bool, true, false, cond, List, [], ◌∷◌, ◌++◌, map, Option, Some, None, is_some, refl, sym, ap, ◌∙◌, fold, append-nil}
use Rattle.std.specs.Str.{bytes_eq}
use Rattle.std.proofs.lemmas.Bool.{cases_Bool}
use Rattle.clap.specs.Words.{Row, Rule, Text, first_of}
use Rattle.clap.specs.Walk.{at_row, has_row, more_values, with_default, with_values, without}
use Rattle.clap.specs.Takes.{is_given}
use Rattle.clap.specs.Faults.{default_fault, defaults_fault}
use Rattle.clap.specs.declared.builder.value_parser.Reading.TheVariants as reading
use Rattle.clap.specs.declared.parser.matches.ValueSource.TheVariants.{CommandLine}

-- ids with a value each
abbrev pub Uses : Type 0
Uses = List (Text × Text)

abbrev pub row : Text × Text → Row
row u = record { id = u.0; values = u.1 ∷ []; count = None; source = Some CommandLine; reading = reading.AsWritten }

abbrev pub rows : Uses → List Row
rows uses = map row uses

-- the first of two that is there
abbrev pub first_some : Option Text → Option Text → Option Text
first_some None more = more
first_some (Some x) more = Some x

-- one more value
pub first_of-more : (id : Text) (uses : Uses) (u : Text × Text) → first_of id (rows (uses ++ u ∷ [])) ≡ first_some (first_of id (rows uses)) (cond (bytes_eq u.0 id) (Some u.1) None)
first_of-more id [] u = elim (cases_Bool (bytes_eq u.0 id)) [
  | inl hit ↦ rw hit refl
  | inr miss ↦ rw miss refl
]
first_of-more id (x ∷ uses) u = elim (cases_Bool (bytes_eq x.0 id)) [
  | inl hit ↦ rw hit refl
  | inr miss ↦ rw miss (first_of-more id uses u)
]

-- a row is there where its value is
pub has_row-is : (id : Text) (uses : Uses) → has_row id (rows uses) ≡ is_some (first_of id (rows uses))
has_row-is id [] = refl
has_row-is id (x ∷ uses) = elim (cases_Bool (bytes_eq x.0 id)) [
  | inl hit ↦ rw hit refl
  | inr miss ↦ rw miss (has_row-is id uses)
]

pub is_given-is : (id : Text) (uses : Uses) → is_given id (rows uses) ≡ is_some (first_of id (rows uses))
is_given-is id [] = refl
is_given-is id (x ∷ uses) = elim (cases_Bool (bytes_eq x.0 id)) [
  | inl hit ↦ rw hit refl
  | inr miss ↦ rw miss (is_given-is id uses)
]

-- an id that has no row gets one at the end
at_row-new : (id : Text) (change : Row → List Row) (missing : List Row) (rs : List Row) → has_row id rs ≡ false → at_row id change missing rs ≡ rs ++ missing
at_row-new id change missing [] e = refl
at_row-new id change missing (r ∷ rs) e = elim (cases_Bool (bytes_eq r.id id)) [
  | inl hit ↦ let bad : true ≡ false = rw hit at e in absurd (cc bad)
  | inr miss ↦ let rest : has_row id rs ≡ false = rw miss at e in rw miss (ap (λ (more : List Row). r ∷ more) (at_row-new id change missing rs rest))
]

rows-more : (uses : Uses) (u : Text × Text) → rows (uses ++ u ∷ []) ≡ rows uses ++ row u ∷ []
rows-more [] u = refl
rows-more (x ∷ uses) u = ap (λ (more : List Row). row x ∷ more) (rows-more uses u)

-- a first use
pub use-new : (id v : Text) (uses : Uses) → has_row id (rows uses) ≡ false → with_values id reading.AsWritten CommandLine (v ∷ []) (without id (rows uses)) ≡ rows (uses ++ (id, v) ∷ [])
use-new id v uses e =
    let none : without id (rows uses) ≡ rows uses = at_row-new id (λ _. []) [] (rows uses) e ∙ append-nil (rows uses) in
    rw none (at_row-new id (more_values CommandLine (v ∷ [])) (row (id, v) ∷ []) (rows uses) e ∙ sym (rows-more uses (id, v)))

-- no argument has a default
same : {X : Type 0} (b : Bool) (x : X) → cond b x x ≡ x
same true x = refl
same false x = refl

or-true : (b : Bool) → (b || true) ≡ true
or-true true = refl
or-true false = refl

abbrev pub HasNone : List Rule → Type 0
HasNone [] = Unit {0}
HasNone (a ∷ rules) = (a.defaults ≡ []) × HasNone rules

pub no_defaults : (rs : List Row) (rules : List Rule) → HasNone rules → fold with_default rs rules ≡ rs
no_defaults rs [] h = refl
no_defaults rs (a ∷ rules) h =
    let this : with_default rs a ≡ rs = rw h.0 (same (has_row a.id rs) rs) in
    rw this (no_defaults rs rules h.1)

pub no_default_faults : (rs : List Row) (rules : List Rule) → HasNone rules → defaults_fault rs rules ≡ []
unfolding defaults_fault
no_default_faults rs [] h = refl
no_default_faults rs (a ∷ rules) h =
    let this : with_default rs a ≡ rs = rw h.0 (same (has_row a.id rs) rs) in
    let no_fault : default_fault rs a ≡ [] = rw (h.0, or-true (has_row a.id rs)) refl in
    rw (no_fault, this) (no_default_faults rs rules h.1)
