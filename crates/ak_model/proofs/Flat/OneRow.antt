-- Decoding by rows that part ways: what is read, is read of one row, whatever their order.
use Rattle.std.proofs.Common.{◌≡◌, ℕ, zero, suc, ◌<◌, ◌≤◌, List, [], ◌∷◌, length, arith, refl, ap, sym, ◌∙◌, subst, inl, inr}
use Rattle.std.specs.Prelude.{Bool, true, false, ◌&&◌, Some}
use Rattle.std.specs.List.{list_all, slice_get}
use Rattle.std.proofs.lemmas.Bool.{and_parts}
use Rattle.ak_core.specs.declared.instruction.Instr.{Instr}
use Rattle.ak_core.specs.declared.instruction.Decoded.{Decoded}
use Rattle.ak_core.specs.declared.instruction.Decoded.TheVariants.{Whole, NeedMore, Illegal}
use Rattle.ak_model.specs.Flat.Encodings.{Part, Fields, Row, Match, Fits, Short, Differs, no_fields, match_parts, decoded_as, decode_by}
use Rattle.ak_model.proofs.Flat.AgreeingBytes.{agree, Says, says, part_ways, ways_agree}

-- ---- Rows that part ways

-- any two of the rows part ways
abbrev pub are_apart : List Row → Bool
are_apart [] = true
are_apart (row ∷ rows) = list_all (λ other. part_ways row.parts other.parts) rows && are_apart rows

-- a test that holds of each row
pub all_at : (test : Row → Bool) (rows : List Row) (i : ℕ) (row : Row) → list_all test rows ≡ true → slice_get rows i ≡ Some row → test row ≡ true
all_at test [] i row h e = absurd (cc)
all_at test (first ∷ rows) zero row h e =
    let x = and_parts (test first) (list_all test rows) h in let same : first ≡ row = cc in ap test (sym same) ∙ x.0
all_at test (first ∷ rows) (suc i) row h e = let x = and_parts (test first) (list_all test rows) h in all_at test rows i row x.1 e

-- so where bytes go to the end of one and agree with another, these are one
pub one_row : (rows : List Row) (i j : ℕ) (a b : Row) (bytes : List ℕ) → are_apart rows ≡ true → slice_get rows i ≡ Some a → slice_get rows j ≡ Some b → length a.parts ≤ length bytes → agree a.parts bytes ≡ true → agree b.parts bytes ≡ true → i ≡ j
one_row [] i j a b bytes h e f l x y = absurd (cc)
one_row (row ∷ rows) zero zero a b bytes h e f l x y = refl
one_row (row ∷ rows) zero (suc j) a b bytes h e f l x y =
    let both = and_parts (list_all (λ other. part_ways row.parts other.parts) rows) (are_apart rows) h in
    let same : row ≡ a = cc in let size = ap (λ r. length r.parts) same in
    absurd (ways_agree row.parts b.parts bytes (all_at (λ other. part_ways row.parts other.parts) rows j b both.0 f)
    (inl (omega arith)) (ap (λ r. agree r.parts bytes) same ∙ x) y)
one_row (row ∷ rows) (suc i) zero a b bytes h e f l x y =
    let both = and_parts (list_all (λ other. part_ways row.parts other.parts) rows) (are_apart rows) h in
    let same : row ≡ b = cc in
    absurd (ways_agree row.parts a.parts bytes (all_at (λ other. part_ways row.parts other.parts) rows i a both.0 e)
    (inr l) (ap (λ r. agree r.parts bytes) same ∙ y) x)
one_row (row ∷ rows) (suc i) (suc j) a b bytes h e f l x y =
    let both = and_parts (list_all (λ other. part_ways row.parts other.parts) rows) (are_apart rows) h in
    ap suc (one_row rows i j a b bytes both.1 e f l x y)

-- ---- What is decoded

-- the bytes fit a row to its end, and it spells this
pub record AtRow (rows : List Row) (bytes : List ℕ) (instr : Instr) (n : ℕ) : Type 0 where
  pub place : ℕ
  pub row : Row
  pub listed : slice_get rows place ≡ Some row
  pub fields : Fields
  pub fits : match_parts row.parts bytes no_fields ≡ Fits fields
  pub size : length row.parts ≡ n
  pub spelled : row.spells fields ≡ instr

-- the bytes are short of a row
pub record ShortOf (rows : List Row) (bytes : List ℕ) : Type 0 where
  pub place : ℕ
  pub row : Row
  pub listed : slice_get rows place ≡ Some row
  pub agrees : agree row.parts bytes ≡ true
  pub short : length bytes < length row.parts

abbrev pub Found : List Row → List ℕ → Decoded → Type 0
Found rows bytes (Whole instr n) = AtRow rows bytes instr n
Found rows bytes NeedMore = ShortOf rows bytes
Found rows bytes Illegal = (place : ℕ) (row : Row) → slice_get rows place ≡ Some row → agree row.parts bytes ≡ false

later : (row : Row) (rows : List Row) (bytes : List ℕ) (d : Decoded) → agree row.parts bytes ≡ false → Found rows bytes d → Found (row ∷ rows) bytes d
later row rows bytes (Whole instr n) off f = record { place = suc f.place; row = f.row; listed = f.listed; fields = f.fields; fits = f.fits; size = f.size; spelled = f.spelled }
later row rows bytes NeedMore off f = record { place = suc f.place; row = f.row; listed = f.listed; agrees = f.agrees; short = f.short }
later row rows bytes Illegal off f = λ place other e. at place other e
  where
    at : (place : ℕ) (other : Row) → slice_get (row ∷ rows) place ≡ Some other → agree other.parts bytes ≡ false
    at zero other e = let same : row ≡ other = cc in ap (λ r. agree r.parts bytes) (sym same) ∙ off
    at (suc place) other e = f place other e

by_match : (row : Row) (rows : List Row) (bytes : List ℕ) (m : Match) (others : Decoded) → match_parts row.parts bytes no_fields ≡ m → Says row.parts bytes m → Found rows bytes others → Found (row ∷ rows) bytes (decoded_as m row others)
by_match row rows bytes (Fits fields) others e s f = record { place = 0; row = row; listed = refl; fields = fields; fits = e; size = refl; spelled = refl }
by_match row rows bytes Short others e s f = record { place = 0; row = row; listed = refl; agrees = s.0; short = s.1 }
by_match row rows bytes Differs others e s f = later row rows bytes others s f

pub found : (rows : List Row) (bytes : List ℕ) → Found rows bytes (decode_by rows bytes)
found [] bytes = λ place row e. absurd (cc)
found (row ∷ rows) bytes = by_match row rows bytes (match_parts row.parts bytes no_fields) (decode_by rows bytes) refl (says row.parts bytes no_fields) (found rows bytes)

-- ---- Whatever the order of the rows

pub record Agrees (row : Row) (bytes : List ℕ) : Type 0 where
  pub agrees : agree row.parts bytes ≡ true
  pub whole : length row.parts ≤ length bytes

-- where bytes fit a row, they agree with it to its end
pub fits_agrees : (row : Row) (bytes : List ℕ) (fields : Fields) → match_parts row.parts bytes no_fields ≡ Fits fields → Agrees row bytes
fits_agrees row bytes fields e =
    let s = subst (Says row.parts bytes) e (says row.parts bytes no_fields) in record { agrees = s.0; whole = s.1 }

by_says : (parts : List Part) (bytes : List ℕ) (m : Match) → Says parts bytes m → agree parts bytes ≡ true → length parts ≤ length bytes → (fields : Fields) × (m ≡ Fits fields)
by_says parts bytes (Fits fields) s a l = (fields, refl)
by_says parts bytes Short s a l = absurd (omega (arith, s.1))
by_says parts bytes Differs s a l = absurd (cc)

-- and where they agree so, they fit
pub agrees_fits : (parts : List Part) (bytes : List ℕ) → agree parts bytes ≡ true → length parts ≤ length bytes → (fields : Fields) × (match_parts parts bytes no_fields ≡ Fits fields)
agrees_fits parts bytes a l = by_says parts bytes (match_parts parts bytes no_fields) (says parts bytes no_fields) a l

-- one place has one row
pub same_row : (rows : List Row) (i j : ℕ) (a b : Row) → i ≡ j → slice_get rows i ≡ Some a → slice_get rows j ≡ Some b → a ≡ b
same_row rows i j a b same e f = let places = ap (slice_get rows) same in cc

-- one row spells one instruction
pub same_spelling : (a b : Row) (bytes : List ℕ) (x y : Fields) (instr instr' : Instr) (n n' : ℕ) → a ≡ b → match_parts a.parts bytes no_fields ≡ Fits x → match_parts b.parts bytes no_fields ≡ Fits y → length a.parts ≡ n → length b.parts ≡ n' → a.spells x ≡ instr → b.spells y ≡ instr' → Whole instr n ≡ Whole instr' n'
same_spelling a b bytes x y instr instr' n n' same e f size size' spells spells' =
    let fit = ap (λ (r : Row). match_parts r.parts bytes no_fields) same in
    let fields : x ≡ y = cc in
    let long = ap (λ (r : Row). length r.parts) same in
    let spelled = ap (λ (r : Row). r.spells x) same ∙ ap b.spells fields in
    cc

-- a whole instruction is found where there is one
pub whole_here : (rows : List Row) (bytes : List ℕ) (d : Decoded) (instr : Instr) (n : ℕ) → are_apart rows ≡ true → Found rows bytes d → AtRow rows bytes instr n → d ≡ Whole instr n
whole_here rows bytes (Whole instr' n') instr n h f a =
    let x = fits_agrees f.row bytes f.fields f.fits in let y = fits_agrees a.row bytes a.fields a.fits in
    let place = one_row rows f.place a.place f.row a.row bytes h f.listed a.listed x.whole x.agrees y.agrees in
    same_spelling f.row a.row bytes f.fields a.fields instr' instr n' n (same_row rows f.place a.place f.row a.row place f.listed a.listed) f.fits a.fits f.size a.size f.spelled a.spelled
whole_here rows bytes NeedMore instr n h f a =
    let y = fits_agrees a.row bytes a.fields a.fits in
    let place = one_row rows a.place f.place a.row f.row bytes h a.listed f.listed y.whole y.agrees f.agrees in
    let size = ap (λ r. length r.parts) (same_row rows a.place f.place a.row f.row place a.listed f.listed) in
    absurd (omega (arith, y.whole, f.short))
whole_here rows bytes Illegal instr n h f a =
    let y = fits_agrees a.row bytes a.fields a.fits in let off = f a.place a.row a.listed in absurd (cc (y.agrees))

-- more is wanted where the bytes are short of a row
pub short_here : (rows : List Row) (bytes : List ℕ) (d : Decoded) → are_apart rows ≡ true → Found rows bytes d → ShortOf rows bytes → d ≡ NeedMore
short_here rows bytes (Whole instr n) h f s =
    let x = fits_agrees f.row bytes f.fields f.fits in
    let place = one_row rows f.place s.place f.row s.row bytes h f.listed s.listed x.whole x.agrees s.agrees in
    let size = ap (λ r. length r.parts) (same_row rows f.place s.place f.row s.row place f.listed s.listed) in
    absurd (omega (arith, x.whole, s.short))
short_here rows bytes NeedMore h f s = refl
short_here rows bytes Illegal h f s = let off = f s.place s.row s.listed in absurd (cc (s.agrees))
