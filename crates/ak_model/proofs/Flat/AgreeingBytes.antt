-- Bytes beside the parts of an encoding: whether they agree as far as both go, whatever fields they spell.
use Rattle.std.proofs.Common.{◌≡◌, ℕ, ◌+◌, ◌*◌, ◌/◌, ◌<◌, ◌≤◌, List, [], ◌∷◌, ◌++◌, length, arith, refl, ◌⊎◌, inl, inr}
use Rattle.std.specs.Prelude.{Bool, true, false, ◌&&◌, ◌||◌, not, ◌%◌, nat_lt, ◌==◌}
use Rattle.std.specs.Bool.{then_some}
use Rattle.std.specs.List.{list_all}
use Rattle.std.proofs.lemmas.Bool.{and_parts}
use Rattle.std.proofs.lemmas.Bool.Decides.{nat_tests}
use Rattle.ak_model.specs.Flat.Encodings.{Part, Byte, W, WB, N, High, Plus, Both, Memory, Digit, Low, is_prefix, Fields, Match, Fits, Short, Differs, read_part, match_on, match_parts}

-- ---- One part

-- the byte is one of the part's
abbrev pub reads : Part → ℕ → Bool
reads (Byte value) v = v == value
reads W v = is_prefix v 9
reads WB v = v / 2 == 36
reads N v = is_prefix v 8
reads High v = v == 65
reads (Plus opcode) v = v / 8 == opcode / 8
reads Both v = v / 64 == 3
reads Memory v = (v / 64 == 2) && not (v % 8 == 4)
reads (Digit value) v = (v / 64 == 3) && (v / 8 % 8 == value)
reads (Low place) v = true

match_on-then_some : (b : Bool) (fields : Fields) (next : Fields → Match) (P : Match → Type 0) → (b ≡ true → P (next fields)) → (b ≡ false → P Differs) → P (match_on (then_some b fields) next)
match_on-then_some true fields next P on off = on refl
match_on-then_some false fields next P on off = off refl

-- a part goes on with some fields, or the byte differs
on_part : (part : Part) (v : ℕ) (fields : Fields) (next : Fields → Match) (P : Match → Type 0) → ((out : Fields) → reads part v ≡ true → P (next out)) → (reads part v ≡ false → P Differs) → P (match_on (read_part part v fields) next)
on_part (Byte value) v fields next P on off = match_on-then_some _ _ next P (on _) off
on_part W v fields next P on off = match_on-then_some _ _ next P (on _) off
on_part WB v fields next P on off = match_on-then_some _ _ next P (on _) off
on_part N v fields next P on off = match_on-then_some _ _ next P (on _) off
on_part High v fields next P on off = match_on-then_some _ _ next P (on _) off
on_part (Plus opcode) v fields next P on off = match_on-then_some _ _ next P (on _) off
on_part Both v fields next P on off = match_on-then_some _ _ next P (on _) off
on_part Memory v fields next P on off = match_on-then_some _ _ next P (on _) off
on_part (Digit value) v fields next P on off = match_on-then_some _ _ next P (on _) off
on_part (Low place) v fields next P on off = on _ refl

-- ---- All parts

-- the bytes agree with the parts, as far as both go
abbrev pub agree : List Part → List ℕ → Bool
agree [] bytes = true
agree (part ∷ parts) [] = true
agree (part ∷ parts) (v ∷ bytes) = reads part v && agree parts bytes

-- what a match says
abbrev pub Says : List Part → List ℕ → Match → Type 0
Says parts bytes (Fits fields) = (agree parts bytes ≡ true) × (length parts ≤ length bytes)
Says parts bytes Short = (agree parts bytes ≡ true) × (length bytes < length parts)
Says parts bytes Differs = agree parts bytes ≡ false

one_more : (part : Part) (parts : List Part) (v : ℕ) (bytes : List ℕ) (m : Match) → reads part v ≡ true → Says parts bytes m → Says (part ∷ parts) (v ∷ bytes) m
one_more part parts v bytes (Fits fields) r s = (rw r s.0, omega (arith, s.1))
one_more part parts v bytes Short r s = (rw r s.0, omega (arith, s.1))
one_more part parts v bytes Differs r s = rw r s

pub says : (parts : List Part) (bytes : List ℕ) (fields : Fields) → Says parts bytes (match_parts parts bytes fields)
says [] bytes fields = (refl, omega arith)
says (part ∷ parts) [] fields = (refl, omega arith)
says (part ∷ parts) (v ∷ bytes) fields =
    on_part part v fields (match_parts parts bytes) (Says (part ∷ parts) (v ∷ bytes))
    (λ out r. one_more part parts v bytes (match_parts parts bytes out) r (says parts bytes out))
    (λ r. rw r refl)

-- ---- Parts that have no byte in common

-- the least byte of a part
abbrev pub least : Part → ℕ
least (Byte value) = value
least W = 72
least WB = 72
least N = 64
least High = 65
least (Plus opcode) = opcode / 8 * 8
least Both = 192
least Memory = 128
least (Digit value) = 192 + 8 * value
least (Low place) = 0

-- each byte of the part is below n
abbrev pub is_below : Part → ℕ → Bool
is_below (Byte value) n = nat_lt value n
is_below W n = nat_lt 77 n
is_below WB n = nat_lt 73 n
is_below N n = nat_lt 69 n
is_below High n = nat_lt 65 n
is_below (Plus opcode) n = nat_lt (opcode / 8 * 8 + 7) n
is_below Both n = nat_lt 255 n
is_below Memory n = nat_lt 191 n
is_below (Digit value) n = nat_lt (199 + 8 * value) n
is_below (Low place) n = false

least_reads : (part : Part) (v : ℕ) → reads part v ≡ true → least part ≤ v
least_reads (Byte value) v r = grind (arith, nat_tests)
least_reads W v r = grind (arith, nat_tests)
least_reads WB v r = grind (arith, nat_tests)
least_reads N v r = grind (arith, nat_tests)
least_reads High v r = grind (arith, nat_tests)
least_reads (Plus opcode) v r = grind (arith, nat_tests)
least_reads Both v r = grind (arith, nat_tests)
least_reads Memory v r = grind (arith, nat_tests)
least_reads (Digit value) v r = grind (arith, nat_tests)
least_reads (Low place) v r = omega arith

below_reads : (part : Part) (n v : ℕ) → is_below part n ≡ true → reads part v ≡ true → v < n
below_reads (Byte value) n v b r = grind (arith, nat_tests)
below_reads W n v b r = grind (arith, nat_tests)
below_reads WB n v b r = grind (arith, nat_tests)
below_reads N n v b r = grind (arith, nat_tests)
below_reads High n v b r = grind (arith, nat_tests)
below_reads (Plus opcode) n v b r = grind (arith, nat_tests)
below_reads Both n v b r = grind (arith, nat_tests)
below_reads Memory n v b r = grind (arith, nat_tests)
below_reads (Digit value) n v b r = grind (arith, nat_tests)
below_reads (Low place) n v b r = absurd (cc)

-- one has all its bytes below the other's
abbrev pub are_apart : Part → Part → Bool
are_apart p q = is_below p (least q) || is_below q (least p)

or_apart : (a b : Bool) (p q : Part) (v : ℕ) → a || b ≡ true → is_below p (least q) ≡ a → is_below q (least p) ≡ b → reads p v ≡ true → reads q v ≡ true → ⊥
or_apart true b p q v e below above r s = let x = below_reads p (least q) v below r in let y = least_reads q v s in omega arith
or_apart false true p q v e below above r s = let x = below_reads q (least p) v above s in let y = least_reads p v r in omega arith
or_apart false false p q v e below above r s = absurd (cc)

apart_reads : (p q : Part) (v : ℕ) → are_apart p q ≡ true → reads p v ≡ true → reads q v ≡ true → ⊥
apart_reads p q v e r s = or_apart _ _ p q v e refl refl r s

-- at some place, before either ends, the two have no byte in common
abbrev pub part_ways : List Part → List Part → Bool
part_ways [] qs = false
part_ways (p ∷ ps) [] = false
part_ways (p ∷ ps) (q ∷ qs) = are_apart p q || part_ways ps qs

or_ways : (a b : Bool) → a || b ≡ true → (a ≡ true → ⊥) → (b ≡ true → ⊥) → ⊥
or_ways true b e f g = f refl
or_ways false b e f g = g e

-- so no bytes agree with both to the end of one
pub ways_agree : (ps qs : List Part) (bytes : List ℕ) → part_ways ps qs ≡ true → (length ps ≤ length bytes) ⊎ (length qs ≤ length bytes) → agree ps bytes ≡ true → agree qs bytes ≡ true → ⊥
ways_agree [] qs bytes w l a b = absurd (cc)
ways_agree (p ∷ ps) [] bytes w l a b = absurd (cc)
ways_agree (p ∷ ps) (q ∷ qs) [] w (inl h) a b = absurd (omega arith)
ways_agree (p ∷ ps) (q ∷ qs) [] w (inr h) a b = absurd (omega arith)
ways_agree (p ∷ ps) (q ∷ qs) (v ∷ bytes) w l a b =
    let x = and_parts (reads p v) (agree ps bytes) a in let y = and_parts (reads q v) (agree qs bytes) b in
    or_ways (are_apart p q) (part_ways ps qs) w (λ e. apart_reads p q v e x.0 y.0)
    (λ e. ways_agree ps qs bytes e (shorter l) x.1 y.1)
  where
    shorter : (length (p ∷ ps) ≤ length (v ∷ bytes)) ⊎ (length (q ∷ qs) ≤ length (v ∷ bytes)) → (length ps ≤ length bytes) ⊎ (length qs ≤ length bytes)
    shorter (inl h) = inl (omega arith)
    shorter (inr h) = inr (omega arith)

-- what agrees with more bytes agrees with fewer
pub agree-append : (parts : List Part) (bytes more : List ℕ) → agree parts (bytes ++ more) ≡ true → agree parts bytes ≡ true
agree-append [] bytes more a = refl
agree-append (part ∷ parts) [] more a = refl
agree-append (part ∷ parts) (v ∷ bytes) more a =
    let x = and_parts (reads part v) (agree parts (bytes ++ more)) a in rw x.0 (agree-append parts bytes more x.1)

-- ---- Bytes that go on to an encoding

-- a byte of the part
abbrev pub some_byte : Part → ℕ
some_byte (Byte value) = value
some_byte W = 0x48
some_byte WB = 0x48
some_byte N = 0x40
some_byte High = 0x41
some_byte (Plus opcode) = opcode
some_byte Both = 0xc0
some_byte Memory = 0x80
some_byte (Digit value) = 0xc0 + 8 * value
some_byte (Low place) = 0

-- each part has a byte
abbrev pub have_bytes : List Part → Bool
have_bytes parts = list_all (λ part. reads part (some_byte part) && nat_lt (some_byte part) 256) parts

-- what is wanting after these bytes
abbrev pub ending : List Part → List ℕ → List ℕ
ending [] bytes = []
ending (part ∷ parts) [] = some_byte part ∷ ending parts []
ending (part ∷ parts) (v ∷ bytes) = ending parts bytes

pub ending_agrees : (parts : List Part) (bytes : List ℕ) → have_bytes parts ≡ true → agree parts bytes ≡ true → agree parts (bytes ++ ending parts bytes) ≡ true
ending_agrees [] bytes h a = refl
ending_agrees (part ∷ parts) [] h a =
    let x = and_parts (reads part (some_byte part) && nat_lt (some_byte part) 256) (have_bytes parts) h in
    let y = and_parts (reads part (some_byte part)) (nat_lt (some_byte part) 256) x.0 in
    rw y.0 (ending_agrees parts [] x.1 (none parts))
  where
    none : (ps : List Part) → agree ps [] ≡ true
    none [] = refl
    none (p ∷ ps) = refl
ending_agrees (part ∷ parts) (v ∷ bytes) h a =
    let x = and_parts (reads part (some_byte part) && nat_lt (some_byte part) 256) (have_bytes parts) h in
    let y = and_parts (reads part v) (agree parts bytes) a in
    rw y.0 (ending_agrees parts bytes x.1 y.1)

pub length-ending : (parts : List Part) (bytes : List ℕ) → length bytes ≤ length parts → length bytes + length (ending parts bytes) ≡ length parts
length-ending [] bytes l = omega arith
length-ending (part ∷ parts) [] l = let e = length-ending parts [] (omega arith) in omega arith
length-ending (part ∷ parts) (v ∷ bytes) l = let e = length-ending parts bytes (omega arith) in omega arith

-- they are bytes
pub ending_bytes : (parts : List Part) (bytes : List ℕ) → have_bytes parts ≡ true → list_all (λ v. nat_lt v 256) (ending parts bytes) ≡ true
ending_bytes [] bytes h = refl
ending_bytes (part ∷ parts) [] h =
    let x = and_parts (reads part (some_byte part) && nat_lt (some_byte part) 256) (have_bytes parts) h in
    let y = and_parts (reads part (some_byte part)) (nat_lt (some_byte part) 256) x.0 in
    rw y.1 (ending_bytes parts [] x.1)
ending_bytes (part ∷ parts) (v ∷ bytes) h =
    let x = and_parts (reads part (some_byte part) && nat_lt (some_byte part) 256) (have_bytes parts) h in
    ending_bytes parts bytes x.1
