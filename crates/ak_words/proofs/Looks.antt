-- What a word looks like, to clap and to the scan.
use Rattle.std.proofs.Common.{◌≡◌, ℕ, ◌+◌, ◌==◌, suc, Bool, true, false, not, cond, List, [], ◌∷◌, Option, Some, None, length, drop, codes, refl, sym, ap, ◌∙◌, map, string_bytes, arith, add_comm, add-one}
use Rattle.std.proofs.lemmas.Bool.Decides.{nat_tests}
use Rattle.std.specs.Prelude.{slice_get, String}
use Rattle.std.specs.Char.{encode_utf8}
use Rattle.std.proofs.lemmas.Str.{IsUtf8-string_bytes, encodes-chars}
use Rattle.std.specs.List.{prefix_len}
use Rattle.std.specs.Str.{bytes_eq, chars, encode_utf8_all, IsUtf8}
use Rattle.clap.specs.Lexer.{long_of, short_of, name_and_value}
use Rattle.ak_words.specs.Scan.{Kind, Text, is_dashed, is_equals, name_in, option_named, text_in}
use Rattle.ak_words.specs.Scan as kind

-- a word that is no option and no "--"
pub record IsPlain (w : Text) : Type 0 where
  pub long : long_of w ≡ None
  pub short : short_of w ≡ None
  pub dashes : bytes_eq w (45 ∷ 45 ∷ []) ≡ false

-- an option by its name without the dashes
abbrev pub named : Text → Option Text → Kind
named name text =
    cond (bytes_eq (codes "frames") name) (kind.option kind.frames text)
    (cond (bytes_eq (codes "processors") name) (kind.option kind.processors text) kind.unknown)

-- what a word other than "--" looks like
pub data Look (w : Text) : Type 0 where
  plain : IsPlain w → is_dashed w ≡ false → Look w
  long : (name : Text) (v : Option Text) → long_of w ≡ Some (name, v) → is_dashed w ≡ true → option_named (name_in w) (text_in w) ≡ named name v → Look w
  short : (flags : Text) (k : ℕ) → long_of w ≡ None → short_of w ≡ Some flags → length flags ≡ suc k → is_dashed w ≡ true → option_named (name_in w) (text_in w) ≡ kind.unknown → Look w

-- a dash stands before any `=`
name_in-dash : (rest : Text) → name_in (45 ∷ rest) ≡ 45 ∷ name_in rest
name_in-dash rest = rw (add_comm 1 (prefix_len (λ b. not (is_equals b)) rest), add-one) refl

text_in-dash : (rest : Text) → text_in (45 ∷ rest) ≡ text_in rest
text_in-dash rest =
    let before = prefix_len (λ b. not (is_equals b)) rest in
    rw (add_comm 1 before, add-one (before + 1)) refl

-- the name of `--name=value` after its dashes
long-named : (rest : Text) → option_named (name_in (45 ∷ 45 ∷ rest)) (text_in (45 ∷ 45 ∷ rest)) ≡ named (name_in rest) (text_in rest)
long-named rest =
    let n : name_in (45 ∷ 45 ∷ rest) ≡ 45 ∷ 45 ∷ name_in rest = name_in-dash (45 ∷ rest) ∙ ap (λ (x : Text). 45 ∷ x) (name_in-dash rest) in
    let t : text_in (45 ∷ 45 ∷ rest) ≡ text_in rest = text_in-dash (45 ∷ rest) ∙ text_in-dash rest in
    rw (n, t) refl

flipped : (d : ℕ) → (d == 45) ≡ false → (45 == d) ≡ false
flipped d f = grind (arith, nat_tests)

-- a first byte other than a dash, after one dash
second : (d : ℕ) (rest : Text) (b : Bool) → (d == 61) ≡ b → (d == 45) ≡ false → (t : Option Text) → option_named (45 ∷ name_in (d ∷ rest)) t ≡ kind.unknown
second d rest true e f t = rw e refl
second d rest false e f t = rw (e, add_comm 1 (prefix_len (λ b. not (is_equals b)) rest), add-one, flipped d f) refl

short-named : (d : ℕ) (rest : Text) → (d == 45) ≡ false → option_named (name_in (45 ∷ d ∷ rest)) (text_in (45 ∷ d ∷ rest)) ≡ kind.unknown
short-named d rest f = ap (λ (x : Text). option_named x (text_in (45 ∷ d ∷ rest))) (name_in-dash (d ∷ rest)) ∙ second d rest (d == 61) refl f (text_in (45 ∷ d ∷ rest))

look_one : (c : ℕ) (b : Bool) → (c == 45) ≡ b → bytes_eq (c ∷ []) (45 ∷ 45 ∷ []) ≡ false → Look (c ∷ [])
look_one c true e d = plain (record { long = rw e refl; short = rw e refl; dashes = d }) refl
look_one c false e d = plain (record { long = rw e refl; short = rw e refl; dashes = d }) refl

both_dashes : (c d : ℕ) → (c == 45) ≡ true → (d == 45) ≡ true → bytes_eq (c ∷ d ∷ []) (45 ∷ 45 ∷ []) ≡ false → ⊥
both_dashes c d e f n = cc (rw (e, f) at n)

is_dash : (c : ℕ) → (c == 45) ≡ true → c ≡ 45
is_dash c e = grind (arith, nat_tests)

look_more : (c d : ℕ) (rest : Text) (a b : Bool) → (c == 45) ≡ a → (d == 45) ≡ b → bytes_eq (c ∷ d ∷ rest) (45 ∷ 45 ∷ []) ≡ false → Look (c ∷ d ∷ rest)
look_more c d rest false b e f n = plain (record { long = rw e refl; short = rw e refl; dashes = n }) e
look_more c d [] true true e f n = absurd (both_dashes c d e f n)
look_more c d (x ∷ xs) true true e f n =
    let named_so : option_named (name_in (c ∷ d ∷ x ∷ xs)) (text_in (c ∷ d ∷ x ∷ xs)) ≡ named (name_and_value (x ∷ xs)).0 (name_and_value (x ∷ xs)).1 = rw (is_dash c e, is_dash d f) (long-named (x ∷ xs)) in
    long (name_and_value (x ∷ xs)).0 (name_and_value (x ∷ xs)).1 (rw (e, f) refl) e named_so
look_more c d rest true false e f n = short (d ∷ rest) (length rest) (rw (e, f) refl) (rw (e, f) refl) refl e (rw (is_dash c e) (short-named d rest f))

pub look : (w : Text) → bytes_eq w (45 ∷ 45 ∷ []) ≡ false → Look w
look [] n = plain (record { long = refl; short = refl; dashes = n }) refl
look (c ∷ []) n = look_one c (c == 45) refl n
look (c ∷ d ∷ rest) n = look_more c d rest (c == 45) (d == 45) refl refl n

-- a short option has a first character, as in any UTF-8 text
abbrev pub Reads : Text → Type 0
Reads w = (flags : Text) → short_of w ≡ Some flags → (c : ℕ) × (slice_get (chars flags) 0 ≡ Some c)

abbrev pub AllRead : List Text → Type 0
AllRead [] = Unit {0}
AllRead (w ∷ ws) = Reads w × AllRead ws

first_dash : (c : ℕ) (b : Bool) → (c == 45) ≡ b → bytes_eq (c ∷ []) (45 ∷ 45 ∷ []) ≡ true → false ≡ true
first_dash c true f e = rw f at e
first_dash c false f e = rw f at e

both_there : (c d : ℕ) (rest : Text) (b : Bool) → (c == 45) ≡ b → bytes_eq (c ∷ d ∷ rest) (45 ∷ 45 ∷ []) ≡ true → (c == 45) ≡ true
both_there c d rest true f e = f
both_there c d rest false f e = absurd (cc (rw f at e))

-- `--` begins with a dash and is longer than it
pub dashes_dashed : (w : Text) → bytes_eq w (45 ∷ 45 ∷ []) ≡ true → is_dashed w ≡ true
dashes_dashed [] e = absurd (cc e)
dashes_dashed (c ∷ []) e = first_dash c (c == 45) refl e
dashes_dashed (c ∷ d ∷ rest) e = both_there c d rest (c == 45) refl e

-- ---- words that are UTF-8

-- more than one byte is more than one character of one byte
no_more : (d : ℕ) (rest cs : List ℕ) → encode_utf8_all (45 ∷ cs) ≡ 45 ∷ d ∷ rest → cs ≡ [] → ⊥
unfolding encode_utf8
no_more d rest cs e none = let short : 45 ∷ [] ≡ 45 ∷ d ∷ rest = rw none at e in cc short

-- the characters after a dash
after_dash : (d : ℕ) (rest : Text) → chars (45 ∷ d ∷ rest) ≡ 45 ∷ chars (d ∷ rest)
unfolding chars
after_dash d rest = refl

first_of-chars : (d : ℕ) (rest cs : List ℕ) → encode_utf8_all (45 ∷ cs) ≡ 45 ∷ d ∷ rest → (x : ℕ) × (slice_get cs 0 ≡ Some x)
first_of-chars d rest [] e = absurd (no_more d rest [] e refl)
first_of-chars d rest (x ∷ xs) e = (x, refl)

first_there : (d : ℕ) (rest : Text) → IsUtf8 (45 ∷ d ∷ rest) → (x : ℕ) × (slice_get (chars (d ∷ rest)) 0 ≡ Some x)
first_there d rest u = first_of-chars d rest (chars (d ∷ rest)) (ap encode_utf8_all (sym (after_dash d rest)) ∙ encodes-chars (45 ∷ d ∷ rest) u)

no_text : (flags : Text) → None ≡ Some flags → ⊥
no_text flags e = cc e

same_text : (a b : Text) → Some a ≡ Some b → a ≡ b
same_text a b e = cc e

reads_one : (c : ℕ) (a : Bool) → (c == 45) ≡ a → Reads (c ∷ [])
reads_one c true e flags s = absurd (no_text flags (rw e at s))
reads_one c false e flags s = absurd (no_text flags (rw e at s))

reads_more : (c d : ℕ) (rest : Text) (a b : Bool) → (c == 45) ≡ a → (d == 45) ≡ b → IsUtf8 (c ∷ d ∷ rest) → Reads (c ∷ d ∷ rest)
reads_more c d rest false b e f u flags s = absurd (no_text flags (rw e at s))
reads_more c d rest true true e f u flags s = absurd (no_text flags (rw (e, f) at s))
reads_more c d rest true false e f u flags s =
    let is : d ∷ rest ≡ flags = same_text (d ∷ rest) flags (rw (e, f) at s) in
    let text : IsUtf8 (45 ∷ d ∷ rest) = rw (is_dash c e) at u in
    rw (← is) (first_there d rest text)

reads : (w : Text) → IsUtf8 w → Reads w
reads [] u flags s = absurd (no_text flags s)
reads (c ∷ []) u flags s = reads_one c (c == 45) refl flags s
reads (c ∷ d ∷ rest) u flags s = reads_more c d rest (c == 45) (d == 45) refl refl u flags s

all_read : {Z : Type 0} (words : List (String Z)) → AllRead (map string_bytes words)
all_read [] = tt
all_read (w ∷ words) = (reads (string_bytes w) (IsUtf8-string_bytes w), all_read words)

pub all_read_after : {Z : Type 0} (words : List (String Z)) → AllRead (drop 1 (map string_bytes words))
all_read_after [] = tt
all_read_after (w ∷ words) = all_read words
