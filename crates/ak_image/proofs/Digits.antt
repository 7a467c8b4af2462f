-- What a text of digits gives as a page.
use Rattle.std.proofs.Common.{◌≡◌, ℕ, ◌-◌, ◌*◌, ◌%◌, ◌<◌, ◌≤◌, List, ◌++◌, length, replicate, Some, None, Result, Ok, Err, true, false, MatchResult, refl, sym, ap, ◌∙◌, arith, nat_le}
use Rattle.std.proofs.lemmas.Bool.Decides.{nat_tests}
use Rattle.hex.specs.Hex.{decode_of, decode_sized}
use Rattle.hex.specs.declared.error.FromHexError.{FromHexError}
use Rattle.hex.proofs.HexLemmas.{decode_of-odd, decode_of-ok, decode_sized-twice}
use Rattle.ak_image.specs.Pages.{page_of, filled_up}

test-false : (n : ℕ) → 4096 < n → nat_le n 4096 ≡ false
test-false n h = grind (arith, nat_tests)

test-true : (n : ℕ) → n ≤ 4096 → nat_le n 4096 ≡ true
test-true n h = grind (arith, nat_tests)

pub page_of-odd : (s : List ℕ) → length s % 2 ≡ 1 → page_of s ≡ None
page_of-odd s odd = ap filled_up (decode_of-odd s odd)

long : (s : List ℕ) (r : Result (List ℕ) FromHexError) → decode_of s ≡ r → 8192 < length s → filled_up r ≡ None
long s (Ok bytes) e h = let n = (decode_of-ok s bytes e).2 in rw (test-false (length bytes) (omega (arith, n))) refl
long s (Err x) e h = refl

pub page_of-long : (s : List ℕ) → 8192 < length s → page_of s ≡ None
page_of-long s h = long s (decode_of s) refl h

abbrev pub Outcome : Type 0
Outcome = Result (Unit {0}) FromHexError

abbrev pub Says : Result (List ℕ) FromHexError → Outcome → List ℕ → Type 0
Says d r out = MatchResult d (λ bytes. (r ≡ Ok tt) × (out ≡ bytes)) (λ e. r ≡ Err e)

-- after a decoding that gave `Ok`
read : (d : Result (List ℕ) FromHexError) (r : Outcome) (u : Unit {0}) (out : List ℕ) (n : ℕ) → n ≤ 4096 → length out ≡ n → r ≡ Ok u → Says d r out → filled_up d ≡ Some (out ++ replicate (4096 - n) 0)
read (Ok bytes) r u out n small same ok h =
    let few : length bytes ≤ 4096 = omega (arith, ap length h.1) in
    rw (test-true (length bytes) few) (ap (λ (x : List ℕ). Some (x ++ replicate (4096 - length bytes) 0)) (sym h.1) ∙ ap (λ (k : ℕ). Some (out ++ replicate (4096 - k) 0)) (sym (ap length h.1) ∙ same))
read (Err e) r u out n small same ok h = cc (sym ok ∙ h)

pub page_of-read : (s out left : List ℕ) (r : Outcome) (u : Unit {0}) (n : ℕ) → n ≤ 4096 → length s ≡ 2 * n → length out ≡ n → left ≡ replicate (4096 - n) 0 → r ≡ Ok u → Says (decode_sized s n) r out → page_of s ≡ Some (out ++ left)
page_of-read s out left r u n small twice same zeros ok h =
    ap filled_up (sym (decode_sized-twice s n twice)) ∙ (read (decode_sized s n) r u out n small same ok h ∙ ap (λ (l : List ℕ). Some (out ++ l)) (sym zeros))
