-- How many different accesses there are, where few have a page of each remainder modulo 16.
use Rattle.std.proofs.Common.{◌≡◌, ℕ, zero, suc, ◌+◌, ◌*◌, ◌%◌, ◌≤◌, ◌<◌, lit≤, Bool, true, false, List, [], ◌∷◌, length, get_or, refl, ap, sym, ◌∙◌, arith, nat_lt}
use Rattle.std.proofs.lemmas.Bool.{and_parts}
use Rattle.std.proofs.lemmas.Bool.Decides.{nat_tests}
use Rattle.std.proofs.lemmas.List.FromFn.{length-range_with_len, get_or-range_with_len}
use Rattle.std.specs.Prelude.{filter, nat_le, ◌==◌, ◌&&◌, if◌then◌else◌}
use Rattle.std.specs.List.{list_all, range_with_len}
use Rattle.ak_core.specs.Mem.{Access}
use Rattle.ak_model.specs.Misses.KeptTranslations.{is_among, unless_there, distinct, are_few_of}
use Rattle.ak_tlb.specs.Fills.{AreFew}

-- ---- Counts

-- how many have a page whose remainder is below n
abbrev below : ℕ → List Access → ℕ
below n ts = length (filter (λ t. nat_lt (t.page.0 % 16) n) ts)

-- how many have a page of this remainder
abbrev of : ℕ → List Access → ℕ
of r ts = length (filter (λ t. t.page.0 % 16 == r) ts)

step_by : (a b c : Bool) (t : Access) (xs ys zs : List Access) → (a ≡ true → b ≡ false → c ≡ false → ⊥) → length xs ≤ length ys + length zs →
    length (if a then t ∷ xs else xs) ≤ length (if b then t ∷ ys else ys) + length (if c then t ∷ zs else zs)
step_by true true true t xs ys zs h le = omega arith
step_by true true false t xs ys zs h le = omega arith
step_by true false true t xs ys zs h le = omega arith
step_by true false false t xs ys zs h le = absurd (h refl refl refl)
step_by false true true t xs ys zs h le = omega arith
step_by false true false t xs ys zs h le = omega arith
step_by false false true t xs ys zs h le = omega arith
step_by false false false t xs ys zs h le = le

between : (m n : ℕ) → nat_lt m (n + 1) ≡ true → nat_lt m n ≡ false → (m == n) ≡ false → ⊥
between m n a b c = grind (arith, nat_tests)

below_more : (n : ℕ) (ts : List Access) → below (n + 1) ts ≤ below n ts + of n ts
below_more n [] = lit≤ tt
below_more n (t ∷ ts) =
    step_by (nat_lt (t.page.0 % 16) (n + 1)) (nat_lt (t.page.0 % 16) n) (t.page.0 % 16 == n) t _ _ _ (between (t.page.0 % 16) n) (below_more n ts)

below_none : (ts : List Access) → below 0 ts ≤ 0
below_none [] = lit≤ tt
below_none (t ∷ ts) = let no : nat_lt (t.page.0 % 16) 0 ≡ false = grind (arith, nat_tests) in rw no (below_none ts)

below_all : (ts : List Access) → length ts ≤ below 16 ts
below_all [] = lit≤ tt
below_all (t ∷ ts) = let yes : nat_lt (t.page.0 % 16) 16 ≡ true = grind (arith, nat_tests) in rw yes (omega (arith, below_all ts))

below_few : (n : ℕ) (ts : List Access) → n ≤ 16 → ((r : ℕ) → r < 16 → of r ts ≤ 4) → below n ts ≤ 4 * n
below_few zero ts small few = omega (arith, below_none ts)
below_few (suc n) ts small few =
    let e : suc n ≡ n + 1 = omega arith in rw e (omega (arith, below_more n ts, below_few n ts (omega arith) few, few n (omega arith)))

-- ---- Few

all_at : (P : ℕ → Bool) (xs : List ℕ) (i : ℕ) → i < length xs → list_all P xs ≡ true → P (get_or xs i 0) ≡ true
all_at P [] i inside h = absurd (omega arith)
all_at P (x ∷ xs) zero inside h = (and_parts (P x) (list_all P xs) h).0
all_at P (x ∷ xs) (suc i) inside h = all_at P xs i (omega arith) (and_parts (P x) (list_all P xs) h).1

le_from : (m n : ℕ) → nat_le m n ≡ true → m ≤ n
le_from m n h = grind (arith, nat_tests)

few_of : (ts : List Access) → AreFew ts → (r : ℕ) → r < 16 → of r (distinct ts) ≤ 4
few_of ts few r small =
    let inside : r < length (range_with_len 0 16) = omega (arith, length-range_with_len 0 16) in
    let at : get_or (range_with_len 0 16) r 0 ≡ r = get_or-range_with_len 0 16 r 0 small ∙ omega arith in
    le_from (of r (distinct ts)) 4 (ap (are_few_of ts) (sym at) ∙ all_at (are_few_of ts) (range_with_len 0 16) r inside few)

-- few are 64 at most
pub few_count : (ts : List Access) → AreFew ts → length (distinct ts) ≤ 64
few_count ts few = omega (arith, below_all (distinct ts), below_few 16 (distinct ts) (omega arith) (few_of ts few))

-- ---- Without the last

less_if : (b : Bool) (t : Access) (xs : List Access) → nat_le (length (if b then t ∷ xs else xs)) 4 ≡ true → nat_le (length xs) 4 ≡ true
less_if true t xs h = grind (arith, nat_tests)
less_if false t xs h = h

less_by : (b : Bool) (t : Access) (xs : List Access) (r : ℕ) → nat_le (of r (unless_there b t xs)) 4 ≡ true → nat_le (of r xs) 4 ≡ true
less_by true t xs r h = h
less_by false t xs r h = less_if (t.page.0 % 16 == r) t (filter (λ u. u.page.0 % 16 == r) xs) h

and_from : (a b : Bool) → a ≡ true → b ≡ true → (a && b) ≡ true
and_from true b h g = g
and_from false b h g = cc

all_from : (P Q : ℕ → Bool) (xs : List ℕ) → ((r : ℕ) → P r ≡ true → Q r ≡ true) → list_all P xs ≡ true → list_all Q xs ≡ true
all_from P Q [] more h = refl
all_from P Q (x ∷ xs) more h =
    let parts = and_parts (P x) (list_all P xs) h in
    and_from (Q x) (list_all Q xs) (more x parts.0) (all_from P Q xs more parts.1)

-- few are few without the last
pub few_less : (t : Access) (ts : List Access) → AreFew (t ∷ ts) → AreFew ts
few_less t ts few = all_from (are_few_of (t ∷ ts)) (are_few_of ts) (range_with_len 0 16) (less_by (is_among ts t) t (distinct ts)) few
