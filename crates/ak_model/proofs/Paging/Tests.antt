-- What tests say of each other: a conditional either way, implications, and tests of a range and of a list.
use Rattle.std.proofs.Common.{◌≡◌, ℕ, zero, suc, ◌+◌, ◌<◌, ◌≤◌, List, [], ◌∷◌, ◌++◌, reverse, arith, refl, sym, ◌∙◌, subst}
use Rattle.std.specs.Prelude.{All, Bool, true, false, not, ◌&&◌, ◌||◌, filter, if◌then◌else◌, ◌==◌}
use Rattle.std.specs.List.{range_with_len, list_any, list_all}
use Rattle.std.proofs.lemmas.Bool.{and_parts, or_left, or_right, eqb-true, eqb-false}
use Rattle.std.proofs.lemmas.List.{reverse-append}
use Rattle.std.proofs.lemmas.List.Elements.{All-nil, All-head, All-tail, All-push, All-same}
use Rattle.std.proofs.lemmas.List.Folds.{list_all-append}

-- what holds of both holds of either
pub either_way : {A : Type 0} (P : A → Type 0) (b : Bool) (x y : A) → P x → P y → P (if b then x else y)
either_way P true x y h k = h
either_way P false x y h k = k

pub implied : (a b : Bool) → a ≡ true → (not a || b) ≡ true → b ≡ true
implied true b e h = h
implied false b e h = absurd (cc)

pub or_other : (a b : Bool) → a ≡ false → (a || b) ≡ true → b ≡ true
or_other false b e h = h
or_other true b e h = absurd (cc)

any_by : (test : ℕ → Bool) (n a x : ℕ) (b : Bool) → (a == x) ≡ b → a ≤ x → x < a + suc n → test x ≡ true → (a + 1 ≤ x → x < a + 1 + n → list_any test (range_with_len (a + 1) n) ≡ true) → (test a || list_any test (range_with_len (a + 1) n)) ≡ true
any_by test n a x true e low high h later = or_left (test a) _ (subst (λ y. test y ≡ true) (sym (eqb-true a x e)) h)
any_by test n a x false e low high h later = let differ = eqb-false a x e in or_right (test a) _ (later (omega arith) (omega arith))

-- one of a range passes a test
pub any_in_range : (test : ℕ → Bool) (n a x : ℕ) → a ≤ x → x < a + n → test x ≡ true → list_any test (range_with_len a n) ≡ true
any_in_range test zero a x low high h = absurd (omega arith)
any_in_range test (suc n) a x low high h = any_by test n a x (a == x) refl low high h (λ l g. any_in_range test n (a + 1) x l g h)

all_by : (test : ℕ → Bool) (a x : ℕ) (rest : List ℕ) (same : Bool) → (a == x) ≡ same → (test a && list_all test rest) ≡ true → ((a ≡ x → ⊥) → list_all test rest ≡ true → test x ≡ true) → test x ≡ true
all_by test a x rest true e all go = subst (λ y. test y ≡ true) (eqb-true a x e) (and_parts (test a) (list_all test rest) all).0
all_by test a x rest false e all go = go (eqb-false a x e) (and_parts (test a) (list_all test rest) all).1

-- what each of a range passes one passes
pub all_in_range : (test : ℕ → Bool) (n a x : ℕ) → a ≤ x → x < a + n → list_all test (range_with_len a n) ≡ true → test x ≡ true
all_in_range test zero a x low high all = absurd (omega arith)
all_in_range test (suc n) a x low high all =
    all_by test a x (range_with_len (a + 1) n) (a == x) refl all (λ ne rest. all_in_range test n (a + 1) x (omega arith) (omega arith) rest)

-- where nothing passes, a filter keeps nothing
pub filter_none : (test : ℕ → Bool) (xs : List ℕ) → ((x : ℕ) → test x ≡ false) → filter test xs ≡ []
filter_none test [] h = refl
filter_none test (x ∷ xs) h = let e = h x in rw e (filter_none test xs h)

-- what holds of all holds of all in reverse
pub All-reverse : {A : Type 0} (P : A → Type 0) (xs : List A) → All P xs → All P (reverse xs)
All-reverse P [] h = All-nil P
All-reverse P (x ∷ xs) h =
    All-same P (reverse (x ∷ xs)) (reverse xs ++ x ∷ []) (reverse-append (x ∷ []) xs) (All-push P (reverse xs) x (All-reverse P xs (All-tail P x xs h)) (All-head P x xs h))

pub all_of_reverse : {A : Type 0} (test : A → Bool) (xs : List A) → list_all test (reverse xs) ≡ true → list_all test xs ≡ true
all_of_reverse test [] h = refl
all_of_reverse test (x ∷ xs) h =
    let split : list_all test (reverse xs ++ x ∷ []) ≡ true = subst (λ l. list_all test l ≡ true) (reverse-append (x ∷ []) xs) h in
    let both = and_parts (list_all test (reverse xs)) (test x && true) (sym (list_all-append test (reverse xs) (x ∷ [])) ∙ split) in
    let here = (and_parts (test x) true both.1).0 in
    rw here (all_of_reverse test xs both.0)
