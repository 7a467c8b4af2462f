-- The first of some pages that passes a test, and which pages a request names.
use Rattle.std.proofs.Common.{◌≡◌, ℕ, zero, suc, ◌+◌, ◌<◌, ◌≤◌, List, [], ◌∷◌, ◌++◌, arith, refl, sym, ◌∙◌, subst}
use Rattle.std.specs.Prelude.{All, Bool, true, false, ◌||◌, if◌then◌else◌, Option, Some, None, find, filter, flat_map, ◌==◌, cond}
use Rattle.std.specs.List.{range_with_len}
use Rattle.std.proofs.lemmas.Bool.{eqb-true, eqb-false}
use Rattle.std.proofs.lemmas.List.Elements.{All-nil, All-cons}
use Rattle.std.proofs.lemmas.Bool.Decides.{nat_tests}
use Rattle.ak_core.specs.Layout.{Layout}
use Rattle.ak_model.specs.Paging.Pages.{pages, pages_of, cluster_at}
use Rattle.ak_model.specs.Clusters.Queue.{is_in}

-- the property holds of each of these
abbrev pub Each : (ℕ → Type 0) → List ℕ → Type 0
Each P [] = Unit {0}
Each P (x ∷ xs) = P x × Each P xs

pub each_all : (P : ℕ → Type 0) (xs : List ℕ) → Each P xs → All P xs
each_all P [] e = All-nil P
each_all P (x ∷ xs) e = All-cons P x xs e.0 (each_all P xs e.1)

pub each_more : (P Q : ℕ → Type 0) (xs : List ℕ) → ((x : ℕ) → P x → Q x) → Each P xs → Each Q xs
each_more P Q [] h e = tt
each_more P Q (x ∷ xs) h e = (h x e.0, each_more P Q xs h e.1)

pub each_both : (P Q : ℕ → Type 0) (xs : List ℕ) → Each P xs → Each Q xs → Each (λ x. P x × Q x) xs
each_both P Q [] a b = tt
each_both P Q (x ∷ xs) a b = ((a.0, b.0), each_both P Q xs a.1 b.1)

pub each_joined : (P : ℕ → Type 0) (xs ys : List ℕ) → Each P xs → Each P ys → Each P (xs ++ ys)
each_joined P [] ys a b = b
each_joined P (x ∷ xs) ys a b = (a.0, each_joined P xs ys a.1 b)

-- a first one passes, and has the property; where there is none, none passes
abbrev pub Found : (ℕ → Type 0) → (ℕ → Bool) → List ℕ → Option ℕ → Type 0
Found P test xs None = Each (λ x. test x ≡ false) xs
Found P test xs (Some x) = P x × (test x ≡ true)

pub finds : (P : ℕ → Type 0) (test : ℕ → Bool) (xs : List ℕ) → Each P xs → Found P test xs (find test xs)
finds P test [] e = tt
finds P test (x ∷ xs) e = by (test x) refl (find test xs) (finds P test xs e.1)
  where
    by : (b : Bool) → test x ≡ b → (o : Option ℕ) → Found P test xs o → Found P test (x ∷ xs) (if b then Some x else o)
    by true h o f = (e.0, h)
    by false h (Some y) f = f
    by false h None f = (h, f)

-- what holds of each number that a filter keeps holds of one that is in the range and passes
pub kept : (Q : ℕ → Type 0) (test : ℕ → Bool) (n a p : ℕ) → a ≤ p → p < a + n → test p ≡ true → Each Q (filter test (range_with_len a n)) → Q p
kept Q test zero a p l h t e = absurd (omega arith)
kept Q test (suc n) a p l h t e = by (test a) refl (a == p) refl e (λ later r. kept Q test n (a + 1) p later (omega arith) t r)
  where
    by : (b : Bool) → test a ≡ b → (d : Bool) → (a == p) ≡ d → Each Q (cond b (a ∷ filter test (range_with_len (a + 1) n)) (filter test (range_with_len (a + 1) n)))
        → (a + 1 ≤ p → Each Q (filter test (range_with_len (a + 1) n)) → Q p) → Q p
    by true x true d e next = subst Q (eqb-true a p d) e.0
    by true x false d e next = let n = eqb-false a p d in next (omega arith) e.1
    by false x true d e next = absurd (let s = eqb-true a p d in let y : test p ≡ false = subst (λ z. test z ≡ false) s x in let z : true ≡ false = sym t ∙ y in cc)
    by false x false d e next = let n = eqb-false a p d in next (omega arith) e

pub each_first : (Q : ℕ → Type 0) (xs ys : List ℕ) → Each Q (xs ++ ys) → Each Q xs × Each Q ys
each_first Q [] ys e = (tt, e)
each_first Q (x ∷ xs) ys e = let r = each_first Q xs ys e.1 in ((e.0, r.0), r.1)

module _ (layout : Layout) where
  -- each page of a cluster is listed
  pub of_listed : (Q : ℕ → Type 0) (c p : ℕ) → p < pages layout → (cluster_at layout p == c) ≡ true → Each Q (pages_of layout c) → Q p
  of_listed Q c p low h e = kept Q (λ p. cluster_at layout p == c) (pages layout) 0 p (omega arith) (omega arith) h e

  -- and so is each page of these clusters
  pub among_listed : (Q : ℕ → Type 0) (clusters : List ℕ) (p : ℕ) → p < pages layout → is_in clusters (cluster_at layout p) ≡ true → Each Q (flat_map (pages_of layout) clusters) → Q p
  among_listed Q [] p low h e = absurd (cc)
  among_listed Q (c ∷ clusters) p low h e =
      let r = each_first Q (pages_of layout c) (flat_map (pages_of layout) clusters) e in
      by (c == cluster_at layout p) refl h r.0 (λ t. among_listed Q clusters p low t r.1)
    where
      by : (b : Bool) → (c == cluster_at layout p) ≡ b → (b || is_in clusters (cluster_at layout p)) ≡ true → Each Q (pages_of layout c) → (is_in clusters (cluster_at layout p) ≡ true → Q p) → Q p
      by true d h f next = let x = eqb-true c (cluster_at layout p) d in of_listed Q c p low (grind (arith, nat_tests)) f
      by false d h f next = next h

  -- a page of this cluster
  abbrev pub IsOf : ℕ → ℕ → Type 0
  IsOf c p = (p < pages layout) × (cluster_at layout p ≡ c)

  filtered : (c n a : ℕ) → a + n ≡ pages layout → Each (IsOf c) (filter (λ p. cluster_at layout p == c) (range_with_len a n))
  filtered c zero a h = tt
  filtered c (suc n) a h = by (cluster_at layout a == c) refl (filtered c n (a + 1) (omega arith))
    where
      by : (b : Bool) → (cluster_at layout a == c) ≡ b → Each (IsOf c) (filter (λ p. cluster_at layout p == c) (range_with_len (a + 1) n))
          → Each (IsOf c) (cond b (a ∷ filter (λ p. cluster_at layout p == c) (range_with_len (a + 1) n)) (filter (λ p. cluster_at layout p == c) (range_with_len (a + 1) n)))
      by true e r = ((omega arith, eqb-true (cluster_at layout a) c e), r)
      by false e r = r

  -- each listed page of a cluster is one of the program, of that cluster
  pub each_of : (c : ℕ) → Each (IsOf c) (pages_of layout c)
  each_of c = filtered c (pages layout) 0 (omega arith)

  -- each page of these clusters is one of the program, of one of them
  abbrev pub IsAmong : List ℕ → ℕ → Type 0
  IsAmong clusters p = (p < pages layout) × (is_in clusters (cluster_at layout p) ≡ true)

  pub each_among : (clusters : List ℕ) → Each (IsAmong clusters) (flat_map (pages_of layout) clusters)
  each_among [] = tt
  each_among (c ∷ clusters) =
      each_joined (IsAmong (c ∷ clusters)) (pages_of layout c) (flat_map (pages_of layout) clusters)
      (each_more (IsOf c) (IsAmong (c ∷ clusters)) (pages_of layout c) (λ p h. (h.0, own p h.1)) (each_of c))
      (each_more (IsAmong clusters) (IsAmong (c ∷ clusters)) (flat_map (pages_of layout) clusters) (λ p h. (h.0, other p h.1)) (each_among clusters))
    where
      own : (p : ℕ) → cluster_at layout p ≡ c → ((c == cluster_at layout p) || is_in clusters (cluster_at layout p)) ≡ true
      own p h = let e : (c == cluster_at layout p) ≡ true = grind (arith, nat_tests) in rw e refl

      other : (p : ℕ) → is_in clusters (cluster_at layout p) ≡ true → ((c == cluster_at layout p) || is_in clusters (cluster_at layout p)) ≡ true
      other p h = rw h (or_true (c == cluster_at layout p))
        where
          or_true : (b : Bool) → (b || true) ≡ true
          or_true true = refl
          or_true false = refl
