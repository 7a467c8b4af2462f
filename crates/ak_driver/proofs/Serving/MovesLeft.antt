-- How the number of moves that are left falls, and how many there are at most.
use Rattle.std.proofs.Common.{◌≡◌, ℕ, ◌+◌, ◌*◌, ◌<◌, ◌≤◌, List, [], ◌∷◌, ◌++◌, length, arith, refl, sym, ◌∙◌, subst}
use Rattle.std.specs.Prelude.{Bool, true, false, ◌||◌, ◌==◌, if◌then◌else◌}
use Rattle.std.specs.List.{list_any, sum_by}
use Rattle.std.proofs.lemmas.Bool.{eqb-true, eqb-false}
use Rattle.std.proofs.lemmas.Bool.Decides.{nat_tests}
use Rattle.std.proofs.lemmas.List.Folds.{list_any_none}
use Rattle.std.proofs.lemmas.List.Sums.{sum_by-cons, sum_by-append, sum_by-le, sum_by-le-sum_by}
use Rattle.ak_core.specs.Layout.{Layout}
use Rattle.ak_model.specs.Paging.Pages.{pages, pages_of, cluster_at}
use Rattle.ak_model.specs.Paging.Histories.{History}
use Rattle.ak_model.specs.Clusters.Queue.{is_in}
use Rattle.ak_driver.proofs.Invariant.PageStates.{PageState, Out, Unmapped, Blocked, In}
use Rattle.ak_driver.proofs.Invariant.PagesStand.{with_state}
use Rattle.ak_driver.proofs.Invariant.ServingMoves.{page_left, leaving_pages, is_untracked, cycle_left, moves_left}
use Rattle.ak_driver.proofs.Serving.Finding.{Each, each_all, each_more, each_first, IsOf, each_of, among_listed, of_listed}

-- ---- Sums and tests over a list

-- what holds of each number of the list holds of this one
abbrev pub IsListed : ℕ → List ℕ → Type 1
IsListed p xs = (Q : ℕ → Type 0) → Each Q xs → Q p

-- a smaller sum, where one number counts less and none more
total_less : (more less : ℕ → ℕ) (p : ℕ) → ((x : ℕ) → less x ≤ more x) → less p < more p → (xs : List ℕ) → (Each (λ x. x ≡ p → ⊥) xs → ⊥) → sum_by less xs < sum_by more xs
total_less more less p le lt [] h = absurd (h tt)
total_less more less p le lt (x ∷ xs) h =
    let a = sum_by-cons less x xs in let b = sum_by-cons more x xs in let c = by (x == p) refl (total_less more less p le lt xs) in
    omega arith
  where
    by : (b : Bool) → (x == p) ≡ b → ((Each (λ x. x ≡ p → ⊥) xs → ⊥) → sum_by less xs < sum_by more xs) → less x + sum_by less xs < more x + sum_by more xs
    by true e next = let l : less x < more x = subst (λ y. less y < more y) (sym (eqb-true x p e)) lt in let m = sum_by-le-sum_by less more xs le in omega arith
    by false e next = let l = le x in let m = next (λ each. h (eqb-false x p e, each)) in omega arith

each_any : (P : ℕ → Type 0) → ((x : ℕ) → P x) → (xs : List ℕ) → Each P xs
each_any P h [] = tt
each_any P h (x ∷ xs) = (h x, each_any P h xs)

-- none passes
none_passes : (test : ℕ → Bool) (xs : List ℕ) → list_any test xs ≡ false → Each (λ x. test x ≡ false) xs
none_passes test [] h = tt
none_passes test (x ∷ xs) h = by (test x) refl h (none_passes test xs)
  where
    by : (b : Bool) → test x ≡ b → (b || list_any test xs) ≡ false → (list_any test xs ≡ false → Each (λ x. test x ≡ false) xs) → Each (λ x. test x ≡ false) (x ∷ xs)
    by true e h next = absurd (cc)
    by false e h next = (e, next h)

pub each_fails : (test : ℕ → Bool) (xs : List ℕ) → Each (λ x. test x ≡ false) xs → list_any test xs ≡ false
each_fails test xs e = list_any_none test xs (each_all (λ x. test x ≡ false) xs e)

-- one that is listed passes
pub one_passes : (test : ℕ → Bool) (p : ℕ) (xs : List ℕ) → IsListed p xs → test p ≡ true → list_any test xs ≡ true
one_passes test p xs listed t = by (list_any test xs) refl
  where
    by : (b : Bool) → list_any test xs ≡ b → list_any test xs ≡ true
    by true e = e
    by false e = absurd (let f = listed (λ x. test x ≡ false) (none_passes test xs e) in let z : true ≡ false = sym t ∙ f in cc)

pub cycle_at_most : (b : Bool) → cycle_left b ≤ 1
cycle_at_most true = omega arith
cycle_at_most false = omega arith

-- ---- The moves that are left

-- a page that leaves is listed
pub leaving_listed : (layout : Layout) (leaving : List ℕ) (p : ℕ) → p < pages layout → is_in leaving (cluster_at layout p) ≡ true → IsListed p (leaving_pages layout leaving)
leaving_listed layout leaving p low h Q e = among_listed layout Q leaving p low h e

module _ (layout : Layout) (leaving : List ℕ) (c : ℕ) where
  abbrev served_pages : List ℕ
  served_pages = leaving_pages layout leaving ++ pages_of layout c

  abbrev weight : (ℕ → PageState) → ℕ → ℕ
  weight states p = page_left (is_in leaving (cluster_at layout p)) (states p)

  -- a page that leaves is listed, and so is one that is fetched
  pub leaving_served : (p : ℕ) → p < pages layout → is_in leaving (cluster_at layout p) ≡ true → IsListed p served_pages
  leaving_served p low h Q e = among_listed layout Q leaving p low h (each_first Q (leaving_pages layout leaving) (pages_of layout c) e).0

  pub fetched_served : (p : ℕ) → p < pages layout → cluster_at layout p ≡ c → IsListed p served_pages
  fetched_served p low h Q e =
      of_listed layout Q c p low (let s : (cluster_at layout p == c) ≡ true = grind (arith, nat_tests) in s) (each_first Q (leaving_pages layout leaving) (pages_of layout c) e).1

  -- less is left for a page that went on
  pub state_less : (states : ℕ → PageState) (p : ℕ) (state : PageState) → IsListed p served_pages → page_left (is_in leaving (cluster_at layout p)) state < weight states p
      → sum_by (weight (with_state states p state)) served_pages < sum_by (weight states) served_pages
  state_less states p state listed lt =
      total_less (weight states) (weight (with_state states p state)) p at_most own served_pages (λ e. listed (λ x. x ≡ p → ⊥) e refl)
    where
      own : weight (with_state states p state) p < weight states p
      own = let s : (p == p) ≡ true = grind (arith, nat_tests) in rw s lt

      at_most : (x : ℕ) → weight (with_state states p state) x ≤ weight states x
      at_most x = by (x == p) refl
        where
          by : (b : Bool) → (x == p) ≡ b → page_left (is_in leaving (cluster_at layout x)) (if b then state else states x) ≤ weight states x
          by true e = let l : page_left (is_in leaving (cluster_at layout x)) state < weight states x = subst (λ y. page_left (is_in leaving (cluster_at layout y)) state < weight states y) (sym (eqb-true x p e)) lt in omega arith
          by false e = omega arith

  -- so much is left at most when the request is made
  pub left_at_most : (past : History) (states : ℕ → PageState) → is_in leaving c ≡ false → moves_left layout leaving c past states ≤ 3 * length (leaving_pages layout leaving) + 2 * length (pages_of layout c) + 2
  left_at_most past states apart =
      let a = sum_by-append (weight states) (leaving_pages layout leaving) (pages_of layout c) in
      let b = sum_by-le (weight states) 3 (leaving_pages layout leaving) (each_all (λ x. weight states x ≤ 3) (leaving_pages layout leaving) (each_most (leaving_pages layout leaving))) in
      let d = sum_by-le (weight states) 2 (pages_of layout c) (each_all (λ x. weight states x ≤ 2) (pages_of layout c) (each_more (IsOf layout c) (λ x. weight states x ≤ 2) (pages_of layout c) (λ p h. fetched_most p h.1) (each_of layout c))) in
      let e = cycle_at_most (list_any (is_untracked layout past) (leaving_pages layout leaving)) in
      omega arith
    where
      most : (b : Bool) (s : PageState) → page_left b s ≤ 3
      most true Out = omega arith
      most true Blocked = omega arith
      most true Unmapped = omega arith
      most true In = omega arith
      most false Out = omega arith
      most false Blocked = omega arith
      most false Unmapped = omega arith
      most false In = omega arith

      fetching : (b : Bool) (s : PageState) → b ≡ false → page_left b s ≤ 2
      fetching true s e = absurd (cc)
      fetching false Out e = omega arith
      fetching false Blocked e = omega arith
      fetching false Unmapped e = omega arith
      fetching false In e = omega arith

      each_most : (xs : List ℕ) → Each (λ x. weight states x ≤ 3) xs
      each_most xs = each_any (λ x. weight states x ≤ 3) (λ x. most (is_in leaving (cluster_at layout x)) (states x)) xs

      fetched_most : (p : ℕ) → cluster_at layout p ≡ c → weight states p ≤ 2
      fetched_most p h = fetching (is_in leaving (cluster_at layout p)) (states p) (subst (λ x. is_in leaving x ≡ false) (sym h) apart)
