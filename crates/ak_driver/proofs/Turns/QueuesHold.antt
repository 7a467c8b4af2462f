-- Clusters in a queue of which some leave the front, and to which one is appended.
use Rattle.std.proofs.Common.{◌≡◌, ℕ, zero, suc, List, [], ◌∷◌, ◌++◌, take, drop, arith, refl, sym, ◌∙◌, subst, ap}
use Rattle.std.specs.Prelude.{Bool, true, false, ◌||◌, ◌==◌}
use Rattle.std.proofs.lemmas.Bool.{ne_eqb, eqb-true, eqb-false}
use Rattle.std.proofs.lemmas.Bool.Decides.{nat_tests}
use Rattle.ak_model.specs.Clusters.Queue.{is_in}
use Rattle.ak_model.specs.Laws.Orderly.{IsDistinct}
use Rattle.ak_driver.proofs.Invariant.PageStates.{PageState, Out, Blocked}
use Rattle.ak_driver.proofs.Invariant.HonestMoments.{IsPlain, IsFetched, IsMoving}

or_assoc : (a b c : Bool) → ((a || b) || c) ≡ (a || (b || c))
or_assoc true b c = refl
or_assoc false b c = refl

or_none : (b : Bool) → (b || false) ≡ b
or_none true = refl
or_none false = refl

-- a cluster of the queue leaves or stays
pub split_in : (d : ℕ) (queue : List ℕ) (x : ℕ) → is_in queue x ≡ (is_in (take d queue) x || is_in (drop d queue) x)
split_in zero queue x = refl
split_in (suc d) [] x = refl
split_in (suc d) (y ∷ queue) x = ap (λ b. (y == x) || b) (split_in d queue x) ∙ sym (or_assoc (y == x) (is_in (take d queue) x) (is_in (drop d queue) x))

pub same_test : (x y : ℕ) → (x == y) ≡ (y == x)
same_test x y = by (x == y) refl
  where
    by : (b : Bool) → (x == y) ≡ b → b ≡ (y == x)
    by true e = let s = eqb-true x y e in grind (arith, nat_tests)
    by false e = let n = eqb-false x y e in sym (ne_eqb y x (λ s. n (sym s)))

-- the queue with one more
pub more_in : (queue : List ℕ) (c x : ℕ) → is_in (queue ++ c ∷ []) x ≡ (is_in queue x || (x == c))
more_in [] c x = or_none (c == x) ∙ same_test c x
more_in (y ∷ queue) c x = ap (λ b. (y == x) || b) (more_in queue c x) ∙ sym (or_assoc (y == x) (is_in queue x) (x == c))

or_false : (a b : Bool) → (a || b) ≡ false → (a ≡ false) × (b ≡ false)
or_false true b h = absurd (cc)
or_false false b h = (refl, h)

-- what leaves does not stay
pub apart_in : (d : ℕ) (queue : List ℕ) (x : ℕ) → IsDistinct queue → is_in (take d queue) x ≡ true → is_in (drop d queue) x ≡ false
apart_in zero queue x h t = absurd (cc)
apart_in (suc d) [] x h t = refl
apart_in (suc d) (y ∷ queue) x h t = by (y == x) refl (λ e. apart_in d queue x h.1 (let a = t in rw e at a))
  where
    by : (b : Bool) → (y == x) ≡ b → ((y == x) ≡ false → is_in (drop d queue) x ≡ false) → is_in (drop d queue) x ≡ false
    by true e rest =
        let s = eqb-true y x e in
        let a : (is_in (take d queue) x || is_in (drop d queue) x) ≡ false = sym (split_in d queue x) ∙ subst (λ z. is_in queue z ≡ false) s h.0 in
        (or_false (is_in (take d queue) x) (is_in (drop d queue) x) a).1
    by false e rest = rest e

pub none_taken : (d : ℕ) (queue : List ℕ) (x : ℕ) → is_in queue x ≡ false → (is_in (take d queue) x ≡ false) × (is_in (drop d queue) x ≡ false)
none_taken d queue x h = or_false (is_in (take d queue) x) (is_in (drop d queue) x) (sym (split_in d queue x) ∙ h)

-- a page that may be in or out by the whole queue may be where a request says
pub asks : (d : ℕ) (queue : List ℕ) (x : ℕ) (fetched : Bool) (state : PageState) → IsPlain (is_in queue x) state → IsMoving (is_in (drop d queue) x) (is_in (take d queue) x) fetched state
asks d queue x fetched state h = by (is_in (drop d queue) x) (is_in (take d queue) x) fetched (subst (λ b. IsPlain b state) (split_in d queue x) h)
  where
    fetch : (fetched : Bool) → state ≡ Out → IsFetched fetched state
    fetch true e = λ b. let c : Out ≡ Blocked = sym e ∙ b in cc
    fetch false e = e

    by : (stays goes fetched : Bool) → IsPlain (goes || stays) state → IsMoving stays goes fetched state
    by true true fetched h = h
    by true false fetched h = h
    by false true fetched h = tt
    by false false fetched h = fetch fetched h
