-- What is kept of the cycles, step by step; and which frames are tracked by it.
use Rattle.std.proofs.Common.{◌≡◌, ℕ, zero, suc, ◌+◌, ◌<◌, ◌≤◌, Bool, true, false, ◌==◌, if◌then◌else◌, List, [], ◌∷◌, length, map, set, refl, ap, sym, ◌∙◌, subst, arith, ◌⊎◌, inl, inr, get_or-set_same, get_or-set_other}
use Rattle.std.specs.Prelude.{Option, Some, None, is_some, is_none, not, ◌&&◌, ◌||◌, cond, filter, min, nat_lt}
use Rattle.std.specs.List.{range_with_len, list_any}
use Rattle.std.proofs.lemmas.Bool.{both_ways, and_from, and_parts, or_left, or_right, lt-ltb, le-ltb, ltb-true, ltb-false, eqb-true, eq-eqb, cases_lt, false_from_ne_true}
use Rattle.std.proofs.lemmas.Bool.Decides.{eqb_tells}
use Rattle.std.proofs.Math.ListN.{length-set, get_or-eq_default}
use Rattle.ak_core.specs.Layout.{Layout}
use Rattle.ak_model.specs.Paging.Histories.{History}
use Rattle.ak_model.specs.Paging.Inside.{inside, since, since_after}
use Rattle.ak_model.specs.Paging.Tracking.{Cycle, without, is_over, cycles, cycles_after}
use Rattle.ak_model.proofs.Paging.Tests.{any_in_range}
use Rattle.ak_driver.specs.Changes.{told}
use Rattle.ak_driver.specs.NotedCycles.{entered_at, entered_before, with_entered, newest_after, entered_after, newest_over, IsCycleAt, waits_for, AllWaitFor, AreCycles}
use Rattle.ak_driver.specs.NotedTables.{IsThere}
use Rattle.ak_driver.specs.declared.changes.Change.{Change}
use Rattle.ak_driver.specs.declared.changes.Change.TheVariants.{Unchanged, Maps, Blocks, Cycles, WritesOut, Loads, Removes, MakesVa, Discards, Enters, Resumes, Exits, Interrupts}

-- ---- Members of a list

-- the number is in the list
abbrev among : ℕ → List ℕ → Bool
among x all = list_any (λ y. y == x) all

among-filter : (test : ℕ → Bool) (x : ℕ) (all : List ℕ) → among x (filter test all) ≡ (among x all && test x)
among-filter test x [] = refl
among-filter test x (y ∷ all) = by (among-filter test x all) (y == x) (test y) refl refl
  where
    neither : (b : Bool) → (b && false) ≡ false
    neither true = refl
    neither false = refl

    by : among x (filter test all) ≡ (among x all && test x) → (same passes : Bool) → (y == x) ≡ same → test y ≡ passes
        → among x (cond passes (y ∷ filter test all) (filter test all)) ≡ ((same || among x all) && test x)
    by rest true true e t = ap (λ b. b || among x (filter test all)) e ∙ sym (ap test (sym (eqb-true y x e)) ∙ t)
    by rest true false e t =
        let no : test x ≡ false = ap test (sym (eqb-true y x e)) ∙ t in rest ∙ ap (λ b. among x all && b) no ∙ neither (among x all) ∙ sym no
    by rest false true e t = ap (λ b. b || among x (filter test all)) e ∙ rest
    by rest false false e t = rest

none_in_range : (test : ℕ → Bool) (n a : ℕ) → ((x : ℕ) → a ≤ x → x < a + n → test x ≡ false) → list_any test (range_with_len a n) ≡ false
none_in_range test zero a h = refl
none_in_range test (suc n) a h =
    let e = h a (omega arith) (omega arith) in rw e (none_in_range test n (a + 1) (λ x low high. h x (omega arith) (omega arith)))

-- nobody is waited for just where the cycle is over
over_none : (all : List ℕ) → (length all == 0) ≡ true → (x : ℕ) → among x all ≡ false
over_none [] e x = refl
over_none (y ∷ all) e x = absurd (let n = eqb-true (suc (length all)) 0 e in omega arith)

none_over : (all : List ℕ) → ((x : ℕ) → among x all ≡ false) → (length all == 0) ≡ true
none_over [] h = refl
none_over (y ∷ all) h = absurd (both_ways _ (h y) (or_left (y == y) (among y all) (eq-eqb y y refl)))

-- ---- Who entered

-- after one was set
entered-set : (entered : List (Option ℕ)) (q : ℕ) (x : Option ℕ) (lp : ℕ) → q < length entered
    → entered_at (set entered q x) lp ≡ (if lp == q then x else entered_at entered lp)
entered-set entered q x lp low =
    elim (eqb_tells lp q) [
      | inl one ↦ ap (λ i. entered_at (set entered q x) i) one.1 ∙ get_or-set_same entered q x None low ∙ sym (ap (λ b. if b then x else entered_at entered lp) one.0)
      | inr two ↦ get_or-set_other entered q lp x None two.1 ∙ sym (ap (λ b. if b then x else entered_at entered lp) two.0)
    ]

-- after one left
entered-left : (entered : List (Option ℕ)) (q lp : ℕ) → entered_at (set entered q None) lp ≡ (if lp == q then None else entered_at entered lp)
entered-left entered q lp =
    elim (cases_lt q (length entered)) [
      | inl low ↦ entered-set entered q None lp low
      | inr high ↦ elim (eqb_tells lp q) [
        | inl one ↦ let n = length-set entered q None in
            get_or-eq_default (set entered q None) None (omega (arith, one.1)) ∙ sym (ap (λ b. if b then None else entered_at entered lp) one.0)
        | inr two ↦ get_or-set_other entered q lp None None two.1 ∙ sym (ap (λ b. if b then None else entered_at entered lp) two.0)
      ]
    ]

-- ---- Cycles that wait

more_wait : (n m : ℕ) (entered : ℕ → Option ℕ) (all : List Cycle) → n ≤ m → AllWaitFor n entered all → AllWaitFor m entered all
more_wait n m entered [] le h = tt
more_wait n m entered (cycle ∷ older) le h = let low = h.0 in (omega arith, h.1, more_wait n m entered older le h.2)

wait_same : (n : ℕ) (entered after : ℕ → Option ℕ) (all : List Cycle)
    → ((lp place : ℕ) → place ≤ n → entered_before (entered lp) place ≡ entered_before (after lp) place) → AllWaitFor n entered all → AllWaitFor n after all
wait_same n entered after [] same h = tt
wait_same n entered after (cycle ∷ older) same h = (h.0, λ lp. h.1 lp ∙ same lp cycle.at h.0, wait_same n entered after older same h.2)

wait_left : (n q : ℕ) (entered after : ℕ → Option ℕ) (all : List Cycle)
    → ((lp place : ℕ) → (entered_before (entered lp) place && not (lp == q)) ≡ entered_before (after lp) place) → AllWaitFor n entered all
    → AllWaitFor n after (map (without q) all)
wait_left n q entered after [] same h = tt
wait_left n q entered after (cycle ∷ older) same h = (
  h.0,
  λ lp. among-filter (λ r. not (r == q)) lp cycle.waiting ∙ ap (λ b. b && not (lp == q)) (h.1 lp) ∙ same lp cycle.at,
  wait_left n q entered after older same h.2,
)

places_left : (q place : ℕ) (all : List Cycle) → list_any (λ cycle. cycle.at == place) (map (without q) all) ≡ list_any (λ cycle. cycle.at == place) all
places_left q place [] = refl
places_left q place (cycle ∷ older) = ap (λ b. (cycle.at == place) || b) (places_left q place older)

cycle_left : (q place : ℕ) (all : List Cycle) → IsCycleAt all place → IsCycleAt (map (without q) all) place
cycle_left q place all (inl none) = inl none
cycle_left q place all (inr one) = inr (places_left q place all ∙ one)

cycle_more : (cycle : Cycle) (all : List Cycle) (place : ℕ) → IsCycleAt all place → IsCycleAt (cycle ∷ all) place
cycle_more cycle all place (inl none) = inl none
cycle_more cycle all place (inr one) = inr (or_right (cycle.at == place) _ one)

some_is : (a b : ℕ) → Some a ≡ Some b → a ≡ b
some_is a b h = cc

-- ---- The newest cycle that is over

over_low : (entered : List (Option ℕ)) (n : ℕ) → newest_over entered n ≤ n
over_low [] n = omega arith
over_low (None ∷ entered) n = over_low entered n
over_low (Some m ∷ entered) n = let e = over_low entered (min n m) in omega arith

over_each : (entered : List (Option ℕ)) (n lp m : ℕ) → entered_at entered lp ≡ Some m → newest_over entered n ≤ m
over_each [] n lp m e = absurd (cc)
over_each (None ∷ entered) n zero m e = absurd (cc)
over_each (None ∷ entered) n (suc lp) m e = over_each entered n lp m e
over_each (Some k ∷ entered) n zero m e = let low = over_low entered (min n k) in let s = some_is k m e in omega arith
over_each (Some k ∷ entered) n (suc lp) m e = over_each entered (min n k) lp m e

over_least : (entered : List (Option ℕ)) (n m : ℕ) → m ≤ n → ((lp k : ℕ) → entered_at entered lp ≡ Some k → m ≤ k) → m ≤ newest_over entered n
over_least [] n m le each = le
over_least (None ∷ entered) n m le each = over_least entered n m le (λ lp k e. each (suc lp) k e)
over_least (Some k ∷ entered) n m le each = let low = each zero k refl in over_least entered (min n k) m (omega arith) (λ lp j e. each (suc lp) j e)

least : (P : ℕ → Type 0) (n m : ℕ) → P n → P m → P (min n m)
least P n m a b =
    elim (cases_lt n m) [
      | inl low ↦ subst P (let e : n ≡ min n m = omega arith in e) a
      | inr high ↦ subst P (let e : m ≡ min n m = omega arith in e) b
    ]

over_one : (P : ℕ → Type 0) (entered : List (Option ℕ)) (n : ℕ) → P n → ((lp k : ℕ) → entered_at entered lp ≡ Some k → P k) → P (newest_over entered n)
over_one P [] n here each = here
over_one P (None ∷ entered) n here each = over_one P entered n here (λ lp k e. each (suc lp) k e)
over_one P (Some m ∷ entered) n here each = over_one P entered (min n m) (least P n m here (each zero m refl)) (λ lp k e. each (suc lp) k e)

-- ---- Steps

module _ (newest : ℕ) (entered : List (Option ℕ)) (lps place : ℕ) (is_in : ℕ → Bool) (all : List Cycle) (h : AreCycles newest entered lps place is_in all) where
  same_step : (others : ℕ → Bool) → ((lp : ℕ) → others lp ≡ is_in lp) → AreCycles newest entered lps (place + 1) others all
  same_step others same = record {
    room = h.room;
    inside_is = λ lp low. h.inside_is lp low ∙ sym (same lp);
    none_beyond = h.none_beyond;
    early = let e = h.early in omega arith;
    earlier = h.earlier;
    waiting = h.waiting;
    newest_at = h.newest_at;
    entered_at_one = h.entered_at_one;
  }

  -- a cycle that begins waits for those who are inside
  begun_waits : (lp : ℕ) (o : Option ℕ) → entered_at entered lp ≡ o → among lp (filter is_in (range_with_len 0 lps)) ≡ entered_before o (place + 1)
  begun_waits lp o e = among-filter is_in lp (range_with_len 0 lps) ∙ by (cases_lt lp lps) o e
    where
      by : (lp < lps) ⊎ (lps ≤ lp) → (o : Option ℕ) → entered_at entered lp ≡ o → (among lp (range_with_len 0 lps) && is_in lp) ≡ entered_before o (place + 1)
      by (inl low) None e = ap (λ b. among lp (range_with_len 0 lps) && b) (sym (h.inside_is lp low) ∙ ap is_some e) ∙ neither (among lp (range_with_len 0 lps))
        where
          neither : (b : Bool) → (b && false) ≡ false
          neither true = refl
          neither false = refl
      by (inl low) (Some n) e =
          let early = h.early in
          let earlier = h.earlier lp n e in
          let there : among lp (range_with_len 0 lps) ≡ true = any_in_range (λ y. y == lp) lps 0 lp (omega arith) (omega arith) (eq-eqb lp lp refl) in
          and_from _ _ there (sym (h.inside_is lp low) ∙ ap is_some e) ∙ sym (lt-ltb n (place + 1) (omega arith))
      by (inr high) o e =
          let none : among lp (range_with_len 0 lps) ≡ false = none_in_range (λ y. y == lp) lps 0 (λ x low below. differ x (omega arith)) in
          ap (λ b. b && is_in lp) none ∙ sym (ap (λ p. entered_before p (place + 1)) (sym e ∙ h.none_beyond lp high))
        where
          differ : (x : ℕ) → (x ≡ lp → ⊥) → (x == lp) ≡ false
          differ x ne = elim (eqb_tells x lp) [ inl one ↦ absurd (ne one.1) | inr two ↦ two.0 ]

  abbrev new_cycle : Cycle
  new_cycle = record { at = place + 1; waiting = filter is_in (range_with_len 0 lps) }

  begun : AreCycles (place + 1) entered lps (place + 1) is_in (new_cycle ∷ all)
  begun =
      let early = h.early in
      record {
        room = h.room;
        inside_is = h.inside_is;
        none_beyond = h.none_beyond;
        early = omega arith;
        earlier = λ lp n e. let low = h.earlier lp n e in omega arith;
        waiting = (omega arith, λ lp. begun_waits lp (entered_at entered lp) refl, more_wait newest (place + 1) (entered_at entered) all (omega arith) h.waiting);
        newest_at = inr (or_left ((place + 1) == (place + 1)) _ (eq-eqb (place + 1) (place + 1) refl));
        entered_at_one = λ lp n e. cycle_more new_cycle all n (h.entered_at_one lp n e);
      }

  -- a processor enters
  entered_step : (q : ℕ) (others : ℕ → Bool) → q < lps → ((lp : ℕ) → others lp ≡ (if lp == q then true else is_in lp))
      → AreCycles newest (with_entered entered q newest) lps (place + 1) others all
  entered_step q others low others_are = by (entered_at entered q) refl
    where
      out : (lp : ℕ) (b : Bool) → (lp == q) ≡ b → entered_at entered q ≡ None → (at : ℕ) → at ≤ newest
          → entered_before (entered_at entered lp) at ≡ entered_before (if b then Some newest else entered_at entered lp) at
      out lp true e none at le =
          ap (λ i. entered_before (entered_at entered i) at) (eqb-true lp q e) ∙ ap (λ o. entered_before o at) none ∙ sym (le-ltb newest at le)
      out lp false e none at le = refl

      is_set : (lp : ℕ) → entered_at (set entered q (Some newest)) lp ≡ (if lp == q then Some newest else entered_at entered lp)
      is_set lp = let r = h.room in entered-set entered q (Some newest) lp (omega arith)

      known : (P : ℕ → Type 0) (lp n : ℕ) → P newest → ((m : ℕ) → entered_at entered lp ≡ Some m → P m) → (b : Bool)
          → (if b then Some newest else entered_at entered lp) ≡ Some n → P n
      known P lp n here before true e = subst P (some_is newest n e) here
      known P lp n here before false e = before n e

      inside_at : (lp : ℕ) (b : Bool) → lp < lps → is_some (if b then Some newest else entered_at entered lp) ≡ (if b then true else is_in lp)
      inside_at lp true below = refl
      inside_at lp false below = h.inside_is lp below

      beyond : (lp : ℕ) → lps ≤ lp → (b : Bool) → (lp == q) ≡ b → (if b then Some newest else entered_at entered lp) ≡ None
      beyond lp high true e = absurd (let s = eqb-true lp q e in omega arith)
      beyond lp high false e = h.none_beyond lp high

      inside_still : (m lp : ℕ) → entered_at entered q ≡ Some m → lp < lps → (b : Bool) → (lp == q) ≡ b → is_some (entered_at entered lp) ≡ (if b then true else is_in lp)
      inside_still m lp e below true same = ap (λ i. is_some (entered_at entered i)) (eqb-true lp q same) ∙ ap is_some e
      inside_still m lp e below false same = h.inside_is lp below

      by : (o : Option ℕ) → entered_at entered q ≡ o → AreCycles newest (with_entered entered q newest) lps (place + 1) others all
      by None none =
          let new : with_entered entered q newest ≡ set entered q (Some newest) = ap (λ o. if is_none o then set entered q (Some newest) else entered) none in
          subst (λ l. AreCycles newest l lps (place + 1) others all) (sym new) (record {
            room = let r = h.room in let n = length-set entered q (Some newest) in omega arith;
            inside_is = λ lp below. ap is_some (is_set lp) ∙ inside_at lp (lp == q) below ∙ sym (others_are lp);
            none_beyond = λ lp high. is_set lp ∙ beyond lp high (lp == q) refl;
            early = let e = h.early in omega arith;
            earlier = λ lp n e. known (λ m. m ≤ newest) lp n (omega arith) (λ m s. h.earlier lp m s) (lp == q) (sym (is_set lp) ∙ e);
            waiting = wait_same newest (entered_at entered) (entered_at (set entered q (Some newest))) all
                (λ lp at le. out lp (lp == q) refl none at le ∙ ap (λ o. entered_before o at) (sym (is_set lp))) h.waiting;
            newest_at = h.newest_at;
            entered_at_one = λ lp n e. known (IsCycleAt all) lp n h.newest_at (λ m s. h.entered_at_one lp m s) (lp == q) (sym (is_set lp) ∙ e);
          })
      by (Some m) some =
          let new : with_entered entered q newest ≡ entered = ap (λ o. if is_none o then set entered q (Some newest) else entered) some in
          subst (λ l. AreCycles newest l lps (place + 1) others all) (sym new) (record {
            room = h.room;
            inside_is = λ lp below. inside_still m lp some below (lp == q) refl ∙ sym (others_are lp);
            none_beyond = h.none_beyond;
            early = let e = h.early in omega arith;
            earlier = h.earlier;
            waiting = h.waiting;
            newest_at = h.newest_at;
            entered_at_one = h.entered_at_one;
          })

  -- a processor leaves
  left_step : (q : ℕ) (others : ℕ → Bool) → ((lp : ℕ) → others lp ≡ (if lp == q then false else is_in lp))
      → AreCycles newest (set entered q None) lps (place + 1) others (map (without q) all)
  left_step q others others_are = record {
    room = let r = h.room in let n = length-set entered q None in omega arith;
    inside_is = λ lp below. ap is_some (entered-left entered q lp) ∙ inside_at lp (lp == q) below ∙ sym (others_are lp);
    none_beyond = λ lp high. entered-left entered q lp ∙ beyond lp high (lp == q);
    early = let e = h.early in omega arith;
    earlier = λ lp n e. known (λ m. m ≤ newest) lp n (λ m s. h.earlier lp m s) (lp == q) (sym (entered-left entered q lp) ∙ e);
    waiting = wait_left newest q (entered_at entered) (entered_at (set entered q None)) all
        (λ lp at. left lp (lp == q) at ∙ ap (λ o. entered_before o at) (sym (entered-left entered q lp))) h.waiting;
    newest_at = cycle_left q newest all h.newest_at;
    entered_at_one = λ lp n e.
        cycle_left q n all (known (IsCycleAt all) lp n (λ m s. h.entered_at_one lp m s) (lp == q) (sym (entered-left entered q lp) ∙ e));
  }
    where
      inside_at : (lp : ℕ) (b : Bool) → lp < lps → is_some (if b then None else entered_at entered lp) ≡ (if b then false else is_in lp)
      inside_at lp true below = refl
      inside_at lp false below = h.inside_is lp below

      beyond : (lp : ℕ) → lps ≤ lp → (b : Bool) → (if b then None else entered_at entered lp) ≡ None
      beyond lp high true = refl
      beyond lp high false = h.none_beyond lp high

      known : (P : ℕ → Type 0) (lp n : ℕ) → ((m : ℕ) → entered_at entered lp ≡ Some m → P m) → (b : Bool) → (if b then None else entered_at entered lp) ≡ Some n → P n
      known P lp n before true e = absurd (cc)
      known P lp n before false e = before n e

      either : (b : Bool) → (b && true) ≡ b
      either true = refl
      either false = refl

      neither : (b : Bool) → (b && false) ≡ false
      neither true = refl
      neither false = refl

      left : (lp : ℕ) (b : Bool) (at : ℕ) → (entered_before (entered_at entered lp) at && not b) ≡ entered_before (if b then None else entered_at entered lp) at
      left lp true at = neither (entered_before (entered_at entered lp) at)
      left lp false at = either (entered_before (entered_at entered lp) at)

  -- ---- Which frames are tracked

  -- a cycle that is over began before anyone who is inside entered
  over_early : (cycle : Cycle) → (cycle.at ≤ newest) → ((lp : ℕ) → waits_for cycle lp ≡ entered_before (entered_at entered lp) cycle.at)
      → is_over cycle ≡ true → cycle.at ≤ newest_over entered newest
  over_early cycle low waits over =
      over_least entered newest cycle.at low
      (λ lp k e. ltb-false k cycle.at (sym (ap (λ o. entered_before o cycle.at) e) ∙ sym (waits lp) ∙ over_none cycle.waiting over lp))

  tracked_forward : (b : ℕ) (some : List Cycle) → AllWaitFor newest (entered_at entered) some
      → list_any (λ cycle. nat_lt b cycle.at && is_over cycle) some ≡ true → b < newest_over entered newest
  tracked_forward b [] w e = absurd (cc)
  tracked_forward b (cycle ∷ older) w e = by (tracked_forward b older w.2) (nat_lt b cycle.at && is_over cycle) refl e
    where
      by : (list_any (λ cycle. nat_lt b cycle.at && is_over cycle) older ≡ true → b < newest_over entered newest) → (here : Bool) → (nat_lt b cycle.at && is_over cycle) ≡ here
          → (here || list_any (λ cycle. nat_lt b cycle.at && is_over cycle) older) ≡ true → b < newest_over entered newest
      by rest true is e =
          let parts = and_parts (nat_lt b cycle.at) (is_over cycle) is in
          let early = over_early cycle w.0 w.1 parts.1 in
          let after = ltb-true b cycle.at parts.0 in
          omega arith
      by rest false is e = rest e

  -- the newest cycle that nobody who is inside entered before is over
  newest_is_over : (cycle : Cycle) → ((lp : ℕ) → waits_for cycle lp ≡ entered_before (entered_at entered lp) cycle.at)
      → cycle.at ≡ newest_over entered newest → is_over cycle ≡ true
  newest_is_over cycle waits is = none_over cycle.waiting (λ lp. waits lp ∙ by lp (entered_at entered lp) refl)
    where
      by : (lp : ℕ) (o : Option ℕ) → entered_at entered lp ≡ o → entered_before o cycle.at ≡ false
      by lp None e = refl
      by lp (Some k) e = let low = over_each entered newest lp k e in le-ltb k cycle.at (omega arith)

  tracked_backward : (b : ℕ) (some : List Cycle) → AllWaitFor newest (entered_at entered) some
      → list_any (λ cycle. cycle.at == newest_over entered newest) some ≡ true → b < newest_over entered newest
      → list_any (λ cycle. nat_lt b cycle.at && is_over cycle) some ≡ true
  tracked_backward b [] w e low = absurd (cc)
  tracked_backward b (cycle ∷ older) w e low = by (λ x. tracked_backward b older w.2 x low) (cycle.at == newest_over entered newest) refl e
    where
      by : (list_any (λ cycle. cycle.at == newest_over entered newest) older ≡ true → list_any (λ cycle. nat_lt b cycle.at && is_over cycle) older ≡ true)
          → (here : Bool) → (cycle.at == newest_over entered newest) ≡ here
          → (here || list_any (λ cycle. cycle.at == newest_over entered newest) older) ≡ true
          → list_any (λ cycle. nat_lt b cycle.at && is_over cycle) (cycle ∷ older) ≡ true
      by rest true is e =
          let same = eqb-true cycle.at (newest_over entered newest) is in
          or_left _ _ (and_from _ _ (lt-ltb b cycle.at (omega arith)) (newest_is_over cycle w.1 same))
      by rest false is e = or_right _ _ (rest e)

  -- what comes after the block is over just where the newest that is over does
  pub tracked-noted : (b : ℕ) → list_any (λ cycle. nat_lt b cycle.at && is_over cycle) all ≡ nat_lt b (newest_over entered newest)
  tracked-noted b =
      elim (cases_lt b (newest_over entered newest)) [
        | inl low ↦ back low (over_one (IsCycleAt all) entered newest h.newest_at h.entered_at_one) ∙ sym (lt-ltb b _ low)
        | inr high ↦ false_from_ne_true _ (λ e. let low = tracked_forward b all h.waiting e in omega arith) ∙ sym (le-ltb b _ high)
      ]
    where
      back : b < newest_over entered newest → IsCycleAt all (newest_over entered newest) → list_any (λ cycle. nat_lt b cycle.at && is_over cycle) all ≡ true
      back low (inl none) = absurd (omega arith)
      back low (inr one) = tracked_backward b all h.waiting one low

-- ---- At first

none_inside : (lp : ℕ) → entered_at (None ∷ None ∷ None ∷ None ∷ []) lp ≡ None
none_inside zero = refl
none_inside (suc zero) = refl
none_inside (suc (suc zero)) = refl
none_inside (suc (suc (suc zero))) = refl
none_inside (suc (suc (suc (suc lp)))) = refl

-- nobody is inside, and there is no cycle
pub at_first : (lps : ℕ) → lps ≤ 4 → AreCycles 0 (None ∷ None ∷ None ∷ None ∷ []) lps 0 (λ lp. false) []
at_first lps few = record {
  room = omega arith;
  inside_is = λ lp low. ap is_some (none_inside lp);
  none_beyond = λ lp high. none_inside lp;
  early = omega arith;
  earlier = λ lp n e. absurd (let x : None ≡ Some n = sym (none_inside lp) ∙ e in cc);
  waiting = tt;
  newest_at = inl refl;
  entered_at_one = λ lp n e. absurd (let x : None ≡ Some n = sym (none_inside lp) ∙ e in cc);
}

-- ---- One more change

module _ (layout : Layout) (past : History) (newest : ℕ) (entered : List (Option ℕ))
    (h : AreCycles newest entered layout.lps (length past) (inside past) (cycles layout past)) where
  -- what is kept of the cycles after one more change
  abbrev AreAfter : Change → Type 0
  AreAfter change =
      AreCycles (newest_after change (length past + 1) newest) (entered_after change newest entered) layout.lps (length past + 1)
      (λ lp. is_some (since_after (told change) lp (length past + 1) (since past lp)))
      (cycles_after layout past (told change) (cycles layout past))

  same : AreCycles newest entered layout.lps (length past + 1) (inside past) (cycles layout past)
  same = same_step newest entered layout.lps (length past) (inside past) (cycles layout past) h (inside past) (λ lp. refl)

  comes : (b : Bool) (x : ℕ) (o : Option ℕ) → is_some (if b then Some x else o) ≡ (if b then true else is_some o)
  comes true x o = refl
  comes false x o = refl

  goes : (b : Bool) (o : Option ℕ) → is_some (if b then None else o) ≡ (if b then false else is_some o)
  goes true o = refl
  goes false o = refl

  pub cycles_step : (change : Change) → IsThere layout (told change) → AreAfter change
  cycles_step Cycles there = begun newest entered layout.lps (length past) (inside past) (cycles layout past) h
  cycles_step (Enters q v) there =
      entered_step newest entered layout.lps (length past) (inside past) (cycles layout past) h q.0 _ there
      (λ lp. comes (lp == q.0) (length past + 1) (since past lp))
  cycles_step (Resumes q) there =
      entered_step newest entered layout.lps (length past) (inside past) (cycles layout past) h q.0 _ there
      (λ lp. comes (lp == q.0) (length past + 1) (since past lp))
  cycles_step (Exits q exit) there =
      left_step newest entered layout.lps (length past) (inside past) (cycles layout past) h q.0 _ (λ lp. goes (lp == q.0) (since past lp))
  cycles_step (Interrupts q) there =
      left_step newest entered layout.lps (length past) (inside past) (cycles layout past) h q.0 _ (λ lp. goes (lp == q.0) (since past lp))
  cycles_step Unchanged there = same
  cycles_step (Maps p f flags) there = same
  cycles_step (Blocks f) there = same
  cycles_step (WritesOut f va i k) there = same
  cycles_step (Loads f k p va i blocked) there = same
  cycles_step (Removes f) there = same
  cycles_step (MakesVa f) there = same
  cycles_step (Discards k) there = same
