-- The places of the cycles descend, and how many of them lie up to a place.
use Rattle.std.proofs.Common.{◌≡◌, ℕ, suc, ◌+◌, ◌<◌, ◌≤◌, Bool, true, false, if◌then◌else◌, List, [], ◌∷◌, length, map, refl, ap, sym, subst, ◌∙◌, arith, inl, inr}
use Rattle.std.specs.Prelude.{◌&&◌, ◌||◌, cond, filter, nat_lt, nat_le}
use Rattle.std.specs.List.{list_any, list_all}
use Rattle.std.proofs.lemmas.Bool.{cases_lt, and_parts, or_left, and_from, lt-ltb, le-ltb, le-leb, lt-leb}
use Rattle.ak_model.specs.Paging.Tracking.{Cycle, without, is_over}
use Rattle.ak_track.specs.Steps.{TrackStep, EntersBy, LeavesBy, Cycled, cycles_by}

-- each cycle began before this place and the newer ones
abbrev pub Below : ℕ → List Cycle → Type 0
Below n [] = Unit {0}
Below n (cycle ∷ older) = (cycle.at < n) × Below cycle.at older

below_more : (n m : ℕ) (all : List Cycle) → n ≤ m → Below n all → Below m all
below_more n m [] le h = tt
below_more n m (cycle ∷ older) le h = let low = h.0 in (omega arith, h.1)

below_without : (q n : ℕ) (all : List Cycle) → Below n all → Below n (map (without q) all)
below_without q n [] h = tt
below_without q n (cycle ∷ older) h = (h.0, below_without q cycle.at older h.1)

-- the cycles of steps
pub below_by : (lps : ℕ) (steps : List TrackStep) → Below (length steps + 1) (cycles_by lps steps)
below_by lps [] = tt
below_by lps (Cycled ∷ steps) = (omega arith, below_by lps steps)
below_by lps (LeavesBy q ∷ steps) = below_without q _ _ (below_more (length steps + 1) (suc (length steps) + 1) _ (omega arith) (below_by lps steps))
below_by lps (EntersBy q ∷ steps) = below_more (length steps + 1) (suc (length steps) + 1) _ (omega arith) (below_by lps steps)

-- a cycle began up to this place
abbrev pub is_up_to : ℕ → Cycle → Bool
is_up_to place cycle = nat_le cycle.at place

-- how many cycles began up to this place
abbrev pub count_up_to : ℕ → List Cycle → ℕ
count_up_to place all = length (filter (is_up_to place) all)

-- one more, or not
abbrev one_more : Bool → ℕ → ℕ
one_more b n = if b then suc n else n

count_cons : (place : ℕ) (cycle : Cycle) (older : List Cycle) → count_up_to place (cycle ∷ older) ≡ one_more (nat_le cycle.at place) (count_up_to place older)
count_cons place cycle older = by_test (nat_le cycle.at place)
  where
    by_test : (b : Bool) → length (cond b (cycle ∷ filter (is_up_to place) older) (filter (is_up_to place) older)) ≡ one_more b (count_up_to place older)
    by_test true = refl
    by_test false = refl

-- at most all of them
few_by : (b : Bool) (n m : ℕ) → n ≤ m → one_more b n ≤ suc m
few_by true n m h = omega arith
few_by false n m h = omega arith

count_few : (place : ℕ) (all : List Cycle) → count_up_to place all ≤ length all
count_few place [] = omega arith
count_few place (cycle ∷ older) =
    let P : ℕ → Type 0 = λ n. n ≤ suc (length older) in
    subst P (sym (count_cons place cycle older)) (few_by (nat_le cycle.at place) _ _ (count_few place older))

-- a cycle began after this place and is over
abbrev pub is_later : ℕ → Cycle → Bool
is_later place cycle = nat_lt place cycle.at && is_over cycle

-- all of them lie up to a place that is late enough
pub counted_all : (place n : ℕ) (all : List Cycle) → Below n all → n ≤ place + 1 → count_up_to place all ≡ length all
counted_all place n [] h le = refl
counted_all place n (cycle ∷ older) h le =
    let low = h.0 in
    count_cons place cycle older
    ∙ ap (λ b. one_more b (count_up_to place older)) (le-leb cycle.at place (omega arith))
    ∙ ap (λ n. suc n) (counted_all place cycle.at older h.1 (omega arith))

-- and none is later
none_later : (place n : ℕ) (all : List Cycle) → Below n all → n ≤ place + 1 → list_any (is_later place) all ≡ false
none_later place n [] h le = refl
none_later place n (cycle ∷ older) h le =
    let low = h.0 in
    let early : nat_lt place cycle.at ≡ false = le-ltb place cycle.at (omega arith) in
    ap (λ b. (b && is_over cycle) || list_any (is_later place) older) early ∙ none_later place cycle.at older h.1 (omega arith)

counted_without : (place q : ℕ) (all : List Cycle) → count_up_to place (map (without q) all) ≡ count_up_to place all
counted_without place q [] = refl
counted_without place q (cycle ∷ older) =
    count_cons place (without q cycle) (map (without q) older)
    ∙ ap (λ n. one_more (nat_le cycle.at place) n) (counted_without place q older)
    ∙ sym (count_cons place cycle older)

-- one more step adds no cycle up to a place before it
pub counted_more : (lps place : ℕ) (steps : List TrackStep) (step : TrackStep) → place ≤ length steps
    → count_up_to place (cycles_by lps (step ∷ steps)) ≡ count_up_to place (cycles_by lps steps)
counted_more lps place steps Cycled le =
    count_cons place _ (cycles_by lps steps)
    ∙ ap (λ b. one_more b (count_up_to place (cycles_by lps steps))) (lt-leb (length steps + 1) place (omega arith))
counted_more lps place steps (LeavesBy q) le = counted_without place q (cycles_by lps steps)
counted_more lps place steps (EntersBy q) le = refl

-- ---- A later one is over

-- only the older ones lie up to a place before the newest
count_older : (place : ℕ) (cycle : Cycle) (older : List Cycle) → place < cycle.at → count_up_to place (cycle ∷ older) ≡ count_up_to place older
count_older place cycle older later =
    count_cons place cycle older ∙ ap (λ b. one_more b (count_up_to place older)) (lt-leb cycle.at place later)

-- where each is over, one is later just where not all lie up to the place
pub later_over : (place n : ℕ) (all : List Cycle) → Below n all → list_all is_over all ≡ true
    → list_any (is_later place) all ≡ nat_lt (count_up_to place all) (length all)
later_over place n [] h over = refl
later_over place n (cycle ∷ older) h over =
    elim (cases_lt place cycle.at) [
      | inl later ↦
          let few = count_few place older in
          or_left (is_later place cycle) (list_any (is_later place) older)
          (and_from (nat_lt place cycle.at) (is_over cycle) (lt-ltb place cycle.at later) (and_parts (is_over cycle) (list_all is_over older) over).0)
          ∙ sym (ap (λ m. nat_lt m (suc (length older))) (count_older place cycle older later)
          ∙ lt-ltb (count_up_to place older) (suc (length older)) (omega arith))
      | inr earlier ↦
          let all : Below (place + 1) (cycle ∷ older) = (omega arith, h.1) in
          none_later place (place + 1) (cycle ∷ older) all (omega arith)
          ∙ sym (ap (λ m. nat_lt m (suc (length older))) (counted_all place (place + 1) (cycle ∷ older) all (omega arith))
          ∙ le-ltb (suc (length older)) (suc (length older)) (omega arith))
    ]

-- where the newest waits and the others are over, one is later just where not all but one lie up to the place
pub later_waiting : (place n : ℕ) (cycle : Cycle) (older : List Cycle) → Below n (cycle ∷ older) → is_over cycle ≡ false → list_all is_over older ≡ true
    → list_any (is_later place) (cycle ∷ older) ≡ nat_lt (count_up_to place (cycle ∷ older)) (length older)
later_waiting place n cycle older h waits over =
    elim (cases_lt place cycle.at) [
      | inl later ↦
          ap (λ b. (b && is_over cycle) || list_any (is_later place) older) (lt-ltb place cycle.at later)
          ∙ ap (λ b. b || list_any (is_later place) older) waits
          ∙ later_over place cycle.at older h.1 over
          ∙ sym (ap (λ m. nat_lt m (length older)) (count_older place cycle older later))
      | inr earlier ↦
          let all : Below (place + 1) (cycle ∷ older) = (omega arith, h.1) in
          none_later place (place + 1) (cycle ∷ older) all (omega arith)
          ∙ sym (ap (λ m. nat_lt m (length older)) (counted_all place (place + 1) (cycle ∷ older) all (omega arith))
          ∙ le-ltb (suc (length older)) (length older) (omega arith))
    ]
