-- Reading a script line by line finds what it says.
use Rattle.std.proofs.Common.{◌≡◌, ℕ, ◌+◌, ◌<◌, ◌≤◌, List, [], ◌∷◌, ◌++◌, refl, ap, ap₂, ◌∙◌, sym, subst, arith, inl, inr, ◌⊎◌, true, false, if◌then◌else◌, Option, Some, None, Ok, Err, take, drop, map, length, suc, zero, zero-add, below_more, append-nil}
use Rattle.std.specs.Prelude.{slice_get}
use Rattle.std.specs.List.{filter_map, range_with_len, sum_by}
use Rattle.std.specs.Option.{option_map, option_or}
use Rattle.std.specs.Result.{result_err}
use Rattle.std.proofs.lemmas.Bool.Decides.{nat_tests}
use Rattle.std.proofs.lemmas.List.{take_all}
use Rattle.std.proofs.lemmas.List.Elements.{filter_map-append}
use Rattle.std.proofs.lemmas.List.Sums.{sum_by_push}
use Rattle.ak_script.specs.declared.items.Item.{Item}
use Rattle.ak_script.specs.declared.items.Line.TheVariants as says
use Rattle.ak_script.specs.declared.fault.Refusal.{Refusal}
use Rattle.ak_script.specs.declared.fault.Refusal.TheVariants as reason
use Rattle.std.specs.Str.Lines.{lines}
use Rattle.ak_core.specs.declared.moves.Move.{Move}
use Rattle.ak_core.specs.declared.moves.Move.TheVariants.{Run}
use Rattle.ak_script.specs.declared.items.Item.TheVariants as item
use Rattle.ak_script.specs.Line.{Spelled, item_fits, move_fits, spelled}
use Rattle.ak_script.specs.Script.{RefusedLine, Script, script, refused_line, are_too_many, items_of, inputs_of, refused_at, refused_lines, told_by, moves_in, turns_in, turns_of, first_or}

-- the first that is there
first_of : (f : ℕ → Option RefusedLine) (t : Script) (r : RefusedLine) (n k a : ℕ) → k < n → ((i : ℕ) → i < k → f (a + i) ≡ None) → f (a + k) ≡ Some r → first_or (filter_map f (range_with_len a n)) t ≡ Err r
first_of f t r zero k a lt none some = absurd (omega arith)
first_of f t r (suc n) zero a lt none some = let here : f a ≡ Some r = ap f (omega arith) ∙ some in rw here refl
first_of f t r (suc n) (suc k) a lt none some =
    let here : f a ≡ None = ap f (omega arith) ∙ none 0 (omega arith) in
    let later : (i : ℕ) → (a + 1) + i ≡ a + suc i = λ i. omega arith in
    rw here (first_of f t r n k (a + 1) (omega arith) (λ i lt. ap f (later i) ∙ none (suc i) (omega arith)) (ap f (later k) ∙ some))

-- none is there
none_of : (f : ℕ → Option RefusedLine) (n a : ℕ) → ((i : ℕ) → i < n → f (a + i) ≡ None) → filter_map f (range_with_len a n) ≡ []
none_of f zero a none = refl
none_of f (suc n) a none =
    let here : f a ≡ None = ap f (omega arith) ∙ none 0 (omega arith) in
    let later : (i : ℕ) → (a + 1) + i ≡ a + suc i = λ i. omega arith in
    rw here (none_of f n (a + 1) (λ i lt. ap f (later i) ∙ none (suc i) (omega arith)))

-- what stands at a place, and around it
pub record At {X : Type 0} (xs : List X) (n : ℕ) (x : X) (rest : List X) : Type 0 where
  pub within : n < length xs
  pub here : slice_get xs n ≡ Some x
  pub front : take (n + 1) xs ≡ take n xs ++ x ∷ []
  pub left : drop (n + 1) xs ≡ rest

at : {X : Type 0} (xs : List X) (n : ℕ) (x : X) (rest : List X) → drop n xs ≡ x ∷ rest → At xs n x rest
at [] zero x rest is = cc
at [] (suc n) x rest is = cc
at (y ∷ xs) zero x rest is = record { within = omega arith; here = cc; front = cc; left = cc }
at (y ∷ xs) (suc n) x rest is =
    let h = at xs n x rest is in
    let next : suc n + 1 ≡ suc (n + 1) = omega arith in
    record { within = omega (arith, h.within); here = h.here; front = rw next (ap (λ l. y ∷ l) h.front); left = rw next h.left }

-- where nothing is left, a place is past the end
past : {X : Type 0} (xs : List X) (n : ℕ) → drop n xs ≡ [] → length xs ≤ n
past [] n is = omega arith
past (x ∷ xs) zero is = cc
past (x ∷ xs) (suc n) is = omega (arith, past xs n is)

-- why a line is refused, by what it spells and what those before it spell
refused_at-At : (said : List Spelled) (n : ℕ) (x : Spelled) (rest : List Spelled) → At said n x rest → refused_at said n ≡ option_or (result_err x) (if are_too_many (items_of (take n said) ++ items_of (x ∷ [])) then Some reason.TooMany else None)
refused_at-At said n x rest h =
    let items : items_of (take (n + 1) said) ≡ items_of (take n said) ++ items_of (x ∷ []) = ap items_of h.front ∙ filter_map-append _ (take n said) (x ∷ []) in
    rw (h.here, items) refl

-- that line and the reason
abbrev told : ℕ → Option Refusal → Option RefusedLine
told i o = option_map (refused_line (i + 1)) o

abbrev refusal_at : List Spelled → ℕ → Option RefusedLine
refusal_at said i = told i (refused_at said i)

-- the first n lines are read, none of them is refused, and these are their items and inputs
pub record SaidSoFar (said : List Spelled) (n : ℕ) (left : List Spelled) (items : List Item) (inputs : List ℕ) : Type 0 where
  pub left_is : drop n said ≡ left
  pub items_are : items_of (take n said) ≡ items
  pub inputs_are : inputs_of (take n said) ≡ inputs
  pub none : (i : ℕ) → i < n → refused_at said i ≡ None
  pub few : are_too_many items ≡ false

pub begins : (said : List Spelled) → SaidSoFar said 0 said [] []
begins said = record { left_is = refl; items_are = refl; inputs_are = refl; none = (λ i lt. absurd (omega arith)); few = refl }

module _ {said : List Spelled} {n : ℕ} {rest : List Spelled} {items : List Item} {inputs : List ℕ} where
  -- the next line is read
  reads : (x : Spelled) (more : List Item) (others : List ℕ) → result_err x ≡ None → items_of (x ∷ []) ≡ more → inputs_of (x ∷ []) ≡ others → are_too_many (items ++ more) ≡ false →
      SaidSoFar said n (x ∷ rest) items inputs → SaidSoFar said (n + 1) rest (items ++ more) (inputs ++ others)
  reads x more others fine is are few so =
      let h = at said n x rest so.left_is in
      let here : refused_at said n ≡ None = refused_at-At said n x rest h ∙ rw (fine, so.items_are, is, few) refl in
      record {
        left_is = h.left;
        items_are = ap items_of h.front ∙ filter_map-append _ (take n said) (x ∷ []) ∙ ap₂ ◌++◌ so.items_are is;
        inputs_are = ap inputs_of h.front ∙ filter_map-append _ (take n said) (x ∷ []) ∙ ap₂ ◌++◌ so.inputs_are are;
        none = below_more (λ i. refused_at said i ≡ None) n so.none here;
        few = few;
      }

  -- it is skipped
  pub skips : SaidSoFar said n (Ok None ∷ rest) items inputs → SaidSoFar said (n + 1) rest items inputs
  skips so =
      let P : List Item → List ℕ → Type 0 = λ all values. SaidSoFar said (n + 1) rest all values in
      let few : are_too_many (items ++ []) ≡ false = ap are_too_many (append-nil items) ∙ so.few in
      subst (λ all. P all inputs) (append-nil items) (subst (P (items ++ [])) (append-nil inputs) (reads (Ok None) [] [] refl refl refl few so))

  -- it is an input
  pub gives : (value : ℕ) → SaidSoFar said n (Ok (Some (says.Input value)) ∷ rest) items inputs → SaidSoFar said (n + 1) rest items (inputs ++ value ∷ [])
  gives value so =
      let P : List Item → Type 0 = λ all. SaidSoFar said (n + 1) rest all (inputs ++ value ∷ []) in
      let few : are_too_many (items ++ []) ≡ false = ap are_too_many (append-nil items) ∙ so.few in
      subst P (append-nil items) (reads (Ok (Some (says.Input value))) [] (value ∷ []) refl refl refl few so)

  -- it is an item, and with it they are not too many
  pub adds : (i : Item) → are_too_many (items ++ i ∷ []) ≡ false → SaidSoFar said n (Ok (Some (says.Item i)) ∷ rest) items inputs → SaidSoFar said (n + 1) rest (items ++ i ∷ []) inputs
  adds i few so =
      let P : List ℕ → Type 0 = λ values. SaidSoFar said (n + 1) rest (items ++ i ∷ []) values in
      subst P (append-nil inputs) (reads (Ok (Some (says.Item i))) (i ∷ []) [] refl refl refl few so)

  -- it is refused
  stops : (x : Spelled) (why : Refusal) → option_or (result_err x) (if are_too_many (items ++ items_of (x ∷ [])) then Some reason.TooMany else None) ≡ Some why → SaidSoFar said n (x ∷ rest) items inputs → told_by said ≡ Err (refused_line (n + 1) why)
  stops x why is so =
      let h = at said n x rest so.left_is in
      let here : refused_at said n ≡ Some why = refused_at-At said n x rest h ∙ rw so.items_are is in
      first_of (refusal_at said) (script (items_of said) (inputs_of said)) _ (length said) n 0 h.within
      (λ i lt. ap (refusal_at said) (zero-add i) ∙ ap (told i) (so.none i lt))
      (ap (refusal_at said) (zero-add n) ∙ ap (told n) here)

  -- it is refused by itself
  pub refuses : (why : Refusal) → SaidSoFar said n (Err why ∷ rest) items inputs → told_by said ≡ Err (refused_line (n + 1) why)
  refuses why so = stops (Err why) why refl so

  -- with it the moves are too many
  pub overflows : (i : Item) → are_too_many (items ++ i ∷ []) ≡ true → SaidSoFar said n (Ok (Some (says.Item i)) ∷ rest) items inputs → told_by said ≡ Err (refused_line (n + 1) reason.TooMany)
  overflows i many so = stops (Ok (Some (says.Item i))) reason.TooMany (rw many refl) so

-- there is no other line
pub all_said : {said : List Spelled} {n : ℕ} {items : List Item} {inputs : List ℕ} → SaidSoFar said n [] items inputs → told_by said ≡ Ok (script items inputs)
all_said {said} {n} {items} {inputs} so =
    let le = past said n so.left_is in
    let all : items_of said ≡ items = ap items_of (sym (take_all n said le)) ∙ so.items_are in
    let values : inputs_of said ≡ inputs = ap inputs_of (sym (take_all n said le)) ∙ so.inputs_are in
    let none : refused_lines said ≡ [] = none_of (refusal_at said) (length said) 0 (λ i lt. ap (refusal_at said) (zero-add i) ∙ ap (told i) (so.none i (omega arith))) in
    ap₂ first_or none (ap₂ script all values)

-- the next line, and what it spells
pub next : {said : List Spelled} {n : ℕ} {items : List Item} {inputs : List ℕ} (rest after : List ℕ) (line : List ℕ) (x : Spelled) → lines rest ≡ line ∷ lines after → x ≡ spelled line →
    SaidSoFar said n (map spelled (lines rest)) items inputs → SaidSoFar said n (x ∷ map spelled (lines after)) items inputs
next rest after line x is spells so =
    record {
      left_is = so.left_is ∙ ap (map spelled) is ∙ ap (λ y. y ∷ map spelled (lines after)) (sym spells);
      items_are = so.items_are;
      inputs_are = so.inputs_are;
      none = so.none;
      few = so.few;
    }

-- the counts of items
pub record Counts (items : List Item) (moves turns : ℕ) : Type 0 where
  pub moves_are : moves ≡ sum_by moves_in items
  pub turns_are : turns ≡ sum_by turns_in items

-- an item more counts
pub counts_more : (items : List Item) (i : Item) (moves turns : ℕ) → Counts items moves turns → Counts (items ++ i ∷ []) (moves + moves_in i) (turns + turns_in i)
counts_more items i moves turns are = record {
  moves_are = ap (λ n. n + moves_in i) are.moves_are ∙ sym (sum_by_push moves_in items i);
  turns_are = ap (λ n. n + turns_in i) are.turns_are ∙ sym (sum_by_push turns_in items i);
}

-- items are too many by their counts
pub too_many : (items : List Item) (moves turns : ℕ) → Counts items moves turns → (20000 < moves) ⊎ (20000000 < turns) → are_too_many items ≡ true
too_many items moves turns are over =
    elim over [
      | inl all ↦ (let lt : 20000 < sum_by moves_in items = omega (arith, are.moves_are) in grind (arith, nat_tests))
      | inr more ↦ (let lt : 20000000 < sum_by turns_in items = omega (arith, are.turns_are) in grind (arith, nat_tests))
    ]

-- else they are not
pub not_too_many : (items : List Item) (moves turns : ℕ) → Counts items moves turns → moves ≤ 20000 → turns ≤ 20000000 → are_too_many items ≡ false
not_too_many items moves turns are few small =
    let le : sum_by moves_in items ≤ 20000 = omega (arith, are.moves_are) in
    let less : sum_by turns_in items ≤ 20000000 = omega (arith, are.turns_are) in
    grind (arith, nat_tests)

-- an item that a line spells counts for few
pub moves_in-le : (i : Item) → item_fits i ≡ true → moves_in i ≤ 20000
moves_in-le (item.Move m) fits = omega arith
moves_in-le (item.Auto moves) fits = grind (arith, nat_tests)

turns_of-le : (m : Move) → move_fits m ≡ true → turns_of m ≤ 1000000
turns_of-le (Run lp turns) fits = grind (arith, nat_tests)
turns_of-le _ fits = omega arith

pub turns_in-le : (i : Item) → item_fits i ≡ true → turns_in i ≤ 20000000
turns_in-le (item.Move m) fits = omega (arith, turns_of-le m fits)
turns_in-le (item.Auto moves) fits = omega (arith, moves_in-le (item.Auto moves) fits)
