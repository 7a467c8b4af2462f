-- Each script that is read keeps the limits.
use Rattle.std.proofs.Common.{◌≡◌, ℕ, ◌+◌, ◌==◌, List, [], ◌∷◌, ◌++◌, map, length, refl, ap, ◌∙◌, sym, subst, arith, Bool, true, false, not, ◌&&◌, if◌then◌else◌, Option, Some, None, Result, Ok, Err, codes}
use Rattle.std.specs.Prelude.{nat_eq, nat_lt}
use Rattle.std.specs.Cmp.Derive.{both_true}
use Rattle.std.specs.List.{list_all, starts_with}
use Rattle.std.specs.Option.{option_or}
use Rattle.std.specs.Str.Lines.{lines}
use Rattle.std.specs.Str.{bytes_eq}
use Rattle.std.proofs.lemmas.Bool.Decides.{nat_tests}
use Rattle.std.proofs.lemmas.List.Folds.{list_all-append}
use Rattle.ak_script.specs.declared.fault.Refusal.{Refusal}
use Rattle.ak_script.specs.declared.fault.Refusal.TheVariants as why
use Rattle.ak_script.specs.declared.items.Item.{Item}
use Rattle.ak_script.specs.declared.items.Line.{Line}
use Rattle.ak_script.specs.declared.items.Line.TheVariants as says
use Rattle.ak_script.specs.Line.{Makes, Row, Spelled, cache_rows, item_fits, line_fits, line_of, made_of, other_rows, row_among, row_of, spelled, spelled_by}
use Rattle.ak_script.specs.Operand.{Operand, PAGE, FRAME, HANDLE, SLOT, LP, VALUE, TURNS, MOVES, FLAGS, Meaning, fits, in_range, least, meaning_of, most, number_in, ◌>>=◌}
use Rattle.ak_script.specs.Script.{KeepsLimits, Script, are_too_many, script, script_of, told_by}
use Rattle.ak_script.specs.Words.{number_of, words_of}
use Rattle.ak_script.proofs.Reading.{SaidSoFar, adds, all_said, begins, gives, overflows, refuses, skips}

-- a choice that is right was made
chosen : {A : Type 0} (b : Bool) (x y z : A) (P : Type 0) → (b ≡ true → x ≡ z → P) → (b ≡ false → y ≡ z → P) → (if b then x else y) ≡ z → P
chosen true x y z P first second is = first refl is
chosen false x y z P first second is = second refl is

same_choice : (b : Bool) → (if b then true else false) ≡ b
same_choice true = refl
same_choice false = refl

-- what comes next was reached
record Bound {A B : Type 0} (x : Result A Refusal) (f : A → Result B Refusal) (y : B) : Type 0 where
  value : A
  was : x ≡ Ok value
  next : f value ≡ Ok y

bound : {A B : Type 0} (x : Result A Refusal) (f : A → Result B Refusal) (y : B) → (x >>= f) ≡ Ok y → Bound x f y
bound (Ok value) f y is = record { value = value; was = refl; next = is }
bound (Err reason) f y is = cc

-- a number that is read is in its range
in_range_fits : (kind : Operand) (o : Option ℕ) (n : ℕ) → in_range (least kind) (most kind) o ≡ Ok n → fits kind n ≡ true
in_range_fits kind None n is = cc
in_range_fits kind (Some m) n is =
    chosen (fits kind m) (Ok m) (Err why.Range) (Ok n) (fits kind n ≡ true)
    (λ fit same. let equal : m ≡ n = cc in subst (λ k. fits kind k ≡ true) equal fit)
    (λ _ same. cc) is

number_fits : (kind : Operand) (word : List ℕ) (n : ℕ) → number_in kind word ≡ Ok n → fits kind n ≡ true
number_fits kind word n is = in_range_fits kind (number_of word) n is

-- whether a meaning is in the range of its kind
abbrev in_its_range : (kind : Operand) → Meaning kind → Bool
in_its_range PAGE page = fits PAGE page.0
in_its_range FRAME frame = fits FRAME frame.0
in_its_range HANDLE handle = fits HANDLE handle.0
in_its_range SLOT slot = fits SLOT slot
in_its_range LP lp = fits LP lp.0
in_its_range VALUE value = fits VALUE value
in_its_range TURNS turns = fits TURNS turns
in_its_range MOVES moves = fits MOVES moves
in_its_range FLAGS flags = true

wrapped_fits : {A : Type 0} (kind : Operand) (wrap : ℕ → A) (value : A → ℕ) → ((n : ℕ) → value (wrap n) ≡ n) → (word : List ℕ) (x : A) → (number_in kind word >>= λ n. Ok (wrap n)) ≡ Ok x → fits kind (value x) ≡ true
wrapped_fits kind wrap value unwraps word x is =
    let b = bound (number_in kind word) (λ n. Ok (wrap n)) x is in
    let equal : wrap b.value ≡ x = let next = b.next in cc in
    subst (λ k. fits kind k ≡ true) (sym (unwraps b.value) ∙ ap value equal) (number_fits kind word b.value b.was)

meaning_fits : (kind : Operand) (word : List ℕ) (x : Meaning kind) → meaning_of kind word ≡ Ok x → in_its_range kind x ≡ true
meaning_fits PAGE word x is = wrapped_fits PAGE (λ n. record { 0 = n }) (λ page. page.0) (λ n. refl) word x is
meaning_fits FRAME word x is = wrapped_fits FRAME (λ n. record { 0 = n }) (λ frame. frame.0) (λ n. refl) word x is
meaning_fits HANDLE word x is = wrapped_fits HANDLE (λ n. record { 0 = n }) (λ handle. handle.0) (λ n. refl) word x is
meaning_fits SLOT word x is = number_fits SLOT word x is
meaning_fits LP word x is = wrapped_fits LP (λ n. record { 0 = n }) (λ lp. lp.0) (λ n. refl) word x is
meaning_fits VALUE word x is = number_fits VALUE word x is
meaning_fits TURNS word x is = number_fits TURNS word x is
meaning_fits MOVES word x is = number_fits MOVES word x is
meaning_fits FLAGS word x is = refl

-- what is made of operands in their ranges is in its ranges
abbrev MakesFit : (operands : List Operand) → Makes operands → Type 0
MakesFit [] said = line_fits said ≡ true
MakesFit (kind ∷ kinds) makes = (x : Meaning kind) → in_its_range kind x ≡ true → MakesFit kinds (makes x)

made_fits : (operands : List Operand) (makes : Makes operands) (words : List (List ℕ)) (said : Line) → MakesFit operands makes → made_of operands makes words ≡ Ok said → line_fits said ≡ true
made_fits [] makes words said fit is = let equal : makes ≡ said = cc in subst (λ line. line_fits line ≡ true) equal fit
made_fits (kind ∷ kinds) makes [] said fit is = cc
made_fits (kind ∷ kinds) makes (word ∷ words) said fit is =
    let b = bound (meaning_of kind word) (λ x. made_of kinds (makes x) words) said is in
    made_fits kinds (makes b.value) words said (fit b.value (meaning_fits kind word b.value b.was)) b.next

-- of each row
abbrev AllMakeFit : List Row → Type 0
AllMakeFit [] = Unit {0}
AllMakeFit (r ∷ rows) = MakesFit r.operands r.says × AllMakeFit rows

three : {a b c : Bool} → a ≡ true → b ≡ true → c ≡ true → (a && (b && c)) ≡ true
three a b c = both_true a (both_true b c)

five : {a b c d e : Bool} → a ≡ true → b ≡ true → c ≡ true → d ≡ true → e ≡ true → (a && (b && (c && (d && e)))) ≡ true
five a b c d e = both_true a (both_true b (three c d e))

cache_rows_fit : AllMakeFit cache_rows
cache_rows_fit =
    ((λ frame f. f), (refl, ((λ frame f va v slot s. three f v s), ((λ frame f handle h page p va v slot s. five f h p v s), ((λ frame f handle h page p va v slot s. five f h p v s), ((λ frame f. f), ((λ frame f. f), tt)))))))

other_rows_fit : AllMakeFit other_rows
other_rows_fit =
    ((λ page p frame f flags _. both_true p f), ((λ page p. p), ((λ handle h. h), ((λ lp l value v. both_true l v), ((λ lp l. l), ((λ lp l turns t. both_true l t), ((λ lp l. l), ((λ moves m. m), ((λ value v. v), tt)))))))))

found_fits : (rows : List Row) (first : List ℕ) (r : Row) → AllMakeFit rows → row_among rows first ≡ Some r → MakesFit r.operands r.says
found_fits [] first r fit is = cc
found_fits (row ∷ rows) first r fit is =
    chosen (bytes_eq row.word first) (Some row) (row_among rows first) (Some r) (MakesFit r.operands r.says)
    (λ _ same. let equal : row ≡ r = cc in subst (λ x. MakesFit x.operands x.says) equal fit.0)
    (λ _ same. found_fits rows first r fit.1 same) is

either_fits : (one other : Option Row) (r : Row) (P : Type 0) → (one ≡ Some r → P) → (other ≡ Some r → P) → option_or one other ≡ Some r → P
either_fits None other r P first second is = second is
either_fits (Some x) other r P first second is = first is

row_fits : (first : List ℕ) (r : Row) → row_of first ≡ Some r → MakesFit r.operands r.says
row_fits first r is =
    either_fits (row_among cache_rows first) (row_among other_rows first) r (MakesFit r.operands r.says)
    (found_fits cache_rows first r cache_rows_fit) (found_fits other_rows first r other_rows_fit) is

found_line_fits : (found : Option Row) (words : List (List ℕ)) (said : Line) → ((r : Row) → found ≡ Some r → MakesFit r.operands r.says) → line_of found words ≡ Ok said → line_fits said ≡ true
found_line_fits None words said fit is = cc
found_line_fits (Some r) words said fit is =
    chosen (length words == length r.operands) (made_of r.operands r.says words) (Err why.Words) (Ok said) (line_fits said ≡ true)
    (λ _ made. made_fits r.operands r.says words said (fit r refl) made)
    (λ _ same. cc) is

words_fit : (line : List ℕ) (words : List (List ℕ)) (said : Line) → spelled_by line words ≡ Ok (Some said) → line_fits said ≡ true
words_fit line [] said is = cc
words_fit line (first ∷ words) said is =
    let found = row_of first in
    chosen (starts_with nat_eq first (codes "#")) (Ok None) (if not (list_all (λ b. nat_lt b 128) line) then Err why.NotAscii else (line_of found words >>= λ l. Ok (Some l))) (Ok (Some said)) (line_fits said ≡ true)
    (λ _ same. cc)
    (λ _ rest. chosen (not (list_all (λ b. nat_lt b 128) line)) (Err why.NotAscii) (line_of found words >>= λ l. Ok (Some l)) (Ok (Some said)) (line_fits said ≡ true)
    (λ _ same. cc)
    (λ _ made.
    let b = bound (line_of found words) (λ l. Ok (Some l)) (Some said) made in
    let equal : b.value ≡ said = let next = b.next in cc in
    subst (λ l. line_fits l ≡ true) equal (found_line_fits found words b.value (row_fits first) b.was))
    rest)
    is

-- each line that says something is in its ranges
abbrev AllFit : List Spelled → Type 0
AllFit [] = Unit {0}
AllFit (x ∷ said) = ((line : Line) → x ≡ Ok (Some line) → line_fits line ≡ true) × AllFit said

lines_fit : (all : List (List ℕ)) → AllFit (map spelled all)
lines_fit [] = tt
lines_fit (line ∷ all) = (words_fit line (words_of line), lines_fit all)

few_moves_and_turns : (items : List Item) (inputs : List ℕ) → are_too_many items ≡ false → list_all item_fits items ≡ true → list_all (fits VALUE) inputs ≡ true → KeepsLimits (script items inputs)
few_moves_and_turns items inputs few fit fits_too = record { few_moves = grind (arith, nat_tests); few_turns = grind (arith, nat_tests); items_fit = fit; inputs_fit = fits_too }

push_all : {A : Type 0} (p : A → Bool) (xs : List A) (x : A) → list_all p xs ≡ true → p x ≡ true → list_all p (xs ++ x ∷ []) ≡ true
push_all p xs x all here = list_all-append p xs (x ∷ []) ∙ rw (all, here) refl

limits : {said : List Spelled} (left : List Spelled) (n : ℕ) (items : List Item) (inputs : List ℕ) (s : Script) → AllFit left → SaidSoFar said n left items inputs → list_all item_fits items ≡ true → list_all (fits VALUE) inputs ≡ true → told_by said ≡ Ok s → KeepsLimits s
limits [] n items inputs s all so fit fits_too told =
    let whole = all_said so in
    let equal : script items inputs ≡ s = cc in
    subst KeepsLimits equal (few_moves_and_turns items inputs so.few fit fits_too)
limits (Err reason ∷ left) n items inputs s all so fit fits_too told = let refused = refuses reason so in cc
limits (Ok None ∷ left) n items inputs s all so fit fits_too told = limits left (n + 1) items inputs s all.1 (skips so) fit fits_too told
limits (Ok (Some (says.Input value)) ∷ left) n items inputs s all so fit fits_too told =
    limits left (n + 1) items (inputs ++ value ∷ []) s all.1 (gives value so) fit (push_all (fits VALUE) inputs value fits_too (all.0 (says.Input value) refl)) told
limits (Ok (Some (says.Item i)) ∷ left) n items inputs s all so fit fits_too told =
    chosen (are_too_many (items ++ i ∷ [])) true false (are_too_many (items ++ i ∷ [])) (KeepsLimits s)
    (λ many _. let refused = overflows i many so in cc)
    (λ few _. limits left (n + 1) (items ++ i ∷ []) inputs s all.1 (adds i few so) (push_all item_fits items i fit (all.0 (says.Item i) refl)) fits_too told)
    (same_choice (are_too_many (items ++ i ∷ [])))

pub read_keeps_limits : (bytes : List ℕ) (s : Script) → script_of bytes ≡ Ok s → KeepsLimits s
unfolding script_of
read_keeps_limits bytes s is = limits (map spelled (lines bytes)) 0 [] [] s (lines_fit (lines bytes)) (begins _) refl refl is
