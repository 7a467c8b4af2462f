-- The canonical text of a script is read as that script.
use Rattle.std.proofs.Common.{◌≡◌, ℕ, ◌+◌, ◌-◌, ◌≤◌, ◌==◌, List, [], ◌∷◌, ◌++◌, map, length, get_or, refl, ap, ap₂, ◌∙◌, sym, subst, arith, true, false, Some, Ok, append_assoc, append-nil}
use Rattle.std.specs.List.{All, list_all, sum_by}
use Rattle.std.specs.Str.Lines.{lines, lines_of_parts, strip_carriage_return}
use Rattle.std.proofs.lemmas.Bool.{and_parts}
use Rattle.std.proofs.lemmas.Bool.Decides.{nat_tests}
use Rattle.std.proofs.lemmas.List.Splits.{slice_split_at}
use Rattle.std.proofs.lemmas.List.Sums.{AllPass-from_list_all, sum_by-append}
use Rattle.ak_script.specs.declared.items.Item.{Item}
use Rattle.ak_script.specs.declared.items.Line.{Line}
use Rattle.ak_script.specs.declared.items.Line.TheVariants as says
use Rattle.ak_script.specs.Line.{Spelled, item_fits, spelled}
use Rattle.ak_script.specs.Operand.{VALUE, fits}
use Rattle.ak_script.specs.Script.{KeepsLimits, Script, are_too_many, moves_in, script_of, told_by, turns_in}
use Rattle.ak_script.specs.Text.{in_lines, input_text, item_text, printed}
use Rattle.ak_script.proofs.LinesRead.{Spells, input_spells, item_spells}
use Rattle.ak_script.proofs.Plain.{is_inner}
use Rattle.ak_script.proofs.Reading.{SaidSoFar, adds, all_said, begins, gives}
use Rattle.ak_script.proofs.Splits.{lines_of_parts-more}

-- a line's bytes are neither a newline nor a carriage return
no_newline : (b : ℕ) → is_inner b ≡ true → (b == 10) ≡ false
no_newline b inner = grind (arith, nat_tests)

no_return : (b : ℕ) → is_inner b ≡ true → (b == 13) ≡ false
no_return b inner = grind (arith, nat_tests)

keeps_end : (text : List ℕ) → list_all is_inner text ≡ true → strip_carriage_return text ≡ text
keeps_end [] inner = refl
keeps_end (b ∷ bs) inner =
    let n : ℕ = length (b ∷ bs) - 1 in
    let last : (get_or (b ∷ bs) n 0 == 13) ≡ false = no_return (get_or (b ∷ bs) n 0) (AllPass-from_list_all is_inner (b ∷ bs) inner n 0 (omega arith)) in
    rw last refl

-- the first line of a text that begins with a line
pub lines-cons : (text rest : List ℕ) → list_all is_inner text ≡ true → lines (text ++ 10 ∷ rest) ≡ text ∷ lines rest
lines-cons text rest inner =
    let others : All (λ b. (b == 10) ≡ false) text = λ k d lt. no_newline (get_or text k d) (AllPass-from_list_all is_inner text inner k d lt) in
    ap lines_of_parts (slice_split_at (λ b. b == 10) text 10 rest others refl)
    ∙ lines_of_parts-more text (λ b. b == 10) rest
    ∙ ap (λ l. l ∷ lines rest) (keeps_end text inner)

-- each thing is written as a line that spells it
abbrev AllSpelled : {A : Type 0} → (A → List ℕ) → (A → Line) → List A → Type 0
AllSpelled text says [] = Unit {0}
AllSpelled text says (x ∷ xs) = Spells (text x) (says x) × AllSpelled text says xs

module _ {A : Type 0} (text : A → List ℕ) (said : A → Line) where
  abbrev spelling : A → Spelled
  spelling x = Ok (Some (said x))

  -- what the lines of such a text spell
  spelled_lines : (xs : List A) (rest : List ℕ) → AllSpelled text said xs → map spelled (lines (in_lines text xs ++ rest)) ≡ map spelling xs ++ map spelled (lines rest)
  spelled_lines [] rest all = refl
  spelled_lines (x ∷ xs) rest all =
      let whole : in_lines text (x ∷ xs) ++ rest ≡ text x ++ 10 ∷ (in_lines text xs ++ rest) = append_assoc (text x ++ 10 ∷ []) (in_lines text xs) rest ∙ append_assoc (text x) (10 ∷ []) (in_lines text xs ++ rest) in
      ap (λ bytes. map spelled (lines bytes)) whole
      ∙ ap (map spelled) (lines-cons (text x) (in_lines text xs ++ rest) all.0.inner)
      ∙ ap₂ (λ here others. here ∷ others) all.0.spells (spelled_lines xs rest all.1)

items_spelled : (items : List Item) → list_all item_fits items ≡ true → AllSpelled item_text says.Item items
items_spelled [] fit = tt
items_spelled (i ∷ items) fit = let parts = and_parts (item_fits i) (list_all item_fits items) fit in (item_spells i parts.0, items_spelled items parts.1)

inputs_spelled : (inputs : List ℕ) → list_all (fits VALUE) inputs ≡ true → AllSpelled input_text says.Input inputs
inputs_spelled [] fit = tt
inputs_spelled (v ∷ inputs) fit = let parts = and_parts (fits VALUE v) (list_all (fits VALUE) inputs) fit in (input_spells v parts.0, inputs_spelled inputs parts.1)

-- some lines are read, and these are left
record IsReadTo (said left : List Spelled) (items : List Item) (inputs : List ℕ) : Type 0 where
  lines_read : ℕ
  so : SaidSoFar said lines_read left items inputs

few_before : (items more : List Item) → sum_by moves_in (items ++ more) ≤ 20000 → sum_by turns_in (items ++ more) ≤ 20000000 → are_too_many items ≡ false
few_before items more moves turns =
    let le : sum_by moves_in items ≤ 20000 = omega (arith, sum_by-append moves_in items more) in
    let less : sum_by turns_in items ≤ 20000000 = omega (arith, sum_by-append turns_in items more) in
    grind (arith, nat_tests)

module _ {said : List Spelled} where
  inputs_read : (values : List ℕ) (left : List Spelled) (items : List Item) (inputs : List ℕ) → IsReadTo said (map (λ v. Ok (Some (says.Input v))) values ++ left) items inputs → IsReadTo said left items (inputs ++ values)
  inputs_read [] left items inputs r = subst (IsReadTo said left items) (sym (append-nil inputs)) r
  inputs_read (v ∷ values) left items inputs r =
      let more : IsReadTo said left items ((inputs ++ v ∷ []) ++ values) = inputs_read values left items (inputs ++ v ∷ []) (record { lines_read = r.lines_read + 1; so = gives v r.so }) in
      subst (IsReadTo said left items) (append_assoc inputs (v ∷ []) values) more

  items_read : (more : List Item) (left : List Spelled) (items : List Item) (inputs : List ℕ) → sum_by moves_in (items ++ more) ≤ 20000 → sum_by turns_in (items ++ more) ≤ 20000000 →
      IsReadTo said (map (λ i. Ok (Some (says.Item i))) more ++ left) items inputs → IsReadTo said left (items ++ more) inputs
  items_read [] left items inputs moves turns r = subst (λ all. IsReadTo said left all inputs) (sym (append-nil items)) r
  items_read (i ∷ more) left items inputs moves turns r =
      let same : (items ++ i ∷ []) ++ more ≡ items ++ i ∷ more = append_assoc items (i ∷ []) more in
      let fewer = subst (λ all. sum_by moves_in all ≤ 20000) (sym same) moves in
      let less = subst (λ all. sum_by turns_in all ≤ 20000000) (sym same) turns in
      let few : are_too_many (items ++ i ∷ []) ≡ false = few_before (items ++ i ∷ []) more fewer less in
      subst (λ all. IsReadTo said left all inputs) same (items_read more left (items ++ i ∷ []) inputs fewer less (record { lines_read = r.lines_read + 1; so = adds i few r.so }))

-- what lines that spell a script tell
told_of : (s : Script) → KeepsLimits s → told_by (map (λ v. Ok (Some (says.Input v))) s.inputs ++ (map (λ i. Ok (Some (says.Item i))) s.items ++ [])) ≡ Ok s
told_of s keeps =
    let said : List Spelled = map (λ v. Ok (Some (says.Input v))) s.inputs ++ (map (λ i. Ok (Some (says.Item i))) s.items ++ []) in
    let start : IsReadTo said said [] [] = record { lines_read = 0; so = begins said } in
    let after = inputs_read s.inputs (map (λ i. Ok (Some (says.Item i))) s.items ++ []) [] [] start in
    all_said (items_read s.items [] [] s.inputs keeps.few_moves keeps.few_turns after).so

pub printed_is_read : (s : Script) → KeepsLimits s → script_of (printed s) ≡ Ok s
unfolding script_of printed
printed_is_read s keeps =
    let items : map spelled (lines (in_lines item_text s.items)) ≡ map (λ i. Ok (Some (says.Item i))) s.items ++ [] =
    ap (λ bytes. map spelled (lines bytes)) (sym (append-nil (in_lines item_text s.items))) ∙ spelled_lines item_text says.Item s.items [] (items_spelled s.items keeps.items_fit) in
    let all = spelled_lines input_text says.Input s.inputs (in_lines item_text s.items) (inputs_spelled s.inputs keeps.inputs_fit) in
    ap told_by (all ∙ ap (λ l. map (λ v. Ok (Some (says.Input v))) s.inputs ++ l) items) ∙ told_of s keeps
