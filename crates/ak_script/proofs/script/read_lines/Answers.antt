use Rattle.std.proofs.Common.{◌≡◌, ◌∙◌, ◌∷◌, [], ◌++◌, List, ℕ, Ok, Err, Some, None, ap, sym, subst, map, arith, inl, inr, ◌⊎◌, ◌<◌, ◌+◌}
use Rattle.std.specs.List.{sum_by}
use Rattle.std.specs.Str.Lines.{lines}
use Rattle.std.proofs.lemmas.Grind.{common_steps}
use Rattle.std.proofs.lemmas.Bool.Decides.{nat_tests}
use Rattle.ak_script.specs.declared.items.Item.{Item}
use Rattle.ak_script.specs.declared.items.Line.TheVariants as says
use Rattle.ak_script.specs.Line.{spelled}
use Rattle.ak_script.specs.Script.{script_of, moves_in, turns_in}
use Rattle.ak_script.proofs.Splits.{lines_none}
use Rattle.ak_script.proofs.Reading.{SaidSoFar, skips, gives, adds, refuses, overflows, all_said, next, counts_more, too_many, not_too_many}
use Rattle.ak_script.proofs.script.read_lines.Goals as goal
use Rattle.ak_script.proofs.script.read_lines.Goals.{then-moves-gt-MOST_MOVES-via-then-moves-gt-MOST_MOVES, then-moves-gt-MOST_MOVES-via-else-moves-gt-MOST_MOVES+then-turns-gt-MOST_TURNS}

pub loop-rest-preserved-in-Ok-None : goal.loop-rest-preserved-in-Ok-None
loop-rest-preserved-in-Ok-None c =
    let line = rw c.in-Ok-None.field-0-is at c.in-Ok-None.ensures in
    let said = next c.loop-rest.rest.now c.split_line.result.1.now c.split_line.result.0.now (Ok None) c.split_line.ensures.value line.value c.loop-rest.invariant.said in
    record {
      said = skips said;
      counts = c.loop-rest.invariant.counts;
      lines = omega arith;
      few_moves = c.loop-rest.invariant.few_moves;
      few_turns = c.loop-rest.invariant.few_turns;
      all_items_fit = c.loop-rest.invariant.all_items_fit;
      inputs_fit = c.loop-rest.invariant.inputs_fit;
    }

pub loop-rest-preserved-in-Continue-1 : goal.loop-rest-preserved-in-Continue-1
loop-rest-preserved-in-Continue-1 c =
    let value = c.in-Ok-Some-Input.value in
    let some = rw c.in-Ok-Some-Input.field-0-is at c.in-Ok-Some-Input.ensures in
    let line = rw c.in-Ok-Some-Input.field-0-0-is at some in
    let said = next c.loop-rest.rest.now c.split_line.result.1.now c.split_line.result.0.now (Ok (Some (says.Input value))) c.split_line.ensures.value line.value c.loop-rest.invariant.said in
    let inputs : c.push.new.self.items ≡ c.loop-rest.inputs.items ++ value ∷ [] = c.in_ok-push-in-Ok-Some-Input.ensures.items in
    let P : List ℕ → Type 0 = λ values. SaidSoFar (map spelled (lines c.args.bytes.now)) (c.loop-rest.number + 1) (map spelled (lines c.split_line.result.1.now)) c.loop-rest.items.items values in
    record {
      said = subst P (sym inputs) (gives value said);
      counts = c.loop-rest.invariant.counts;
      lines = omega arith;
      few_moves = c.loop-rest.invariant.few_moves;
      few_turns = c.loop-rest.invariant.few_turns;
      all_items_fit = c.loop-rest.invariant.all_items_fit;
      inputs_fit = rw inputs (grind (arith, common_steps, line.fits));
    }

pub returns-then-moves-gt-MOST_MOVES-clause-refused : goal.returns-then-moves-gt-MOST_MOVES-clause-refused
unfolding script_of
returns-then-moves-gt-MOST_MOVES-clause-refused c number why is =
    let i = c.in-Ok-Some-Item.item in
    let some = rw c.in-Ok-Some-Item.field-0-is at c.in-Ok-Some-Item.ensures in
    let line = rw c.in-Ok-Some-Item.field-0-0-is at some in
    let said = next c.loop-rest.rest.now c.split_line.result.1.now c.split_line.result.0.now (Ok (Some (says.Item i))) c.split_line.ensures.value line.value c.loop-rest.invariant.said in
    let over : (20000 < c.loop-rest.moves + moves_in i) ⊎ (20000000 < c.loop-rest.turns + turns_in i) =
    elim c.then-moves-gt-MOST_MOVES.branch [
      | then-moves-gt-MOST_MOVES-via-then-moves-gt-MOST_MOVES w ↦ inl (omega (arith, c.moves_in-moves.ensures))
      | then-moves-gt-MOST_MOVES-via-else-moves-gt-MOST_MOVES+then-turns-gt-MOST_TURNS w ↦ inr (omega (arith, c.turns_in-turns.ensures))
    ] in
    let counts = counts_more c.loop-rest.items.items i c.loop-rest.moves c.loop-rest.turns c.loop-rest.invariant.counts in
    let refused = overflows i (too_many _ _ _ counts over) said in
    cc

pub loop-rest-preserved : goal.loop-rest-preserved
loop-rest-preserved c =
    let i = c.in-Ok-Some-Item.item in
    let some = rw c.in-Ok-Some-Item.field-0-is at c.in-Ok-Some-Item.ensures in
    let line = rw c.in-Ok-Some-Item.field-0-0-is at some in
    let said = next c.loop-rest.rest.now c.split_line.result.1.now c.split_line.result.0.now (Ok (Some (says.Item i))) c.split_line.ensures.value line.value c.loop-rest.invariant.said in
    let counts = counts_more c.loop-rest.items.items i c.loop-rest.moves c.loop-rest.turns c.loop-rest.invariant.counts in
    let few = not_too_many _ _ _ counts (omega (arith, c.moves_in-moves.ensures)) (omega (arith, c.turns_in-turns.ensures)) in
    let items : c.push-in-Ok-Some-Item.new.self.items ≡ c.loop-rest.items.items ++ i ∷ [] = c.in_ok-push-in-Ok-Some-Item.ensures.items in
    let P : List Item → Type 0 = λ all. SaidSoFar (map spelled (lines c.args.bytes.now)) (c.loop-rest.number + 1) (map spelled (lines c.split_line.result.1.now)) all c.loop-rest.inputs.items in
    record {
      said = subst P (sym items) (adds i few said);
      counts = record {
        moves_are = ap (λ n. c.loop-rest.moves + n) c.moves_in-moves.ensures ∙ counts.moves_are ∙ ap (sum_by moves_in) (sym items);
        turns_are = ap (λ n. c.loop-rest.turns + n) c.turns_in-turns.ensures ∙ counts.turns_are ∙ ap (sum_by turns_in) (sym items);
      };
      lines = omega arith;
      few_moves = omega arith;
      few_turns = omega arith;
      all_items_fit = rw items (grind (arith, common_steps, line.fits));
      inputs_fit = c.loop-rest.invariant.inputs_fit;
    }

pub returns-in-Err-clause-refused : goal.returns-in-Err-clause-refused
unfolding script_of
returns-in-Err-clause-refused c number why is =
    let said = next c.loop-rest.rest.now c.split_line.result.1.now c.split_line.result.0.now (Err c.in-Err.why) c.split_line.ensures.value c.in-Err.ensures.value c.loop-rest.invariant.said in
    let refused = refuses c.in-Err.why said in
    cc

pub returns-clause-read : goal.returns-clause-read
unfolding script_of
returns-clause-read c =
    let none : lines c.loop-rest.rest.now ≡ [] = lines_none c.loop-rest.rest.now (grind (arith, nat_tests, c.loop-rest-test.ensures)) in
    let P : List (List ℕ) → Type 0 = λ left. SaidSoFar (map spelled (lines c.args.bytes.now)) c.loop-rest.number (map spelled left) c.loop-rest.items.items c.loop-rest.inputs.items in
    all_said (subst P none c.loop-rest.invariant.said)
