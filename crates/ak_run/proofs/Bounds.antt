-- The numbers of a run stay bounded by how many moves there were.
use Rattle.std.proofs.Common.{◌≡◌, ℕ, ◌+◌, ◌*◌, ◌^◌, ◌<◌, ◌≤◌, Bool, true, false, List, [], ◌∷◌, ◌++◌, length, ap, sym, ◌∙◌, arith, length-append, Fits, w64}
use Rattle.std.specs.Prelude.{if◌then◌else◌}
use Rattle.ak_core.specs.Layout.{Layout}
use Rattle.ak_core.specs.declared.moves.Answer.{Answer}
use Rattle.ak_core.specs.declared.moves.Answer.TheVariants.{OkHandle}
use Rattle.ak_core.specs.declared.moves.Move.{Move}
use Rattle.ak_core.specs.declared.moves.Move.TheVariants.{Etrack}
use Rattle.ak_model.specs.Kernels.Counted.{is_asynchronous, more_if, saved_after}
use Rattle.ak_model.specs.Paging.Histories.{Change, Resumes, Exits, Interrupts, change}
use Rattle.ak_model.specs.Paging.Pages.{all_pages}
use Rattle.ak_model.specs.Stops.Blame.{faults}
use Rattle.ak_encls.specs.Answering.{given_by, IsCounted}
use Rattle.ak_machine.specs.Moves.{Moves}
use Rattle.ak_machine.specs.declared.applied.Applied.{Applied}
use Rattle.ak_run.specs.Runs.{IsBounded, RunParts}

one_handle : (a : Answer) → given_by a ≤ 1
one_handle (OkHandle k) = omega arith
one_handle _ = omega arith

one_if : (b : Bool) (n : ℕ) → more_if b n ≤ n + 1
one_if true n = omega arith
one_if false n = omega arith

-- one context more is saved at most
one_saved : (c : Change) (n : ℕ) → saved_after c n ≤ n + 1
one_saved (Exits lp exit) n = one_if (is_asynchronous exit) n
one_saved (Interrupts lp) n = omega arith
one_saved (Resumes lp) n = omega arith
one_saved _ n = omega arith

-- so few cycles may be followed by any move
pub few_cycles : (m : Move) (cycles : ℕ) → cycles < 2 ^ 63 → IsCounted m cycles
few_cycles Etrack cycles few = few
few_cycles _ cycles few = tt

same_length : (b : Bool) (xs ys zs : List ℕ) → zs ≡ (if b then xs else ys) → length xs ≡ length ys → length zs ≡ length xs
same_length true xs ys zs is same = ap length is
same_length false xs ys zs is same = ap length is ∙ sym same

module _ (old new : RunParts) (m : Move) (applied : Applied) (bounded : IsBounded old) (moves : Moves old.machine m applied new.machine) (small : applied.completed < 2 ^ 32)
    (more_moves : new.journal.moves ≡ old.journal.moves ++ m ∷ []) (more_answers : new.journal.answers ≡ old.journal.answers ++ applied.answer ∷ [])
    (count_is : new.count ≡ old.count + applied.completed) (saved_is : new.marks.saved ≡ saved_after (change m applied.answer) old.marks.saved)
    (lost_is : length new.marks.lost ≡ length old.marks.lost)
    (frozen_is : new.marks.lost_at_fault ≡ (if faults (change m applied.answer) then old.marks.lost else old.marks.lost_at_fault)) where
  one_move : length new.journal.moves ≡ length old.journal.moves + 1
  one_move = ap length more_moves ∙ length-append old.journal.moves (m ∷ [])

  one_answer : length new.journal.answers ≡ length old.journal.answers + 1
  one_answer = ap length more_answers ∙ length-append old.journal.answers (applied.answer ∷ [])

  same_pages : 3 * all_pages new.machine.layout ≡ 3 * all_pages old.machine.layout
  same_pages = ap (λ (layout : Layout). 3 * all_pages layout) moves.layout

  pub bounded_more : IsBounded new
  bounded_more =
      let n = one_move in
      let k = one_answer in
      let handles = one_handle applied.answer in
      let given = moves.counts.given in
      let cycles = moves.counts.cycles in
      let saved = one_saved (change m applied.answer) old.marks.saved in
      let pages = same_pages in
      let frozen = same_length (faults (change m applied.answer)) old.marks.lost old.marks.lost_at_fault new.marks.lost_at_fault frozen_is (bounded.lost ∙ sym bounded.lost_at_fault) in
      record {
        answered = let b = bounded.answered in omega arith;
        counted = let b = bounded.counted in omega arith;
        given = let b = bounded.given in omega arith;
        cycled = let b = bounded.cycled in omega arith;
        saved = let b = bounded.saved in omega arith;
        lost = lost_is ∙ bounded.lost ∙ sym pages;
        lost_at_fault = frozen ∙ bounded.lost ∙ sym pages;
      }

-- the count fits 64 bits
pub fits_count : (count n completed turns : ℕ) → count ≤ 2 ^ 32 * n → n < 2 ^ 31 → completed ≤ turns → turns < 2 ^ 32 → Fits w64 (count + completed)
fits_count count n completed turns counted few some small = omega arith

pub few_completed : (completed turns : ℕ) → completed ≤ turns → turns < 2 ^ 32 → completed < 2 ^ 32
few_completed completed turns some small = omega arith
