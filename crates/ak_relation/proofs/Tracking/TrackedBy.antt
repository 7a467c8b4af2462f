-- A frame is tracked, and the last cycle is over, by the steps just where they are by the history.
use Rattle.std.proofs.Common.{◌≡◌, ℕ, zero, suc, ◌+◌, List, [], ◌∷◌, ◌++◌, length, ap, sym, ◌∙◌, arith, subst}
use Rattle.std.proofs.lemmas.Bool.{lt-ltb}
use Rattle.std.proofs.lemmas.List.{length-append, length-replicate}
use Rattle.std.specs.Prelude.{not, replicate, Option, Some, None, is_some}
use Rattle.ak_core.specs.Layout.{Layout}
use Rattle.ak_model.specs.Paging.Histories.{History, Change, Cycles, Exits, Interrupts, change_of}
use Rattle.ak_model.specs.Paging.Frames.{blocked_at, blocked_after}
use Rattle.ak_model.specs.Paging.Inside.{processors}
use Rattle.ak_model.specs.Paging.Tracking.{cycles, cycles_after, over_after, tracked, incomplete}
use Rattle.ak_track.specs.Steps.{TrackStep, EntersBy, LeavesBy, Cycled, cycles_by, tracked_by, incomplete_by}
use Rattle.ak_relation.specs.State.TrackSteps.{steps_after, steps_of, stamp_of}
use Rattle.ak_model.proofs.Paging.DescendingCycles.{cycles-descend, AtMost, at_most_more, at_most_without, descend_most}
use Rattle.ak_model.proofs.Paging.Tests.{filter_none}
use Rattle.ak_model.proofs.Paging.BlockPlaces.{Bounded, block_bounded}
use Rattle.ak_relation.proofs.Tracking.TrackBounds.{stamp_bounded, AreBuilt, built_more, filter_same, nobody}
use Rattle.ak_relation.proofs.Tracking.TrackLines.{inside-steps, SameOrder, Lined, lined_without, lined_block, lined-over, lined-last}
use Rattle.ak_relation.proofs.Leaves.SomeLeaves.{stamp-blocked}

module _ (layout : Layout) where
  by_most : (steps : List TrackStep) → AtMost (length steps) (cycles_by layout.lps steps)
  by_most [] = tt
  by_most (Cycled ∷ steps) = (omega arith, at_most_more (length steps) (suc (length steps)) _ (omega arith) (by_most steps))
  by_most (LeavesBy q ∷ steps) = at_most_without q (suc (length steps)) _ (at_most_more (length steps) (suc (length steps)) _ (omega arith) (by_most steps))
  by_most (EntersBy q ∷ steps) = at_most_more (length steps) (suc (length steps)) _ (omega arith) (by_most steps)

  built_cycles : (n : ℕ) → AreBuilt n (cycles_by layout.lps (replicate n Cycled))
  built_cycles zero = tt
  built_cycles (suc n) =
      let size = length-replicate n Cycled in
      (omega arith, filter_none _ (processors layout) (λ lp. nobody n lp), built_more n (suc n) _ (omega arith) (built_cycles n))

  module _ (built : ℕ) where
    abbrev all_of : History → List TrackStep
    all_of past = steps_of past ++ replicate built Cycled

    length-all_of : (past : History) → length (all_of past) ≡ built + length (steps_of past)
    length-all_of past =
        let a = length-append (steps_of past) (replicate built Cycled) in let b = length-replicate built Cycled in omega arith

    new_order : (past : History) (o s : Option ℕ) (waiting others : List ℕ) → Bounded (length past) o → Bounded (length (steps_of past)) s → is_some s ≡ is_some o →
        SameOrder built o s (record { at = length past + 1; waiting = waiting }) (record { at = length (all_of past) + 1; waiting = others })
    new_order past None None waiting others low high both = tt
    new_order past (Some place) (Some stamp) waiting others low high both =
        let size = length-all_of past in
        lt-ltb place (length past + 1) (omega arith) ∙ sym (lt-ltb (built + stamp) (length (all_of past) + 1) (omega arith))
    new_order past None (Some stamp) waiting others low high both = absurd (cc)
    new_order past (Some place) None waiting others low high both = absurd (cc)

    one_more : (past : History) (c : Change) (f : ℕ) (o s : Option ℕ) → Bounded (length past) o → Bounded (length (steps_of past)) s → is_some s ≡ is_some o →
        AtMost (length past) (cycles layout past) → AtMost (built + length (steps_of past)) (cycles_by layout.lps (all_of past)) →
        Lined built o s (cycles layout past) (cycles_by layout.lps (all_of past)) →
        Lined built (blocked_after c f (length past + 1) o) (blocked_after c f (length (steps_of past)) s)
        (cycles_after layout past c (cycles layout past)) (cycles_by layout.lps (steps_after c (steps_of past) ++ replicate built Cycled))
    one_more past Cycles f o s low high both few most h =
        (filter_same _ _ (processors layout) (λ lp. inside-steps built past lp), new_order past o s _ _ low high both, h)
    one_more past (Exits lp exit) f o s low high both few most h = lined_without built lp o s (cycles layout past) (cycles_by layout.lps (all_of past)) h
    one_more past (Interrupts lp) f o s low high both few most h = lined_without built lp o s (cycles layout past) (cycles_by layout.lps (all_of past)) h
    one_more past c f o s low high both few most h =
        lined_block built c f (length past + 1) (length (steps_of past)) o s (cycles layout past) (cycles_by layout.lps (all_of past)) both
        (at_most_more (length past) (length past + 1) _ (omega arith) few) most h

    lined : (past : History) (f : ℕ) → Lined built (blocked_at past f) (stamp_of past f) (cycles layout past) (cycles_by layout.lps (all_of past))
    lined [] f = built_cycles built
    lined (pair ∷ past) f =
        one_more past (change_of pair) f (blocked_at past f) (stamp_of past f) (block_bounded past f) (stamp_bounded past f) (stamp-blocked past f)
        (descend_most (length past) (cycles layout past) (cycles-descend layout past))
        (at_most_more (length (all_of past)) (built + length (steps_of past)) _ (let size = length-all_of past in omega arith) (by_most (all_of past)))
        (lined past f)

    both_some : (past : History) (f stamp : ℕ) (o s : Option ℕ) → is_some s ≡ is_some o → s ≡ Some stamp →
        Lined built o s (cycles layout past) (cycles_by layout.lps (all_of past)) →
        over_after o (cycles layout past) ≡ tracked_by layout.lps (all_of past) (Some (built + stamp))
    both_some past f stamp (Some place) s both is h =
        lined-over built place stamp (cycles layout past) (cycles_by layout.lps (all_of past))
        (subst (λ x. Lined built (Some place) x (cycles layout past) (cycles_by layout.lps (all_of past))) is h)
    both_some past f stamp None None both is h = absurd (cc)
    both_some past f stamp None (Some x) both is h = absurd (cc)

    -- a blocked frame is tracked by its stamp
    pub tracked-steps : (past : History) (f stamp : ℕ) → stamp_of past f ≡ Some stamp →
        tracked layout past f ≡ tracked_by layout.lps (all_of past) (Some (built + stamp))
    tracked-steps past f stamp is = both_some past f stamp (blocked_at past f) (stamp_of past f) (stamp-blocked past f) is (lined past f)

    -- the last cycle is over
    pub incomplete-steps : (past : History) → incomplete layout past ≡ incomplete_by layout.lps (all_of past)
    incomplete-steps past = ap not (lined-last built (blocked_at past 0) (stamp_of past 0) (cycles layout past) (cycles_by layout.lps (all_of past)) (lined past 0))
