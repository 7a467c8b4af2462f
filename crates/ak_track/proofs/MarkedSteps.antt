-- What marks stand for, step by step.
use Rattle.std.proofs.Common.{◌≡◌, ℕ, zero, suc, ◌+◌, ◌-◌, ◌<◌, ◌≤◌, Bool, true, false, ◌==◌, if◌then◌else◌, List, [], ◌∷◌, length, map, refl, ap, sym, ◌∙◌, arith}
use Rattle.std.specs.Prelude.{not, ◌&&◌, ◌||◌, filter, nat_lt, Some}
use Rattle.std.specs.List.{range_with_len, list_any, list_all}
use Rattle.std.proofs.lemmas.Bool.{both_ways, and_from, and_parts, not-false, lt-ltb, le-ltb}
use Rattle.std.proofs.lemmas.List.{length-map}
use Rattle.std.proofs.Math.Bool.{not-not}
use Rattle.std.proofs.Math.Dec.{eqb-suc-zero}
use Rattle.ak_model.specs.Paging.Tracking.{Cycle, without, is_over, last_is_over}
use Rattle.ak_track.specs.Steps.{TrackStep, LeavesBy, Cycled, inside_by, cycles_by, tracked_by, incomplete_by}
use Rattle.ak_track.specs.Tracking.{Marks, is_marked, WaitsForMarked, HoldsSteps, StampOf}
use Rattle.ak_track.specs.declared.track.Stamp.{Stamp}
use Rattle.ak_track.proofs.Marked.{filter_same, filter_both, none_passes, any_mark, no_mark, any_marked}
use Rattle.ak_track.proofs.Places.{Below, below_by, count_up_to, is_later, counted_all, later_over, later_waiting}

-- nobody is marked beyond the processors that there are
abbrev NoneBeyond : ℕ → List Bool → Type 0
NoneBeyond lps marks = (lp : ℕ) → lps ≤ lp → is_marked marks lp ≡ false

-- ---- The newest cycle

-- there is a mark just where the newest cycle waits
any_mark_waits : (lps : ℕ) (marks : List Bool) (all : List Cycle) → WaitsForMarked lps marks all → NoneBeyond lps marks
    → any_mark marks ≡ not (last_is_over all)
any_mark_waits lps marks [] h beyond = no_mark marks h
any_mark_waits lps marks (cycle ∷ older) h beyond =
    sym (ap (λ xs. not (length xs == 0)) h.0 ∙ ap not (none_passes (is_marked marks) (range_with_len 0 lps))
    ∙ not-not _ ∙ any_marked marks lps beyond)

-- so the last cycle is incomplete
pub waits-incomplete : (track : Marks) (lps : ℕ) (steps : List TrackStep) → HoldsSteps track lps steps
    → any_mark track.waiting ≡ incomplete_by lps steps
waits-incomplete track lps steps h = any_mark_waits lps track.waiting (cycles_by lps steps) h.waiting h.none_beyond

-- where the newest cycle is over, each is
all_over : (lps : ℕ) (marks : List Bool) (all : List Cycle) → WaitsForMarked lps marks all → last_is_over all ≡ true → list_all is_over all ≡ true
all_over lps marks [] h over = refl
all_over lps marks (cycle ∷ older) h over = and_from (is_over cycle) (list_all is_over older) over h.1

last_over : (lps : ℕ) (marks : List Bool) (all : List Cycle) → WaitsForMarked lps marks all → NoneBeyond lps marks → any_mark marks ≡ false
    → last_is_over all ≡ true
last_over lps marks all h beyond none = not-false _ (sym (any_mark_waits lps marks all h beyond) ∙ none)

-- ---- A cycle begins

pub begun : (track : Marks) (lps : ℕ) (steps : List TrackStep) (count : ℕ) → HoldsSteps track lps steps → any_mark track.waiting ≡ false
    → count ≡ length (cycles_by lps steps) + 1
    → HoldsSteps (record { lps = track.lps; inside = track.inside; waiting = track.inside; cycles = count }) lps (Cycled ∷ steps)
begun track lps steps count h none grown = record {
  lps_are = h.lps_are;
  inside = h.inside;
  waiting = (
    filter_same (inside_by steps) (is_marked track.inside) 0 lps
        (λ x low high. sym (h.inside x ∙ ap (λ b. b && inside_by steps x) (lt-ltb x lps (omega arith)))),
    all_over lps track.waiting (cycles_by lps steps) h.waiting (last_over lps track.waiting (cycles_by lps steps) h.waiting h.none_beyond none),
  );
  none_beyond = λ lp beyond. h.inside lp ∙ ap (λ b. b && inside_by steps lp) (le-ltb lp lps beyond);
  count = omega (arith, grown);
}

-- ---- A processor leaves

-- the marks but for one processor
abbrev pub IsWithout : ℕ → List Bool → List Bool → Type 0
IsWithout q marks others = (r : ℕ) → is_marked others r ≡ (is_marked marks r && not (r == q))

over_filter : (q : ℕ) (lps : List ℕ) → (length lps == 0) ≡ true → (length (filter (λ r. not (r == q)) lps) == 0) ≡ true
over_filter q [] h = refl
over_filter q (lp ∷ lps) h = absurd (both_ways _ (eqb-suc-zero (length lps)) h)

over_without : (q : ℕ) (all : List Cycle) → list_all is_over all ≡ true → list_all is_over (map (without q) all) ≡ true
over_without q [] h = refl
over_without q (cycle ∷ older) h =
    let both = and_parts (is_over cycle) (list_all is_over older) h in
    and_from (is_over (without q cycle)) (list_all is_over (map (without q) older)) (over_filter q cycle.waiting both.0) (over_without q older both.1)

waiting_without : (lps q : ℕ) (marks others : List Bool) (all : List Cycle) → IsWithout q marks others → WaitsForMarked lps marks all
    → WaitsForMarked lps others (map (without q) all)
waiting_without lps q marks others [] left h = λ lp. left lp ∙ ap (λ b. b && not (lp == q)) (h lp)
waiting_without lps q marks others (cycle ∷ older) left h = (
  ap (filter (λ r. not (r == q))) h.0 ∙ filter_both (λ r. not (r == q)) (is_marked marks) (range_with_len 0 lps)
      ∙ filter_same (λ r. is_marked marks r && not (r == q)) (is_marked others) 0 lps (λ r low high. sym (left r)),
  over_without q older h.1,
)

left_inside : (there inside same : Bool) → ((there && inside) && not same) ≡ (there && (if same then false else inside))
left_inside true true true = refl
left_inside true true false = refl
left_inside true false true = refl
left_inside true false false = refl
left_inside false inside same = refl

pub left : (track after : Marks) (lps q : ℕ) (steps : List TrackStep) → HoldsSteps track lps steps → after.lps ≡ track.lps → after.cycles ≡ track.cycles
    → IsWithout q track.inside after.inside → IsWithout q track.waiting after.waiting → HoldsSteps after lps (LeavesBy q ∷ steps)
left track after lps q steps h lps_stay count_stays inside waiting = record {
  lps_are = lps_stay ∙ h.lps_are;
  inside = λ r. inside r ∙ ap (λ b. b && not (r == q)) (h.inside r) ∙ left_inside (nat_lt r lps) (inside_by steps r) (r == q);
  waiting = waiting_without lps q track.waiting after.waiting (cycles_by lps steps) waiting h.waiting;
  none_beyond = λ lp beyond. waiting lp ∙ ap (λ b. b && not (lp == q)) (h.none_beyond lp beyond);
  count = length-map (cycles_by lps steps) (without q) ∙ h.count ∙ sym count_stays;
}

-- ---- Stamps

pub stamped : (track : Marks) (stamp : Stamp) (lps : ℕ) (steps : List TrackStep) → HoldsSteps track lps steps → stamp.cycles ≡ track.cycles
    → StampOf stamp lps steps (length steps)
stamped track stamp lps steps h same = record {
  within = omega arith;
  count = counted_all (length steps) (length steps + 1) (cycles_by lps steps) (below_by lps steps) (omega arith) ∙ h.count ∙ sym same;
}

tracked_cycles : (lps place n : ℕ) (marks : List Bool) (all : List Cycle) (waits : Bool) → any_mark marks ≡ waits → WaitsForMarked lps marks all
    → NoneBeyond lps marks → Below n all
    → list_any (is_later place) all ≡ nat_lt (count_up_to place all) (if waits then length all - 1 else length all)
tracked_cycles lps place n marks all false none h beyond below =
    later_over place n all below (all_over lps marks all h (last_over lps marks all h beyond none))
tracked_cycles lps place n marks [] true some h beyond below = absurd (both_ways _ (no_mark marks h) some)
tracked_cycles lps place n marks (cycle ∷ older) true some h beyond below =
    let waits : is_over cycle ≡ false = sym (not-not _) ∙ ap not (sym (any_mark_waits lps marks (cycle ∷ older) h beyond) ∙ some) in
    later_waiting place n cycle older below waits h.1 ∙ ap (nat_lt (count_up_to place (cycle ∷ older))) (omega arith)

-- the answer of tracking
pub tracked-steps : (track : Marks) (stamp : Stamp) (lps place over : ℕ) (steps : List TrackStep) → HoldsSteps track lps steps → StampOf stamp lps steps place
    → over ≡ (if any_mark track.waiting then track.cycles - 1 else track.cycles)
    → nat_lt stamp.cycles over ≡ tracked_by lps steps (Some place)
tracked-steps track stamp lps place over steps h at is =
    ap (nat_lt stamp.cycles) (is ∙ ap (λ n. if any_mark track.waiting then n - 1 else n) (sym h.count))
    ∙ ap (λ n. nat_lt n (if any_mark track.waiting then length (cycles_by lps steps) - 1 else length (cycles_by lps steps))) (sym at.count)
    ∙ sym (tracked_cycles lps place (length steps + 1) track.waiting (cycles_by lps steps) (any_mark track.waiting) refl h.waiting h.none_beyond (below_by lps steps))

-- ---- Who is inside

any_same : (p q : ℕ → Bool) (a n : ℕ) → ((x : ℕ) → a ≤ x → x < a + n → p x ≡ q x) → list_any p (range_with_len a n) ≡ list_any q (range_with_len a n)
any_same p q a zero h = refl
any_same p q a (suc n) h =
    ap (λ b. b || list_any p (range_with_len (a + 1) n)) (h a (omega arith) (omega arith))
    ∙ ap (λ b. q a || b) (any_same p q (a + 1) n (λ x low high. h x (omega arith) (omega arith)))

-- some processor is marked as inside just where the steps have one of these inside
pub marked_inside : (track : Marks) (lps : ℕ) (steps : List TrackStep) → HoldsSteps track lps steps →
    any_mark track.inside ≡ list_any (inside_by steps) (range_with_len 0 lps)
marked_inside track lps steps holds =
    sym (any_marked track.inside lps (λ lp far. holds.inside lp ∙ ap (λ b. b && inside_by steps lp) (le-ltb lp lps far)))
    ∙ any_same (is_marked track.inside) (inside_by steps) 0 lps (λ lp low high. let lt : lp < lps = omega arith in holds.inside lp ∙ ap (λ b. b && inside_by steps lp) (lt-ltb lp lps lt))
