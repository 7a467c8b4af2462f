-- The moves that the code gives by what it keeps are those of the honest kernel.
use Rattle.std.proofs.Common.{◌≡◌, ℕ, zero, suc, ◌+◌, ◌-◌, ◌<◌, ◌≤◌, Bool, true, false, if◌then◌else◌, List, [], ◌∷◌, length, refl, ap, sym, ◌∙◌, arith}
use Rattle.std.specs.Prelude.{Option, Some, None, is_some, is_none, not, ◌&&◌, cond, find, flat_map, nat_lt, slice_get, slice_index}
use Rattle.std.specs.List.{range_with_len}
use Rattle.std.proofs.lemmas.Bool.{lt-ltb}
use Rattle.ak_core.specs.Layout.{Layout}
use Rattle.ak_core.specs.declared.moves.Move.{Move}
use Rattle.ak_core.specs.declared.page.Perm.{Perm}
use Rattle.ak_core.specs.declared.page.Perm.TheVariants.{R, Rw, Rx}
use Rattle.ak_model.specs.Paging.Pages.{pages, pages_of, perm_of, strong, strong_by, permits_by, allows}
use Rattle.ak_model.specs.Paging.Histories.{History}
use Rattle.ak_model.specs.Paging.Holdings.{Held, Mapping, is_free, is_page_in}
use Rattle.ak_model.specs.Paging.Frames.{held, blocked_at}
use Rattle.ak_model.specs.Paging.Inside.{inside, processors}
use Rattle.ak_model.specs.Paging.PageTable.{pte}
use Rattle.ak_model.specs.Paging.Tracking.{cycles, over_after, tracked}
use Rattle.ak_model.specs.Paging.Walk.{flags_allow, is_in_frame}
use Rattle.ak_model.specs.Kernels.Counted.{is_pending, saved_count, service}
use Rattle.ak_model.specs.Kernels.KernelRules.{is_mapped}
use Rattle.ak_model.specs.Kernels.Repeats.{unless_refused}
use Rattle.ak_model.specs.Kernels.HonestKernel.{Rule, or_else, rule_on, for_first, on_frame, move_on, load_into, enter_with, frame_of, newest_copy, lowest_free, load_rule, map_rule, serve, next_value, rules, given_by, drive, is_ended, last_exit_is_input}
use Rattle.ak_driver.specs.Duties.{facts_by, frame_by, tracked_by, is_in_frame_by, is_mapped_by, wants, dropped_by, loaded_by, fetched_by, served_by, asked_rule, inside_by, ruled_by, rules_by}
use Rattle.ak_driver.specs.NotedCounts.{value_by}
use Rattle.ak_driver.specs.NotedCycles.{newest_over, is_over_since}
use Rattle.ak_driver.specs.NotedRequests.{open_request}
use Rattle.ak_driver.specs.NotedTables.{PageFacts, facts, holding, is_free_note}
use Rattle.ak_driver.specs.Notes.{Notes, refuses}
use Rattle.ak_driver.specs.declared.driver.Driver.{Driver}
use Rattle.ak_driver.specs.declared.duties.Duty.TheVariants.{Unmap, Block, Track}
use Rattle.ak_driver.proofs.Serving.Finding.{Each, each_more, IsOf, IsAmong, each_of, each_among}
use Rattle.ak_driver.proofs.Noting.CycleSteps.{tracked-noted}

-- ---- Equal rules

both_rules : (a b c d : Rule) → a ≡ b → c ≡ d → or_else a c ≡ or_else b d
both_rules a b c d e f = ap (λ r. or_else r c) e ∙ ap (or_else b) f

-- rules on pages, by tests that agree on them
first_rules : (P : ℕ → Type 0) (test other : ℕ → Bool) (rule_of other_of : ℕ → Rule) (all : List ℕ) → Each P all
    → ((p : ℕ) → P p → test p ≡ other p) → ((p : ℕ) → P p → rule_of p ≡ other_of p) → for_first all test rule_of ≡ for_first all other other_of
first_rules P test other rule_of other_of [] each tests same = refl
first_rules P test other rule_of other_of (p ∷ all) each tests same =
    ap (λ b. rule_on (cond b (Some p) (find test all)) rule_of) (tests p each.0)
    ∙ by (first_rules P test other rule_of other_of all each.1 tests same) (other p)
  where
    by : for_first all test rule_of ≡ for_first all other other_of → (b : Bool)
        → rule_on (cond b (Some p) (find test all)) rule_of ≡ rule_on (cond b (Some p) (find other all)) other_of
    by rest true = same p each.0
    by rest false = rest

frames_agree : (test other : ℕ → Bool) (o : Option ℕ) → ((f : ℕ) → test f ≡ other f) → on_frame o test ≡ on_frame o other
frames_agree test other None h = refl
frames_agree test other (Some f) h = h f

find_same : (test other : ℕ → Bool) (all : List ℕ) → ((x : ℕ) → test x ≡ other x) → find test all ≡ find other all
find_same test other [] h = refl
find_same test other (x ∷ all) h =
    ap (λ b. cond b (Some x) (find test all)) (h x) ∙ ap (λ o. cond (other x) (Some x) o) (find_same test other all h)

-- the first of a range, where none beyond a part of it passes
find_within : (test other : ℕ → Bool) (n k a : ℕ) → ((x : ℕ) → a ≤ x → x < a + n → test x ≡ other x) → ((x : ℕ) → a + n ≤ x → test x ≡ false)
    → find test (range_with_len a (n + k)) ≡ find other (range_with_len a n)
find_within test other zero k a same none = let e : 0 + k ≡ k = omega arith in ap (λ (m : ℕ). find test (range_with_len a m)) e ∙ nobody k a (λ x le. none x (omega arith))
  where
    nobody : (k a : ℕ) → ((x : ℕ) → a ≤ x → test x ≡ false) → find test (range_with_len a k) ≡ None
    nobody zero a h = refl
    nobody (suc k) a h = ap (λ b. cond b (Some a) (find test (range_with_len (a + 1) k))) (h a (omega arith)) ∙ nobody k (a + 1) (λ x le. h x (omega arith))
find_within test other (suc n) k a same none =
    let e : suc n + k ≡ suc (n + k) = omega arith in
    ap (λ (m : ℕ). find test (range_with_len a m)) e
    ∙ ap (λ b. cond b (Some a) (find test (range_with_len (a + 1) (n + k)))) (same a (omega arith) (omega arith))
    ∙ ap (λ o. cond (other a) (Some a) o)
    (find_within test other n k (a + 1) (λ x low high. same x (omega arith) (omega arith)) (λ x high. none x (omega arith)))

-- ---- What the driver says, and the history

module _ (driver : Driver) (layout : Layout) (past : History) (h : Notes driver layout past) where
  -- a page of the program
  abbrev IsKnown : ℕ → Type 0
  IsKnown p = p < pages layout

  facts_same : (p : ℕ) → IsKnown p → facts_by driver p ≡ facts layout past p
  facts_same p low = h.tables_are.facts_are p low

  blocked_same : (f : ℕ) → (frame_by driver f).blocked ≡ blocked_at past f
  blocked_same f = h.tables_are.blocked_is f

  held_same : (f : ℕ) → holding (frame_by driver f).held ≡ held layout past f
  held_same f = h.tables_are.held_is f

  tracked_same : (f : ℕ) → tracked_by driver f ≡ tracked layout past f
  tracked_same f = ap (λ o. is_over_since o (newest_over driver.tracking.entered driver.tracking.newest)) (blocked_same f) ∙ by (blocked_at past f)
    where
      by : (o : Option ℕ) → is_over_since o (newest_over driver.tracking.entered driver.tracking.newest) ≡ over_after o (cycles layout past)
      by None = refl
      by (Some b) = sym (tracked-noted driver.tracking.newest driver.tracking.entered layout.lps (length past) (inside past) (cycles layout past) h.cycles_are b)

  in_frame_same : (p f : ℕ) → is_in_frame_by driver p f ≡ is_in_frame layout past p f
  in_frame_same p f =
      ap (λ (x : Held). is_page_in x p && is_none (frame_by driver f).blocked) (held_same f)
      ∙ ap (λ o. is_page_in (held layout past f) p && is_none o) (blocked_same f)

  -- mapped for all that a permission allows
  abbrev maps : ℕ → Option Perm → Mapping → Bool
  maps p perm entry = permits_by perm (strong_by perm) && (flags_allow entry.flags (strong_by perm) && is_in_frame layout past p entry.frame)

  mapped_same : (p : ℕ) → IsKnown p → is_mapped_by driver p (slice_get layout.perms p) ≡ is_mapped layout past p
  mapped_same p low =
      let t : nat_lt p (pages layout) ≡ true = lt-ltb p (pages layout) low in
      let perm : perm_of layout p ≡ slice_get layout.perms p = rw t refl in
      by (slice_get layout.perms p) ∙ ap (λ o. maps p o (pte layout past p)) (sym perm)
    where
      strongest : (perm : Perm) → allows perm (strong perm) ≡ true
      strongest R = refl
      strongest Rw = refl
      strongest Rx = refl

      by : (o : Option Perm) → is_mapped_by driver p o ≡ maps p o (pte layout past p)
      by None = refl
      by (Some perm) =
          ap (λ (x : PageFacts). flags_allow x.entry.flags (strong perm) && is_in_frame_by driver p x.entry.frame) (facts_same p low)
          ∙ ap (λ b. flags_allow (pte layout past p).flags (strong perm) && b) (in_frame_same p (pte layout past p).frame)
          ∙ ap (λ b. b && (flags_allow (pte layout past p).flags (strong perm) && is_in_frame layout past p (pte layout past p).frame)) (sym (strongest perm))

  -- ---- What a page wants

  unmap_same : (p : ℕ) → IsKnown p → wants driver layout Unmap p ≡ (pte layout past p).flags.p
  unmap_same p low = ap (λ (x : PageFacts). x.entry.flags.p) (facts_same p low)

  block_same : (p : ℕ) → IsKnown p → wants driver layout Block p ≡ on_frame (frame_of layout past p) (λ f. is_none (blocked_at past f))
  block_same p low =
      ap (λ (x : PageFacts). on_frame x.frame (λ f. is_none (frame_by driver f).blocked)) (facts_same p low)
      ∙ frames_agree _ _ (frame_of layout past p) (λ f. ap is_none (blocked_same f))

  track_same : (p : ℕ) → IsKnown p → wants driver layout Track p ≡ on_frame (frame_of layout past p) (λ f. not (tracked layout past f))
  track_same p low =
      ap (λ (x : PageFacts). on_frame x.frame (λ f. not (tracked_by driver f))) (facts_same p low)
      ∙ frames_agree _ _ (frame_of layout past p) (λ f. ap not (tracked_same f))

  -- the same move on the frame of a page
  frame_move : (move : ℕ → Move) (p : ℕ) → IsKnown p → move_on (facts_by driver p).frame move ≡ move_on (frame_of layout past p) move
  frame_move move p low = ap (λ (x : PageFacts). move_on x.frame move) (facts_same p low)

  free_same : find (is_free_note driver.tables.frames.items) (range_with_len 0 layout.frames) ≡ lowest_free layout past
  free_same = find_same _ _ (range_with_len 0 layout.frames) (λ f. ap is_free (held_same f))

  load_same : (p : ℕ) → IsKnown p → loaded_by driver layout p ≡ load_into p (newest_copy layout past p) (lowest_free layout past)
  load_same p low =
      ap (λ (x : PageFacts). load_into p x.copy (find (is_free_note driver.tables.frames.items) (range_with_len 0 layout.frames))) (facts_same p low)
      ∙ ap (load_into p (newest_copy layout past p)) free_same

  -- ---- The request

  fetched_same : (c : ℕ) → fetched_by driver layout c
      ≡ or_else (load_rule layout past (pages_of layout c)) (or_else (map_rule layout past (pages_of layout c)) (enter_with 0))
  fetched_same c =
      let each : Each IsKnown (pages_of layout c) = each_more (IsOf layout c) IsKnown (pages_of layout c) (λ p of. of.0) (each_of layout c) in
      both_rules _ _ _ _
      (first_rules IsKnown _ _ _ _ (pages_of layout c) each (λ p low. ap (λ (x : PageFacts). is_none x.frame) (facts_same p low)) load_same)
      (both_rules _ _ _ _
      (first_rules IsKnown _ _ _ _ (pages_of layout c) each (λ p low. ap not (mapped_same p low)) (λ p low. frame_move _ p low)) refl)

  served_same : (c : ℕ) → served_by driver layout c ≡ serve layout past (Some (record { dropped = dropped_by driver; cluster = c }))
  served_same c =
      let evicted = flat_map (pages_of layout) (dropped_by driver) in
      let each : Each IsKnown evicted = each_more (IsAmong layout (dropped_by driver)) IsKnown evicted (λ p of. of.0) (each_among layout (dropped_by driver)) in
      both_rules _ _ _ _ (first_rules IsKnown _ _ _ _ evicted each unmap_same (λ p low. refl))
      (both_rules _ _ _ _ (first_rules IsKnown _ _ _ _ evicted each block_same (λ p low. frame_move _ p low))
      (both_rules _ _ _ _ (first_rules IsKnown _ _ _ _ evicted each track_same (λ p low. refl))
      (both_rules _ _ _ _
      (first_rules IsKnown _ _ _ _ evicted each (λ p low. ap (λ (x : PageFacts). is_some x.frame) (facts_same p low)) (λ p low. frame_move _ p low))
      (fetched_same c))))

  asked_same : (o : Option ℕ) → asked_rule driver layout o ≡ serve layout past (open_request o (dropped_by driver))
  asked_same None = refl
  asked_same (Some c) = served_same c

  request_same : asked_rule driver layout driver.requests.asked ≡ serve layout past (service past).request
  request_same = asked_same driver.requests.asked ∙ ap (serve layout past) h.requests_are.request_is

  -- ---- All rules

  inside_same : layout.lps ≤ 4 → find (inside_by driver) (range_with_len 0 4) ≡ find (inside past) (processors layout)
  inside_same few =
      let e : 4 ≡ layout.lps + (4 - layout.lps) = omega arith in
      ap (λ (n : ℕ). find (inside_by driver) (range_with_len 0 n)) e
      ∙ find_within (inside_by driver) (inside past) layout.lps (4 - layout.lps) 0
      (λ x low high. h.cycles_are.inside_is x (omega arith)) (λ x high. ap is_some (h.cycles_are.none_beyond x (omega arith)))

  value_same : (inputs : List ℕ) → value_by driver.counts inputs ≡ next_value past inputs
  value_same inputs =
      ap (λ b. if b then slice_index inputs (driver.counts.inputs_asked - 1) else 0) h.counts_are.input_is
      ∙ ap (λ (n : ℕ). if last_exit_is_input past then slice_index inputs (n - 1) else 0) h.counts_are.asked_is

  -- the rules by what the driver keeps are those of the history
  pub rules_same : (inputs : List ℕ) → rules_by driver layout inputs ≡ rules layout past inputs
  rules_same inputs =
      let counts = driver.counts in
      let first = find (inside_by driver) (range_with_len 0 4) in
      let value = value_by counts inputs in
      let serving = asked_rule driver layout driver.requests.asked in
      let ended = is_ended past in
      let who = find (inside past) (processors layout) in
      let pending = is_pending past in
      let saved = saved_count past in
      ap (λ b. ruled_by b first counts.is_pending counts.saved value serving) h.counts_are.ended_is
      ∙ ap (λ o. ruled_by ended o counts.is_pending counts.saved value serving) (inside_same h.valid.few_lps)
      ∙ ap (λ b. ruled_by ended who b counts.saved value serving) h.counts_are.pending_is
      ∙ ap (λ (n : ℕ). ruled_by ended who pending n value serving) h.counts_are.saved_is
      ∙ ap (λ (n : ℕ). ruled_by ended who pending saved n serving) (value_same inputs)
      ∙ ap (ruled_by ended who pending saved (next_value past inputs)) request_same

  -- the next move is the one that the rules give, unless it was refused just now
  driven : (inputs : List ℕ) (move : Option Move) → move ≡ given_by (rules_by driver layout inputs) → unless_refused past move ≡ drive layout past inputs
  driven inputs move e = ap (unless_refused past) (e ∙ ap given_by (rules_same inputs))

  pub no_move : (inputs : List ℕ) → None ≡ given_by (rules_by driver layout inputs) → None ≡ drive layout past inputs
  no_move inputs e = driven inputs None e

  pub kept_move : (inputs : List ℕ) (m : Move) → Some m ≡ given_by (rules_by driver layout inputs) → refuses driver.refused m ≡ false → Some m ≡ drive layout past inputs
  kept_move inputs m e fresh =
      sym (ap (λ b. if b then None else Some m) (sym (h.refused_is m) ∙ fresh)) ∙ driven inputs (Some m) e

  pub refused_move : (inputs : List ℕ) (m : Move) → Some m ≡ given_by (rules_by driver layout inputs) → refuses driver.refused m ≡ true → None ≡ drive layout past inputs
  refused_move inputs m e again =
      sym (ap (λ b. if b then None else Some m) (sym (h.refused_is m) ∙ again)) ∙ driven inputs (Some m) e
