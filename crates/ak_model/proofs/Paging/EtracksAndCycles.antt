-- Each ETRACK that was answered Ok has its cycle, so a frame is tracked exactly where such an ETRACK after its block waits for
-- nobody.
use Rattle.std.proofs.Common.{◌≡◌, inl, inr, ℕ, suc, ◌+◌, ◌-◌, ◌<◌, ◌≤◌, List, [], ◌∷◌, length, drop, map, arith, refl, ap, sym, ◌∙◌, subst, length-drop}
use Rattle.std.specs.Prelude.{Bool, true, false, not, ◌&&◌, ◌||◌, Option, Some, None, nat_lt, ◌==◌, ◌↔◌}
use Rattle.std.specs.List.{list_any}
use Rattle.std.proofs.lemmas.Bool.{cases_lt, eqb-true, eq-eqb, ne_eqb, lt-ltb, ltb-true, and_parts, and_from, or_left, or_right, or_cases}
use Rattle.ak_core.specs.Layout.{Layout}
use Rattle.ak_core.specs.declared.moves.Move.{Move}
use Rattle.ak_core.specs.declared.moves.Move.TheVariants.{SetPte, ReadPte, Eblock, Etrack, Ewb, Eldu, Eldb, Eremove, Epa, Discard, Eenter, Eresume, Run, Interrupt}
use Rattle.ak_core.specs.declared.moves.Answer.{Answer}
use Rattle.ak_core.specs.declared.moves.Answer.TheVariants.{Ok, OkHandle, Exit as ExitBy}
use Rattle.ak_core.specs.declared.moves.Exit.{Exit}
use Rattle.ak_core.specs.declared.moves.Exit.TheVariants.{Still}
use Rattle.ak_model.specs.Paging.Histories.{History, Pair, first, Change, Maps, Blocks, Cycles, WritesOut, Loads, Removes, MakesVa, Discards, Enters, Resumes, Exits, Interrupts, change, change_of, if_ok, if_handle, if_exit, if_left}
use Rattle.ak_model.specs.Paging.Frames.{blocked_at}
use Rattle.ak_model.specs.Paging.Tracking.{Cycle, without, cycles, cycles_after, is_over, over_after, tracked, last_is_over, incomplete}
use Rattle.ak_model.specs.Laws.Waiting.{still_inside, AllWait, IsEtrackAt, IsTracked, IsIncomplete}
use Rattle.ak_model.proofs.Paging.WaitingCycles.{cycles-wait}

-- ---- Only an ETRACK that was answered Ok begins a cycle

not_ok : (a : Answer) (c : Change) → (c ≡ Cycles → ⊥) → if_ok a c ≡ Cycles → ⊥
not_ok Ok c other h = other h
not_ok _ c other h = cc

not_handle : (a : Answer) (c : ℕ → Change) → ((k : ℕ) → c k ≡ Cycles → ⊥) → if_handle a c ≡ Cycles → ⊥
not_handle (OkHandle k) c other h = other k.0 h
not_handle _ c other h = cc

not_left : (exit : Exit) (lp : ℕ) → if_left exit (Exits lp exit) ≡ Cycles → ⊥
not_left Still lp h = cc
not_left _ lp h = cc

not_exit : (a : Answer) (lp : ℕ) → if_exit a (λ exit. Exits lp exit) ≡ Cycles → ⊥
not_exit (ExitBy exit) lp h = not_left exit lp h
not_exit _ lp h = cc

is_ok : (a : Answer) → if_ok a Cycles ≡ Cycles → a ≡ Ok
is_ok Ok h = refl
is_ok _ h = absurd (cc)

etrack_by : (m : Move) (a : Answer) → change m a ≡ Cycles → (m ≡ Etrack) × (a ≡ Ok)
etrack_by Etrack a h = (refl, is_ok a h)
etrack_by (SetPte p f flags) a h = absurd (not_ok a (Maps p.0 f.0 flags) (λ e. cc) h)
etrack_by (ReadPte p) a h = absurd (cc)
etrack_by (Eblock f) a h = absurd (not_ok a (Blocks f.0) (λ e. cc) h)
etrack_by (Ewb f va i) a h = absurd (not_handle a (λ k. WritesOut f.0 va.0 i k) (λ k e. cc) h)
etrack_by (Eldu f k p va i) a h = absurd (not_ok a (Loads f.0 k.0 p.0 va.0 i false) (λ e. cc) h)
etrack_by (Eldb f k p va i) a h = absurd (not_ok a (Loads f.0 k.0 p.0 va.0 i true) (λ e. cc) h)
etrack_by (Eremove f) a h = absurd (not_ok a (Removes f.0) (λ e. cc) h)
etrack_by (Epa f) a h = absurd (not_ok a (MakesVa f.0) (λ e. cc) h)
etrack_by (Discard k) a h = absurd (not_ok a (Discards k.0) (λ e. cc) h)
etrack_by (Eenter lp v) a h = absurd (not_ok a (Enters lp.0 v) (λ e. cc) h)
etrack_by (Eresume lp) a h = absurd (not_ok a (Resumes lp.0) (λ e. cc) h)
etrack_by (Run lp n) a h = absurd (not_exit a lp.0 h)
etrack_by (Interrupt lp) a h = absurd (not_ok a (Interrupts lp.0) (λ e. cc) h)

etrack_of : (pair : Pair) → change_of pair ≡ Cycles → pair ≡ (Etrack, Ok)
etrack_of (m, a) h =
    let both = etrack_by m a h in
    let move : m ≡ Etrack = both.0 in
    let answer : a ≡ Ok = both.1 in
    cc

-- ---- Places

-- the place of an ETRACK is one of the history's
within : (past : History) (t : ℕ) → IsEtrackAt past t → (1 ≤ t) × (t ≤ length past)
within past t h =
    let sizes : length (first past t) ≡ suc (length (first past (t - 1))) = ap length h in
    let now = length-drop (length past - t) past in
    let before = length-drop (length past - (t - 1)) past in
    (omega arith, omega arith)

-- one more pair changes nothing before it
same_first : (pair : Pair) (past : History) (t : ℕ) → t ≤ length past → first (pair ∷ past) t ≡ first past t
same_first pair past t high =
    let e : suc (length past) - t ≡ suc (length past - t) = omega arith in
    ap (λ n. drop n (pair ∷ past)) e

later_at : (pair : Pair) (past : History) (t : ℕ) → IsEtrackAt past t → IsEtrackAt (pair ∷ past) t
later_at pair past t h =
    let place = within past t h in
    same_first pair past t place.1 ∙ h ∙ ap (λ l. (Etrack, Ok) ∷ l) (sym (same_first pair past (t - 1) (omega arith)))

older_at : (pair : Pair) (past : History) (t : ℕ) → t ≤ length past → IsEtrackAt (pair ∷ past) t → IsEtrackAt past t
older_at pair past t high h =
    sym (same_first pair past t high) ∙ h ∙ ap (λ l. (Etrack, Ok) ∷ l) (same_first pair past (t - 1) (omega arith))

-- the newest pair
newest : (pair : Pair) (past : History) → first (pair ∷ past) (length past + 1) ≡ pair ∷ past
newest pair past =
    let e : suc (length past) - (length past + 1) ≡ 0 = omega arith in
    ap (λ n. drop n (pair ∷ past)) e

before_newest : (pair : Pair) (past : History) → first (pair ∷ past) (length past + 1 - 1) ≡ past
before_newest pair past =
    let e : suc (length past) - (length past + 1 - 1) ≡ 1 = omega arith in
    ap (λ n. drop n (pair ∷ past)) e

newest_at : (pair : Pair) (past : History) → pair ≡ (Etrack, Ok) → IsEtrackAt (pair ∷ past) (length past + 1)
newest_at pair past h =
    newest pair past ∙ ap (λ x. x ∷ past) h ∙ ap (λ l. (Etrack, Ok) ∷ l) (sym (before_newest pair past))

newest_is : (pair : Pair) (past : History) (t : ℕ) → length past < t → IsEtrackAt (pair ∷ past) t → (pair ≡ (Etrack, Ok)) × (t ≡ length past + 1)
newest_is pair past t late h =
    let place = within (pair ∷ past) t h in
    let high : t ≤ suc (length past) = place.1 in
    let e : t ≡ length past + 1 = omega arith in
    let here : IsEtrackAt (pair ∷ past) (length past + 1) = subst (IsEtrackAt (pair ∷ past)) e h in
    let same : pair ∷ past ≡ (Etrack, Ok) ∷ first (pair ∷ past) (length past + 1 - 1) = sym (newest pair past) ∙ here in
    (cc, e)

-- ---- Each cycle begins with an ETRACK

abbrev AllBegin : History → List Cycle → Type 0
AllBegin past [] = Unit {0}
AllBegin past (cycle ∷ older) = IsEtrackAt past cycle.at × AllBegin past older

-- the newest place of a cycle
abbrev newest_place : List Cycle → ℕ
newest_place [] = 0
newest_place (cycle ∷ older) = cycle.at

-- a cycle has this place
abbrev has : ℕ → List Cycle → Bool
has place all = list_any (λ cycle. cycle.at == place) all

module _ (layout : Layout) where
  begin_later : (pair : Pair) (past : History) (all : List Cycle) → AllBegin past all → AllBegin (pair ∷ past) all
  begin_later pair past [] h = tt
  begin_later pair past (cycle ∷ older) h = (later_at pair past cycle.at h.0, begin_later pair past older h.1)

  begin_without : (pair : Pair) (past : History) (lp : ℕ) (all : List Cycle) → AllBegin past all → AllBegin (pair ∷ past) (map (without lp) all)
  begin_without pair past lp [] h = tt
  begin_without pair past lp (cycle ∷ older) h = (later_at pair past cycle.at h.0, begin_without pair past lp older h.1)

  begins_after : (pair : Pair) (past : History) (c : Change) → change_of pair ≡ c → AllBegin past (cycles layout past) → AllBegin (pair ∷ past) (cycles_after layout past c (cycles layout past))
  begins_after pair past Cycles e h = (newest_at pair past (etrack_of pair e), begin_later pair past (cycles layout past) h)
  begins_after pair past (Exits lp exit) e h = begin_without pair past lp (cycles layout past) h
  begins_after pair past (Interrupts lp) e h = begin_without pair past lp (cycles layout past) h
  begins_after pair past _ e h = begin_later pair past (cycles layout past) h

  all_begin : (past : History) → AllBegin past (cycles layout past)
  all_begin [] = tt
  all_begin (pair ∷ past) = begins_after pair past (change_of pair) refl (all_begin past)

  -- a place at which a cycle of these began
  begun : (past : History) (place : ℕ) (all : List Cycle) → AllBegin past all → has place all ≡ true → IsEtrackAt past place
  begun past place [] h some = absurd (cc)
  begun past place (cycle ∷ older) h some =
      elim (or_cases (cycle.at == place) (has place older) some) [
        | inl this ↦ subst (IsEtrackAt past) (eqb-true cycle.at place this) h.0
        | inr later ↦ begun past place older h.1 later
      ]

  -- ---- Each ETRACK has a cycle

  has_without : (place lp : ℕ) (all : List Cycle) → has place (map (without lp) all) ≡ has place all
  has_without place lp [] = refl
  has_without place lp (cycle ∷ older) = ap (λ b. (cycle.at == place) || b) (has_without place lp older)

  newest_without : (lp : ℕ) (all : List Cycle) → newest_place (map (without lp) all) ≡ newest_place all
  newest_without lp [] = refl
  newest_without lp (cycle ∷ older) = refl

  -- a cycle began there, and the newest one no earlier
  abbrev Has : ℕ → List Cycle → Type 0
  Has place all = (has place all ≡ true) × (place ≤ newest_place all)

  has_left : (place lp : ℕ) (all : List Cycle) → Has place all → Has place (map (without lp) all)
  has_left place lp all h = (has_without place lp all ∙ h.0, subst (λ n. place ≤ n) (sym (newest_without lp all)) h.1)

  has_after : (past : History) (place : ℕ) (c : Change) → place ≤ length past → Has place (cycles layout past) → Has place (cycles_after layout past c (cycles layout past))
  has_after past place Cycles high h = (or_right (length past + 1 == place) (has place (cycles layout past)) h.0, omega arith)
  has_after past place (Exits lp exit) high h = has_left place lp (cycles layout past) h
  has_after past place (Interrupts lp) high h = has_left place lp (cycles layout past) h
  has_after past place _ high h = h

  has_newest : (past : History) (place : ℕ) (c : Change) → place ≡ length past + 1 → c ≡ Cycles → Has place (cycles_after layout past c (cycles layout past))
  has_newest past place c e now =
      subst (λ x. Has place (cycles_after layout past x (cycles layout past))) (sym now)
      (or_left (length past + 1 == place) (has place (cycles layout past)) (eq-eqb (length past + 1) place (sym e)), omega arith)

  each_has : (past : History) (place : ℕ) → IsEtrackAt past place → Has place (cycles layout past)
  each_has [] place h = let no = within [] place h in absurd (omega arith)
  each_has (pair ∷ past) place h =
      elim (cases_lt (length past) place) [
        | inl late ↦
            let now = newest_is pair past place late h in
            has_newest past place (change_of pair) now.1 (ap change_of now.0)
        | inr early ↦ has_after past place (change_of pair) early (each_has past place (older_at pair past place early h))
      ]

  -- ---- A tracked frame

  nobody : (waiting : List ℕ) → (length waiting == 0) ≡ true → waiting ≡ []
  nobody [] h = refl
  nobody (q ∷ waiting) h = let e = eqb-true (length (q ∷ waiting)) 0 h in absurd (omega arith)

  -- a cycle after this place waits for nobody
  record Over (past : History) (block : ℕ) : Type 0 where
    place : ℕ
    after : block < place
    etrack : IsEtrackAt past place
    left : still_inside layout past place ≡ []

  over_some : (past : History) (block : ℕ) (all : List Cycle) → AllWait layout past all → AllBegin past all → over_after (Some block) all ≡ true → Over past block
  over_some past block [] w b h = absurd (cc)
  over_some past block (cycle ∷ older) w b h =
      elim (or_cases (nat_lt block cycle.at && is_over cycle) (over_after (Some block) older) h) [
        | inl this ↦
            let both = and_parts (nat_lt block cycle.at) (is_over cycle) this in
            record {
              place = cycle.at;
              after = ltb-true block cycle.at both.0;
              etrack = b.0;
              left = sym w.0.waiting ∙ nobody cycle.waiting both.1;
            }
        | inr later ↦ over_some past block older w.1 b.1 later
      ]

  over_at : (past : History) (block place : ℕ) (all : List Cycle) → AllWait layout past all → block < place → still_inside layout past place ≡ [] → has place all ≡ true → over_after (Some block) all ≡ true
  over_at past block place [] w after left h = absurd (cc)
  over_at past block place (cycle ∷ older) w after left h =
      elim (or_cases (cycle.at == place) (has place older) h) [
        | inl this ↦
            let same = eqb-true cycle.at place this in
            let none : cycle.waiting ≡ [] = w.0.waiting ∙ ap (still_inside layout past) same ∙ left in
            or_left (nat_lt block cycle.at && is_over cycle) (over_after (Some block) older)
            (and_from (nat_lt block cycle.at) (is_over cycle) (lt-ltb block cycle.at (omega arith)) (ap (λ l. length l == 0) none))
        | inr later ↦
            or_right (nat_lt block cycle.at && is_over cycle) (over_after (Some block) older)
            (over_at past block place older w.1 after left later)
      ]

  tracked_by : (past : History) (f : ℕ) (blocked : Option ℕ) → blocked_at past f ≡ blocked → over_after blocked (cycles layout past) ≡ true → IsTracked layout past f
  tracked_by past f None e h = absurd (cc)
  tracked_by past f (Some block) e h =
      let over = over_some past block (cycles layout past) (cycles-wait layout past) (all_begin past) h in
      record { block = block; blocked = e; place = over.place; after = over.after; etrack = over.etrack; left = over.left }

  tracked_from : (past : History) (f : ℕ) → IsTracked layout past f → tracked layout past f ≡ true
  tracked_from past f h =
      subst (λ o. over_after o (cycles layout past) ≡ true) (sym h.blocked)
      (over_at past h.block h.place (cycles layout past) (cycles-wait layout past) h.after h.left (each_has past h.place h.etrack).0)

  pub is-tracked : (past : History) (f : ℕ) → (tracked layout past f ≡ true) ↔ IsTracked layout past f
  is-tracked past f = (tracked_by past f (blocked_at past f) refl, tracked_from past f)

  -- ---- The last cycle

  someone : (waiting : List ℕ) → not (length waiting == 0) ≡ true → 1 ≤ length waiting
  someone [] h = absurd (cc)
  someone (q ∷ waiting) h = omega arith

  waits_for : (waiting : List ℕ) → 1 ≤ length waiting → not (length waiting == 0) ≡ true
  waits_for waiting h = ap not (ne_eqb (length waiting) 0 (λ e. omega arith))

  incomplete_by : (past : History) (all : List Cycle) → AllWait layout past all → AllBegin past all → ((other : ℕ) → IsEtrackAt past other → other ≤ newest_place all) → not (last_is_over all) ≡ true → IsIncomplete layout past
  incomplete_by past [] w b last h = absurd (cc)
  incomplete_by past (cycle ∷ older) w b last h =
      record { place = cycle.at; etrack = b.0; last = last; waits = subst (λ l. 1 ≤ length l) w.0.waiting (someone cycle.waiting h) }

  incomplete_from : (past : History) (all : List Cycle) → AllWait layout past all → AllBegin past all → ((other : ℕ) → IsEtrackAt past other → other ≤ newest_place all) → IsIncomplete layout past → not (last_is_over all) ≡ true
  incomplete_from past [] w b last h =
      let low = (within past h.place h.etrack).0 in
      let high = last h.place h.etrack in
      absurd (omega arith)
  incomplete_from past (cycle ∷ older) w b last h =
      let high = last h.place h.etrack in
      let low = h.last cycle.at b.0 in
      let same : h.place ≡ cycle.at = omega arith in
      waits_for cycle.waiting (subst (λ l. 1 ≤ length l) (ap (still_inside layout past) same ∙ sym w.0.waiting) h.waits)

  pub is-incomplete : (past : History) → (incomplete layout past ≡ true) ↔ IsIncomplete layout past
  is-incomplete past =
      let last : (other : ℕ) → IsEtrackAt past other → other ≤ newest_place (cycles layout past) = λ other h. (each_has past other h).1 in (
        incomplete_by past (cycles layout past) (cycles-wait layout past) (all_begin past) last,
        incomplete_from past (cycles layout past) (cycles-wait layout past) (all_begin past) last,
      )

  pub has-cycle : (past : History) (place : ℕ) → (list_any (λ cycle. cycle.at == place) (cycles layout past) ≡ true) ↔ IsEtrackAt past place
  has-cycle past place = (begun past place (cycles layout past) (all_begin past), λ h. (each_has past place h).0)
