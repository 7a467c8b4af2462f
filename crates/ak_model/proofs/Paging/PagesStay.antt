-- A page that a frame held unblocked at some moment since a processor entered stays there while that processor is inside: a
-- cycle after its block waits for the processor, and no page is removed while one is inside.
use Rattle.std.proofs.Common.{◌≡◌, inl, inr, ℕ, zero, suc, ◌+◌, ◌<◌, ◌≤◌, List, [], ◌∷◌, length, drop, map, arith, refl, ap, sym, subst, length-drop}
use Rattle.std.specs.Prelude.{Bool, true, false, not, ◌&&◌, ◌||◌, filter, cond, if◌then◌else◌, Option, Some, None, is_some, is_none, nat_lt, nat_le, ◌==◌}
use Rattle.std.specs.List.{list_any}
use Rattle.std.proofs.lemmas.Bool.{eqb-true, eq-eqb, ltb-true, leb-true, and_parts, not-false, or_left, or_right, or_cases}
use Rattle.ak_core.specs.Layout.{Layout}
use Rattle.ak_core.specs.Mem.{Access}
use Rattle.ak_core.specs.declared.event.Event.{Event}
use Rattle.ak_core.specs.declared.page.Handle.{Handle}
use Rattle.ak_core.specs.declared.moves.Move.{Move}
use Rattle.ak_core.specs.declared.moves.Move.TheVariants.{ReadPte, Ewb, Eldu, Eldb, Eremove, Epa, Run}
use Rattle.ak_core.specs.declared.moves.Answer.TheVariants.{Ok, OkHandle, NotBlocked, NotTracked}
use Rattle.ak_model.specs.Paging.Histories.{History, Change, Blocks, Cycles, WritesOut, Loads, Removes, MakesVa, Enters, Resumes, Exits, Interrupts, change}
use Rattle.ak_model.specs.Paging.Holdings.{Held, FreeFrame, SecsFrame, VaFrame, PageFrame, is_page_in}
use Rattle.ak_model.specs.Paging.Frames.{held, held_after, blocks_first, blocked_at, blocked_after}
use Rattle.ak_model.specs.Paging.Inside.{since, since_after, inside, processors, someone_inside}
use Rattle.ak_model.specs.Paging.Tracking.{Cycle, without, is_over, over_after, cycles, cycles_after, tracked}
use Rattle.ak_model.specs.Laws.Waiting.{leaves, AllWait}
use Rattle.ak_model.specs.Paging.Pages.{permits, tcs_page}
use Rattle.ak_model.specs.Paging.PageTable.{pte}
use Rattle.ak_model.specs.Paging.Walk.{is_preset, flags_allow, is_in_frame, access_walkable, tcs_walkable}
use Rattle.ak_model.specs.Misses.Reached.{reached_since}
use Rattle.ak_model.specs.Clusters.Queue.{is_in}
use Rattle.ak_model.specs.Control.ControlState.{Control}
use Rattle.ak_model.specs.Paging.Views.{view_of}
use Rattle.ak_model.specs.Control.LeafRows.{write_out_row, remove_by_row}
use Rattle.ak_model.specs.Control.Answers.{answer}
use Rattle.ak_model.specs.Control.Trace.{trace}
use Rattle.ak_model.proofs.Paging.Tests.{any_in_range, or_other}
use Rattle.ak_model.proofs.Paging.ChangesByAnswer.{ok_holds, handle_holds, exit_holds}
use Rattle.ak_model.proofs.Paging.WaitingCycles.{cycles-wait}
use Rattle.ak_model.proofs.Paging.OneCopy.{load_fair, page_if, va_fair}
use Rattle.ak_model.proofs.Control.LeafRows.{frame_ok}
use Rattle.ak_model.proofs.Paging.SomeoneInside.{other, is_someone}
use Rattle.ak_model.proofs.Paging.InsideIsOfLayout.{placed}

-- ---- What an answer says of the change

module _ (layout : Layout) where
  abbrev Fair : History → Change → Type 0
  Fair past (Loads f k p va i blocked) = held layout past f ≡ FreeFrame
  Fair past (MakesVa f) = held layout past f ≡ FreeFrame
  Fair past (WritesOut f va i k) = tracked layout past f ≡ true
  Fair past (Removes f) = (p : ℕ) → held layout past f ≡ PageFrame p → someone_inside layout past ≡ false
  Fair past _ = Unit {0}

  out_fair : (past : History) (f va i : ℕ) (k : Handle) → write_out_row (view_of layout past) f va i ≡ OkHandle k → tracked layout past f ≡ true
  out_fair past f va i k h =
      let a = frame_ok (view_of layout past) f _ (OkHandle k) (λ e. cc) (λ e. cc) h in
      let b = page_if layout (held layout past f) _ k a in
      let c = other (not (is_some (blocked_at past f))) NotBlocked _ (OkHandle k) (λ e. cc) b.1 in
      let d = other (not (tracked layout past f)) NotTracked _ (OkHandle k) (λ e. cc) c.1 in
      not-false (tracked layout past f) d.0

  removed_by : (active : Bool) (frame : Held) (p : ℕ) → remove_by_row active frame ≡ Ok → frame ≡ PageFrame p → active ≡ false
  removed_by false frame p h e = refl
  removed_by true FreeFrame p h e = absurd (cc)
  removed_by true SecsFrame p h e = absurd (cc)
  removed_by true VaFrame p h e = absurd (cc)
  removed_by true (PageFrame q) p h e = absurd (cc)

  fair : (past : History) (control : Control) (m : Move) → Fair past (change m (answer layout past control m))
  fair past control (ReadPte p) = tt
  fair past control (Ewb f va i) = handle_holds (Fair past) tt (answer layout past control (Ewb f va i)) _ (out_fair past f.0 va.0 i)
  fair past control (Eldu f k p va i) = ok_holds (Fair past) tt (answer layout past control (Eldu f k p va i)) _ (λ h. (load_fair layout past f.0 k.0 p.0 va.0 i false h).0)
  fair past control (Eldb f k p va i) = ok_holds (Fair past) tt (answer layout past control (Eldb f k p va i)) _ (λ h. (load_fair layout past f.0 k.0 p.0 va.0 i true h).0)
  fair past control (Eremove f) = ok_holds (Fair past) tt (answer layout past control (Eremove f)) _ (λ h p e. removed_by (someone_inside layout past) (held layout past f.0) p (frame_ok (view_of layout past) f.0 _ Ok (λ x. cc) (λ x. cc) h) e)
  fair past control (Epa f) = ok_holds (Fair past) tt (answer layout past control (Epa f)) _ (va_fair layout past f.0)
  fair past control (Run lp n) = exit_holds (Fair past) tt (answer layout past control (Run lp n)) (λ exit. Exits lp.0 exit) (λ exit. tt)
  fair past control m = ok_holds (Fair past) tt (answer layout past control m) _ (λ h. tt)

-- ---- Cycles that wait for the processor

module _ (lp : ℕ) where
  -- each cycle that began after this place waits for the processor
  abbrev Awaited : ℕ → List Cycle → Type 0
  Awaited place [] = Unit {0}
  Awaited place (cycle ∷ older) = (place < cycle.at → is_in cycle.waiting lp ≡ true) × Awaited place older

  abbrev IfBlocked : Option ℕ → List Cycle → Type 0
  IfBlocked None all = Unit {0}
  IfBlocked (Some place) all = Awaited place all

  none_in : (waiting : List ℕ) → (length waiting == 0) ≡ true → is_in waiting lp ≡ true → ⊥
  none_in [] e h = cc
  none_in (q ∷ waiting) e h = let l = eqb-true (length (q ∷ waiting)) 0 e in omega arith

  -- so none of these is over
  never_over : (place : ℕ) (all : List Cycle) → Awaited place all → list_any (λ cycle. nat_lt place cycle.at && is_over cycle) all ≡ true → ⊥
  never_over place [] h o = cc
  never_over place (cycle ∷ older) h o =
      elim (or_cases (nat_lt place cycle.at && is_over cycle) (list_any (λ x. nat_lt place x.at && is_over x) older) o) [
        | inl this ↦
            let both = and_parts (nat_lt place cycle.at) (is_over cycle) this in
            none_in cycle.waiting both.1 (h.0 (ltb-true place cycle.at both.0))
        | inr later ↦ never_over place older h.1 later
      ]

  untracked : (blocked : Option ℕ) (all : List Cycle) → IfBlocked blocked all → over_after blocked all ≡ true → ⊥
  untracked None all h o = cc
  untracked (Some place) all h o = never_over place all h o

  -- older cycles began before a new place
  early : (layout : Layout) (past : History) (all : List Cycle) → AllWait layout past all → Awaited (length past + 1) all
  early layout past [] h = tt
  early layout past (cycle ∷ older) h = ((λ l. absurd (let high = h.0.high in omega arith)), early layout past older h.1)

  kept_by : (test : ℕ → Bool) (q : ℕ) (rest : List ℕ) (same b : Bool) → (q == lp) ≡ same → test q ≡ b → test lp ≡ true → (is_in rest lp ≡ true → is_in (filter test rest) lp ≡ true) → is_in (q ∷ rest) lp ≡ true → is_in (cond b (q ∷ filter test rest) (filter test rest)) lp ≡ true
  kept_by test q rest true true e t h later here = or_left (q == lp) _ e
  kept_by test q rest true false e t h later here = absurd (let x = subst (λ y. test y ≡ true) (sym (eqb-true q lp e)) h in cc)
  kept_by test q rest false true e t h later here = or_right (q == lp) _ (later (or_other (q == lp) (is_in rest lp) e here))
  kept_by test q rest false false e t h later here = later (or_other (q == lp) (is_in rest lp) e here)

  kept : (test : ℕ → Bool) (all : List ℕ) → test lp ≡ true → is_in all lp ≡ true → is_in (filter test all) lp ≡ true
  kept test [] t h = h
  kept test (q ∷ rest) t h = kept_by test q rest (q == lp) (test q) refl refl t (kept test rest t) h

  -- another processor leaves
  left : (q : ℕ) → (lp == q) ≡ false → (place : ℕ) (all : List Cycle) → Awaited place all → Awaited place (map (without q) all)
  left q differs place [] h = tt
  left q differs place (cycle ∷ older) h =
      ((λ l. let t : not (lp == q) ≡ true = rw differs refl in kept (λ x. not (x == q)) cycle.waiting t (h.0 l)), left q differs place older h.1)

  left_if : (q : ℕ) → (lp == q) ≡ false → (blocked : Option ℕ) (all : List Cycle) → IfBlocked blocked all → IfBlocked blocked (map (without q) all)
  left_if q differs None all h = tt
  left_if q differs (Some place) all h = left q differs place all h

-- ---- The frame

module _ (layout : Layout) (lp f p : ℕ) where
  -- the frame holds the page, and each cycle since its block waits for the processor
  abbrev Stays : Held → Option ℕ → List Cycle → Type 0
  Stays frame blocked all = (frame ≡ PageFrame p) × IfBlocked lp blocked all

  abbrev After : History → Change → Type 0
  After past c = Stays (held_after c f (held layout past f)) (blocked_after c f (length past + 1) (blocked_at past f)) (cycles_after layout past c (cycles layout past))

  module _ (past : History) (low : lp < layout.lps) (within : inside past lp ≡ true) (old : Stays (held layout past f) (blocked_at past f) (cycles layout past)) where
    -- another frame
    differs : (g place : ℕ) (frame : Held) (now : Option ℕ) (same : Bool) → (f == g) ≡ same → (f ≡ g → ⊥) → Stays (if same then frame else held layout past f) (if same then now else blocked_at past f) (cycles layout past)
    differs g place frame now true e other = absurd (other (eqb-true f g e))
    differs g place frame now false e other = old

    not_free : (g : ℕ) → held layout past g ≡ FreeFrame → f ≡ g → ⊥
    not_free g h e = let there = subst (λ x. held layout past x ≡ PageFrame p) e old.0 in cc

    not_tracked : (g : ℕ) → tracked layout past g ≡ true → f ≡ g → ⊥
    not_tracked g h e = untracked lp (blocked_at past f) (cycles layout past) old.1 (subst (λ x. over_after (blocked_at past x) (cycles layout past) ≡ true) (sym e) h)

    not_removed : (g : ℕ) → ((q : ℕ) → held layout past g ≡ PageFrame q → someone_inside layout past ≡ false) → f ≡ g → ⊥
    not_removed g h e =
        let there = subst (λ x. held layout past x ≡ PageFrame p) e old.0 in
        let some = is_someone layout past lp low within in
        let nobody = h p there in cc

    blocks_by : (before : Option ℕ) → IfBlocked lp before (cycles layout past) → IfBlocked lp (blocks_first before (length past + 1)) (cycles layout past)
    blocks_by None h = early lp layout past (cycles layout past) (cycles-wait layout past)
    blocks_by (Some place) h = h

    blocks : (g : ℕ) (same : Bool) → Stays (held layout past f) (if same then blocks_first (blocked_at past f) (length past + 1) else blocked_at past f) (cycles layout past)
    blocks g true = (old.0, blocks_by (blocked_at past f) old.1)
    blocks g false = old

    -- a new cycle waits for it
    new_waits : is_in (filter (inside past) (processors layout)) lp ≡ true
    new_waits =
        let same : (lp == lp) ≡ true = eq-eqb lp lp refl in
        kept lp (inside past) (processors layout) within (any_in_range (λ q. q == lp) layout.lps 0 lp (omega arith) (omega arith) same)

    cycled : (blocked : Option ℕ) → IfBlocked lp blocked (cycles layout past) → IfBlocked lp blocked (cycles_after layout past Cycles (cycles layout past))
    cycled None h = tt
    cycled (Some place) h = ((λ l. new_waits), h)

    pub one_more : (c : Change) → Fair layout past c → leaves c lp ≡ false → After past c
    one_more (Blocks g) fair stays = blocks g (f == g)
    one_more Cycles fair stays = (old.0, cycled (blocked_at past f) old.1)
    one_more (WritesOut g va i k) fair stays = differs g 0 _ _ (f == g) refl (not_tracked g fair)
    one_more (Loads g k q va i blocked) fair stays = differs g 0 _ _ (f == g) refl (not_free g fair)
    one_more (Removes g) fair stays = differs g 0 _ _ (f == g) refl (not_removed g fair)
    one_more (MakesVa g) fair stays = differs g 0 _ _ (f == g) refl (not_free g fair)
    one_more (Exits q exit) fair stays = (old.0, left_if lp q stays (blocked_at past f) (cycles layout past) old.1)
    one_more (Interrupts q) fair stays = (old.0, left_if lp q stays (blocked_at past f) (cycles layout past) old.1)
    one_more _ fair stays = old

-- ---- Since the entering

-- a processor inside since an older place was inside before, and does not leave
older_by : (same : Bool) (entered place : ℕ) (before : Option ℕ) → entered < place → (if same then Some place else before) ≡ Some entered → before ≡ Some entered
older_by true entered place before l h = absurd (let e : place ≡ entered = cc in omega arith)
older_by false entered place before l h = h

stayed_by : (same : Bool) (entered : ℕ) (before : Option ℕ) → (if same then None else before) ≡ Some entered → (before ≡ Some entered) × (same ≡ false)
stayed_by true entered before h = absurd (cc)
stayed_by false entered before h = (h, refl)

since_older : (c : Change) (lp entered place : ℕ) (before : Option ℕ) → entered < place → since_after c lp place before ≡ Some entered → (before ≡ Some entered) × (leaves c lp ≡ false)
since_older (Enters q v) lp entered place before l h = (older_by (lp == q) entered place before l h, refl)
since_older (Resumes q) lp entered place before l h = (older_by (lp == q) entered place before l h, refl)
since_older (Exits q exit) lp entered place before l h = stayed_by (lp == q) entered before h
since_older (Interrupts q) lp entered place before l h = stayed_by (lp == q) entered before h
since_older _ lp entered place before l h = (h, refl)

module _ (layout : Layout) (tape : List Event) (lp entered f p : ℕ) where
  unblocked : (past : History) → blocked_at past f ≡ None → IfBlocked lp (blocked_at past f) (cycles layout past)
  unblocked past h = subst (λ o. IfBlocked lp o (cycles layout past)) (sym h) tt

  held_since : (moves : List Move) (d : ℕ) → since (trace layout tape moves).past lp ≡ Some entered → entered ≤ length (drop d (trace layout tape moves).past) → held layout (drop d (trace layout tape moves).past) f ≡ PageFrame p → blocked_at (drop d (trace layout tape moves).past) f ≡ None → Stays layout lp f p (held layout (trace layout tape moves).past f) (blocked_at (trace layout tape moves).past f) (cycles layout (trace layout tape moves).past)
  held_since moves zero s l h b = (h, unblocked (trace layout tape moves).past b)
  held_since [] (suc d) s l h b = absurd (cc)
  held_since (m ∷ moves) (suc d) s l h b =
      let before = trace layout tape moves in
      let past : History = before.past in
      let c : Change = change m (answer layout past before.control m) in
      let short = length-drop d past in
      let older = since_older c lp entered (length past + 1) (since past lp) (omega arith) s in
      let within : inside past lp ≡ true = rw older.0 refl in
      one_more layout lp f p past (ltb-true lp layout.lps (placed layout lp tape moves within)) within
      (held_since moves d older.0 l h b) c (fair layout past before.control m) older.1

-- what a frame held unblocked at some moment since the entering it holds still
pub page-stays : (layout : Layout) (tape : List Event) (moves : List Move) (lp entered f p d : ℕ) → since (trace layout tape moves).past lp ≡ Some entered → entered ≤ length (drop d (trace layout tape moves).past) → held layout (drop d (trace layout tape moves).past) f ≡ PageFrame p → blocked_at (drop d (trace layout tape moves).past) f ≡ None → held layout (trace layout tape moves).past f ≡ PageFrame p
page-stays layout tape moves lp entered f p d s l h b = (held_since layout tape lp entered f p moves d s l h b).0

-- ---- What a walk found

holds_page : (frame : Held) (q : ℕ) → is_page_in frame q ≡ true → frame ≡ PageFrame q
holds_page FreeFrame q h = absurd (cc)
holds_page SecsFrame q h = absurd (cc)
holds_page VaFrame q h = absurd (cc)
holds_page (PageFrame r) q h = ap PageFrame (sym (eqb-true q r h))

none_there : (o : Option ℕ) → is_none o ≡ true → o ≡ None
none_there None h = refl
none_there (Some place) h = absurd (cc)

module _ (layout : Layout) where
  in_frame : (past : History) (q f : ℕ) → is_in_frame layout past q f ≡ true → (held layout past f ≡ PageFrame q) × (blocked_at past f ≡ None)
  in_frame past q f h =
      let both = and_parts (is_page_in (held layout past f) q) (is_none (blocked_at past f)) h in
      (holds_page (held layout past f) q both.0, none_there (blocked_at past f) both.1)

  walked_frame : (past : History) (t : Access) → access_walkable layout past t ≡ true → is_in_frame layout past t.page.0 (pte layout past t.page.0).frame ≡ true
  walked_frame past t h =
      let entry = pte layout past t.page.0 in
      let a = and_parts (permits layout t.page.0 t.kind) (flags_allow entry.flags t.kind && is_in_frame layout past t.page.0 entry.frame) h in
      (and_parts (flags_allow entry.flags t.kind) (is_in_frame layout past t.page.0 entry.frame) a.1).1

  module _ (tape : List Event) (moves : List Move) (lp entered : ℕ) (here : since (trace layout tape moves).past lp ≡ Some entered) where
    found_stays : (q f d : ℕ) → entered ≤ length (drop d (trace layout tape moves).past) → is_in_frame layout (drop d (trace layout tape moves).past) q f ≡ true → held layout (trace layout tape moves).past f ≡ PageFrame q
    found_stays q f d l h =
        let found = in_frame (drop d (trace layout tape moves).past) q f h in
        page-stays layout tape moves lp entered f q d here l found.0 found.1

    -- the frame in which a walk found a page since the entering holds it still
    pub walked-stays : (t : Access) (d : ℕ) → entered ≤ length (drop d (trace layout tape moves).past) → access_walkable layout (drop d (trace layout tape moves).past) t ≡ true → held layout (trace layout tape moves).past (pte layout (drop d (trace layout tape moves).past) t.page.0).frame ≡ PageFrame t.page.0
    walked-stays t d l h = found_stays t.page.0 _ d l (walked_frame (drop d (trace layout tape moves).past) t h)

    -- and so does that in which it found the TCS
    pub tcs-stays : (d : ℕ) → entered ≤ length (drop d (trace layout tape moves).past) → tcs_walkable layout (drop d (trace layout tape moves).past) ≡ true → held layout (trace layout tape moves).past (pte layout (drop d (trace layout tape moves).past) (tcs_page layout)).frame ≡ PageFrame (tcs_page layout)
    tcs-stays d l h =
        let entry = pte layout (drop d (trace layout tape moves).past) (tcs_page layout) in
        found_stays (tcs_page layout) _ d l (and_parts (is_preset entry.flags) (is_in_frame layout (drop d (trace layout tape moves).past) (tcs_page layout) entry.frame) h).1

    -- ---- What was reached

    reached_at : (past : History) (t : Access) → reached_since layout entered past t ≡ true → (d : ℕ) × (entered ≤ length (drop d past)) × (access_walkable layout (drop d past) t ≡ true)
    reached_at [] t h = absurd (cc)
    reached_at (pair ∷ past) t h =
        let both = and_parts (nat_le entered (length past + 1)) (access_walkable layout (pair ∷ past) t || reached_since layout entered past t) h in
        let l = leb-true entered (length past + 1) both.0 in
        elim (or_cases (access_walkable layout (pair ∷ past) t) (reached_since layout entered past t) both.1) [
          | inl now ↦ (0, omega arith, now)
          | inr before ↦ let older = reached_at past t before in (suc older.0, older.1, older.2)
        ]

    -- a page that was reached since the entering is in a frame
    pub reached-stays : (t : Access) → reached_since layout entered (trace layout tape moves).past t ≡ true → (f : ℕ) × (held layout (trace layout tape moves).past f ≡ PageFrame t.page.0)
    reached-stays t h =
        let at = reached_at (trace layout tape moves).past t h in
        ((pte layout (drop at.0 (trace layout tape moves).past) t.page.0).frame, walked-stays t at.0 at.1 at.2)
