-- Moves of the example's machines in general: bytes that change at few places, a step of the runtime over the pages that its memory
-- holds, an entering, and a saving.
use Rattle.std.proofs.Common.{◌≡◌, ℕ, zero, suc, ◌+◌, ◌<◌, List, [], ◌∷◌, ◌++◌, length, refl, ap, sym, ◌∙◌, subst, arith}
use Rattle.std.proofs.lemmas.Bool.{eqb-true}
use Rattle.std.proofs.lemmas.Bool.Decides.{nat_tests}
use Rattle.std.specs.Prelude.{◌≢◌, Bool, true, false, ◌||◌, ◌^◌, Some, None, ◌==◌, if◌then◌else◌}
use Rattle.ak_core.specs.Mem.{Access}
use Rattle.ak_core.specs.declared.moves.Move.TheVariants.{Eenter}
use Rattle.ak_core.specs.declared.moves.Answer.TheVariants.{Ok}
use Rattle.ak_core.specs.declared.registers.Mode.{Mode}
use Rattle.ak_core.specs.declared.registers.Regs.{Regs}
use Rattle.ak_model.specs.Paging.Pages.{tcs_page, ssa_page}
use Rattle.ak_model.specs.Paging.Histories.{History}
use Rattle.ak_model.specs.Paging.Holdings.{PageFrame}
use Rattle.ak_model.specs.Paging.Frames.{held}
use Rattle.ak_model.specs.Flat.FlatRuns.{Flat}
use Rattle.ak_model.specs.Control.ControlState.{Context, Control}
use Rattle.ak_model.specs.Control.RuntimeTurn.{accesses, shown_fault}
use Rattle.ak_model.specs.Laws.Orderly.{after_miss_if}
use Rattle.ak_epcm.specs.Entries.{entry_at}
use Rattle.ak_pager.specs.Contexts.{entry_regs}
use Rattle.ak_relation.specs.Bytes.Pages.{IsTcs}
use Rattle.ak_relation.specs.State.MachineState.{Processor, State}
use Rattle.ak_relation.specs.State.MachineView.{held_in}
use Rattle.ak_relation.specs.State.Tables.{TablesStand}
use Rattle.ak_ssa.specs.SavedFrames.{SavedCause, ByPage, frame_bytes, area_place, HasFrame}
use Rattle.ak_ssa.specs.FramesFit.{CauseFits}
use Rattle.ak_ssa.specs.SavedRegisters.{AreRegs}
use Rattle.ak_track.specs.Steps.{EntersBy, LeavesBy}
use Rattle.ak_relation.specs.Premises.EnterRows.{walk_in, saved_in, enter_row}
use Rattle.ak_relation.specs.Premises.Entering.{EntersAt}
use Rattle.ak_relation.specs.Premises.Saving.{missed_in, Saves}
use Rattle.ak_pager.specs.StepsTo.{MayStep, StepsTo, memory_of}
use Rattle.ak_pager.specs.declared.turn.RtTurn.{RtTurn}
use Rattle.ak_relation.specs.Premises.Works.{AreFound, WritesFrames, Ends, exit_of}
use Rattle.ak_relation.specs.Premises.Shows.{MemorySees, StepLeaves, ShowsStep}
use Rattle.ak_relation.specs.Relation.Does.{IsTurn, IsMove}
use Rattle.ak_relation.specs.Relation.Example.{one_page}
use Rattle.ak_relation.proofs.Runtime.FrameWrites.{writes_by, slots_by}
use Rattle.ak_relation.proofs.Runtime.ValidTurns.{valid_turns}
use Rattle.ak_relation.proofs.Entering.EnterAnswers.{walk_same}
use Rattle.ak_relation.proofs.Entering.EnterMoves.{enter_moves}
use Rattle.ak_relation.proofs.Leaves.ViewStands.{view-same}
use Rattle.ak_relation.proofs.Rows.BlankPages.{area_with, area_whole, area_has}
use Rattle.ak_relation.proofs.Rows.BuiltMachine.{page_valid, outside}

-- ---- Bytes at few places

-- a place, and its new bytes
pub record Written : Type 0 where
  pub place : ℕ
  pub bytes : List ℕ

abbrev pub at_place : ℕ → List ℕ → Written
at_place place bytes = record { place = place; bytes = bytes }

-- these bytes, and elsewhere as before
abbrev pub over : List Written → (ℕ → List ℕ) → ℕ → List ℕ
over [] before g = before g
over (w ∷ ws) before g = if g == w.place then w.bytes else over ws before g

-- none of the places is this one
abbrev NotAmong : ℕ → List Written → Type 0
NotAmong g [] = Unit {0}
NotAmong g (w ∷ ws) = ((g == w.place) ≡ false) × NotAmong g ws

over_same : (ws : List Written) (before : ℕ → List ℕ) (g : ℕ) → NotAmong g ws → over ws before g ≡ before g
over_same [] before g t = refl
over_same (w ∷ ws) before g t = rw t.0 (over_same ws before g t.1)

-- each has 4096 bytes
abbrev pub AreWhole : List Written → Type 0
AreWhole [] = Unit {0}
AreWhole (w ∷ ws) = (length w.bytes ≡ 4096) × AreWhole ws

pub over_whole : (ws : List Written) (before : ℕ → List ℕ) → AreWhole ws → ((g : ℕ) → length (before g) ≡ 4096) → (g : ℕ) → length (over ws before g) ≡ 4096
over_whole [] before all old g = old g
over_whole (w ∷ ws) before all old g = by (g == w.place) (over_whole ws before all.1 old g)
  where
    by : (b : Bool) → length (over ws before g) ≡ 4096 → length (if b then w.bytes else over ws before g) ≡ 4096
    by true other = all.0
    by false other = other

-- new bytes of STATE alone: the areas and all other pages stay
pub all_areas : (state : List ℕ) (before : ℕ → List ℕ) (i : ℕ) → i < 3 → over (at_place 5 state ∷ []) before (ssa_page one_page i) ≡ before (ssa_page one_page i)
all_areas state before zero lt = refl
all_areas state before (suc zero) lt = refl
all_areas state before (suc (suc zero)) lt = refl
all_areas state before (suc (suc (suc i))) lt = absurd (omega arith)

pub state_alone : (state : List ℕ) (before : ℕ → List ℕ) (p : ℕ) → p ≢ 5 → over (at_place 5 state ∷ []) before p ≡ before p
state_alone state before p apart = let no_state : (p == 5) ≡ false = grind (arith, nat_tests, apart) in rw no_state refl

-- new bytes of STATE and of the first area
pub later_areas : (state area : List ℕ) (before : ℕ → List ℕ) (i : ℕ) → i < 3 → (i < 1 → ⊥) →
    over (at_place 5 state ∷ at_place 2 area ∷ []) before (ssa_page one_page i) ≡ before (ssa_page one_page i)
later_areas state area before zero lt out = absurd (out (omega arith))
later_areas state area before (suc zero) lt out = refl
later_areas state area before (suc (suc zero)) lt out = refl
later_areas state area before (suc (suc (suc i))) lt out = absurd (omega arith)

pub state_and_area : (state area : List ℕ) (before : ℕ → List ℕ) (p : ℕ) → p ≢ 5 → ((i : ℕ) → i < 3 → p ≢ ssa_page one_page i) →
    over (at_place 5 state ∷ at_place 2 area ∷ []) before p ≡ before p
state_and_area state area before p apart areas =
    let no_state : (p == 5) ≡ false = grind (arith, nat_tests, apart) in
    let out : p ≢ 2 = areas 0 (omega arith) in
    let no_area : (p == 2) ≡ false = grind (arith, nat_tests, out) in
    rw (no_state, no_area) refl

-- ---- The pages of a memory

-- the memory holds the pages of this list
abbrev pub holds_of : List ℕ → ℕ → Bool
holds_of [] p = false
holds_of (q ∷ qs) p = (p == q) || holds_of qs p

-- of each page of the list
abbrev pub Each : List ℕ → (ℕ → Type 0) → Type 0
Each [] P = Unit {0}
Each (q ∷ qs) P = P q × Each qs P

each : (P : ℕ → Type 0) (qs : List ℕ) → Each qs P → (p : ℕ) → holds_of qs p ≡ true → P p
each P [] all p h = absurd (cc)
each P (q ∷ qs) all p h = by (p == q) refl h (each P qs all.1 p)
  where
    by : (b : Bool) → (p == q) ≡ b → (b || holds_of qs p) ≡ true → (holds_of qs p ≡ true → P p) → P p
    by true e t later = subst P (sym (eqb-true p q e)) all.0
    by false e t later = later t

-- ---- A step of the runtime

-- the bytes of each page, in the frame that the page table names
abbrev pub bytes_of : State → ℕ → List ℕ
bytes_of state p = state.frames (state.table p).frame

-- new bytes of pages, as those of their frames
abbrev pub in_frames : State → List Written → List Written
in_frames state [] = []
in_frames state (w ∷ ws) = at_place (state.table w.place).frame w.bytes ∷ in_frames state ws

-- each page with new bytes is one of the list
abbrev AreHeld : List ℕ → List Written → Type 0
AreHeld qs [] = Unit {0}
AreHeld qs (w ∷ ws) = (holds_of qs w.place ≡ true) × AreHeld qs ws

-- walks find these accesses, of pages of the list
abbrev AreSeen : State → List ℕ → List Access → Type 0
AreSeen state qs [] = Unit {0}
AreSeen state qs (t ∷ ts) = (t.page.0 < 7) × (walk_in one_page state t.page.0 t.kind ≡ true) × (holds_of qs t.page.0 ≡ true) × AreSeen state qs ts

-- one machine and the next: its memory holds these pages, of which some get new bytes, and no table differs
pub record Changes (old new : State) (qs : List ℕ) (ws : List Written) (granted : List Access) : Type 0 where
  pub found : Each qs (λ p. held_in (entry_at old.entries (old.table p).frame) ≡ PageFrame p)
  pub wrote : Each qs (λ p. bytes_of new p ≡ over ws (bytes_of old) p)
  pub frames : (g : ℕ) → new.frames g ≡ over (in_frames old ws) old.frames g
  pub among : AreHeld qs ws
  pub seen : AreSeen old qs granted
  pub whole : (g : ℕ) → length (new.frames g) ≡ 4096
  pub entries : new.entries ≡ old.entries
  pub stamps : new.stamps ≡ old.stamps
  pub sealed_pages : new.sealed_pages ≡ old.sealed_pages
  pub next : new.next ≡ old.next
  pub table : new.table ≡ old.table
  pub count : new.count ≡ old.count
  pub queue : new.queue ≡ old.queue

module _ (old new : State) (qs : List ℕ) (ws : List Written) (granted : List Access) (c : Changes old new qs ws granted) (past : History) (h : TablesStand one_page past old) where
  found : (p : ℕ) → holds_of qs p ≡ true → held one_page past (old.table p).frame ≡ PageFrame p
  found p some =
      let same = view-same one_page past old h in
      sym (same.held (old.table p).frame) ∙ each (λ q. held_in (entry_at old.entries (old.table q).frame) ≡ PageFrame q) qs c.found p some

  apart : (g : ℕ) → ((p : ℕ) → holds_of qs p ≡ true → held one_page past g ≡ PageFrame p → ⊥) → (vs : List Written) → AreHeld qs vs → NotAmong g (in_frames old vs)
  apart g none [] t = tt
  apart g none (w ∷ vs) t = (by (g == (old.table w.place).frame) refl, apart g none vs t.1)
    where
      by : (b : Bool) → (g == (old.table w.place).frame) ≡ b → b ≡ false
      by true e = absurd (none w.place t.0 (ap (held one_page past) (eqb-true g (old.table w.place).frame e) ∙ found w.place t.0))
      by false e = refl

  writes : WritesFrames one_page past (holds_of qs) (bytes_of old) (over ws (bytes_of old)) old new
  writes = record {
    found = found;
    read = λ p some. refl;
    wrote = λ p some. ap (λ (table : ℕ → _). new.frames (table p).frame) (sym c.table) ∙ each (λ q. bytes_of new q ≡ over ws (bytes_of old) q) qs c.wrote p some;
    others = λ g none. c.frames g ∙ over_same (in_frames old ws) old.frames g (apart g none ws c.among);
    sealed_pages = c.sealed_pages;
  }

  finds : (ts : List Access) → AreSeen old qs ts → AreFound one_page past (holds_of qs) ts
  finds [] t = tt
  finds (a ∷ ts) t = (sym (walk_same one_page past old h a.page.0 a.kind t.0) ∙ t.1, t.2, finds ts t.3)

  step_sees : MemorySees one_page past (holds_of qs) (bytes_of old) granted None old
  step_sees =
      let w = writes_by one_page past (holds_of qs) (bytes_of old) (over ws (bytes_of old)) old new h writes in
      record { memory = w.read; found = finds granted c.seen; lost = tt }

  step_leaves : (outcome : RtTurn) (regs : Regs) → Ends 0 outcome regs old new → StepLeaves one_page past 0 (holds_of qs) (bytes_of old) (over ws (bytes_of old)) outcome regs old new
  step_leaves outcome regs ends = record {
    writes = writes_by one_page past (holds_of qs) (bytes_of old) (over ws (bytes_of old)) old new h writes;
    kept = record {
      slots = slots_by one_page past (holds_of qs) (bytes_of old) (over ws (bytes_of old)) old new h writes;
      whole = c.whole;
      entries = c.entries;
      stamps = c.stamps;
      sealed_pages = c.sealed_pages;
      next = c.next;
      table = c.table;
      count = c.count;
      queue = c.queue;
    };
    ends = ends;
  }

-- the step, wherever it is defined for these registers and bytes
abbrev pub Steps : State → List ℕ → List Written → List Access → RtTurn → Regs → Type 0
Steps old qs ws granted outcome regs =
    (control : Control) (context : Context) (flat : Flat) → MayStep one_page control context flat (old.processors 0).regs (memory_of (holds_of qs) (bytes_of old)) →
    StepsTo one_page control context (old.processors 0).regs (bytes_of old) (over ws (bytes_of old)) granted None outcome regs

-- it is a turn
pub step_turn : (old new : State) (qs : List ℕ) (ws : List Written) (granted : List Access) (outcome : RtTurn) (regs : Regs) → (old.processors 0).regs.mode ≡ Mode.Runtime →
    Changes old new qs ws granted → Ends 0 outcome regs old new → Steps old qs ws granted outcome regs → IsTurn one_page 0 old new (exit_of one_page outcome) None
step_turn old new qs ws granted outcome regs mode c ends steps = valid_turns one_page page_valid (record { 0 = 0 }) old new outcome shows
  where
    shows : ShowsStep one_page 0 old new outcome
    shows = record {
      mode = mode;
      holds = holds_of qs;
      before = bytes_of old;
      after = over ws (bytes_of old);
      granted = granted;
      refused = None;
      regs = regs;
      steps = steps;
      sees = λ past h. step_sees old new qs ws granted c past h;
      works = λ none past h. step_leaves old new qs ws granted c past h outcome regs ends;
      faults = λ t e. absurd (cc);
    }

-- a step whose first refused access is this one, and that is saved
pub refused_turn : (old new : State) (qs : List ℕ) (granted : List Access) (t : Access) → (old.processors 0).regs.mode ≡ Mode.Runtime → Changes old old qs [] granted →
    t.page.0 < 7 → walk_in one_page old t.page.0 t.kind ≡ false →
    ((control : Control) (context : Context) (flat : Flat) → MayStep one_page control context flat (old.processors 0).regs (memory_of (holds_of qs) (bytes_of old)) →
    ((later : List Access) × (granted ++ t ∷ later ≡ accesses one_page control context))) →
    ((saved : ℕ) (pending : Bool) → IsTcs saved pending (old.frames (old.processors 0).tcs) → Saves one_page 0 saved true (ByPage t) old new) →
    IsTurn one_page 0 old new (Some (shown_fault one_page)) None
refused_turn old new qs granted t mode c low lost next saves = valid_turns one_page page_valid (record { 0 = 0 }) old new (RtTurn.Faulted t) shows
  where
    sees : (past : History) → TablesStand one_page past old → MemorySees one_page past (holds_of qs) (bytes_of old) granted (Some t) old
    sees past h =
        let seen = step_sees old old qs [] granted c past h in
        record { memory = seen.memory; found = seen.found; lost = sym (walk_same one_page past old h t.page.0 t.kind low) ∙ lost }

    shows : ShowsStep one_page 0 old new (RtTurn.Faulted t)
    shows = record {
      mode = mode;
      holds = holds_of qs;
      before = bytes_of old;
      after = bytes_of old;
      granted = granted;
      refused = Some t;
      regs = (old.processors 0).regs;
      steps = λ control context flat may. record {
        works = λ none. absurd (cc);
        faults = λ s e. (let same : t ≡ s = cc in subst (λ a. ((later : List Access) × (granted ++ a ∷ later ≡ accesses one_page control context)) × (bytes_of old ≡ bytes_of old) × ((old.processors 0).regs ≡ (old.processors 0).regs) × (RtTurn.Faulted t ≡ RtTurn.Faulted a)) same (next control context flat may, refl, refl, refl));
      };
      sees = sees;
      works = λ none. absurd (cc);
      faults = λ s e saved pending tcs. (let same : t ≡ s = cc in subst (λ a. Saves one_page 0 saved true (ByPage a) old new) same (saves saved pending tcs));
    }

-- the machine with new bytes of pages, whose processor has left
abbrev pub left_with : State → List Written → State
left_with old ws = record old { frames = over (in_frames old ws) old.frames; processors = λ lp. if lp == 0 then outside else old.processors lp; track = LeavesBy 0 ∷ old.track }

-- the machine with new bytes of pages, whose processor goes on with these registers
abbrev pub gone_with : State → List Written → Regs → State
gone_with old ws regs = record old {
  frames = over (in_frames old ws) old.frames;
  processors = λ lp. if lp == 0 then record (old.processors 0) { regs = regs } else old.processors lp;
}

-- ---- An entering

-- the processor inside, with so many contexts saved
abbrev pub entering : State → ℕ → ℕ → Processor
entering old n v =
    record { inside = true; regs = entry_regs one_page n v; tcs = (old.table (tcs_page one_page)).frame; ssa = (old.table (ssa_page one_page n)).frame; fills = [] }

-- the machine, with these bytes of the TCS
abbrev pub entered_with : State → ℕ → ℕ → List ℕ → State
entered_with old n v tcs = record old {
  frames = over (at_place (old.table (tcs_page one_page)).frame tcs ∷ []) old.frames;
  processors = λ lp. if lp == 0 then entering old n v else old.processors lp;
  track = EntersBy 0 ∷ old.track;
}

equal : (n : ℕ) → (n == n) ≡ true
equal n = grind (arith, nat_tests)

pub entered_move : (old : State) (n v : ℕ) (tcs : List ℕ) → v < 2 ^ 64 → saved_in one_page old ≡ n → IsTcs n false tcs → length tcs ≡ 4096 → ((g : ℕ) → length (old.frames g) ≡ 4096) →
    enter_row one_page old 0 ≡ Ok → IsMove one_page old (entered_with old n v tcs) (Eenter (record { 0 = 0 }) v) Ok None
entered_move old n v tcs low saved is whole all row =
    enter_moves one_page old (record { 0 = 0 }) (entered_with old n v tcs) v low row (subst (λ k. EntersAt one_page 0 k v old (entered_with old n v tcs)) (sym saved) enters)
  where
    enters : EntersAt one_page 0 n v old (entered_with old n v tcs)
    enters = record {
      inside = refl;
      regs = refl;
      tcs = refl;
      ssa = refl;
      flushed = refl;
      others = λ q e. rw e refl;
      cleared = subst (λ b. IsTcs n false (if b then tcs else old.frames (old.table (tcs_page one_page)).frame)) (sym (equal (old.table (tcs_page one_page)).frame)) is;
      frames = λ g e. rw e refl;
      whole = over_whole (at_place (old.table (tcs_page one_page)).frame tcs ∷ []) old.frames (whole, tt) all;
      track = refl;
      entries = refl;
      count = refl;
      queue = refl;
      stamps = refl;
      sealed_pages = refl;
      next = refl;
      table = refl;
    }

-- ---- A saving

-- the area's bytes, with the registers of the processor inside
abbrev pub exit_bytes : State → SavedCause → List ℕ
exit_bytes old cause = frame_bytes one_page (record { regs = (old.processors 0).regs; cause = cause })

-- the machine, with these bytes of the TCS
abbrev pub saved_with : State → SavedCause → List ℕ → State
saved_with old cause tcs = record old {
  frames = over (at_place (old.processors 0).tcs tcs ∷ at_place (old.processors 0).ssa (area_with (exit_bytes old cause)) ∷ []) old.frames;
  processors = λ lp. if lp == 0 then outside else old.processors lp;
  track = LeavesBy 0 ∷ old.track;
}

pub saved_whole : (old : State) (cause : SavedCause) (tcs : List ℕ) → length tcs ≡ 4096 → length (exit_bytes old cause) ≡ 200 → ((g : ℕ) → length (old.frames g) ≡ 4096) →
    (g : ℕ) → length ((saved_with old cause tcs).frames g) ≡ 4096
saved_whole old cause tcs whole size all =
    over_whole (at_place (old.processors 0).tcs tcs ∷ at_place (old.processors 0).ssa (area_with (exit_bytes old cause)) ∷ []) old.frames
    (whole, (area_whole (exit_bytes old cause) size, tt)) all

-- with this queue after it
pub saves_with : (old : State) (saved : ℕ) (pending : Bool) (cause : SavedCause) (tcs queue : List ℕ) → ((old.processors 0).regs.mode ≡ Mode.Runtime → AreRegs (old.processors 0).regs) → CauseFits one_page cause →
    ((old.processors 0).ssa == (old.processors 0).tcs) ≡ false → IsTcs (saved + 1) pending tcs → length tcs ≡ 4096 → length (exit_bytes old cause) ≡ 200 →
    ((g : ℕ) → length (old.frames g) ≡ 4096) → queue ≡ after_miss_if one_page old.queue (missed_in one_page old.queue cause (old.processors 0).regs.mode) →
    Saves one_page 0 saved pending cause old (record (saved_with old cause tcs) { queue = queue })
saves_with old saved pending cause tcs queue words fits apart is whole size all queue_is = record {
  area = subst (λ b. HasFrame one_page area_place (if b then tcs else (if (old.processors 0).ssa == (old.processors 0).ssa then area_with (exit_bytes old cause) else old.frames (old.processors 0).ssa)) (record { regs = (old.processors 0).regs; cause = cause })) (sym apart)
      (subst (λ b. HasFrame one_page area_place (if b then area_with (exit_bytes old cause) else old.frames (old.processors 0).ssa) (record { regs = (old.processors 0).regs; cause = cause })) (sym (equal (old.processors 0).ssa))
      (area_has (exit_bytes old cause) size));
  words = words;
  fits = fits;
  tcs = subst (λ b. IsTcs (saved + 1) pending (if b then tcs else over (at_place (old.processors 0).ssa (area_with (exit_bytes old cause)) ∷ []) old.frames (old.processors 0).tcs)) (sym (equal (old.processors 0).tcs)) is;
  frames = λ g no_tcs no_area. rw (no_tcs, no_area) refl;
  whole = saved_whole old cause tcs whole size all;
  left = refl;
  flushed = refl;
  others = λ q e. rw e refl;
  track = refl;
  entries = refl;
  count = refl;
  queue = queue_is;
  stamps = refl;
  sealed_pages = refl;
  next = refl;
  table = refl;
}
