-- A call that leaves, the last call, and the guard while a cluster is asked for: nothing is saved.
use Rattle.std.proofs.Common.{◌≡◌, inl, inr, ℕ, zero, suc, ◌^◌, ◌<◌, ◌≤◌, List, [], ◌∷◌, length, arith, refl, ap, sym, ◌∙◌, subst}
use Rattle.std.specs.Prelude.{Bool, slice_index, Some, None}
use Rattle.ak_core.specs.Layout.{Layout}
use Rattle.ak_core.specs.declared.page.Lp.{Lp}
use Rattle.ak_core.specs.declared.event.StopCause.TheVariants.{ResumedEarly}
use Rattle.ak_core.specs.declared.moves.Exit.{Exit}
use Rattle.ak_core.specs.declared.registers.Mode.{Mode}
use Rattle.ak_core.specs.declared.registers.Regs.{Regs}
use Rattle.ak_model.specs.Paging.Pages.{state_page}
use Rattle.ak_model.specs.Paging.Histories.{History}
use Rattle.ak_model.specs.Flat.Instructions.{reg_of, rcx}
use Rattle.ak_model.specs.Flat.FlatRuns.{Flat}
use Rattle.ak_model.specs.Control.ControlState.{Phase, Running, Calling, Asked, Ended, Dead, Context, Guard, Leave, Named, Saved, Control, first_cause}
use Rattle.ak_model.specs.Control.RuntimeTurn.{leave_call, resume_guard}
use Rattle.ak_model.specs.Tapes.ProgramTurns.{ProgramTurn}
use Rattle.ak_ssa.specs.SavedFrames.{frame_bytes}
use Rattle.ak_ssa.specs.SavedRegisters.{AreWords, AreRegs}
use Rattle.ak_relation.specs.State.MachineState.{State}
use Rattle.ak_pager.specs.Contexts.{IsAtStep, SameButRip}
use Rattle.ak_model.specs.Laws.OwedAnswers.{Owing, Settled, Owed, Unknown, owing}
use Rattle.ak_relation.specs.Program.FlatPlaces.{IsAtBy, IsAfterCall}
use Rattle.ak_relation.specs.Bytes.Pages.{CopiesStand}
use Rattle.ak_pager.specs.RuntimePages.{AreasStand}
use Rattle.ak_relation.specs.Program.Reaching.{BreaksStand}
use Rattle.ak_relation.specs.Relation.Stands.{copies_at, runs_at}
use Rattle.ak_pager.specs.Rows.{Row, Reads, kept_bytes, left_frame, leave_row, guard_row}
use Rattle.ak_pager.specs.StepsTo.{HasState, Performs}
use Rattle.ak_pager.specs.declared.turn.RtTurn.{RtTurn}
use Rattle.ak_relation.specs.Program.Turns.{is_last_call}
use Rattle.ak_relation.proofs.Runtime.Allowed.{call_regs}
use Rattle.ak_relation.proofs.Runtime.RowPages.{FrameIs, pages_by}
use Rattle.ak_relation.proofs.Program.OwnWords.{flat_fits}
use Rattle.ak_relation.proofs.Runtime.Cases.{Case, Comes, context_fits, leaves_by, dies_by, state_set}
use Rattle.ak_relation.proofs.Runtime.RowsBegin.{owing_at, ended_at, nothing}

-- what a dead enclave's program may be at
pub unknown_at : (layout : Layout) (image returned : List ℕ) (count : ℕ) (flat : Flat) (o : Owing) → IsAtBy o layout image returned count flat → IsAtBy Unknown layout image returned count flat
unknown_at layout image returned count flat Settled h = inl h
unknown_at layout image returned count flat Owed h = inr h
unknown_at layout image returned count flat Unknown h = h

-- registers from their parts
abbrev make : List ℕ → ℕ → Bool → Bool → Bool → Bool → Mode → Regs
make gpr rip cf zf sf of mode = record { gpr = gpr; rip = rip; cf = cf; zf = zf; sf = sf; of = of; mode = mode }

-- each of some words is one
word_at : (xs : List ℕ) (i : ℕ) → AreWords xs → slice_index xs i < 2 ^ 64
word_at [] i h = omega arith
word_at (x ∷ xs) zero h = h.0
word_at (x ∷ xs) (suc i) h = word_at xs i h.1

-- the registers that a leave step keeps are the program's
kept_regs : (regs flat : Regs) → SameButRip regs flat → flat.rip ≡ reg_of flat rcx → flat.mode ≡ Mode.Program → (record regs { rip = reg_of regs rcx; mode = Mode.Program }) ≡ flat
kept_regs regs flat same rip mode =
    ap (λ x. make x (reg_of regs rcx) regs.cf regs.zf regs.sf regs.of Mode.Program) same.gpr
    ∙ ap (λ x. make flat.gpr x regs.cf regs.zf regs.sf regs.of Mode.Program) (ap (λ x. reg_of (record regs { gpr = x }) rcx) same.gpr ∙ sym rip)
    ∙ ap (λ x. make flat.gpr flat.rip x regs.zf regs.sf regs.of Mode.Program) same.cf
    ∙ ap (λ x. make flat.gpr flat.rip flat.cf x regs.sf regs.of Mode.Program) same.zf
    ∙ ap (λ x. make flat.gpr flat.rip flat.cf flat.zf x regs.of Mode.Program) same.sf
    ∙ ap (λ x. make flat.gpr flat.rip flat.cf flat.zf flat.sf x Mode.Program) same.of
    ∙ ap (λ x. make flat.gpr flat.rip flat.cf flat.zf flat.sf flat.of x) (sym mode)

module _ (layout : Layout) (image : List ℕ) (past : History) (control : Control) (turns : List ProgramTurn) (old new : State) (lp : Lp) (context : Context) (outcome : RtTurn) (regs : Regs)
    (c : Case layout image past control turns old new lp context outcome regs) (all : ℕ) (r : Reads) (same : r.queue ≡ control.queue) (empty : control.stack ≡ []) where
  -- the pages, where the row sets STATE alone and nothing is saved
  pub set_pages : (row : Row) (phase : Phase) (frame : List ℕ) → Performs layout row c.before c.after outcome regs → HasState phase r.queue frame (c.after (state_page layout)) →
      FrameIs layout phase c.h.bytes.flat frame → CopiesStand layout phase control.queue control.stack control.pending c.h.bytes.flat (copies_at layout past new)
  set_pages row phase frame p s f =
      pages_by layout past c.holds c.before c.after old new c.writes row outcome regs p control.phase phase control.queue control.queue c.h.bytes.flat control.stack control.stack control.pending refl
      c.h.bytes.pages
      (state_set layout image past control turns old new lp context outcome regs c phase control.queue frame c.h.bytes.flat (subst (λ q. HasState phase q frame (c.after (state_page layout))) same s) f)
      (subst (AreasStand layout phase control.queue c.h.bytes.flat (copies_at layout past new)) (sym empty) tt)

  -- no break is saved either
  pub no_breaks : (next : Control) → next.stack ≡ control.stack → BreaksStand layout (runs_at layout image next) turns (copies_at layout past new) next.stack
  no_breaks next e = subst (BreaksStand layout (runs_at layout image next) turns (copies_at layout past new)) (sym (e ∙ empty)) tt

module _ (layout : Layout) (image : List ℕ) (past : History) (control : Control) (turns : List ProgramTurn) (old new : State) (lp : Lp) (b a : ℕ) (outcome : RtTurn) (regs before : Regs)
    (c : Case layout image past control turns old new lp (Leave b a) outcome regs) (all : ℕ) (r : Reads) (same : r.queue ≡ control.queue)
    (gives : IsAtStep layout before 32 × SameButRip before c.h.bytes.flat.regs) where
  fits : (length control.stack ≡ 0) × (control.phase ≡ Running)
  fits = context_fits layout image past control turns old new lp (Leave b a) outcome regs c

  empty : control.stack ≡ []
  empty = nothing control.stack fits.0

  words : AreRegs c.h.bytes.flat.regs
  words = let own = flat_fits layout image past control turns old c.h in own.words

  its_words : AreWords before.gpr
  its_words = let own = words in let same = gives.1 in subst AreWords (sym same.gpr) own.words

  owed : IsAfterCall layout image control.returned control.count c.h.bytes.flat
  owed = subst (λ o. IsAtBy o layout image control.returned control.count c.h.bytes.flat) (owing_at control Running [] (Some (Leave b a)) fits.1 empty c.now) c.h.bytes.program

  kept : (left_frame before).regs ≡ c.h.bytes.flat.regs
  kept = let is = call_regs layout image control.returned control.count c.h.bytes.flat owed in
      let program = is.program in kept_regs before c.h.bytes.flat.regs gives.1 is.rip program.1

  -- the control state after the last call
  abbrev over : Control
  over = record control { phase = Ended a; now = None }

  -- the last call ends the program
  pub ends_program : b ≡ 0 → Performs layout (leave_row layout r before 0 a) c.before c.after outcome regs → Comes layout image past control turns old new lp (Leave b a) outcome regs c all outcome
  ends_program zero_is p = leaves_by layout image past control turns old new lp (Leave b a) outcome regs c all over
      (record { count = refl; rest = refl; fresh = tt; going = λ live. absurd (cc) })
      (Exit.Ended a) refl refl refl (λ later. ap (λ n. leave_call (record control { rest = later }) n a) zero_is)
      (record {
        flat = c.h.bytes.flat;
        program = owed;
        pages = set_pages layout image past control turns old new lp (Leave b a) outcome regs c all r same empty (leave_row layout r before 0 a) (Ended a) (frame_bytes layout (left_frame before)) p p.state tt;
        breaks = no_breaks layout image past control turns old new lp (Leave b a) outcome regs c all r same empty over refl;
      }) refl p.ends

  -- the control state after another call
  abbrev out : Control
  out = record control { phase = Calling; now = None }

  -- another call leaves
  pub calls_out : (n : ℕ) → b ≡ suc n → Performs layout (leave_row layout r before (suc n) a) c.before c.after outcome regs → Comes layout image past control turns old new lp (Leave b a) outcome regs c all outcome
  calls_out n more_is p = leaves_by layout image past control turns old new lp (Leave b a) outcome regs c all out
      (record { count = refl; rest = refl; fresh = tt; going = λ live. ended_at control Running [] (Some (Leave b a)) fits.1 empty c.now ∙ ap (λ m. is_last_call (Some (Leave m a))) more_is })
      (Exit.Call (suc n) a) refl refl refl (λ later. ap (λ m. leave_call (record control { rest = later }) m a) more_is)
      (record {
        flat = c.h.bytes.flat;
        program = owed;
        pages = set_pages layout image past control turns old new lp (Leave b a) outcome regs c all r same empty (leave_row layout r before (suc n) a) Calling (frame_bytes layout (left_frame before)) p p.state
            (left_frame before, refl, kept, record { sixteen = let own = words in let same = gives.1 in ap length same.gpr ∙ own.sixteen; words = its_words; rip = word_at before.gpr rcx its_words });
        breaks = no_breaks layout image past control turns old new lp (Leave b a) outcome regs c all r same empty out refl;
      }) refl p.ends

module _ (layout : Layout) (image : List ℕ) (past : History) (control : Control) (turns : List ProgramTurn) (old new : State) (lp : Lp) (outcome : RtTurn) (regs : Regs)
    (c : Case layout image past control turns old new lp Guard outcome regs) (all : ℕ) (r : Reads) (same : r.queue ≡ control.queue) (asked : ℕ) (is_asked : control.phase ≡ Asked asked) where
  dead_clash : control.phase ≡ Dead → ⊥
  dead_clash e = let clash : Asked asked ≡ Dead = sym is_asked ∙ e in cc

  none_saved : control.stack ≡ []
  none_saved = let fits = context_fits layout image past control turns old new lp Guard outcome regs c in by control.stack fits.0 fits.2
    where
      by : (stack : List Saved) → length stack ≤ 1 → (length stack ≡ 1 → control.phase ≡ Dead) → stack ≡ []
      by [] l d = refl
      by (saved ∷ older) l d = absurd (dead_clash (d (omega arith)))

  -- the control state after it
  abbrev dead : Control
  dead = record control { phase = Dead; now = None; cause = first_cause control.cause (Named ResumedEarly) }

  -- resumed too early, the guard ends the enclave
  pub resumed_early : Performs layout (guard_row r (Asked asked)) c.before c.after outcome regs → Comes layout image past control turns old new lp Guard outcome regs c all outcome
  resumed_early p = dies_by layout image past control turns old new lp Guard outcome regs c all dead
      (record { count = refl; rest = refl; fresh = tt; going = λ live. absurd (cc) })
      ResumedEarly refl refl (λ later. ap (resume_guard (record control { rest = later })) is_asked)
      (record {
        flat = c.h.bytes.flat;
        program = unknown_at layout image control.returned control.count c.h.bytes.flat (owing control) c.h.bytes.program;
        pages = set_pages layout image past control turns old new lp Guard outcome regs c all r same none_saved (guard_row r (Asked asked)) Dead (kept_bytes r.state) p p.state tt;
        breaks = no_breaks layout image past control turns old new lp Guard outcome regs c all r same none_saved dead refl;
      }) refl p.ends
