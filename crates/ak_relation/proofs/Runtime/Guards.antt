-- Entries with something saved whose rows leave guards: a trap, an ask, and the end of the enclave.
use Rattle.std.proofs.Common.{◌≡◌, ℕ, zero, suc, List, [], ◌∷◌, length, drop, arith, refl, ap, sym, ◌∙◌, subst}
use Rattle.std.specs.Prelude.{true, ◌||◌, replicate, Some, None}
use Rattle.ak_core.specs.Layout.{Layout}
use Rattle.ak_core.specs.declared.page.Lp.{Lp}
use Rattle.ak_core.specs.declared.event.Event.{Event}
use Rattle.ak_core.specs.declared.event.StopCause.{StopCause}
use Rattle.ak_core.specs.declared.moves.Exit.{Exit}
use Rattle.ak_core.specs.declared.registers.Regs.{Regs}
use Rattle.ak_model.specs.Paging.Pages.{ssa_page}
use Rattle.ak_model.specs.Paging.Histories.{History}
use Rattle.ak_model.specs.Clusters.Queue.{drops}
use Rattle.ak_model.specs.Control.ControlState.{Phase, Running, Asked, Trapped, Dead, Context, Program, Enter, Missed, Saved, Cause, Control, first_cause}
use Rattle.ak_model.specs.Control.RuntimeTurn.{guard, guard_top, guarded_twice, effect, die, guarded, trap, ask}
use Rattle.ak_model.specs.Tapes.ProgramTurns.{ProgramTurn}
use Rattle.ak_ssa.specs.SavedFrames.{SavedFrame, frame_bytes, area_place, HasFrame}
use Rattle.ak_ssa.specs.SavedRegisters.{AreWords, AreRegs}
use Rattle.ak_ssa.specs.FramesFit.{FrameFits, HasRoom}
use Rattle.ak_relation.specs.State.MachineState.{State}
use Rattle.ak_pager.specs.RuntimePages.{OfCopy, IsArea, AreasStand}
use Rattle.ak_model.specs.Laws.OwedAnswers.{owing, owing_by}
use Rattle.ak_relation.specs.Program.FlatPlaces.{IsAtBy}
use Rattle.ak_relation.specs.Bytes.Pages.{CopiesStand}
use Rattle.ak_relation.specs.Program.Reaching.{BreaksStand}
use Rattle.ak_relation.specs.Program.Turns.{ends_by, is_last_call}
use Rattle.ak_relation.specs.Relation.Stands.{copies_at, runs_at}
use Rattle.ak_pager.specs.Rows.{Row, StepEnd, StateSets, AreasGuard, Reads, kept_bytes, area_bytes, guard_frame, dying, trapping, asking}
use Rattle.ak_pager.specs.StepsTo.{Performs}
use Rattle.ak_pager.specs.declared.turn.RtTurn.{RtTurn}
use Rattle.ak_relation.specs.Premises.Works.{named_by}
use Rattle.ak_relation.specs.Relation.Does.{with_rest}
use Rattle.ak_relation.proofs.Runtime.RowPages.{FrameIs, new_copy, pages_by}
use Rattle.ak_relation.proofs.Runtime.Cases.{Case, Comes, found_all, leaves_by, dies_by, state_set}
use Rattle.ak_relation.proofs.Runtime.RowsBegin.{owing_at, ended_at}
use Rattle.ak_relation.proofs.Runtime.RowsLeave.{unknown_at}

-- a guard's frame fits its bytes
zero_words : (n : ℕ) → AreWords (replicate n 0)
zero_words zero = tt
zero_words (suc n) = (omega arith, zero_words n)

guard_fits : (layout : Layout) → HasRoom layout → FrameFits layout (guard_frame layout)
guard_fits layout room = record { words = record { sixteen = refl; words = zero_words 16; rip = omega arith }; cause = tt }

-- a row that leaves guards
abbrev guarding : Phase → List ℕ → List ℕ → ℕ → StepEnd → Row
guarding phase queue frame areas ends = record { state = StateSets phase queue frame; areas = AreasGuard areas; ends = ends }

module _ (layout : Layout) (image : List ℕ) (past : History) (control : Control) (turns : List ProgramTurn) (old new : State) (lp : Lp) (context : Context) (outcome : RtTurn) (regs : Regs)
    (c : Case layout image past control turns old new lp context outcome regs) where
  -- an area with the guard's frame
  guard_area : (i : ℕ) (phase : Phase) (queue : List ℕ) → c.holds (ssa_page layout i) ≡ true → HasFrame layout area_place (c.after (ssa_page layout i)) (guard_frame layout) →
      OfCopy (copies_at layout past new (ssa_page layout i)) (IsArea layout phase queue c.h.bytes.flat guard)
  guard_area i phase queue held has = new_copy layout past c.holds c.before c.after old new c.writes (ssa_page layout i) (IsArea layout phase queue c.h.bytes.flat guard) held
      (record { frame = guard_frame layout; stored = has; fits = guard_fits layout c.room; noted = refl; registers = record { mode = refl; rip = refl } })

  -- the pages, with new areas
  guard_pages : (phase : Phase) (queue frame : List ℕ) (n : ℕ) (ends : StepEnd) (stack : List Saved) → length stack ≡ length control.stack →
      Performs layout (guarding phase queue frame n ends) c.before c.after outcome regs → FrameIs layout phase c.h.bytes.flat frame → AreasStand layout phase queue c.h.bytes.flat (copies_at layout past new) stack →
      CopiesStand layout phase queue stack control.pending c.h.bytes.flat (copies_at layout past new)
  guard_pages phase queue frame n ends stack size p f areas =
      pages_by layout past c.holds c.before c.after old new c.writes (guarding phase queue frame n ends) outcome regs p control.phase phase control.queue queue c.h.bytes.flat control.stack stack control.pending size
      c.h.bytes.pages (state_set layout image past control turns old new lp context outcome regs c phase queue frame c.h.bytes.flat p.state f) areas

module _ (layout : Layout) (image : List ℕ) (past : History) (control : Control) (turns : List ProgramTurn) (old new : State) (lp : Lp) (v : ℕ) (outcome : RtTurn) (regs : Regs)
    (c : Case layout image past control turns old new lp (Enter 1 v) outcome regs) (all : ℕ) (r : Reads) (same : r.queue ≡ control.queue) (saved : Saved) (one : control.stack ≡ saved ∷ []) where
  top : guard_top control.stack ≡ guard ∷ []
  top = ap guard_top one

  held : c.holds (ssa_page layout 0) ≡ true
  held = let f = found_all layout image past control turns old new lp (Enter 1 v) outcome regs c in f.2.2.1

  pages : (phase : Phase) (queue frame : List ℕ) (ends : StepEnd) → Performs layout (guarding phase queue frame 1 ends) c.before c.after outcome regs → FrameIs layout phase c.h.bytes.flat frame →
      CopiesStand layout phase queue (guard_top control.stack) control.pending c.h.bytes.flat (copies_at layout past new)
  pages phase queue frame ends p f = guard_pages layout image past control turns old new lp (Enter 1 v) outcome regs c phase queue frame 1 ends (guard_top control.stack) (ap length top ∙ sym (ap length one)) p f
      (subst (AreasStand layout phase queue c.h.bytes.flat (copies_at layout past new)) (sym top)
      (guard_area layout image past control turns old new lp (Enter 1 v) outcome regs c 0 phase queue held (let a = p.areas in a.0 0 (omega arith)), tt))

  breaks : (next : Control) → next.stack ≡ guard_top control.stack → BreaksStand layout (runs_at layout image next) turns (copies_at layout past new) next.stack
  breaks next e = subst (BreaksStand layout (runs_at layout image next) turns (copies_at layout past new)) (sym (e ∙ top)) (tt, tt)

  -- the program alone is saved
  module _ (program : saved.context ≡ Program) (running : control.phase ≡ Running) where
    -- nothing is owed
    settled : (next : Control) → next.returned ≡ control.returned → owing next ≡ owing_by Running (Some Program) → IsAtBy (owing next) layout image control.returned control.count c.h.bytes.flat
    settled next e o = subst (λ x. IsAtBy x layout image control.returned control.count c.h.bytes.flat)
        (owing_at control Running (saved ∷ []) control.now running one refl ∙ ap (λ x. owing_by Running (Some x)) program ∙ sym o) c.h.bytes.program

    -- the control state after a trap
    abbrev trapped : ℕ → Control
    trapped x = record control { stack = guard_top control.stack; phase = Trapped x; now = None }

    -- the program's vector ends it
    pub traps : (x : ℕ) → ((later : List Event) → effect layout (with_rest control later) (Enter 1 v) ≡ trap (with_rest control later) x) →
        Performs layout (trapping r x) c.before c.after outcome regs → Comes layout image past control turns old new lp (Enter 1 v) outcome regs c all outcome
    traps x effects p = leaves_by layout image past control turns old new lp (Enter 1 v) outcome regs c all (trapped x)
        (record { count = refl; rest = refl; fresh = tt; going = λ live. absurd (cc) })
        (Exit.Trapped x) refl refl refl effects
        (record {
          flat = c.h.bytes.flat;
          program = settled (trapped x) refl refl;
          pages = subst (λ q. CopiesStand layout (Trapped x) q (guard_top control.stack) control.pending c.h.bytes.flat (copies_at layout past new)) same (pages (Trapped x) r.queue (kept_bytes r.state) _ p tt);
          breaks = breaks (trapped x) refl;
        }) refl p.ends

    -- the control state after an ask
    abbrev asked : ℕ → Control
    asked n = record control { stack = guard_top control.stack; queue = drop (drops layout control.queue n) control.queue; phase = Asked n; now = None }

    -- the runtime asks for the cluster of a miss, and keeps the program's frame
    pub asks : (n : ℕ) (frame : SavedFrame) → saved.reason ≡ Missed n → area_bytes r.first ≡ frame_bytes layout frame → frame.regs ≡ c.h.bytes.flat.regs → AreRegs frame.regs →
        ((later : List Event) → effect layout (with_rest control later) (Enter 1 v) ≡ ask layout (with_rest control later) n) →
        Performs layout (asking layout r n) c.before c.after outcome regs → Comes layout image past control turns old new lp (Enter 1 v) outcome regs c all outcome
    asks n frame missed has frame_is words effects p = leaves_by layout image past control turns old new lp (Enter 1 v) outcome regs c all (asked n)
        (record {
          count = refl;
          rest = refl;
          fresh = tt;
          going = λ live. ended_at control Running (saved ∷ []) control.now running one refl
              ∙ ap (λ x. ends_by x || is_last_call (Some saved.context)) missed ∙ ap (λ x. is_last_call (Some x)) program;
        })
        (Exit.Ask (drops layout control.queue n) n) refl refl refl effects
        (record {
          flat = c.h.bytes.flat;
          program = settled (asked n) refl refl;
          pages = subst (λ q. CopiesStand layout (Asked n) (drop (drops layout q n) q) (guard_top control.stack) control.pending c.h.bytes.flat (copies_at layout past new)) same
              (pages (Asked n) (drop (drops layout r.queue n) r.queue) (area_bytes r.first) _ p (frame, has, frame_is, words));
          breaks = breaks (asked n) refl;
        }) refl (p.ends ∙ ap (λ q. RtTurn.Leave (Exit.Ask (drops layout q n) n)) same)

  -- the control state of a dead enclave
  abbrev dead : Cause → Control
  dead cause = record control { stack = guard_top control.stack; phase = Dead; now = None; cause = first_cause control.cause cause }

  -- the enclave dies, with one guard
  pub dies_one : (shown : StopCause) (cause : Cause) → cause ≡ named_by shown → ((later : List Event) → effect layout (with_rest control later) (Enter 1 v) ≡ die cause (guarded (with_rest control later))) →
      Performs layout (dying r 1 shown) c.before c.after outcome regs → Comes layout image past control turns old new lp (Enter 1 v) outcome regs c all outcome
  dies_one shown cause same_cause effects p = dies_by layout image past control turns old new lp (Enter 1 v) outcome regs c all (dead cause)
      (record { count = refl; rest = refl; fresh = tt; going = λ live. absurd (cc) })
      shown refl refl effects
      (record {
        flat = c.h.bytes.flat;
        program = unknown_at layout image control.returned control.count c.h.bytes.flat (owing control) c.h.bytes.program;
        pages = subst (λ q. CopiesStand layout Dead q (guard_top control.stack) control.pending c.h.bytes.flat (copies_at layout past new)) same (pages Dead r.queue (kept_bytes r.state) _ p tt);
        breaks = breaks (dead cause) refl;
      }) (ap (first_cause control.cause) same_cause) p.ends

module _ (layout : Layout) (image : List ℕ) (past : History) (control : Control) (turns : List ProgramTurn) (old new : State) (lp : Lp) (v : ℕ) (outcome : RtTurn) (regs : Regs)
    (c : Case layout image past control turns old new lp (Enter 2 v) outcome regs) (all : ℕ) (r : Reads) (same : r.queue ≡ control.queue) (newest oldest_one : Saved) (two : control.stack ≡ newest ∷ oldest_one ∷ []) where
  both : guarded_twice control.stack ≡ guard ∷ guard ∷ []
  both = ap guarded_twice two

  -- the control state of a dead enclave
  abbrev dead_twice : Cause → Control
  dead_twice cause = record control { stack = guarded_twice control.stack; phase = Dead; now = None; cause = first_cause control.cause cause }

  -- the enclave dies, with two guards
  pub dies_two : (shown : StopCause) (cause : Cause) → cause ≡ named_by shown →
      ((later : List Event) → effect layout (with_rest control later) (Enter 2 v) ≡ die cause (record (with_rest control later) { stack = guarded_twice control.stack })) →
      Performs layout (dying r 2 shown) c.before c.after outcome regs → Comes layout image past control turns old new lp (Enter 2 v) outcome regs c all outcome
  dies_two shown cause same_cause effects p =
      let f = found_all layout image past control turns old new lp (Enter 2 v) outcome regs c in let a = p.areas in
      dies_by layout image past control turns old new lp (Enter 2 v) outcome regs c all (dead_twice cause)
      (record { count = refl; rest = refl; fresh = tt; going = λ live. absurd (cc) })
      shown refl refl effects
      (record {
        flat = c.h.bytes.flat;
        program = unknown_at layout image control.returned control.count c.h.bytes.flat (owing control) c.h.bytes.program;
        pages = subst (λ q. CopiesStand layout Dead q (guarded_twice control.stack) control.pending c.h.bytes.flat (copies_at layout past new)) same
            (guard_pages layout image past control turns old new lp (Enter 2 v) outcome regs c Dead r.queue (kept_bytes r.state) 2 _ (guarded_twice control.stack) (ap length both ∙ sym (ap length two)) p tt
            (subst (AreasStand layout Dead r.queue c.h.bytes.flat (copies_at layout past new)) (sym both) (
              guard_area layout image past control turns old new lp (Enter 2 v) outcome regs c 1 Dead r.queue f.2.2.2.1 (a.0 1 (omega arith)),
              (guard_area layout image past control turns old new lp (Enter 2 v) outcome regs c 0 Dead r.queue f.2.2.1 (a.0 0 (omega arith)), tt),
            )));
        breaks = subst (BreaksStand layout (runs_at layout image (dead_twice cause)) turns (copies_at layout past new)) (sym both) (tt, (tt, tt));
      }) (ap (first_cause control.cause) same_cause) p.ends
