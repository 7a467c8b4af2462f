-- An entry with nothing saved: the program starts, or goes on with the answer of its call.
use Rattle.std.proofs.Common.{◌≡◌, ℕ, ◌+◌, List, [], ◌∷◌, ◌++◌, length, arith, refl, ap, sym, ◌∙◌, subst}
use Rattle.std.proofs.lemmas.List.{append-nil}
use Rattle.std.specs.Prelude.{false, ◌||◌, not, Option, Some}
use Rattle.ak_core.specs.Layout.{Layout}
use Rattle.ak_core.specs.declared.page.Lp.{Lp}
use Rattle.ak_core.specs.declared.registers.Regs.{Regs}
use Rattle.ak_model.specs.Paging.Pages.{state_page}
use Rattle.ak_model.specs.Paging.Histories.{History}
use Rattle.ak_model.specs.Flat.Instructions.{with_reg, rax}
use Rattle.ak_model.specs.Flat.FlatRuns.{Flat, zeroed, first_run}
use Rattle.ak_model.specs.Control.ControlState.{Phase, New, Running, Calling, Context, Program, Enter, Saved, Control}
use Rattle.ak_model.specs.Control.RuntimeTurn.{enter}
use Rattle.ak_model.specs.Tapes.ProgramTurns.{ProgramTurn}
use Rattle.ak_model.specs.Laws.Orderly.{is_live}
use Rattle.ak_relation.specs.State.MachineState.{State}
use Rattle.ak_model.specs.Laws.OwedAnswers.{oldest, owing_by, owing}
use Rattle.ak_relation.specs.Program.FlatPlaces.{IsAtBy, Reaches}
use Rattle.ak_relation.specs.Bytes.Pages.{CopiesStand}
use Rattle.ak_pager.specs.RuntimePages.{AreasStand}
use Rattle.ak_relation.specs.Program.Turns.{IsFresh, is_last, has_ended, events_by}
use Rattle.ak_relation.specs.Program.Reaching.{BreaksStand}
use Rattle.ak_relation.specs.Relation.Stands.{copies_at, runs_at}
use Rattle.ak_pager.specs.Rows.{Reads, kept_bytes, entry_row}
use Rattle.ak_pager.specs.StepsTo.{HasState, Performs}
use Rattle.ak_pager.specs.declared.turn.RtTurn.{RtTurn}
use Rattle.ak_relation.proofs.Runtime.RowPages.{pages_by}
use Rattle.ak_relation.proofs.Runtime.CallAnswers.{with_answer, answered_reaches}
use Rattle.ak_relation.proofs.Runtime.Cases.{Case, Comes, context_fits, goes_by, state_set}

-- ---- What a control state owes, and whether it has ended, by its parts

pub owing_at : (control : Control) (phase : Phase) (stack : List Saved) (now : Option Context) → control.phase ≡ phase → control.stack ≡ stack → control.now ≡ now →
    owing control ≡ owing_by phase (oldest stack now)
owing_at control phase stack now p s n = ap (λ x. owing_by x (oldest control.stack control.now)) p ∙ ap (λ x. owing_by phase (oldest x control.now)) s ∙ ap (λ x. owing_by phase (oldest stack x)) n

pub ended_at : (control : Control) (phase : Phase) (stack : List Saved) (now : Option Context) → control.phase ≡ phase → control.stack ≡ stack → control.now ≡ now →
    has_ended control ≡ (not (is_live phase) || is_last stack now)
ended_at control phase stack now p s n =
    ap (λ x. not (is_live x) || is_last control.stack control.now) p ∙ ap (λ x. not (is_live phase) || is_last x control.now) s ∙ ap (λ x. not (is_live phase) || is_last stack x) n

-- nothing is saved
pub nothing : (stack : List Saved) → length stack ≡ 0 → stack ≡ []
nothing [] h = refl
nothing (saved ∷ older) h = absurd (omega arith)

module _ (layout : Layout) (image : List ℕ) (past : History) (control : Control) (turns : List ProgramTurn) (old new : State) (lp : Lp) (v : ℕ) (outcome : RtTurn) (regs : Regs)
    (c : Case layout image past control turns old new lp (Enter 0 v) outcome regs) (all : ℕ) where
  empty : control.stack ≡ []
  empty = let fits = context_fits layout image past control turns old new lp (Enter 0 v) outcome regs c in nothing control.stack (sym fits.0)

  -- ---- The program starts

  -- the control state then
  abbrev started : Control
  started = record control { phase = Running; now = Some Program }

  module _ (r : Reads) (same : r.queue ≡ control.queue) (fresh : control.phase ≡ New) (p : Performs layout (entry_row layout r 0 v New) c.before c.after outcome regs) where
    settled : Reaches layout image control.returned control.count c.h.bytes.flat
    settled = subst (λ o. IsAtBy o layout image control.returned control.count c.h.bytes.flat) (owing_at control New control.stack control.now fresh refl refl) c.h.bytes.program

    is_fresh : IsFresh New control.count control.returned turns
    is_fresh = subst (λ x. IsFresh x control.count control.returned turns) fresh c.h.laws.fresh

    first_regs : c.h.bytes.flat.regs ≡ zeroed (layout.base + layout.entry)
    first_regs = by c.h.bytes.flat (subst (λ n. Reaches layout image [] n c.h.bytes.flat) is_fresh.0 (subst (λ returned. Reaches layout image returned control.count c.h.bytes.flat) is_fresh.1 settled))
      where
        by : (flat : Flat) → Reaches layout image [] 0 flat → flat.regs ≡ zeroed (layout.base + layout.entry)
        by flat e = let same : (first_run layout image []) ≡ record { flat = flat; answers = [] } = cc in ap (λ run. run.flat.regs) (sym same)

    -- it does
    pub starts : Comes layout image past control turns old new lp (Enter 0 v) outcome regs c all outcome
    starts = goes_by layout image past control turns old new lp (Enter 0 v) outcome regs c all started
        (record {
          count = refl;
          rest = refl;
          fresh = tt;
          going = λ live. ended_at control New [] (Some (Enter 0 v)) fresh empty c.now;
        })
        Program refl [] (append-nil control.returned) refl (λ later. ap (enter layout (record control { rest = later }) 0 v) fresh)
        (record {
          flat = c.h.bytes.flat;
          program = subst (λ o. IsAtBy o layout image control.returned control.count c.h.bytes.flat) (sym (owing_at started Running [] (Some Program) refl empty refl)) settled;
          pages = pages_by layout past c.holds c.before c.after old new c.writes (entry_row layout r 0 v New) outcome regs p control.phase Running control.queue control.queue c.h.bytes.flat control.stack control.stack control.pending refl
              c.h.bytes.pages
              (state_set layout image past control turns old new lp (Enter 0 v) outcome regs c Running control.queue (kept_bytes r.state) c.h.bytes.flat (subst (λ q. HasState Running q (kept_bytes r.state) (c.after (state_page layout))) same p.state) tt)
              (subst (AreasStand layout Running control.queue c.h.bytes.flat (copies_at layout past new)) (sym empty) tt);
          breaks = subst (BreaksStand layout (runs_at layout image started) turns (copies_at layout past new)) (sym empty) tt;
        })
        (let e = p.ends in e.1 ∙ sym first_regs) refl (let e = p.ends in e.0)

  -- ---- The program goes on

  -- the control state then
  abbrev answered : Control
  answered = record control { phase = Running; now = Some Program; returned = control.returned ++ v ∷ [] }

  module _ (r : Reads) (same : r.queue ≡ control.queue) (calling : control.phase ≡ Calling) (frame_is : r.kept.regs ≡ c.h.bytes.flat.regs)
      (p : Performs layout (entry_row layout r 0 v Calling) c.before c.after outcome regs) where
    live_before : has_ended control ≡ false
    live_before = ended_at control Calling [] (Some (Enter 0 v)) calling empty c.now

    reaches : Reaches layout image (control.returned ++ v ∷ []) control.count (with_answer c.h.bytes.flat v)
    reaches = answered_reaches layout image control.returned v control.count c.h.bytes.flat (events_by turns)
        (subst (λ o. IsAtBy o layout image control.returned control.count c.h.bytes.flat) (owing_at control Calling control.stack control.now calling refl refl) c.h.bytes.program) c.h.tape (c.h.laws.going live_before)

    all_pages : CopiesStand layout Running control.queue control.stack control.pending c.h.bytes.flat (copies_at layout past new)
    all_pages = pages_by layout past c.holds c.before c.after old new c.writes (entry_row layout r 0 v Calling) outcome regs p control.phase Running control.queue control.queue c.h.bytes.flat control.stack control.stack control.pending refl
        c.h.bytes.pages
        (state_set layout image past control turns old new lp (Enter 0 v) outcome regs c Running control.queue (kept_bytes r.state) c.h.bytes.flat (subst (λ q. HasState Running q (kept_bytes r.state) (c.after (state_page layout))) same p.state) tt)
        (subst (AreasStand layout Running control.queue c.h.bytes.flat (copies_at layout past new)) (sym empty) tt)

    -- it does
    pub answers : Comes layout image past control turns old new lp (Enter 0 v) outcome regs c all outcome
    answers = goes_by layout image past control turns old new lp (Enter 0 v) outcome regs c all answered
        (record { count = refl; rest = refl; fresh = tt; going = λ live. live_before })
        Program refl (v ∷ []) refl refl (λ later. ap (enter layout (record control { rest = later }) 0 v) calling)
        (record {
          flat = with_answer c.h.bytes.flat v;
          program = subst (λ o. IsAtBy o layout image (control.returned ++ v ∷ []) control.count (with_answer c.h.bytes.flat v)) (sym (owing_at answered Running [] (Some Program) refl empty refl)) reaches;
          pages = record {
            tcs = all_pages.tcs;
            areas = subst (AreasStand layout Running control.queue (with_answer c.h.bytes.flat v) (copies_at layout past new)) (sym empty) tt;
            state = state_set layout image past control turns old new lp (Enter 0 v) outcome regs c Running control.queue (kept_bytes r.state) (with_answer c.h.bytes.flat v) (subst (λ q. HasState Running q (kept_bytes r.state) (c.after (state_page layout))) same p.state) tt;
            program = all_pages.program;
          };
          breaks = subst (BreaksStand layout (runs_at layout image answered) turns (copies_at layout past new)) (sym empty) tt;
        })
        (let e = p.ends in e.1 ∙ ap (λ x. with_reg x rax v) frame_is) refl (let e = p.ends in e.0)
