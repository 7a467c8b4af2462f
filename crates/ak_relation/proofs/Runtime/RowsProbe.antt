-- Probes, and their end: the program's frame goes back into the first area.
use Rattle.std.proofs.Common.{◌≡◌, ℕ, List, [], ◌∷◌, ◌++◌, length, arith, refl, ap, sym, ◌∙◌, subst}
use Rattle.std.proofs.lemmas.List.{append-nil}
use Rattle.std.specs.Prelude.{true, false, ◌||◌, not, Some, None}
use Rattle.ak_core.specs.Layout.{Layout}
use Rattle.ak_core.specs.declared.page.Lp.{Lp}
use Rattle.ak_core.specs.declared.event.Event.{Event}
use Rattle.ak_core.specs.declared.moves.Exit.{Exit}
use Rattle.ak_core.specs.declared.registers.Regs.{Regs}
use Rattle.ak_model.specs.Paging.Pages.{ssa_page, state_page}
use Rattle.ak_model.specs.Paging.Histories.{History}
use Rattle.ak_model.specs.Control.OneTurn.{Goes}
use Rattle.ak_model.specs.Control.ControlState.{Phase, Running, Asked, Context, Program, Enter, Probe, Finish, Guard, Leave, Reason, Interrupted, Cleared, Raised, Denied, Missed, Broke, Faulted, Saved, Control}
use Rattle.ak_model.specs.Control.RuntimeTurn.{program_at_bottom, finish, effect}
use Rattle.ak_model.specs.Tapes.ProgramTurns.{ProgramTurn}
use Rattle.ak_model.specs.Laws.Orderly.{ContextFits, ReasonFits, StackFits, is_live}
use Rattle.ak_ssa.specs.SavedFrames.{NoCause}
use Rattle.ak_ssa.specs.SavedRegisters.{AreRegs}
use Rattle.ak_relation.specs.State.MachineState.{State}
use Rattle.ak_pager.specs.RuntimePages.{OfCopy, IsArea, AreasStand}
use Rattle.ak_pager.specs.Contexts.{Gives}
use Rattle.ak_model.specs.Laws.OwedAnswers.{owing_running}
use Rattle.ak_relation.specs.Program.FlatPlaces.{IsAtBy}
use Rattle.ak_relation.specs.Program.Reaching.{BreaksStand}
use Rattle.ak_relation.specs.Program.Turns.{ends_by, is_last, is_last_call, has_ended}
use Rattle.ak_relation.specs.Relation.Stands.{copies_at, runs_at}
use Rattle.ak_pager.specs.Rows.{Row, StateStays, AreasStay, GoesProbing, Reads, kept_bytes, finish_row}
use Rattle.ak_pager.specs.StepsTo.{HasState, Performs}
use Rattle.ak_pager.specs.declared.turn.RtTurn.{RtTurn}
use Rattle.ak_relation.specs.Relation.Does.{with_rest}
use Rattle.ak_model.proofs.Tapes.Calls.{other_now}
use Rattle.ak_relation.proofs.Runtime.RowPages.{new_copy, breaks_stay, pages_by}
use Rattle.ak_relation.proofs.Runtime.Cases.{Case, Comes, last_none, few, found_all, goes_by, leaves_by, kept_pages, state_set}
use Rattle.ak_relation.proofs.Runtime.RowsBegin.{owing_at, ended_at}
use Rattle.ak_relation.proofs.Runtime.StepLaws.{Keeps}

-- the row that goes on at a probe
abbrev pub probing : ℕ → Row
probing n = record { state = StateStays; areas = AreasStay; ends = GoesProbing n }

module _ (layout : Layout) (image : List ℕ) (past : History) (control : Control) (turns : List ProgramTurn) (old new : State) (lp : Lp) (context : Context) (outcome : RtTurn) (regs : Regs)
    (c : Case layout image past control turns old new lp context outcome regs) (all : ℕ) where
  -- a step of this number comes next
  pub probes : (next : Context) (n : ℕ) → is_last_call (Some context) ≡ false → is_last_call (Some next) ≡ false → owing_running (Some context) ≡ owing_running None → owing_running (Some next) ≡ owing_running None →
      (Performs layout (probing n) c.before c.after outcome regs → Gives layout control.phase c.h.bytes.flat next regs) →
      ((later : List Event) → effect layout (with_rest control later) context ≡ Goes (record control { rest = later; now = Some next })) →
      Performs layout (probing n) c.before c.after outcome regs → Comes layout image past control turns old new lp context outcome regs c all outcome
  probes next n no_last no_last_next no_call no_call_next gives effects p =
      goes_by layout image past control turns old new lp context outcome regs c all (record control { now = Some next }) keeps
      next refl [] (append-nil control.returned) refl effects
      (record {
        flat = c.h.bytes.flat;
        program = subst (λ o. IsAtBy o layout image control.returned control.count c.h.bytes.flat)
            (other_now control.phase control.stack control.now (Some next) (ap owing_running c.now ∙ no_call) no_call_next) c.h.bytes.program;
        pages = kept_pages layout image past control turns old new lp context outcome regs c (probing n) p p.state p.areas;
        breaks = breaks_stay layout past c.holds c.before c.after old new c.writes (runs_at layout image control) turns p.areas control.stack (let l = few layout image past control turns old new lp context outcome regs c in omega arith) c.h.reached.breaks;
      }) (gives p) refl (let e = p.ends in e.0)
    where
      keeps : Keeps control (record control { now = Some next }) turns
      keeps = record {
        count = refl;
        rest = refl;
        fresh = c.h.laws.fresh;
        going = λ live. ap (λ b. not (is_live control.phase) || b) (ap (is_last control.stack) c.now ∙ last_none control.stack context no_last ∙ sym (last_none control.stack next no_last_next)) ∙ live;
      }

-- ---- The end of the probes

-- while a cluster is asked for, the oldest context is the guard
bottom_context : (layout : Layout) (asked : ℕ) (context : Context) → ContextFits layout (Asked asked) 0 context → context ≡ Guard
bottom_context layout asked Program h = absurd (let e : Asked asked ≡ Running = h.1 in cc)
bottom_context layout asked (Leave b a) h = absurd (let e : Asked asked ≡ Running = h.1 in cc)
bottom_context layout asked (Enter k v) h = absurd (let e : false ≡ true = h.2 refl in cc)
bottom_context layout asked (Probe i) h = absurd (omega arith)
bottom_context layout asked Finish h = absurd (omega arith)
bottom_context layout asked Guard h = refl

guard_ends : (layout : Layout) (phase : Phase) (queue : List ℕ) (reason : Reason) → ReasonFits layout phase queue Guard reason → ends_by reason ≡ false
guard_ends layout phase queue Interrupted h = refl
guard_ends layout phase queue Cleared h = refl
guard_ends layout phase queue (Faulted t) h = refl
guard_ends layout phase queue (Raised v) h = absurd (let e : Guard ≡ Program = h in cc)
guard_ends layout phase queue Denied h = absurd (let e : Guard ≡ Program = h in cc)
guard_ends layout phase queue Broke h = absurd (let e : Guard ≡ Program = h in cc)
guard_ends layout phase queue (Missed n) h = absurd (let e : Guard ≡ Program = h.0 in cc)

module _ (layout : Layout) (image : List ℕ) (past : History) (control : Control) (turns : List ProgramTurn) (old new : State) (lp : Lp) (outcome : RtTurn) (regs : Regs)
    (c : Case layout image past control turns old new lp Finish outcome regs) (all : ℕ) (r : Reads) (same : r.queue ≡ control.queue) (asked : ℕ) (is_asked : control.phase ≡ Asked asked)
    (saved : Saved) (one : control.stack ≡ saved ∷ []) (frame_is : r.kept.regs ≡ c.h.bytes.flat.regs) (words : AreRegs r.kept.regs) where
  -- the control state after it
  abbrev ready : Control
  ready = record control { stack = program_at_bottom control.stack; queue = control.queue ++ asked ∷ []; phase = Running; now = None }

  saved_fits : StackFits layout (Asked asked) control.queue (saved ∷ [])
  saved_fits = subst (StackFits layout (Asked asked) control.queue) one (subst (λ p. StackFits layout p control.queue control.stack) is_asked c.h.laws.orderly.stack)

  live_before : has_ended control ≡ false
  live_before =
      let own = saved_fits.0 in
      let is = bottom_context layout asked saved.context own.context in
      ended_at control (Asked asked) (saved ∷ []) control.now is_asked one refl
      ∙ ap (λ b. b || is_last_call (Some saved.context)) (guard_ends layout (Asked asked) control.queue saved.reason (subst (λ x. ReasonFits layout (Asked asked) control.queue x saved.reason) is own.reason))
      ∙ ap (λ x. is_last_call (Some x)) is

  area_held : c.holds (ssa_page layout 0) ≡ true
  area_held = let f = found_all layout image past control turns old new lp Finish outcome regs c in f.2.2.1

  bottom : program_at_bottom control.stack ≡ record { context = Program; reason = Cleared } ∷ []
  bottom = ap program_at_bottom one

  -- the cluster is in, and the program is to be resumed
  pub finishes : Performs layout (finish_row r (Asked asked)) c.before c.after outcome regs → Comes layout image past control turns old new lp Finish outcome regs c all outcome
  finishes p = leaves_by layout image past control turns old new lp Finish outcome regs c all ready
      (record { count = refl; rest = refl; fresh = tt; going = λ live. live_before })
      Exit.Ready refl refl refl (λ later. ap (finish (with_rest control later)) is_asked)
      (record {
        flat = c.h.bytes.flat;
        program = subst (λ o. IsAtBy o layout image control.returned control.count c.h.bytes.flat)
            (owing_at control (Asked asked) control.stack control.now is_asked refl refl ∙ sym (owing_at ready Running (record { context = Program; reason = Cleared } ∷ []) None refl bottom refl)) c.h.bytes.program;
        pages = pages_by layout past c.holds c.before c.after old new c.writes (finish_row r (Asked asked)) outcome regs p control.phase Running control.queue (control.queue ++ asked ∷ []) c.h.bytes.flat
            control.stack (program_at_bottom control.stack) control.pending (ap length bottom ∙ sym (ap length one)) c.h.bytes.pages
            (state_set layout image past control turns old new lp Finish outcome regs c Running (control.queue ++ asked ∷ []) (kept_bytes r.state) c.h.bytes.flat
            (subst (λ q. HasState Running (q ++ asked ∷ []) (kept_bytes r.state) (c.after (state_page layout))) same p.state) tt)
            (subst (AreasStand layout Running (control.queue ++ asked ∷ []) c.h.bytes.flat (copies_at layout past new)) (sym bottom) (area, tt));
        breaks = subst (BreaksStand layout (runs_at layout image ready) turns (copies_at layout past new)) (sym bottom) (tt, tt);
      }) refl p.ends
    where
      area : OfCopy (copies_at layout past new (ssa_page layout 0)) (IsArea layout Running (control.queue ++ asked ∷ []) c.h.bytes.flat (record { context = Program; reason = Cleared }))
      area = new_copy layout past c.holds c.before c.after old new c.writes (ssa_page layout 0)
          (IsArea layout Running (control.queue ++ asked ∷ []) c.h.bytes.flat (record { context = Program; reason = Cleared })) area_held
          (record { frame = record r.kept { cause = NoCause }; stored = let a = p.areas in a.0; fits = record { words = words; cause = tt }; noted = refl; registers = frame_is })
