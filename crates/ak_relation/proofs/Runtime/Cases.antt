-- One step whose accesses were all found, at one place: what is known of it, and what each row has from that.
use Rattle.std.proofs.Common.{◌≡◌, ℕ, ◌<◌, ◌≤◌, List, [], ◌∷◌, ◌++◌, length, arith, refl, ap, sym, ◌∙◌, subst}
use Rattle.std.specs.Prelude.{Bool, true, false, ◌||◌, not, Some, None}
use Rattle.ak_core.specs.Layout.{Layout}
use Rattle.ak_core.specs.Mem.{Access}
use Rattle.ak_core.specs.declared.page.Lp.{Lp}
use Rattle.ak_core.specs.declared.event.Event.{Event}
use Rattle.ak_core.specs.declared.event.StopCause.{StopCause}
use Rattle.ak_core.specs.declared.moves.Move.TheVariants.{Run}
use Rattle.ak_core.specs.declared.moves.Exit.{Exit}
use Rattle.ak_core.specs.declared.moves.Answer.{Answer}
use Rattle.ak_core.specs.declared.registers.Regs.{Regs}
use Rattle.ak_model.specs.Paging.Pages.{ssa_page, state_page}
use Rattle.ak_model.specs.Paging.Histories.{History, Exits, change}
use Rattle.ak_model.specs.Paging.Inside.{since}
use Rattle.ak_model.specs.Flat.FlatRuns.{Flat}
use Rattle.ak_model.specs.Control.ControlState.{Phase, Context, Saved, Control, first_cause}
use Rattle.ak_model.specs.Control.RuntimeTurn.{accesses, effect, leave}
use Rattle.ak_model.specs.Tapes.ProgramTurns.{ProgramTurn}
use Rattle.ak_model.specs.Laws.Orderly.{ContextFits, NowFits, is_live}
use Rattle.ak_model.proofs.Control.OrderlySteps.{ClustersFit}
use Rattle.ak_ssa.specs.FramesFit.{HasRoom}
use Rattle.ak_relation.specs.State.MachineState.{State}
use Rattle.ak_pager.specs.RuntimePages.{OfCopy, IsState}
use Rattle.ak_pager.specs.Contexts.{Gives}
use Rattle.ak_model.specs.Laws.OwedAnswers.{owing_running}
use Rattle.ak_relation.specs.Program.FlatPlaces.{IsAtBy}
use Rattle.ak_relation.specs.Bytes.Pages.{CopiesStand}
use Rattle.ak_relation.specs.Program.Turns.{is_last, is_last_call}
use Rattle.ak_relation.specs.Relation.Stands.{copies_at, Stands}
use Rattle.ak_pager.specs.Rows.{Row, leaving}
use Rattle.ak_pager.specs.StepsTo.{HasState, Performs}
use Rattle.ak_pager.specs.declared.turn.RtTurn.{RtTurn}
use Rattle.ak_relation.specs.Premises.Works.{IsStep, AreFound, Writes, KeepsTables, Ends, exit_of, named_by, CauseIs}
use Rattle.ak_relation.specs.Relation.Does.{with_rest, turn_to, TurnFollows, past_after, at_moment, GoesTo}
use Rattle.ak_model.proofs.Tapes.Calls.{other_now}
use Rattle.ak_relation.proofs.Exits.Interrupted.{few_saved}
use Rattle.ak_relation.proofs.Runtime.RowPages.{FrameIs, state_said, same_copy, new_copy, areas_stay, breaks_stay, pages_by}
use Rattle.ak_relation.proofs.Runtime.StepTurns.{works}
use Rattle.ak_relation.proofs.Runtime.StepLaws.{Keeps}
use Rattle.ak_relation.proofs.Runtime.RowTurns.{RowBytes, row_goes, row_leaves}

-- a step at a place: all its accesses were found, and the machine shows this outcome
pub record Case (layout : Layout) (image : List ℕ) (past : History) (control : Control) (turns : List ProgramTurn) (old new : State) (lp : Lp) (context : Context) (outcome : RtTurn) (regs : Regs) : Type 0 where
  pub fit : ClustersFit layout
  pub room : HasRoom layout
  pub place : ℕ
  pub h : Stands layout image (at_moment past control turns old)
  pub is : since past lp.0 ≡ Some place
  pub step : IsStep context
  pub now : control.now ≡ Some context
  pub holds : ℕ → Bool
  pub before : ℕ → List ℕ
  pub after : ℕ → List ℕ
  pub granted : List Access
  pub found : AreFound layout past holds granted
  pub accessed : granted ≡ accesses layout control context
  pub writes : Writes layout past holds before after old new
  pub kept : KeepsTables layout past old new
  pub ends : Ends lp.0 outcome regs old new

-- a context that is no last call is not the program's last
pub last_none : (stack : List Saved) (context : Context) → is_last_call (Some context) ≡ false → is_last stack (Some context) ≡ is_last stack None
last_none [] context e = e
last_none (saved ∷ []) context e = refl
last_none (saved ∷ next ∷ older) context e = last_none (next ∷ older) context e

module _ (layout : Layout) (image : List ℕ) (past : History) (control : Control) (turns : List ProgramTurn) (old new : State) (lp : Lp) (context : Context) (outcome : RtTurn) (regs : Regs)
    (c : Case layout image past control turns old new lp context outcome regs) where
  -- what the context may be
  pub context_fits : ContextFits layout control.phase (length control.stack) context
  context_fits = subst (NowFits layout control.phase control.stack) c.now c.h.laws.orderly.now

  -- two contexts are saved at most
  pub few : length control.stack ≤ 2
  few = few_saved layout control.phase (length control.stack) context context_fits

  -- all accesses of the step were found
  pub found_all : AreFound layout past c.holds (accesses layout control context)
  found_all = subst (AreFound layout past c.holds) c.accessed c.found

  -- STATE is held
  pub state_held : c.holds (state_page layout) ≡ true
  state_held = let f = found_all in f.2.1

  -- STATE's copy, where the row sets it
  pub state_set : (phase : Phase) (queue frame : List ℕ) (flat : Flat) → HasState phase queue frame (c.after (state_page layout)) → FrameIs layout phase flat frame →
      OfCopy (copies_at layout past new (state_page layout)) (IsState layout phase queue flat)
  state_set phase queue frame flat s f =
      new_copy layout past c.holds c.before c.after old new c.writes (state_page layout) (IsState layout phase queue flat) state_held (state_said layout phase flat queue frame (c.after (state_page layout)) s f)

  -- what the step comes to
  abbrev pub Comes : ℕ → RtTurn → Type 0
  Comes all o = (g : GoesTo layout image (TurnFollows layout lp.0 past (exit_of layout o)) (at_moment past control turns old) (past_after past lp.0 all (exit_of layout o)) new None) × CauseIs control o g.control.cause

  module _ (all : ℕ) (next : Control) (keeps : Keeps control next turns) where
    -- the row goes on, or leaves with this exit
    pub goes_by : (context_next : Context) → next.now ≡ Some context_next → (more : List ℕ) → control.returned ++ more ≡ next.returned → next.stack ≡ control.stack →
        ((later : List Event) → effect layout (with_rest control later) context ≡ turn_to None (with_rest next later)) → (b : RowBytes layout image past turns new next) →
        Gives layout next.phase b.flat context_next regs → next.cause ≡ control.cause → outcome ≡ RtTurn.Go → Comes all outcome
    goes_by context_next is_next more grown same effects b gives cause_is went =
        subst (λ o. Ends lp.0 o regs old new → Comes all o) (sym went)
        (λ g. let s = row_goes layout c.fit image past control turns old new lp c.place all context c.h c.is c.step c.now next keeps c.kept regs g context_next is_next more grown same
        (λ later. works layout past lp.0 control context c.step c.now c.holds c.granted c.found c.accessed later ∙ effects later) b gives in (s.0, s.1 ∙ cause_is)) c.ends

    pub leaves_by : (exit : Exit) → change (Run lp all) (Answer.Exit exit) ≡ Exits lp.0 exit → next.now ≡ None → control.returned ≡ next.returned →
        ((later : List Event) → effect layout (with_rest control later) context ≡ turn_to (Some exit) (with_rest next later)) → RowBytes layout image past turns new next → next.cause ≡ control.cause →
        outcome ≡ RtTurn.Leave exit → Comes all outcome
    leaves_by exit e none same effects b cause_is left =
        subst (λ o. Ends lp.0 o regs old new → Comes all o) (sym left)
        (λ q. let s = row_leaves layout c.fit image past control turns old new lp c.place all context c.h c.is c.step c.now next keeps c.kept q exit e none same
        (λ later. works layout past lp.0 control context c.step c.now c.holds c.granted c.found c.accessed later ∙ effects later) b in (s.0, s.1 ∙ cause_is)) c.ends

    -- or the enclave dies
    pub dies_by : (cause : StopCause) → next.now ≡ None → control.returned ≡ next.returned →
        ((later : List Event) → effect layout (with_rest control later) context ≡ turn_to (Some Exit.Stopped) (with_rest next later)) → RowBytes layout image past turns new next → next.cause ≡ first_cause control.cause (named_by cause) →
        outcome ≡ RtTurn.Dead cause → Comes all outcome
    dies_by cause none same effects b cause_is died =
        subst (λ o. Ends lp.0 o regs old new → Comes all o) (sym died)
        (λ q. let s = row_leaves layout c.fit image past control turns old new lp c.place all context c.h c.is c.step c.now next keeps c.kept q Exit.Stopped refl none same
        (λ later. works layout past lp.0 control context c.step c.now c.holds c.granted c.found c.accessed later ∙ effects later) b in (s.0, s.1 ∙ cause_is)) c.ends

  -- ---- The row that only leaves

  -- the control state, with nobody inside
  abbrev pub away : Control
  away = record control { now = None }

  -- the copies of STATE and of the areas stay where the row leaves them
  pub kept_pages : (row : Row) → Performs layout row c.before c.after outcome regs → c.after (state_page layout) ≡ c.before (state_page layout) →
      ((i : ℕ) → i < 3 → c.after (ssa_page layout i) ≡ c.before (ssa_page layout i)) →
      CopiesStand layout control.phase control.queue control.stack control.pending c.h.bytes.flat (copies_at layout past new)
  kept_pages row p s a =
      pages_by layout past c.holds c.before c.after old new c.writes row outcome regs p control.phase control.phase control.queue control.queue c.h.bytes.flat control.stack control.stack control.pending refl
      c.h.bytes.pages
      (subst (λ o. OfCopy o (IsState layout control.phase control.queue c.h.bytes.flat)) (sym (same_copy layout past c.holds c.before c.after old new c.writes (state_page layout) s)) c.h.bytes.pages.state)
      (areas_stay layout past c.holds c.before c.after old new c.writes control.phase control.queue c.h.bytes.flat a control.stack (let l = few in omega arith) c.h.bytes.pages.areas)

  pub exits : (all : ℕ) (exit : Exit) → change (Run lp all) (Answer.Exit exit) ≡ Exits lp.0 exit → is_last_call (Some context) ≡ false → owing_running (Some context) ≡ owing_running None →
      ((later : List Event) → effect layout (with_rest control later) context ≡ leave exit (with_rest control later)) → Performs layout (leaving exit) c.before c.after outcome regs → Comes all outcome
  exits all exit e no_last no_call effects p =
      leaves_by all away keeps exit e refl refl effects (record {
        flat = c.h.bytes.flat;
        program = subst (λ o. IsAtBy o layout image control.returned control.count c.h.bytes.flat)
            (other_now control.phase control.stack control.now None (ap owing_running c.now ∙ no_call) refl) c.h.bytes.program;
        pages = kept_pages (leaving exit) p p.state p.areas;
        breaks = breaks_stay layout past c.holds c.before c.after old new c.writes _ turns p.areas control.stack (let l = few in omega arith) c.h.reached.breaks;
      }) refl p.ends
    where
      keeps : Keeps control away turns
      keeps = record {
        count = refl;
        rest = refl;
        fresh = c.h.laws.fresh;
        going = λ live. ap (λ b. not (is_live control.phase) || b) (ap (is_last control.stack) c.now ∙ last_none control.stack context no_last) ∙ live;
      }
