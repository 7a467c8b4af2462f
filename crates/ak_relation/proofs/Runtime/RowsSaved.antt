-- Entries with something saved: what was noted of the exit decides, and gives the reason that the control state has.
use Rattle.std.proofs.Common.{◌≡◌, ℕ, ◌<◌, List, [], ◌∷◌, arith, refl, ap, ◌∙◌, subst, sym}
use Rattle.std.proofs.lemmas.Bool.{ltb-true}
use Rattle.std.specs.Prelude.{Bool, true, false, nat_lt, if◌then◌else◌}
use Rattle.ak_core.specs.Layout.{Layout}
use Rattle.ak_core.specs.Mem.{Access}
use Rattle.ak_core.specs.declared.page.Lp.{Lp}
use Rattle.ak_core.specs.declared.event.Event.{Event}
use Rattle.ak_core.specs.declared.event.StopCause.TheVariants.{Unmapped, RuntimeUnmapped, FetchNotHonoured}
use Rattle.ak_core.specs.declared.moves.Exit.{Exit}
use Rattle.ak_core.specs.declared.registers.Mode.{Mode}
use Rattle.ak_core.specs.declared.registers.Regs.{Regs}
use Rattle.ak_model.specs.Paging.Pages.{pages, ssa_page}
use Rattle.ak_model.specs.Paging.Histories.{History}
use Rattle.ak_model.specs.Control.ControlState.{Phase, Context, Program, Enter, Probe, Finish, Guard, Leave, Reason, Interrupted, Cleared, Raised, Denied, Missed, Broke, Faulted, Saved, ByBreak, Named, Control}
use Rattle.ak_model.specs.Control.RuntimeTurn.{effect, handle, nested_cause}
use Rattle.ak_model.specs.Tapes.ProgramTurns.{ProgramTurn}
use Rattle.ak_model.specs.Laws.Orderly.{ContextFits, FaultFits, SavedFits}
use Rattle.ak_ssa.specs.SavedFrames.{area_place, HasFrame}
use Rattle.ak_ssa.specs.FramesFit.{FrameFits}
use Rattle.ak_relation.specs.State.MachineState.{State}
use Rattle.ak_pager.specs.Contexts.{Gives, reason_for, IsNoted, IsByPage}
use Rattle.ak_model.specs.Laws.OwedAnswers.{owing}
use Rattle.ak_pager.specs.Rows.{Row, Reads, area_bytes, second_cause, program_row, mode_row, saved_row}
use Rattle.ak_pager.specs.StepsTo.{Performs}
use Rattle.ak_pager.specs.declared.turn.RtTurn.{RtTurn}
use Rattle.ak_relation.specs.Premises.Works.{IsStep, named_by}
use Rattle.ak_relation.specs.Relation.Does.{with_rest}
use Rattle.ak_relation.proofs.Runtime.Allowed.{at_regs, step_mode}
use Rattle.ak_relation.proofs.Runtime.Cases.{Case, Comes, exits}
use Rattle.ak_relation.proofs.Runtime.Guards.{traps, asks, dies_one, dies_two}

-- a context that faulted is a step
fault_step : (layout : Layout) (phase : Phase) (context : Context) (t : Access) → FaultFits layout phase context t → IsStep context
fault_step layout phase Program t h = absurd h
fault_step layout phase (Enter k v) t h = tt
fault_step layout phase (Probe i) t h = tt
fault_step layout phase Finish t h = tt
fault_step layout phase Guard t h = tt
fault_step layout phase (Leave b a) t h = tt

-- the access that was noted is the one at which the step faulted
faulted_is : (layout : Layout) (queue : List ℕ) (context : Context) (noted t : Access) → IsStep context → reason_for layout queue context noted ≡ Faulted t → noted ≡ t
faulted_is layout queue Program noted t s e = absurd s
faulted_is layout queue (Enter k v) noted t s e = cc
faulted_is layout queue (Probe i) noted t s e = cc
faulted_is layout queue Finish noted t s e = cc
faulted_is layout queue Guard noted t s e = cc
faulted_is layout queue (Leave b a) noted t s e = cc

-- only a probe accesses a page of the program
own_is : (layout : Layout) (t : Access) (b : Bool) → nat_lt t.page.0 (pages layout) ≡ b → pages layout < t.page.0 →
    Named (RuntimeUnmapped t.page t.kind) ≡ named_by (if b then FetchNotHonoured t.page t.kind else RuntimeUnmapped t.page t.kind)
own_is layout t true e h = let l = ltb-true t.page.0 (pages layout) e in absurd (omega arith)
own_is layout t false e h = refl

probed_is : (t : Access) (b : Bool) → Named (if b then FetchNotHonoured t.page t.kind else RuntimeUnmapped t.page t.kind) ≡ named_by (if b then FetchNotHonoured t.page t.kind else RuntimeUnmapped t.page t.kind)
probed_is t true = refl
probed_is t false = refl

nested_is : (layout : Layout) (phase : Phase) (context : Context) (t : Access) → FaultFits layout phase context t → Named (nested_cause layout context t) ≡ named_by (second_cause layout t)
nested_is layout phase Program t h = absurd h
nested_is layout phase (Probe i) t h = probed_is t (nat_lt t.page.0 (pages layout))
nested_is layout phase (Enter k v) t h = own_is layout t (nat_lt t.page.0 (pages layout)) refl h.0
nested_is layout phase Finish t h = own_is layout t (nat_lt t.page.0 (pages layout)) refl h.0
nested_is layout phase Guard t h = own_is layout t (nat_lt t.page.0 (pages layout)) refl h.0
nested_is layout phase (Leave b a) t h = own_is layout t (nat_lt t.page.0 (pages layout)) refl h.0

-- the program's mode
program_mode : (layout : Layout) (image : List ℕ) (past : History) (control : Control) (turns : List ProgramTurn) (old new : State) (lp : Lp) (context : Context) (outcome : RtTurn) (regs : Regs) →
    (c : Case layout image past control turns old new lp context outcome regs) → (saved : Regs) → saved ≡ c.h.bytes.flat.regs → saved.mode ≡ Mode.Program
program_mode layout image past control turns old new lp context outcome regs c saved e =
    let fits = at_regs layout image control.returned control.count c.h.bytes.flat (owing control) c.h.bytes.program in ap (λ x. x.mode) e ∙ fits.1

module _ (layout : Layout) (image : List ℕ) (past : History) (control : Control) (turns : List ProgramTurn) (old new : State) (lp : Lp) (v : ℕ) (outcome : RtTurn) (regs : Regs)
    (c : Case layout image past control turns old new lp (Enter 1 v) outcome regs) (all : ℕ) (r : Reads) (same : r.queue ≡ control.queue) (first : r.first ≡ c.before (ssa_page layout 0))
    (stored : HasFrame layout area_place (c.before (ssa_page layout 0)) r.saved) (fitting : FrameFits layout r.saved) where
  -- what the row comes to
  abbrev Done : Type 0
  Done = Comes layout image past control turns old new lp (Enter 1 v) outcome regs c all outcome

  -- the row was shown
  abbrev Shown : Row → Type 0
  Shown row = Performs layout row c.before c.after outcome regs

  -- the effect, whatever comes later
  abbrev Handles : List Saved → Type 0
  Handles stack = (later : List Event) → effect layout (with_rest control later) (Enter 1 v) ≡ handle layout (with_rest control later) 1 stack

  -- the row of a page fault of the program, by its reason
  shown_program : (inner : Context) (reason : Reason) → inner ≡ Program → IsByPage layout control.queue inner reason r.saved.cause → Gives layout control.phase c.h.bytes.flat inner r.saved.regs →
      Shown (saved_row layout r 1 r.saved.cause) → (t : Access) × Shown (program_row layout r t reason)
  shown_program inner reason program noted gives p =
      let frame : r.saved.regs ≡ c.h.bytes.flat.regs = subst (λ x. Gives layout control.phase c.h.bytes.flat x r.saved.regs) program gives in
      let mode = program_mode layout image past control turns old new lp (Enter 1 v) outcome regs c r.saved.regs frame in
      let by = subst (λ x. reason_for layout control.queue x noted.access ≡ reason) program noted.gives in (
        noted.access,
        subst Shown (ap (saved_row layout r 1) noted.noted ∙ ap (mode_row layout r noted.access) mode
            ∙ ap (λ q. program_row layout r noted.access (reason_for layout q Program noted.access)) same ∙ ap (program_row layout r noted.access) by) p,
      )

  one_by : (inner : Context) (reason : Reason) → control.stack ≡ record { context = inner; reason = reason } ∷ [] → SavedFits layout control.phase control.queue 0 (record { context = inner; reason = reason }) →
      IsNoted layout control.queue inner reason r.saved.cause → Gives layout control.phase c.h.bytes.flat inner r.saved.regs → Handles (record { context = inner; reason = reason } ∷ []) →
      Shown (saved_row layout r 1 r.saved.cause) → Done
  one_by inner Interrupted e fits noted gives effects p =
      exits layout image past control turns old new lp (Enter 1 v) outcome regs c all Exit.Nothing refl refl refl effects (subst (λ x. Shown (saved_row layout r 1 x)) noted p)
  one_by inner Cleared e fits noted gives effects p =
      exits layout image past control turns old new lp (Enter 1 v) outcome regs c all Exit.Nothing refl refl refl effects (subst (λ x. Shown (saved_row layout r 1 x)) noted p)
  one_by inner (Raised x) e fits noted gives effects p =
      let is = subst (ContextFits layout control.phase 0) fits.reason fits.context in
      traps layout image past control turns old new lp v outcome regs c all r same _ e fits.reason is.1 x effects (subst (λ y. Shown (saved_row layout r 1 y)) noted.0 p)
  one_by inner Denied e fits noted gives effects p =
      let is = subst (ContextFits layout control.phase 0) fits.reason fits.context in
      let q = shown_program inner Denied fits.reason noted gives p in
      traps layout image past control turns old new lp v outcome regs c all r same _ e fits.reason is.1 14 effects q.1
  one_by inner Broke e fits noted gives effects p =
      let q = shown_program inner Broke fits.reason noted gives p in
      dies_one layout image past control turns old new lp v outcome regs c all r same _ e (Unmapped q.0.page q.0.kind) ByBreak refl effects q.1
  one_by inner (Missed n) e fits noted gives effects p =
      let why = fits.reason in
      let is = subst (ContextFits layout control.phase 0) why.0 fits.context in
      let q = shown_program inner (Missed n) why.0 noted gives p in
      asks layout image past control turns old new lp v outcome regs c all r same _ e why.0 is.1 n r.saved refl
      (ap area_bytes first ∙ stored) (subst (λ x. Gives layout control.phase c.h.bytes.flat x r.saved.regs) why.0 gives) fitting.words effects q.1
  one_by inner (Faulted t) e fits noted gives effects p =
      let mode = step_mode layout control.phase c.h.bytes.flat inner r.saved.regs (fault_step layout control.phase inner t fits.reason) gives in
      dies_one layout image past control turns old new lp v outcome regs c all r same _ e (RuntimeUnmapped noted.access.page noted.access.kind) (Named (RuntimeUnmapped t.page t.kind))
      (ap (λ (x : Access). Named (RuntimeUnmapped x.page x.kind)) (sym (faulted_is layout control.queue inner noted.access t (fault_step layout control.phase inner t fits.reason) noted.gives))) effects
      (subst Shown (ap (saved_row layout r 1) noted.noted ∙ ap (mode_row layout r noted.access) mode) p)

  -- an entry with one context saved
  pub one_saved : (saved : Saved) → control.stack ≡ saved ∷ [] → SavedFits layout control.phase control.queue 0 saved → IsNoted layout control.queue saved.context saved.reason r.saved.cause →
      Gives layout control.phase c.h.bytes.flat saved.context r.saved.regs → Handles control.stack → Shown (saved_row layout r 1 r.saved.cause) → Done
  one_saved saved e fits noted gives effects p =
      one_by saved.context saved.reason e fits noted gives (λ later. effects later ∙ ap (handle layout (with_rest control later) 1) e) p

module _ (layout : Layout) (image : List ℕ) (past : History) (control : Control) (turns : List ProgramTurn) (old new : State) (lp : Lp) (v : ℕ) (outcome : RtTurn) (regs : Regs)
    (c : Case layout image past control turns old new lp (Enter 2 v) outcome regs) (all : ℕ) (r : Reads) (same : r.queue ≡ control.queue) (below : Saved) where
  -- what the row comes to
  abbrev DoneTwo : Type 0
  DoneTwo = Comes layout image past control turns old new lp (Enter 2 v) outcome regs c all outcome

  -- the row was shown
  abbrev ShownTwo : Row → Type 0
  ShownTwo row = Performs layout row c.before c.after outcome regs

  -- the effect, whatever comes later
  abbrev HandlesTwo : List Saved → Type 0
  HandlesTwo stack = (later : List Event) → effect layout (with_rest control later) (Enter 2 v) ≡ handle layout (with_rest control later) 2 stack

  -- the program stands alone
  deeper : (inner : Context) → inner ≡ Program → ContextFits layout control.phase 1 inner → ⊥
  deeper inner e h = let fits = subst (ContextFits layout control.phase 1) e h in absurd (let z = fits.0 in omega arith)

  two_by : (inner : Context) (reason : Reason) → control.stack ≡ record { context = inner; reason = reason } ∷ below ∷ [] → SavedFits layout control.phase control.queue 1 (record { context = inner; reason = reason }) →
      IsNoted layout control.queue inner reason r.saved.cause → HandlesTwo (record { context = inner; reason = reason } ∷ below ∷ []) → ShownTwo (saved_row layout r 2 r.saved.cause) → DoneTwo
  two_by inner Interrupted e fits noted effects p =
      exits layout image past control turns old new lp (Enter 2 v) outcome regs c all Exit.Nothing refl refl refl effects (subst (λ x. ShownTwo (saved_row layout r 2 x)) noted p)
  two_by inner Cleared e fits noted effects p =
      exits layout image past control turns old new lp (Enter 2 v) outcome regs c all Exit.Nothing refl refl refl effects (subst (λ x. ShownTwo (saved_row layout r 2 x)) noted p)
  two_by inner (Raised x) e fits noted effects p = absurd (deeper inner fits.reason fits.context)
  two_by inner Denied e fits noted effects p = absurd (deeper inner fits.reason fits.context)
  two_by inner Broke e fits noted effects p = absurd (deeper inner fits.reason fits.context)
  two_by inner (Missed n) e fits noted effects p = absurd (let why = fits.reason in deeper inner why.0 fits.context)
  two_by inner (Faulted t) e fits noted effects p =
      dies_two layout image past control turns old new lp v outcome regs c all r same _ below e (second_cause layout noted.access) (Named (nested_cause layout inner t))
      (nested_is layout control.phase inner t fits.reason ∙ ap (λ x. named_by (second_cause layout x)) (sym (faulted_is layout control.queue inner noted.access t (fault_step layout control.phase inner t fits.reason) noted.gives))) effects
      (subst ShownTwo (ap (saved_row layout r 2) noted.noted) p)

  -- an entry with two contexts saved
  pub two_saved : (saved : Saved) → control.stack ≡ saved ∷ below ∷ [] → SavedFits layout control.phase control.queue 1 saved → IsNoted layout control.queue saved.context saved.reason r.saved.cause →
      HandlesTwo control.stack → ShownTwo (saved_row layout r 2 r.saved.cause) → DoneTwo
  two_saved saved e fits noted effects p =
      two_by saved.context saved.reason e fits noted (λ later. effects later ∙ ap (handle layout (with_rest control later) 2) e) p
