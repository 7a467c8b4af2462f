-- Steps at the place of the probes: a probe, by what was found, or their end.
use Rattle.std.proofs.Common.{◌≡◌, ℕ, suc, ◌+◌, List, [], ◌∷◌, ◌++◌, length, refl, ap, sym, ◌∙◌, subst, arith}
use Rattle.std.specs.Prelude.{Bool, true, false, Option, Some, None, slice_get, slice_index}
use Rattle.ak_core.specs.Layout.{Layout, IsValid}
use Rattle.ak_core.specs.Mem.{Access, access_to}
use Rattle.ak_core.specs.declared.page.Kind.TheVariants.{Write}
use Rattle.ak_core.specs.declared.registers.Regs.{Regs}
use Rattle.ak_model.specs.Paging.Pages.{pages_of, ssa_page, state_page, strong_kind}
use Rattle.ak_model.specs.Flat.FlatRuns.{Flat}
use Rattle.ak_model.specs.Flat.Instructions.{reg_of, rcx}
use Rattle.ak_model.specs.Control.ControlState.{Phase, Asked, Context, Probe, Finish, Control, is_asked}
use Rattle.ak_model.specs.Control.RuntimeTurn.{asked_pages, probed}
use Rattle.ak_ssa.specs.SavedFrames.{SavedFrame, area_place, HasFrame}
use Rattle.ak_ssa.specs.FramesFit.{FrameFits}
use Rattle.ak_pager.specs.declared.state.Phase.{Phase as CodePhase}
use Rattle.ak_pager.specs.declared.turn.RtTurn.{RtTurn}
use Rattle.ak_pager.specs.Contexts.{IsAtStep, step_address}
use Rattle.ak_pager.specs.Rows.{Reads, finish_row}
use Rattle.ak_pager.specs.StepsTo.{memory_of, MayStep, Performs, reads_of, StepsTo}
use Rattle.ak_pager.specs.Remembered.{SaysPhase, phase_of}
use Rattle.ak_pager.specs.Effects.{AreReads, SomeStep, StepsAlways, first_accesses}
use Rattle.ak_pager.proofs.StepContexts.{at_probe}
use Rattle.ak_pager.proofs.StepReads.{reads, some_reads}
use Rattle.ak_pager.proofs.StepsDone.{steps_done, steps_faulted}
use Rattle.ak_pager.proofs.Probed.{none_past, some_within, some_is}

-- a phase in which nothing is asked for
not_asked : (layout : Layout) (read : CodePhase) → ((x : ℕ) → read ≡ CodePhase.Asked x → ⊥) → (asked_pages layout (phase_of read) ≡ []) × (is_asked (phase_of read) ≡ false)
not_asked layout CodePhase.New other = (refl, refl)
not_asked layout CodePhase.Running other = (refl, refl)
not_asked layout CodePhase.Calling other = (refl, refl)
not_asked layout (CodePhase.Asked x) other = absurd (other x refl)
not_asked layout (CodePhase.Ended s) other = (refl, refl)
not_asked layout (CodePhase.Trapped v) other = (refl, refl)
not_asked layout CodePhase.Dead other = (refl, refl)

module _ (layout : Layout) (valid : IsValid layout) (regs : Regs) (holds : ℕ → Bool) (old : ℕ → List ℕ) (held : holds (state_page layout) ≡ true) (at : regs.rip ≡ step_address layout 48)
    (read : CodePhase) (is_read : (phase : Phase) → SaysPhase phase (old (state_page layout)) → phase_of read ≡ phase) where
  -- the phase that was read
  pub phase_is : (control : Control) (context : Context) (flat : Flat) → MayStep layout control context flat regs (memory_of holds old) → phase_of read ≡ control.phase
  phase_is control context flat may =
      let its = some_reads layout valid control context flat regs holds old may held in
      let says = its.1 in
      is_read control.phase (subst (λ (p : Phase). SaysPhase p (old (state_page layout))) its.2 says.phase)

  module _ (new : ℕ → List ℕ) (granted : List Access) (refused : Option Access) (turn : RtTurn) (after : Regs) where
    abbrev Step : Control → Context → Type 0
    Step control context = StepsTo layout control context regs old new granted refused turn after

    abbrev At : Control → Flat → Context → Type 0
    At control flat context = MayStep layout control context flat regs (memory_of holds old) → Step control context

    -- nothing is asked for, so there is no such step
    pub none_asked : ((x : ℕ) → read ≡ CodePhase.Asked x → ⊥) → StepsAlways layout regs holds old new granted refused turn after
    none_asked other control context flat may =
        let no = not_asked layout read other in
        let is = phase_is control context flat may in
        let no_pages : asked_pages layout control.phase ≡ [] = subst (λ (p : Phase). asked_pages layout p ≡ []) is no.0 in
        let none : is_asked control.phase ≡ false = subst (λ (p : Phase). is_asked p ≡ false) is no.1 in
        at_probe layout control flat regs (At control flat) at
        (λ i has gives its. absurd (let low = has.1 in let empty = ap length no_pages in omega arith))
        (λ has gives its. absurd (let clash : false ≡ true = sym none ∙ has.1 in cc))
        context may.row may.registers may

    module _ (cluster : ℕ) (asked : read ≡ CodePhase.Asked cluster) where
      asked_is : (control : Control) (context : Context) (flat : Flat) → MayStep layout control context flat regs (memory_of holds old) → Asked cluster ≡ control.phase
      asked_is control context flat may = ap phase_of (sym asked) ∙ phase_is control context flat may

      probed_is : (phase : Phase) (i p : ℕ) → Asked cluster ≡ phase → reg_of regs rcx ≡ i → slice_index (pages_of layout cluster) (reg_of regs rcx) ≡ p → access_to p (strong_kind layout p) ≡ probed layout phase i
      probed_is phase i p is number found =
          ap (λ (q : ℕ). access_to q (strong_kind layout q)) (sym found)
          ∙ ap (λ (j : ℕ). probed layout (Asked cluster) j) number
          ∙ ap (λ (x : Phase). probed layout x i) is

      -- a page was found
      pub on_page : (p : ℕ) → slice_get (pages_of layout cluster) (reg_of regs rcx) ≡ Some p →
          ((control : Control) (i : ℕ) → reg_of regs rcx ≡ i → access_to p (strong_kind layout p) ≡ probed layout control.phase i → Step control (Probe i)) →
          StepsAlways layout regs holds old new granted refused turn after
      on_page p found step control context flat may =
          at_probe layout control flat regs (At control flat) at
          (λ i has gives its. step control i gives.1 (probed_is control.phase i p (asked_is control (Probe i) flat its) gives.1 (some_is (pages_of layout cluster) (reg_of regs rcx) p found)))
          (λ has gives its. absurd (
          let low = some_within (pages_of layout cluster) (reg_of regs rcx) p found in
          let count : reg_of regs rcx ≡ length (asked_pages layout control.phase) = gives.1 in
          let same : length (pages_of layout cluster) ≡ length (asked_pages layout control.phase) = ap (λ (x : Phase). length (asked_pages layout x)) (asked_is control Finish flat its) in
          omega arith))
          context may.row may.registers may

      -- or none
      pub on_end : slice_get (pages_of layout cluster) (reg_of regs rcx) ≡ None →
          ((control : Control) (flat : Flat) → Asked cluster ≡ control.phase → MayStep layout control Finish flat regs (memory_of holds old) → Step control Finish) →
          StepsAlways layout regs holds old new granted refused turn after
      on_end found step control context flat may =
          at_probe layout control flat regs (At control flat) at
          (λ i has gives its. absurd (
          let low = has.1 in
          let number : reg_of regs rcx ≡ i = gives.1 in
          let same : length (pages_of layout cluster) ≡ length (asked_pages layout control.phase) = ap (λ (x : Phase). length (asked_pages layout x)) (asked_is control (Probe i) flat its) in
          none_past (pages_of layout cluster) (reg_of regs rcx) found (omega arith)))
          (λ has gives its. step control flat (asked_is control Finish flat its) its)
          context may.row may.registers may

      -- the page's touch was refused
      pub page_faulted : (p : ℕ) → slice_get (pages_of layout cluster) (reg_of regs rcx) ≡ Some p → (f : Access) → refused ≡ Some f → (later : List Access) →
          granted ++ f ∷ later ≡ first_accesses layout ++ access_to p (strong_kind layout p) ∷ [] → new ≡ old → after ≡ regs → turn ≡ RtTurn.Faulted f → StepsAlways layout regs holds old new granted refused turn after
      page_faulted p found f is later all bytes same ends =
          on_page p found (λ control i number access. steps_faulted layout control (Probe i) regs old new granted refused turn after f is later
          (all ∙ ap (λ (t : Access). first_accesses layout ++ t ∷ []) access) bytes same ends)

      -- it was granted
      pub page_probed : (p : ℕ) → slice_get (pages_of layout cluster) (reg_of regs rcx) ≡ Some p → refused ≡ None → granted ≡ first_accesses layout ++ access_to p (strong_kind layout p) ∷ [] → new ≡ old →
          turn ≡ RtTurn.Go → IsAtStep layout after 48 → reg_of after rcx ≡ reg_of regs rcx + 1 → StepsAlways layout regs holds old new granted refused turn after
      page_probed p found none all bytes ends goes_at next =
          on_page p found (λ control i number access. steps_done layout control (Probe i) regs old new granted refused turn after none
          (all ∙ ap (λ (t : Access). first_accesses layout ++ t ∷ []) access)
          (λ kept saved reads_kept reads_saved. record {
            ends = (ends, goes_at, omega arith);
            state = ap (λ f. f (state_page layout)) bytes;
            areas = λ j l. ap (λ f. f (ssa_page layout j)) bytes;
            others = λ q differs area. ap (λ f. f q) bytes;
          }))

      -- the area's touch was refused
      pub end_faulted : slice_get (pages_of layout cluster) (reg_of regs rcx) ≡ None → (f : Access) → refused ≡ Some f → granted ++ f ∷ [] ≡ first_accesses layout ++ access_to (ssa_page layout 0) Write ∷ [] →
          new ≡ old → after ≡ regs → turn ≡ RtTurn.Faulted f → StepsAlways layout regs holds old new granted refused turn after
      end_faulted found f is all bytes same ends =
          on_end found (λ control flat asked_there its. steps_faulted layout control Finish regs old new granted refused turn after f is [] all bytes same ends)

      nothing_saved : (r : SavedFrame) (k : ℕ) → 0 ≡ suc k → HasFrame layout area_place (old (ssa_page layout k)) r × FrameFits layout r
      nothing_saved r k e = absurd (omega arith)

      -- the probes ended
      pub probes_ended : slice_get (pages_of layout cluster) (reg_of regs rcx) ≡ None → refused ≡ None → granted ≡ first_accesses layout ++ access_to (ssa_page layout 0) Write ∷ [] →
          ((r : Reads) (x : Regs) → AreReads layout 0 old r → r.phase ≡ Asked cluster → Performs layout (finish_row r r.phase) old new turn x) →
          StepsAlways layout regs holds old new granted refused turn after
      probes_ended found none all row =
          on_end found (λ control flat asked_there its. steps_done layout control Finish regs old new granted refused turn after none all
          (λ kept saved reads_kept reads_saved. row (reads_of layout control.phase control.queue old kept saved) after
          (reads layout valid control Finish flat regs holds old its held 0 kept saved reads_kept (nothing_saved saved)) (sym asked_there)))

  -- something is read, of that phase
  pub finish_reads : (cluster : ℕ) → read ≡ CodePhase.Asked cluster → SomeStep layout regs holds old → (r : Reads) × AreReads layout 0 old r × (r.phase ≡ Asked cluster)
  finish_reads cluster asked some =
      let its = some_reads layout valid some.0 some.1 some.2 regs holds old some.3 held in
      (its.0, its.1, its.2 ∙ sym (phase_is some.0 some.1 some.2 some.3) ∙ ap phase_of asked)
