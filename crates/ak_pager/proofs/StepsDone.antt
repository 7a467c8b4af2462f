-- From a row that was performed, or an access that was refused, to a step.
use Rattle.std.proofs.Common.{◌≡◌, ℕ, zero, suc, ◌<◌, ◌≤◌, List, [], ◌∷◌, ◌++◌, drop, refl, ap, sym, ◌∙◌, subst, arith}
use Rattle.std.specs.Prelude.{Bool, true, All, Option, Some, None}
use Rattle.ak_core.specs.Layout.{Layout, IsValid}
use Rattle.std.proofs.lemmas.List.Elements.{All-head, All-tail}
use Rattle.ak_core.specs.Mem.{Access, access_to}
use Rattle.ak_core.specs.declared.page.Kind.TheVariants.{Write, Exec}
use Rattle.ak_core.specs.declared.registers.Regs.{Regs}
use Rattle.ak_model.specs.Paging.Pages.{code_page, ssa_page, state_page}
use Rattle.ak_model.specs.Flat.FlatRuns.{Flat}
use Rattle.ak_model.specs.Flat.Instructions.{reg_of, rax, rdi, rsi}
use Rattle.ak_model.specs.Control.ControlState.{Context, Enter, Guard, Leave, Control}
use Rattle.ak_model.specs.Control.RuntimeTurn.{accesses}
use Rattle.ak_model.specs.Laws.StepRows.{HasRow, opens}
use Rattle.ak_ssa.specs.SavedFrames.{SavedFrame, area_place, HasFrame}
use Rattle.ak_ssa.specs.FramesFit.{FrameFits}
use Rattle.ak_pager.specs.declared.turn.RtTurn.{RtTurn}
use Rattle.ak_pager.specs.Contexts.{step_address}
use Rattle.ak_pager.specs.Rows.{Reads, entry_row, guard_row, leave_row}
use Rattle.ak_pager.specs.StepsTo.{memory_of, MayStep, Performs, ReadsSaved, reads_of, WorksBy, StepsTo}
use Rattle.ak_pager.specs.Effects.{AreReads, AreSomeReads, SomeStep, StepsAlways, area_accesses, first_accesses}
use Rattle.ak_pager.proofs.StepContexts.{at_entry, at_guard, at_leave}
use Rattle.ak_pager.proofs.StepReads.{reads, some_reads, some_reads_saved}

-- nothing was refused
pub steps_done : (layout : Layout) (control : Control) (context : Context) (regs : Regs) (old new : ℕ → List ℕ) (granted : List Access) (refused : Option Access) (turn : RtTurn) (after : Regs) →
    refused ≡ None → granted ≡ accesses layout control context → WorksBy layout control context regs old new turn after → StepsTo layout control context regs old new granted refused turn after
steps_done layout control context regs old new granted refused turn after none all works = record {
  works = λ e. (all, works);
  faults = λ t is. absurd (let clash : None ≡ Some t = sym none ∙ is in cc);
}

-- an access was
pub steps_faulted : (layout : Layout) (control : Control) (context : Context) (regs : Regs) (old new : ℕ → List ℕ) (granted : List Access) (refused : Option Access) (turn : RtTurn) (after : Regs) (f : Access) →
    refused ≡ Some f → (later : List Access) → granted ++ f ∷ later ≡ accesses layout control context → new ≡ old → after ≡ regs → turn ≡ RtTurn.Faulted f → StepsTo layout control context regs old new granted refused turn after
steps_faulted layout control context regs old new granted refused turn after f is later all bytes same ends = record {
  works = λ none. absurd (let clash : Some f ≡ None = sym is ∙ none in cc);
  faults = λ t e.
      let same_access : f ≡ t = (let both : Some f ≡ Some t = sym is ∙ e in cc) in
      subst (λ (x : Access). ((rest : List Access) × (granted ++ x ∷ rest ≡ accesses layout control context)) × (new ≡ old) × (after ≡ regs) × (turn ≡ RtTurn.Faulted x)) same_access
      ((later, all), bytes, same, ends);
}

saved_by : (layout : Layout) (old : ℕ → List ℕ) (k v : ℕ) (frame : SavedFrame) → ReadsSaved layout old (Enter k v) frame →
    (j : ℕ) → k ≡ suc j → HasFrame layout area_place (old (ssa_page layout j)) frame × FrameFits layout frame
saved_by layout old zero v frame reads j e = absurd (omega arith)
saved_by layout old (suc k) v frame reads j e =
    let same : k ≡ j = omega arith in subst (λ (n : ℕ). HasFrame layout area_place (old (ssa_page layout n)) frame × FrameFits layout frame) same reads

-- the first touch was refused
pub code_faulted : (layout : Layout) (regs : Regs) (holds : ℕ → Bool) (old new : ℕ → List ℕ) (granted : List Access) (refused : Option Access) (f : Access) → granted ≡ [] → f ≡ access_to (code_page layout) Exec →
    refused ≡ Some f → new ≡ old → StepsAlways layout regs holds old new granted refused (RtTurn.Faulted f) regs
code_faulted layout regs holds old new granted refused f none is refused_is bytes control context flat may =
    steps_faulted layout control context regs old new granted refused (RtTurn.Faulted f) regs f refused_is (drop 1 (accesses layout control context))
    (ap (λ (l : List Access). l ++ f ∷ drop 1 (accesses layout control context)) none ∙ ap (λ (t : Access). t ∷ drop 1 (accesses layout control context)) is) bytes refl refl

-- or the second
pub state_faulted : (layout : Layout) (regs : Regs) (holds : ℕ → Bool) (old new : ℕ → List ℕ) (granted : List Access) (refused : Option Access) (f : Access) → granted ≡ access_to (code_page layout) Exec ∷ [] →
    f ≡ access_to (state_page layout) Write → refused ≡ Some f → new ≡ old → StepsAlways layout regs holds old new granted refused (RtTurn.Faulted f) regs
state_faulted layout regs holds old new granted refused f one is refused_is bytes control context flat may =
    steps_faulted layout control context regs old new granted refused (RtTurn.Faulted f) regs f refused_is (drop 2 (accesses layout control context))
    (ap (λ (l : List Access). l ++ f ∷ drop 2 (accesses layout control context)) one
    ∙ ap (λ (t : Access). access_to (code_page layout) Exec ∷ t ∷ drop 2 (accesses layout control context)) is) bytes refl refl

-- an entry whose touch was refused
pub entry_faulted : (layout : Layout) (regs : Regs) (holds : ℕ → Bool) (old new : ℕ → List ℕ) (granted : List Access) (refused : Option Access) (turn : RtTurn) (after : Regs) (f : Access) →
    regs.rip ≡ step_address layout 0 → refused ≡ Some f → (later : List Access) → granted ++ f ∷ later ≡ first_accesses layout ++ area_accesses layout (reg_of regs rax) → new ≡ old → after ≡ regs →
    turn ≡ RtTurn.Faulted f → StepsAlways layout regs holds old new granted refused turn after
entry_faulted layout regs holds old new granted refused turn after f at is later all bytes same ends control context flat may =
    at_entry layout control flat regs (λ context. MayStep layout control context flat regs (memory_of holds old) → StepsTo layout control context regs old new granted refused turn after) at
    (λ k v has gives its.
    let saved : reg_of regs rax ≡ k = ap (λ (r : Regs). reg_of r rax) gives in
    steps_faulted layout control (Enter k v) regs old new granted refused turn after f is later
    (all ∙ ap (λ (n : ℕ). first_accesses layout ++ area_accesses layout n) saved) bytes same ends) context may.row may.registers may

module _ (layout : Layout) (valid : IsValid layout) (regs : Regs) (holds : ℕ → Bool) (old : ℕ → List ℕ) where
  -- something is read, where nothing is saved
  pub reads_any : holds (state_page layout) ≡ true → SomeStep layout regs holds old → AreSomeReads layout 0 old
  reads_any held some = let its = some_reads layout valid some.0 some.1 some.2 regs holds old some.3 held in (its.0, its.1)

  -- ---- Entries

  -- the areas that were touched are held
  areas_held : (k : ℕ) → All (λ t. holds t.page.0 ≡ true) (area_accesses layout k) → (j : ℕ) → k ≡ suc j → k < 3 → holds (ssa_page layout j) ≡ true
  areas_held zero all j e l = absurd (omega arith)
  areas_held (suc zero) all zero e l = All-head (λ (t : Access). holds t.page.0 ≡ true) (access_to (ssa_page layout 0) Write) [] all
  areas_held (suc zero) all (suc j) e l = absurd (omega arith)
  areas_held (suc (suc zero)) all zero e l = absurd (omega arith)
  areas_held (suc (suc zero)) all (suc zero) e l =
      All-head (λ (t : Access). holds t.page.0 ≡ true) (access_to (ssa_page layout 1) Write) []
      (All-tail (λ (t : Access). holds t.page.0 ≡ true) (access_to (ssa_page layout 0) Write) (access_to (ssa_page layout 1) Write ∷ []) all)
  areas_held (suc (suc zero)) all (suc (suc j)) e l = absurd (omega arith)
  areas_held (suc (suc (suc k))) all j e l = absurd (omega arith)

  module _ (held : holds (state_page layout) ≡ true) (at : regs.rip ≡ step_address layout 0) (some : SomeStep layout regs holds old) where
    -- how many contexts are saved
    pub few_saved : reg_of regs rax ≤ 2
    few_saved = at_entry layout some.0 some.2 regs (λ context. MayStep layout some.0 context some.2 regs (memory_of holds old) → reg_of regs rax ≤ 2) at
        (λ k v has gives its. let is : reg_of regs rax ≡ k = ap (λ (r : Regs). reg_of r rax) gives in let small = its.small in omega arith)
        some.1 (let m = some.3 in m.row) (let m = some.3 in m.registers) some.3

    reads_by : (control : Control) (flat : Flat) (k v : ℕ) → HasRow layout control (Enter k v) → MayStep layout control (Enter k v) flat regs (memory_of holds old) →
        All (λ t. holds t.page.0 ≡ true) (area_accesses layout k) → AreSomeReads layout k old
    reads_by control flat zero v has its all = let r = some_reads layout valid control (Enter 0 v) flat regs holds old its held in (r.0, r.1)
    reads_by control flat (suc k) v has its all = some_reads_saved layout valid control (Enter (suc k) v) flat regs holds old its held k has (areas_held (suc k) all k refl its.small)

    -- what an entry reads
    pub entry_reads : All (λ t. holds t.page.0 ≡ true) (area_accesses layout (reg_of regs rax)) → AreSomeReads layout (reg_of regs rax) old
    entry_reads all = at_entry layout some.0 some.2 regs (λ context. MayStep layout some.0 context some.2 regs (memory_of holds old) → AreSomeReads layout (reg_of regs rax) old) at
        (λ k v has gives its.
        let is : reg_of regs rax ≡ k = ap (λ (r : Regs). reg_of r rax) gives in
        subst (λ (n : ℕ). AreSomeReads layout n old) (sym is) (reads_by some.0 some.2 k v has its (subst (λ (n : ℕ). All (λ t. holds t.page.0 ≡ true) (area_accesses layout n)) is all)))
        some.1 (let m = some.3 in m.row) (let m = some.3 in m.registers) some.3

    abbrev Opens : ℕ → Type 0
    Opens n = n ≡ 0 → (r : Reads) × AreReads layout n old r × (opens r.phase ≡ true)

    opens_by : (control : Control) (flat : Flat) (k v : ℕ) → HasRow layout control (Enter k v) → MayStep layout control (Enter k v) flat regs (memory_of holds old) → Opens k
    opens_by control flat zero v has its e =
        let r = some_reads layout valid control (Enter 0 v) flat regs holds old its held in (r.0, r.1, ap opens r.2 ∙ has.1)
    opens_by control flat (suc k) v has its e = absurd (omega arith)

    -- and an entry with nothing saved has a row
    pub entry_opens : Opens (reg_of regs rax)
    entry_opens = at_entry layout some.0 some.2 regs (λ context. MayStep layout some.0 context some.2 regs (memory_of holds old) → Opens (reg_of regs rax)) at
        (λ k v has gives its.
        let is : reg_of regs rax ≡ k = ap (λ (r : Regs). reg_of r rax) gives in
        subst Opens (sym is) (opens_by some.0 some.2 k v has its))
        some.1 (let m = some.3 in m.row) (let m = some.3 in m.registers) some.3

  module _ (new : ℕ → List ℕ) (granted : List Access) (refused : Option Access) (turn : RtTurn) (after : Regs) (none : refused ≡ None) (held : holds (state_page layout) ≡ true) where
    abbrev At : Control → Flat → Context → Type 0
    At control flat context = MayStep layout control context flat regs (memory_of holds old) → StepsTo layout control context regs old new granted refused turn after

    nothing_saved : (r : SavedFrame) (k : ℕ) → 0 ≡ suc k → HasFrame layout area_place (old (ssa_page layout k)) r × FrameFits layout r
    nothing_saved r k e = absurd (omega arith)

    -- an entry
    pub entry_steps : regs.rip ≡ step_address layout 0 → granted ≡ first_accesses layout ++ area_accesses layout (reg_of regs rax) →
        ((r : Reads) → AreReads layout (reg_of regs rax) old r → Performs layout (entry_row layout r (reg_of regs rax) (reg_of regs rdi) r.phase) old new turn after) →
        StepsAlways layout regs holds old new granted refused turn after
    entry_steps at all row control context flat may =
        at_entry layout control flat regs (At control flat) at (λ k v has gives its.
        let saved : reg_of regs rax ≡ k = ap (λ (r : Regs). reg_of r rax) gives in
        let value : reg_of regs rdi ≡ v = ap (λ (r : Regs). reg_of r rdi) gives in
        steps_done layout control (Enter k v) regs old new granted refused turn after none
        (all ∙ ap (λ (n : ℕ). first_accesses layout ++ area_accesses layout n) saved)
        (λ kept newest reads_kept reads_saved.
        let r = reads_of layout control.phase control.queue old kept newest in
        let its_reads = reads layout valid control (Enter k v) flat regs holds old its held k kept newest reads_kept (saved_by layout old k v newest reads_saved) in
        subst (λ (x : ℕ). Performs layout (entry_row layout r k x control.phase) old new turn after) value
        (subst (λ (n : ℕ). Performs layout (entry_row layout r n (reg_of regs rdi) control.phase) old new turn after) saved
        (row r (subst (λ (n : ℕ). AreReads layout n old r) (sym saved) its_reads))))) context may.row may.registers may

    -- the guard
    pub guard_steps : regs.rip ≡ step_address layout 16 → granted ≡ first_accesses layout → ((r : Reads) (x : Regs) → AreReads layout 0 old r → Performs layout (guard_row r r.phase) old new turn x) →
        StepsAlways layout regs holds old new granted refused turn after
    guard_steps at all row control context flat may =
        at_guard layout control flat regs (At control flat) at (λ has gives its. steps_done layout control Guard regs old new granted refused turn after none all
        (λ kept saved reads_kept reads_saved. row (reads_of layout control.phase control.queue old kept saved) after
        (reads layout valid control Guard flat regs holds old its held 0 kept saved reads_kept (nothing_saved saved)))) context may.row may.registers may

    -- a leave step
    pub leave_steps : regs.rip ≡ step_address layout 32 → granted ≡ first_accesses layout →
        ((r : Reads) (x : Regs) → AreReads layout 0 old r → Performs layout (leave_row layout r regs (reg_of regs rdi) (reg_of regs rsi)) old new turn x) →
        StepsAlways layout regs holds old new granted refused turn after
    leave_steps at all row control context flat may =
        at_leave layout control flat regs (At control flat) at (λ b a has gives its. steps_done layout control (Leave b a) regs old new granted refused turn after none all
        (λ kept saved reads_kept reads_saved. row (reads_of layout control.phase control.queue old kept saved) after
        (reads layout valid control (Leave b a) flat regs holds old its held 0 kept saved reads_kept (nothing_saved saved)))) context may.row may.registers may
