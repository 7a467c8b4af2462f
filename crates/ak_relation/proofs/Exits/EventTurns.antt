-- Turns of the program that leave with an event, as turns of the machine: a break, a miss, a vector and a denied access.
use Rattle.std.proofs.Common.{◌≡◌, ◌≢◌, ℕ, List, [], ◌∷◌, length, refl, ap, sym, ◌∙◌, subst, arith}
use Rattle.std.proofs.lemmas.Bool.{eq-eqb}
use Rattle.std.proofs.lemmas.Bool.Decides.{nat_tests}
use Rattle.std.specs.Prelude.{Bool, true, false, Option, Some, None, is_some, ◌==◌, if◌then◌else◌}
use Rattle.std.specs.Bool.{then_some}
use Rattle.ak_core.specs.Layout.{Layout, IsValid}
use Rattle.ak_core.specs.Mem.{Access}
use Rattle.ak_core.specs.declared.event.Event.{Event}
use Rattle.ak_core.specs.declared.event.Event.TheVariants.{Miss, Trap, Break}
use Rattle.ak_core.specs.declared.moves.Exit.{Exit}
use Rattle.ak_core.specs.declared.registers.Mode.{Mode}
use Rattle.ak_model.specs.Paging.Pages.{tcs_page, cluster_at}
use Rattle.ak_model.specs.Clusters.Queue.{is_in}
use Rattle.ak_model.specs.Paging.Histories.{History}
use Rattle.ak_model.specs.Paging.Inside.{since}
use Rattle.ak_model.specs.Flat.FlatRuns.{is_forbidden}
use Rattle.ak_model.specs.Control.ControlState.{Program, Reason, Raised, Denied, Missed, Broke, Control}
use Rattle.ak_model.specs.Control.OneTurn.{Leaves}
use Rattle.ak_model.specs.Control.Runs.{turn_of}
use Rattle.ak_model.specs.Control.RuntimeTurn.{shown_fault}
use Rattle.ak_model.specs.Control.EventTurn.{count_of, event_turn, leave_program}
use Rattle.ak_model.specs.Tapes.ProgramTurns.{ProgramTurn, turn_in}
use Rattle.ak_ssa.specs.SavedFrames.{SavedCause, ByVector, ByPage}
use Rattle.ak_relation.specs.State.MachineState.{State, copy}
use Rattle.ak_pager.specs.RuntimePages.{OfCopy}
use Rattle.ak_relation.specs.Bytes.Pages.{IsTcs}
use Rattle.ak_relation.specs.Relation.Stands.{runs_at, Stands}
use Rattle.ak_relation.specs.Premises.Saving.{Saves}
use Rattle.ak_relation.specs.Premises.Faulting.{Traps, Faults, SavesFirst}
use Rattle.ak_relation.specs.Relation.Does.{with_rest, TurnFollows, past_after, at_moment, GoesTo}
use Rattle.ak_relation.proofs.Exits.Departing.{turn_with, departed, MayDepart, nobody}
use Rattle.ak_relation.proofs.Exits.DepartedStands.{departed_stands}
use Rattle.ak_relation.proofs.Exits.Departures.{queue_is, break_may, miss_may, denied_may, vector_may}
use Rattle.ak_relation.proofs.Exits.VectorExits.{vector_stands}
use Rattle.ak_relation.proofs.Exits.WalkedReached.{traps_complete, faults_unkept}
use Rattle.ak_relation.proofs.Program.Seen.{now_program, phase_running, none_saved, comes_at, its_stay}

-- ---- What follows in the definitions

-- an event at the count is due
pub due_now : (event : Event) (count : ℕ) → count_of event ≡ count → then_some (count_of event == count) event ≡ Some event
due_now event count at = ap (λ b. then_some b event) (eq-eqb (count_of event) count at)

module _ (layout : Layout) (lp : ℕ) (past : History) (control : Control) (event : Event) (reason : Reason) (now : control.now ≡ Some Program) (at : count_of event ≡ control.count) where
  leaves : (exit : Exit) (later : List Event) → event_turn layout (with_rest control (event ∷ later)) (Some event) ≡ Leaves exit (with_rest (departed control reason) later) →
      TurnFollows layout lp past (Some exit) (with_rest control (event ∷ later)) (with_rest (departed control reason) later) (turn_with lp past control event ∷ [])
  leaves exit later e = record {
    turned = ap (turn_of layout past (with_rest control (event ∷ later))) now ∙ ap (event_turn layout (with_rest control (event ∷ later))) (due_now event control.count at) ∙ e;
    made_are = ap (turn_in lp past (with_rest control (event ∷ later))) now
        ∙ ap (λ (o : Option Event). (let made : ProgramTurn = record { lp = lp; past = past; count = control.count; event = o } in made) ∷ []) (due_now event control.count at);
  }

module _ (layout : Layout) (valid : IsValid layout) (lp : ℕ) (old new : State) (mode : (old.processors lp).regs.mode ≡ Mode.Program) where
  module _ (image : List ℕ) (past : History) (control : Control) (turns : List ProgramTurn) (h : Stands layout image (at_moment past control turns old)) (all place : ℕ)
      (is : since past lp ≡ Some place) where
    now : control.now ≡ Some Program
    now = now_program layout image past control turns old lp place h is mode

    free : (b : Bool) → control.pending ≡ b → b ≡ false
    free false e = refl
    free true e = absurd (let out = (h.laws.orderly.pending_only e).0 in let some : is_some control.now ≡ true = ap is_some now in cc)

    saves : (cause : SavedCause) → SavesFirst layout lp old new cause → Saves layout lp 0 true cause old new
    saves cause s =
        let stay = its_stay layout image past control turns old lp place h is mode in
        s (subst (λ n. IsTcs n false (old.frames (old.processors lp).tcs)) (ap length (none_saved layout image past control turns old lp place h is mode))
        (subst (λ b. IsTcs (length control.stack) b (old.frames (old.processors lp).tcs)) (free control.pending refl)
        (subst (λ o. OfCopy o (IsTcs (length control.stack) control.pending)) (ap (copy old) (h.tables.one_copy.placed (tcs_page layout) (old.processors lp).tcs stay.tcs.frame.holds)) h.bytes.pages.tcs)))

    in_queue : (c : ℕ) (b : Bool) → is_in old.queue c ≡ b → is_in control.queue c ≡ b
    in_queue c b e =
        let at = comes_at layout image past control turns old lp place h is mode in
        let same = queue_is layout valid image past control turns old lp h.bytes.flat h now (phase_running layout image past control turns old lp place h is mode)
        (none_saved layout image past control turns old lp place h is mode) at in
        ap (λ queue. is_in queue c) (same ∙ sym h.queued) ∙ e

    -- the program is left with an event
    goes : (exit : Exit) (event : Event) (reason : Reason) (cause : SavedCause) → MayDepart layout (runs_at layout image control) lp past control turns event reason cause →
        ((later : List Event) → event_turn layout (with_rest control (event ∷ later)) (Some event) ≡ Leaves exit (with_rest (departed control reason) later)) →
        Stands layout image (at_moment (past_after past lp all (Some exit)) (departed control reason) (turn_with lp past control event ∷ turns) new) →
        GoesTo layout image (TurnFollows layout lp past (Some exit)) (at_moment past control turns old) (past_after past lp all (Some exit)) new (Some event)
    goes exit event reason cause may turned stands = record {
      control = departed control reason;
      turns = turn_with lp past control event ∷ turns;
      made = turn_with lp past control event ∷ [];
      does = record { turns = refl; traced = λ later ok. leaves layout lp past control event reason now may.at exit later (turned later); due = λ later ok. let at = may.at in omega arith };
      told = refl;
      stands = stands;
    }

    stands_by : (event : Event) (reason : Reason) (cause : SavedCause) → MayDepart layout (runs_at layout image control) lp past control turns event reason cause → Saves layout lp 0 true cause old new →
        Stands layout image (at_moment (past_after past lp all (Some (shown_fault layout))) (departed control reason) (turn_with lp past control event ∷ turns) new)
    stands_by event reason cause may s =
        departed_stands layout image past control turns old new (record { 0 = lp }) place all event reason cause h is now (phase_running layout image past control turns old lp place h is mode)
        (none_saved layout image past control turns old lp place h is mode) s may

    out_by : (event : Event) (reason : Reason) (cause : SavedCause) → MayDepart layout (runs_at layout image control) lp past control turns event reason cause → Saves layout lp 0 true cause old new →
        (q : ℕ) → since (past_after past lp all (Some (shown_fault layout))) q ≡ None
    out_by event reason cause may s =
        nobody layout image past control turns old new (record { 0 = lp }) place all event reason cause h is now (phase_running layout image past control turns old lp place h is mode)
        (none_saved layout image past control turns old lp place h is mode) s may

    -- a break, from what the processor sees
    pub breaks_here : (access : Access) → Faults layout old (old.processors lp).fills h.bytes.flat access → is_in old.queue (cluster_at layout access.page.0) ≡ true → SavesFirst layout lp old new (ByPage access) →
        GoesTo layout image (TurnFollows layout lp past (Some (shown_fault layout))) (at_moment past control turns old) (past_after past lp all (Some (shown_fault layout))) new (Some (Break control.count))
    breaks_here access faults there s =
        let stay = its_stay layout image past control turns old lp place h is mode in
        let at = comes_at layout image past control turns old lp place h is mode in
        let unkept = faults_unkept layout image past control turns lp place (Break control.count) h.bytes.flat is old h.tables (old.processors lp).fills stay.fills at access stay.caches faults in
        let may = break_may layout valid image past control turns old lp h.bytes.flat h now (phase_running layout image past control turns old lp place h is mode)
        (none_saved layout image past control turns old lp place h is mode) at access unkept (in_queue (cluster_at layout access.page.0) true there) in
        goes (shown_fault layout) (Break control.count) Broke (ByPage access) may (λ later. refl) (stands_by (Break control.count) Broke (ByPage access) may (saves (ByPage access) s))

    -- a miss
    pub misses_here : (access : Access) → Faults layout old (old.processors lp).fills h.bytes.flat access → is_in old.queue (cluster_at layout access.page.0) ≡ false → SavesFirst layout lp old new (ByPage access) →
        GoesTo layout image (TurnFollows layout lp past (Some (shown_fault layout))) (at_moment past control turns old) (past_after past lp all (Some (shown_fault layout))) new
        (Some (Miss control.count (cluster_at layout access.page.0)))
    misses_here access faults gone s =
        let stay = its_stay layout image past control turns old lp place h is mode in
        let at = comes_at layout image past control turns old lp place h is mode in
        let event = Miss control.count (cluster_at layout access.page.0) in
        let unkept = faults_unkept layout image past control turns lp place event h.bytes.flat is old h.tables (old.processors lp).fills stay.fills at access stay.caches faults in
        let may = miss_may layout valid image past control turns old lp h.bytes.flat h now (phase_running layout image past control turns old lp place h is mode)
        (none_saved layout image past control turns old lp place h is mode) at access unkept (in_queue (cluster_at layout access.page.0) false gone) in
        goes (shown_fault layout) event (Missed (cluster_at layout access.page.0)) (ByPage access) may (λ later. refl)
        (stands_by event (Missed (cluster_at layout access.page.0)) (ByPage access) may (saves (ByPage access) s))

    -- a denied access
    pub denies_here : (access : Access) → Traps layout old (old.processors lp).fills h.bytes.flat 14 → is_forbidden layout access ≡ true → SavesFirst layout lp old new (ByPage access) →
        GoesTo layout image (TurnFollows layout lp past (Some (shown_fault layout))) (at_moment past control turns old) (past_after past lp all (Some (shown_fault layout))) new (Some (Trap control.count 14))
    denies_here access traps forbidden s =
        let stay = its_stay layout image past control turns old lp place h is mode in
        let at = comes_at layout image past control turns old lp place h is mode in
        let event = Trap control.count 14 in
        let complete = traps_complete layout image past control turns lp place event h.bytes.flat is old h.tables (old.processors lp).fills stay.fills at 14 traps in
        let may = denied_may layout valid image past control turns old lp h.bytes.flat h now (phase_running layout image past control turns old lp place h is mode)
        (none_saved layout image past control turns old lp place h is mode) at access traps.ends forbidden complete in
        goes (shown_fault layout) event Denied (ByPage access) may (λ later. refl) (stands_by event Denied (ByPage access) may (saves (ByPage access) s))

    -- a vector
    pub raises_here : (v : ℕ) → Traps layout old (old.processors lp).fills h.bytes.flat v → v ≢ 14 → SavesFirst layout lp old new (ByVector v) →
        GoesTo layout image (TurnFollows layout lp past (Some (Exit.Vector v))) (at_moment past control turns old) (past_after past lp all (Some (Exit.Vector v))) new (Some (Trap control.count v))
    raises_here v traps other s =
        let stay = its_stay layout image past control turns old lp place h is mode in
        let at = comes_at layout image past control turns old lp place h is mode in
        let event = Trap control.count v in
        let complete = traps_complete layout image past control turns lp place event h.bytes.flat is old h.tables (old.processors lp).fills stay.fills at v traps in
        let may = vector_may layout valid image past control turns old lp h.bytes.flat h now (phase_running layout image past control turns old lp place h is mode)
        (none_saved layout image past control turns old lp place h is mode) at v traps.ends other complete in
        let test : (v == 14) ≡ false = grind (arith, nat_tests, other) in
        let first = stands_by event (Raised v) (ByVector v) may (saves (ByVector v) s) in
        goes (Exit.Vector v) event (Raised v) (ByVector v) may
        (λ later. ap (λ b. if b then leave_program (shown_fault layout) Denied (with_rest control (event ∷ later)) else leave_program (Exit.Vector v) (Raised v) (with_rest control (event ∷ later))) test)
        (vector_stands layout image past (departed control (Raised v)) (turn_with lp past control event ∷ turns) new (record { 0 = lp }) all v
        (out_by event (Raised v) (ByVector v) may (saves (ByVector v) s)) first)
