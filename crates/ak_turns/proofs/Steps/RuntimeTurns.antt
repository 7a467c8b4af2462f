-- A step of the runtime as a turn of the machine: the processor goes on, leaves, or is saved at a refused access.
use Rattle.std.proofs.Common.{◌≡◌, ℕ, ◌<◌, true, false, List, [], ◌∷◌, length, ◌==◌, refl, ap, sym, ◌∙◌, subst}
use Rattle.std.proofs.lemmas.Bool.{and_parts}
use Rattle.std.specs.Prelude.{Some, None, is_some}
use Rattle.std.specs.List.{list_all}
use Rattle.ak_core.specs.Layout.{Layout}
use Rattle.ak_core.specs.Mem.{Access}
use Rattle.ak_core.specs.declared.registers.Regs.{Regs}
use Rattle.ak_model.specs.Paging.Pages.{all_pages}
use Rattle.ak_pte.specs.declared.table.Pte.{Pte}
use Rattle.ak_pager.specs.StepsTo.{MayStep, memory_of, StepsTo}
use Rattle.ak_pager.specs.declared.turn.RtTurn.{RtTurn}
use Rattle.ak_ssa.specs.SavedFrames.{ByPage, why_of}
use Rattle.ak_ssa.specs.SavedRegisters.{AreRegs}
use Rattle.ak_track.specs.Steps.{LeavesBy}
use Rattle.ak_relation.proofs.Runtime.Allowed.{AtStep}
use Rattle.ak_relation.proofs.Runtime.StepPages.{low_access}
use Rattle.ak_relation.proofs.Runtime.ToldSteps.{step_tells}
use Rattle.ak_relation.proofs.Runtime.ValidTurns.{valid_turns, valid_causes}
use Rattle.ak_relation.specs.Bytes.Pages.{IsTcs}
use Rattle.ak_relation.specs.Premises.Saving.{Saves}
use Rattle.ak_relation.specs.Premises.Shows.{ShowsStep}
use Rattle.ak_relation.specs.Premises.Works.{Quits, Ends, exit_of}
use Rattle.ak_relation.specs.Relation.Causes.{NamesCause}
use Rattle.ak_relation.specs.Relation.Does.{IsTurn}
use Rattle.ak_relation.specs.Relation.Tells.{TellsTurn}
use Rattle.ak_relation.specs.State.MachineState.{State}
use Rattle.ak_encls.specs.Enclave.{Enclave, frame_at}
use Rattle.ak_enclu.proofs.Left.{saves}
use Rattle.ak_enclu.specs.Machines.{IsMachine, LeadsToWhere}
use Rattle.ak_enclu.specs.Passing.{outside_now, ExitsTo, Steps}
use Rattle.ak_enclu.specs.declared.cpu.Cpu.{Cpu}
use Rattle.ak_memory.specs.Granting.{is_walked, is_seen}
use Rattle.ak_memory.specs.declared.memory.Memory.{Memory}
use Rattle.ak_turns.specs.Running.{IsRunning, Runs}
use Rattle.ak_turns.specs.Stepping.{StepDone, HasStepped}
use Rattle.ak_turns.proofs.Steps.OwnMachine.{OwnFrames, valid, frames_whole, own_frames, at, may}
use Rattle.ak_turns.proofs.Steps.Refusals.{AreHeld, faulted_refused, refused_faulted, unheld_stays}
use Rattle.ak_turns.proofs.Steps.StepMachines.{moved_on, moved_machine, goes_on, HasQuit, has_quit}
use Rattle.ak_turns.proofs.Steps.StepShows.{shows_done, shows_refused}
use Rattle.ak_turns.proofs.Steps.Walking.{walked_seen}
use Rattle.ak_turns.proofs.Steps.WrittenFrames.{frames_stay, changed}

-- a turn in the runtime's mode: it leads to a machine of this processor, page table and enclave, is one of the definitions, and the cause
-- after it is the one that its outcome names; and it tells what its outcome says
pub record StepTurns (layout : Layout) (lp : ℕ) (old : State) (outcome : RtTurn) (cpu : Cpu) (table : List Pte) (encls : Enclave) : Type 0 where
  pub new : State
  pub machine : IsMachine layout cpu table encls new
  pub others : (q : ℕ) → (q == lp) ≡ false → new.processors q ≡ old.processors q
  pub count : new.count ≡ old.count
  pub queue : exit_of layout outcome ≡ None → new.queue ≡ old.queue
  pub turn : IsTurn layout lp old new (exit_of layout outcome) None
  pub cause : NamesCause layout lp old new (exit_of layout outcome) None outcome
  pub notes : TellsTurn layout lp old None None outcome

-- these accesses are of pages that are seen
all_held : (encls : Enclave) (table : List Pte) (granted : List Access) → list_all (is_walked encls.entries table) granted ≡ true → AreHeld (λ p. is_seen encls.entries table [] p) granted
all_held encls table [] all = tt
all_held encls table (t ∷ granted) all =
    let parts = and_parts (is_walked encls.entries table t) (list_all (is_walked encls.entries table) granted) all in
    (walked_seen encls.entries table t parts.0, all_held encls table granted parts.1)

module _ (layout : Layout) (cpu : Cpu) (memory : Memory) (r : Runs layout cpu memory) (new : Enclave) (outcome : RtTurn) (regs : Regs)
    (s : HasStepped layout (record cpu { tlb = memory.tlb }) memory.table memory.encls new outcome regs) where
  -- the processor with what it has cached, before and after
  abbrev before : Cpu
  before = record cpu { tlb = memory.tlb }

  abbrev after : Cpu
  after = record cpu { tlb = memory.tlb; regs = regs }

  done : StepDone layout before memory.table memory.encls new.frames s.before s.after s.granted s.refused outcome regs
  done = s.done

  abbrev its_at : AtStep r.control.now
  its_at = at layout cpu memory r s.before done.memory.before_is done.mode

  its_may : MayStep layout r.control its_at.context r.stands.bytes.flat cpu.regs (memory_of (λ p. is_seen memory.encls.entries memory.table [] p) s.before)
  its_may = may layout cpu memory r s.before done.memory.before_is done.mode

  its_steps : StepsTo layout r.control its_at.context cpu.regs s.before s.after s.granted s.refused outcome regs
  its_steps = done.steps r.control its_at.context r.stands.bytes.flat its_may

  -- a refused access is the outcome
  refused_is : (t : Access) → s.refused ≡ Some t → outcome ≡ RtTurn.Faulted t
  refused_is t e =
      refused_faulted layout (valid layout cpu memory r) r.control r.stands.bytes.flat cpu.regs (λ p. is_seen memory.encls.entries memory.table [] p) s.before s.after its_at.context its_may
      s.granted (all_held memory.encls memory.table s.granted done.found) outcome regs s.refused t its_steps e

  -- and the other way round
  outcome_is : (t : Access) → outcome ≡ RtTurn.Faulted t → s.refused ≡ Some t
  outcome_is t e =
      faulted_refused layout (valid layout cpu memory r) r.control r.stands.bytes.flat cpu.regs (λ p. is_seen memory.encls.entries memory.table [] p) s.before s.after its_at.context its_may
      s.granted (all_held memory.encls memory.table s.granted done.found) outcome regs s.refused t its_steps e

  -- a page that no walk finds keeps its bytes
  unseen : (p : ℕ) → is_seen memory.encls.entries memory.table [] p ≡ false → s.after p ≡ s.before p
  unseen p gone =
      unheld_stays layout (valid layout cpu memory r) r.control r.stands.bytes.flat cpu.regs (λ q. is_seen memory.encls.entries memory.table [] q) s.before s.after its_at.context its_may
      s.granted (all_held memory.encls memory.table s.granted done.found) outcome regs s.refused its_steps p gone

  module _ (state : State) (m : IsRunning layout cpu memory state) where
    -- as it shows, so it turns
    turns : (end : State) (cpu' : Cpu) (encls' : Enclave) → IsMachine layout cpu' memory.table encls' end → ((q : ℕ) → (q == cpu.lp.0) ≡ false → end.processors q ≡ state.processors q) →
        end.count ≡ state.count → (exit_of layout outcome ≡ None → end.queue ≡ state.queue) → ShowsStep layout cpu.lp.0 state end outcome → StepTurns layout cpu.lp.0 state outcome cpu' memory.table encls'
    turns end cpu' encls' machine others count queue shows = record {
      new = end;
      machine = machine;
      others = others;
      count = count;
      queue = queue;
      turn = valid_turns layout (valid layout cpu memory r) cpu.lp state end outcome shows;
      cause = valid_causes layout (valid layout cpu memory r) cpu.lp state end outcome shows;
      notes = step_tells layout (valid layout cpu memory r) cpu.lp state end outcome shows;
    }

    -- ---- The processor goes on

    pub turn_goes : outcome ≡ RtTurn.Go → StepTurns layout cpu.lp.0 state outcome after memory.table new
    turn_goes e =
        let on = goes_on layout before memory.table memory.encls state m regs new.frames in
        let end = moved_on layout before memory.table memory.encls state m regs new.frames in
        turns end after new
        (subst (λ (encls : Enclave). IsMachine layout after memory.table encls end) (sym s.rest) (moved_machine layout before memory.table memory.encls state m regs new.frames))
        on.others refl (λ goes. refl)
        (shows_done layout before memory.table memory.encls state m new.frames s.before s.after s.granted s.refused outcome regs done unseen end.processors state.track
        (subst (λ o. Ends cpu.lp.0 o regs state end) (sym e) on) (λ t refused. absurd (let clash : RtTurn.Go ≡ RtTurn.Faulted t = sym e ∙ refused_is t refused in cc)))

    -- ---- It leaves

    pub turn_quits : (left : Enclave) → left ≡ record new { track = left.track } → Steps new left (LeavesBy cpu.lp.0) → ((end : State) → Quits cpu.lp.0 state end → Ends cpu.lp.0 outcome regs state end) →
        ((t : Access) → outcome ≡ RtTurn.Faulted t → ⊥) → StepTurns layout cpu.lp.0 state outcome (outside_now after) memory.table left
    turn_quits left rest steps ends never =
        let q : HasQuit layout before memory.table memory.encls state m regs new.frames (outside_now after) left =
        has_quit layout before memory.table memory.encls state m regs new.frames left
        (rest ∙ ap (λ (e : Enclave). record e { track = left.track }) s.rest) (subst (λ (e : Enclave). Steps e left (LeavesBy cpu.lp.0)) s.rest (λ lps marks holds. steps lps marks holds)) in
        let quits = q.quits in
        turns (changed state q.end.processors q.end.track (frame_at new.frames)) (outside_now after) left q.machine quits.others refl (λ goes. refl)
        (shows_done layout before memory.table memory.encls state m new.frames s.before s.after s.granted s.refused outcome regs done unseen q.end.processors q.end.track
        (ends (changed state q.end.processors q.end.track (frame_at new.frames)) quits) (λ t refused. never t (refused_is t refused)))

    -- ---- An access was refused

    module _ (t : Access) (e : outcome ≡ RtTurn.Faulted t) where
      refused : s.refused ≡ Some t
      refused = outcome_is t e

      pub same_frames : (f : ℕ) → frame_at new.frames f ≡ frame_at memory.encls.frames f
      same_frames f =
          frames_stay memory.encls.entries memory.encls.frames new.frames s.before s.after done.memory (its_steps.faults t refused).1 f

      same_regs : regs ≡ cpu.regs
      same_regs = (its_steps.faults t refused).2

      -- it is of a page of the enclave
      pub refused_low : t.page.0 < all_pages layout
      refused_low =
          let later = (its_steps.faults t refused).0 in
          low_access layout r.image r.past r.control r.turns r.state r.stands its_at.context its_at.step its_at.is s.granted later.0 t later.1

      same_bytes : IsMachine layout before memory.table (record memory.encls { frames = new.frames }) state
      same_bytes = record {
        processor = m.processor;
        mapped = m.mapped;
        paging = record {
          count = m.paging.count;
          entries = m.paging.entries;
          frames = λ f. m.paging.frames f ∙ sym (same_frames f);
          sealed_pages = m.paging.sealed_pages;
          next = m.paging.next;
          track = m.paging.track;
          stamps = m.paging.stamps;
          within = m.paging.within;
        };
      }

      same_machine : IsMachine layout after memory.table new state
      same_machine =
          subst (λ (encls : Enclave). IsMachine layout after memory.table encls state) (sym s.rest)
          (subst (λ (x : Regs). IsMachine layout (record before { regs = x }) memory.table (record memory.encls { frames = new.frames }) state) (sym same_regs) same_bytes)

      own : OwnFrames cpu memory.encls
      own = own_frames layout cpu memory r

      pub turn_faults : (left : Enclave) → ExitsTo after (why_of layout (ByPage t)) new left → AreRegs regs → StepTurns layout cpu.lp.0 state outcome (outside_now after) memory.table left
      turn_faults left to words =
          let q : LeadsToWhere layout (outside_now after) memory.table left (Saves layout cpu.lp.0 own.saved true (ByPage t) state) =
          saves layout state after memory.table new left own.saved false (ByPage t)
          (record { whole = λ f. ap length (m.paging.frames f) ∙ frames_whole layout cpu memory r f }) same_machine to own.few
          (subst (IsTcs own.saved false) (sym (same_frames cpu.tcs.0)) own.says) (λ mode. words) refused_low in
          let saved = q.does in
          turns q.state (outside_now after) left q.machine saved.others saved.count
          (λ goes. let left_is : true ≡ false = sym (ap (λ o. is_some (exit_of layout o)) e) ∙ ap is_some goes in cc)
          (shows_refused layout before memory.table memory.encls state m new.frames s.before s.after s.granted s.refused outcome regs done q.state t own.saved false refused
          (subst (IsTcs own.saved false) (sym (ap state.frames m.processor.tcs ∙ m.paging.frames cpu.tcs.0)) own.says) saved)
