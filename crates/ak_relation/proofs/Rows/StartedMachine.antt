-- The machine of the example after the runtime's step that starts the program: a turn.
use Rattle.std.proofs.Common.{◌≡◌, ℕ, ◌+◌, ◌*◌, List, [], ◌∷◌, length, refl, sym, ◌∙◌, subst, arith}
use Rattle.std.specs.Prelude.{Bool, true, false, None, ◌==◌, if◌then◌else◌}
use Rattle.ak_core.specs.Mem.{Access, access_to}
use Rattle.ak_core.specs.declared.page.Kind.TheVariants.{Write, Exec}
use Rattle.ak_core.specs.declared.registers.Regs.{Regs}
use Rattle.ak_model.specs.Flat.FlatRuns.{Flat, zeroed}
use Rattle.ak_model.specs.Control.ControlState.{Phase, New, Running, Calling, Asked, Ended, Trapped, Dead, Context, Enter, Control}
use Rattle.ak_pager.specs.RuntimePages.{phase_number, IsState}
use Rattle.ak_ssa.specs.SavedFrames.{SavedFrame}
use Rattle.ak_relation.specs.State.MachineState.{Processor, State}
use Rattle.ak_pager.specs.Rows.{kept_bytes, entry_row}
use Rattle.ak_pager.specs.StepsTo.{HasState, Performs, reads_of, StepsTo}
use Rattle.ak_pager.specs.declared.turn.RtTurn.{RtTurn}
use Rattle.ak_relation.specs.Relation.Does.{IsTurn}
use Rattle.ak_relation.specs.Relation.Example.{one_page}
use Rattle.ak_relation.proofs.Rows.BlankPages.{blank, blank_at, one_slot, one_slot_whole, slot_number, same_kept}
use Rattle.ak_relation.proofs.Rows.BuiltMachine.{outside}
use Rattle.ak_relation.proofs.Rows.EnteredMachine.{its_regs}
use Rattle.ak_relation.proofs.Rows.StepContexts.{entry_context}
use Rattle.ak_relation.proofs.Rows.StepMemory.{Written, at_place, over, bytes_of, all_areas, state_alone, Changes, Steps, step_turn}
use Rattle.ak_relation.proofs.Rows.ProgramMachine.{fetched_frames, fetched_whole, begun}

-- the program's first registers
abbrev pub first_regs : Regs
first_regs = zeroed (one_page.base + one_page.entry)

-- the program's first access: the fetch of its first instruction
abbrev pub fetch : Access
fetch = access_to 0 Exec

-- the processor
abbrev pub starting : Processor
starting = record { inside = true; regs = first_regs; tcs = 2; ssa = 3; fills = [] }

-- the machine: STATE says that the program runs, by the number that the VA page had in its first slot
abbrev pub started : State
started = record begun { frames = λ g. if g == 6 then one_slot else fetched_frames g; processors = λ lp. if lp == 0 then starting else outside }

pub started_whole : (f : ℕ) → length (started.frames f) ≡ 4096
started_whole f = by (f == 6)
  where
    by : (b : Bool) → length (if b then one_slot else fetched_frames f) ≡ 4096
    by true = one_slot_whole
    by false = fetched_whole f

-- ---- The step

abbrev started_written : List Written
started_written = at_place 5 one_slot ∷ []

abbrev granted : List Access
granted = access_to 6 Exec ∷ access_to 5 Write ∷ []

abbrev held_pages : List ℕ
held_pages = 5 ∷ 6 ∷ []

changes : Changes begun started held_pages started_written granted
changes = record {
  found = (refl, (refl, tt));
  wrote = (refl, (refl, tt));
  frames = λ g. refl;
  among = (refl, tt);
  seen = (omega arith, refl, refl, (omega arith, refl, refl, tt));
  whole = started_whole;
  entries = refl;
  stamps = refl;
  sealed_pages = refl;
  next = refl;
  table = refl;
  count = refl;
  queue = refl;
}

-- ---- Its row

abbrev before : ℕ → List ℕ
before = bytes_of begun

abbrev after : ℕ → List ℕ
after = over started_written before

-- the phase of a blank STATE
phase_new : (phase : Phase) → 0 ≡ phase_number phase → phase ≡ New
phase_new New e = refl
phase_new Running e = absurd (omega arith)
phase_new Calling e = absurd (omega arith)
phase_new (Asked c) e = absurd (omega arith)
phase_new (Ended s) e = absurd (omega arith)
phase_new (Trapped v) e = absurd (omega arith)
phase_new Dead e = absurd (omega arith)

module _ (control : Control) (flat : Flat) (state : IsState one_page control.phase control.queue flat blank) where
  has_state : HasState Running control.queue (kept_bytes blank) one_slot
  has_state = record {
    phase_is = slot_number;
    more = tt;
    size = same_kept.0 ∙ sym (blank_at 24 8) ∙ state.size;
    clusters = λ i c e. same_kept.1 i ∙ sym (blank_at (1024 + 2 * i) 2) ∙ state.clusters i c e;
    frame_is = same_kept.2;
  }

  performs : (kept saved : SavedFrame) → Performs one_page (entry_row one_page (reads_of one_page control.phase control.queue before kept saved) 0 7 control.phase) before after RtTurn.Go first_regs
  performs kept saved =
      subst (λ (p : Phase). Performs one_page (entry_row one_page (reads_of one_page control.phase control.queue before kept saved) 0 7 p) before after RtTurn.Go first_regs)
      (sym (phase_new control.phase (sym (blank_at 0 8) ∙ state.phase_is)))
      (record { ends = (refl, refl); state = has_state; areas = all_areas one_slot before; others = λ p apart areas. state_alone one_slot before p apart })

  start_step : StepsTo one_page control (Enter 0 7) its_regs before after granted None RtTurn.Go first_regs
  start_step = record { works = λ none. (refl, λ kept saved reads_kept reads. performs kept saved); faults = λ t e. absurd (cc) }

steps : Steps begun held_pages started_written granted RtTurn.Go first_regs
steps control context flat may =
    entry_context 0 7 control flat (λ (c : Context). StepsTo one_page control c its_regs before after granted None RtTurn.Go first_regs) (start_step control flat may.state)
    context may.row may.registers

-- the turn
pub start_turn : IsTurn one_page 0 begun started None None
start_turn =
    step_turn begun started held_pages started_written granted RtTurn.Go first_regs refl changes
    (record { regs_are = refl; inside = refl; fills = refl; tcs = refl; ssa = refl; others = λ q e. rw e refl; track = refl }) steps
