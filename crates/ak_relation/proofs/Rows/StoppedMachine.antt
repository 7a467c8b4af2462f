-- The machine of the example after the runtime found that the program broke: the enclave is dead. And after the guard was resumed.
use Rattle.std.proofs.Common.{◌≡◌, ℕ, zero, suc, ◌<◌, List, [], ◌∷◌, length, refl, sym, ◌∙◌, subst, arith, ◌-◌}
use Rattle.std.specs.Prelude.{None, Some, true, ◌^◌, ◌==◌, if◌then◌else◌}
use Rattle.ak_core.specs.Mem.{Access, access_to}
use Rattle.ak_core.specs.declared.event.Event.TheVariants.{Miss, Break}
use Rattle.ak_core.specs.declared.event.StopCause.{StopCause}
use Rattle.ak_core.specs.declared.event.StopCause.TheVariants.{Unmapped}
use Rattle.ak_core.specs.declared.page.Kind.TheVariants.{Write, Exec}
use Rattle.ak_core.specs.declared.moves.Move.TheVariants.{Run, Eenter, Eresume}
use Rattle.ak_core.specs.declared.moves.Answer.{Answer}
use Rattle.ak_core.specs.declared.moves.Answer.TheVariants.{Ok}
use Rattle.ak_core.specs.declared.moves.Exit.{Exit}
use Rattle.ak_core.specs.declared.registers.Mode.{Mode}
use Rattle.ak_model.specs.Paging.Pages.{ssa_page}
use Rattle.ak_model.specs.Flat.FlatRuns.{Flat, zeroed}
use Rattle.ak_model.specs.Control.ControlState.{Running, Context, Enter, Control}
use Rattle.ak_pager.specs.Contexts.{entry_regs, step_address}
use Rattle.ak_relation.specs.State.MachineState.{State, Processor}
use Rattle.ak_relation.specs.Premises.EnterRows.{enter_row, resume_row}
use Rattle.ak_pager.specs.Rows.{guard_frame, entry_row}
use Rattle.ak_pager.specs.StepsTo.{Performs, ReadsSaved, reads_of, MayStep, StepsTo, memory_of}
use Rattle.ak_pager.specs.declared.turn.RtTurn.{RtTurn}
use Rattle.ak_relation.specs.Premises.Resuming.{ResumesAt}
use Rattle.ak_relation.specs.Relation.Does.{IsTurn, IsMove}
use Rattle.ak_relation.specs.Relation.MoveByMove.{AreMoves}
use Rattle.ak_relation.specs.Relation.Example.{one_page, input_program, stopping_past, stopped_past, IsReached, guarded_past}
use Rattle.ak_relation.proofs.Runs.WholeRuns.{exit_moves}
use Rattle.ak_relation.proofs.Rows.BlankPages.{one_saved, one_saved_whole, one_saved_at, none_refused, one_refused, refused_saved, area_with, area_whole, area_has, blank, blank_at, blank_whole}
use Rattle.ak_relation.proofs.Rows.BuiltMachine.{page_valid}
use Rattle.ak_relation.proofs.Rows.StartedMachine.{first_regs}
use Rattle.ak_relation.proofs.Rows.MissedMachine.{program_frame, frame_size}
use Rattle.ak_relation.proofs.Rows.AskedMachine.{program_bytes, guard_bytes, guard_size, room, program_fits}
use Rattle.ak_relation.proofs.Rows.BrokenMachine.{broken, broken_whole, break_reached}
use Rattle.ak_relation.proofs.Rows.StatePages.{state_with, state_whole, state_frame, state_phase, state_size, state_first, one_cluster}
use Rattle.ak_relation.proofs.Rows.StepContexts.{phase_running, one_queue, entry_context}
use Rattle.ak_relation.proofs.Rows.StepMemory.{later_areas, state_and_area, Written, at_place, over, over_whole, holds_of, bytes_of, in_frames, Changes, Steps, step_turn, left_with, entered_with, entered_move}
use Rattle.ak_relation.proofs.Entering.EnterMoves.{resume_moves}
use Rattle.ak_ssa.specs.SavedFrames.{SavedFrame, area_place, HasFrame}
use Rattle.ak_ssa.specs.SavedRegisters.{AreRegs}
use Rattle.ak_track.specs.Steps.{EntersBy}
use Rattle.ak_ssa.proofs.FramesReturn.{same_frame}
use Rattle.ak_ssa.proofs.RegistersReturn.{area_back}

-- ---- The entering

-- the machine
abbrev stopping : State
stopping = entered_with broken 1 7 one_saved

enter_answered : enter_row one_page broken 0 ≡ Ok
unfolding one_refused
enter_answered = refl

enter_move : IsMove one_page broken stopping (Eenter (record { 0 = 0 }) 7) Ok None
enter_move =
    entered_move broken 1 7 one_saved (omega arith) refused_saved (record { saved_is = one_saved_at; pending_is = none_refused }) one_saved_whole broken_whole enter_answered

stopping_whole : (g : ℕ) → length (stopping.frames g) ≡ 4096
stopping_whole = over_whole (at_place 2 one_saved ∷ []) broken.frames (one_saved_whole, tt) broken_whole

-- ---- The step

-- STATE says that the enclave is dead, and the area has the guard's frame
abbrev stopped_state : List ℕ
stopped_state = state_with 6 0 1 program_bytes

abbrev stopped_written : List Written
stopped_written = at_place 5 stopped_state ∷ at_place 2 (area_with guard_bytes) ∷ []

-- the machine
abbrev pub stopped : State
stopped = left_with stopping stopped_written

stopped_whole : (g : ℕ) → length (stopped.frames g) ≡ 4096
stopped_whole =
    over_whole (in_frames stopping stopped_written) stopping.frames (state_whole 6 0 1 program_bytes frame_size, (area_whole guard_bytes guard_size, tt)) stopping_whole

abbrev granted : List Access
granted = access_to 6 Exec ∷ access_to 5 Write ∷ access_to 2 Write ∷ []

abbrev held_pages : List ℕ
held_pages = 2 ∷ 5 ∷ 6 ∷ []

changes : Changes stopping stopped held_pages stopped_written granted
changes = record {
  found = (refl, (refl, (refl, tt)));
  wrote = (refl, (refl, (refl, tt)));
  frames = λ g. refl;
  among = (refl, (refl, tt));
  seen = (omega arith, refl, refl, (omega arith, refl, refl, (omega arith, refl, refl, tt)));
  whole = stopped_whole;
  entries = refl;
  stamps = refl;
  sealed_pages = refl;
  next = refl;
  table = refl;
  count = refl;
  queue = refl;
}

-- ---- Its row

-- the program's page was not mapped
abbrev its_cause : StopCause
its_cause = Unmapped (record { 0 = 0 }) Exec

abbrev before : ℕ → List ℕ
before = bytes_of stopping

abbrev after : ℕ → List ℕ
after = over stopped_written before

guards : (i : ℕ) → i < 1 → HasFrame one_page area_place (after (ssa_page one_page i)) (guard_frame one_page)
guards zero lt = area_has guard_bytes guard_size
guards (suc i) lt = absurd (omega arith)

stops : Performs one_page (entry_row one_page (reads_of one_page Running (0 ∷ []) before program_frame program_frame) 1 7 Running) before after (RtTurn.Dead its_cause) first_regs
stops = record {
  ends = refl;
  state = record {
    phase_is = state_phase 6 0 1 program_bytes;
    more = tt;
    size = state_size 6 0 1 program_bytes;
    clusters = one_cluster 6 0 1 program_bytes;
    frame_is = state_frame 6 0 1 program_bytes frame_size ∙ sym (state_frame 1 0 1 program_bytes frame_size);
  };
  areas = (guards, later_areas stopped_state (area_with guard_bytes) before);
  others = state_and_area stopped_state (area_with guard_bytes) before;
}

module _ (control : Control) (flat : Flat) (may : MayStep one_page control (Enter 1 7) flat (entry_regs one_page 1 7) (memory_of (holds_of held_pages) before)) where
  running : control.phase ≡ Running
  running = let state = may.state in phase_running control.phase (sym (state_phase 1 0 1 program_bytes) ∙ state.phase_is)

  full : control.queue ≡ 0 ∷ []
  full =
      let state = may.state in
      one_queue control.queue (state_with 1 0 1 program_bytes) (sym (state_size 1 0 1 program_bytes) ∙ state.size) state.clusters (state_first 1 0 1 program_bytes)

  performs : (kept saved : SavedFrame) → ReadsSaved one_page before (Enter 1 7) saved →
      Performs one_page (entry_row one_page (reads_of one_page control.phase control.queue before kept saved) 1 7 control.phase) before after (RtTurn.Dead its_cause) first_regs
  performs kept saved reads =
      let same : program_frame ≡ saved =
      same_frame one_page room area_place (area_with program_bytes) program_frame saved program_fits reads.1 (area_has program_bytes frame_size) reads.0 in
      subst (λ phase. Performs one_page (entry_row one_page (reads_of one_page phase control.queue before kept saved) 1 7 phase) before after (RtTurn.Dead its_cause) first_regs) (sym running)
      (subst (λ queue. Performs one_page (entry_row one_page (reads_of one_page Running queue before kept saved) 1 7 Running) before after (RtTurn.Dead its_cause) first_regs) (sym full)
      (subst (λ frame. Performs one_page (entry_row one_page (reads_of one_page Running (0 ∷ []) before kept frame) 1 7 Running) before after (RtTurn.Dead its_cause) first_regs) same stops))

  stop_step : StepsTo one_page control (Enter 1 7) (entry_regs one_page 1 7) before after granted None (RtTurn.Dead its_cause) first_regs
  stop_step = record { works = λ none. (refl, λ kept saved reads_kept reads. performs kept saved reads); faults = λ t e. absurd (cc) }

steps : Steps stopping held_pages stopped_written granted (RtTurn.Dead its_cause) first_regs
steps control context flat may =
    entry_context 1 7 control flat
    (λ (c : Context). MayStep one_page control c flat (entry_regs one_page 1 7) (memory_of (holds_of held_pages) before) → StepsTo one_page control c (entry_regs one_page 1 7) before after granted None (RtTurn.Dead its_cause) first_regs)
    (stop_step control flat) context may.row may.registers may

stop_turn : IsTurn one_page 0 stopping stopped (Some Exit.Stopped) None
stop_turn =
    step_turn stopping stopped held_pages stopped_written granted (RtTurn.Dead its_cause) first_regs refl changes
    (record { left = refl; flushed = refl; others = λ q e. rw e refl; track = refl }) steps

stop_move : IsMove one_page stopping stopped (Run (record { 0 = 0 }) 1) (Answer.Exit Exit.Stopped) None
stop_move = exit_moves one_page (record { 0 = 0 }) stopping refl refl 0 1 stopping stopped Exit.Stopped None None None (omega arith) (refl, refl) stop_turn refl

-- the moves
enter_reached : AreMoves one_page input_program stopping_past stopping (Miss 0 0 ∷ Break 0 ∷ [])
enter_reached = (broken, Miss 0 0 ∷ Break 0 ∷ [], None, break_reached, enter_move, refl)

stop_reached : AreMoves one_page input_program stopped_past stopped (Miss 0 0 ∷ Break 0 ∷ [])
stop_reached = (stopping, Miss 0 0 ∷ Break 0 ∷ [], None, enter_reached, stop_move, refl)

-- some machine is dead
pub stopped_reached : IsReached stopped_past (Miss 0 0 ∷ Break 0 ∷ [])
stopped_reached = (stopped, record { valid = page_valid; moves = stop_reached })

-- ---- The guard resumed

-- the processor, with the guard's registers
abbrev guarding : Processor
guarding = record { inside = true; regs = record (zeroed (step_address one_page 16)) { mode = Mode.Runtime }; tcs = 2; ssa = 3; fills = [] }

-- the machine
abbrev pub guarded : State
guarded = record stopped {
  frames = over (at_place 2 blank ∷ []) stopped.frames;
  processors = λ lp. if lp == 0 then guarding else stopped.processors lp;
  track = EntersBy 0 ∷ stopped.track;
}

guard_words : AreRegs guarding.regs
guard_words =
    let zero : 0 < 2 ^ 64 = omega arith in
    record {
      sixteen = refl;
      words = (zero, (zero, (zero, (zero, (zero, (zero, (zero, (zero, (zero, (zero, (zero, (zero, (zero, (zero, (zero, (zero, tt))))))))))))))));
      rip = omega arith;
    }

resumes : ResumesAt one_page 0 0 stopped guarded
resumes = record {
  inside = refl;
  regs = sym (area_back one_page (area_with guard_bytes) (guard_frame one_page) guard_words (area_has guard_bytes guard_size));
  tcs = refl;
  ssa = refl;
  flushed = refl;
  others = λ q e. rw e refl;
  counted = record { saved_is = blank_at 24 4; pending_is = blank_at 72 1 };
  frames = λ g e. rw e refl;
  whole = over_whole (at_place 2 blank ∷ []) stopped.frames (blank_whole, tt) stopped_whole;
  track = refl;
  entries = refl;
  count = refl;
  queue = refl;
  stamps = refl;
  sealed_pages = refl;
  next = refl;
  table = refl;
}

resume_answered : resume_row one_page stopped 0 ≡ Ok
unfolding one_saved
resume_answered = refl

resume_move : IsMove one_page stopped guarded (Eresume (record { 0 = 0 })) Ok None
resume_move =
    resume_moves one_page stopped (record { 0 = 0 }) guarded resume_answered
    (subst (λ n. ResumesAt one_page 0 (n - 1) stopped guarded) (sym one_saved_at) resumes)

guard_reached : AreMoves one_page input_program guarded_past guarded (Miss 0 0 ∷ Break 0 ∷ [])
guard_reached = (stopped, Miss 0 0 ∷ Break 0 ∷ [], None, stop_reached, resume_move, refl)

-- in some machine the guard is inside
pub guarded_reached : IsReached guarded_past (Miss 0 0 ∷ Break 0 ∷ [])
guarded_reached = (guarded, record { valid = page_valid; moves = guard_reached })
