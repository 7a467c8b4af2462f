-- The machine of the example after the processor entered again, and the runtime asked for the cluster that was missed.
use Rattle.std.proofs.Common.{◌≡◌, ℕ, zero, suc, ◌<◌, List, [], ◌∷◌, length, refl, sym, ◌∙◌, subst, arith}
use Rattle.std.specs.Prelude.{◌^◌, None, Some}
use Rattle.ak_core.specs.Mem.{Access, access_to}
use Rattle.ak_core.specs.declared.event.Event.TheVariants.{Miss}
use Rattle.ak_core.specs.declared.page.Kind.TheVariants.{Write, Exec}
use Rattle.ak_core.specs.declared.moves.Move.TheVariants.{Run, Eenter}
use Rattle.ak_core.specs.declared.moves.Answer.{Answer}
use Rattle.ak_core.specs.declared.moves.Answer.TheVariants.{Ok}
use Rattle.ak_core.specs.declared.moves.Exit.{Exit}
use Rattle.ak_model.specs.Paging.Pages.{ssa_page}
use Rattle.ak_model.specs.Flat.FlatRuns.{Flat}
use Rattle.ak_model.specs.Control.ControlState.{Running, Context, Enter, Control}
use Rattle.ak_pager.specs.Contexts.{entry_regs}
use Rattle.ak_relation.specs.State.MachineState.{State}
use Rattle.ak_relation.specs.Premises.EnterRows.{enter_row}
use Rattle.ak_pager.specs.Rows.{guard_frame, entry_row}
use Rattle.ak_pager.specs.StepsTo.{Performs, ReadsSaved, reads_of, MayStep, StepsTo, memory_of}
use Rattle.ak_pager.specs.declared.turn.RtTurn.{RtTurn}
use Rattle.ak_relation.specs.Relation.Does.{IsTurn, IsMove}
use Rattle.ak_relation.specs.Relation.MoveByMove.{AreMoves}
use Rattle.ak_relation.specs.Relation.Example.{one_page, input_program, handling_past, asked_past, IsReached}
use Rattle.ak_ssa.specs.SavedFrames.{SavedFrame, frame_bytes, area_place, HasFrame, saved_bytes}
use Rattle.ak_ssa.specs.SavedRegisters.{AreRegs}
use Rattle.ak_ssa.specs.FramesFit.{FrameFits, HasRoom}
use Rattle.ak_ssa.proofs.FramesReturn.{same_frame}
use Rattle.ak_relation.proofs.Runs.WholeRuns.{exit_moves}
use Rattle.ak_relation.proofs.Rows.BlankPages.{one_saved, one_saved_whole, one_saved_at, none_refused, one_refused, refused_saved, slot_number, same_kept, area_with, area_whole, area_has}
use Rattle.ak_relation.proofs.Rows.BuiltMachine.{page_valid}
use Rattle.ak_relation.proofs.Rows.StartedMachine.{first_regs}
use Rattle.ak_relation.proofs.Rows.MissedMachine.{program_frame, frame_size, missed, missed_whole, miss_reached}
use Rattle.ak_relation.proofs.Rows.StatePages.{state_with, state_whole, state_frame, state_phase, state_more, state_size, no_clusters}
use Rattle.ak_relation.proofs.Rows.StepContexts.{phase_running, no_queue, entry_context}
use Rattle.ak_relation.proofs.Rows.StepMemory.{later_areas, state_and_area, Written, at_place, over, over_whole, holds_of, bytes_of, in_frames, Changes, Steps, step_turn, left_with, entered_with, entered_move}

-- ---- The entering

-- the machine
abbrev pub handling : State
handling = entered_with missed 1 7 one_saved

enter_answered : enter_row one_page missed 0 ≡ Ok
unfolding one_refused
enter_answered = refl

enter_move : IsMove one_page missed handling (Eenter (record { 0 = 0 }) 7) Ok None
enter_move =
    entered_move missed 1 7 one_saved (omega arith) refused_saved (record { saved_is = one_saved_at; pending_is = none_refused }) one_saved_whole missed_whole enter_answered

handling_whole : (g : ℕ) → length (handling.frames g) ≡ 4096
handling_whole = over_whole (at_place 2 one_saved ∷ []) missed.frames (one_saved_whole, tt) missed_whole

-- ---- The step

-- the program's frame, and the guard's
abbrev pub program_bytes : List ℕ
program_bytes = frame_bytes one_page program_frame

abbrev pub guard_bytes : List ℕ
guard_bytes = frame_bytes one_page (guard_frame one_page)

pub guard_size : length guard_bytes ≡ 200
unfolding saved_bytes
guard_size = refl

-- STATE has the program's frame, and the area that of the guard
abbrev asked_written : List Written
asked_written = at_place 5 (state_with 3 0 0 program_bytes) ∷ at_place 2 (area_with guard_bytes) ∷ []

-- the machine
abbrev pub asked : State
asked = left_with handling asked_written

pub asked_whole : (g : ℕ) → length (asked.frames g) ≡ 4096
asked_whole =
    over_whole (in_frames handling asked_written) handling.frames (state_whole 3 0 0 program_bytes frame_size, (area_whole guard_bytes guard_size, tt)) handling_whole

abbrev granted : List Access
granted = access_to 6 Exec ∷ access_to 5 Write ∷ access_to 2 Write ∷ []

abbrev held_pages : List ℕ
held_pages = 2 ∷ 5 ∷ 6 ∷ []

changes : Changes handling asked held_pages asked_written granted
changes = record {
  found = (refl, (refl, (refl, tt)));
  wrote = (refl, (refl, (refl, tt)));
  frames = λ g. refl;
  among = (refl, (refl, tt));
  seen = (omega arith, refl, refl, (omega arith, refl, refl, (omega arith, refl, refl, tt)));
  whole = asked_whole;
  entries = refl;
  stamps = refl;
  sealed_pages = refl;
  next = refl;
  table = refl;
  count = refl;
  queue = refl;
}

-- ---- Its row

pub room : HasRoom one_page
room = omega arith

pub first_words : AreRegs first_regs
first_words =
    let zero : 0 < 2 ^ 64 = omega arith in
    record {
      sixteen = refl;
      words = (zero, (zero, (zero, (zero, (zero, (zero, (zero, (zero, (zero, (zero, (zero, (zero, (zero, (zero, (zero, (zero, tt))))))))))))))));
      rip = omega arith;
    }

pub program_fits : FrameFits one_page program_frame
program_fits = record { words = first_words; cause = omega arith }

abbrev before : ℕ → List ℕ
before = bytes_of handling

abbrev after : ℕ → List ℕ
after = over asked_written before

guards : (i : ℕ) → i < 1 → HasFrame one_page area_place (after (ssa_page one_page i)) (guard_frame one_page)
guards zero lt = area_has guard_bytes guard_size
guards (suc i) lt = absurd (omega arith)

module _ (control : Control) (flat : Flat) (may : MayStep one_page control (Enter 1 7) flat (entry_regs one_page 1 7) (memory_of (holds_of held_pages) before)) where
  running : control.phase ≡ Running
  running = let state = may.state in phase_running control.phase (sym slot_number ∙ state.phase_is)

  empty : control.queue ≡ []
  empty = let state = may.state in no_queue control.queue (sym same_kept.0 ∙ state.size)

  asks : Performs one_page (entry_row one_page (reads_of one_page Running [] before program_frame program_frame) 1 7 Running) before after (RtTurn.Leave (Exit.Ask 0 0)) first_regs
  asks = record {
    ends = refl;
    state = record {
      phase_is = state_phase 3 0 0 program_bytes;
      more = state_more 3 0 0 program_bytes;
      size = state_size 3 0 0 program_bytes;
      clusters = no_clusters (state_with 3 0 0 program_bytes);
      frame_is = state_frame 3 0 0 program_bytes frame_size ∙ sym (area_has program_bytes frame_size);
    };
    areas = (guards, later_areas (state_with 3 0 0 program_bytes) (area_with guard_bytes) before);
    others = state_and_area (state_with 3 0 0 program_bytes) (area_with guard_bytes) before;
  }

  performs : (kept saved : SavedFrame) → ReadsSaved one_page before (Enter 1 7) saved →
      Performs one_page (entry_row one_page (reads_of one_page control.phase control.queue before kept saved) 1 7 control.phase) before after (RtTurn.Leave (Exit.Ask 0 0)) first_regs
  performs kept saved reads =
      let same : program_frame ≡ saved =
      same_frame one_page room area_place (area_with program_bytes) program_frame saved program_fits reads.1 (area_has program_bytes frame_size) reads.0 in
      subst (λ phase. Performs one_page (entry_row one_page (reads_of one_page phase control.queue before kept saved) 1 7 phase) before after (RtTurn.Leave (Exit.Ask 0 0)) first_regs) (sym running)
      (subst (λ queue. Performs one_page (entry_row one_page (reads_of one_page Running queue before kept saved) 1 7 Running) before after (RtTurn.Leave (Exit.Ask 0 0)) first_regs) (sym empty)
      (subst (λ frame. Performs one_page (entry_row one_page (reads_of one_page Running [] before kept frame) 1 7 Running) before after (RtTurn.Leave (Exit.Ask 0 0)) first_regs) same asks))

  asking : StepsTo one_page control (Enter 1 7) (entry_regs one_page 1 7) before after granted None (RtTurn.Leave (Exit.Ask 0 0)) first_regs
  asking = record { works = λ none. (refl, λ kept saved reads_kept reads. performs kept saved reads); faults = λ t e. absurd (cc) }

steps : Steps handling held_pages asked_written granted (RtTurn.Leave (Exit.Ask 0 0)) first_regs
steps control context flat may =
    entry_context 1 7 control flat
    (λ (c : Context). MayStep one_page control c flat (entry_regs one_page 1 7) (memory_of (holds_of held_pages) before) → StepsTo one_page control c (entry_regs one_page 1 7) before after granted None (RtTurn.Leave (Exit.Ask 0 0)) first_regs)
    (asking control flat) context may.row may.registers may

ask_turn : IsTurn one_page 0 handling asked (Some (Exit.Ask 0 0)) None
ask_turn =
    step_turn handling asked held_pages asked_written granted (RtTurn.Leave (Exit.Ask 0 0)) first_regs refl changes
    (record { left = refl; flushed = refl; others = λ q e. rw e refl; track = refl }) steps

ask_move : IsMove one_page handling asked (Run (record { 0 = 0 }) 1) (Answer.Exit (Exit.Ask 0 0)) None
ask_move = exit_moves one_page (record { 0 = 0 }) handling refl refl 0 1 handling asked (Exit.Ask 0 0) None None None (omega arith) (refl, refl) ask_turn refl

-- the moves
enter_reached : AreMoves one_page input_program handling_past handling (Miss 0 0 ∷ [])
enter_reached = (missed, Miss 0 0 ∷ [], None, miss_reached, enter_move, refl)

pub ask_reached : AreMoves one_page input_program asked_past asked (Miss 0 0 ∷ [])
ask_reached = (handling, Miss 0 0 ∷ [], None, enter_reached, ask_move, refl)

-- some machine asks for a cluster, and keeps the program's frame
pub asked_reached : IsReached asked_past (Miss 0 0 ∷ [])
asked_reached = (asked, record { valid = page_valid; moves = ask_reached })
