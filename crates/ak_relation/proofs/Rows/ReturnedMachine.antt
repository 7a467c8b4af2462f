-- The machine of the example after the kernel entered with an answer, and the runtime gave it to the program.
use Rattle.std.proofs.Common.{◌≡◌, ℕ, ◌<◌, List, [], ◌∷◌, length, refl, sym, ◌∙◌, subst, arith}
use Rattle.std.specs.Prelude.{◌^◌, None}
use Rattle.ak_core.specs.Mem.{Access, access_to}
use Rattle.ak_core.specs.declared.event.Event.TheVariants.{Call}
use Rattle.ak_core.specs.declared.page.Kind.TheVariants.{Write, Exec}
use Rattle.ak_core.specs.declared.moves.Move.TheVariants.{Run, Eenter}
use Rattle.ak_core.specs.declared.moves.Answer.{Answer}
use Rattle.ak_core.specs.declared.moves.Answer.TheVariants.{Ok}
use Rattle.ak_core.specs.declared.moves.Exit.{Exit}
use Rattle.ak_core.specs.declared.registers.Regs.{Regs}
use Rattle.ak_model.specs.Flat.Instructions.{with_reg, rax}
use Rattle.ak_model.specs.Flat.FlatRuns.{Flat}
use Rattle.ak_model.specs.Control.ControlState.{Calling, Context, Enter, Control}
use Rattle.ak_pager.specs.Contexts.{entry_regs}
use Rattle.ak_ssa.specs.SavedFrames.{SavedFrame}
use Rattle.ak_ssa.specs.SavedRegisters.{AreRegs}
use Rattle.ak_relation.specs.State.MachineState.{State}
use Rattle.ak_relation.specs.Premises.EnterRows.{enter_row}
use Rattle.ak_pager.specs.Rows.{entry_row}
use Rattle.ak_pager.specs.StepsTo.{Performs, ReadsKept, reads_of, MayStep, StepsTo, memory_of}
use Rattle.ak_pager.specs.declared.turn.RtTurn.{RtTurn}
use Rattle.ak_relation.specs.Relation.Does.{IsTurn, IsMove}
use Rattle.ak_relation.specs.Relation.MoveByMove.{AreMoves}
use Rattle.ak_relation.specs.Relation.Example.{one_page, input_program, answering_past, returned_past, IsReached}
use Rattle.ak_relation.proofs.Runs.WholeRuns.{still_moves}
use Rattle.ak_relation.proofs.Rows.BlankPages.{blank, blank_at, blank_whole}
use Rattle.ak_relation.proofs.Rows.BuiltMachine.{page_valid}
use Rattle.ak_relation.proofs.Rows.CalledMachine.{after_regs, kept_frame, kept_frame_bytes, kept_size, called, called_whole, call_reached}
use Rattle.ak_relation.proofs.Rows.StatePages.{state_with, state_whole, state_frame, state_phase, state_size, no_clusters}
use Rattle.ak_relation.proofs.Rows.StepContexts.{phase_calling, no_queue, entry_context, same_regs}
use Rattle.ak_relation.proofs.Rows.StepMemory.{all_areas, state_alone, Written, at_place, over, over_whole, holds_of, bytes_of, in_frames, Changes, Steps, step_turn, gone_with, entered_with, entered_move}

-- ---- The entering

-- the machine
abbrev pub answering : State
answering = entered_with called 0 9 blank

enter_answered : enter_row one_page called 0 ≡ Ok
unfolding blank
enter_answered = refl

enter_move : IsMove one_page called answering (Eenter (record { 0 = 0 }) 9) Ok None
enter_move =
    entered_move called 0 9 blank (omega arith) (blank_at 24 4) (record { saved_is = blank_at 24 4; pending_is = blank_at 72 1 }) blank_whole called_whole enter_answered

answering_whole : (g : ℕ) → length (answering.frames g) ≡ 4096
answering_whole = over_whole (at_place 2 blank ∷ []) called.frames (blank_whole, tt) called_whole

-- ---- The step

-- the program's registers, with the value
abbrev pub returned_regs : Regs
returned_regs = with_reg after_regs rax 9

abbrev returned_written : List Written
returned_written = at_place 5 (state_with 1 0 0 kept_frame_bytes) ∷ []

-- the machine
abbrev pub returned : State
returned = gone_with answering returned_written returned_regs

pub returned_whole : (g : ℕ) → length (returned.frames g) ≡ 4096
returned_whole = over_whole (in_frames answering returned_written) answering.frames (state_whole 1 0 0 kept_frame_bytes kept_size, tt) answering_whole

abbrev granted : List Access
granted = access_to 6 Exec ∷ access_to 5 Write ∷ []

abbrev held_pages : List ℕ
held_pages = 5 ∷ 6 ∷ []

changes : Changes answering returned held_pages returned_written granted
changes = record {
  found = (refl, (refl, tt));
  wrote = (refl, (refl, tt));
  frames = λ g. refl;
  among = (refl, tt);
  seen = (omega arith, refl, refl, (omega arith, refl, refl, tt));
  whole = returned_whole;
  entries = refl;
  stamps = refl;
  sealed_pages = refl;
  next = refl;
  table = refl;
  count = refl;
  queue = refl;
}

abbrev calling_state : List ℕ
calling_state = state_with 2 0 0 kept_frame_bytes

abbrev before : ℕ → List ℕ
before = bytes_of answering

abbrev after : ℕ → List ℕ
after = over returned_written before

kept_words : AreRegs kept_frame.regs
kept_words =
    let zero : 0 < 2 ^ 64 = omega arith in
    let leaf : 4 < 2 ^ 64 = omega arith in
    let number : 2 < 2 ^ 64 = omega arith in
    let next : 268435480 < 2 ^ 64 = omega arith in
    record {
      sixteen = refl;
      words = (leaf, (next, (zero, (zero, (zero, (zero, (zero, (number, (zero, (zero, (zero, (zero, (zero, (zero, (zero, (zero, tt))))))))))))))));
      rip = omega arith;
    }

module _ (control : Control) (flat : Flat) (may : MayStep one_page control (Enter 0 9) flat (entry_regs one_page 0 9) (memory_of (holds_of held_pages) before)) where
  calling : control.phase ≡ Calling
  calling = let state = may.state in phase_calling control.phase (sym (state_phase 2 0 0 kept_frame_bytes) ∙ state.phase_is)

  empty : control.queue ≡ []
  empty = let state = may.state in no_queue control.queue (sym (state_size 2 0 0 kept_frame_bytes) ∙ state.size)

  returns : (kept saved : SavedFrame) → Performs one_page (entry_row one_page (reads_of one_page Calling [] before (record kept { regs = after_regs }) saved) 0 9 Calling) before after RtTurn.Go returned_regs
  returns kept saved = record {
    ends = (refl, refl);
    state = record {
      phase_is = state_phase 1 0 0 kept_frame_bytes;
      more = tt;
      size = state_size 1 0 0 kept_frame_bytes;
      clusters = no_clusters (state_with 1 0 0 kept_frame_bytes);
      frame_is = state_frame 1 0 0 kept_frame_bytes kept_size ∙ sym (state_frame 2 0 0 kept_frame_bytes kept_size);
    };
    areas = all_areas (state_with 1 0 0 kept_frame_bytes) before;
    others = λ p apart areas. state_alone (state_with 1 0 0 kept_frame_bytes) before p apart;
  }

  performs : (kept saved : SavedFrame) → ReadsKept one_page control.phase calling_state kept →
      Performs one_page (entry_row one_page (reads_of one_page control.phase control.queue before kept saved) 0 9 control.phase) before after RtTurn.Go returned_regs
  performs kept saved reads =
      let reads_one : ReadsKept one_page Calling calling_state kept = subst (λ phase. ReadsKept one_page phase calling_state kept) calling reads in
      let same : after_regs ≡ kept.regs = same_regs calling_state kept_frame kept kept_words reads_one.1 (state_frame 2 0 0 kept_frame_bytes kept_size) reads_one.0 in
      subst (λ phase. Performs one_page (entry_row one_page (reads_of one_page phase control.queue before kept saved) 0 9 phase) before after RtTurn.Go returned_regs) (sym calling)
      (subst (λ queue. Performs one_page (entry_row one_page (reads_of one_page Calling queue before kept saved) 0 9 Calling) before after RtTurn.Go returned_regs) (sym empty)
      (subst (λ (regs : Regs). Performs one_page (entry_row one_page (reads_of one_page Calling [] before (record kept { regs = regs }) saved) 0 9 Calling) before after RtTurn.Go returned_regs) same (returns kept saved)))

  return_step : StepsTo one_page control (Enter 0 9) (entry_regs one_page 0 9) before after granted None RtTurn.Go returned_regs
  return_step = record { works = λ none. (refl, λ kept saved reads_kept reads. performs kept saved reads_kept); faults = λ t e. absurd (cc) }

steps : Steps answering held_pages returned_written granted RtTurn.Go returned_regs
steps control context flat may =
    entry_context 0 9 control flat
    (λ (c : Context). MayStep one_page control c flat (entry_regs one_page 0 9) (memory_of (holds_of held_pages) before) → StepsTo one_page control c (entry_regs one_page 0 9) before after granted None RtTurn.Go returned_regs)
    (return_step control flat) context may.row may.registers may

return_turn : IsTurn one_page 0 answering returned None None
return_turn =
    step_turn answering returned held_pages returned_written granted RtTurn.Go returned_regs refl changes
    (record { regs_are = refl; inside = refl; fills = refl; tcs = refl; ssa = refl; others = λ q e. rw e refl; track = refl }) steps

return_move : IsMove one_page answering returned (Run (record { 0 = 0 }) 1) (Answer.Exit Exit.Still) None
return_move = still_moves one_page (record { 0 = 0 }) answering refl refl 1 returned None (answering, None, None, (refl, refl), return_turn, refl)

-- the moves
enter_reached : AreMoves one_page input_program answering_past answering (Call 3 2 0 ∷ [])
enter_reached = (called, Call 3 2 0 ∷ [], None, call_reached, enter_move, refl)

pub return_reached : AreMoves one_page input_program returned_past returned (Call 3 2 0 ∷ [])
return_reached = (answering, Call 3 2 0 ∷ [], None, enter_reached, return_move, refl)

-- some machine's program goes on with a value
pub returned_reached : IsReached returned_past (Call 3 2 0 ∷ [])
returned_reached = (returned, record { valid = page_valid; moves = return_reached })
