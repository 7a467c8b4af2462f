-- The machine of the example after an instruction of the program that is undefined, which raises a vector; and after the runtime ended the
-- program by it.
use Rattle.std.proofs.Common.{◌≡◌, ◌≢◌, ℕ, [], ◌∷◌, drop, refl, ap, sym, ◌∙◌, arith, length, zero, suc, List, ◌<◌, subst}
use Rattle.std.specs.Prelude.{true, None, Some, ◌^◌}
use Rattle.ak_core.specs.declared.event.Event.TheVariants.{Call, Trap}
use Rattle.ak_core.specs.declared.page.Kind.TheVariants.{Exec, Write}
use Rattle.ak_core.specs.declared.moves.Move.TheVariants.{Run, Eenter}
use Rattle.ak_core.specs.declared.moves.Answer.{Answer}
use Rattle.ak_core.specs.declared.moves.Exit.{Exit}
use Rattle.ak_core.specs.declared.registers.Regs.{Regs}
use Rattle.ak_core.specs.Mem.{Access, access_to}
use Rattle.ak_core.specs.declared.moves.Answer.TheVariants.{Ok}
use Rattle.ak_model.specs.Flat.Encodings.{decode}
use Rattle.ak_model.specs.Flat.FlatRuns.{Flat, End, line_of, in_first_page, line, end_of, page_bytes}
use Rattle.ak_model.specs.Misses.Reached.{permitted_accesses}
use Rattle.ak_model.specs.Misses.KeptTranslations.{is_among}
use Rattle.ak_model.specs.Paging.Pages.{ssa_page}
use Rattle.ak_model.specs.Control.ControlState.{Running, Context, Enter, Control}
use Rattle.ak_pager.specs.Contexts.{entry_regs}
use Rattle.ak_relation.specs.Program.Seeing.{Sees}
use Rattle.ak_relation.specs.State.MachineState.{State}
use Rattle.ak_relation.specs.Premises.Faulting.{Traps}
use Rattle.ak_relation.specs.Premises.Saving.{Saves}
use Rattle.ak_relation.specs.Premises.EnterRows.{enter_row}
use Rattle.ak_pager.specs.Rows.{guard_frame, entry_row}
use Rattle.ak_pager.specs.StepsTo.{Performs, ReadsSaved, reads_of, MayStep, StepsTo, memory_of}
use Rattle.ak_pager.specs.declared.turn.RtTurn.{RtTurn}
use Rattle.ak_relation.specs.Relation.Does.{IsTurn, IsMove}
use Rattle.ak_relation.specs.Relation.MoveByMove.{AreMoves}
use Rattle.ak_relation.specs.Relation.Example.{one_page, input_program, raised_past, trapping_past, trapped_past, IsReached}
use Rattle.ak_relation.proofs.Exits.ExitTurns.{vector_turns}
use Rattle.ak_relation.proofs.Runs.WholeRuns.{exit_moves}
use Rattle.ak_relation.proofs.Rows.BlankPages.{one_refused, one_refused_whole, refused_saved, refused_flag, one_saved, one_saved_whole, one_saved_at, none_refused, area_with, area_whole, area_has}
use Rattle.ak_relation.proofs.Rows.BuiltMachine.{page_valid}
use Rattle.ak_relation.proofs.Rows.StartedMachine.{fetch, first_regs}
use Rattle.ak_relation.proofs.Rows.ReturnedMachine.{returned_regs, returned, returned_whole, return_reached}
use Rattle.ak_relation.proofs.Rows.StepMemory.{exit_bytes, saved_with, saved_whole, saves_with, later_areas, state_and_area, Written, at_place, over, over_whole, holds_of, bytes_of, in_frames, Changes, Steps, step_turn, left_with, entered_with, entered_move}
use Rattle.ak_ssa.specs.SavedFrames.{ByVector, frame_bytes, SavedFrame, area_place, HasFrame, saved_bytes}
use Rattle.ak_ssa.specs.FramesFit.{FrameFits}
use Rattle.ak_ssa.proofs.FramesReturn.{same_frame}
use Rattle.ak_relation.proofs.Rows.AskedMachine.{guard_bytes, guard_size, room}
use Rattle.ak_relation.proofs.Rows.CalledMachine.{kept_frame_bytes, kept_size}
use Rattle.ak_relation.proofs.Rows.StatePages.{state_with, state_whole, state_frame, state_phase, state_status, state_size, no_clusters}
use Rattle.ak_relation.proofs.Rows.StepContexts.{phase_running, no_queue, entry_context}

-- ---- The instruction

trap_decoded : (flat : Flat) → in_first_page one_page (record flat { regs = returned_regs }) 0 (decode (drop 24 input_program)) ≡ line_of (fetch ∷ []) (End.Vector 6)
unfolding input_program
trap_decoded flat = refl

trap_line : (flat : Flat) → flat.regs ≡ returned_regs → page_bytes flat 0 ≡ input_program → line one_page flat ≡ line_of (fetch ∷ []) (End.Vector 6)
trap_line flat same bytes =
    ap (λ (regs : Regs). line one_page (record flat { regs = regs })) same
    ∙ ap (λ page. in_first_page one_page (record flat { regs = returned_regs }) 0 (decode (drop 24 page))) bytes ∙ trap_decoded flat

traps : (flat : Flat) → Sees one_page returned 0 flat → Traps one_page returned [] flat 6
traps flat seen =
    let line_is = trap_line flat (sym seen.regs) (sym (seen.walked 0 Exec (omega arith) refl)) in
    record {
      ends = ap (end_of one_page) line_is;
      walked = fetch ∷ [];
      found = refl;
      covers = λ t e. sym (ap (λ l. is_among (permitted_accesses one_page l.accesses) t) line_is) ∙ e;
    }

-- ---- The machine

abbrev pub raised : State
raised = saved_with returned (ByVector 6) one_refused

frame_size : length (exit_bytes returned (ByVector 6)) ≡ 200
unfolding saved_bytes
frame_size = refl

raised_whole : (g : ℕ) → length (raised.frames g) ≡ 4096
raised_whole = saved_whole returned (ByVector 6) one_refused one_refused_whole frame_size returned_whole

saves : Saves one_page 0 0 true (ByVector 6) returned raised
saves =
    saves_with returned 0 true (ByVector 6) one_refused [] (λ runtime. absurd (cc)) (omega arith) refl (record { saved_is = refused_saved; pending_is = refused_flag }) one_refused_whole frame_size
    returned_whole refl

other_vector : ◌≢◌ {A = ℕ} 6 14
other_vector e = absurd (omega arith)

raise_turn : IsTurn one_page 0 returned raised (Some (Exit.Vector 6)) (Some (Trap 4 6))
raise_turn = vector_turns one_page page_valid 0 returned raised refl 6 traps other_vector (λ tcs. saves)

raise_move : IsMove one_page returned raised (Run (record { 0 = 0 }) 1) (Answer.Exit (Exit.Vector 6)) (Some (Trap 4 6))
raise_move =
    exit_moves one_page (record { 0 = 0 }) returned refl refl 0 1 returned raised (Exit.Vector 6) None (Some (Trap 4 6)) (Some (Trap 4 6)) (omega arith) (refl, refl) raise_turn refl

-- the moves
raise_reached : AreMoves one_page input_program raised_past raised (Call 3 2 0 ∷ Trap 4 6 ∷ [])
raise_reached = (returned, Call 3 2 0 ∷ [], Some (Trap 4 6), return_reached, raise_move, refl)

-- some machine's program raised a vector
pub raised_reached : IsReached raised_past (Call 3 2 0 ∷ Trap 4 6 ∷ [])
raised_reached = (raised, record { valid = page_valid; moves = raise_reached })

-- ---- The entering

-- the machine
abbrev trapping : State
trapping = entered_with raised 1 7 one_saved

enter_answered : enter_row one_page raised 0 ≡ Ok
unfolding one_refused
enter_answered = refl

enter_move : IsMove one_page raised trapping (Eenter (record { 0 = 0 }) 7) Ok None
enter_move =
    entered_move raised 1 7 one_saved (omega arith) refused_saved (record { saved_is = one_saved_at; pending_is = none_refused }) one_saved_whole raised_whole enter_answered

trapping_whole : (g : ℕ) → length (trapping.frames g) ≡ 4096
trapping_whole = over_whole (at_place 2 one_saved ∷ []) raised.frames (one_saved_whole, tt) raised_whole

-- ---- The step

-- STATE says which vector ended the program, and the area has the guard's frame
abbrev trapped_state : List ℕ
trapped_state = state_with 5 6 0 kept_frame_bytes

abbrev trapped_written : List Written
trapped_written = at_place 5 trapped_state ∷ at_place 2 (area_with guard_bytes) ∷ []

-- the machine
abbrev pub trapped : State
trapped = left_with trapping trapped_written

trapped_whole : (g : ℕ) → length (trapped.frames g) ≡ 4096
trapped_whole =
    over_whole (in_frames trapping trapped_written) trapping.frames (state_whole 5 6 0 kept_frame_bytes kept_size, (area_whole guard_bytes guard_size, tt)) trapping_whole

abbrev granted : List Access
granted = access_to 6 Exec ∷ access_to 5 Write ∷ access_to 2 Write ∷ []

abbrev held_pages : List ℕ
held_pages = 2 ∷ 5 ∷ 6 ∷ []

changes : Changes trapping trapped held_pages trapped_written granted
changes = record {
  found = (refl, (refl, (refl, tt)));
  wrote = (refl, (refl, (refl, tt)));
  frames = λ g. refl;
  among = (refl, (refl, tt));
  seen = (omega arith, refl, refl, (omega arith, refl, refl, (omega arith, refl, refl, tt)));
  whole = trapped_whole;
  entries = refl;
  stamps = refl;
  sealed_pages = refl;
  next = refl;
  table = refl;
  count = refl;
  queue = refl;
}

-- ---- Its row

-- the frame that was saved
abbrev raised_frame : SavedFrame
raised_frame = record { regs = returned_regs; cause = ByVector 6 }

abbrev raised_bytes : List ℕ
raised_bytes = frame_bytes one_page raised_frame

raised_fits : FrameFits one_page raised_frame
raised_fits =
    let zero : 0 < 2 ^ 64 = omega arith in
    let value : 9 < 2 ^ 64 = omega arith in
    let number : 2 < 2 ^ 64 = omega arith in
    let next : 268435480 < 2 ^ 64 = omega arith in
    record {
      words = record {
        sixteen = refl;
        words = (value, (next, (zero, (zero, (zero, (zero, (zero, (number, (zero, (zero, (zero, (zero, (zero, (zero, (zero, (zero, tt))))))))))))))));
        rip = omega arith;
      };
      cause = omega arith;
    }

abbrev before : ℕ → List ℕ
before = bytes_of trapping

abbrev after : ℕ → List ℕ
after = over trapped_written before

guards : (i : ℕ) → i < 1 → HasFrame one_page area_place (after (ssa_page one_page i)) (guard_frame one_page)
guards zero lt = area_has guard_bytes guard_size
guards (suc i) lt = absurd (omega arith)

ends : (kept : SavedFrame) → Performs one_page (entry_row one_page (reads_of one_page Running [] before kept raised_frame) 1 7 Running) before after (RtTurn.Leave (Exit.Trapped 6)) first_regs
ends kept = record {
  ends = refl;
  state = record {
    phase_is = state_phase 5 6 0 kept_frame_bytes;
    more = (state_status 5 6 0 kept_frame_bytes, omega arith);
    size = state_size 5 6 0 kept_frame_bytes;
    clusters = no_clusters trapped_state;
    frame_is = state_frame 5 6 0 kept_frame_bytes kept_size ∙ sym (state_frame 1 0 0 kept_frame_bytes kept_size);
  };
  areas = (guards, later_areas trapped_state (area_with guard_bytes) before);
  others = state_and_area trapped_state (area_with guard_bytes) before;
}

module _ (control : Control) (flat : Flat) (may : MayStep one_page control (Enter 1 7) flat (entry_regs one_page 1 7) (memory_of (holds_of held_pages) before)) where
  running : control.phase ≡ Running
  running = let state = may.state in phase_running control.phase (sym (state_phase 1 0 0 kept_frame_bytes) ∙ state.phase_is)

  empty : control.queue ≡ []
  empty = let state = may.state in no_queue control.queue (sym (state_size 1 0 0 kept_frame_bytes) ∙ state.size)

  performs : (kept saved : SavedFrame) → ReadsSaved one_page before (Enter 1 7) saved →
      Performs one_page (entry_row one_page (reads_of one_page control.phase control.queue before kept saved) 1 7 control.phase) before after (RtTurn.Leave (Exit.Trapped 6)) first_regs
  performs kept saved reads =
      let same : raised_frame ≡ saved =
      same_frame one_page room area_place (area_with raised_bytes) raised_frame saved raised_fits reads.1 (area_has raised_bytes frame_size) reads.0 in
      subst (λ phase. Performs one_page (entry_row one_page (reads_of one_page phase control.queue before kept saved) 1 7 phase) before after (RtTurn.Leave (Exit.Trapped 6)) first_regs) (sym running)
      (subst (λ queue. Performs one_page (entry_row one_page (reads_of one_page Running queue before kept saved) 1 7 Running) before after (RtTurn.Leave (Exit.Trapped 6)) first_regs) (sym empty)
      (subst (λ frame. Performs one_page (entry_row one_page (reads_of one_page Running [] before kept frame) 1 7 Running) before after (RtTurn.Leave (Exit.Trapped 6)) first_regs) same (ends kept)))

  trap_step : StepsTo one_page control (Enter 1 7) (entry_regs one_page 1 7) before after granted None (RtTurn.Leave (Exit.Trapped 6)) first_regs
  trap_step = record { works = λ none. (refl, λ kept saved reads_kept reads. performs kept saved reads); faults = λ t e. absurd (cc) }

steps : Steps trapping held_pages trapped_written granted (RtTurn.Leave (Exit.Trapped 6)) first_regs
steps control context flat may =
    entry_context 1 7 control flat
    (λ (c : Context). MayStep one_page control c flat (entry_regs one_page 1 7) (memory_of (holds_of held_pages) before) → StepsTo one_page control c (entry_regs one_page 1 7) before after granted None (RtTurn.Leave (Exit.Trapped 6)) first_regs)
    (trap_step control flat) context may.row may.registers may

trap_turn : IsTurn one_page 0 trapping trapped (Some (Exit.Trapped 6)) None
trap_turn =
    step_turn trapping trapped held_pages trapped_written granted (RtTurn.Leave (Exit.Trapped 6)) first_regs refl changes
    (record { left = refl; flushed = refl; others = λ q e. rw e refl; track = refl }) steps

trap_move : IsMove one_page trapping trapped (Run (record { 0 = 0 }) 1) (Answer.Exit (Exit.Trapped 6)) None
trap_move =
    exit_moves one_page (record { 0 = 0 }) trapping refl refl 0 1 trapping trapped (Exit.Trapped 6) None None None (omega arith) (refl, refl) trap_turn refl

-- the moves
enter_reached : AreMoves one_page input_program trapping_past trapping (Call 3 2 0 ∷ Trap 4 6 ∷ [])
enter_reached = (raised, Call 3 2 0 ∷ Trap 4 6 ∷ [], None, raise_reached, enter_move, refl)

trap_reached : AreMoves one_page input_program trapped_past trapped (Call 3 2 0 ∷ Trap 4 6 ∷ [])
trap_reached = (trapping, Call 3 2 0 ∷ Trap 4 6 ∷ [], None, enter_reached, trap_move, refl)

-- some machine's program was ended by a vector
pub trapped_reached : IsReached trapped_past (Call 3 2 0 ∷ Trap 4 6 ∷ [])
trapped_reached = (trapped, record { valid = page_valid; moves = trap_reached })
