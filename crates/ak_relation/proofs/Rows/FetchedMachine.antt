-- The machine of the example after the kernel mapped the page that was asked for, and the runtime found it: three turns.
use Rattle.std.proofs.Common.{◌≡◌, ℕ, List, [], ◌∷◌, length, refl, ap, sym, ◌∙◌, subst, arith}
use Rattle.std.specs.Prelude.{None, Some}
use Rattle.ak_core.specs.Mem.{Access, access_to}
use Rattle.ak_core.specs.declared.event.Event.TheVariants.{Miss}
use Rattle.ak_core.specs.declared.page.Kind.TheVariants.{Write, Exec}
use Rattle.ak_core.specs.declared.page.Perm.TheVariants.{Rx}
use Rattle.ak_core.specs.declared.moves.Move.TheVariants.{Run, SetPte, Eenter}
use Rattle.ak_core.specs.declared.moves.Answer.{Answer}
use Rattle.ak_core.specs.declared.moves.Answer.TheVariants.{Ok}
use Rattle.ak_core.specs.declared.moves.Exit.{Exit}
use Rattle.ak_core.specs.declared.registers.Regs.{Regs}
use Rattle.ak_model.specs.Paging.Pages.{flags_for}
use Rattle.ak_model.specs.Flat.FlatRuns.{Flat}
use Rattle.ak_model.specs.Control.ControlState.{Phase, Asked, Context, Enter, Probe, Finish, Control}
use Rattle.ak_model.specs.Control.RuntimeTurn.{probed}
use Rattle.ak_pager.specs.Contexts.{entry_regs}
use Rattle.ak_pager.specs.RuntimePages.{IsState}
use Rattle.ak_ssa.specs.SavedFrames.{NoCause, SavedFrame, frame_bytes, saved_bytes}
use Rattle.ak_relation.specs.State.MachineState.{State}
use Rattle.ak_relation.specs.State.TableChanges.{with_mapping}
use Rattle.ak_relation.specs.Premises.EnterRows.{enter_row}
use Rattle.ak_pager.specs.Rows.{entry_row, finish_row}
use Rattle.ak_pager.specs.StepsTo.{Performs, ReadsKept, reads_of, StepsTo}
use Rattle.ak_pager.specs.declared.turn.RtTurn.{RtTurn}
use Rattle.ak_relation.specs.Relation.Does.{IsTurn, IsMove}
use Rattle.ak_relation.specs.Relation.MoveByMove.{AreMoves}
use Rattle.ak_relation.specs.Relation.Example.{one_page, input_program, restored_past, probing_past, ready_past, IsReached}
use Rattle.ak_relation.proofs.Leaves.DoneMoves.{set_pte_moves}
use Rattle.ak_relation.proofs.Runs.WholeRuns.{exit_moves}
use Rattle.ak_relation.proofs.Rows.BlankPages.{one_saved, one_saved_whole, one_saved_at, none_refused, area_with, area_whole, area_has}
use Rattle.ak_relation.proofs.Rows.BuiltMachine.{page_valid}
use Rattle.ak_relation.proofs.Rows.StartedMachine.{first_regs}
use Rattle.ak_relation.proofs.Rows.MissedMachine.{program_frame, frame_size}
use Rattle.ak_relation.proofs.Rows.AskedMachine.{program_bytes, asked, asked_whole, first_words, ask_reached}
use Rattle.ak_relation.proofs.Rows.StatePages.{state_with, state_whole, state_frame, state_phase, state_more, state_size, one_cluster}
use Rattle.ak_relation.proofs.Rows.StepContexts.{phase_asked, no_queue, step_regs, entry_context, probe_context, finish_context, same_regs}
use Rattle.ak_relation.proofs.Rows.StepMemory.{later_areas, state_and_area, Written, at_place, over, over_whole, bytes_of, in_frames, Changes, Steps, step_turn, left_with, gone_with, entered_with, entered_move}

-- ---- The page table, and the entering

-- the machine
abbrev pub restored : State
restored = with_mapping asked 0 (record { frame = 8; flags = flags_for Rx })

map_move : IsMove one_page asked restored (SetPte (record { 0 = 0 }) (record { 0 = 8 }) (flags_for Rx)) Ok None
map_move = set_pte_moves one_page asked (record { 0 = 0 }) (record { 0 = 8 }) (flags_for Rx) refl

-- the machine
abbrev pub probing : State
probing = entered_with restored 1 7 one_saved

enter_answered : enter_row one_page restored 0 ≡ Ok
unfolding one_saved
enter_answered = refl

enter_move : IsMove one_page restored probing (Eenter (record { 0 = 0 }) 7) Ok None
enter_move =
    entered_move restored 1 7 one_saved (omega arith) one_saved_at (record { saved_is = one_saved_at; pending_is = none_refused }) one_saved_whole asked_whole enter_answered

probing_whole : (g : ℕ) → length (probing.frames g) ≡ 4096
probing_whole = over_whole (at_place 2 one_saved ∷ []) asked.frames (one_saved_whole, tt) asked_whole

-- ---- What STATE says

abbrev pub asked_state : List ℕ
asked_state = state_with 3 0 0 program_bytes

pub asks : (phase : Phase) (queue : List ℕ) (flat : Flat) → IsState one_page phase queue flat asked_state → phase ≡ Asked 0
asks phase queue flat state =
    phase_asked phase asked_state (sym (state_phase 3 0 0 program_bytes) ∙ state.phase_is) state.more (state_more 3 0 0 program_bytes)

empty : (phase : Phase) (queue : List ℕ) (flat : Flat) → IsState one_page phase queue flat asked_state → queue ≡ []
empty phase queue flat state = no_queue queue (sym (state_size 3 0 0 program_bytes) ∙ state.size)

-- ---- The entry step

abbrev pub entry_granted : List Access
entry_granted = access_to 6 Exec ∷ access_to 5 Write ∷ access_to 2 Write ∷ []

abbrev pub entry_pages : List ℕ
entry_pages = 2 ∷ 5 ∷ 6 ∷ []

-- of each machine that was entered with this STATE
module _ (base : State) (has : bytes_of (entered_with base 1 7 one_saved) 5 ≡ asked_state) where
  abbrev entry_bytes : ℕ → List ℕ
  entry_bytes = bytes_of (entered_with base 1 7 one_saved)

  entry_performs : (control : Control) → control.phase ≡ Asked 0 → (kept saved : SavedFrame) →
      Performs one_page (entry_row one_page (reads_of one_page control.phase control.queue entry_bytes kept saved) 1 7 control.phase) entry_bytes entry_bytes RtTurn.Go (step_regs 48 0)
  entry_performs control is kept saved =
      subst (λ phase. Performs one_page (entry_row one_page (reads_of one_page phase control.queue entry_bytes kept saved) 1 7 phase) entry_bytes entry_bytes RtTurn.Go (step_regs 48 0)) (sym is)
      (record { ends = (refl, record { mode = refl; rip = refl }, refl); state = refl; areas = λ i lt. refl; others = λ p apart areas. refl })

  entry_step : (control : Control) → control.phase ≡ Asked 0 → StepsTo one_page control (Enter 1 7) (entry_regs one_page 1 7) entry_bytes entry_bytes entry_granted None RtTurn.Go (step_regs 48 0)
  entry_step control is = record { works = λ none. (refl, λ kept saved reads_kept reads. entry_performs control is kept saved); faults = λ t e. absurd (cc) }

  pub entry_steps : Steps (entered_with base 1 7 one_saved) entry_pages [] entry_granted RtTurn.Go (step_regs 48 0)
  entry_steps control context flat may =
      entry_context 1 7 control flat (λ (c : Context). StepsTo one_page control c (entry_regs one_page 1 7) entry_bytes entry_bytes entry_granted None RtTurn.Go (step_regs 48 0))
      (entry_step control (asks control.phase control.queue flat (subst (IsState one_page control.phase control.queue flat) has may.state))) context may.row may.registers

-- the machine
abbrev first : State
first = gone_with probing [] (step_regs 48 0)

entry_changes : Changes probing first entry_pages [] entry_granted
entry_changes = record {
  found = (refl, (refl, (refl, tt)));
  wrote = (refl, (refl, (refl, tt)));
  frames = λ g. refl;
  among = tt;
  seen = (omega arith, refl, refl, (omega arith, refl, refl, (omega arith, refl, refl, tt)));
  whole = probing_whole;
  entries = refl;
  stamps = refl;
  sealed_pages = refl;
  next = refl;
  table = refl;
  count = refl;
  queue = refl;
}

entry_turn : IsTurn one_page 0 probing first None None
entry_turn =
    step_turn probing first entry_pages [] entry_granted RtTurn.Go (step_regs 48 0) refl entry_changes
    (record { regs_are = refl; inside = refl; fills = refl; tcs = refl; ssa = refl; others = λ q e. rw e refl; track = refl }) (entry_steps restored refl)

-- ---- The probe

-- the machine
abbrev second : State
second = gone_with first [] (step_regs 48 1)

abbrev probe_granted : List Access
probe_granted = access_to 6 Exec ∷ access_to 5 Write ∷ access_to 0 Exec ∷ []

abbrev probe_pages : List ℕ
probe_pages = 0 ∷ 5 ∷ 6 ∷ []

probe_changes : Changes first second probe_pages [] probe_granted
probe_changes = record {
  found = (refl, (refl, (refl, tt)));
  wrote = (refl, (refl, (refl, tt)));
  frames = λ g. refl;
  among = tt;
  seen = (omega arith, refl, refl, (omega arith, refl, refl, (omega arith, refl, refl, tt)));
  whole = probing_whole;
  entries = refl;
  stamps = refl;
  sealed_pages = refl;
  next = refl;
  table = refl;
  count = refl;
  queue = refl;
}

probe_step : (control : Control) → control.phase ≡ Asked 0 → StepsTo one_page control (Probe 0) (step_regs 48 0) (bytes_of first) (bytes_of first) probe_granted None RtTurn.Go (step_regs 48 1)
probe_step control is = record {
  works = λ none. (sym (ap (λ phase. access_to 6 Exec ∷ access_to 5 Write ∷ probed one_page phase 0 ∷ []) is), λ kept saved reads_kept reads. record { ends = (refl, record { mode = refl; rip = refl }, refl); state = refl; areas = λ i lt. refl; others = λ p apart areas. refl });
  faults = λ t e. absurd (cc);
}

probe_steps : Steps first probe_pages [] probe_granted RtTurn.Go (step_regs 48 1)
probe_steps control context flat may =
    let is = asks control.phase control.queue flat may.state in
    probe_context control flat is
    (λ (c : Context). StepsTo one_page control c (step_regs 48 0) (bytes_of first) (bytes_of first) probe_granted None RtTurn.Go (step_regs 48 1))
    (probe_step control is) context may.row may.registers

probe_turn : IsTurn one_page 0 first second None None
probe_turn =
    step_turn first second probe_pages [] probe_granted RtTurn.Go (step_regs 48 1) refl probe_changes
    (record { regs_are = refl; inside = refl; fills = refl; tcs = refl; ssa = refl; others = λ q e. rw e refl; track = refl }) probe_steps

-- ---- The end of the probes

-- the program's frame, with nothing noted
abbrev pub cleared_frame : SavedFrame
cleared_frame = record { regs = first_regs; cause = NoCause }

abbrev pub cleared_bytes : List ℕ
cleared_bytes = frame_bytes one_page cleared_frame

pub cleared_size : length cleared_bytes ≡ 200
unfolding saved_bytes
cleared_size = refl

-- STATE has the cluster in its queue, and the area the program's frame
abbrev ready_written : List Written
ready_written = at_place 5 (state_with 1 0 1 program_bytes) ∷ at_place 2 (area_with cleared_bytes) ∷ []

-- the machine
abbrev pub ready : State
ready = left_with second ready_written

pub ready_whole : (g : ℕ) → length (ready.frames g) ≡ 4096
ready_whole =
    over_whole (in_frames second ready_written) second.frames (state_whole 1 0 1 program_bytes frame_size, (area_whole cleared_bytes cleared_size, tt)) probing_whole

finish_changes : Changes second ready entry_pages ready_written entry_granted
finish_changes = record {
  found = (refl, (refl, (refl, tt)));
  wrote = (refl, (refl, (refl, tt)));
  frames = λ g. refl;
  among = (refl, (refl, tt));
  seen = (omega arith, refl, refl, (omega arith, refl, refl, (omega arith, refl, refl, tt)));
  whole = ready_whole;
  entries = refl;
  stamps = refl;
  sealed_pages = refl;
  next = refl;
  table = refl;
  count = refl;
  queue = refl;
}

abbrev before : ℕ → List ℕ
before = bytes_of second

abbrev after : ℕ → List ℕ
after = over ready_written before

module _ (control : Control) (flat : Flat) (is : control.phase ≡ Asked 0) (none_in : control.queue ≡ []) where
  finishes : (kept saved : SavedFrame) → Performs one_page (finish_row (reads_of one_page (Asked 0) [] before (record kept { regs = first_regs }) saved) (Asked 0)) before after (RtTurn.Leave Exit.Ready) first_regs
  finishes kept saved = record {
    ends = refl;
    state = record {
      phase_is = state_phase 1 0 1 program_bytes;
      more = tt;
      size = state_size 1 0 1 program_bytes;
      clusters = one_cluster 1 0 1 program_bytes;
      frame_is = state_frame 1 0 1 program_bytes frame_size ∙ sym (state_frame 3 0 0 program_bytes frame_size);
    };
    areas = (area_has cleared_bytes cleared_size, later_areas (state_with 1 0 1 program_bytes) (area_with cleared_bytes) before);
    others = state_and_area (state_with 1 0 1 program_bytes) (area_with cleared_bytes) before;
  }

  finish_performs : (kept saved : SavedFrame) → ReadsKept one_page control.phase asked_state kept →
      Performs one_page (finish_row (reads_of one_page control.phase control.queue before kept saved) control.phase) before after (RtTurn.Leave Exit.Ready) first_regs
  finish_performs kept saved reads =
      let reads_one : ReadsKept one_page (Asked 0) asked_state kept = subst (λ phase. ReadsKept one_page phase asked_state kept) is reads in
      let same : first_regs ≡ kept.regs = same_regs asked_state program_frame kept first_words reads_one.1 (state_frame 3 0 0 program_bytes frame_size) reads_one.0 in
      subst (λ phase. Performs one_page (finish_row (reads_of one_page phase control.queue before kept saved) phase) before after (RtTurn.Leave Exit.Ready) first_regs) (sym is)
      (subst (λ queue. Performs one_page (finish_row (reads_of one_page (Asked 0) queue before kept saved) (Asked 0)) before after (RtTurn.Leave Exit.Ready) first_regs) (sym none_in)
      (subst (λ (regs : Regs). Performs one_page (finish_row (reads_of one_page (Asked 0) [] before (record kept { regs = regs }) saved) (Asked 0)) before after (RtTurn.Leave Exit.Ready) first_regs) same (finishes kept saved)))

  finish_step : StepsTo one_page control Finish (step_regs 48 1) before after entry_granted None (RtTurn.Leave Exit.Ready) first_regs
  finish_step = record { works = λ none. (refl, λ kept saved reads_kept reads. finish_performs kept saved reads_kept); faults = λ t e. absurd (cc) }

finish_steps : Steps second entry_pages ready_written entry_granted (RtTurn.Leave Exit.Ready) first_regs
finish_steps control context flat may =
    let is = asks control.phase control.queue flat may.state in
    finish_context control flat is
    (λ (c : Context). StepsTo one_page control c (step_regs 48 1) before after entry_granted None (RtTurn.Leave Exit.Ready) first_regs)
    (finish_step control flat is (empty control.phase control.queue flat may.state)) context may.row may.registers

finish_turn : IsTurn one_page 0 second ready (Some Exit.Ready) None
finish_turn =
    step_turn second ready entry_pages ready_written entry_granted (RtTurn.Leave Exit.Ready) first_regs refl finish_changes
    (record { left = refl; flushed = refl; others = λ q e. rw e refl; track = refl }) finish_steps

-- three turns are a run
ready_move : IsMove one_page probing ready (Run (record { 0 = 0 }) 3) (Answer.Exit Exit.Ready) None
ready_move =
    exit_moves one_page (record { 0 = 0 }) probing refl refl 2 3 second ready Exit.Ready None None None (omega arith)
    (first, None, None, (probing, None, None, (refl, refl), entry_turn, refl), probe_turn, refl) finish_turn refl

-- the moves
map_reached : AreMoves one_page input_program restored_past restored (Miss 0 0 ∷ [])
map_reached = (asked, Miss 0 0 ∷ [], None, ask_reached, map_move, refl)

enter_reached : AreMoves one_page input_program probing_past probing (Miss 0 0 ∷ [])
enter_reached = (restored, Miss 0 0 ∷ [], None, map_reached, enter_move, refl)

pub ready_moves : AreMoves one_page input_program ready_past ready (Miss 0 0 ∷ [])
ready_moves = (probing, Miss 0 0 ∷ [], None, enter_reached, ready_move, refl)

-- some machine has its cluster in
pub ready_reached : IsReached ready_past (Miss 0 0 ∷ [])
ready_reached = (ready, record { valid = page_valid; moves = ready_moves })
