-- The machine of the example after the program called out: two instructions that set registers, the call, and the runtime's step that
-- leaves with it.
use Rattle.std.proofs.Common.{◌≡◌, ℕ, ◌+◌, List, [], ◌∷◌, length, drop, refl, ap, sym, ◌∙◌, subst, arith}
use Rattle.std.specs.Prelude.{Bool, true, false, ◌||◌, None, Some, ◌==◌, if◌then◌else◌}
use Rattle.ak_core.specs.Mem.{Access, access_to}
use Rattle.ak_core.specs.declared.event.Event.TheVariants.{Call}
use Rattle.ak_core.specs.declared.page.Kind.TheVariants.{Write, Exec}
use Rattle.ak_core.specs.declared.moves.Move.TheVariants.{Run}
use Rattle.ak_core.specs.declared.moves.Answer.{Answer}
use Rattle.ak_core.specs.declared.moves.Exit.{Exit}
use Rattle.ak_core.specs.declared.registers.Mode.{Mode}
use Rattle.ak_core.specs.declared.registers.Regs.{Regs}
use Rattle.ak_model.specs.Flat.Encodings.{decode}
use Rattle.ak_model.specs.Flat.Instructions.{with_reg, rax, rcx, rdi}
use Rattle.ak_model.specs.Flat.FlatRuns.{Flat, End, line_of, in_first_page, line, end_of, page_bytes}
use Rattle.ak_model.specs.Control.ControlState.{Context, Leave, Control}
use Rattle.ak_model.specs.Misses.KeptTranslations.{is_among, same_access}
use Rattle.ak_pager.specs.Contexts.{step_address}
use Rattle.ak_pager.specs.RuntimePages.{IsState}
use Rattle.ak_ssa.specs.SavedFrames.{SavedFrame, frame_bytes, saved_bytes}
use Rattle.ak_relation.specs.State.MachineState.{State}
use Rattle.ak_relation.specs.Program.Reaching.{is_filled}
use Rattle.ak_relation.specs.Program.Seeing.{Sees}
use Rattle.ak_relation.specs.Premises.Computing.{Computes}
use Rattle.ak_relation.specs.Premises.CallingOut.{CallsOut}
use Rattle.ak_pager.specs.Rows.{left_frame, leave_row}
use Rattle.ak_pager.specs.StepsTo.{Performs, reads_of, StepsTo}
use Rattle.ak_pager.specs.declared.turn.RtTurn.{RtTurn}
use Rattle.ak_relation.specs.Relation.Does.{IsTurn, IsMove}
use Rattle.ak_relation.specs.Relation.MoveByMove.{AreMoves}
use Rattle.ak_relation.specs.Relation.Example.{one_page, input_program, called_past, IsReached}
use Rattle.ak_relation.proofs.Program.ComputedTurns.{computed_turns}
use Rattle.ak_relation.proofs.Program.CallMoves.{call_turns}
use Rattle.ak_relation.proofs.Runs.WholeRuns.{exit_moves}
use Rattle.ak_relation.proofs.Rows.BlankPages.{one_slot, same_kept}
use Rattle.ak_relation.proofs.Rows.BuiltMachine.{page_valid}
use Rattle.ak_relation.proofs.Rows.StartedMachine.{fetch, started_whole}
use Rattle.ak_relation.proofs.Rows.ComputedMachine.{next_regs, cached, computed, compute_reached}
use Rattle.ak_relation.proofs.Rows.StatePages.{state_with, state_whole, state_frame, state_phase, state_size, no_clusters}
use Rattle.ak_relation.proofs.Rows.StepContexts.{no_queue, leave_context}
use Rattle.ak_relation.proofs.Rows.StepMemory.{all_areas, state_alone, Written, at_place, over, over_whole, bytes_of, in_frames, Changes, Steps, step_turn, left_with}

-- ---- The instructions

-- the registers after the call's number was set, and after the leaf's was
abbrev number_regs : Regs
number_regs = record (with_reg next_regs rdi 2) { rip = one_page.base + 11 }

abbrev leaf_regs : Regs
leaf_regs = record (with_reg number_regs rax 4) { rip = one_page.base + 21 }

-- and after the call
abbrev pub after_regs : Regs
after_regs = record (with_reg leaf_regs rcx (one_page.base + 24)) { rip = one_page.base + 24 }

number_decoded : (flat : Flat) → in_first_page one_page (record flat { regs = next_regs }) 0 (decode (drop 1 input_program)) ≡ line_of (fetch ∷ []) (End.Next (record flat { regs = number_regs }))
unfolding input_program
number_decoded flat = refl

number_line : (flat : Flat) → flat.regs ≡ next_regs → page_bytes flat 0 ≡ input_program → line one_page flat ≡ line_of (fetch ∷ []) (End.Next (record flat { regs = number_regs }))
number_line flat same bytes =
    ap (λ (regs : Regs). line one_page (record flat { regs = regs })) same
    ∙ ap (λ page. in_first_page one_page (record flat { regs = next_regs }) 0 (decode (drop 1 page))) bytes ∙ number_decoded flat

leaf_decoded : (flat : Flat) → in_first_page one_page (record flat { regs = number_regs }) 0 (decode (drop 11 input_program)) ≡ line_of (fetch ∷ []) (End.Next (record flat { regs = leaf_regs }))
unfolding input_program
leaf_decoded flat = refl

leaf_line : (flat : Flat) → flat.regs ≡ number_regs → page_bytes flat 0 ≡ input_program → line one_page flat ≡ line_of (fetch ∷ []) (End.Next (record flat { regs = leaf_regs }))
leaf_line flat same bytes =
    ap (λ (regs : Regs). line one_page (record flat { regs = regs })) same
    ∙ ap (λ page. in_first_page one_page (record flat { regs = number_regs }) 0 (decode (drop 11 page))) bytes ∙ leaf_decoded flat

call_decoded : (flat : Flat) → in_first_page one_page (record flat { regs = leaf_regs }) 0 (decode (drop 21 input_program)) ≡ line_of (fetch ∷ []) (End.Call 2 0 (record flat { regs = after_regs }))
unfolding input_program
call_decoded flat = refl

call_line : (flat : Flat) → flat.regs ≡ leaf_regs → page_bytes flat 0 ≡ input_program → line one_page flat ≡ line_of (fetch ∷ []) (End.Call 2 0 (record flat { regs = after_regs }))
call_line flat same bytes =
    ap (λ (regs : Regs). line one_page (record flat { regs = regs })) same
    ∙ ap (λ page. in_first_page one_page (record flat { regs = leaf_regs }) 0 (decode (drop 21 page))) bytes ∙ call_decoded flat

-- ---- The turns of the program

-- the machine after one more instruction, whose fetch was cached
abbrev next_with : State → Regs → State
next_with old regs = record old { processors = λ lp. if lp == 0 then record (old.processors 0) { regs = regs } else old.processors lp; count = old.count + 1 }

twice : (b : Bool) → (b || false) ≡ ((b || false) || (b || false))
twice true = refl
twice false = refl

-- what was cached already
filled_again : (t : Access) → is_filled (cached ∷ []) t ≡ (is_among (fetch ∷ []) t || is_filled (cached ∷ []) t)
filled_again t = twice (same_access t fetch)

module _ (old : State) (regs : Regs) (has : (old.processors 0).fills ≡ cached ∷ []) (all : (g : ℕ) → length (old.frames g) ≡ 4096) where
  computes : (flat : Flat) → line one_page flat ≡ line_of (fetch ∷ []) (End.Next (record flat { regs = regs })) →
      Computes one_page 0 flat (record flat { regs = regs }) old (next_with old regs)
  computes flat line_is = record {
    ends = ap (end_of one_page) line_is;
    regs = refl;
    written = λ f p there low own. own;
    frames = λ f none. refl;
    whole = all;
    walked = [];
    found = refl;
    fills = refl;
    filled = λ t. subst (λ fills. is_filled fills t ≡ (is_among (line one_page flat).accesses t || is_filled fills t)) (sym has)
        (filled_again t ∙ sym (ap (λ l. is_among l.accesses t || is_filled (cached ∷ []) t) line_is));
    inside = refl;
    tcs = refl;
    ssa = refl;
    others = λ q e. rw e refl;
    count = refl;
    queue = refl;
    entries = refl;
    stamps = refl;
    track = refl;
    sealed_pages = refl;
    next = refl;
    table = refl;
  }

-- the machines
abbrev numbered : State
numbered = next_with computed number_regs

abbrev leafed : State
leafed = next_with numbered leaf_regs

number_turn : IsTurn one_page 0 computed numbered None None
number_turn =
    computed_turns one_page 0 computed numbered refl
    (λ flat seen. (record flat { regs = number_regs }, computes computed number_regs refl started_whole flat (number_line flat (sym seen.regs) (sym (seen.walked 0 Exec (omega arith) refl)))))

leaf_turn : IsTurn one_page 0 numbered leafed None None
leaf_turn =
    computed_turns one_page 0 numbered leafed refl
    (λ flat seen. (record flat { regs = leaf_regs }, computes numbered leaf_regs refl started_whole flat (leaf_line flat (sym seen.regs) (sym (seen.walked 0 Exec (omega arith) refl)))))

-- ---- The call

-- the registers at the leave step
abbrev leaving_regs : Regs
leaving_regs = record after_regs { rip = step_address one_page 32; mode = Mode.Runtime }

-- the machine
abbrev leaving : State
leaving = next_with leafed leaving_regs

calls : (flat : Flat) → Sees one_page leafed 0 flat → CallsOut one_page 0 flat (record flat { regs = after_regs }) 2 0 leafed leaving
calls flat seen =
    let line_is = call_line flat (sym seen.regs) (sym (seen.walked 0 Exec (omega arith) refl)) in
    record {
      ends = ap (end_of one_page) line_is;
      step = record { mode = refl; rip = refl };
      regs = record { gpr = refl; cf = refl; zf = refl; sf = refl; of = refl };
      walked = [];
      found = refl;
      fills = refl;
      filled = λ t. filled_again t ∙ sym (ap (λ l. is_among l.accesses t || is_filled (cached ∷ []) t) line_is);
      inside = refl;
      tcs = refl;
      ssa = refl;
      others = λ q e. rw e refl;
      count = refl;
      queue = refl;
      entries = refl;
      stamps = refl;
      track = refl;
      frames = refl;
      sealed_pages = refl;
      next = refl;
      table = refl;
    }

call_turn : IsTurn one_page 0 leafed leaving None (Some (Call 3 2 0))
call_turn = call_turns one_page 0 leafed leaving 2 0 refl (λ flat seen. (record flat { regs = after_regs }, calls flat seen))

-- ---- The leave step

-- the frame that STATE keeps
abbrev pub kept_frame : SavedFrame
kept_frame = left_frame leaving_regs

abbrev pub kept_frame_bytes : List ℕ
kept_frame_bytes = frame_bytes one_page kept_frame

pub kept_size : length kept_frame_bytes ≡ 200
unfolding saved_bytes
kept_size = refl

abbrev called_written : List Written
called_written = at_place 5 (state_with 2 0 0 kept_frame_bytes) ∷ []

-- the machine
abbrev pub called : State
called = left_with leaving called_written

pub called_whole : (g : ℕ) → length (called.frames g) ≡ 4096
called_whole = over_whole (in_frames leaving called_written) leaving.frames (state_whole 2 0 0 kept_frame_bytes kept_size, tt) started_whole

abbrev granted : List Access
granted = access_to 6 Exec ∷ access_to 5 Write ∷ []

abbrev held_pages : List ℕ
held_pages = 5 ∷ 6 ∷ []

changes : Changes leaving called held_pages called_written granted
changes = record {
  found = (refl, (refl, tt));
  wrote = (refl, (refl, tt));
  frames = λ g. refl;
  among = (refl, tt);
  seen = (omega arith, refl, refl, (omega arith, refl, refl, tt));
  whole = called_whole;
  entries = refl;
  stamps = refl;
  sealed_pages = refl;
  next = refl;
  table = refl;
  count = refl;
  queue = refl;
}

abbrev before : ℕ → List ℕ
before = bytes_of leaving

abbrev after : ℕ → List ℕ
after = over called_written before

module _ (control : Control) (none_in : control.queue ≡ []) where
  leaves : (kept saved : SavedFrame) → Performs one_page (leave_row one_page (reads_of one_page control.phase [] before kept saved) leaving_regs 2 0) before after (RtTurn.Leave (Exit.Call 2 0)) leaving_regs
  leaves kept saved = record {
    ends = refl;
    state = record {
      phase_is = state_phase 2 0 0 kept_frame_bytes;
      more = tt;
      size = state_size 2 0 0 kept_frame_bytes;
      clusters = no_clusters (state_with 2 0 0 kept_frame_bytes);
      frame_is = state_frame 2 0 0 kept_frame_bytes kept_size;
    };
    areas = all_areas (state_with 2 0 0 kept_frame_bytes) before;
    others = λ p apart areas. state_alone (state_with 2 0 0 kept_frame_bytes) before p apart;
  }

  leave_step : StepsTo one_page control (Leave 2 0) leaving_regs before after granted None (RtTurn.Leave (Exit.Call 2 0)) leaving_regs
  leave_step = record {
    works = λ none. (refl, λ kept saved reads_kept reads. subst (λ queue. Performs one_page (leave_row one_page (reads_of one_page control.phase queue before kept saved) leaving_regs 2 0) before after (RtTurn.Leave (Exit.Call 2 0)) leaving_regs) (sym none_in) (leaves kept saved));
    faults = λ t e. absurd (cc);
  }

steps : Steps leaving held_pages called_written granted (RtTurn.Leave (Exit.Call 2 0)) leaving_regs
steps control context flat may =
    let state : IsState one_page control.phase control.queue flat one_slot = may.state in
    leave_context control flat leaving_regs refl
    (λ (c : Context). StepsTo one_page control c leaving_regs before after granted None (RtTurn.Leave (Exit.Call 2 0)) leaving_regs)
    (leave_step control (no_queue control.queue (sym same_kept.0 ∙ state.size))) context may.row may.registers

leave_turn : IsTurn one_page 0 leaving called (Some (Exit.Call 2 0)) None
leave_turn =
    step_turn leaving called held_pages called_written granted (RtTurn.Leave (Exit.Call 2 0)) leaving_regs refl changes
    (record { left = refl; flushed = refl; others = λ q e. rw e refl; track = refl }) steps

-- four turns are a run
call_move : IsMove one_page computed called (Run (record { 0 = 0 }) 4) (Answer.Exit (Exit.Call 2 0)) (Some (Call 3 2 0))
call_move =
    exit_moves one_page (record { 0 = 0 }) computed refl refl 3 4 leaving called (Exit.Call 2 0) (Some (Call 3 2 0)) None (Some (Call 3 2 0)) (omega arith)
    (leafed, None, Some (Call 3 2 0), (numbered, None, None, (computed, None, None, (refl, refl), number_turn, refl), leaf_turn, refl), call_turn, refl) leave_turn refl

-- the moves
pub call_reached : AreMoves one_page input_program called_past called (Call 3 2 0 ∷ [])
call_reached = (computed, [], Some (Call 3 2 0), compute_reached, call_move, refl)

-- some machine's program called out
pub called_reached : IsReached called_past (Call 3 2 0 ∷ [])
called_reached = (called, record { valid = page_valid; moves = call_reached })
