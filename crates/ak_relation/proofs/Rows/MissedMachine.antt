-- The machine of the example after the program missed its page, which was not mapped any more: an event.
use Rattle.std.proofs.Common.{◌≡◌, ℕ, ◌+◌, [], ◌∷◌, length, refl, ap, sym, ◌∙◌, arith}
use Rattle.std.specs.Prelude.{Bool, true, false, Some, None, slice_get, if◌then◌else◌}
use Rattle.ak_core.specs.declared.event.Event.TheVariants.{Miss}
use Rattle.ak_core.specs.declared.instruction.Decoded.{Decoded}
use Rattle.ak_core.specs.declared.instruction.Decoded.TheVariants.{Whole, NeedMore, Illegal}
use Rattle.ak_core.specs.declared.moves.Move.TheVariants.{Run, SetPte}
use Rattle.ak_core.specs.declared.moves.Answer.{Answer}
use Rattle.ak_core.specs.declared.moves.Answer.TheVariants.{Ok}
use Rattle.ak_core.specs.declared.moves.Exit.{Exit}
use Rattle.ak_core.specs.declared.registers.Regs.{Regs}
use Rattle.ak_model.specs.Paging.Pages.{no_flags}
use Rattle.ak_model.specs.Control.RuntimeTurn.{shown_fault}
use Rattle.ak_model.specs.Flat.Instructions.{Plan, RaisesVector, Computes, Reads, Writes, CallsOut, plan}
use Rattle.ak_model.specs.Flat.Encodings.{decode}
use Rattle.ak_model.specs.Flat.FlatRuns.{Flat, Line, carry_out, is_program, rest_of_page, in_first_page, line}
use Rattle.ak_relation.specs.Program.Seeing.{Sees}
use Rattle.ak_ssa.specs.SavedFrames.{ByPage, SavedFrame, frame_bytes, saved_bytes}
use Rattle.ak_relation.specs.State.MachineState.{State}
use Rattle.ak_relation.specs.State.TableChanges.{with_mapping}
use Rattle.ak_relation.specs.Premises.Faulting.{Faults}
use Rattle.ak_relation.specs.Premises.Saving.{Saves}
use Rattle.ak_relation.specs.Relation.Does.{IsTurn, IsMove}
use Rattle.ak_relation.specs.Relation.MoveByMove.{AreMoves}
use Rattle.ak_relation.specs.Relation.Example.{one_page, input_program, started_past, hidden_past, missed_past, IsReached}
use Rattle.ak_relation.proofs.Exits.ExitTurns.{miss_turns}
use Rattle.ak_relation.proofs.Leaves.DoneMoves.{set_pte_moves}
use Rattle.ak_relation.proofs.Runs.WholeRuns.{still_moves, exit_moves}
use Rattle.ak_relation.proofs.Rows.BlankPages.{one_refused, one_refused_whole, refused_saved, refused_flag}
use Rattle.ak_relation.proofs.Rows.BuiltMachine.{page_valid}
use Rattle.ak_relation.proofs.Rows.StepMemory.{saved_with, saved_whole, saves_with}
use Rattle.ak_relation.proofs.Rows.ProgramMachine.{begun, begin_reached}
use Rattle.ak_relation.proofs.Rows.StartedMachine.{fetch, first_regs, started, started_whole, start_turn}

-- ---- The first access of any instruction

-- it stands first in the line
abbrev IsFirst : Line → Type 0
IsFirst line = slice_get line.accesses 0 ≡ Some fetch

either : (b : Bool) (x y : Line) → IsFirst x → IsFirst y → IsFirst (if b then x else y)
either true x y h k = h
either false x y h k = k

carried : (flat : Flat) (p : Plan) → IsFirst (carry_out one_page flat (fetch ∷ []) p)
carried flat (RaisesVector v) = refl
carried flat (Computes regs) = refl
carried flat (CallsOut b a regs) = refl
carried flat (Reads address count regs) = either (is_program one_page address count) _ _ refl refl
carried flat (Writes address new regs) = either (is_program one_page address (length new)) _ _ refl refl

begins : (flat : Flat) (d : Decoded) → IsFirst (in_first_page one_page flat 0 d)
begins flat (Whole instr size) = carried flat (plan instr (record flat.regs { rip = flat.regs.rip + size }))
begins flat Illegal = refl
begins flat NeedMore = refl

pub first_fetch : (flat : Flat) → flat.regs ≡ first_regs → IsFirst (line one_page flat)
first_fetch flat same =
    ap (λ (regs : Regs). slice_get (line one_page (record flat { regs = regs })).accesses 0) same ∙ begins (record flat { regs = first_regs }) (decode (rest_of_page one_page (record flat { regs = first_regs }) 0))

-- ---- The page table

-- the machine
abbrev pub hidden : State
hidden = with_mapping started 0 (record { frame = 0; flags = no_flags })

start_move : IsMove one_page begun started (Run (record { 0 = 0 }) 1) (Answer.Exit Exit.Still) None
start_move =
    still_moves one_page (record { 0 = 0 }) begun refl refl 1 started None (begun, None, None, (refl, refl), start_turn, refl)

hide_move : IsMove one_page started hidden (SetPte (record { 0 = 0 }) (record { 0 = 0 }) no_flags) Ok None
hide_move = set_pte_moves one_page started (record { 0 = 0 }) (record { 0 = 0 }) no_flags refl

-- ---- The miss

-- the program's frame, with the access
abbrev pub program_frame : SavedFrame
program_frame = record { regs = first_regs; cause = ByPage fetch }

pub frame_size : length (frame_bytes one_page program_frame) ≡ 200
unfolding saved_bytes
frame_size = refl

-- the machine: the cluster that was missed is in its queue
abbrev pub missed : State
missed = record (saved_with hidden (ByPage fetch) one_refused) { queue = 0 ∷ [] }

pub missed_whole : (f : ℕ) → length (missed.frames f) ≡ 4096
missed_whole = saved_whole hidden (ByPage fetch) one_refused one_refused_whole frame_size started_whole

saves : Saves one_page 0 0 true (ByPage fetch) hidden missed
saves =
    saves_with hidden 0 true (ByPage fetch) one_refused (0 ∷ []) (λ runtime. absurd (cc)) (omega arith) refl (record { saved_is = refused_saved; pending_is = refused_flag })
    one_refused_whole frame_size started_whole refl

faults : (flat : Flat) → Sees one_page hidden 0 flat → Faults one_page hidden [] flat fetch
faults flat seen = record {
  next = record { number = 0; stands = first_fetch flat (sym seen.regs); allowed = refl; walked = []; found = refl; covers = λ t e. absurd (cc) };
  permitted = refl;
  unmapped = refl;
  unkept = refl;
}

miss_turn : IsTurn one_page 0 hidden missed (Some (shown_fault one_page)) (Some (Miss 0 0))
miss_turn = miss_turns one_page page_valid 0 hidden missed refl fetch faults refl (λ tcs. saves)

miss_move : IsMove one_page hidden missed (Run (record { 0 = 0 }) 1) (Answer.Exit (shown_fault one_page)) (Some (Miss 0 0))
miss_move =
    exit_moves one_page (record { 0 = 0 }) hidden refl refl 0 1 hidden missed (shown_fault one_page) None (Some (Miss 0 0)) (Some (Miss 0 0)) (omega arith)
    (refl, refl) miss_turn refl

-- the moves
start_reached : AreMoves one_page input_program started_past started []
start_reached = (begun, [], None, begin_reached, start_move, refl)

hide_reached : AreMoves one_page input_program hidden_past hidden []
hide_reached = (started, [], None, start_reached, hide_move, refl)

pub miss_reached : AreMoves one_page input_program missed_past missed (Miss 0 0 ∷ [])
miss_reached = (hidden, [], Some (Miss 0 0), hide_reached, miss_move, refl)

-- some machine has an event
pub missed_reached : IsReached missed_past (Miss 0 0 ∷ [])
missed_reached = (missed, record { valid = page_valid; moves = miss_reached })
