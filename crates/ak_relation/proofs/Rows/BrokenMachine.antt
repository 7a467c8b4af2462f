-- The machine of the example after the program was resumed, and broke: its page is not mapped, though its cluster is in.
use Rattle.std.proofs.Common.{◌≡◌, ℕ, ◌-◌, [], ◌∷◌, length, refl, sym, subst, arith}
use Rattle.std.specs.Prelude.{true, None, Some, ◌==◌, if◌then◌else◌}
use Rattle.ak_core.specs.declared.event.Event.TheVariants.{Miss, Break}
use Rattle.ak_core.specs.declared.moves.Move.TheVariants.{Run, SetPte, Eresume}
use Rattle.ak_core.specs.declared.moves.Answer.{Answer}
use Rattle.ak_core.specs.declared.moves.Answer.TheVariants.{Ok}
use Rattle.ak_model.specs.Paging.Pages.{no_flags}
use Rattle.ak_model.specs.Control.RuntimeTurn.{shown_fault}
use Rattle.ak_model.specs.Flat.FlatRuns.{Flat}
use Rattle.ak_relation.specs.Program.Seeing.{Sees}
use Rattle.ak_relation.specs.State.MachineState.{State}
use Rattle.ak_relation.specs.State.TableChanges.{with_mapping}
use Rattle.ak_relation.specs.Premises.EnterRows.{resume_row}
use Rattle.ak_relation.specs.Premises.Resuming.{ResumesAt}
use Rattle.ak_relation.specs.Premises.Faulting.{Faults}
use Rattle.ak_relation.specs.Premises.Saving.{Saves}
use Rattle.ak_relation.specs.Relation.Does.{IsTurn, IsMove}
use Rattle.ak_relation.specs.Relation.MoveByMove.{AreMoves}
use Rattle.ak_relation.specs.Relation.Example.{one_page, input_program, continued_past, lost_past, broken_past, IsReached}
use Rattle.ak_relation.proofs.Exits.ExitTurns.{break_turns}
use Rattle.ak_relation.proofs.Leaves.DoneMoves.{set_pte_moves}
use Rattle.ak_relation.proofs.Entering.EnterMoves.{resume_moves}
use Rattle.ak_ssa.specs.SavedFrames.{ByPage}
use Rattle.ak_track.specs.Steps.{EntersBy}
use Rattle.ak_ssa.proofs.RegistersReturn.{area_back}
use Rattle.ak_relation.proofs.Runs.WholeRuns.{exit_moves}
use Rattle.ak_relation.proofs.Rows.BlankPages.{blank, blank_at, blank_whole, one_saved, one_saved_at, area_with, area_has, one_refused, one_refused_whole, refused_saved, refused_flag}
use Rattle.ak_relation.proofs.Rows.BuiltMachine.{page_valid}
use Rattle.ak_relation.proofs.Rows.StartedMachine.{fetch, starting}
use Rattle.ak_relation.proofs.Rows.MissedMachine.{first_fetch, frame_size}
use Rattle.ak_relation.proofs.Rows.AskedMachine.{first_words}
use Rattle.ak_relation.proofs.Rows.FetchedMachine.{cleared_frame, cleared_bytes, cleared_size, ready, ready_whole, ready_moves}
use Rattle.ak_relation.proofs.Rows.StepMemory.{at_place, over, over_whole, saved_with, saved_whole, saves_with}

-- ---- The resuming

-- the machine
abbrev pub continued : State
continued = record ready {
  frames = over (at_place 2 blank ∷ []) ready.frames;
  processors = λ lp. if lp == 0 then starting else ready.processors lp;
  track = EntersBy 0 ∷ ready.track;
}

continued_whole : (g : ℕ) → length (continued.frames g) ≡ 4096
continued_whole = over_whole (at_place 2 blank ∷ []) ready.frames (blank_whole, tt) ready_whole

resumes : ResumesAt one_page 0 0 ready continued
resumes = record {
  inside = refl;
  regs = sym (area_back one_page (area_with cleared_bytes) cleared_frame first_words (area_has cleared_bytes cleared_size));
  tcs = refl;
  ssa = refl;
  flushed = refl;
  others = λ q e. rw e refl;
  counted = record { saved_is = blank_at 24 4; pending_is = blank_at 72 1 };
  frames = λ g e. rw e refl;
  whole = continued_whole;
  track = refl;
  entries = refl;
  count = refl;
  queue = refl;
  stamps = refl;
  sealed_pages = refl;
  next = refl;
  table = refl;
}

resume_answered : resume_row one_page ready 0 ≡ Ok
unfolding one_saved
resume_answered = refl

resume_move : IsMove one_page ready continued (Eresume (record { 0 = 0 })) Ok None
resume_move =
    resume_moves one_page ready (record { 0 = 0 }) continued resume_answered
    (subst (λ n. ResumesAt one_page 0 (n - 1) ready continued) (sym one_saved_at) resumes)

-- ---- The page table

-- the machine
abbrev pub lost : State
lost = with_mapping continued 0 (record { frame = 0; flags = no_flags })

lose_move : IsMove one_page continued lost (SetPte (record { 0 = 0 }) (record { 0 = 0 }) no_flags) Ok None
lose_move = set_pte_moves one_page continued (record { 0 = 0 }) (record { 0 = 0 }) no_flags refl

-- ---- The break

-- the machine
abbrev pub broken : State
broken = saved_with lost (ByPage fetch) one_refused

pub broken_whole : (g : ℕ) → length (broken.frames g) ≡ 4096
broken_whole = saved_whole lost (ByPage fetch) one_refused one_refused_whole frame_size continued_whole

saves : Saves one_page 0 0 true (ByPage fetch) lost broken
saves =
    saves_with lost 0 true (ByPage fetch) one_refused (0 ∷ []) (λ runtime. absurd (cc)) (omega arith) refl (record { saved_is = refused_saved; pending_is = refused_flag }) one_refused_whole frame_size
    continued_whole refl

faults : (flat : Flat) → Sees one_page lost 0 flat → Faults one_page lost [] flat fetch
faults flat seen = record {
  next = record { number = 0; stands = first_fetch flat (sym seen.regs); allowed = refl; walked = []; found = refl; covers = λ t e. absurd (cc) };
  permitted = refl;
  unmapped = refl;
  unkept = refl;
}

break_turn : IsTurn one_page 0 lost broken (Some (shown_fault one_page)) (Some (Break 0))
break_turn = break_turns one_page page_valid 0 lost broken refl fetch faults refl (λ tcs. saves)

break_move : IsMove one_page lost broken (Run (record { 0 = 0 }) 1) (Answer.Exit (shown_fault one_page)) (Some (Break 0))
break_move =
    exit_moves one_page (record { 0 = 0 }) lost refl refl 0 1 lost broken (shown_fault one_page) None (Some (Break 0)) (Some (Break 0)) (omega arith) (refl, refl) break_turn refl

-- the moves
resume_reached : AreMoves one_page input_program continued_past continued (Miss 0 0 ∷ [])
resume_reached = (ready, Miss 0 0 ∷ [], None, ready_moves, resume_move, refl)

lose_reached : AreMoves one_page input_program lost_past lost (Miss 0 0 ∷ [])
lose_reached = (continued, Miss 0 0 ∷ [], None, resume_reached, lose_move, refl)

pub break_reached : AreMoves one_page input_program broken_past broken (Miss 0 0 ∷ Break 0 ∷ [])
break_reached = (lost, Miss 0 0 ∷ [], Some (Break 0), lose_reached, break_move, refl)

-- some machine's program broke
pub broken_reached : IsReached broken_past (Miss 0 0 ∷ Break 0 ∷ [])
broken_reached = (broken, record { valid = page_valid; moves = break_reached })
