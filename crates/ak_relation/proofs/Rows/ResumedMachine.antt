-- The machine of the example after the area was loaded into another frame and mapped there, and the processor was resumed from it.
use Rattle.std.proofs.Common.{◌≡◌, ℕ, zero, suc, ◌-◌, List, [], ◌∷◌, length, refl, ap, sym, ◌∙◌, subst, arith}
use Rattle.std.proofs.lemmas.Bool.Decides.{nat_tests}
use Rattle.std.specs.Prelude.{Bool, true, false, None, ◌==◌, if◌then◌else◌}
use Rattle.ak_core.specs.declared.page.Entry.{Entry}
use Rattle.ak_core.specs.declared.page.PageType.TheVariants.{Secs, Tcs, Reg, Va}
use Rattle.ak_core.specs.declared.page.Perm.TheVariants.{Rw}
use Rattle.ak_core.specs.declared.moves.Move.TheVariants.{Eldu, SetPte, Eresume}
use Rattle.ak_core.specs.declared.moves.Answer.TheVariants.{Ok}
use Rattle.ak_model.specs.Paging.Pages.{flags_for}
use Rattle.ak_epcm.specs.Entries.{entry_at}
use Rattle.ak_relation.specs.State.MachineState.{Processor, State}
use Rattle.ak_relation.specs.State.MachineView.{view_in}
use Rattle.ak_relation.specs.State.TableChanges.{with_mapping}
use Rattle.ak_model.specs.Control.LeafRows.{leaf_row}
use Rattle.ak_relation.specs.Premises.EnterRows.{resume_row, saved_in}
use Rattle.ak_relation.specs.Premises.Loading.{LoadsFrom}
use Rattle.ak_sealed.specs.SealedPages.{entry_of}
use Rattle.ak_relation.specs.Premises.Resuming.{ResumesAt}
use Rattle.ak_relation.specs.Relation.Does.{IsMove}
use Rattle.ak_relation.specs.Relation.MoveByMove.{AreMoves}
use Rattle.ak_relation.specs.Relation.Example.{one_page, input_program, loaded_past, mapped_past, resumed_past, IsReached}
use Rattle.ak_relation.proofs.Leaves.LoadMoves.{eldu_moves}
use Rattle.ak_relation.proofs.Leaves.DoneMoves.{set_pte_moves}
use Rattle.ak_relation.proofs.Entering.EnterMoves.{resume_moves}
use Rattle.ak_track.specs.Steps.{EntersBy}
use Rattle.ak_ssa.specs.SavedFrames.{frame_bytes}
use Rattle.ak_ssa.proofs.RegistersReturn.{area_back}
use Rattle.ak_relation.proofs.Rows.BlankPages.{blank, blank_at, blank_whole, one_slot, two_slots, one_slot_whole, one_saved, one_saved_at, area_with, area_whole, area_has, other_slots, other_than_second}
use Rattle.ak_relation.proofs.Rows.BuiltMachine.{page_valid, in_use, outside}
use Rattle.ak_relation.proofs.Rows.EnteredMachine.{its_regs, its_frame, its_words, frame_size, saved_frames, saved_whole}
use Rattle.ak_relation.proofs.Rows.WrittenMachine.{frame, area_sealed, written_entries, written, written_whole, write_reached}

-- ---- The load

-- the area is in the last frame
abbrev pub loaded_entries : List Entry
loaded_entries =
    in_use Secs 0 false false false ∷ in_use Va 0 false false false ∷ in_use Tcs 1 false false false ∷ record (in_use Reg 2 true true false) { valid = false; blocked = true }
    ∷ in_use Reg 3 true true false ∷ in_use Reg 4 true true false ∷ in_use Reg 5 true true false ∷ in_use Reg 6 true false true ∷ in_use Reg 2 true true false ∷ []

-- the bytes of each frame
abbrev pub loaded_frames : ℕ → List ℕ
loaded_frames g = if g == 8 then area_with (frame_bytes one_page its_frame) else (if g == 1 then one_slot else saved_frames g)

-- the machine
abbrev pub loaded : State
loaded = record written {
  entries = loaded_entries;
  frames = loaded_frames;
  stamps = λ g. if g == 8 then length written.track else written.stamps g;
}

loaded_entry : (g : ℕ) → entry_at loaded_entries g ≡ (if g == 8 then entry_of area_sealed false else entry_at written_entries g)
loaded_entry zero = refl
loaded_entry (suc zero) = refl
loaded_entry (suc (suc zero)) = refl
loaded_entry (suc (suc (suc zero))) = refl
loaded_entry (suc (suc (suc (suc zero)))) = refl
loaded_entry (suc (suc (suc (suc (suc zero))))) = refl
loaded_entry (suc (suc (suc (suc (suc (suc zero)))))) = refl
loaded_entry (suc (suc (suc (suc (suc (suc (suc zero))))))) = refl
loaded_entry (suc (suc (suc (suc (suc (suc (suc (suc zero)))))))) = refl
loaded_entry (suc (suc (suc (suc (suc (suc (suc (suc (suc g))))))))) =
    let other : (suc (suc (suc (suc (suc (suc (suc (suc (suc g)))))))) == 8) ≡ false = grind (arith, nat_tests) in rw other refl

loaded_whole : (f : ℕ) → length (loaded_frames f) ≡ 4096
loaded_whole f = by (f == 8) (f == 1)
  where
    by : (a b : Bool) → length (if a then area_with (frame_bytes one_page its_frame) else (if b then one_slot else saved_frames f)) ≡ 4096
    by true b = area_whole (frame_bytes one_page its_frame) frame_size
    by false true = one_slot_whole
    by false false = saved_whole f

other_frames : (g : ℕ) → (g == 8) ≡ false → (g == 1) ≡ false → loaded_frames g ≡ written.frames g
other_frames g no_area no_slots = rw (no_area, no_slots) refl

loads : LoadsFrom written loaded 8 1 1 1 false
loads = record {
  sealed_page = area_sealed;
  sealed = refl;
  entry = loaded_entry;
  bytes = refl;
  others = other_frames;
  slot = other_slots 0;
  slots = λ j other lt. sym (other_than_second j other);
  lengths = λ g other. loaded_whole g ∙ sym (written_whole g);
  stamps = λ g. refl;
  sealed_pages = refl;
  next = refl;
  table = refl;
  processors = refl;
  count = refl;
  queue = refl;
  track = refl;
}

load_row : leaf_row (view_in one_page written) (Eldu (frame 8) (record { 0 = 1 }) (record { 0 = 2 }) (frame 1) 1) ≡ Ok
unfolding two_slots
load_row = refl

load_move : IsMove one_page written loaded (Eldu (frame 8) (record { 0 = 1 }) (record { 0 = 2 }) (frame 1) 1) Ok None
load_move = eldu_moves one_page written loaded (frame 8) (frame 1) (record { 0 = 1 }) (record { 0 = 2 }) 1 load_row loads

-- ---- The page table

-- the machine
abbrev pub mapped : State
mapped = with_mapping loaded 2 (record { frame = 8; flags = flags_for Rw })

map_move : IsMove one_page loaded mapped (SetPte (record { 0 = 2 }) (frame 8) (flags_for Rw)) Ok None
map_move = set_pte_moves one_page loaded (record { 0 = 2 }) (frame 8) (flags_for Rw) refl

-- ---- The resuming

-- the processor inside, with the registers that were saved
abbrev pub again : Processor
again = record { inside = true; regs = its_regs; tcs = 2; ssa = 8; fills = [] }

-- the machine: the TCS counts no context
abbrev pub resumed : State
resumed = record mapped {
  frames = λ g. if g == 2 then blank else loaded_frames g;
  processors = λ lp. if lp == 0 then again else outside;
  track = EntersBy 0 ∷ written.track;
}

resumed_whole : (f : ℕ) → length (resumed.frames f) ≡ 4096
resumed_whole f = by (f == 2)
  where
    by : (b : Bool) → length (if b then blank else loaded_frames f) ≡ 4096
    by true = blank_whole
    by false = loaded_whole f

resumes : ResumesAt one_page 0 0 mapped resumed
resumes = record {
  inside = refl;
  regs = sym (area_back one_page (area_with (frame_bytes one_page its_frame)) its_frame its_words (area_has (frame_bytes one_page its_frame) frame_size));
  tcs = refl;
  ssa = refl;
  flushed = refl;
  others = λ q other. ap (λ b. if b then again else outside) other;
  counted = record { saved_is = blank_at 24 4; pending_is = blank_at 72 1 };
  frames = λ g other. rw other refl;
  whole = resumed_whole;
  track = refl;
  entries = refl;
  count = refl;
  queue = refl;
  stamps = refl;
  sealed_pages = refl;
  next = refl;
  table = refl;
}

resume_answered : resume_row one_page mapped 0 ≡ Ok
unfolding one_saved
resume_answered = refl

none_below : saved_in one_page mapped ≡ 1
none_below = one_saved_at

resume_move : IsMove one_page mapped resumed (Eresume (record { 0 = 0 })) Ok None
resume_move =
    resume_moves one_page mapped (record { 0 = 0 }) resumed resume_answered
    (subst (λ n. ResumesAt one_page 0 (n - 1) mapped resumed) (sym none_below) resumes)

-- the moves
load_reached : AreMoves one_page input_program loaded_past loaded []
load_reached = (written, [], None, write_reached, load_move, refl)

map_reached : AreMoves one_page input_program mapped_past mapped []
map_reached = (loaded, [], None, load_reached, map_move, refl)

resume_reached : AreMoves one_page input_program resumed_past resumed []
resume_reached = (mapped, [], None, map_reached, resume_move, refl)

-- some machine was resumed from the area in its other frame
pub resumed_reached : IsReached resumed_past []
resumed_reached = (resumed, record { valid = page_valid; moves = resume_reached })
