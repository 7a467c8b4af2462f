-- The machine of the example after the area with its saved frame was blocked and written out.
use Rattle.std.proofs.Common.{◌≡◌, ℕ, zero, suc, List, [], ◌∷◌, length, refl, sym, ◌∙◌, arith}
use Rattle.std.proofs.lemmas.Bool.Decides.{nat_tests}
use Rattle.std.specs.Prelude.{Bool, true, false, Some, None, ◌==◌, if◌then◌else◌}
use Rattle.ak_core.specs.declared.page.Entry.{Entry}
use Rattle.ak_core.specs.declared.page.Frame.{Frame}
use Rattle.ak_core.specs.declared.page.PageType.TheVariants.{Secs, Tcs, Reg, Va}
use Rattle.ak_core.specs.declared.moves.Move.TheVariants.{Eblock, Etrack, Ewb}
use Rattle.ak_core.specs.declared.moves.Answer.TheVariants.{Ok, OkHandle}
use Rattle.ak_epcm.specs.Entries.{entry_at}
use Rattle.ak_relation.specs.State.MachineState.{State}
use Rattle.ak_relation.specs.State.MachineView.{view_in}
use Rattle.ak_model.specs.Control.LeafRows.{leaf_row}
use Rattle.ak_relation.specs.State.TableChanges.{BlocksEntry, with_block, with_cycle}
use Rattle.ak_sealed.specs.SealedPages.{SealedPage, sealed_page_of}
use Rattle.ak_relation.specs.Premises.WriteOut.{WritesOutTo}
use Rattle.ak_relation.specs.Relation.Does.{IsMove}
use Rattle.ak_relation.specs.Relation.MoveByMove.{AreMoves}
use Rattle.ak_relation.specs.Relation.Example.{one_page, input_program, blocked_past, cycled_past, written_past, IsReached}
use Rattle.ak_relation.proofs.Leaves.DoneMoves.{eblock_moves, etrack_moves}
use Rattle.ak_relation.proofs.Leaves.WriteOutMoves.{ewb_moves}
use Rattle.ak_relation.proofs.Rows.BlankPages.{one_slot, two_slots, two_slots_whole, second_slot, other_than_second}
use Rattle.ak_relation.proofs.Rows.BuiltMachine.{page_valid, in_use, built_entries, built_sealed}
use Rattle.ak_relation.proofs.Rows.EnteredMachine.{saved_frames, saved_whole, interrupted, interrupt_reached}

abbrev pub frame : ℕ → Frame
frame f = record { 0 = f }

-- ---- The block

-- the area's entry is blocked
abbrev pub blocked_entries : List Entry
blocked_entries =
    in_use Secs 0 false false false ∷ in_use Va 0 false false false ∷ in_use Tcs 1 false false false ∷ record (in_use Reg 2 true true false) { blocked = true }
    ∷ in_use Reg 3 true true false ∷ in_use Reg 4 true true false ∷ in_use Reg 5 true true false ∷ in_use Reg 6 true false true ∷ []

blocks : BlocksEntry built_entries blocked_entries 3
blocks zero = refl
blocks (suc zero) = refl
blocks (suc (suc zero)) = refl
blocks (suc (suc (suc zero))) = refl
blocks (suc (suc (suc (suc zero)))) = refl
blocks (suc (suc (suc (suc (suc zero))))) = refl
blocks (suc (suc (suc (suc (suc (suc zero)))))) = refl
blocks (suc (suc (suc (suc (suc (suc (suc zero))))))) = refl
blocks (suc (suc (suc (suc (suc (suc (suc (suc g)))))))) =
    let other : (suc (suc (suc (suc (suc (suc (suc (suc g))))))) == 3) ≡ false = grind (arith, nat_tests) in rw other refl

-- the machine
abbrev pub blocked : State
blocked = with_block interrupted blocked_entries 3

block_move : IsMove one_page interrupted blocked (Eblock (frame 3)) Ok None
block_move = eblock_moves one_page interrupted (frame 3) blocked_entries refl blocks

-- ---- The cycle

-- the machine
abbrev pub cycled : State
cycled = with_cycle blocked

cycle_move : IsMove one_page blocked cycled Etrack Ok None
cycle_move = etrack_moves one_page blocked refl

-- ---- The write-out

-- the area's frame is free
abbrev pub written_entries : List Entry
written_entries =
    in_use Secs 0 false false false ∷ in_use Va 0 false false false ∷ in_use Tcs 1 false false false ∷ record (in_use Reg 2 true true false) { valid = false; blocked = true }
    ∷ in_use Reg 3 true true false ∷ in_use Reg 4 true true false ∷ in_use Reg 5 true true false ∷ in_use Reg 6 true false true ∷ []

-- the sealed area
abbrev pub area_sealed : SealedPage
area_sealed = sealed_page_of (entry_at blocked_entries 3) (saved_frames 3)

-- the machine
abbrev pub written : State
written = record cycled {
  entries = written_entries;
  frames = λ g. if g == 1 then two_slots else saved_frames g;
  sealed_pages = λ j. if j == 1 then Some area_sealed else built_sealed j;
  next = 2;
}

written_entry : (g : ℕ) → entry_at written_entries g ≡ (if g == 3 then record (entry_at blocked_entries g) { valid = false } else entry_at blocked_entries g)
written_entry zero = refl
written_entry (suc zero) = refl
written_entry (suc (suc zero)) = refl
written_entry (suc (suc (suc zero))) = refl
written_entry (suc (suc (suc (suc zero)))) = refl
written_entry (suc (suc (suc (suc (suc zero))))) = refl
written_entry (suc (suc (suc (suc (suc (suc zero)))))) = refl
written_entry (suc (suc (suc (suc (suc (suc (suc zero))))))) = refl
written_entry (suc (suc (suc (suc (suc (suc (suc (suc g)))))))) =
    let other : (suc (suc (suc (suc (suc (suc (suc (suc g))))))) == 3) ≡ false = grind (arith, nat_tests) in rw other refl

written_others : (g : ℕ) → (g == 3) ≡ false → entry_at written_entries g ≡ entry_at blocked_entries g
written_others g other = let at_g = written_entry g in rw other at at_g

pub written_whole : (f : ℕ) → length (written.frames f) ≡ 4096
written_whole f = by (f == 1)
  where
    by : (b : Bool) → length (if b then two_slots else saved_frames f) ≡ 4096
    by true = two_slots_whole
    by false = saved_whole f

writes : WritesOutTo cycled written 3 1 1
writes = record {
  entry = record { freed = refl; others = written_others };
  others = λ g no_area no_slots. rw no_slots refl;
  slot = second_slot;
  slots = λ j other lt. other_than_second j other;
  lengths = λ g. written_whole g ∙ sym (saved_whole g);
  sealed_page = λ j. refl;
  next = refl;
  table = refl;
  processors = refl;
  count = refl;
  queue = refl;
  track = refl;
  stamps = refl;
}

write_row : leaf_row (view_in one_page cycled) (Ewb (frame 3) (frame 1) 1) ≡ OkHandle (record { 0 = 1 })
unfolding one_slot
write_row = refl

write_move : IsMove one_page cycled written (Ewb (frame 3) (frame 1) 1) (OkHandle (record { 0 = 1 })) None
write_move = ewb_moves one_page cycled written (frame 3) (frame 1) 1 writes write_row

-- the moves
block_reached : AreMoves one_page input_program blocked_past blocked []
block_reached = (interrupted, [], None, interrupt_reached, block_move, refl)

cycle_reached : AreMoves one_page input_program cycled_past cycled []
cycle_reached = (blocked, [], None, block_reached, cycle_move, refl)

pub write_reached : AreMoves one_page input_program written_past written []
write_reached = (cycled, [], None, cycle_reached, write_move, refl)

-- some machine has written the area out
pub written_reached : IsReached written_past []
written_reached = (written, record { valid = page_valid; moves = write_reached })
