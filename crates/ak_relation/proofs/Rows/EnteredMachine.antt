-- The machine of the example after its processor entered, and after an interrupt of it.
use Rattle.std.proofs.Common.{◌≡◌, ℕ, ◌<◌, List, [], ◌∷◌, length, refl, ap, sym, ◌∙◌, subst, arith}
use Rattle.std.specs.Prelude.{Bool, true, false, ◌^◌, None, ◌==◌, if◌then◌else◌}
use Rattle.ak_core.specs.declared.page.Lp.{Lp}
use Rattle.ak_core.specs.declared.moves.Move.TheVariants.{Eenter, Interrupt}
use Rattle.ak_core.specs.declared.moves.Answer.TheVariants.{Ok}
use Rattle.ak_core.specs.declared.registers.Regs.{Regs}
use Rattle.ak_pager.specs.Contexts.{entry_regs}
use Rattle.ak_relation.specs.Bytes.Pages.{IsTcs, flag_number}
use Rattle.ak_ssa.specs.SavedFrames.{NoCause, SavedFrame, frame_bytes, saved_bytes}
use Rattle.ak_ssa.specs.SavedRegisters.{AreRegs}
use Rattle.ak_track.specs.Steps.{EntersBy, LeavesBy}
use Rattle.ak_relation.specs.State.MachineState.{Processor, State}
use Rattle.ak_relation.specs.Premises.EnterRows.{saved_in, enter_row}
use Rattle.ak_relation.specs.Premises.Entering.{EntersAt}
use Rattle.ak_relation.specs.Premises.Saving.{Saves}
use Rattle.ak_relation.specs.Relation.Does.{IsMove}
use Rattle.ak_relation.specs.Relation.MoveByMove.{AreMoves}
use Rattle.ak_relation.specs.Relation.Example.{one_page, input_program, entered_past, interrupted_past, IsReached}
use Rattle.ak_relation.proofs.Entering.EnterMoves.{enter_moves}
use Rattle.ak_relation.proofs.Exits.InterruptMoves.{interrupt_moves}
use Rattle.ak_relation.proofs.Rows.BlankPages.{blank, blank_at, one_saved, one_saved_whole, one_saved_at, none_refused, area_with, area_whole, area_has}
use Rattle.ak_relation.proofs.Rows.BuiltMachine.{page_valid, built_frames, built_whole, outside, built, is_built}

-- the only processor
abbrev only : Lp
only = record { 0 = 0 }

-- ---- The entering

-- the registers at the entry of the runtime
abbrev pub its_regs : Regs
its_regs = entry_regs one_page 0 7

-- the processor inside
abbrev pub inside : Processor
inside = record { inside = true; regs = its_regs; tcs = 2; ssa = 3; fills = [] }

-- the machine
abbrev pub entered : State
entered = record built { processors = λ lp. if lp == 0 then inside else outside; track = EntersBy 0 ∷ [] }

none_saved : saved_in one_page built ≡ 0
none_saved = blank_at 24 4

answered : enter_row one_page built 0 ≡ Ok
unfolding blank
answered = refl

enters : EntersAt one_page 0 0 7 built entered
enters = record {
  inside = refl;
  regs = refl;
  tcs = refl;
  ssa = refl;
  flushed = refl;
  others = λ q e. ap (λ b. if b then inside else outside) e;
  cleared = record { saved_is = blank_at 24 4; pending_is = blank_at 72 1 };
  frames = λ g e. refl;
  whole = built_whole;
  track = refl;
  entries = refl;
  count = refl;
  queue = refl;
  stamps = refl;
  sealed_pages = refl;
  next = refl;
  table = refl;
}

enter_move : IsMove one_page built entered (Eenter only 7) Ok None
enter_move =
    enter_moves one_page built only entered 7 (omega arith) answered (subst (λ n. EntersAt one_page 0 n 7 built entered) (sym none_saved) enters)

-- the moves
pub enter_reached : AreMoves one_page input_program entered_past entered []
enter_reached = (built, [], None, (is_built, refl), enter_move, refl)

-- some machine has entered
pub entered_reached : IsReached entered_past []
entered_reached = (entered, record { valid = page_valid; moves = enter_reached })

-- ---- The interrupt

-- the saved frame
abbrev pub its_frame : SavedFrame
its_frame = record { regs = its_regs; cause = NoCause }

pub frame_size : length (frame_bytes one_page its_frame) ≡ 200
unfolding saved_bytes
frame_size = refl

-- the TCS counts one context, which is in the first area
abbrev pub saved_frames : ℕ → List ℕ
saved_frames f = if f == 2 then one_saved else (if f == 3 then area_with (frame_bytes one_page its_frame) else built_frames f)

pub saved_whole : (f : ℕ) → length (saved_frames f) ≡ 4096
saved_whole f = by (f == 2) (f == 3)
  where
    by : (a b : Bool) → length (if a then one_saved else (if b then area_with (frame_bytes one_page its_frame) else built_frames f)) ≡ 4096
    by true b = one_saved_whole
    by false true = area_whole (frame_bytes one_page its_frame) frame_size
    by false false = built_whole f

-- the machine
abbrev pub interrupted : State
interrupted = record built { frames = saved_frames; track = LeavesBy 0 ∷ EntersBy 0 ∷ [] }

pub its_words : AreRegs its_regs
its_words =
    let low : 7 < 2 ^ 64 = omega arith in
    let zero : 0 < 2 ^ 64 = omega arith in
    record {
      sixteen = refl;
      words = (zero, (zero, (zero, (zero, (zero, (zero, (zero, (low, (zero, (zero, (zero, (zero, (zero, (zero, (zero, (zero, tt))))))))))))))));
      rip = omega arith;
    }

same_frames : (g : ℕ) → (g == 2) ≡ false → (g == 3) ≡ false → saved_frames g ≡ built_frames g
same_frames g no_tcs no_area = rw (no_tcs, no_area) refl

saves : Saves one_page 0 0 false NoCause entered interrupted
saves = record {
  area = area_has (frame_bytes one_page its_frame) frame_size;
  words = λ mode. its_words;
  fits = tt;
  tcs = record { saved_is = one_saved_at; pending_is = none_refused };
  frames = same_frames;
  whole = saved_whole;
  left = refl;
  flushed = refl;
  others = λ q e. sym (ap (λ b. if b then inside else outside) e);
  track = refl;
  entries = refl;
  count = refl;
  queue = refl;
  stamps = refl;
  sealed_pages = refl;
  next = refl;
  table = refl;
}

-- the TCS says that nothing is saved
saves_by : (saved : ℕ) (pending : Bool) → IsTcs saved pending blank → Saves one_page 0 saved pending NoCause entered interrupted
saves_by saved pending tcs =
    subst (λ n. Saves one_page 0 n pending NoCause entered interrupted) (sym (blank_at 24 4) ∙ tcs.saved_is)
    (by pending (sym (blank_at 72 1) ∙ tcs.pending_is))
  where
    by : (p : Bool) → 0 ≡ flag_number p → Saves one_page 0 0 p NoCause entered interrupted
    by false e = saves
    by true e = absurd (omega arith)

interrupt_move : IsMove one_page entered interrupted (Interrupt only) Ok None
interrupt_move = interrupt_moves one_page only entered interrupted refl saves_by

-- the moves
pub interrupt_reached : AreMoves one_page input_program interrupted_past interrupted []
interrupt_reached = (entered, [], None, enter_reached, interrupt_move, refl)

-- some machine has been interrupted
pub interrupted_reached : IsReached interrupted_past []
interrupted_reached = (interrupted, record { valid = page_valid; moves = interrupt_reached })
