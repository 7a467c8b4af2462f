-- The program's registers have 64 bits: so a processor that is saved has a frame that fits.
use Rattle.std.proofs.Common.{◌≡◌, ℕ, List, refl, sym, subst}
use Rattle.std.specs.Prelude.{Bool, Some}
use Rattle.ak_core.specs.Layout.{Layout}
use Rattle.ak_core.specs.declared.registers.Mode.{Mode}
use Rattle.ak_model.specs.Paging.Histories.{History}
use Rattle.ak_model.specs.Paging.Inside.{since}
use Rattle.ak_model.specs.Control.ControlState.{Control}
use Rattle.ak_model.specs.Tapes.ProgramTurns.{ProgramTurn}
use Rattle.ak_model.specs.Laws.OwedAnswers.{owing}
use Rattle.ak_relation.specs.Program.FlatFits.{FlatFits}
use Rattle.ak_ssa.specs.SavedFrames.{SavedCause}
use Rattle.ak_ssa.specs.SavedRegisters.{AreRegs}
use Rattle.ak_ssa.specs.FramesFit.{FrameFits}
use Rattle.ak_relation.specs.State.MachineState.{State}
use Rattle.ak_relation.specs.Premises.Saving.{Saves}
use Rattle.ak_relation.specs.Relation.Stands.{Stands}
use Rattle.ak_relation.specs.Relation.Does.{at_moment}
use Rattle.ak_relation.proofs.Flat.WordRuns.{at_words}
use Rattle.ak_relation.proofs.Program.Seen.{sees}

module _ (layout : Layout) (image : List ℕ) (past : History) (control : Control) (turns : List ProgramTurn) (state : State) (h : Stands layout image (at_moment past control turns state)) where
  -- the flat state's values fit
  pub flat_fits : FlatFits h.bytes.flat
  flat_fits =
      let given = h.inputs in let words = given.words in
      at_words layout given.valid image control.returned given.bytes words.returned (owing control) control.count h.bytes.flat h.bytes.program

  module _ (lp place : ℕ) (is : since past lp ≡ Some place) where
    -- a processor that runs the program has registers of 64 bits
    pub own_words : (state.processors lp).regs.mode ≡ Mode.Program → AreRegs (state.processors lp).regs
    own_words mode =
        let seen = sees layout image past control turns state lp place h is mode in
        let fits = flat_fits in subst AreRegs (sym seen.regs) fits.words

    -- and so has any that is saved
    pub saved_fits : (saved : ℕ) (pending : Bool) (cause : SavedCause) (new : State) → Saves layout lp saved pending cause state new →
        FrameFits layout (record { regs = (state.processors lp).regs; cause = cause })
    saved_fits saved pending cause new s = record { words = by_mode (state.processors lp).regs.mode refl; cause = s.fits }
      where
        by_mode : (mode : Mode) → (state.processors lp).regs.mode ≡ mode → AreRegs (state.processors lp).regs
        by_mode Mode.Program e = own_words e
        by_mode Mode.Runtime e = s.words e
