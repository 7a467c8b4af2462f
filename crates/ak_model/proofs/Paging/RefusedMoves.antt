-- A refused move changes nothing.
use Rattle.std.proofs.Common.{◌≡◌, ℕ, refl}
use Rattle.std.specs.Prelude.{false}
use Rattle.ak_core.specs.Layout.{Layout}
use Rattle.ak_core.specs.declared.moves.Exit.{Exit}
use Rattle.ak_core.specs.declared.moves.Move.{Move}
use Rattle.ak_core.specs.declared.moves.Move.TheVariants.{ReadPte, Ewb, Eenter, Eresume, Run, Interrupt}
use Rattle.ak_core.specs.declared.moves.Answer.{Answer}
use Rattle.ak_core.specs.declared.moves.Answer.TheVariants.{Ok, OkHandle, Exit as ExitBy}
use Rattle.ak_model.specs.Paging.Histories.{History, Change, Unchanged, change, if_ok, if_handle, if_exit}
use Rattle.ak_model.specs.Control.ControlState.{Control}
use Rattle.ak_model.specs.Control.Entering.{control_after, on_ok, on_exit}
use Rattle.ak_model.specs.Kernels.Repeats.{is_done}

not_ok : (a : Answer) (c : Change) → is_done a ≡ false → if_ok a c ≡ Unchanged
not_ok Ok c h = cc
not_ok _ c h = refl

not_handle : (a : Answer) (c : ℕ → Change) → is_done a ≡ false → if_handle a c ≡ Unchanged
not_handle (OkHandle k) c h = cc
not_handle _ c h = refl

not_exit : (a : Answer) (c : Exit → Change) → is_done a ≡ false → if_exit a c ≡ Unchanged
not_exit (ExitBy exit) c h = cc
not_exit _ c h = refl

stays : (a : Answer) (before next : Control) → is_done a ≡ false → on_ok a before next ≡ before
stays Ok before next h = cc
stays _ before next h = refl

stays_out : (a : Answer) (before next : Control) → is_done a ≡ false → on_exit a before next ≡ before
stays_out (ExitBy exit) before next h = cc
stays_out _ before next h = refl

-- no scan of the history sees it, since all look at changes alone
pub change-refused : (m : Move) (a : Answer) → is_done a ≡ false → change m a ≡ Unchanged
change-refused (ReadPte p) a h = refl
change-refused (Ewb f va i) a h = not_handle a _ h
change-refused (Run lp n) a h = not_exit a _ h
change-refused _ a h = not_ok a _ h

pub control_after-refused : (layout : Layout) (past : History) (control : Control) (m : Move) (a : Answer) → is_done a ≡ false → control_after layout past control m a ≡ control
control_after-refused layout past control (Eenter lp v) a h = stays a control _ h
control_after-refused layout past control (Eresume lp) a h = stays a control _ h
control_after-refused layout past control (Run lp n) a h = stays_out a control _ h
control_after-refused layout past control (Interrupt lp) a h = stays a control _ h
control_after-refused layout past control _ a h = refl
