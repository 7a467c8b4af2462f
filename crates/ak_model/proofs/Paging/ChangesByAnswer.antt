-- A fact about what a move changed, by its answer: it holds where nothing was changed, and of the change where there was one.
use Rattle.std.proofs.Common.{◌≡◌, ℕ, refl}
use Rattle.ak_core.specs.declared.page.Handle.{Handle}
use Rattle.ak_core.specs.declared.moves.Answer.{Answer}
use Rattle.ak_core.specs.declared.moves.Answer.TheVariants.{Ok, OkHandle, Exit as ExitBy}
use Rattle.ak_core.specs.declared.moves.Exit.{Exit}
use Rattle.ak_core.specs.declared.moves.Exit.TheVariants.{Still}
use Rattle.ak_model.specs.Paging.Histories.{Change, Unchanged, if_ok, if_handle, if_left, if_exit}

module _ (P : Change → Type 0) (none : P Unchanged) where
  pub ok_holds : (a : Answer) (c : Change) → (a ≡ Ok → P c) → P (if_ok a c)
  ok_holds Ok c h = h refl
  ok_holds _ c h = none

  pub handle_holds : (a : Answer) (c : ℕ → Change) → ((k : Handle) → a ≡ OkHandle k → P (c k.0)) → P (if_handle a c)
  handle_holds (OkHandle k) c h = h k refl
  handle_holds _ c h = none

  left_holds : (exit : Exit) (c : Change) → P c → P (if_left exit c)
  left_holds Still c h = none
  left_holds _ c h = h

  pub exit_holds : (a : Answer) (c : Exit → Change) → ((exit : Exit) → P (c exit)) → P (if_exit a c)
  exit_holds (ExitBy exit) c h = left_holds exit (c exit) (h exit)
  exit_holds _ c h = none
