-- What is said of the bytes of pages holds of fewer copies.
use Rattle.std.proofs.Common.{◌≡◌, ◌⊎◌, inl, inr, ℕ, List, [], ◌∷◌, length, subst, sym}
use Rattle.std.specs.Prelude.{Bool, Option, None}
use Rattle.ak_core.specs.Layout.{Layout}
use Rattle.ak_model.specs.Paging.Pages.{tcs_page, ssa_page, state_page}
use Rattle.ak_model.specs.Flat.FlatRuns.{Flat, page_bytes}
use Rattle.ak_model.specs.Control.ControlState.{Phase, Reason, Interrupted, Cleared, Raised, Denied, Missed, Broke, Faulted, Saved}
use Rattle.ak_model.specs.Tapes.LastMoment.{FlatRuns}
use Rattle.ak_model.specs.Tapes.ProgramTurns.{ProgramTurn}
use Rattle.ak_pager.specs.RuntimePages.{OfCopy, Copies, IsArea, AreasStand, IsState}
use Rattle.ak_relation.specs.Bytes.Pages.{IsTcs, CopiesStand}
use Rattle.ak_relation.specs.Program.Reaching.{NamesBreak, IsForcedBy, BreaksStand}
use Rattle.ak_relation.specs.Premises.Leaves.{AreFewer}

of_fewer : (new old : Option (List ℕ)) (P : List ℕ → Type 0) → (new ≡ old) ⊎ (new ≡ None) → OfCopy old P → OfCopy new P
of_fewer new old P (inl same) h = subst (λ o. OfCopy o P) (sym same) h
of_fewer new old P (inr none) h = subst (λ o. OfCopy o P) (sym none) tt

module _ (layout : Layout) (new old : Copies) (fewer : AreFewer new old) where
  areas : (phase : Phase) (queue : List ℕ) (flat : Flat) (stack : List Saved) → AreasStand layout phase queue flat old stack → AreasStand layout phase queue flat new stack
  areas phase queue flat [] h = tt
  areas phase queue flat (saved ∷ older) h =
      (of_fewer (new (ssa_page layout (length older))) (old (ssa_page layout (length older))) (IsArea layout phase queue flat saved) (fewer (ssa_page layout (length older))) h.0, areas phase queue flat older h.1)

  -- the bytes of all pages
  pub copies-fewer : (phase : Phase) (queue : List ℕ) (stack : List Saved) (pending : Bool) (flat : Flat) →
      CopiesStand layout phase queue stack pending flat old → CopiesStand layout phase queue stack pending flat new
  copies-fewer phase queue stack pending flat h = record {
    tcs = of_fewer _ _ (IsTcs (length stack) pending) (fewer (tcs_page layout)) h.tcs;
    areas = areas phase queue flat stack h.areas;
    state = of_fewer _ _ (IsState layout phase queue flat) (fewer (state_page layout)) h.state;
    program = λ p lt. of_fewer _ _ (λ bytes. bytes ≡ page_bytes flat p) (fewer p) (h.program p lt);
  }

  module _ (runs : FlatRuns) (turns : List ProgramTurn) where
    forced : (p : ℕ) (reason : Reason) → IsForcedBy layout runs turns (old p) reason → IsForcedBy layout runs turns (new p) reason
    forced p Broke h = of_fewer _ _ (NamesBreak layout runs turns) (fewer p) h
    forced p Interrupted h = tt
    forced p Cleared h = tt
    forced p (Raised v) h = tt
    forced p Denied h = tt
    forced p (Missed c) h = tt
    forced p (Faulted t) h = tt

    -- the evidence of breaks
    pub breaks-fewer : (stack : List Saved) → BreaksStand layout runs turns old stack → BreaksStand layout runs turns new stack
    breaks-fewer [] h = tt
    breaks-fewer (saved ∷ older) h = (forced (ssa_page layout (length older)) saved.reason h.0, breaks-fewer older h.1)
