-- The pages after an asynchronous exit: the area and the TCS are as it says, and each other page has the bytes that it had.
use Rattle.std.proofs.Common.{◌≡◌, ◌≢◌, ℕ, ◌+◌, ◌<◌, ◌≤◌, List, [], ◌∷◌, length, refl, ap, sym, ◌∙◌, subst, arith, inl, inr}
use Rattle.std.proofs.lemmas.Bool.Decides.{eqb_tells}
use Rattle.std.specs.Prelude.{Bool, false, option_map, Some, ◌==◌}
use Rattle.ak_core.specs.Layout.{Layout}
use Rattle.ak_model.specs.Paging.Pages.{tcs_page, ssa_page, state_page}
use Rattle.ak_model.specs.Paging.Histories.{History}
use Rattle.ak_model.specs.Paging.Holdings.{PageFrame, Place, InFrame, InHandle, Gone}
use Rattle.ak_model.specs.Paging.Frames.{held}
use Rattle.ak_model.specs.Paging.Handles.{place}
use Rattle.ak_model.specs.Flat.FlatRuns.{Flat, page_bytes}
use Rattle.ak_model.specs.Tapes.LastMoment.{FlatRuns}
use Rattle.ak_model.specs.Tapes.ProgramTurns.{ProgramTurn}
use Rattle.ak_model.specs.Control.ControlState.{Phase, Context, Reason, Saved}
use Rattle.ak_pager.specs.Contexts.{Gives, IsNoted}
use Rattle.ak_relation.specs.State.MachineState.{State, copy}
use Rattle.ak_pager.specs.RuntimePages.{OfCopy, IsArea, AreasStand, IsState}
use Rattle.ak_ssa.specs.SavedFrames.{SavedCause}
use Rattle.ak_ssa.specs.FramesFit.{FrameFits}
use Rattle.ak_relation.specs.State.Tables.{TablesStand}
use Rattle.ak_relation.specs.Bytes.Pages.{IsTcs, CopiesStand}
use Rattle.ak_relation.specs.Program.Reaching.{IsForcedBy, BreaksStand}
use Rattle.ak_relation.specs.Relation.Stands.{copies_at}
use Rattle.ak_relation.specs.Premises.Saving.{Saves}

-- two pages in equal frames
pub page_is : (a b : ℕ) → PageFrame a ≡ PageFrame b → a ≡ b
page_is a b e = cc

module _ (layout : Layout) (past : History) (old new : State) (lp saved : ℕ) (pending : Bool) (cause : SavedCause) (h : TablesStand layout past old)
    (s : Saves layout lp saved pending cause old new) (in_tcs : held layout past (old.processors lp).tcs ≡ PageFrame (tcs_page layout))
    (in_area : held layout past (old.processors lp).ssa ≡ PageFrame (ssa_page layout saved)) where
  apart : (g f p q : ℕ) → held layout past g ≡ PageFrame p → held layout past f ≡ PageFrame q → p ≢ q → (g == f) ≡ false
  apart g f p q a b other =
      elim (eqb_tells g f) [
        | inl is ↦ absurd (other (page_is p q (sym a ∙ ap (held layout past) is.1 ∙ b)))
        | inr is_not ↦ is_not.0
      ]

  other_place : (p : ℕ) (at : Place) → place layout past p ≡ at → p ≢ tcs_page layout → p ≢ ssa_page layout saved → copy new at ≡ copy old at
  other_place p (InFrame g) e a b =
      let there = h.one_copy.framed p g e in
      ap Some (s.frames g (apart g (old.processors lp).tcs p (tcs_page layout) there in_tcs a) (apart g (old.processors lp).ssa p (ssa_page layout saved) there in_area b))
  other_place p (InHandle k) e a b = ap (λ all. option_map (λ sealed_page. sealed_page.bytes) (all k)) s.sealed_pages
  other_place p Gone e a b = refl

  -- each other page
  pub other_copy : (p : ℕ) → p ≢ tcs_page layout → p ≢ ssa_page layout saved → copies_at layout past new p ≡ copies_at layout past old p
  other_copy p a b = other_place p (place layout past p) refl a b

  -- the TCS
  pub tcs_copy : copies_at layout past new (tcs_page layout) ≡ Some (new.frames (old.processors lp).tcs)
  tcs_copy = ap (copy new) (h.one_copy.placed (tcs_page layout) (old.processors lp).tcs in_tcs)

  -- the area
  pub area_copy : copies_at layout past new (ssa_page layout saved) ≡ Some (new.frames (old.processors lp).ssa)
  area_copy = ap (copy new) (h.one_copy.placed (ssa_page layout saved) (old.processors lp).ssa in_area)

  older_area : (n : ℕ) → n < saved → copies_at layout past new (ssa_page layout n) ≡ copies_at layout past old (ssa_page layout n)
  older_area n lt = other_copy (ssa_page layout n) (λ e. absurd (omega arith)) (λ e. absurd (omega arith))

  older_areas : (phase : Phase) (queue : List ℕ) (flat : Flat) (stack : List Saved) → length stack ≤ saved → AreasStand layout phase queue flat (copies_at layout past old) stack →
      AreasStand layout phase queue flat (copies_at layout past new) stack
  older_areas phase queue flat [] le k = tt
  older_areas phase queue flat (one ∷ older) le k = (
    subst (λ o. OfCopy o (IsArea layout phase queue flat one)) (sym (older_area (length older) (omega arith))) k.0,
    older_areas phase queue flat older (omega arith) k.1,
  )

  -- the evidence of breaks in the older areas
  pub older_breaks : (runs : FlatRuns) (turns : List ProgramTurn) (stack : List Saved) → length stack ≤ saved → BreaksStand layout runs turns (copies_at layout past old) stack →
      BreaksStand layout runs turns (copies_at layout past new) stack
  older_breaks runs turns [] le k = tt
  older_breaks runs turns (one ∷ older) le k =
      (subst (λ o. IsForcedBy layout runs turns o one.reason) (sym (older_area (length older) (omega arith))) k.0, older_breaks runs turns older (omega arith) k.1)

  -- all pages, with one more saved context on the stack
  pub pages_after : (phase : Phase) (queue : List ℕ) (flat : Flat) (stack : List Saved) (before : Bool) (context : Context) (reason : Reason) → length stack ≡ saved → saved ≤ 2 →
      FrameFits layout (record { regs = (old.processors lp).regs; cause = cause }) → IsNoted layout queue context reason cause → Gives layout phase flat context (old.processors lp).regs →
      CopiesStand layout phase queue stack before flat (copies_at layout past old) →
      CopiesStand layout phase queue (record { context = context; reason = reason } ∷ stack) pending flat (copies_at layout past new)
  pages_after phase queue flat stack before context reason size few fits noted gives k =
      let all : length (record { context = context; reason = reason } ∷ stack) ≡ saved + 1 = omega arith in
      record {
        tcs = subst (λ o. OfCopy o (IsTcs (length (record { context = context; reason = reason } ∷ stack)) pending)) (sym tcs_copy)
            (subst (λ n. IsTcs n pending (new.frames (old.processors lp).tcs)) (sym all) s.tcs);
        areas = (
          subst (λ n. OfCopy (copies_at layout past new (ssa_page layout n)) (IsArea layout phase queue flat (record { context = context; reason = reason }))) (sym size)
              (subst (λ o. OfCopy o (IsArea layout phase queue flat (record { context = context; reason = reason }))) (sym area_copy)
              (record { frame = record { regs = (old.processors lp).regs; cause = cause }; stored = s.area; fits = fits; noted = noted; registers = gives })),
          older_areas phase queue flat stack (omega arith) k.areas,
        );
        state = subst (λ o. OfCopy o (IsState layout phase queue flat)) (sym (other_copy (state_page layout) (λ e. absurd (omega arith)) (λ e. absurd (omega arith)))) k.state;
        program = λ p lt. subst (λ o. OfCopy o (λ bytes. bytes ≡ page_bytes flat p)) (sym (other_copy p (λ e. absurd (omega arith)) (λ e. absurd (omega arith)))) (k.program p lt);
      }
