-- The pages after a resuming: the TCS counts one context fewer, its area gave the registers, and each other page has the bytes that
-- it had.
use Rattle.std.proofs.Common.{◌≡◌, ◌≢◌, ℕ, ◌+◌, ◌<◌, ◌≤◌, List, [], ◌∷◌, length, refl, ap, sym, ◌∙◌, subst, arith, inl, inr}
use Rattle.std.proofs.lemmas.Bool.Decides.{eqb_tells}
use Rattle.std.specs.Prelude.{Bool, true, false, option_map, Some, None}
use Rattle.ak_core.specs.Layout.{Layout}
use Rattle.ak_model.specs.Paging.Pages.{pages, tcs_page, ssa_page, state_page}
use Rattle.ak_model.specs.Paging.Histories.{History}
use Rattle.ak_model.specs.Paging.Holdings.{Place, InFrame, InHandle, Gone, Mapping}
use Rattle.ak_model.specs.Paging.Frames.{held}
use Rattle.ak_model.specs.Paging.Handles.{place}
use Rattle.ak_model.specs.Paging.PageTable.{pte}
use Rattle.ak_model.specs.Paging.Inside.{since, inside, someone_inside}
use Rattle.ak_model.specs.Control.ControlState.{Saved, Control}
use Rattle.ak_model.specs.Flat.FlatRuns.{page_bytes}
use Rattle.ak_model.specs.Tapes.LastMoment.{FlatRuns}
use Rattle.ak_model.specs.Tapes.ProgramTurns.{ProgramTurn}
use Rattle.ak_model.specs.Sound.Forced.{queue_by}
use Rattle.ak_model.proofs.Control.OrderlyMoves.{none_now, three}
use Rattle.ak_pager.specs.Contexts.{Gives}
use Rattle.ak_relation.specs.State.MachineState.{State, copy}
use Rattle.ak_pager.specs.RuntimePages.{OfCopy, IsArea, AreasStand, IsState}
use Rattle.ak_relation.specs.Bytes.Pages.{IsTcs, CopiesStand}
use Rattle.ak_relation.specs.Program.Reaching.{IsForcedBy, BreaksStand}
use Rattle.ak_relation.specs.Relation.Stands.{copies_at, Stands}
use Rattle.ak_relation.specs.Premises.Resuming.{ResumesAt}
use Rattle.ak_relation.specs.Relation.Does.{at_moment}
use Rattle.ak_ssa.proofs.RegistersReturn.{area_back}
use Rattle.ak_model.proofs.Paging.OpenFrames.{known-present}
use Rattle.ak_relation.proofs.Entering.EnterFacts.{IsOpenFrame}
use Rattle.ak_relation.proofs.Entering.EnteredPages.{none_of, none_place}
use Rattle.ak_relation.proofs.Entering.ResumeFacts.{FoundAgain}
use Rattle.ak_relation.proofs.Exits.SavedPages.{page_is}

module _ (layout : Layout) (image : List ℕ) (past : History) (control : Control) (turns : List ProgramTurn) (old new : State) (lp : ℕ) (one : Saved) (older : List Saved)
    (h : Stands layout image (at_moment past control turns old)) (stacked : control.stack ≡ one ∷ older) (f : FoundAgain layout past control (length older))
    (e : ResumesAt layout lp (length older) old new) where
  -- no context was inside
  pub empty_now : control.now ≡ None
  empty_now = none_of control.now (none_now layout (queue_by layout turns) (someone_inside layout past) control h.laws.orderly f.nobody)

  -- nobody was inside
  pub nobody : (q : ℕ) → since past q ≡ None
  nobody q = none_place (since past q) (out (inside past q) refl)
    where
      out : (b : Bool) → inside past q ≡ b → b ≡ false
      out false i = refl
      out true i = absurd (let k = known-present layout past control h.laws.present in let s = k.someone q i in let n = f.nobody in cc)

  -- at most two areas are below
  pub few : length older ≤ 2
  few = let size : length control.stack ≡ length (one ∷ older) = ap length stacked in
      let low = three layout (queue_by layout turns) control.phase control.queue control.stack h.laws.orderly.stack in omega arith

  -- ---- The frames that are held

  all_low : (p : ℕ) → p < pages layout + 6 → old.table p ≡ pte layout past p
  all_low p lt = h.tables.mapping.mapped p lt

  -- the frame of the TCS
  pub tcs_open : IsOpenFrame layout past (old.table (tcs_page layout)).frame (tcs_page layout)
  tcs_open = subst (λ (m : Mapping). IsOpenFrame layout past m.frame (tcs_page layout)) (sym (all_low (tcs_page layout) (omega arith))) f.tcs_frame

  -- the frame of the area
  pub area_open : IsOpenFrame layout past (old.table (ssa_page layout (length older))).frame (ssa_page layout (length older))
  area_open = let small = few in
      subst (λ (m : Mapping). IsOpenFrame layout past m.frame (ssa_page layout (length older))) (sym (all_low (ssa_page layout (length older)) (omega arith))) f.area_frame

  -- ---- Pages

  other_place : (p : ℕ) (at : Place) → place layout past p ≡ at → p ≢ tcs_page layout → copy new at ≡ copy old at
  other_place p (InFrame g) is a =
      ap Some (e.frames g (elim (eqb_tells g (old.table (tcs_page layout)).frame) [
        | inl same ↦ absurd (a (page_is p (tcs_page layout) (sym (h.tables.one_copy.framed p g is) ∙ ap (held layout past) same.1 ∙ tcs_open.holds)))
        | inr apart ↦ apart.0
      ]))
  other_place p (InHandle k) is a = ap (λ all. option_map (λ sealed_page. sealed_page.bytes) (all k)) e.sealed_pages
  other_place p Gone is a = refl

  other_copy : (p : ℕ) → p ≢ tcs_page layout → copies_at layout past new p ≡ copies_at layout past old p
  other_copy p a = other_place p (place layout past p) refl a

  areas : (stack : List Saved) → AreasStand layout control.phase control.queue h.bytes.flat (copies_at layout past old) stack →
      AreasStand layout control.phase control.queue h.bytes.flat (copies_at layout past new) stack
  areas [] k = tt
  areas (top ∷ rest) k =
      (subst (λ o. OfCopy o (IsArea layout control.phase control.queue h.bytes.flat top)) (sym (other_copy (ssa_page layout (length rest)) (λ x. absurd (omega arith)))) k.0, areas rest k.1)

  -- the evidence of breaks stays
  pub breaks : (runs : FlatRuns) (stack : List Saved) → BreaksStand layout runs turns (copies_at layout past old) stack → BreaksStand layout runs turns (copies_at layout past new) stack
  breaks runs [] k = tt
  breaks runs (top ∷ rest) k =
      (subst (λ o. IsForcedBy layout runs turns o top.reason) (sym (other_copy (ssa_page layout (length rest)) (λ x. absurd (omega arith)))) k.0, breaks runs rest k.1)

  saved_areas : AreasStand layout control.phase control.queue h.bytes.flat (copies_at layout past old) (one ∷ older)
  saved_areas = subst (AreasStand layout control.phase control.queue h.bytes.flat (copies_at layout past old)) stacked h.bytes.pages.areas

  -- the registers are those of the context
  pub gives : Gives layout control.phase h.bytes.flat one.context (new.processors lp).regs
  gives =
      let area : IsArea layout control.phase control.queue h.bytes.flat one (old.frames (old.table (ssa_page layout (length older))).frame) =
      subst (λ o. OfCopy o (IsArea layout control.phase control.queue h.bytes.flat one))
      (ap (copy old) (h.tables.one_copy.placed (ssa_page layout (length older)) (old.table (ssa_page layout (length older))).frame area_open.holds)) saved_areas.0 in
      subst (Gives layout control.phase h.bytes.flat one.context) (sym (e.regs ∙ area_back layout (old.frames (old.table (ssa_page layout (length older))).frame) area.frame area.fits.words area.stored)) area.registers

  -- all pages
  pub all_pages_stand : CopiesStand layout control.phase control.queue older control.pending h.bytes.flat (copies_at layout past new)
  all_pages_stand = record {
    tcs = subst (λ o. OfCopy o (IsTcs (length older) control.pending)) (sym (ap (copy new) (h.tables.one_copy.placed (tcs_page layout) (old.table (tcs_page layout)).frame tcs_open.holds)))
        (subst (λ b. IsTcs (length older) b (new.frames (old.table (tcs_page layout)).frame)) (sym f.free) e.counted);
    areas = areas older saved_areas.1;
    state = subst (λ o. OfCopy o (IsState layout control.phase control.queue h.bytes.flat)) (sym (other_copy (state_page layout) (λ x. absurd (omega arith)))) h.bytes.pages.state;
    program = λ p lt. subst (λ o. OfCopy o (λ bytes. bytes ≡ page_bytes h.bytes.flat p)) (sym (other_copy p (λ x. absurd (omega arith)))) (h.bytes.pages.program p lt);
  }
