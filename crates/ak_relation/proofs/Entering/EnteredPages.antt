-- The pages after an entering: the TCS refuses nothing any more, and each other page has the bytes that it had.
use Rattle.std.proofs.Common.{◌≡◌, ◌≢◌, ℕ, ◌+◌, ◌<◌, List, [], ◌∷◌, length, refl, ap, sym, ◌∙◌, subst, arith, inl, inr}
use Rattle.std.proofs.lemmas.Bool.{eqb-false}
use Rattle.std.proofs.lemmas.Bool.Decides.{eqb_tells}
use Rattle.std.specs.Prelude.{Bool, true, false, option_map, Option, Some, None, is_some, ◌==◌}
use Rattle.ak_core.specs.Layout.{Layout}
use Rattle.ak_core.specs.declared.page.Lp.{Lp}
use Rattle.ak_core.specs.declared.moves.Move.TheVariants.{Eenter}
use Rattle.ak_core.specs.declared.moves.Answer.TheVariants.{Ok, Gp}
use Rattle.ak_model.specs.Paging.Pages.{pages, tcs_page, ssa_page, state_page}
use Rattle.ak_model.specs.Paging.Histories.{History}
use Rattle.ak_model.specs.Paging.Holdings.{PageFrame, Place, InFrame, InHandle, Gone, Mapping}
use Rattle.ak_model.specs.Paging.Frames.{held}
use Rattle.ak_model.specs.Paging.Handles.{place}
use Rattle.ak_model.specs.Paging.PageTable.{pte}
use Rattle.ak_model.specs.Paging.Inside.{since, inside, someone_inside}
use Rattle.ak_model.specs.Control.ControlState.{Context, Enter, Saved, Control, cssa}
use Rattle.ak_model.specs.Control.Answers.{enter_answer}
use Rattle.ak_model.specs.Flat.FlatRuns.{page_bytes}
use Rattle.ak_model.specs.Tapes.LastMoment.{FlatRuns}
use Rattle.ak_model.specs.Tapes.ProgramTurns.{ProgramTurn}
use Rattle.ak_model.specs.Sound.Forced.{queue_by}
use Rattle.ak_model.proofs.Control.OrderlyMoves.{none_now, three}
use Rattle.ak_model.proofs.Paging.SomeoneInside.{other, outside_ok}
use Rattle.ak_relation.specs.State.MachineState.{State, copy}
use Rattle.ak_pager.specs.RuntimePages.{OfCopy, IsArea, AreasStand, IsState}
use Rattle.ak_relation.specs.Bytes.Pages.{IsTcs, CopiesStand}
use Rattle.ak_relation.specs.Program.Turns.{is_last}
use Rattle.ak_relation.specs.Program.Reaching.{IsForcedBy, BreaksStand}
use Rattle.ak_relation.specs.Relation.Stands.{copies_at, Stands}
use Rattle.ak_relation.specs.Premises.Entering.{EntersAt}
use Rattle.ak_relation.specs.Relation.Does.{at_moment}
use Rattle.ak_model.proofs.Paging.OpenFrames.{known-present}
use Rattle.ak_relation.proofs.Entering.EnterFacts.{IsOpenFrame, Found, enter_found}

page_is : (a b : ℕ) → PageFrame a ≡ PageFrame b → a ≡ b
page_is a b e = cc

-- no context
pub none_of : (o : Option Context) → is_some o ≡ false → o ≡ None
none_of None e = refl
none_of (Some x) e = absurd (cc)

-- no place
pub none_place : (o : Option ℕ) → is_some o ≡ false → o ≡ None
none_place None e = refl
none_place (Some x) e = absurd (cc)

-- an entry ends no program
pub last_entered : (stack : List Saved) (k v : ℕ) → is_last stack (Some (Enter k v)) ≡ is_last stack None
last_entered [] k v = refl
last_entered (saved ∷ []) k v = refl
last_entered (saved ∷ next ∷ older) k v = last_entered (next ∷ older) k v

module _ (layout : Layout) (image : List ℕ) (past : History) (control : Control) (turns : List ProgramTurn) (old new : State) (lp : Lp) (v : ℕ)
    (h : Stands layout image (at_moment past control turns old))
    (ok : enter_answer layout past control lp.0 ≡ Ok) (e : EntersAt layout lp.0 (cssa control) v old new) where
  -- the history after the entering
  abbrev pub after : History
  after = (Eenter lp v, Ok) ∷ past

  -- what the entering found
  pub found : Found layout past control lp.0
  found = enter_found layout past control lp.0 ok

  -- no context was inside
  pub empty_now : control.now ≡ None
  empty_now = none_of control.now (none_now layout (queue_by layout turns) (someone_inside layout past) control h.laws.orderly found.nobody)

  -- nobody was inside
  pub nobody : (q : ℕ) → since past q ≡ None
  nobody q = none_place (since past q) (out (inside past q) refl)
    where
      out : (b : Bool) → inside past q ≡ b → b ≡ false
      out false i = refl
      out true i = absurd (let k = known-present layout past control h.laws.present in let s = k.someone q i in let f = found.nobody in cc)

  -- ---- The frames that are held

  -- the page table has these entries
  pub all_low : (p : ℕ) → p < pages layout + 6 → old.table p ≡ pte layout past p
  all_low p lt = h.tables.mapping.mapped p lt

  -- fewer than three contexts are saved
  pub few : cssa control < 3
  few = by_size (cssa control == 3) refl
    where
      by_size : (b : Bool) → (cssa control == 3) ≡ b → cssa control < 3
      by_size b t = let low = three layout (queue_by layout turns) control.phase control.queue control.stack h.laws.orderly.stack in
          let n = eqb-false (length control.stack) 3 (other (cssa control == 3) Gp _ Ok (λ x. cc) (outside_ok layout past lp.0 _ ok).2).0 in omega arith

  -- the frame of the TCS
  pub tcs_open : IsOpenFrame layout past (old.table (tcs_page layout)).frame (tcs_page layout)
  tcs_open = subst (λ (m : Mapping). IsOpenFrame layout past m.frame (tcs_page layout)) (sym (all_low (tcs_page layout) (omega arith))) found.tcs_frame

  -- the frame of the area
  pub area_open : IsOpenFrame layout past (old.table (ssa_page layout (cssa control))).frame (ssa_page layout (cssa control))
  area_open = let small = few in
      subst (λ (m : Mapping). IsOpenFrame layout past m.frame (ssa_page layout (cssa control))) (sym (all_low (ssa_page layout (cssa control)) (omega arith))) found.area_frame

  -- ---- Pages

  other_place : (p : ℕ) (at : Place) → place layout past p ≡ at → p ≢ tcs_page layout → copy new at ≡ copy old at
  other_place p (InFrame g) is a =
      ap Some (e.frames g (elim (eqb_tells g (old.table (tcs_page layout)).frame) [
        | inl same ↦ absurd (a (page_is p (tcs_page layout) (sym (h.tables.one_copy.framed p g is) ∙ ap (held layout past) same.1 ∙ tcs_open.holds)))
        | inr apart ↦ apart.0
      ]))
  other_place p (InHandle k) is a = ap (λ all. option_map (λ sealed_page. sealed_page.bytes) (all k)) e.sealed_pages
  other_place p Gone is a = refl

  other_copy : (p : ℕ) → p ≢ tcs_page layout → copies_at layout past new p ≡ copies_at layout past old p
  other_copy p a = other_place p (place layout past p) refl a

  areas : (stack : List Saved) → AreasStand layout control.phase control.queue h.bytes.flat (copies_at layout past old) stack →
      AreasStand layout control.phase control.queue h.bytes.flat (copies_at layout past new) stack
  areas [] k = tt
  areas (one ∷ older) k =
      (subst (λ o. OfCopy o (IsArea layout control.phase control.queue h.bytes.flat one)) (sym (other_copy (ssa_page layout (length older)) (λ x. absurd (omega arith)))) k.0, areas older k.1)

  -- the evidence of breaks stays
  pub breaks : (runs : FlatRuns) (stack : List Saved) → BreaksStand layout runs turns (copies_at layout past old) stack → BreaksStand layout runs turns (copies_at layout past new) stack
  breaks runs [] k = tt
  breaks runs (one ∷ older) k =
      (subst (λ o. IsForcedBy layout runs turns o one.reason) (sym (other_copy (ssa_page layout (length older)) (λ x. absurd (omega arith)))) k.0, breaks runs older k.1)

  -- all pages
  pub all_pages_stand : CopiesStand layout control.phase control.queue control.stack false h.bytes.flat (copies_at layout past new)
  all_pages_stand = record {
    tcs = subst (λ o. OfCopy o (IsTcs (length control.stack) false)) (sym (ap (copy new) (h.tables.one_copy.placed (tcs_page layout) (old.table (tcs_page layout)).frame tcs_open.holds))) e.cleared;
    areas = areas control.stack h.bytes.pages.areas;
    state = subst (λ o. OfCopy o (IsState layout control.phase control.queue h.bytes.flat)) (sym (other_copy (state_page layout) (λ x. absurd (omega arith)))) h.bytes.pages.state;
    program = λ p lt. subst (λ o. OfCopy o (λ bytes. bytes ≡ page_bytes h.bytes.flat p)) (sym (other_copy p (λ x. absurd (omega arith)))) (h.bytes.pages.program p lt);
  }
