-- What a step writes into frames, as copies of pages: the machine need speak of no history's places.
use Rattle.std.proofs.Common.{◌≡◌, ℕ, List, refl, ap, sym, ◌∙◌}
use Rattle.std.specs.Prelude.{Bool, true, false, option_map, Some}
use Rattle.ak_core.specs.Layout.{Layout}
use Rattle.ak_model.specs.Paging.Histories.{History}
use Rattle.ak_model.specs.Paging.Holdings.{VaFrame, PageFrame, Place, InFrame, InHandle, Gone}
use Rattle.ak_model.specs.Paging.Frames.{held}
use Rattle.ak_model.specs.Paging.Handles.{place}
use Rattle.ak_relation.specs.State.MachineState.{State, copy}
use Rattle.ak_relation.specs.State.Tables.{TablesStand}
use Rattle.ak_relation.specs.Premises.Works.{Writes, WritesFrames}
use Rattle.ak_relation.proofs.Exits.SavedPages.{page_is}

module _ (layout : Layout) (past : History) (holds : ℕ → Bool) (before after : ℕ → List ℕ) (old new : State) (h : TablesStand layout past old) (w : WritesFrames layout past holds before after old new) where
  other_page : (p q g : ℕ) → holds p ≡ false → holds q ≡ true → held layout past g ≡ PageFrame p → held layout past g ≡ PageFrame q → ⊥
  other_page p q g none some a b = let same = page_is p q (sym a ∙ b) in let clash : true ≡ false = sym some ∙ sym (ap holds same) ∙ none in cc

  stays : (p : ℕ) (at : Place) → place layout past p ≡ at → holds p ≡ false → copy new at ≡ copy old at
  stays p (InFrame g) e none = ap Some (w.others g (λ q some there. absurd (other_page p q g none some (h.one_copy.framed p g e) there)))
  stays p (InHandle k) e none = ap (λ all. option_map (λ sealed_page. sealed_page.bytes) (all k)) w.sealed_pages
  stays p Gone e none = refl

  -- the copies of pages
  pub writes_by : Writes layout past holds before after old new
  writes_by = record {
    read = λ p some. ap (copy old) (h.one_copy.placed p (old.table p).frame (w.found p some)) ∙ ap Some (w.read p some);
    wrote = λ p some. ap (copy new) (h.one_copy.placed p (old.table p).frame (w.found p some)) ∙ ap Some (w.wrote p some);
    stays = λ p none. stays p (place layout past p) refl none;
  }

  -- and frames of slots stay
  pub slots_by : (g : ℕ) → held layout past g ≡ VaFrame → new.frames g ≡ old.frames g
  slots_by g va = w.others g (λ q some there. absurd (let clash : VaFrame ≡ PageFrame q = sym va ∙ there in cc))
