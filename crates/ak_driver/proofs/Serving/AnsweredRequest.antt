-- A request that is served is answered by an entering.
use Rattle.std.proofs.Common.{◌≡◌, ℕ, ◌<◌, List, ◌∷◌, refl, sym, ◌∙◌, subst}
use Rattle.std.specs.Prelude.{Bool, true, false, not, ◌||◌, flat_map, Option, Some, None, is_some, is_none, ◌==◌}
use Rattle.std.proofs.lemmas.Bool.{eqb-true}
use Rattle.ak_core.specs.Layout.{Layout}
use Rattle.ak_core.specs.declared.moves.Move.TheVariants.{Eenter}
use Rattle.ak_core.specs.declared.moves.Answer.TheVariants.{Ok}
use Rattle.ak_model.specs.Paging.Pages.{pages, pages_of, cluster_at}
use Rattle.ak_model.specs.Paging.Histories.{History}
use Rattle.ak_model.specs.Kernels.KernelRules.{is_mapped}
use Rattle.ak_model.specs.Clusters.Queue.{is_in}
use Rattle.ak_model.specs.Control.ControlState.{Control}
use Rattle.ak_model.specs.Kernels.Counted.{service}
use Rattle.ak_model.specs.Control.Entering.{entered}
use Rattle.ak_model.specs.Kernels.HonestKernel.{frame_of}
use Rattle.ak_model.specs.Laws.OneLiveCopy.{OneCopy}
use Rattle.ak_driver.proofs.Invariant.PageStates.{PageState}
use Rattle.ak_driver.proofs.Invariant.Spots.{Requested, Answering, Begins, Progress}
use Rattle.ak_driver.proofs.Invariant.HonestMoments.{IsHonest, IsPlain, IsMoving, dropped_for}
use Rattle.ak_driver.proofs.Turns.EnteringMoves.{enters}
use Rattle.ak_driver.proofs.Serving.Finding.{Each, of_listed, among_listed}
use Rattle.ak_driver.proofs.Serving.StateViews.{out_or, mapped_in}

module _ (layout : Layout) (past : History) (control : Control) (c : ℕ) (rest : Progress) (states : ℕ → PageState) (copies : OneCopy layout past) (old : IsHonest layout past control (Requested c) rest states)
    (gone : Each (λ p. is_some (frame_of layout past p) ≡ false) (flat_map (pages_of layout) (dropped_for (service past).request)))
    (mapped : Each (λ p. not (is_mapped layout past p) ≡ false) (pages_of layout c)) where
  abbrev leaving : List ℕ
  leaving = dropped_for (service past).request

  no_frame : (o : Option ℕ) → is_some o ≡ false → is_none o ≡ true
  no_frame None h = refl
  no_frame (Some f) h = absurd (cc)

  is_yes : (b : Bool) → not b ≡ false → b ≡ true
  is_yes true h = refl
  is_yes false h = absurd (cc)

  -- each page is in or out, by its cluster
  settled : (p : ℕ) → p < pages layout → IsPlain (is_in rest.queue (cluster_at layout p) || (cluster_at layout p == c)) (states p)
  settled p low = by (is_in rest.queue (cluster_at layout p)) (is_in leaving (cluster_at layout p)) refl (cluster_at layout p == c) refl (old.fits p low)
    where
      by : (there leaves : Bool) → is_in leaving (cluster_at layout p) ≡ leaves → (own : Bool) → (cluster_at layout p == c) ≡ own → IsMoving there leaves own (states p) → IsPlain (there || own) (states p)
      by true leaves l own o h = h
      by false true l true o h = absurd (let e = eqb-true (cluster_at layout p) c o in let a : is_in leaving c ≡ true = subst (λ x. is_in leaving x ≡ true) e l in let b = old.apart.1 in let z : true ≡ false = sym a ∙ b in cc)
      by false true l false o h =
          (out_or layout past states copies old.stands p low (no_frame (frame_of layout past p) (among_listed layout (λ p. is_some (frame_of layout past p) ≡ false) leaving p low l gone))).1
      by false false l true o h =
          mapped_in layout past states copies old.stands p low (is_yes (is_mapped layout past p) (of_listed layout (λ p. not (is_mapped layout past p) ≡ false) c p low o mapped))
      by false false l false o h = h

  -- the entering that answers
  pub answers_request : IsHonest layout ((Eenter (record { 0 = 0 }) 0, Ok) ∷ past) (entered control 0) (Answering c (Begins 0)) rest states
  answers_request = enters layout past control (Requested c) rest states old refl (Answering c (Begins 0)) refl refl refl refl settled old.apart.0 0 refl
