-- Whether a tracking cycle is left after each move that serves a request.
use Rattle.std.proofs.Common.{◌≡◌, ℕ, ◌+◌, ◌<◌, ◌≤◌, List, ◌∷◌, length, arith, refl, sym, ◌∙◌, subst, ap}
use Rattle.std.specs.Prelude.{Bool, true, false, not, Option, Some, None, is_some, is_none, filter, ◌==◌, if◌then◌else◌}
use Rattle.std.specs.List.{list_any}
use Rattle.std.proofs.lemmas.Bool.{eqb-false, ne_eqb, lt-ltb}
use Rattle.ak_core.specs.Layout.{Layout}
use Rattle.ak_core.specs.declared.moves.Move.TheVariants.{Etrack, Ewb, Eldu}
use Rattle.ak_core.specs.declared.moves.Answer.TheVariants.{Ok, OkHandle}
use Rattle.ak_model.specs.Paging.Pages.{pages, cluster_at}
use Rattle.ak_model.specs.Paging.Holdings.{PageFrame, Place, InFrame, InHandle, Gone}
use Rattle.ak_model.specs.Paging.Histories.{History}
use Rattle.ak_model.specs.Paging.Frames.{held, blocked_at}
use Rattle.ak_model.specs.Paging.Handles.{given, place}
use Rattle.ak_model.specs.Paging.Inside.{inside, processors}
use Rattle.ak_model.specs.Paging.Tracking.{Cycle, cycles, over_after, tracked}
use Rattle.ak_model.specs.Clusters.Queue.{is_in}
use Rattle.ak_model.specs.Kernels.HonestKernel.{frame_in, frame_of, on_frame}
use Rattle.ak_model.specs.Laws.OneLiveCopy.{OneCopy}
use Rattle.ak_model.proofs.Paging.Tests.{filter_none}
use Rattle.ak_model.proofs.Paging.BlockPlaces.{Bounded, block_bounded}
use Rattle.ak_driver.proofs.Invariant.PageStates.{PageState}
use Rattle.ak_driver.proofs.Invariant.PagesStand.{PagesStand}
use Rattle.ak_driver.proofs.Invariant.ServingMoves.{leaving_pages, is_untracked, cycle_left}
use Rattle.ak_driver.proofs.Pages.MoveSteps.{other_frame}
use Rattle.ak_driver.proofs.Serving.Finding.{Each, each_more, each_both, IsAmong, each_among}
use Rattle.ak_driver.proofs.Serving.MovesLeft.{leaving_listed, one_passes, each_fails, cycle_at_most}

module _ (layout : Layout) (past : History) (leaving : List ℕ) where
  abbrev left_after : History → Bool
  left_after history = list_any (is_untracked layout history) (leaving_pages layout leaving)

  -- a page in a frame that is not blocked is in one that is not tracked
  pub untracked_now : (p f : ℕ) → place layout past p ≡ InFrame f → blocked_at past f ≡ None → is_untracked layout past p ≡ true
  untracked_now p f at free =
      ap (λ x. on_frame (frame_in x) (λ f. not (tracked layout past f))) at ∙ ap (λ o. not (over_after o (cycles layout past))) free

  -- (b) before a frame is blocked one is left
  pub block_left : (history : History) (p f : ℕ) → p < pages layout → is_in leaving (cluster_at layout p) ≡ true → place layout past p ≡ InFrame f → blocked_at past f ≡ None
      → cycle_left (left_after history) ≤ cycle_left (left_after past)
  block_left history p f low h at free =
      let o : left_after past ≡ true = one_passes (is_untracked layout past) p (leaving_pages layout leaving) (leaving_listed layout leaving p low h) (untracked_now p f at free) in
      subst (λ b. cycle_left (left_after history) ≤ cycle_left b) (sym o) (cycle_at_most (left_after history))

  -- (c) after it none is left
  module _ (nobody : (q : ℕ) → inside past q ≡ false) where
    abbrev new_cycle : Cycle
    new_cycle = record { at = length past + 1; waiting = filter (inside past) (processors layout) }

    over : (b : Option ℕ) → is_none b ≡ false → Bounded (length past) b → not (over_after b (new_cycle ∷ cycles layout past)) ≡ false
    over None h l = absurd (cc)
    over (Some at) h l =
        let t = lt-ltb at (length past + 1) (omega arith) in let n = filter_none (inside past) (processors layout) nobody in
        rw (t, n) refl

    now_tracked : (o : Option ℕ) → on_frame o (λ f. is_none (blocked_at past f)) ≡ false → on_frame o (λ f. not (over_after (blocked_at past f) (new_cycle ∷ cycles layout past))) ≡ false
    now_tracked None h = refl
    now_tracked (Some f) h = over (blocked_at past f) h (block_bounded past f)

    pub track_left : Each (λ p. on_frame (frame_of layout past p) (λ f. is_none (blocked_at past f)) ≡ false) (leaving_pages layout leaving) → left_after ((Etrack, Ok) ∷ past) ≡ false
    track_left blocked =
        each_fails (is_untracked layout ((Etrack, Ok) ∷ past)) (leaving_pages layout leaving)
        (each_more (λ p. on_frame (frame_of layout past p) (λ f. is_none (blocked_at past f)) ≡ false) (λ p. is_untracked layout ((Etrack, Ok) ∷ past) p ≡ false) (leaving_pages layout leaving)
        (λ p h. now_tracked (frame_of layout past p) h) blocked)

  -- (d) a write-out leaves none
  module _ (states : ℕ → PageState) (copies : OneCopy layout past) (old : PagesStand layout past states) (p f : ℕ) (at : place layout past p ≡ InFrame f) where
    abbrev written : History
    written = (Ewb (record { 0 = f }) (record { 0 = 1 }) p, OkHandle (record { 0 = given layout past })) ∷ past

    held_here : held layout past f ≡ PageFrame p
    held_here = copies.framed p f at

    other_tracked : (x : ℕ) → (x ≡ p → ⊥) → (o : Place) → place layout past x ≡ o → on_frame (frame_in o) (λ g. not (tracked layout past g)) ≡ false
        → on_frame (frame_in o) (λ g. not (over_after (if g == f then None else blocked_at past g) (cycles layout past))) ≡ false
    other_tracked x ne (InFrame g) e t = let other = other_frame layout past states old copies p x f g ne at e in rw other t
    other_tracked x ne (InHandle k) e t = refl
    other_tracked x ne Gone e t = refl

    written_tracked : (x : ℕ) → is_untracked layout past x ≡ false → is_untracked layout written x ≡ false
    written_tracked x t = by (x == p) refl
      where
        by : (b : Bool) → (x == p) ≡ b → is_untracked layout written x ≡ false
        by true e = let h = held_here in rw (h, e) refl
        by false e = let h = held_here in rw (h, e) (other_tracked x (eqb-false x p e) (place layout past x) refl t)

    pub write_left : Each (λ x. is_untracked layout past x ≡ false) (leaving_pages layout leaving) → left_after written ≡ false
    write_left all =
        each_fails (is_untracked layout written) (leaving_pages layout leaving)
        (each_more (λ x. is_untracked layout past x ≡ false) (λ x. is_untracked layout written x ≡ false) (leaving_pages layout leaving) written_tracked all)

  -- (e) nor is one left where each page that leaves is out
  module _ (p f k : ℕ) (stays : is_in leaving (cluster_at layout p) ≡ false) where
    abbrev loaded : History
    loaded = (Eldu (record { 0 = f }) (record { 0 = k }) (record { 0 = p }) (record { 0 = 1 }) p, Ok) ∷ past

    loaded_tracked : (x : ℕ) → is_in leaving (cluster_at layout x) ≡ true → is_some (frame_of layout past x) ≡ false → is_untracked layout loaded x ≡ false
    loaded_tracked x h gone =
        let e : (x == p) ≡ false = ne_eqb x p (λ s. let a : is_in leaving (cluster_at layout p) ≡ true = subst (λ y. is_in leaving (cluster_at layout y) ≡ true) s h in let z : true ≡ false = sym a ∙ stays in cc) in
        rw e (by (frame_of layout past x) gone)
      where
        by : (o : Option ℕ) → is_some o ≡ false → on_frame o (λ g. not (over_after (if g == f then None else blocked_at past g) (cycles layout past))) ≡ false
        by None h = refl
        by (Some g) h = absurd (cc)

    pub load_left : Each (λ x. is_some (frame_of layout past x) ≡ false) (leaving_pages layout leaving) → left_after loaded ≡ false
    load_left gone =
        each_fails (is_untracked layout loaded) (leaving_pages layout leaving)
        (each_more (λ x. IsAmong layout leaving x × (is_some (frame_of layout past x) ≡ false)) (λ x. is_untracked layout loaded x ≡ false) (leaving_pages layout leaving)
        (λ x h. loaded_tracked x h.0.1 h.1) (each_both (IsAmong layout leaving) (λ x. is_some (frame_of layout past x) ≡ false) (leaving_pages layout leaving) (each_among layout leaving) gone))
