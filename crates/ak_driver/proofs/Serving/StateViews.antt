-- The state of a page, by what the honest kernel sees of it.
use Rattle.std.proofs.Common.{◌≡◌, ℕ, ◌<◌, refl, sym, ◌∙◌, subst, ap}
use Rattle.std.specs.Prelude.{Bool, true, false, not, Some, None, is_some, is_none, nat_lt}
use Rattle.std.proofs.lemmas.Bool.{lt-ltb}
use Rattle.ak_core.specs.Layout.{Layout}
use Rattle.ak_core.specs.declared.page.Perm.{Perm}
use Rattle.ak_core.specs.declared.page.Perm.TheVariants.{R, Rw, Rx}
use Rattle.ak_model.specs.Paging.Pages.{pages, perm_of, permits, strong_kind, strong_flags, no_flags}
use Rattle.ak_model.specs.Paging.Holdings.{InFrame, InHandle}
use Rattle.ak_model.specs.Paging.Histories.{History}
use Rattle.ak_model.specs.Paging.Frames.{blocked_at}
use Rattle.ak_model.specs.Paging.Handles.{place, slot}
use Rattle.ak_model.specs.Paging.PageTable.{pte}
use Rattle.ak_model.specs.Paging.Tracking.{tracked}
use Rattle.ak_model.specs.Kernels.KernelRules.{is_mapped}
use Rattle.ak_model.specs.Kernels.HonestKernel.{newest_copy, frame_in, frame_of, on_frame}
use Rattle.ak_model.specs.Laws.OneLiveCopy.{OneCopy}
use Rattle.ak_driver.proofs.Invariant.PageStates.{PageState, Out, Unmapped, Blocked, In, IsInState}
use Rattle.ak_driver.proofs.Invariant.PagesStand.{PagesStand}
use Rattle.ak_driver.proofs.Pages.WalkedPages.{and_false, none_lets, in_mapped, some_perm}

clash : true ≡ false → ⊥
clash h = cc

module _ (layout : Layout) (past : History) (states : ℕ → PageState) (copies : OneCopy layout past) (old : PagesStand layout past states) (p : ℕ) (low : p < pages layout) where
  -- what the history says of the page, where it is in this state
  said : (s : PageState) → states p ≡ s → IsInState layout past p s
  said s e = subst (λ x. IsInState layout past p x) e (old.each p low)

  framed : (f : ℕ) → place layout past p ≡ InFrame f → frame_of layout past p ≡ Some f
  framed f e = ap frame_in e

  unblocked : (f : ℕ) → place layout past p ≡ InFrame f → blocked_at past f ≡ None → on_frame (frame_of layout past p) (λ f. is_none (blocked_at past f)) ≡ true
  unblocked f e b = ap (λ o. on_frame o (λ f. is_none (blocked_at past f))) (framed f e) ∙ ap is_none b

  -- a page that is mapped is in
  pub present_in : (pte layout past p).flags.p ≡ true → states p ≡ In
  present_in t = by (states p) refl
    where
      bare : (pte layout past p).flags ≡ no_flags → ⊥
      bare e = clash (sym t ∙ ap (λ f. f.p) e)

      by : (s : PageState) → states p ≡ s → states p ≡ In
      by Out e = absurd (bare (said Out e).1)
      by Unmapped e = absurd (bare (said Unmapped e).2)
      by Blocked e = absurd (bare (said Blocked e).2)
      by In e = e

  -- a page that is in is mapped
  pub in_present : states p ≡ In → (pte layout past p).flags.p ≡ true
  in_present e =
      let h = said In e in let perm = some_perm layout.perms p low in
      let small : nat_lt p (pages layout) ≡ true = lt-ltb p (pages layout) low in
      let has : perm_of layout p ≡ Some perm.0 = rw small perm.1 in
      ap (λ m. m.flags.p) h.2 ∙ ap (λ o. (strong_flags o).p) has ∙ shown perm.0
    where
      shown : (perm : Perm) → (strong_flags (Some perm)).p ≡ true
      shown R = refl
      shown Rw = refl
      shown Rx = refl

  -- a page in a frame that is not blocked is unmapped, or else in
  pub unmapped_or : on_frame (frame_of layout past p) (λ f. is_none (blocked_at past f)) ≡ true → (states p ≡ In → ⊥) → (f : ℕ) × (states p ≡ Unmapped) × (place layout past p ≡ InFrame f)
  unmapped_or t unmapped = by (states p) refl
    where
      by : (s : PageState) → states p ≡ s → (f : ℕ) × (states p ≡ Unmapped) × (place layout past p ≡ InFrame f)
      by Out e = absurd (let a = ap (λ x. on_frame (frame_in x) (λ f. is_none (blocked_at past f))) (said Out e).0.placed in clash (sym t ∙ a))
      by Unmapped e = ((said Unmapped e).0.frame, e, (said Unmapped e).0.placed)
      by Blocked e = absurd (let h = said Blocked e in let a = ap (λ o. on_frame o (λ f. is_none (blocked_at past f))) (framed h.0.frame h.0.placed) ∙ ap is_none h.1.1 in clash (sym t ∙ a))
      by In e = absurd (unmapped e)

  -- a page in a frame where no unblocked or untracked one is
  pub blocked_or : is_some (frame_of layout past p) ≡ true → on_frame (frame_of layout past p) (λ f. is_none (blocked_at past f)) ≡ false → on_frame (frame_of layout past p) (λ f. not (tracked layout past f)) ≡ false
      → (f : ℕ) × (states p ≡ Blocked) × (place layout past p ≡ InFrame f) × (tracked layout past f ≡ true)
  blocked_or t b w = by (states p) refl
    where
      done : (b : Bool) → not b ≡ false → b ≡ true
      done true h = refl
      done false h = absurd (clash h)

      by : (s : PageState) → states p ≡ s → (f : ℕ) × (states p ≡ Blocked) × (place layout past p ≡ InFrame f) × (tracked layout past f ≡ true)
      by Out e = absurd (let a = ap (λ x. is_some (frame_in x)) (said Out e).0.placed in clash (sym t ∙ a))
      by Unmapped e = absurd (let h = said Unmapped e in clash (sym (unblocked h.0.frame h.0.placed h.1) ∙ b))
      by Blocked e =
          let h = said Blocked e in
          (h.0.frame, e, h.0.placed, done (tracked layout past h.0.frame) (sym (ap (λ o. on_frame o (λ f. not (tracked layout past f))) (framed h.0.frame h.0.placed)) ∙ w))
      by In e = absurd (let h = said In e in clash (sym (unblocked h.0.frame h.0.placed h.1) ∙ b))

  -- a page in no frame is out
  pub out_or : is_none (frame_of layout past p) ≡ true → (k : ℕ) × (states p ≡ Out) × (place layout past p ≡ InHandle k) × (slot layout past 1 p ≡ Some k) × (newest_copy layout past p ≡ record { handle = k; va = 1; slot = p })
  out_or t = by (states p) refl
    where
      held_not : (f : ℕ) → place layout past p ≡ InFrame f → ⊥
      held_not f e = clash (sym t ∙ ap is_none (framed f e))

      by : (s : PageState) → states p ≡ s → (k : ℕ) × (states p ≡ Out) × (place layout past p ≡ InHandle k) × (slot layout past 1 p ≡ Some k) × (newest_copy layout past p ≡ record { handle = k; va = 1; slot = p })
      by Out e = let h = (said Out e).0 in (h.handle, e, h.placed, h.slotted, h.copied)
      by Unmapped e = absurd (let h = (said Unmapped e).0 in held_not h.frame h.placed)
      by Blocked e = absurd (let h = (said Blocked e).0 in held_not h.frame h.placed)
      by In e = absurd (let h = (said In e).0 in held_not h.frame h.placed)

  -- so is one in a frame that no walk finds, unless it is blocked
  pub unmapped_in : is_none (frame_of layout past p) ≡ false → is_mapped layout past p ≡ false → (states p ≡ Blocked → ⊥) → (f : ℕ) × (states p ≡ Unmapped) × (place layout past p ≡ InFrame f)
  unmapped_in t m free = by (states p) refl
    where
      by : (s : PageState) → states p ≡ s → (f : ℕ) × (states p ≡ Unmapped) × (place layout past p ≡ InFrame f)
      by Out e = absurd (let a = ap (λ x. is_none (frame_in x)) (said Out e).0.placed in clash (sym a ∙ t))
      by Unmapped e = ((said Unmapped e).0.frame, e, (said Unmapped e).0.placed)
      by Blocked e = absurd (free e)
      by In e = absurd (clash (sym (in_mapped layout past states copies old p low e) ∙ m))

  -- a page that is mapped for all that it allows is in
  pub mapped_in : is_mapped layout past p ≡ true → states p ≡ In
  mapped_in m = by (states p) refl
    where
      bare : (pte layout past p).flags ≡ no_flags → ⊥
      bare e =
          let n = none_lets (strong_kind layout p) in
          let w : is_mapped layout past p ≡ false = rw (e, n) (and_false (permits layout p (strong_kind layout p))) in
          clash (sym m ∙ w)

      by : (s : PageState) → states p ≡ s → states p ≡ In
      by Out e = absurd (bare (said Out e).1)
      by Unmapped e = absurd (bare (said Unmapped e).2)
      by Blocked e = absurd (bare (said Blocked e).2)
      by In e = e
