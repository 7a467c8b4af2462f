-- What is noted at the build.
use Rattle.std.proofs.Common.{◌≡◌, ℕ, zero, suc, ◌+◌, ◌<◌, ◌≤◌, true, false, ◌==◌, List, [], ◌∷◌, ◌++◌, length, get_or, refl, ap, sym, ◌∙◌, arith, ◌⊎◌, inl, inr, length-append}
use Rattle.std.specs.Prelude.{None, nat_lt}
use Rattle.std.proofs.lemmas.Bool.{cases_lt, lt-ltb, le-ltb}
use Rattle.std.proofs.lemmas.Bool.Decides.{eqb_tells}
use Rattle.std.proofs.Math.ListN.{get_or-eq_default}
use Rattle.ak_core.specs.Layout.{Layout}
use Rattle.ak_model.specs.Paging.Pages.{pages}
use Rattle.ak_model.specs.Paging.Holdings.{FreeFrame}
use Rattle.ak_model.specs.Paging.Build.{held_at_build}
use Rattle.ak_driver.specs.NotedTables.{holding, free_note, frame_note, no_page, page_note, noted, facts, facts_at_build, AreFramesAtBuild, ArePagesAtBuild}
use Rattle.ak_driver.specs.declared.tables.FrameNote.{FrameNote}
use Rattle.ak_driver.specs.declared.tables.PageNote.{PageNote}

-- ---- One more at the end of a list

pushed_before : {X : Type 0} (xs : List X) (x d : X) (k : ℕ) → k < length xs → get_or (xs ++ x ∷ []) k d ≡ get_or xs k d
pushed_before [] x d k low = absurd (omega arith)
pushed_before (y ∷ xs) x d zero low = refl
pushed_before (y ∷ xs) x d (suc k) low = pushed_before xs x d k (omega arith)

pushed_at : {X : Type 0} (xs : List X) (x d : X) (k : ℕ) → k ≡ length xs → get_or (xs ++ x ∷ []) k d ≡ x
pushed_at [] x d zero e = refl
pushed_at [] x d (suc k) e = absurd (omega arith)
pushed_at (y ∷ xs) x d zero e = absurd (omega arith)
pushed_at (y ∷ xs) x d (suc k) e = pushed_at xs x d k (omega arith)

-- ---- Frames

-- the notes of the first so many frames
pub record FramesUpTo (notes : List FrameNote) (layout : Layout) (n : ℕ) : Type 0 where
  pub size : length notes ≡ n
  pub held_is : (f : ℕ) → f < n → holding (frame_note notes f).held ≡ held_at_build layout f
  pub blocked_is : (f : ℕ) → f < n → (frame_note notes f).blocked ≡ None

pub no_frames : (layout : Layout) → FramesUpTo [] layout 0
no_frames layout = record { size = refl; held_is = λ f low. absurd (omega arith); blocked_is = λ f low. absurd (omega arith) }

pub one_more_frame : (notes : List FrameNote) (layout : Layout) (n : ℕ) (note : FrameNote) → FramesUpTo notes layout n
    → holding note.held ≡ held_at_build layout n → note.blocked ≡ None → FramesUpTo (notes ++ note ∷ []) layout (n + 1)
one_more_frame notes layout n note h is unblocked =
    let size = h.size in
    record {
      size = omega (arith, length-append notes (note ∷ []));
      held_is = λ f low. held f (cases_lt f n) low;
      blocked_is = λ f low. blocked f (cases_lt f n) low;
    }
  where
    held : (f : ℕ) → (f < n) ⊎ (n ≤ f) → f < n + 1 → holding (frame_note (notes ++ note ∷ []) f).held ≡ held_at_build layout f
    held f (inl below) low = let size = h.size in ap (λ (x : FrameNote). holding x.held) (pushed_before notes note free_note f (omega arith)) ∙ h.held_is f below
    held f (inr high) low =
        let size = h.size in
        let e : n ≡ f = omega arith in
        ap (λ (x : FrameNote). holding x.held) (pushed_at notes note free_note f (omega arith)) ∙ is ∙ ap (held_at_build layout) e

    blocked : (f : ℕ) → (f < n) ⊎ (n ≤ f) → f < n + 1 → (frame_note (notes ++ note ∷ []) f).blocked ≡ None
    blocked f (inl below) low = let size = h.size in ap (λ (x : FrameNote). x.blocked) (pushed_before notes note free_note f (omega arith)) ∙ h.blocked_is f below
    blocked f (inr high) low = let size = h.size in ap (λ (x : FrameNote). x.blocked) (pushed_at notes note free_note f (omega arith)) ∙ unblocked

differ : (x y : ℕ) → (x ≡ y → ⊥) → (x == y) ≡ false
differ x y ne = elim (eqb_tells x y) [ inl one ↦ absurd (ne one.1) | inr two ↦ two.0 ]

beyond : (layout : Layout) (f : ℕ) → 8 ≤ f → held_at_build layout f ≡ FreeFrame
beyond layout f high =
    let a : (f == 0) ≡ false = differ f 0 (λ e. omega arith) in
    let b : (f == 1) ≡ false = differ f 1 (λ e. omega arith) in
    let c : nat_lt f 8 ≡ false = le-ltb f 8 high in
    rw (a, b, c) refl

pub all_frames : (notes : List FrameNote) (layout : Layout) (n : ℕ) → FramesUpTo notes layout n → layout.frames ≤ n → 8 ≤ n → AreFramesAtBuild notes layout
all_frames notes layout n h some rest =
    let size = h.size in
    record { room = omega arith; held_is = λ f. held f (cases_lt f n); blocked_is = λ f. blocked f (cases_lt f n) }
  where
    held : (f : ℕ) → (f < n) ⊎ (n ≤ f) → holding (frame_note notes f).held ≡ held_at_build layout f
    held f (inl low) = h.held_is f low
    held f (inr high) =
        let size = h.size in
        ap (λ (x : FrameNote). holding x.held) (get_or-eq_default notes free_note (omega arith)) ∙ sym (beyond layout f (omega arith))

    blocked : (f : ℕ) → (f < n) ⊎ (n ≤ f) → (frame_note notes f).blocked ≡ None
    blocked f (inl low) = h.blocked_is f low
    blocked f (inr high) = let size = h.size in ap (λ (x : FrameNote). x.blocked) (get_or-eq_default notes free_note (omega arith))

-- ---- Pages

-- the notes of the first so many pages
pub record PagesUpTo (notes : List PageNote) (layout : Layout) (n : ℕ) : Type 0 where
  pub size : length notes ≡ n
  pub facts_are : (p : ℕ) → p < n → noted (page_note notes p) ≡ facts layout [] p

pub no_pages : (layout : Layout) → PagesUpTo [] layout 0
no_pages layout = record { size = refl; facts_are = λ p low. absurd (omega arith) }

-- what the build's history tells of a page
pub page_at_build : (layout : Layout) (p : ℕ) → p < pages layout → facts_at_build p ≡ facts layout [] p
page_at_build layout p low = let t : nat_lt p (pages layout) ≡ true = lt-ltb p (pages layout) low in rw t refl

pub one_more_page : (notes : List PageNote) (layout : Layout) (n : ℕ) (note : PageNote) → PagesUpTo notes layout n → noted note ≡ facts layout [] n
    → PagesUpTo (notes ++ note ∷ []) layout (n + 1)
one_more_page notes layout n note h is =
    let size = h.size in
    record { size = omega (arith, length-append notes (note ∷ [])); facts_are = λ p low. at p (cases_lt p n) low }
  where
    at : (p : ℕ) → (p < n) ⊎ (n ≤ p) → p < n + 1 → noted (page_note (notes ++ note ∷ []) p) ≡ facts layout [] p
    at p (inl below) low = let size = h.size in ap noted (pushed_before notes note no_page p (omega arith)) ∙ h.facts_are p below
    at p (inr high) low =
        let size = h.size in
        let e : n ≡ p = omega arith in
        ap noted (pushed_at notes note no_page p (omega arith)) ∙ is ∙ ap (facts layout []) e

pub all_pages : (notes : List PageNote) (layout : Layout) (n : ℕ) → n ≡ pages layout → PagesUpTo notes layout n → ArePagesAtBuild notes layout
all_pages notes layout n all h = let size = h.size in record { count = size ∙ all; facts_are = λ p low. h.facts_are p (omega arith) }
