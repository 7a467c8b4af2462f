-- While a page of the asked cluster is out, some frame is free: those in frames are too few to fill the budget.
use Rattle.std.proofs.Common.{◌≡◌, ℕ, zero, suc, ◌+◌, ◌<◌, ◌≤◌, List, [], ◌∷◌, ◌++◌, length, length-append, arith, refl, sym, ◌∙◌, subst, ap}
use Rattle.std.specs.Prelude.{Bool, true, false, ◌||◌, Option, Some, None, flat_map, ◌==◌}
use Rattle.std.specs.List.{range_with_len}
use Rattle.std.proofs.lemmas.Bool.{eqb-true, eqb-false}
use Rattle.std.proofs.lemmas.Bool.Decides.{nat_tests}
use Rattle.std.proofs.lemmas.List.Sums.{sum_by-cons}
use Rattle.ak_core.specs.Layout.{Layout, IsValid}
use Rattle.ak_model.specs.Paging.Pages.{pages, pages_of, cluster_at}
use Rattle.ak_core.specs.Layout.{size_of}
use Rattle.ak_model.specs.Paging.Holdings.{Held, FreeFrame, SecsFrame, VaFrame, PageFrame, InFrame, InHandle, is_free}
use Rattle.ak_model.specs.Paging.Histories.{History}
use Rattle.ak_model.specs.Paging.Frames.{held}
use Rattle.ak_model.specs.Clusters.Queue.{is_in, total_size}
use Rattle.ak_model.specs.Control.ControlState.{Control}
use Rattle.ak_model.specs.Kernels.Counted.{service}
use Rattle.ak_model.specs.Kernels.HonestKernel.{lowest_free}
use Rattle.ak_model.specs.Laws.Orderly.{PhaseFits, IsOrderly}
use Rattle.ak_model.proofs.Clusters.SizesAddUp.{size_is}
use Rattle.ak_model.specs.Laws.OneLiveCopy.{OneCopy}
use Rattle.ak_driver.specs.HonestRuns.{IsRoomy}
use Rattle.ak_driver.proofs.Invariant.Untouched.{IsSpare}
use Rattle.ak_driver.proofs.Invariant.PageStates.{PageState, Out, IsInState}
use Rattle.ak_driver.proofs.Invariant.Spots.{Requested, Progress, control_at}
use Rattle.ak_driver.proofs.Invariant.HonestMoments.{IsHonest, IsMoving, dropped_for}
use Rattle.ak_driver.proofs.Invariant.ServingMoves.{HasRoom}
use Rattle.ak_driver.proofs.Keeping.KeptMapped.{in_range}
use Rattle.ak_driver.proofs.Serving.Finding.{Each, Found, finds, each_first, of_listed, among_listed}
use Rattle.ak_driver.proofs.Serving.Pigeons.{pigeons_less, each_in}

-- what holds of each number of a range
in_each : (Q : ℕ → Type 0) (n a i : ℕ) → a ≤ i → i < a + n → Each Q (range_with_len a n) → Q i
in_each Q zero a i l h e = absurd (omega arith)
in_each Q (suc n) a i l h e = by (a == i) refl (λ m. in_each Q n (a + 1) i m (omega arith) e.1)
  where
    by : (b : Bool) → (a == i) ≡ b → (a + 1 ≤ i → Q i) → Q i
    by true d next = subst Q (eqb-true a i d) e.0
    by false d next = let n = eqb-false a i d in next (omega arith)

module _ (layout : Layout) (valid : IsValid layout) where
  -- the pages of these clusters are as many as their sizes say
  listed_size : (queue : List ℕ) → length (flat_map (pages_of layout) queue) ≡ total_size layout queue
  listed_size [] = refl
  listed_size (c ∷ queue) =
      let a = length-append (pages_of layout c) (flat_map (pages_of layout) queue) in
      let b = listed_size queue in
      let s = size_is layout c valid in
      let t = sum_by-cons (size_of layout.cluster_of) c queue in
      a ∙ (let e : length (pages_of layout c) + length (flat_map (pages_of layout) queue) ≡ size_of layout.cluster_of c + total_size layout queue = omega arith in e) ∙ sym t

  -- the pages that may be in frames
  abbrev listed : List ℕ → ℕ → List ℕ
  listed queue c = flat_map (pages_of layout) queue ++ pages_of layout c

  listed_length : (queue : List ℕ) (c : ℕ) → length (listed queue c) ≡ total_size layout queue + size_of layout.cluster_of c
  listed_length queue c =
      let a = length-append (flat_map (pages_of layout) queue) (pages_of layout c) in
      let b = listed_size queue in
      let s = size_is layout c valid in
      a ∙ (let e : length (flat_map (pages_of layout) queue) + length (pages_of layout c) ≡ total_size layout queue + size_of layout.cluster_of c = omega arith in e)

  stands_in : (queue : List ℕ) (c p : ℕ) → p < pages layout → (is_in queue (cluster_at layout p) || (cluster_at layout p == c)) ≡ true → is_in (listed queue c) p ≡ true
  stands_in queue c p low h = by (is_in queue (cluster_at layout p)) refl h
    where
      all : Each (λ x. is_in (listed queue c) x ≡ true) (flat_map (pages_of layout) queue) × Each (λ x. is_in (listed queue c) x ≡ true) (pages_of layout c)
      all = each_first (λ x. is_in (listed queue c) x ≡ true) (flat_map (pages_of layout) queue) (pages_of layout c) (each_in (λ x. is_in (listed queue c) x ≡ true) (listed queue c) (λ x i. i))

      by : (b : Bool) → is_in queue (cluster_at layout p) ≡ b → (b || (cluster_at layout p == c)) ≡ true → is_in (listed queue c) p ≡ true
      by true e h = among_listed layout (λ x. is_in (listed queue c) x ≡ true) queue p low e all.0
      by false e h = of_listed layout (λ x. is_in (listed queue c) x ≡ true) c p low h all.1

-- the page that a frame holds
page_in : Held → ℕ
page_in (PageFrame p) = p
page_in _ = 0

free_is : (h : Held) → is_free h ≡ true → h ≡ FreeFrame
free_is FreeFrame e = refl
free_is SecsFrame e = absurd (cc)
free_is VaFrame e = absurd (cc)
free_is (PageFrame p) e = absurd (cc)

spare_holds : (layout : Layout) (h : Held) → IsSpare layout h → is_free h ≡ false → (h ≡ PageFrame (page_in h)) × (page_in h < pages layout)
unfolding page_in
spare_holds layout FreeFrame s e = absurd (cc)
spare_holds layout SecsFrame s e = absurd s
spare_holds layout VaFrame s e = absurd s
spare_holds layout (PageFrame p) s e = (refl, s)

module _ (layout : Layout) (past : History) (control : Control) (c : ℕ) (rest : Progress) (states : ℕ → PageState) (valid : IsValid layout) (roomy : IsRoomy layout) (copies : OneCopy layout past)
    (old : IsHonest layout past control (Requested c) rest states) (fits : total_size layout rest.queue + size_of layout.cluster_of c ≤ layout.budget) where
  abbrev leaving : List ℕ
  leaving = dropped_for (service past).request

  -- a page that is out is in no frame
  out_unframed : (p f : ℕ) → p < pages layout → states p ≡ Out → held layout past f ≡ PageFrame p → ⊥
  out_unframed p f low e h =
      let was : IsInState layout past p Out = subst (λ s. IsInState layout past p s) e (old.stands.each p low) in
      let a = was.0.placed in
      let b = copies.placed p f h in
      let d : InFrame f ≡ InHandle was.0.handle = sym b ∙ a in cc

  module _ (gone : (q : ℕ) → q < pages layout → is_in leaving (cluster_at layout q) ≡ true → states q ≡ Out) (p : ℕ) (low : p < pages layout) (of : cluster_at layout p ≡ c) (out : states p ≡ Out) where
    -- a page that is not out is of a cluster that is in or asked for
    wanted : (q : ℕ) → q < pages layout → (states q ≡ Out → ⊥) → (is_in rest.queue (cluster_at layout q) || (cluster_at layout q == c)) ≡ true
    wanted q small held = by (is_in rest.queue (cluster_at layout q)) (is_in leaving (cluster_at layout q)) refl (cluster_at layout q == c) (old.fits q small)
      where
        by : (a b : Bool) → is_in leaving (cluster_at layout q) ≡ b → (d : Bool) → IsMoving a b d (states q) → (a || d) ≡ true
        by true b e d m = refl
        by false true e d m = absurd (held (gone q small e))
        by false false e true m = refl
        by false false e false m = absurd (held m)

    module _ (none : Each (λ f. is_free (held layout past f) ≡ false) (range_with_len 0 layout.frames)) where
      abbrev page_at : ℕ → ℕ
      page_at f = page_in (held layout past f)

      holds_page : (f : ℕ) → 8 ≤ f → f < 8 + layout.budget → (held layout past f ≡ PageFrame (page_at f)) × (page_at f < pages layout)
      holds_page f l h =
          let room = roomy.room in
          spare_holds layout (held layout past f) (old.stands.untouched.same.spare f l)
          (in_each (λ f. is_free (held layout past f) ≡ false) layout.frames 0 f (omega arith) (omega arith) none)

      too_few : ⊥
      too_few =
          let less = pigeons_less page_at layout.budget 8 p (listed layout valid rest.queue c)
          (stands_in layout valid rest.queue c p low (own (is_in rest.queue (cluster_at layout p))))
          (λ f l h. let x = holds_page f l h in stands_in layout valid rest.queue c (page_at f) x.1 (wanted (page_at f) x.1 (λ e. out_unframed (page_at f) f x.1 e x.0)))
          (λ f l h e. let x = holds_page f l h in out_unframed p f low out (x.0 ∙ ap PageFrame e))
          (λ f g l m h e.
          let x = holds_page f l (omega arith) in let y = holds_page g (omega arith) h in
          let a = copies.placed (page_at f) f x.0 in
          let b = copies.placed (page_at f) g (y.0 ∙ ap PageFrame e) in
          let d : InFrame f ≡ InFrame g = sym a ∙ b in
          let s : f ≡ g = cc in omega arith) in
          let n = listed_length layout valid rest.queue c in
          omega arith
        where
          own : (b : Bool) → (b || (cluster_at layout p == c)) ≡ true
          own true = refl
          own false = let o = of in grind (arith, nat_tests)

    found : (o : Option ℕ) → Found (λ f. f < layout.frames) (λ f. is_free (held layout past f)) (range_with_len 0 layout.frames) o → (f : ℕ) × (o ≡ Some f) × (held layout past f ≡ FreeFrame) × (f < layout.frames)
    found None h = absurd (too_few h)
    found (Some f) h = (f, refl, free_is (held layout past f) h.1, h.0)

    free_frame : (f : ℕ) × (lowest_free layout past ≡ Some f) × (held layout past f ≡ FreeFrame) × (f < layout.frames)
    free_frame = found (lowest_free layout past) (finds (λ f. f < layout.frames) (λ f. is_free (held layout past f)) (range_with_len 0 layout.frames) (in_range layout.frames 0 layout.frames (omega arith)))

  pub has_room : HasRoom layout past c states
  has_room gone p low of out = free_frame gone p low of out

-- what the laws of the control state say of the budget
pub asked_fits : (layout : Layout) (past : History) (control : Control) (c : ℕ) (rest : Progress) (states : ℕ → PageState) → IsHonest layout past control (Requested c) rest states
    → (so_far : List ℕ) (someone : Bool) → IsOrderly layout so_far someone control → total_size layout rest.queue + size_of layout.cluster_of c ≤ layout.budget
asked_fits layout past control c rest states old so_far someone orderly =
    let phase : PhaseFits layout (control_at (Requested c) rest).queue (control_at (Requested c) rest).cause (control_at (Requested c) rest).phase =
    subst (λ k. PhaseFits layout k.queue k.cause k.phase) old.control_is orderly.phase in
    phase.2
