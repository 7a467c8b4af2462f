-- Tracking, writing out and loading: what they do to the states of pages.
use Rattle.std.proofs.Common.{◌≡◌, ℕ, ◌+◌, ◌-◌, ◌<◌, ◌≤◌, ◌∷◌, arith, refl, sym, ◌∙◌, subst}
use Rattle.std.specs.Prelude.{Bool, true, false, None, nat_lt, ◌==◌}
use Rattle.std.proofs.lemmas.Bool.{ne_eqb, ltb-true, ltb-false, eqb-true, eqb-false}
use Rattle.ak_core.specs.Layout.{Layout}
use Rattle.ak_core.specs.declared.moves.Move.TheVariants.{Etrack, Ewb, Eldu}
use Rattle.ak_core.specs.declared.moves.Answer.TheVariants.{Ok, OkHandle}
use Rattle.ak_model.specs.Paging.Pages.{pages}
use Rattle.ak_model.specs.Paging.Holdings.{FreeFrame, SecsFrame, VaFrame, PageFrame, InFrame}
use Rattle.ak_model.specs.Paging.Histories.{History}
use Rattle.ak_model.specs.Paging.Frames.{held}
use Rattle.ak_model.specs.Paging.Handles.{given, place}
use Rattle.ak_model.specs.Paging.Inside.{inside, processors}
use Rattle.ak_model.specs.Laws.OneLiveCopy.{OneCopy}
use Rattle.ak_model.proofs.Paging.Tests.{filter_none}
use Rattle.ak_driver.proofs.Invariant.PageStates.{PageState, Out, Unmapped, Blocked, IsInState}
use Rattle.ak_driver.proofs.Invariant.PagesStand.{PagesStand, with_state}
use Rattle.ak_driver.proofs.Pages.ChangedStates.{frame_changes, same}
use Rattle.ak_driver.proofs.Pages.MoveSteps.{full, self, other_frame, each_by}

module _ (layout : Layout) (past : History) (states : ℕ → PageState) (old : PagesStand layout past states) where
  -- ---- (c) a tracking cycle, while nobody is inside: it is over at once

  abbrev tracked_on : History
  tracked_on = (Etrack, Ok) ∷ past

  pub tracks : ((q : ℕ) → inside past q ≡ false) → PagesStand layout tracked_on states
  tracks nobody = record {
    untouched = record {
      same = old.untouched.same;
      over = let e = filter_none (inside past) (processors layout) nobody in let o = old.untouched.over in rw e o;
    };
    each = old.each;
  }

  -- a free frame is none of the first eight
  pub free_low : (f : ℕ) → held layout past f ≡ FreeFrame → 8 ≤ f
  free_low f e = by (nat_lt f 8) refl (f == 0) refl (f == 1) refl
    where
      by : (b : Bool) → nat_lt f 8 ≡ b → (c : Bool) → (f == 0) ≡ c → (d : Bool) → (f == 1) ≡ d → 8 ≤ f
      by false h c k d l = ltb-false f 8 h
      by true h true k d l = absurd (let z = eqb-true f 0 k in let a = old.untouched.same.secs in let b : held layout past 0 ≡ FreeFrame = subst (λ x. held layout past x ≡ FreeFrame) z e in let c : SecsFrame ≡ FreeFrame = sym a ∙ b in cc)
      by true h false k true l = absurd (let z = eqb-true f 1 l in let a = old.untouched.same.va in let b : held layout past 1 ≡ FreeFrame = subst (λ x. held layout past x ≡ FreeFrame) z e in let c : VaFrame ≡ FreeFrame = sym a ∙ b in cc)
      by true h false k false l =
          let small = ltb-true f 8 h in let n0 = eqb-false f 0 k in let n1 = eqb-false f 1 l in
          let two : 2 ≤ f = omega arith in
          let s : f ≡ 2 + (f - 2) = omega arith in
          let a = old.untouched.same.runtime (f - 2) (omega arith) in
          absurd (let b : held layout past (2 + (f - 2)) ≡ FreeFrame = subst (λ x. held layout past x ≡ FreeFrame) s e in let c : PageFrame (pages layout + (f - 2)) ≡ FreeFrame = sym a ∙ b in cc)

  -- ---- (d) a blocked page is written out into its own slot

  module _ (copies : OneCopy layout past) (p f : ℕ) (low : p < pages layout) (e : states p ≡ Blocked) (at : place layout past p ≡ InFrame f) where
    abbrev write_out : History
    write_out = (Ewb (record { 0 = f }) (record { 0 = 1 }) p, OkHandle (record { 0 = given layout past })) ∷ past

    was_blocked : IsInState layout past p Blocked
    was_blocked = subst (λ s. IsInState layout past p s) e (old.each p low)

    blocked_frame : f ≡ was_blocked.0.frame
    blocked_frame = let a = was_blocked.0.placed in let b : InFrame f ≡ InFrame was_blocked.0.frame = sym at ∙ a in cc

    blocked_low : 8 ≤ f
    blocked_low = let e = blocked_frame in let l = was_blocked.0.low in omega arith

    holds_it : held layout past f ≡ PageFrame p
    holds_it = copies.framed p f at

    write_others : (q : ℕ) → (q ≡ p → ⊥) → q < pages layout → IsInState layout write_out q (states q)
    write_others q ne small =
        let e : (q == p) ≡ false = ne_eqb q p ne in let h = holds_it in
        same layout.frames (full layout past states old q) q _ _ _ _ _ _ _ _ _ _ (rw (h, e) refl) (rw (h, e) refl) (rw e refl) refl
        (λ g d. let other = other_frame layout past states old copies p q f g ne at d in rw other refl) (states q) (old.each q small)

    pub writes_out : PagesStand layout write_out (with_state states p Out)
    writes_out = record {
      untouched = record {
        same = frame_changes layout _ _ _ _ old.untouched.same f FreeFrame None blocked_low tt;
        over = old.untouched.over;
      };
      each = each_by layout past states old write_out p Out (
        record {
          handle = given layout past;
          placed = let h = holds_it in let s = self layout past states old p in rw (h, s) refl;
          copied = let h = holds_it in let s = self layout past states old p in rw (h, s) refl;
          slotted = let s = self layout past states old p in rw s refl;
        },
        was_blocked.2,
      ) write_others;
    }

  -- ---- (e) a page that is out is loaded into a free frame

  module _ (copies : OneCopy layout past) (p f k : ℕ) (low : p < pages layout) (e : states p ≡ Out) (free : held layout past f ≡ FreeFrame) (high : f < layout.frames) where
    abbrev load : History
    load = (Eldu (record { 0 = f }) (record { 0 = k }) (record { 0 = p }) (record { 0 = 1 }) p, Ok) ∷ past

    was_out : IsInState layout past p Out
    was_out = subst (λ s. IsInState layout past p s) e (old.each p low)

    load_others : (q : ℕ) → (q ≡ p → ⊥) → q < pages layout → IsInState layout load q (states q)
    load_others q ne small =
        let e : (q == p) ≡ false = ne_eqb q p ne in
        same layout.frames (full layout past states old q) q _ _ _ _ _ _ _ _ _ _ (rw e refl) refl (rw e refl) refl
        (λ g d.
        let other : (g == f) ≡ false = ne_eqb g f (λ s. let a = copies.framed q g d in let b : held layout past f ≡ PageFrame q = subst (λ x. held layout past x ≡ PageFrame q) s a in let c : FreeFrame ≡ PageFrame q = sym free ∙ b in cc) in
        rw other refl) (states q) (old.each q small)

    pub loads : PagesStand layout load (with_state states p Unmapped)
    loads = record {
      untouched = record {
        same = frame_changes layout _ _ _ _ old.untouched.same f (PageFrame p) None (free_low f free) low;
        over = old.untouched.over;
      };
      each = each_by layout past states old load p Unmapped (
        record {
          frame = f;
          placed = let s = self layout past states old p in rw s refl;
          low = free_low f free;
          high = high;
          emptied = let s = self layout past states old p in rw s refl;
        },
        let s = self layout past states old f in rw s refl,
        was_out.1,
      ) load_others;
    }
