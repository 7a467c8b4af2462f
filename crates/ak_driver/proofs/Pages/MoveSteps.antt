-- What each table move of the honest kernel does to the states of pages.
use Rattle.std.proofs.Common.{◌≡◌, ℕ, ◌+◌, ◌<◌, ◌≤◌, ◌∷◌, length, arith, refl, sym, ◌∙◌, subst, ap}
use Rattle.std.specs.Prelude.{Bool, true, false, if◌then◌else◌, Some, ◌==◌}
use Rattle.std.proofs.lemmas.Bool.{ne_eqb, eqb-true}
use Rattle.std.proofs.lemmas.Bool.Decides.{nat_tests}
use Rattle.ak_core.specs.Layout.{Layout}
use Rattle.ak_core.specs.declared.page.Flags.{Flags}
use Rattle.ak_core.specs.declared.moves.Move.TheVariants.{SetPte, Eblock}
use Rattle.ak_core.specs.declared.moves.Answer.TheVariants.{Ok}
use Rattle.ak_model.specs.Paging.Pages.{pages, perm_of, strong_flags, no_flags}
use Rattle.ak_model.specs.Paging.Holdings.{PageFrame, InFrame}
use Rattle.ak_model.specs.Paging.Histories.{History}
use Rattle.ak_model.specs.Paging.Frames.{held, blocked_at, blocks_first}
use Rattle.ak_model.specs.Paging.Handles.{place}
use Rattle.ak_model.specs.Paging.PageTable.{pte}
use Rattle.ak_model.specs.Laws.OneLiveCopy.{OneCopy}
use Rattle.ak_driver.proofs.Invariant.PageStates.{PageState, Unmapped, Blocked, In, IsInState}
use Rattle.ak_driver.proofs.Invariant.Untouched.{Untouched}
use Rattle.ak_driver.proofs.Invariant.PagesStand.{PagesStand, with_state}
use Rattle.ak_driver.proofs.Pages.ChangedStates.{block_changes, entry_changes, same}

module _ (layout : Layout) (past : History) (states : ℕ → PageState) (old : PagesStand layout past states) where
  abbrev pub full : ℕ → Flags
  full q = strong_flags (perm_of layout q)

  -- two pages are not in one frame
  pub other_frame : (copies : OneCopy layout past) (p q f g : ℕ) → (q ≡ p → ⊥) → place layout past p ≡ InFrame f → place layout past q ≡ InFrame g → (g == f) ≡ false
  other_frame copies p q f g ne e d =
      ne_eqb g f (λ same.
      let a : held layout past f ≡ PageFrame p = copies.framed p f e in
      let b : held layout past f ≡ PageFrame q = subst (λ x. held layout past x ≡ PageFrame q) same (copies.framed q g d) in
      ne (let c : PageFrame q ≡ PageFrame p = sym b ∙ a in cc))

  -- the state after, page by page
  pub each_by : (after : History) (p : ℕ) (state : PageState) → IsInState layout after p state → ((q : ℕ) → (q ≡ p → ⊥) → q < pages layout → IsInState layout after q (states q)) → (q : ℕ) → q < pages layout → IsInState layout after q (with_state states p state q)
  each_by after p state new others q low = by (q == p) refl
    where
      by : (b : Bool) → (q == p) ≡ b → IsInState layout after q (if b then state else states q)
      by true e = let s = eqb-true q p e in subst (λ x. IsInState layout after x state) (sym s) new
      by false e = others q (λ s. let y : (p == p) ≡ false = subst (λ x. (x == p) ≡ false) s e in grind (arith, nat_tests)) low

  -- the page itself is in its new state
  pub self : (p : ℕ) → (p == p) ≡ true
  self p = grind (arith, nat_tests)

  -- ---- A page is unmapped or mapped

  module _ (p f : ℕ) (flags : Flags) (low : p < pages layout) where
    abbrev set_entry : History
    set_entry = (SetPte (record { 0 = p }) (record { 0 = f }) flags, Ok) ∷ past

    set_untouched : Untouched layout set_entry
    set_untouched = record {
      same = entry_changes layout _ _ _ _ old.untouched.same p (record { frame = f; flags = flags }) low;
      over = old.untouched.over;
    }

    set_others : (q : ℕ) → (q ≡ p → ⊥) → q < pages layout → IsInState layout set_entry q (states q)
    set_others q ne small =
        let e : (q == p) ≡ false = ne_eqb q p ne in
        same layout.frames (full q) q _ _ _ _ _ _ _ _ _ _ refl refl refl (rw e refl) (λ g h. refl) (states q) (old.each q small)

    set_entry_is : pte layout set_entry p ≡ record { frame = f; flags = flags }
    set_entry_is = rw (self p) refl

  -- unmapped, a page that was in is in its frame still
  pub unmaps : (p f : ℕ) (low : p < pages layout) → states p ≡ In → PagesStand layout (set_entry p f no_flags low) (with_state states p Unmapped)
  unmaps p f low e =
      let was : IsInState layout past p In = subst (λ s. IsInState layout past p s) e (old.each p low) in
      record {
        untouched = set_untouched p f no_flags low;
        each = each_by (set_entry p f no_flags low) p Unmapped (was.0, was.1, ap (λ e. e.flags) (set_entry_is p f no_flags low)) (set_others p f no_flags low);
      }

  -- mapped to its frame, an unmapped page is in
  pub maps : (p : ℕ) (low : p < pages layout) (e : states p ≡ Unmapped) → (f : ℕ) → place layout past p ≡ InFrame f → PagesStand layout (set_entry p f (full p) low) (with_state states p In)
  maps p low e f at =
      let was : IsInState layout past p Unmapped = subst (λ s. IsInState layout past p s) e (old.each p low) in
      let frame : f ≡ was.0.frame = let a = was.0.placed in let b : InFrame f ≡ InFrame was.0.frame = sym at ∙ a in cc in
      record {
        untouched = set_untouched p f (full p) low;
        each = each_by (set_entry p f (full p) low) p In (was.0, was.1, set_entry_is p f (full p) low ∙ ap (λ g. record { frame = g; flags = full p }) frame) (set_others p f (full p) low);
      }

  -- ---- A frame is blocked

  module _ (copies : OneCopy layout past) (p f : ℕ) (low : p < pages layout) (e : states p ≡ Unmapped) (at : place layout past p ≡ InFrame f) where
    abbrev block_frame : History
    block_frame = (Eblock (record { 0 = f }), Ok) ∷ past

    was_unmapped : IsInState layout past p Unmapped
    was_unmapped = subst (λ s. IsInState layout past p s) e (old.each p low)

    unmapped_frame : f ≡ was_unmapped.0.frame
    unmapped_frame = let a = was_unmapped.0.placed in let b : InFrame f ≡ InFrame was_unmapped.0.frame = sym at ∙ a in cc

    unmapped_low : 8 ≤ f
    unmapped_low = let e = unmapped_frame in let l = was_unmapped.0.low in omega arith

    blocked_now : blocked_at block_frame was_unmapped.0.frame ≡ Some (length past + 1)
    blocked_now =
        let a = was_unmapped.1 in let b = self was_unmapped.0.frame in
        let c : (was_unmapped.0.frame == f) ≡ true = subst (λ x. (was_unmapped.0.frame == x) ≡ true) (sym unmapped_frame) b in
        rw (c, a) refl

    block_others : (q : ℕ) → (q ≡ p → ⊥) → q < pages layout → IsInState layout block_frame q (states q)
    block_others q ne small =
        same layout.frames (full q) q _ _ _ _ _ _ _ _ _ _ refl refl refl refl
        (λ g h. let other = other_frame copies p q f g ne at h in rw other refl) (states q) (old.each q small)

    pub blocks : PagesStand layout block_frame (with_state states p Blocked)
    blocks = record {
      untouched = record {
        same = block_changes layout _ _ _ _ old.untouched.same f (λ g. blocks_first (blocked_at past g) (length past + 1)) unmapped_low;
        over = old.untouched.over;
      };
      each = each_by block_frame p Blocked (was_unmapped.0, (length past + 1, blocked_now), was_unmapped.2) block_others;
    }
