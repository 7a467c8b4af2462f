-- A change alters which walks find a page only where it concerns the page.
use Rattle.std.proofs.Common.{◌≡◌, ℕ, ◌+◌, ◌∷◌, length, refl, ap, sym, ◌∙◌}
use Rattle.std.proofs.lemmas.Bool.{eqb-true}
use Rattle.std.specs.Prelude.{Bool, true, false, ◌&&◌, ◌||◌, Option, None, is_none, ◌==◌, if◌then◌else◌}
use Rattle.ak_core.specs.Layout.{Layout}
use Rattle.ak_core.specs.declared.page.Kind.{Kind}
use Rattle.ak_model.specs.Paging.Pages.{permits, tcs_page}
use Rattle.ak_model.specs.Paging.Histories.{History, Pair, Change, Unchanged, Maps, Blocks, Cycles, WritesOut, Loads, Removes, MakesVa, Discards, Enters, Resumes, Exits, Interrupts, change_of}
use Rattle.ak_model.specs.Paging.Holdings.{Held, FreeFrame, VaFrame, PageFrame, is_page_in, Mapping}
use Rattle.ak_model.specs.Paging.Frames.{held, held_after, blocked_at, blocked_after}
use Rattle.ak_model.specs.Paging.PageTable.{pte, pte_after}
use Rattle.ak_model.specs.Paging.Walk.{is_preset, flags_allow, walkable, tcs_walkable}
use Rattle.ak_model.specs.Laws.ConcernedPages.{concerns}

-- a frame with something else in it, if it is this one; neither has the page
other_frame : (b : Bool) (p : ℕ) (h new : Held) (o n : Option ℕ) → (b ≡ true → is_page_in h p ≡ false) → is_page_in new p ≡ false →
    (is_page_in (if b then new else h) p && is_none (if b then n else o)) ≡ (is_page_in h p && is_none o)
other_frame true p h new o n old none = ap (λ x. x && is_none n) none ∙ sym (ap (λ x. x && is_none o) (old refl))
other_frame false p h new o n old none = refl

-- a block of a frame that has not the page
block_frame : (b : Bool) (p : ℕ) (h : Held) (o n : Option ℕ) → (b ≡ true → is_page_in h p ≡ false) →
    (is_page_in h p && is_none (if b then n else o)) ≡ (is_page_in h p && is_none o)
block_frame true p h o n old = ap (λ x. x && is_none n) (old refl) ∙ sym (ap (λ x. x && is_none o) (old refl))
block_frame false p h o n old = refl

or_parts : (a b : Bool) → (a || b) ≡ false → (a ≡ false) × (b ≡ false)
or_parts false b h = (refl, h)
or_parts true b h = absurd (cc)

module _ (layout : Layout) (past : History) (p : ℕ) where
  at : (g f : ℕ) → is_page_in (held layout past f) p ≡ false → (g == f) ≡ true → is_page_in (held layout past g) p ≡ false
  at g f h e = ap (λ x. is_page_in (held layout past x) p) (eqb-true g f e) ∙ h

  in_frame : (c : Change) (g : ℕ) → concerns (held layout past) c p ≡ false →
      (is_page_in (held_after c g (held layout past g)) p && is_none (blocked_after c g (length past + 1) (blocked_at past g)))
      ≡ (is_page_in (held layout past g) p && is_none (blocked_at past g))
  in_frame (Blocks f) g h = block_frame (g == f) p (held layout past g) (blocked_at past g) _ (at g f h)
  in_frame (WritesOut f va i k) g h = other_frame (g == f) p (held layout past g) FreeFrame (blocked_at past g) None (at g f h) refl
  in_frame (Removes f) g h = other_frame (g == f) p (held layout past g) FreeFrame (blocked_at past g) None (at g f h) refl
  in_frame (MakesVa f) g h = other_frame (g == f) p (held layout past g) VaFrame (blocked_at past g) None (at g f h) refl
  in_frame (Loads f k q va i blocked) g h =
      let a = or_parts (p == q) (is_page_in (held layout past f) p) h in
      other_frame (g == f) p (held layout past g) (PageFrame q) (blocked_at past g) _ (at g f a.1) a.0
  in_frame (Maps q f flags) g h = refl
  in_frame Unchanged g h = refl
  in_frame Cycles g h = refl
  in_frame (Discards k) g h = refl
  in_frame (Enters lp v) g h = refl
  in_frame (Resumes lp) g h = refl
  in_frame (Exits lp exit) g h = refl
  in_frame (Interrupts lp) g h = refl

  same_entry : (c : Change) → concerns (held layout past) c p ≡ false → pte_after c p (pte layout past p) ≡ pte layout past p
  same_entry (Maps q f flags) h = ap (λ (b : Bool). if b then record { frame = f; flags = flags } else pte layout past p) h
  same_entry Unchanged h = refl
  same_entry (Blocks f) h = refl
  same_entry Cycles h = refl
  same_entry (WritesOut f va i k) h = refl
  same_entry (Loads f k q va i blocked) h = refl
  same_entry (Removes f) h = refl
  same_entry (MakesVa f) h = refl
  same_entry (Discards k) h = refl
  same_entry (Enters lp v) h = refl
  same_entry (Resumes lp) h = refl
  same_entry (Exits lp exit) h = refl
  same_entry (Interrupts lp) h = refl

  -- a change that does not concern the page leaves all walks of it
  pub walkable-unconcerned : (pair : Pair) (kind : Kind) → concerns (held layout past) (change_of pair) p ≡ false →
      walkable layout (pair ∷ past) p kind ≡ walkable layout past p kind
  walkable-unconcerned pair kind h =
      ap (λ (entry : Mapping). permits layout p kind && (flags_allow entry.flags kind
      && (is_page_in (held layout (pair ∷ past) entry.frame) p && is_none (blocked_at (pair ∷ past) entry.frame)))) (same_entry (change_of pair) h)
      ∙ ap (λ b. permits layout p kind && (flags_allow (pte layout past p).flags kind && b)) (in_frame (change_of pair) (pte layout past p).frame h)

-- nor does it change whether entering finds the TCS
pub tcs-unconcerned : (layout : Layout) (past : History) (pair : Pair) → concerns (held layout past) (change_of pair) (tcs_page layout) ≡ false →
    tcs_walkable layout (pair ∷ past) ≡ tcs_walkable layout past
tcs-unconcerned layout past pair h =
    let p = tcs_page layout in
    ap (λ (entry : Mapping). is_preset entry.flags && (is_page_in (held layout (pair ∷ past) entry.frame) p && is_none (blocked_at (pair ∷ past) entry.frame)))
    (same_entry layout past p (change_of pair) h)
    ∙ ap (λ b. is_preset (pte layout past p).flags && b) (in_frame layout past p (change_of pair) (pte layout past p).frame h)
