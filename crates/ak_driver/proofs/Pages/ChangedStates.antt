-- What a change of one frame or one entry does to what is untouched and to a page's state.
use Rattle.std.proofs.Common.{◌≡◌, ℕ, ◌<◌, ◌≤◌, arith, ◌∙◌, ap}
use Rattle.std.specs.Prelude.{Bool, true, false, if◌then◌else◌, Option, ◌==◌}
use Rattle.std.proofs.lemmas.Bool.{ne_eqb}
use Rattle.std.proofs.lemmas.Bool.Decides.{nat_tests}
use Rattle.ak_core.specs.Layout.{Layout}
use Rattle.ak_core.specs.declared.page.Flags.{Flags}
use Rattle.ak_model.specs.Paging.Pages.{pages}
use Rattle.ak_model.specs.Paging.Holdings.{Held, Place, InFrame, Mapping}
use Rattle.ak_model.specs.Kernels.HonestKernel.{Copy}
use Rattle.ak_driver.proofs.Invariant.PageStates.{PageState, Out, Unmapped, Blocked, In, IsSealed, IsHeld, IsInStateBy}
use Rattle.ak_driver.proofs.Invariant.Untouched.{IsSpare, UntouchedBy}

module _ (layout : Layout) (held : ℕ → Held) (blocked : ℕ → Option ℕ) (pte : ℕ → Mapping) (discarded : ℕ → Bool) (old : UntouchedBy layout held blocked pte discarded) where
  -- a frame after the runtime's holds or blocks something else
  pub frame_changes : (f : ℕ) (x : Held) (y : Option ℕ) → 8 ≤ f → IsSpare layout x → UntouchedBy layout (λ g. if g == f then x else held g) (λ g. if g == f then y else blocked g) pte discarded
  frame_changes f x y low fits = record {
    secs = let a = old.secs in grind (arith, nat_tests, a);
    va = let a = old.va in grind (arith, nat_tests, a);
    runtime = λ i h. let a = old.runtime i h in grind (arith, nat_tests, a);
    spare = λ g h. by (g == f) (held g) (old.spare g h);
    unblocked = λ g h. let a = old.unblocked g h in grind (arith, nat_tests, a);
    entries = old.entries;
    kept = old.kept;
  }
    where
      by : (b : Bool) (h : Held) → IsSpare layout h → IsSpare layout (if b then x else h)
      by true h e = fits
      by false h e = e

  pub block_changes : (f : ℕ) (y : ℕ → Option ℕ) → 8 ≤ f → UntouchedBy layout held (λ g. if g == f then y g else blocked g) pte discarded
  block_changes f y low = record {
    secs = old.secs;
    va = old.va;
    runtime = old.runtime;
    spare = old.spare;
    unblocked = λ g h. let a = old.unblocked g h in grind (arith, nat_tests, a);
    entries = old.entries;
    kept = old.kept;
  }

  -- a program page's entry changes
  pub entry_changes : (p : ℕ) (x : Mapping) → p < pages layout → UntouchedBy layout held blocked (λ q. if q == p then x else pte q) discarded
  entry_changes p x low = record {
    secs = old.secs;
    va = old.va;
    runtime = old.runtime;
    spare = old.spare;
    unblocked = old.unblocked;
    entries = λ q h k. let a = old.entries q h k in let e : (q == p) ≡ false = ne_eqb q p (λ e. omega arith) in rw e a;
    kept = old.kept;
  }

-- ---- A page that the change does not touch

module _ (frames : ℕ) (full : Flags) (p : ℕ) (place place' : Place) (copy copy' : Copy) (slot slot' : Option ℕ) (entry entry' : Mapping) (blocked blocked' : ℕ → Option ℕ)
    (pe : place' ≡ place) (ce : copy' ≡ copy) (se : slot' ≡ slot) (ee : entry' ≡ entry) (be : (f : ℕ) → place ≡ InFrame f → blocked' f ≡ blocked f) where
  same_sealed : IsSealed p place copy slot → IsSealed p place' copy' slot'
  same_sealed h = record { handle = h.handle; placed = pe ∙ h.placed; copied = ce ∙ h.copied; slotted = se ∙ h.slotted }

  same_held : IsHeld frames place slot → IsHeld frames place' slot'
  same_held h = record { frame = h.frame; placed = pe ∙ h.placed; low = h.low; high = h.high; emptied = se ∙ h.emptied }

  pub same : (state : PageState) → IsInStateBy frames full p state place copy slot entry blocked → IsInStateBy frames full p state place' copy' slot' entry' blocked'
  unfolding same_sealed same_held
  same Out h = (same_sealed h.0, ap (λ e. e.flags) ee ∙ h.1)
  same Unmapped h = (same_held h.0, be h.0.frame h.0.placed ∙ h.1, ap (λ e. e.flags) ee ∙ h.2)
  same Blocked h = (same_held h.0, (h.1.0, be h.0.frame h.0.placed ∙ h.1.1), ap (λ e. e.flags) ee ∙ h.2)
  same In h = (same_held h.0, be h.0.frame h.0.placed ∙ h.1, ee ∙ h.2)
