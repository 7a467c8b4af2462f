-- After the build each program page is out.
use Rattle.std.proofs.Common.{◌≡◌, ℕ, ◌+◌, ◌<◌, [], ◌≤◌, arith, refl, sym, subst}
use Rattle.std.specs.Prelude.{true, nat_lt}
use Rattle.std.proofs.lemmas.Bool.{lt-ltb}
use Rattle.std.proofs.lemmas.Bool.Decides.{nat_tests}
use Rattle.ak_core.specs.Layout.{Layout}
use Rattle.ak_model.specs.Paging.Pages.{pages}
use Rattle.ak_model.specs.Paging.Holdings.{FreeFrame, PageFrame}
use Rattle.ak_model.specs.Paging.Build.{held_at_build}
use Rattle.ak_driver.proofs.Invariant.PageStates.{Out, IsInState}
use Rattle.ak_driver.proofs.Invariant.Untouched.{IsSpare, Untouched}
use Rattle.ak_driver.proofs.Invariant.PagesStand.{PagesStand}

module _ (layout : Layout) where
  built_runtime : (i : ℕ) → i < 6 → held_at_build layout (2 + i) ≡ PageFrame (pages layout + i)
  built_runtime i low = grind (arith, nat_tests)

  built_spare : (f : ℕ) → 8 ≤ f → held_at_build layout f ≡ FreeFrame
  built_spare f low = grind (arith, nat_tests)

  untouched : Untouched layout []
  untouched = record {
    same = record {
      secs = refl;
      va = refl;
      runtime = built_runtime;
      spare = λ f low. subst (λ h. IsSpare layout h) (sym (built_spare f low)) tt;
      unblocked = λ f low. refl;
      entries = λ p low high. refl;
      kept = λ k. refl;
    };
    over = refl;
  }

  built_page : (p : ℕ) → p < pages layout → IsInState layout [] p Out
  built_page p low =
      let program : nat_lt p (pages layout) ≡ true = lt-ltb p (pages layout) low in (
        record {
          handle = p;
          placed = rw program refl;
          copied = refl;
          slotted = rw program refl;
        },
        rw program refl,
      )

  pub built : PagesStand layout [] (λ p. Out)
  built = record { untouched = untouched; each = built_page }
