-- The entries of the EPCM after the build say what its frames hold.
use Rattle.std.proofs.Common.{◌≡◌, ℕ, ◌+◌, ◌-◌, ◌<◌, Bool, true, false, ◌==◌, if◌then◌else◌, refl, ap, sym, ◌∙◌, arith}
use Rattle.std.proofs.lemmas.Bool.{eqb-true}
use Rattle.std.proofs.lemmas.Bool.Decides.{nat_tests}
use Rattle.std.specs.Prelude.{nat_lt, Some, None}
use Rattle.ak_core.specs.Layout.{Layout}
use Rattle.ak_core.specs.declared.page.Kind.TheVariants.{Read, Write, Exec}
use Rattle.ak_core.specs.declared.page.Perm.{Perm}
use Rattle.ak_core.specs.declared.page.Perm.TheVariants.{R, Rw, Rx}
use Rattle.ak_core.specs.declared.page.PageType.TheVariants.{Tcs, Reg}
use Rattle.ak_model.specs.Paging.Pages.{pages, tcs_page, perm_of, allows, permits_by}
use Rattle.ak_model.specs.Paging.Build.{held_at_build}
use Rattle.ak_model.specs.Paging.Holdings.{SecsFrame, VaFrame, PageFrame, FreeFrame}
use Rattle.ak_epcm.specs.Entries.{free_entry}
use Rattle.ak_walk.specs.Agrees.{EntryAgrees, HoldsPage}
use Rattle.ak_encls.specs.Building.{secs_entry, va_entry, added_entry, is_writing, is_executing}
use Rattle.ak_build.specs.Adding.{entry_so_far}
use Rattle.ak_build.specs.Runtime.{runtime_perm, runtime_entry}
use Rattle.ak_build.proofs.Steps.{at_tcs, before_code}

-- ---- What permissions allow

pub writes : (perm : Perm) → is_writing perm ≡ allows perm Write
writes R = refl
writes Rw = refl
writes Rx = refl

pub executes : (perm : Perm) → is_executing perm ≡ allows perm Exec
executes R = refl
executes Rw = refl
executes Rx = refl

module _ (layout : Layout) where
  -- what the runtime's pages but the TCS allow
  perm_at : (i : ℕ) → i < 6 → (i == 0) ≡ false → perm_of layout (pages layout + i) ≡ Some (runtime_perm i)
  perm_at i few other =
      let n = pages layout in
      let a : nat_lt (n + i) n ≡ false = grind (arith, nat_tests) in
      rw (a, at_tcs n i, other, before_code n i) (by (nat_lt i 5) refl)
    where
      by : (c : Bool) → nat_lt i 5 ≡ c → (if c then Some Rw else (if pages layout + i == pages layout + 5 then Some Rx else None)) ≡ Some (if c then Rw else Rx)
      by true t = refl
      by false t = let e : (pages layout + i == pages layout + 5) ≡ true = grind (arith, nat_tests) in rw e

  -- the entry of a regular page
  regular_holds : (p : ℕ) (perm : Perm) → perm_of layout p ≡ Some perm → (p == tcs_page layout) ≡ false → HoldsPage layout (added_entry (record { 0 = p }) Reg perm) p None
  regular_holds p perm is other = record {
    valid = refl;
    kind = sym (ap (λ b. if b then Tcs else Reg) other);
    page = refl;
    readable = λ n. sym (ap (λ o. permits_by o Read) is);
    writable = λ n. writes perm ∙ sym (ap (λ o. permits_by o Write) is);
    executable = λ n. executes perm ∙ sym (ap (λ o. permits_by o Exec) is);
    blocked = refl;
  }

  -- the entry of the TCS
  tcs_holds : (p : ℕ) (perm : Perm) → (p == tcs_page layout) ≡ true → HoldsPage layout (added_entry (record { 0 = p }) Tcs perm) p None
  tcs_holds p perm same =
      let here = eqb-true p (tcs_page layout) same in
      record {
        valid = refl;
        kind = sym (ap (λ b. if b then Tcs else Reg) same);
        page = refl;
        readable = λ n. absurd (n here);
        writable = λ n. absurd (n here);
        executable = λ n. absurd (n here);
        blocked = refl;
      }

  -- the entry of a page of the runtime
  runtime_holds : (i : ℕ) → i < 6 → HoldsPage layout (runtime_entry (pages layout) i) (pages layout + i) None
  runtime_holds i few = by (i == 0) refl
    where
      by : (b : Bool) → (i == 0) ≡ b → HoldsPage layout (added_entry (record { 0 = pages layout + i }) (if b then Tcs else Reg) (runtime_perm i)) (pages layout + i) None
      by true t = tcs_holds (pages layout + i) (runtime_perm i) (at_tcs (pages layout) i ∙ t)
      by false t = regular_holds (pages layout + i) (runtime_perm i) (perm_at i few t) (at_tcs (pages layout) i ∙ t)

  -- each entry
  pub entries_agree : (f : ℕ) → EntryAgrees layout (entry_so_far (pages layout) 6 f) (held_at_build layout f) None
  entries_agree f = by (f == 0) (f == 1) (nat_lt f 8) refl refl refl
    where
      few : (f : ℕ) → nat_lt f 8 ≡ true → f - 2 < 6
      few f t = grind (arith, nat_tests)

      by : (a b c : Bool) → (f == 0) ≡ a → (f == 1) ≡ b → nat_lt f 8 ≡ c →
          EntryAgrees layout (if a then secs_entry else (if b then va_entry else (if c then runtime_entry (pages layout) (f - 2) else free_entry)))
          (if a then SecsFrame else (if b then VaFrame else (if c then PageFrame (pages layout + (f - 2)) else FreeFrame))) None
      by true b c x y z = record { valid = refl; kind = refl }
      by false true c x y z = record { valid = refl; kind = refl }
      by false false true x y z = runtime_holds (f - 2) (few f z)
      by false false false x y z = refl
