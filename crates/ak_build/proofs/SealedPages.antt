-- Slots and sealed pages after the build.
use Rattle.std.proofs.Common.{◌≡◌, ℕ, ◌+◌, ◌-◌, ◌*◌, ◌<◌, Bool, true, false, ◌==◌, ◌&&◌, if◌then◌else◌, List, [], length, inl, inr, refl, ap, sym, ◌∙◌, subst, arith}
use Rattle.std.proofs.lemmas.Bool.{eqb-true, ltb-true}
use Rattle.std.proofs.lemmas.Bool.Decides.{nat_tests}
use Rattle.std.proofs.lemmas.Option.{slice_get_cases}
use Rattle.std.specs.Prelude.{nat_lt, not, Option, Some, None, slice_get}
use Rattle.std.specs.Bool.{then_some}
use Rattle.std.specs.Option.{option_map}
use Rattle.ak_core.specs.Layout.{Layout}
use Rattle.ak_core.specs.declared.page.Kind.TheVariants.{Read, Write, Exec}
use Rattle.ak_core.specs.declared.page.Perm.{Perm}
use Rattle.ak_core.specs.declared.page.PageType.TheVariants.{Tcs, Reg}
use Rattle.ak_model.specs.Flat.Instructions.{number_at}
use Rattle.ak_model.specs.Paging.Pages.{pages, perm_of, permits_by}
use Rattle.ak_model.specs.Paging.Build.{held_at_build}
use Rattle.ak_model.specs.Paging.Handles.{live, slot}
use Rattle.ak_model.specs.Paging.Holdings.{SecsFrame, VaFrame, PageFrame, FreeFrame}
use Rattle.ak_sealed.specs.SealedPages.{sealed_page_of, version}
use Rattle.ak_image.specs.Built.{pages_of, page_bytes}
use Rattle.ak_image.specs.Image.{Image, layout_of}
use Rattle.ak_relation.specs.State.Tables.{SealedPageAgrees, IsSealedPageOf}
use Rattle.ak_encls.specs.Building.{added_entry}
use Rattle.ak_build.specs.Adding.{program_sealed, sealed_so_far}
use Rattle.ak_build.proofs.Entries.{writes, executes}

module _ (image : Image) (frames lps : ℕ) (whole : (p : ℕ) → p < pages_of image → length (page_bytes image p) ≡ 4096) where
  abbrev layout : Layout
  layout = layout_of image frames lps

  -- a page of the program, with its permission
  sealed_is : (p : ℕ) (perm : Perm) → p < pages_of image → slice_get image.perms p ≡ Some perm →
      IsSealedPageOf layout (sealed_page_of (added_entry (record { 0 = p }) Reg perm) (page_bytes image p)) p
  sealed_is p perm below is =
      let t : nat_lt p (pages_of image) ≡ true = grind (arith, nat_tests) in
      let other : (p == pages_of image) ≡ false = grind (arith, nat_tests) in
      let allowed : perm_of layout p ≡ Some perm = rw t is in
      record {
        page = refl;
        kind = sym (ap (λ b. if b then Tcs else Reg) other);
        readable = λ n. sym (ap (λ o. permits_by o Read) allowed);
        writable = λ n. writes perm ∙ sym (ap (λ o. permits_by o Write) allowed);
        executable = λ n. executes perm ∙ sym (ap (λ o. permits_by o Exec) allowed);
        whole = whole p below;
      }

  -- the sealed page of each handle
  pub sealed_agrees : (k : ℕ) → SealedPageAgrees layout (sealed_so_far image (pages_of image) k) (live layout [] k) k
  sealed_agrees k = by (nat_lt k (pages_of image)) refl
    where
      given : (o : Option Perm) → slice_get image.perms k ≡ o → k < pages_of image →
          SealedPageAgrees layout (option_map (λ perm. sealed_page_of (added_entry (record { 0 = k }) Reg perm) (page_bytes image k)) o) true k
      given None is below =
          elim (slice_get_cases image.perms k).1 [
            | inl some ↦ absurd (let wrong : None ≡ Some some.0 = sym is ∙ some.2 in cc)
            | inr none ↦ absurd (let past = none.0 in omega arith)
          ]
      given (Some perm) is below = (refl, sealed_is k perm below is)

      by : (b : Bool) → nat_lt k (pages_of image) ≡ b → SealedPageAgrees layout (if b then program_sealed image k else None) (b && not false) k
      by true t = given (slice_get image.perms k) refl (ltb-true k (pages_of image) t)
      by false t = refl

  -- only frame 1 is a VA page
  only_va : (va : ℕ) → held_at_build layout va ≡ VaFrame → va ≡ 1
  only_va va h = by (va == 0) (va == 1) (nat_lt va 8) refl h
    where
      by : (a b c : Bool) → (va == 1) ≡ b →
          (if a then SecsFrame else (if b then VaFrame else (if c then PageFrame (pages layout + (va - 2)) else FreeFrame))) ≡ VaFrame → va ≡ 1
      by true b c t e = absurd (let wrong : SecsFrame ≡ VaFrame = e in cc)
      by false true c t e = eqb-true va 1 t
      by false false true t e = absurd (let wrong : PageFrame (pages layout + (va - 2)) ≡ VaFrame = e in cc)
      by false false false t e = absurd (let wrong : FreeFrame ≡ VaFrame = e in cc)

  -- each slot of it has the version of its handle
  pub slots_stand : (bytes : ℕ → List ℕ) → ((i : ℕ) → number_at (bytes 1) (8 * i) 8 ≡ version (then_some (nat_lt i (pages_of image)) i)) →
      (va i : ℕ) → held_at_build layout va ≡ VaFrame → i < 512 → number_at (bytes va) (8 * i) 8 ≡ version (slot layout [] va i)
  slots_stand bytes slots va i h few =
      subst (λ f. number_at (bytes f) (8 * i) 8 ≡ version (slot layout [] f i)) (sym (only_va va h)) (slots i)
