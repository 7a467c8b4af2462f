-- The bytes of each page after the build.
use Rattle.std.proofs.Common.{◌≡◌, ℕ, ◌+◌, ◌-◌, ◌<◌, true, false, if◌then◌else◌, List, [], inl, inr, refl, ap, sym, ◌∙◌, subst, arith}
use Rattle.std.proofs.lemmas.Bool.Decides.{nat_tests}
use Rattle.std.proofs.lemmas.Option.{slice_get_cases}
use Rattle.std.specs.Prelude.{nat_lt, Option, Some, None, slice_get}
use Rattle.std.specs.Option.{option_map}
use Rattle.ak_core.specs.Layout.{Layout}
use Rattle.ak_core.specs.declared.page.Perm.{Perm}
use Rattle.ak_core.specs.declared.page.PageType.TheVariants.{Reg}
use Rattle.ak_model.specs.Control.ControlState.{New}
use Rattle.ak_model.specs.Flat.FlatRuns.{Flat, page_bytes as flat_page}
use Rattle.ak_model.specs.Paging.Build.{place_at_build}
use Rattle.ak_model.specs.Paging.Holdings.{InFrame, InHandle}
use Rattle.ak_sealed.specs.SealedPages.{SealedPage, sealed_page_of}
use Rattle.ak_measure.specs.Blocks.{zeros}
use Rattle.ak_image.specs.Built.{pages_of, page_bytes, tcs_page}
use Rattle.ak_image.specs.Image.{Image, layout_of}
use Rattle.ak_image.proofs.BuiltPages.{page_bytes-program, page_bytes-tcs, page_bytes-zeros}
use Rattle.ak_pager.specs.RuntimePages.{OfCopy, IsState}
use Rattle.ak_relation.specs.Bytes.Pages.{IsTcs, CopiesStand}
use Rattle.ak_relation.specs.Premises.Built.{first_state}
use Rattle.ak_relation.specs.Relation.Stands.{copies_at}
use Rattle.ak_relation.specs.State.MachineState.{State, copy}
use Rattle.ak_encls.specs.Building.{added_entry}
use Rattle.ak_encls.proofs.Soundness.{zero_value}
use Rattle.ak_build.specs.Adding.{program_sealed, sealed_so_far}

-- the TCS says that nothing is saved, and refuses nothing
tcs_bytes : (n : ℕ) → IsTcs 0 false (tcs_page n)
unfolding tcs_page
tcs_bytes n = record { saved_is = refl; pending_is = refl }

-- a page of zeros is STATE of a program that has not begun
state_bytes : (layout : Layout) (flat : Flat) → IsState layout New [] flat (zeros 4096)
state_bytes layout flat = record {
  phase_is = zero_value 8 0 4096;
  more = tt;
  size = zero_value 8 24 4096;
  clusters = λ i c e. absurd (let wrong : None ≡ Some c = e in cc);
  kept = tt;
}

module _ (image : Image) (frames lps : ℕ) (state : State) where
  abbrev layout : Layout
  layout = layout_of image frames lps

  -- where a page of the runtime is
  runtime_place : (p i : ℕ) → p ≡ pages_of image + i → i < 6 → place_at_build layout p ≡ InFrame (2 + i)
  runtime_place p i is few =
      let a : nat_lt p (pages_of image) ≡ false = grind (arith, nat_tests) in
      let b : nat_lt p (pages_of image + 6) ≡ true = grind (arith, nat_tests) in
      let c : p - pages_of image + 2 ≡ 2 + i = omega arith in
      rw (a, b) (ap InFrame c)

  program_place : (p : ℕ) → p < pages_of image → place_at_build layout p ≡ InHandle p
  program_place p below = let t : nat_lt p (pages_of image) ≡ true = grind (arith, nat_tests) in rw t

  module _ (runtime : (i : ℕ) → i < 6 → state.frames (2 + i) ≡ page_bytes image (pages_of image + i))
      (sealed : (k : ℕ) → state.sealed_pages k ≡ sealed_so_far image (pages_of image) k) where
    runtime_copy : (p i : ℕ) → p ≡ pages_of image + i → i < 6 → copies_at layout [] state p ≡ Some (page_bytes image p)
    runtime_copy p i is few = ap (copy state) (runtime_place p i is few) ∙ ap Some (runtime i few) ∙ ap (λ k. Some (page_bytes image k)) (sym is)

    sealed_copy : (p : ℕ) → p < pages_of image → option_map (λ (s : SealedPage). s.bytes) (program_sealed image p) ≡ Some (page_bytes image p)
    sealed_copy p below = by (slice_get image.perms p) refl
      where
        by : (o : Option Perm) → slice_get image.perms p ≡ o →
            option_map (λ (s : SealedPage). s.bytes) (option_map (λ perm. sealed_page_of (added_entry (record { 0 = p }) Reg perm) (page_bytes image p)) o) ≡ Some (page_bytes image p)
        by (Some perm) is = refl
        by None is =
            elim (slice_get_cases image.perms p).1 [
              | inl some ↦ absurd (let wrong : None ≡ Some some.0 = sym is ∙ some.2 in cc)
              | inr none ↦ absurd (let past = none.0 in omega arith)
            ]

    program_copy : (p : ℕ) → p < pages_of image → copies_at layout [] state p ≡ Some (page_bytes image p)
    program_copy p below =
        let t : nat_lt p (pages_of image) ≡ true = grind (arith, nat_tests) in
        ap (copy state) (program_place p below) ∙ ap (option_map (λ (s : SealedPage). s.bytes)) (sealed p)
        ∙ ap (λ b. option_map (λ (s : SealedPage). s.bytes) (if b then program_sealed image p else None)) t ∙ sealed_copy p below

    of_copy : (p : ℕ) (holds : List ℕ → Type 0) → copies_at layout [] state p ≡ Some (page_bytes image p) → holds (page_bytes image p) → OfCopy (copies_at layout [] state p) holds
    of_copy p holds is h = subst (λ o. OfCopy o holds) (sym is) h

    -- all pages are as the build leaves them
    pub copies_stand : CopiesStand layout New [] [] false (first_state layout image.bytes) (copies_at layout [] state)
    copies_stand = record {
      tcs =
          let n = pages_of image in
          of_copy n (IsTcs 0 false) (runtime_copy n 0 (omega arith) (omega arith))
          (subst (IsTcs 0 false) (sym (page_bytes-tcs image n refl)) (tcs_bytes n));
      areas = tt;
      state =
          let s = pages_of image + 4 in
          let flat = first_state layout image.bytes in
          of_copy s (IsState layout New [] flat) (runtime_copy s 4 refl (omega arith))
          (subst (IsState layout New [] flat) (sym (page_bytes-zeros image s (omega arith) (omega arith))) (state_bytes layout flat));
      program = λ p below.
          of_copy p (λ bytes. bytes ≡ flat_page (first_state layout image.bytes) p) (program_copy p below) (page_bytes-program image p below);
    }
