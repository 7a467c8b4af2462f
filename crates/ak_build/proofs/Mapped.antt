-- The page table, page by page.
use Rattle.std.proofs.Common.{◌≡◌, ℕ, ◌+◌, ◌-◌, ◌<◌, ◌≤◌, Bool, true, false, ◌==◌, if◌then◌else◌, List, length, set, replicate, inl, inr, refl, ap, sym, ◌∙◌, arith}
use Rattle.std.proofs.lemmas.Bool.{cases_lt}
use Rattle.std.proofs.lemmas.Bool.Decides.{eqb_tells, nat_tests}
use Rattle.std.proofs.lemmas.List.{get_or-set_same, get_or-set_other, get_or-replicate, length-replicate}
use Rattle.std.proofs.Math.ListN.{get_or-eq_default, length-set}
use Rattle.std.specs.Prelude.{nat_lt}
use Rattle.ak_core.specs.Layout.{Layout}
use Rattle.ak_core.specs.declared.page.Perm.{Perm}
use Rattle.ak_core.specs.declared.page.Perm.TheVariants.{R, Rw, Rx}
use Rattle.ak_model.specs.Paging.Pages.{pages, all_pages, flags_for}
use Rattle.ak_model.specs.Paging.Holdings.{Mapping}
use Rattle.ak_model.specs.Paging.Build.{entry_at_build}
use Rattle.ak_pte.specs.Table.{unmapped, pte_at}
use Rattle.ak_pte.specs.declared.table.Pte.{Pte}
use Rattle.ak_walk.specs.Mappings.{mapping_of}
use Rattle.ak_build.specs.Mapping.{MapsEach, MapsFirst}
use Rattle.ak_build.specs.Runtime.{runtime_perm}
use Rattle.ak_build.proofs.Steps.{at_tcs, before_code, below_next, below_same}

all_unmapped : (n p : ℕ) → pte_at (replicate n unmapped) p ≡ unmapped
all_unmapped n p =
    elim (cases_lt p n) [
      | inl less ↦ get_or-replicate n p unmapped unmapped less
      | inr more ↦ let past : length (replicate n unmapped) ≤ p = omega (arith, length-replicate {A = Pte} n unmapped) in get_or-eq_default (replicate n unmapped) unmapped past
    ]

at_tcs_frame : (i : ℕ) → (i == 0) ≡ true → 2 ≡ 2 + i
at_tcs_frame i t = grind (arith, nat_tests)

at_code_frame : (i : ℕ) → i < 6 → nat_lt i 5 ≡ false → 7 ≡ 2 + i
at_code_frame i few t = grind (arith, nat_tests)

-- a page that is mapped to a frame, for all that the permission allows
abbrev mapped_to : ℕ → Perm → Mapping
mapped_to f perm = record { frame = f; flags = flags_for perm }

module _ (layout : Layout) where
  -- no page of the program is mapped
  pub maps_none : (table : List Pte) (count : ℕ) → count ≡ all_pages layout → table ≡ replicate count unmapped → MapsFirst layout table (pages layout)
  maps_none table count all is = record {
    sized = ap length is ∙ length-replicate {A = Pte} count unmapped ∙ all;
    mapped = λ p. ap (λ t. mapping_of (pte_at t p)) is ∙ ap mapping_of (all_unmapped count p) ∙ by p (nat_lt p (pages layout)) refl;
  }
    where
      by : (p : ℕ) (b : Bool) → nat_lt p (pages layout) ≡ b → mapping_of unmapped ≡ (if b then entry_at_build layout p else mapping_of unmapped)
      by p true t = rw t refl
      by p false t = refl

  -- the entry of a page of the runtime
  runtime_mapping : (i : ℕ) → i < 6 → entry_at_build layout (pages layout + i) ≡ record { frame = 2 + i; flags = flags_for (runtime_perm i) }
  runtime_mapping i few =
      let n = pages layout in
      let a : nat_lt (n + i) n ≡ false = grind (arith, nat_tests) in
      rw (a, at_tcs n i, before_code n i) (by (i == 0) (nat_lt i 5) refl refl)
    where
      by : (b c : Bool) → (i == 0) ≡ b → nat_lt i 5 ≡ c →
          (if b then mapped_to 2 R else (if c then mapped_to (pages layout + i - pages layout + 2) Rw else mapped_to 7 Rx)) ≡ mapped_to (2 + i) (if b then R else (if c then Rw else Rx))
      by true c s t = let e = at_tcs_frame i s in ap (λ (f : ℕ). mapped_to f R) e
      by false true s t = let e : pages layout + i - pages layout + 2 ≡ 2 + i = omega arith in ap (λ (f : ℕ). mapped_to f Rw) e
      by false false s t = let e = at_code_frame i few t in ap (λ (f : ℕ). mapped_to f Rx) e

  -- the next page of the runtime is mapped to its frame
  pub maps_more : (table new : List Pte) (entry : Pte) (i : ℕ) → i < 6 → mapping_of entry ≡ record { frame = 2 + i; flags = flags_for (runtime_perm i) } →
      new ≡ set table (pages layout + i) entry → MapsFirst layout table (pages layout + i) → MapsFirst layout new (pages layout + (i + 1))
  maps_more table new entry i few is set_is first = record {
    sized = ap length set_is ∙ length-set table (pages layout + i) entry ∙ first.sized;
    mapped = λ p. ap (λ t. mapping_of (pte_at t p)) set_is ∙ by p ∙ ap (λ k. if nat_lt p k then entry_at_build layout p else mapping_of unmapped) next;
  }
    where
      next : pages layout + i + 1 ≡ pages layout + (i + 1)
      next = omega arith

      within : pages layout + i < length table
      within = let l = first.sized in omega arith

      by : (p : ℕ) → mapping_of (pte_at (set table (pages layout + i) entry) p) ≡ (if nat_lt p (pages layout + i + 1) then entry_at_build layout p else mapping_of unmapped)
      by p =
          elim (eqb_tells p (pages layout + i)) [
            | inl same ↦ ap (λ k. mapping_of (pte_at (set table (pages layout + i) entry) k)) same.1 ∙ ap mapping_of (get_or-set_same table (pages layout + i) entry unmapped within)
                ∙ is ∙ sym (runtime_mapping i few) ∙ ap (entry_at_build layout) (sym same.1)
                ∙ sym (ap (λ b. if b then entry_at_build layout p else mapping_of unmapped) (below_next p (pages layout + i) same.1))
            | inr other ↦ ap mapping_of (get_or-set_other table (pages layout + i) p entry unmapped other.1) ∙ first.mapped p
                ∙ ap (λ b. if b then entry_at_build layout p else mapping_of unmapped) (below_same p (pages layout + i) other.1)
          ]

  -- all are
  pub maps_all : (table : List Pte) (i : ℕ) → 6 ≤ i → MapsFirst layout table (pages layout + i) → MapsEach layout table
  maps_all table i all first = record {
    sized = first.sized;
    mapped = λ p lt. let t : nat_lt p (pages layout + i) ≡ true = below_all p lt in first.mapped p ∙ ap (λ b. if b then entry_at_build layout p else mapping_of unmapped) t;
  }
    where
      below_all : (p : ℕ) → p < all_pages layout → nat_lt p (pages layout + i) ≡ true
      below_all p lt = grind (arith, nat_tests)
