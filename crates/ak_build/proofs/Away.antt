-- Pages that were not added yet are in no frame, and under no handle.
use Rattle.std.proofs.Common.{◌≡◌, ◌≢◌, ℕ, ◌+◌, ◌-◌, ◌<◌, ◌≤◌, Bool, true, false, ◌==◌, if◌then◌else◌, refl, ap, sym, ◌∙◌, arith}
use Rattle.std.proofs.lemmas.Bool.{ltb-true}
use Rattle.std.proofs.lemmas.Bool.Decides.{nat_tests}
use Rattle.std.specs.Prelude.{nat_lt, Option, Some, None, slice_get}
use Rattle.std.specs.Option.{option_map}
use Rattle.ak_core.specs.declared.page.Entry.{Entry}
use Rattle.ak_core.specs.declared.page.Perm.{Perm}
use Rattle.ak_core.specs.declared.page.PageType.TheVariants.{Tcs, Reg}
use Rattle.ak_epcm.specs.Entries.{free_entry, has_page, HasNoFrame}
use Rattle.ak_sealed.specs.SealedPages.{SealedPage, sealed_page_of}
use Rattle.ak_image.specs.Built.{pages_of, page_bytes}
use Rattle.ak_image.specs.Image.{Image}
use Rattle.ak_encls.specs.Building.{secs_entry, va_entry, added_entry, IsNotSealed}
use Rattle.ak_encls.specs.Enclave.{Enclave}
use Rattle.ak_build.specs.Adding.{entry_so_far, sealed_so_far, HasAdded}
use Rattle.ak_build.specs.Runtime.{runtime_perm, runtime_entry}

-- ---- Frames

-- a page of the runtime is no other page
other_page : (n i q : ℕ) → (n + i == q) ≡ false → has_page (runtime_entry n i) q ≡ false
other_page n i q other = by (i == 0)
  where
    by : (b : Bool) → has_page (added_entry (record { 0 = n + i }) (if b then Tcs else Reg) (runtime_perm i)) q ≡ false
    by true = other
    by false = other

-- no frame holds a page that is none of the runtime's so far
none_holds : (n m q : ℕ) → ((f : ℕ) → (f == 0) ≡ false → (f == 1) ≡ false → nat_lt f (2 + m) ≡ true → (n + (f - 2) == q) ≡ false) →
    (f : ℕ) → has_page (entry_so_far n m f) q ≡ false
none_holds n m q away f = by (f == 0) (f == 1) (nat_lt f (2 + m)) refl refl refl
  where
    by : (a b c : Bool) → (f == 0) ≡ a → (f == 1) ≡ b → nat_lt f (2 + m) ≡ c →
        has_page (if a then secs_entry else (if b then va_entry else (if c then runtime_entry n (f - 2) else free_entry))) q ≡ false
    by true b c x y z = refl
    by false true c x y z = refl
    by false false true x y z = other_page n (f - 2) q (away f x y z)
    by false false false x y z = refl

low : (n m q f : ℕ) → q < n → (n + (f - 2) == q) ≡ false
low n m q f below = grind (arith, nat_tests)

high : (n m q f : ℕ) → n + m ≤ q → (f == 0) ≡ false → (f == 1) ≡ false → nat_lt f (2 + m) ≡ true → (n + (f - 2) == q) ≡ false
high n m q f above x y z = grind (arith, nat_tests)

-- ---- Handles

-- the page that is sealed under a handle, if it was given
abbrev page_under : Image → ℕ → Bool → Option Perm → Option ℕ
page_under image k b o = option_map (λ (s : SealedPage). s.page)
    (if b then option_map (λ perm. sealed_page_of (added_entry (record { 0 = k }) Reg perm) (page_bytes image k)) o else None)

-- the handles so far have other pages
none_seals : (image : Image) (n q k : ℕ) → n ≤ q → option_map (λ (s : SealedPage). s.page) (sealed_so_far image n k) ≢ Some q
none_seals image n q k above e = by (nat_lt k n) (slice_get image.perms k) refl e
  where
    by : (b : Bool) (o : Option Perm) → nat_lt k n ≡ b → page_under image k b o ≡ Some q → ⊥
    by false o t d = absurd (let wrong : None ≡ Some q = d in cc)
    by true None t d = absurd (let wrong : None ≡ Some q = d in cc)
    by true (Some perm) t d =
        let sealed : Some k ≡ Some q = d in
        let same : k ≡ q = cc in
        let below = ltb-true k n t in
        omega arith

module _ (image : Image) (frames lps : ℕ) (encls : Enclave) (n m : ℕ) (h : HasAdded image frames lps encls n m) where
  held : (q : ℕ) → ((f : ℕ) → has_page (entry_so_far (pages_of image) m f) q ≡ false) → HasNoFrame encls.entries q
  held q none f = ap (λ (e : Entry). has_page e q) (h.entries f) ∙ none f

  -- no frame holds a page of the program
  pub no_program_frame : (q : ℕ) → q < pages_of image → HasNoFrame encls.entries q
  no_program_frame q below = held q (none_holds (pages_of image) m q (λ f x y z. low (pages_of image) m q f below))

  -- no frame holds the next page of the runtime
  pub no_runtime_frame : (q : ℕ) → pages_of image + m ≤ q → HasNoFrame encls.entries q
  no_runtime_frame q above = held q (none_holds (pages_of image) m q (λ f x y z. high (pages_of image) m q f above x y z))

  -- no handle has the next page of the program, or one that follows
  pub not_sealed : (q : ℕ) → n ≤ q → IsNotSealed encls.handles q
  not_sealed q above k e = none_seals image n q k above (ap (option_map (λ (s : SealedPage). s.page)) (sym (h.sealed k)) ∙ e)
