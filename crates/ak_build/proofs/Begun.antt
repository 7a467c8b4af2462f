-- The enclave with its SECS and a VA page, and no page of its own.
use Rattle.std.proofs.Common.{◌≡◌, ◌≢◌, ℕ, zero, suc, ◌+◌, ◌-◌, ◌*◌, ◌<◌, ◌≤◌, false, ◌==◌, List, [], ◌∷◌, length, set, replicate, inl, inr, refl, ap, sym, ◌∙◌, subst, arith}
use Rattle.std.proofs.lemmas.Bool.{cases_lt}
use Rattle.std.proofs.lemmas.Bool.Decides.{eqb_tells, nat_tests}
use Rattle.std.proofs.lemmas.List.{get_or-replicate, length-replicate}
use Rattle.std.proofs.Math.ListN.{get_or-eq_default, length-set}
use Rattle.std.specs.Prelude.{nat_lt, None}
use Rattle.std.specs.Bool.{then_some}
use Rattle.ak_core.specs.Layout.{enclave_size}
use Rattle.ak_core.specs.declared.page.Entry.{Entry}
use Rattle.ak_epcm.specs.Entries.{free_entry, entry_at}
use Rattle.ak_model.specs.Flat.Instructions.{number_at}
use Rattle.ak_measure.specs.Absorbed.{HasAbsorbed}
use Rattle.ak_measure.specs.Blocks.{create_block}
use Rattle.ak_sealed.specs.SealedPages.{sealed_page_at, version}
use Rattle.ak_track.specs.Steps.{Cycled}
use Rattle.ak_track.specs.Tracking.{HoldsSteps}
use Rattle.ak_image.specs.Built.{pages_of}
use Rattle.ak_image.specs.Image.{Image}
use Rattle.ak_image.proofs.Measured.{blocks-none}
use Rattle.ak_encls.specs.Building.{secs_entry, va_entry, HasOnlyCycled}
use Rattle.ak_encls.specs.Enclave.{Enclave, blank_page, frame_at}
use Rattle.ak_encls.proofs.SlotChanges.{frame_same, entry_same, entry_other}
use Rattle.ak_encls.proofs.Soundness.{zero_value}
use Rattle.ak_build.specs.Adding.{entry_so_far, sealed_so_far, HasAdded}
use Rattle.ak_build.proofs.Steps.{whole_set}

-- ---- Entries

all_free : (n f : ℕ) → entry_at (replicate n free_entry) f ≡ free_entry
all_free n f =
    elim (cases_lt f n) [
      | inl less ↦ get_or-replicate n f free_entry free_entry less
      | inr more ↦ let past : length (replicate n free_entry) ≤ f = omega (arith, length-replicate {A = Entry} n free_entry) in get_or-eq_default (replicate n free_entry) free_entry past
    ]

free_later : (n f : ℕ) → f ≢ 0 → f ≢ 1 → entry_so_far n 0 f ≡ free_entry
free_later n f x y =
    let a : (f == 0) ≡ false = grind (arith, nat_tests) in
    let b : (f == 1) ≡ false = grind (arith, nat_tests) in
    let c : nat_lt f (2 + 0) ≡ false = grind (arith, nat_tests) in
    rw (a, b, c)

other_entries : (n k f : ℕ) → f ≢ 1 → entry_at (secs_entry ∷ replicate k free_entry) f ≡ entry_so_far n 0 f
other_entries n k zero other = refl
other_entries n k (suc f) other = all_free k f ∙ sym (free_later n (suc f) (λ e. absurd (omega arith)) other)

begun_length : (frames : ℕ) → 9 ≤ frames → length (secs_entry ∷ replicate (frames - 1) free_entry) ≡ frames
begun_length frames some = let l = length-replicate {A = Entry} (frames - 1) free_entry in omega arith

begun_entries : (n frames : ℕ) → 9 ≤ frames → (f : ℕ) → entry_at (set (secs_entry ∷ replicate (frames - 1) free_entry) 1 va_entry) f ≡ entry_so_far n 0 f
begun_entries n frames some f =
    let all = secs_entry ∷ replicate (frames - 1) free_entry in
    let within : 1 < length (secs_entry ∷ replicate (frames - 1) free_entry) = omega (arith, begun_length frames some) in
    elim (eqb_tells f 1) [
      | inl same ↦ ap (entry_at (set all 1 va_entry)) same.1 ∙ entry_same all 1 va_entry within ∙ sym (ap (entry_so_far n 0) same.1)
      | inr other ↦ entry_other all 1 f va_entry other.1 ∙ other_entries n (frames - 1) f other.1
    ]

-- ---- Frames

all_blank : (n f : ℕ) → frame_at (replicate n blank_page) f ≡ blank_page
all_blank n f =
    elim (cases_lt f n) [
      | inl less ↦ get_or-replicate n f blank_page blank_page less
      | inr more ↦ let past : length (replicate n blank_page) ≤ f = omega (arith, length-replicate {A = List ℕ} n blank_page) in get_or-eq_default (replicate n blank_page) blank_page past
    ]

blank_whole : length blank_page ≡ 4096
unfolding blank_page
blank_whole = length-replicate {A = ℕ} 4096 0

none_below : (i : ℕ) → nat_lt i 0 ≡ false
none_below i = grind (arith, nat_tests)

module _ (image : Image) (frames lps : ℕ) (some : 9 ≤ frames) (first encls : Enclave)
    (entries : first.entries ≡ secs_entry ∷ replicate (frames - 1) free_entry) (pages : first.frames ≡ replicate frames blank_page)
    (track : HoldsSteps encls.track lps []) (entries_are : encls.entries ≡ set first.entries 1 va_entry)
    (frames_are : encls.frames ≡ set first.frames 1 (replicate (length (frame_at first.frames 1)) 0)) (within : 1 < length first.frames)
    (sealed_are : encls.handles.sealed_pages ≡ []) (spare : encls.handles.spare ≡ pages_of image)
    (measured : HasAbsorbed encls.measure (create_block (enclave_size (pages_of image)))) where
  blank_frame : (g : ℕ) → length (frame_at first.frames g) ≡ 4096
  blank_frame g = ap (λ l. length (frame_at l g)) pages ∙ ap length (all_blank frames g) ∙ blank_whole

  va_page : frame_at encls.frames 1 ≡ replicate (length (frame_at first.frames 1)) 0
  va_page = ap (λ l. frame_at l 1) frames_are ∙ frame_same first.frames 1 (replicate (length (frame_at first.frames 1)) 0) within

  no_cycle : encls.track.cycles ≡ 0
  no_cycle = sym track.count

  only_cycled : HasOnlyCycled encls.track
  only_cycled =
      let P : ℕ → Type 0 = λ k. HoldsSteps encls.track encls.track.lps (replicate k Cycled) in
      subst P (sym no_cycle) (subst (λ l. HoldsSteps encls.track l []) (sym track.lps_are) track)

  pub begun : HasAdded image frames lps encls 0 0
  begun = record {
    count = ap length entries_are ∙ ap (λ l. length (set l 1 va_entry)) entries ∙ length-set (secs_entry ∷ replicate (frames - 1) free_entry) 1 va_entry ∙ begun_length frames some;
    entries = λ f. ap (λ l. entry_at l f) entries_are ∙ ap (λ l. entry_at (set l 1 va_entry) f) entries ∙ begun_entries (pages_of image) frames some f;
    whole = whole_set first.frames encls.frames 1 (replicate (length (frame_at first.frames 1)) 0) frames_are within
        (length-replicate {A = ℕ} (length (frame_at first.frames 1)) 0 ∙ blank_frame 1) blank_frame;
    runtime = λ i below. absurd (omega arith);
    slots = λ i. ap (λ b. number_at b (8 * i) 8) va_page ∙ zero_value 8 (8 * i) (length (frame_at first.frames 1)) ∙ sym (ap (λ b. version (then_some b i)) (none_below i));
    sealed = λ k. ap (λ l. sealed_page_at (record { sealed_pages = l; spare = 0 }) k) sealed_are ∙ sym (none_sealed k);
    given = ap length sealed_are;
    spare = spare_all;
    cycles = no_cycle;
    lps_are = track.lps_are;
    unentered = only_cycled;
    measured = subst (HasAbsorbed encls.measure) (sym (blocks-none (enclave_size (pages_of image)))) measured;
  }
    where
      none_sealed : (k : ℕ) → sealed_so_far image 0 k ≡ None
      none_sealed k = let t = none_below k in rw t

      spare_all : encls.handles.spare + 0 ≡ pages_of image
      spare_all = omega arith
