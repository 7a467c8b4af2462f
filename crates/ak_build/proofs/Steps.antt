-- Frames, slots and sealed pages after one more page.
use Rattle.std.proofs.Common.{◌≡◌, ◌≢◌, ℕ, ◌+◌, ◌-◌, ◌*◌, ◌<◌, ◌≤◌, Bool, true, false, ◌==◌, if◌then◌else◌, List, ◌++◌, length, set, inl, inr, refl, ap, sym, ◌∙◌, subst, arith}
use Rattle.std.proofs.lemmas.Bool.{cases_lt}
use Rattle.std.proofs.lemmas.Bool.Decides.{eqb_tells, nat_tests}
use Rattle.std.specs.Prelude.{nat_lt, Some, None, slice_get}
use Rattle.std.specs.Bool.{then_some}
use Rattle.std.specs.Option.{option_map, option_map_or}
use Rattle.ak_core.specs.declared.page.Entry.{Entry}
use Rattle.ak_core.specs.declared.page.Perm.{Perm}
use Rattle.ak_core.specs.declared.page.Perm.TheVariants.{R, Rw, Rx}
use Rattle.ak_core.specs.declared.page.PageType.TheVariants.{Tcs, Reg}
use Rattle.ak_epcm.specs.Entries.{free_entry, entry_at}
use Rattle.ak_model.specs.Flat.Instructions.{number_at}
use Rattle.ak_measure.specs.Absorbed.{HasAbsorbed}
use Rattle.ak_measure.specs.Blocks.{page_blocks}
use Rattle.ak_measure.specs.Secinfo.{secinfo}
use Rattle.ak_measure.specs.declared.measurement.Measure.{Measure}
use Rattle.ak_sealed.specs.SealedPages.{Handles, sealed_page_at, sealed_page_of, version}
use Rattle.ak_core.specs.Layout.{enclave_size}
use Rattle.ak_image.specs.Built.{pages_of, page_bytes, secinfo_of, regular}
use Rattle.ak_image.specs.Image.{Image}
use Rattle.ak_image.proofs.Measured.{blocks-more}
use Rattle.ak_encls.specs.Building.{secs_entry, va_entry, added_entry}
use Rattle.ak_encls.specs.Enclave.{frame_at}
use Rattle.ak_encls.proofs.SlotChanges.{frame_same, frame_other, entry_same, entry_other}
use Rattle.ak_build.specs.Adding.{entry_so_far, program_sealed, sealed_so_far, blocks_so_far}
use Rattle.ak_build.specs.Runtime.{runtime_type, runtime_perm, runtime_entry}

-- ---- Tests on places

pub below_next : (i p : ℕ) → i ≡ p → nat_lt i (p + 1) ≡ true
below_next i p same = grind (arith, nat_tests)

below_both : (i p : ℕ) → i < p → nat_lt i p ≡ nat_lt i (p + 1)
below_both i p less = let a : nat_lt i p ≡ true = grind (arith, nat_tests) in let b : nat_lt i (p + 1) ≡ true = grind (arith, nat_tests) in a ∙ sym b

below_none : (i p : ℕ) → p < i → nat_lt i p ≡ nat_lt i (p + 1)
below_none i p more = let a : nat_lt i p ≡ false = grind (arith, nat_tests) in let b : nat_lt i (p + 1) ≡ false = grind (arith, nat_tests) in a ∙ sym b

pub below_same : (i p : ℕ) → i ≢ p → nat_lt i p ≡ nat_lt i (p + 1)
below_same i p other =
    elim (cases_lt i p) [
      | inl less ↦ below_both i p less
      | inr more ↦ below_none i p (omega arith)
    ]

-- ---- Entries

-- frame 8 is free before and after a page passes through it
pub passing : (n : ℕ) (old new : List Entry) → ((f : ℕ) → entry_at old f ≡ entry_so_far n 0 f) → new ≡ set old 8 free_entry → 8 < length old →
    (f : ℕ) → entry_at new f ≡ entry_so_far n 0 f
passing n old new was is within f =
    elim (eqb_tells f 8) [
      | inl same ↦ ap (λ l. entry_at l f) is ∙ ap (λ g. entry_at (set old 8 free_entry) g) same.1 ∙ entry_same old 8 free_entry within
          ∙ sym (ap (entry_so_far n 0) same.1)
      | inr other ↦ ap (λ l. entry_at l f) is ∙ entry_other old 8 f free_entry other.1 ∙ was f
    ]

next_entry : (n m f : ℕ) → f ≡ 2 + m → entry_so_far n (m + 1) f ≡ runtime_entry n m
next_entry n m f is =
    let a : (f == 0) ≡ false = grind (arith, nat_tests) in
    let b : (f == 1) ≡ false = grind (arith, nat_tests) in
    let c : nat_lt f (2 + (m + 1)) ≡ true = grind (arith, nat_tests) in
    let d : f - 2 ≡ m = omega arith in
    rw (a, b, c) (ap (runtime_entry n) d)

abbrev entry_by : ℕ → ℕ → Bool → Entry
entry_by n f c = if f == 0 then secs_entry else (if f == 1 then va_entry else (if c then runtime_entry n (f - 2) else free_entry))

same_entry : (n m f : ℕ) → f ≢ 2 + m → entry_so_far n m f ≡ entry_so_far n (m + 1) f
same_entry n m f other =
    let e : 2 + (m + 1) ≡ 2 + m + 1 = omega arith in
    ap (entry_by n f) (below_same f (2 + m) other ∙ ap (nat_lt f) (sym e))

-- the next frame has a page of the runtime
pub placed : (n m : ℕ) (old new : List Entry) → ((f : ℕ) → entry_at old f ≡ entry_so_far n m f) → new ≡ set old (2 + m) (runtime_entry n m) → 2 + m < length old →
    (f : ℕ) → entry_at new f ≡ entry_so_far n (m + 1) f
placed n m old new was is within f =
    elim (eqb_tells f (2 + m)) [
      | inl same ↦ ap (λ l. entry_at l f) is ∙ ap (λ g. entry_at (set old (2 + m) (runtime_entry n m)) g) same.1 ∙ entry_same old (2 + m) (runtime_entry n m) within
          ∙ sym (next_entry n m f same.1)
      | inr other ↦ ap (λ l. entry_at l f) is ∙ entry_other old (2 + m) f (runtime_entry n m) other.1 ∙ was f ∙ same_entry n m f other.1
    ]

-- the next frame is free
pub next_free : (n m : ℕ) → entry_so_far n m (2 + m) ≡ free_entry
next_free n m =
    let a : (2 + m == 0) ≡ false = grind (arith, nat_tests) in
    let b : (2 + m == 1) ≡ false = grind (arith, nat_tests) in
    let c : nat_lt (2 + m) (2 + m) ≡ false = grind (arith, nat_tests) in
    rw (a, b, c)

-- ---- Frames

abbrev Frames : Type 0
Frames = List (List ℕ)

-- each frame is whole, where the one that was written is
pub whole_stays : (old new : Frames) (f : ℕ) (bytes : List ℕ) → ((g : ℕ) → length (frame_at new g) ≡ (if g == f then length bytes else length (frame_at old g))) →
    length bytes ≡ 4096 → ((g : ℕ) → length (frame_at old g) ≡ 4096) → (g : ℕ) → length (frame_at new g) ≡ 4096
whole_stays old new f bytes is size was g = is g ∙ by (g == f)
  where
    by : (b : Bool) → (if b then length bytes else length (frame_at old g)) ≡ 4096
    by true = size
    by false = was g

-- the frame that was set is whole, and the others stay
pub whole_set : (old new : Frames) (f : ℕ) (bytes : List ℕ) → new ≡ set old f bytes → f < length old →
    length bytes ≡ 4096 → ((g : ℕ) → length (frame_at old g) ≡ 4096) → (g : ℕ) → length (frame_at new g) ≡ 4096
whole_set old new f bytes is within size was g =
    elim (eqb_tells g f) [
      | inl same ↦ ap (λ l. length (frame_at l g)) is ∙ ap (λ k. length (frame_at (set old f bytes) k)) same.1 ∙ ap length (frame_same old f bytes within) ∙ size
      | inr other ↦ ap (λ l. length (frame_at l g)) is ∙ ap length (frame_other old f g bytes other.1) ∙ was g
    ]

-- the pages of the runtime so far, and the next one
pub runtime_more : (content : ℕ → List ℕ) (m : ℕ) (old new : Frames) (bytes : List ℕ) → ((i : ℕ) → i < m → frame_at old (2 + i) ≡ content i) →
    new ≡ set old (2 + m) bytes → 2 + m < length old → bytes ≡ content m → (i : ℕ) → i < m + 1 → frame_at new (2 + i) ≡ content i
runtime_more content m old new bytes was is within filled i below =
    elim (eqb_tells i m) [
      | inl same ↦ ap (λ l. frame_at l (2 + i)) is ∙ ap (λ k. frame_at (set old (2 + m) bytes) (2 + k)) same.1 ∙ frame_same old (2 + m) bytes within ∙ filled
          ∙ ap content (sym same.1)
      | inr other ↦ later other.1
    ]
  where
    later : i ≢ m → frame_at new (2 + i) ≡ content i
    later other =
        let away : 2 + i ≢ 2 + m = omega arith in
        let less : i < m = omega arith in
        ap (λ l. frame_at l (2 + i)) is ∙ frame_other old (2 + m) (2 + i) bytes away ∙ was i less

-- ---- Slots

-- the slots so far, and the next one
pub slots_more : (old new : List ℕ) (p : ℕ) → ((i : ℕ) → number_at old (8 * i) 8 ≡ version (then_some (nat_lt i p) i)) →
    number_at new (8 * p) 8 ≡ p + 1 → ((j : ℕ) → (j == p) ≡ false → number_at new (8 * j) 8 ≡ number_at old (8 * j) 8) →
    (i : ℕ) → number_at new (8 * i) 8 ≡ version (then_some (nat_lt i (p + 1)) i)
slots_more old new p was here others i =
    elim (eqb_tells i p) [
      | inl same ↦ ap (λ k. number_at new (8 * k) 8) same.1 ∙ here ∙ ap (λ k. k + 1) (sym same.1) ∙ sym (ap (λ b. version (then_some b i)) (below_next i p same.1))
      | inr other ↦ others i other.0 ∙ was i ∙ ap (λ b. version (then_some b i)) (below_same i p other.1)
    ]

-- ---- Sealed pages

-- the sealed pages so far, and the next one
pub sealed_more : (image : Image) (p : ℕ) (perm : Perm) (bytes : List ℕ) (old new : Handles) → slice_get image.perms p ≡ Some perm → bytes ≡ page_bytes image p →
    ((k : ℕ) → sealed_page_at old k ≡ sealed_so_far image p k) →
    ((k : ℕ) → sealed_page_at new k ≡ (if k == p then Some (sealed_page_of (added_entry (record { 0 = p }) Reg perm) bytes) else sealed_page_at old k)) →
    (k : ℕ) → sealed_page_at new k ≡ sealed_so_far image (p + 1) k
sealed_more image p perm bytes old new allowed filled was is k =
    elim (eqb_tells k p) [
      | inl same ↦ is k ∙ ap (λ b. if b then Some (sealed_page_of (added_entry (record { 0 = p }) Reg perm) bytes) else sealed_page_at old k) same.0
          ∙ ap (λ b. Some (sealed_page_of (added_entry (record { 0 = p }) Reg perm) b)) filled ∙ sym (next_sealed same.1)
      | inr other ↦ is k ∙ ap (λ b. if b then Some (sealed_page_of (added_entry (record { 0 = p }) Reg perm) bytes) else sealed_page_at old k) other.0
          ∙ was k ∙ ap (λ b. if b then program_sealed image k else None) (below_same k p other.1)
    ]
  where
    next_sealed : k ≡ p → sealed_so_far image (p + 1) k ≡ Some (sealed_page_of (added_entry (record { 0 = p }) Reg perm) (page_bytes image p))
    next_sealed same =
        ap (λ b. if b then program_sealed image k else None) (below_next k p same) ∙ ap (program_sealed image) same
        ∙ ap (option_map (λ q. sealed_page_of (added_entry (record { 0 = p }) Reg q) (page_bytes image p))) allowed

-- ---- The measurement

at_first : (n i : ℕ) → i ≡ 0 → (n + i == n) ≡ true
at_first n i is = grind (arith, nat_tests)

past_first : (n i : ℕ) → i ≢ 0 → (n + i == n) ≡ false
past_first n i other = grind (arith, nat_tests)

both_before : (n i : ℕ) → i < 5 → nat_lt (n + i) (n + 5) ≡ nat_lt i 5
both_before n i less = let a : nat_lt (n + i) (n + 5) ≡ true = grind (arith, nat_tests) in let b : nat_lt i 5 ≡ true = grind (arith, nat_tests) in a ∙ sym b

none_before : (n i : ℕ) → 5 ≤ i → nat_lt (n + i) (n + 5) ≡ nat_lt i 5
none_before n i more = let a : nat_lt (n + i) (n + 5) ≡ false = grind (arith, nat_tests) in let b : nat_lt i 5 ≡ false = grind (arith, nat_tests) in a ∙ sym b

same_regular : (perm : Perm) → regular perm ≡ secinfo Reg perm
same_regular R = refl
same_regular Rw = refl
same_regular Rx = refl

-- what the SECINFO of a page of the program says
pub program_flags : (image : Image) (p : ℕ) (perm : Perm) → slice_get image.perms p ≡ Some perm → p < pages_of image → secinfo_of image p ≡ secinfo Reg perm
unfolding secinfo_of
program_flags image p perm allowed below =
    let t : nat_lt p (pages_of image) ≡ true = grind (arith, nat_tests) in
    rw t (ap (λ o. option_map_or regular o 0) allowed ∙ same_regular perm)

pub at_tcs : (n i : ℕ) → (n + i == n) ≡ (i == 0)
at_tcs n i =
    elim (eqb_tells i 0) [
      | inl same ↦ at_first n i same.1 ∙ sym same.0
      | inr other ↦ past_first n i other.1 ∙ sym other.0
    ]

pub before_code : (n i : ℕ) → nat_lt (n + i) (n + 5) ≡ nat_lt i 5
before_code n i =
    elim (cases_lt i 5) [
      | inl less ↦ both_before n i less
      | inr more ↦ none_before n i more
    ]

-- what that of a page of the runtime says
pub runtime_flags : (image : Image) (i : ℕ) → secinfo_of image (pages_of image + i) ≡ secinfo (runtime_type i) (runtime_perm i)
unfolding secinfo_of
runtime_flags image i =
    let n = pages_of image in
    let a : nat_lt (n + i) n ≡ false = grind (arith, nat_tests) in
    let b : (n + i == n) ≡ (i == 0) = at_tcs n i in
    let c : nat_lt (n + i) (n + 5) ≡ nat_lt i 5 = before_code n i in
    rw (a, b, c) (by (i == 0) (nat_lt i 5))
  where
    by : (b c : Bool) → (if b then 256 * 1 else (if c then regular Rw else regular Rx)) ≡ secinfo (if b then Tcs else Reg) (if b then R else (if c then Rw else Rx))
    by true c = refl
    by false true = refl
    by false false = refl

-- the blocks of one more page are absorbed
pub measured_more : (image : Image) (k k' flags offset : ℕ) (bytes : List ℕ) (measure : Measure) → k' ≡ k + 1 → offset ≡ 4096 * k → flags ≡ secinfo_of image k → bytes ≡ page_bytes image k →
    HasAbsorbed measure (blocks_so_far image k ++ page_blocks offset flags bytes) → HasAbsorbed measure (blocks_so_far image k')
measured_more image k k' flags offset bytes measure next at is filled absorbed =
    let size = enclave_size (pages_of image) in
    let same : blocks_so_far image k ++ page_blocks offset flags bytes ≡ blocks_so_far image k' =
    ap (λ o. blocks_so_far image k ++ page_blocks o flags bytes) at
    ∙ ap (λ f. blocks_so_far image k ++ page_blocks (4096 * k) f bytes) is
    ∙ ap (λ b. blocks_so_far image k ++ page_blocks (4096 * k) (secinfo_of image k) b) filled
    ∙ blocks-more image size k ∙ ap (blocks_so_far image) (sym next) in
    subst (HasAbsorbed measure) same absorbed
