-- One more page of the program is added and written out.
use Rattle.std.proofs.Common.{◌≡◌, ℕ, ◌+◌, ◌*◌, ◌<◌, ◌≤◌, false, ◌==◌, if◌then◌else◌, List, ◌++◌, length, set, ap, sym, ◌∙◌, arith, length-set}
use Rattle.std.specs.Prelude.{Some, slice_get}
use Rattle.ak_core.specs.declared.page.Perm.{Perm}
use Rattle.ak_core.specs.declared.page.PageType.TheVariants.{Reg}
use Rattle.ak_epcm.specs.Entries.{free_entry}
use Rattle.ak_model.specs.Flat.Instructions.{number_at}
use Rattle.ak_measure.specs.Absorbed.{HasAbsorbed}
use Rattle.ak_measure.specs.Blocks.{page_blocks}
use Rattle.ak_measure.specs.Secinfo.{secinfo}
use Rattle.ak_sealed.specs.SealedPages.{sealed_page_at, sealed_page_of}
use Rattle.ak_image.specs.Built.{pages_of, page_bytes, secinfo_of}
use Rattle.ak_image.specs.Image.{Image}
use Rattle.ak_encls.specs.Building.{added_entry, HasOnlyCycled}
use Rattle.ak_encls.specs.Enclave.{Enclave, frame_at}
use Rattle.ak_build.specs.Adding.{blocks_so_far, HasAdded}
use Rattle.ak_build.proofs.Steps.{passing, whole_stays, slots_more, sealed_more, program_flags, measured_more}

module _ (image : Image) (frames lps p r : ℕ) (perm : Perm) (bytes : List ℕ) (old new : Enclave) (h : HasAdded image frames lps old p 0)
    (below : p < pages_of image) (allowed : slice_get image.perms p ≡ Some perm) (filled : bytes ≡ page_bytes image p) (size : length bytes ≡ 4096) (room : 9 ≤ frames)
    (handle : r ≡ length old.handles.sealed_pages) (entries : new.entries ≡ set old.entries 8 free_entry)
    (slot : number_at (frame_at new.frames 1) (8 * p) 8 ≡ r + 1)
    (slots : (j : ℕ) → (j == p) ≡ false → number_at (frame_at new.frames 1) (8 * j) 8 ≡ number_at (frame_at old.frames 1) (8 * j) 8)
    (sealed_page : (k : ℕ) → sealed_page_at new.handles k ≡ (if k == r then Some (sealed_page_of (added_entry (record { 0 = p }) Reg perm) bytes) else sealed_page_at old.handles k))
    (next : length new.handles.sealed_pages ≡ r + 1) (spare : new.handles.spare + 1 ≡ old.handles.spare) (unentered : HasOnlyCycled new.track)
    (cycles : new.track.cycles ≡ old.track.cycles + 1) (lps_stay : new.track.lps ≡ old.track.lps)
    (measure : (absorbed : List ℕ) → HasAbsorbed old.measure absorbed → HasAbsorbed new.measure (absorbed ++ page_blocks (4096 * p) (secinfo Reg perm) bytes))
    (lengths : (g : ℕ) → length (frame_at new.frames g) ≡ (if g == 8 then length bytes else length (frame_at old.frames g))) where
  is_next : r ≡ p
  is_next = handle ∙ h.given

  within : 8 < length old.entries
  within = let count = h.count in omega arith

  at_page : (k : ℕ) → sealed_page_at new.handles k ≡ (if k == p then Some (sealed_page_of (added_entry (record { 0 = p }) Reg perm) bytes) else sealed_page_at old.handles k)
  at_page k = sealed_page k ∙ ap (λ n. if k == n then Some (sealed_page_of (added_entry (record { 0 = p }) Reg perm) bytes) else sealed_page_at old.handles k) is_next

  next_block : p + 1 + 0 ≡ p + 0 + 1
  next_block = omega arith

  same_offset : 4096 * p ≡ 4096 * (p + 0)
  same_offset = omega arith

  this_page : p ≡ p + 0
  this_page = omega arith

  pub sealed : HasAdded image frames lps new (p + 1) 0
  sealed = record {
    count = ap length entries ∙ length-set old.entries 8 free_entry ∙ h.count;
    entries = passing (pages_of image) old.entries new.entries h.entries entries within;
    whole = whole_stays old.frames new.frames 8 bytes lengths size h.whole;
    runtime = λ i few. absurd (omega arith);
    slots = slots_more (frame_at old.frames 1) (frame_at new.frames 1) p h.slots (slot ∙ ap (λ n. n + 1) is_next) slots;
    sealed = sealed_more image p perm bytes old.handles new.handles allowed filled h.sealed at_page;
    given = next ∙ ap (λ n. n + 1) is_next;
    spare = (let s = h.spare in omega arith);
    cycles = cycles ∙ ap (λ n. n + 1) h.cycles;
    lps_are = lps_stay ∙ h.lps_are;
    unentered = unentered;
    measured =
        measured_more image (p + 0) (p + 1 + 0) (secinfo Reg perm) (4096 * p) bytes new.measure next_block same_offset
        (sym (program_flags image p perm allowed below) ∙ ap (secinfo_of image) this_page) (filled ∙ ap (page_bytes image) this_page)
        (measure (blocks_so_far image (p + 0)) h.measured);
  }
