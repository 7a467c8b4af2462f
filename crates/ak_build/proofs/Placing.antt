-- One more page of the runtime is added, in its frame.
use Rattle.std.proofs.Common.{◌≡◌, ◌≢◌, ℕ, ◌+◌, ◌*◌, ◌<◌, ◌≤◌, Bool, true, false, ◌==◌, if◌then◌else◌, List, ◌++◌, length, set, refl, ap, sym, ◌∙◌, subst, arith, length-set}
use Rattle.ak_core.specs.declared.page.Perm.{Perm}
use Rattle.ak_core.specs.declared.page.PageType.{PageType}
use Rattle.ak_core.specs.declared.page.PageType.TheVariants.{Tcs, Reg}
use Rattle.ak_core.specs.declared.page.Entry.{Entry}
use Rattle.ak_epcm.specs.Entries.{entry_at, is_addressed}
use Rattle.ak_model.specs.Flat.Instructions.{number_at}
use Rattle.ak_measure.specs.Absorbed.{HasAbsorbed}
use Rattle.ak_measure.specs.Blocks.{page_blocks}
use Rattle.ak_measure.specs.Secinfo.{secinfo}
use Rattle.ak_sealed.specs.SealedPages.{sealed_page_at}
use Rattle.ak_image.specs.Built.{pages_of, page_bytes}
use Rattle.ak_image.specs.Image.{Image}
use Rattle.ak_encls.specs.Building.{added_entry, HasOnlyCycled}
use Rattle.ak_encls.specs.Enclave.{Enclave, frame_at}
use Rattle.ak_encls.proofs.SlotChanges.{frame_other}
use Rattle.ak_build.specs.Adding.{blocks_so_far, HasAdded}
use Rattle.ak_build.specs.Runtime.{runtime_type, runtime_perm, runtime_entry}
use Rattle.ak_build.proofs.Steps.{placed, next_free, whole_set, runtime_more, runtime_flags, measured_more}

-- each page of the runtime is at an address of the enclave
pub addressed : (i : ℕ) → is_addressed (runtime_type i) ≡ true
addressed i = by (i == 0)
  where
    by : (b : Bool) → is_addressed (if b then Tcs else Reg) ≡ true
    by true = refl
    by false = refl

module _ (image : Image) (frames lps i : ℕ) (bytes : List ℕ) (old new : Enclave) (h : HasAdded image frames lps old (pages_of image) i)
    (few : i < 6) (filled : bytes ≡ page_bytes image (pages_of image + i)) (size : length bytes ≡ 4096) (room : 9 ≤ frames) where
  within : 2 + i < length old.entries
  within = let count = h.count in omega arith

  pub free : (entry_at old.entries (2 + i)).valid ≡ false
  free = ap (λ (e : Entry). e.valid) (h.entries (2 + i) ∙ next_free (pages_of image) i)

  module _ (entries : new.entries ≡ set old.entries (2 + i) (runtime_entry (pages_of image) i)) (frames_are : new.frames ≡ set old.frames (2 + i) bytes)
      (in_frames : 2 + i < length old.frames)
      (measure : (absorbed : List ℕ) → HasAbsorbed old.measure absorbed
      → HasAbsorbed new.measure (absorbed ++ page_blocks (4096 * (pages_of image + i)) (secinfo (runtime_type i) (runtime_perm i)) bytes))
      (rest : new ≡ record old { entries = new.entries; frames = new.frames; measure = new.measure }) where
    not_va : 1 ≢ 2 + i
    not_va e = omega arith

    same_slots : frame_at new.frames 1 ≡ frame_at old.frames 1
    same_slots = ap (λ l. frame_at l 1) frames_are ∙ frame_other old.frames (2 + i) 1 bytes not_va

    next_block : pages_of image + (i + 1) ≡ pages_of image + i + 1
    next_block = omega arith

    pub placed_page : HasAdded image frames lps new (pages_of image) (i + 1)
    placed_page = record {
      count = ap length entries ∙ length-set old.entries (2 + i) (runtime_entry (pages_of image) i) ∙ h.count;
      entries = placed (pages_of image) i old.entries new.entries h.entries entries within;
      whole = whole_set old.frames new.frames (2 + i) bytes frames_are in_frames size h.whole;
      runtime = runtime_more (λ k. page_bytes image (pages_of image + k)) i old.frames new.frames bytes h.runtime frames_are in_frames filled;
      slots = λ k. ap (λ b. number_at b (8 * k) 8) same_slots ∙ h.slots k;
      sealed = λ k. ap (λ (e : Enclave). sealed_page_at e.handles k) rest ∙ h.sealed k;
      given = ap (λ (e : Enclave). length e.handles.sealed_pages) rest ∙ h.given;
      spare = ap (λ (e : Enclave). e.handles.spare + pages_of image) rest ∙ h.spare;
      cycles = ap (λ (e : Enclave). e.track.cycles) rest ∙ h.cycles;
      lps_are = ap (λ (e : Enclave). e.track.lps) rest ∙ h.lps_are;
      unentered = subst (λ (e : Enclave). HasOnlyCycled e.track) (sym rest) h.unentered;
      measured =
          measured_more image (pages_of image + i) (pages_of image + (i + 1)) (secinfo (runtime_type i) (runtime_perm i)) (4096 * (pages_of image + i)) bytes new.measure
          next_block refl (sym (runtime_flags image i)) filled (measure (blocks_so_far image (pages_of image + i)) h.measured);
    }

  -- the same, of a page whose number, type and permission are those of the page of the runtime
  pub placed_as : (q : ℕ) (kind : PageType) (perm : Perm) → q ≡ pages_of image + i → kind ≡ runtime_type i → perm ≡ runtime_perm i →
      new.entries ≡ set old.entries (2 + i) (added_entry (record { 0 = q }) kind perm) → new.frames ≡ set old.frames (2 + i) bytes → 2 + i < length old.frames →
      ((absorbed : List ℕ) → HasAbsorbed old.measure absorbed → HasAbsorbed new.measure (absorbed ++ page_blocks (4096 * q) (secinfo kind perm) bytes)) →
      new ≡ record old { entries = new.entries; frames = new.frames; measure = new.measure } → HasAdded image frames lps new (pages_of image) (i + 1)
  placed_as q kind perm at is allows entries frames_are in_frames measure rest =
      let n = pages_of image in
      let same_entry : added_entry (record { 0 = q }) kind perm ≡ runtime_entry n i =
      ap (λ (k : ℕ). added_entry (record { 0 = k }) kind perm) at ∙ ap (λ (t : PageType). added_entry (record { 0 = n + i }) t perm) is
      ∙ ap (λ (a : Perm). added_entry (record { 0 = n + i }) (runtime_type i) a) allows in
      let same_blocks : page_blocks (4096 * q) (secinfo kind perm) bytes ≡ page_blocks (4096 * (n + i)) (secinfo (runtime_type i) (runtime_perm i)) bytes =
      ap (λ (k : ℕ). page_blocks (4096 * k) (secinfo kind perm) bytes) at ∙ ap (λ (t : PageType). page_blocks (4096 * (n + i)) (secinfo t perm) bytes) is
      ∙ ap (λ (a : Perm). page_blocks (4096 * (n + i)) (secinfo (runtime_type i) a) bytes) allows in
      placed_page (entries ∙ ap (set old.entries (2 + i)) same_entry) frames_are in_frames
      (λ absorbed was. subst (λ (b : List ℕ). HasAbsorbed new.measure (absorbed ++ b)) same_blocks (measure absorbed was)) rest
