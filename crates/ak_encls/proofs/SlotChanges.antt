-- What slots hold after an entry or the bytes of a frame changed.
use Rattle.std.proofs.Common.{◌≡◌, ◌≢◌, ◌⊎◌, inl, inr, ℕ, zero, suc, ◌*◌, ◌<◌, Bool, true, false, ◌&&◌, ◌==◌, if◌then◌else◌, List, [], ◌∷◌, length, get_or, set, arith, refl, ap, sym, ◌∙◌, get_or-set_same, get_or-set_other}
use Rattle.std.specs.Prelude.{nat_lt, None}
use Rattle.std.proofs.lemmas.Bool.{cases_lt, false≢true}
use Rattle.std.proofs.lemmas.Bool.Decides.{eqb_tells}
use Rattle.std.proofs.Math.ListN.{get_or-eq_default}
use Rattle.ak_core.specs.declared.page.Entry.{Entry}
use Rattle.ak_core.specs.declared.page.PageType.{PageType}
use Rattle.ak_core.specs.declared.page.PageType.TheVariants.{Secs, Tcs, Reg, Va}
use Rattle.ak_epcm.specs.Entries.{free_entry, entry_at, is_addressed, is_of_page}
use Rattle.ak_model.specs.Flat.Instructions.{number_at}
use Rattle.ak_sealed.specs.SealedPages.{handle_in}
use Rattle.ak_encls.specs.Enclave.{blank_page, frame_at}
use Rattle.ak_encls.specs.Sound.{is_va_type, is_slot, slot_by, slot_in}

-- ---- One frame of a list

pub frame_same : (frames : List (List ℕ)) (f : ℕ) (bytes : List ℕ) → f < length frames → frame_at (set frames f bytes) f ≡ bytes
frame_same frames f bytes within = get_or-set_same frames f bytes blank_page within

pub frame_other : (frames : List (List ℕ)) (f g : ℕ) (bytes : List ℕ) → g ≢ f → frame_at (set frames f bytes) g ≡ frame_at frames g
frame_other frames f g bytes other = get_or-set_other frames f g bytes blank_page other

-- an element is the same whatever is read past the end
pub read_any : {A : Type 0} (xs : List A) (k : ℕ) (d e : A) → k < length xs → get_or xs k d ≡ get_or xs k e
read_any (x ∷ xs) zero d e within = refl
read_any (x ∷ xs) (suc k) d e within = read_any xs k d e (omega arith)
read_any [] k d e within = absurd (omega arith)

-- a frame of the page cache has the bytes that are read there
pub frame_read : (frames : List (List ℕ)) (f : ℕ) (d : List ℕ) → f < length frames → get_or frames f d ≡ frame_at frames f
frame_read frames f d within = read_any frames f d blank_page within

-- each frame is as long as it was, where the bytes that were written are
pub lengths_stay : (frames : List (List ℕ)) (f : ℕ) (bytes old : List ℕ) → f < length frames → old ≡ frame_at frames f → length bytes ≡ length old →
    (g : ℕ) → length (frame_at (set frames f bytes) g) ≡ length (frame_at frames g)
lengths_stay frames f bytes old within read same g =
    elim (eqb_tells g f) [
      | inl here ↦ ap (λ k. length (frame_at (set frames f bytes) k)) here.1 ∙ ap length (frame_same frames f bytes within) ∙ same ∙ ap length read
          ∙ ap (λ k. length (frame_at frames k)) (sym here.1)
      | inr other ↦ ap length (frame_other frames f g bytes other.1)
    ]

pub entry_same : (entries : List Entry) (f : ℕ) (entry : Entry) → f < length entries → entry_at (set entries f entry) f ≡ entry
entry_same entries f entry within = get_or-set_same entries f entry free_entry within

pub entry_other : (entries : List Entry) (f g : ℕ) (entry : Entry) → g ≢ f → entry_at (set entries f entry) g ≡ entry_at entries g
entry_other entries f g entry other = get_or-set_other entries f g entry free_entry other

-- a frame in use is one of the page cache
pub valid_within : (entries : List Entry) (f : ℕ) → (entry_at entries f).valid ≡ true → f < length entries
valid_within entries f valid =
    elim (cases_lt f (length entries)) [
      | inl below ↦ below
      | inr above ↦ absurd (false≢true (sym (ap (λ (e : Entry). e.valid) (get_or-eq_default entries free_entry above)) ∙ valid))
    ]

-- ---- Frames that have no slot

slot_none : (b c : Bool) (v : ℕ) → b ≡ false → (if b && c then handle_in v else None) ≡ None
slot_none false c v e = refl
slot_none true c v e = absurd (cc)

no_va : (valid : Bool) (kind : PageType) → (valid && is_addressed kind) ≡ true → (valid && is_va_type kind) ≡ false
no_va false kind e = refl
no_va true Secs e = refl
no_va true Tcs e = refl
no_va true Reg e = refl
no_va true Va e = absurd (cc)

-- a page of the enclave has none
pub page_no_slot : (entry : Entry) (bytes : List ℕ) (i : ℕ) → is_of_page entry ≡ true → slot_by entry bytes i ≡ None
page_no_slot entry bytes i page =
    slot_none (entry.valid && is_va_type entry.kind) (nat_lt i 512) (number_at bytes (8 * i) 8) (no_va entry.valid entry.kind page)

-- ---- Changes

-- a frame has a new entry by which, with its new bytes, it has no slot that holds a version
pub emptied : (entries : List Entry) (frames frames' : List (List ℕ)) (f : ℕ) (entry : Entry) → f < length entries →
    ((g : ℕ) → g ≢ f → frame_at frames' g ≡ frame_at frames g) → ((i : ℕ) → slot_by entry (frame_at frames' f) i ≡ None) →
    (va i : ℕ) → (slot_in (set entries f entry) frames' va i ≡ slot_in entries frames va i) ⊎ (slot_in (set entries f entry) frames' va i ≡ None)
emptied entries frames frames' f entry within others none va i =
    elim (eqb_tells va f) [
      | inl same ↦ inr (ap (λ g. slot_in (set entries f entry) frames' g i) same.1
          ∙ ap (λ e. slot_by e (frame_at frames' f) i) (entry_same entries f entry within) ∙ none i)
      | inr other ↦ inl (ap (λ e. slot_by e (frame_at frames' va) i) (entry_other entries f va entry other.1)
          ∙ ap (λ bytes. slot_by (entry_at entries va) bytes i) (others va other.1))
    ]

-- the bytes of a page changed
pub rewritten : (entries : List Entry) (frames : List (List ℕ)) (f : ℕ) (bytes : List ℕ) → is_of_page (entry_at entries f) ≡ true →
    (va i : ℕ) → slot_in entries (set frames f bytes) va i ≡ slot_in entries frames va i
rewritten entries frames f bytes page va i =
    elim (eqb_tells va f) [
      | inl same ↦ ap (λ g. slot_in entries (set frames f bytes) g i) same.1
          ∙ page_no_slot (entry_at entries f) (frame_at (set frames f bytes) f) i page
          ∙ sym (page_no_slot (entry_at entries f) (frame_at frames f) i page)
          ∙ ap (λ g. slot_in entries frames g i) (sym same.1)
      | inr other ↦ ap (λ b. slot_by (entry_at entries va) b i) (frame_other frames f va bytes other.1)
    ]

-- a frame's entry is blocked
pub blocked_slot : (entries : List Entry) (frames : List (List ℕ)) (f : ℕ) → f < length entries →
    (va i : ℕ) → slot_in (set entries f (record (entry_at entries f) { blocked = true })) frames va i ≡ slot_in entries frames va i
blocked_slot entries frames f within va i =
    elim (eqb_tells va f) [
      | inl same ↦ ap (λ g. slot_in (set entries f (record (entry_at entries f) { blocked = true })) frames g i) same.1
          ∙ ap (λ e. slot_by e (frame_at frames f) i) (entry_same entries f (record (entry_at entries f) { blocked = true }) within)
          ∙ ap (λ g. slot_in entries frames g i) (sym same.1)
      | inr other ↦ ap (λ e. slot_by e (frame_at frames va) i) (entry_other entries f va (record (entry_at entries f) { blocked = true }) other.1)
    ]

-- a slot of a VA page has this number now, and the others of this page have what they had
pub rewritten_slot : (entries : List Entry) (frames : List (List ℕ)) (va i v : ℕ) (bytes : List ℕ) → va < length frames → is_slot (entry_at entries va) i ≡ true →
    number_at bytes (8 * i) 8 ≡ v → ((j : ℕ) → (j == i) ≡ false → number_at bytes (8 * j) 8 ≡ number_at (frame_at frames va) (8 * j) 8) →
    (wa j : ℕ) → ((wa ≡ va) × (j ≡ i) × (slot_in entries (set frames va bytes) wa j ≡ handle_in v)) ⊎ (slot_in entries (set frames va bytes) wa j ≡ slot_in entries frames wa j)
rewritten_slot entries frames va i v bytes within slot is others wa j =
    elim (eqb_tells wa va) [
      | inl same ↦ elim (eqb_tells j i) [
        | inl here ↦ inl (
          same.1,
          here.1,
          ap (λ g. slot_in entries (set frames va bytes) g j) same.1 ∙ ap (λ k. slot_in entries (set frames va bytes) va k) here.1
              ∙ ap (λ b. slot_by (entry_at entries va) b i) (frame_same frames va bytes within)
              ∙ ap (λ b. if b then handle_in (number_at bytes (8 * i) 8) else None) slot ∙ ap handle_in is,
        )
        | inr away ↦ inr (ap (λ g. slot_in entries (set frames va bytes) g j) same.1
            ∙ ap (λ b. slot_by (entry_at entries va) b j) (frame_same frames va bytes within)
            ∙ ap (λ n. if is_slot (entry_at entries va) j then handle_in n else None) (others j away.0)
            ∙ ap (λ g. slot_in entries frames g j) (sym same.1))
      ]
      | inr other ↦ inr (ap (λ b. slot_by (entry_at entries wa) b j) (frame_other frames va wa bytes other.1))
    ]
