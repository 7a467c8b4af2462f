-- Each change keeps an enclave sound.
use Rattle.std.proofs.Common.{◌≡◌, ◌≢◌, ◌⊎◌, inl, inr, ℕ, zero, suc, ◌+◌, ◌-◌, ◌*◌, ◌<◌, Bool, true, false, ◌&&◌, ◌==◌, if◌then◌else◌, List, length, set, take, drop, replicate, refl, ap, sym, ◌∙◌, subst, arith, length-set}
use Rattle.std.specs.Prelude.{nat_lt, Option, Some, None}
use Rattle.std.specs.Option.{option_map}
use Rattle.std.proofs.lemmas.Bool.{false≢true, ltb-true}
use Rattle.std.proofs.lemmas.Bool.Decides.{eqb_tells}
use Rattle.ak_core.specs.declared.page.Entry.{Entry}
use Rattle.ak_core.specs.declared.page.Page.{Page}
use Rattle.ak_core.specs.declared.page.PageType.{PageType}
use Rattle.ak_core.specs.declared.page.PageType.TheVariants.{Secs, Tcs, Reg, Va}
use Rattle.ak_core.specs.declared.page.Perm.{Perm}
use Rattle.ak_epcm.specs.Entries.{free_entry, entry_at, is_addressed, is_of_page, has_page, HasNoFrame, HasDistinctPages}
use Rattle.ak_model.specs.Flat.Instructions.{le_value, number_at}
use Rattle.ak_sealed.specs.SealedPages.{SealedPage, Handles, sealed_page_of, entry_of, sealed_page_at, version, handle_in}
use Rattle.ak_track.specs.declared.track.Stamp.{Stamp}
use Rattle.ak_encls.specs.Enclave.{frame_at}
use Rattle.ak_encls.specs.Sound.{is_va_type, is_slot, slot_by, slot_in, sealed_in, page_in, IsSound}
use Rattle.ak_encls.specs.Building.{va_entry, added_entry, IsNotSealed}
use Rattle.ak_encls.proofs.SlotChanges.{frame_same, frame_other, entry_same, entry_other, valid_within, page_no_slot, emptied, rewritten, blocked_slot, rewritten_slot}
use Rattle.ak_encls.proofs.Versions.{fewer, page_was, written}

-- ---- Which frames hold a page

abbrev Frames : Type 0
Frames = List (List ℕ)

-- a page that the new entry does not have is in no frame still
pub no_frame_set : (entries : List Entry) (f : ℕ) (e : Entry) (p : ℕ) → f < length entries → has_page e p ≡ false → HasNoFrame entries p → HasNoFrame (set entries f e) p
no_frame_set entries f e p within other none g =
    elim (eqb_tells g f) [
      | inl same ↦ ap (λ k. has_page (entry_at (set entries f e) k) p) same.1 ∙ ap (λ x. has_page x p) (entry_same entries f e within) ∙ other
      | inr away ↦ ap (λ x. has_page x p) (entry_other entries f g e away.1) ∙ none g
    ]

and_false : (b c : Bool) → c ≡ false → (b && c) ≡ false
and_false true c e = e
and_false false c e = refl

not_true : (b : Bool) → (b ≡ true → false ≡ true) → b ≡ false
not_true false h = refl
not_true true h = absurd (false≢true (h refl))

-- an entry has no other page than its own
other_page : (e : Entry) (p : ℕ) → (e.page.0 ≡ p → false ≡ true) → has_page e p ≡ false
other_page e p differs =
    elim (eqb_tells e.page.0 p) [
      | inl same ↦ absurd (false≢true (differs same.1))
      | inr other ↦ and_false (is_of_page e) (e.page.0 == p) other.0
    ]

and_right : (b c : Bool) → b ≡ true → c ≡ true → (b && c) ≡ true
and_right true c e d = d
and_right false c e d = absurd (cc)

own_page : (e : Entry) → is_of_page e ≡ true → has_page e e.page.0 ≡ true
own_page e page =
    elim (eqb_tells e.page.0 e.page.0) [
      | inl same ↦ and_right (is_of_page e) (e.page.0 == e.page.0) page same.0
      | inr other ↦ absurd (other.1 refl)
    ]

page_type : (b c : Bool) → (b && c) ≡ true → (b ≡ true) × (c ≡ true)
page_type true c e = (refl, e)
page_type false c e = absurd (cc)

slot_valid : (entry : Entry) (i : ℕ) → is_slot entry i ≡ true → entry.valid ≡ true
slot_valid entry i slot = (page_type entry.valid (is_va_type entry.kind) (page_type (entry.valid && is_va_type entry.kind) (nat_lt i 512) slot).0).0

-- a slot has one of 512 numbers
pub slot_index : (entry : Entry) (i : ℕ) → is_slot entry i ≡ true → i < 512
slot_index entry i slot = ltb-true i 512 (page_type (entry.valid && is_va_type entry.kind) (nat_lt i 512) slot).1

-- the frame of a slot is no free one
pub slot_differs : (entries : List Entry) (f va i : ℕ) → (entry_at entries f).valid ≡ false → is_slot (entry_at entries va) i ≡ true → va ≢ f
slot_differs entries f va i free slot same =
    false≢true (sym free ∙ ap (λ g. (entry_at entries g).valid) (sym same) ∙ slot_valid (entry_at entries va) i slot)

-- a slot that holds something is a slot
pub some_slot : (entry : Entry) (bytes : List ℕ) (i k : ℕ) → slot_by entry bytes i ≡ Some k → is_slot entry i ≡ true
some_slot entry bytes i k e = by (is_slot entry i) (handle_in (number_at bytes (8 * i) 8)) e
  where
    by : (b : Bool) (o : Option ℕ) → (if b then o else None) ≡ Some k → b ≡ true
    by true o d = refl
    by false o d = absurd (cc)

-- and its frame is one of the page cache
pub slot_within : (entries : List Entry) (frames : Frames) (stamps : List Stamp) (handles : Handles) → IsSound entries frames stamps handles →
    (va i : ℕ) → is_slot (entry_at entries va) i ≡ true → va < length frames
slot_within entries frames stamps handles sound va i slot =
    let within = valid_within entries va (slot_valid (entry_at entries va) i slot) in let same = sound.each_frame in omega arith

-- ---- Fewer slots and pages

same_slots : (slots slots' : ℕ → ℕ → Option ℕ) → ((va i : ℕ) → slots' va i ≡ slots va i) → (va i : ℕ) → (slots' va i ≡ slots va i) ⊎ (slots' va i ≡ None)
same_slots slots slots' same va i = inl (same va i)

pub same_pages : (handles handles' : Handles) → handles'.sealed_pages ≡ handles.sealed_pages → (k : ℕ) → (sealed_page_at handles' k ≡ sealed_page_at handles k) ⊎ (sealed_page_at handles' k ≡ None)
same_pages handles handles' same k =
    inl (ap (λ pages. sealed_page_at (record { sealed_pages = pages; spare = 0 }) k) same)

module _ (entries : List Entry) (frames : Frames) (stamps : List Stamp) (handles : Handles) (sound : IsSound entries frames stamps handles) where
  in_frames : (f : ℕ) → f < length entries → f < length frames
  in_frames f within = let same = sound.each_frame in omega arith

  -- a frame's page is blocked, and stamped
  pub block_sound : (f : ℕ) (stamp : Stamp) → f < length entries →
      IsSound (set entries f (record (entry_at entries f) { blocked = true })) frames (set stamps f stamp) handles
  block_sound f stamp within =
      let blocked : Entry = record (entry_at entries f) { blocked = true } in
      record {
        each_frame = sound.each_frame ∙ sym (length-set entries f blocked);
        each_stamp = length-set stamps f stamp ∙ sound.each_stamp ∙ sym (length-set entries f blocked);
        versions =
            fewer (slot_in entries frames) (slot_in (set entries f blocked) frames) handles handles
            (same_slots _ _ (blocked_slot entries frames f within)) (same_pages handles handles refl)
            entries (set entries f blocked) sound.versions (omega arith)
            (λ va i p e none g.
            elim (eqb_tells g f) [
              | inl same ↦ ap (λ k. has_page (entry_at (set entries f blocked) k) p) same.1 ∙ ap (λ x. has_page x p) (entry_same entries f blocked within) ∙ none f
              | inr away ↦ ap (λ x. has_page x p) (entry_other entries f g blocked away.1) ∙ none g
            ]);
      }

  -- a frame is free
  pub release_sound : (f : ℕ) → f < length entries → IsSound (set entries f free_entry) frames stamps handles
  release_sound f within = record {
    each_frame = sound.each_frame ∙ sym (length-set entries f free_entry);
    each_stamp = sound.each_stamp ∙ sym (length-set entries f free_entry);
    versions =
        fewer (slot_in entries frames) (slot_in (set entries f free_entry) frames) handles handles
        (emptied entries frames frames f free_entry within (λ g other. refl) (λ i. refl)) (same_pages handles handles refl)
        entries (set entries f free_entry) sound.versions (omega arith)
        (λ va i p e none. no_frame_set entries f free_entry p within refl none);
  }

  -- sealed pages become fewer, and no handle is given
  pub handles_sound : (handles' : Handles) → length handles'.sealed_pages ≡ length handles.sealed_pages →
      ((k : ℕ) → (sealed_page_at handles' k ≡ sealed_page_at handles k) ⊎ (sealed_page_at handles' k ≡ None)) → IsSound entries frames stamps handles'
  handles_sound handles' count pages = record {
    each_frame = sound.each_frame;
    each_stamp = sound.each_stamp;
    versions =
        fewer (slot_in entries frames) (slot_in entries frames) handles handles' (λ va i. inl refl) pages
        entries entries sound.versions (omega arith) (λ va i p e none. none);
  }

  -- the bytes of a page are others
  pub frame_sound : (f : ℕ) (bytes : List ℕ) → is_of_page (entry_at entries f) ≡ true → IsSound entries (set frames f bytes) stamps handles
  frame_sound f bytes page = record {
    each_frame = length-set frames f bytes ∙ sound.each_frame;
    each_stamp = sound.each_stamp;
    versions =
        fewer (slot_in entries frames) (slot_in entries (set frames f bytes)) handles handles
        (same_slots _ _ (rewritten entries frames f bytes page)) (same_pages handles handles refl)
        entries entries sound.versions (omega arith) (λ va i p e none. none);
  }

  -- a free frame has other bytes, and an entry by which it has no slot that holds a version
  pub set_sound : (f : ℕ) (entry : Entry) (bytes : List ℕ) → f < length entries → ((i : ℕ) → slot_by entry bytes i ≡ None) →
      ((va i p : ℕ) → page_in (slot_in (set entries f entry) (set frames f bytes)) handles va i ≡ Some p → has_page entry p ≡ false) →
      IsSound (set entries f entry) (set frames f bytes) stamps handles
  set_sound f entry bytes within none other = record {
    each_frame = length-set frames f bytes ∙ sound.each_frame ∙ sym (length-set entries f entry);
    each_stamp = sound.each_stamp ∙ sym (length-set entries f entry);
    versions =
        fewer (slot_in entries frames) (slot_in (set entries f entry) (set frames f bytes)) handles handles
        (emptied entries frames (set frames f bytes) f entry within (λ g away. frame_other frames f g bytes away)
        (λ i. ap (λ b. slot_by entry b i) (frame_same frames f bytes (in_frames f within)) ∙ none i))
        (same_pages handles handles refl)
        entries (set entries f entry) sound.versions (omega arith)
        (λ va i p e no_frame. no_frame_set entries f entry p within (other va i p e) no_frame);
  }

  -- stamps do not matter
  pub stamp_sound : (f : ℕ) (stamp : Stamp) → IsSound entries frames (set stamps f stamp) handles
  stamp_sound f stamp = record {
    each_frame = sound.each_frame;
    each_stamp = length-set stamps f stamp ∙ sound.each_stamp;
    versions = sound.versions;
  }

  -- a page that is added is under no handle
  not_sealed : (slots : ℕ → ℕ → Option ℕ) (p : ℕ) → IsNotSealed handles p → (va i q : ℕ) → page_in slots handles va i ≡ Some q → p ≡ q → false ≡ true
  not_sealed slots p fresh va i q e same = (by (slots va i) (e ∙ ap Some (sym same)))
    where
      by : (o : Option ℕ) → option_map (λ (s : SealedPage). s.page) (sealed_in handles o) ≡ Some p → false ≡ true
      by None d = absurd (let wrong : None ≡ Some p = d in cc)
      by (Some k) d = absurd (fresh k d)

  -- a page is added
  pub add_sound : (f : ℕ) (entry : Entry) (bytes : List ℕ) → f < length entries → is_of_page entry ≡ true → IsNotSealed handles entry.page.0 →
      IsSound (set entries f entry) (set frames f bytes) stamps handles
  add_sound f entry bytes within page fresh =
      set_sound f entry bytes within (λ i. page_no_slot entry bytes i page)
      (λ va i p e. other_page entry p (not_sealed (slot_in (set entries f entry) (set frames f bytes)) entry.page.0 fresh va i p e))

-- an added page is one of the enclave, and the named one
pub added_of_page : (p : Page) (kind : PageType) (perm : Perm) → is_addressed kind ≡ true → is_of_page (added_entry p kind perm) ≡ true
added_of_page p Reg perm e = refl
added_of_page p Tcs perm e = refl
added_of_page p Secs perm e = absurd (cc)
added_of_page p Va perm e = absurd (cc)

pub added_page : (p : Page) (kind : PageType) (perm : Perm) → (added_entry p kind perm).page.0 ≡ p.0
added_page p Reg perm = refl
added_page p Tcs perm = refl
added_page p Secs perm = refl
added_page p Va perm = refl

-- ---- A VA page

pub zero_value : (n k m : ℕ) → le_value (take n (drop k (replicate m 0))) ≡ 0
zero_value zero k m = refl
zero_value (suc n) zero zero = refl
zero_value (suc n) (suc k) zero = refl
zero_value (suc n) zero (suc m) = ap (λ v. 0 + 256 * v) (zero_value n zero m)
zero_value (suc n) (suc k) (suc m) = zero_value (suc n) k m

if_same : {A : Type 0} (b : Bool) (x : A) → (if b then x else x) ≡ x
if_same true x = refl
if_same false x = refl

pub blank_slot : (m i : ℕ) → slot_by va_entry (replicate m 0) i ≡ None
blank_slot m i = ap (λ v. if is_slot va_entry i then handle_in v else None) (zero_value 8 (8 * i) m) ∙ if_same (is_slot va_entry i) None

-- ---- A page is loaded

pub some_in : (o : Option SealedPage) (blocked : Bool) (entry : Entry) → option_map (λ s. entry_of s blocked) o ≡ Some entry → (s : SealedPage) × ((o ≡ Some s) × (entry_of s blocked ≡ entry))
some_in None blocked entry e = absurd (let wrong : None ≡ Some entry = e in cc)
some_in (Some s) blocked entry e = (s, (refl, by e))
  where
    by : Some (entry_of s blocked) ≡ Some entry → entry_of s blocked ≡ entry
    by d = cc

module _ (entries : List Entry) (frames : Frames) (stamps : List Stamp) (handles : Handles) (sound : IsSound entries frames stamps handles)
    (f h va i : ℕ) (entry : Entry) (bytes slots : List ℕ) (stamp : Stamp) (within : f < length entries) (free : (entry_at entries f).valid ≡ false)
    (slot : slot_in entries frames va i ≡ Some h) (sealed : option_map (λ s. entry_of s entry.blocked) (sealed_page_at handles h) ≡ Some entry)
    (empty : number_at slots (8 * i) 8 ≡ 0) (others : (j : ℕ) → (j == i) ≡ false → number_at slots (8 * j) 8 ≡ number_at (frame_at frames va) (8 * j) 8) where
  has_slot : is_slot (entry_at entries va) i ≡ true
  has_slot = some_slot (entry_at entries va) (frame_at frames va) i h slot

  -- the VA page is another frame
  pub va_differs : va ≢ f
  va_differs = slot_differs entries f va i free has_slot

  pub va_within : va < length entries
  va_within = valid_within entries va (slot_valid (entry_at entries va) i has_slot)

  -- the page of the entry is that of the handle in the slot
  page_is : page_in (slot_in entries frames) handles va i ≡ Some entry.page.0
  page_is =
      let some = some_in (sealed_page_at handles h) entry.blocked entry sealed in
      ap (λ o. option_map (λ (s : SealedPage). s.page) (sealed_in handles o)) slot
      ∙ ap (option_map (λ (s : SealedPage). s.page)) some.1.0
      ∙ ap (λ (e : Entry). Some e.page.0) some.1.1

  of_page : is_of_page entry ≡ true
  of_page =
      let some = some_in (sealed_page_at handles h) entry.blocked entry sealed in
      subst (λ e. is_of_page e ≡ true) some.1.1 (sound.versions.addressed h some.0 some.1.0)

  abbrev Frames' : List (List ℕ)
  Frames' = set frames f bytes

  after_write : (wa j : ℕ) → ((wa ≡ va) × (j ≡ i) × (slot_in (set entries f entry) (set Frames' va slots) wa j ≡ None)) ⊎ (slot_in (set entries f entry) (set Frames' va slots) wa j ≡ slot_in (set entries f entry) Frames' wa j)
  after_write =
      rewritten_slot (set entries f entry) Frames' va i 0 slots
      (let a = va_within in let b = sound.each_frame in let c = length-set frames f bytes in omega arith)
      (ap (λ e. is_slot e i) (entry_other entries f va entry va_differs) ∙ has_slot) empty
      (λ j other. others j other ∙ sym (ap (λ b. number_at b (8 * j) 8) (frame_other frames f va bytes va_differs)))

  before_write : (wa j : ℕ) → (slot_in (set entries f entry) Frames' wa j ≡ slot_in entries frames wa j) ⊎ (slot_in (set entries f entry) Frames' wa j ≡ None)
  before_write =
      emptied entries frames Frames' f entry within (λ g away. frame_other frames f g bytes away)
      (λ j. page_no_slot entry (frame_at Frames' f) j of_page)

  slots_fewer : (wa j : ℕ) → (slot_in (set entries f entry) (set Frames' va slots) wa j ≡ slot_in entries frames wa j) ⊎ (slot_in (set entries f entry) (set Frames' va slots) wa j ≡ None)
  slots_fewer wa j =
      elim (after_write wa j) [
        | inl new ↦ inr new.2
        | inr same ↦ elim (before_write wa j) [
          | inl old ↦ inl (same ∙ old)
          | inr none ↦ inr (same ∙ none)
        ]
      ]

  emptied_slot : slot_in (set entries f entry) (set Frames' va slots) va i ≡ None
  emptied_slot =
      elim (after_write va i) [
        | inl new ↦ new.2
        | inr same ↦ by_bytes
      ]
    where
      by_bytes : slot_in (set entries f entry) (set Frames' va slots) va i ≡ None
      by_bytes =
          ap (λ b. slot_by (entry_at (set entries f entry) va) b i)
          (frame_same Frames' va slots (let a = va_within in let b = sound.each_frame in let c = length-set frames f bytes in omega arith))
          ∙ ap (λ v. if is_slot (entry_at (set entries f entry) va) i then handle_in v else None) empty
          ∙ if_same (is_slot (entry_at (set entries f entry) va) i) None

  -- no other slot names the page that is loaded
  other_pages : (wa j p : ℕ) → page_in (slot_in (set entries f entry) (set Frames' va slots)) handles wa j ≡ Some p → entry.page.0 ≡ p → false ≡ true
  other_pages wa j p e same =
      let was = page_was (slot_in entries frames) (slot_in (set entries f entry) (set Frames' va slots)) handles handles slots_fewer (same_pages handles handles refl) wa j p e in
      let here = sound.versions.apart wa j va i p was (page_is ∙ ap Some same) in
      let gone : page_in (slot_in (set entries f entry) (set Frames' va slots)) handles wa j ≡ None =
      ap (λ g. page_in (slot_in (set entries f entry) (set Frames' va slots)) handles g j) here.0
      ∙ ap (λ k. page_in (slot_in (set entries f entry) (set Frames' va slots)) handles va k) here.1
      ∙ ap (λ o. option_map (λ (s : SealedPage). s.page) (sealed_in handles o)) emptied_slot in
      absurd (let wrong : None ≡ Some p = sym gone ∙ e in cc)

  pub load_sound : IsSound (set entries f entry) (set Frames' va slots) (set stamps f stamp) handles
  load_sound = record {
    each_frame = length-set Frames' va slots ∙ length-set frames f bytes ∙ sound.each_frame ∙ sym (length-set entries f entry);
    each_stamp = length-set stamps f stamp ∙ sound.each_stamp ∙ sym (length-set entries f entry);
    versions =
        fewer (slot_in entries frames) (slot_in (set entries f entry) (set Frames' va slots)) handles handles slots_fewer (same_pages handles handles refl)
        entries (set entries f entry) sound.versions (omega arith)
        (λ wa j p e no_frame. no_frame_set entries f entry p within (other_page entry p (other_pages wa j p e)) no_frame);
  }

-- ---- A page is sealed

handle_back : (k : ℕ) → handle_in (version (Some k)) ≡ Some k
handle_back k =
    elim (eqb_tells (k + 1) 0) [
      | inl same ↦ absurd (let e = same.1 in omega arith)
      | inr other ↦ ap (λ b. if b then None else Some (k + 1 - 1)) other.0 ∙ ap Some (omega arith)
    ]

pub seal_sound : (entries : List Entry) (frames : Frames) (stamps : List Stamp) (handles handles' : Handles) → IsSound entries frames stamps handles → HasDistinctPages entries →
    (f va i : ℕ) (entry : Entry) (bytes slots : List ℕ) → entry ≡ entry_at entries f → is_of_page (entry_at entries f) ≡ true → is_slot (entry_at entries va) i ≡ true →
    ((k : ℕ) → sealed_page_at handles' k ≡ (if k == length handles.sealed_pages then Some (sealed_page_of entry bytes) else sealed_page_at handles k)) →
    length handles'.sealed_pages ≡ length handles.sealed_pages + 1 →
    number_at slots (8 * i) 8 ≡ version (Some (length handles.sealed_pages)) →
    ((j : ℕ) → (j == i) ≡ false → number_at slots (8 * j) 8 ≡ number_at (frame_at frames va) (8 * j) 8) →
    IsSound (set entries f free_entry) (set frames va slots) stamps handles'
seal_sound entries frames stamps handles handles' sound distinct f va i entry bytes slots is page slot put next versioned others =
    let within = valid_within entries f (page_type (entry_at entries f).valid (is_addressed (entry_at entries f).kind) page).0 in
    let va_in = valid_within entries va (slot_valid (entry_at entries va) i slot) in
    let frame_in : va < length frames = let same = sound.each_frame in omega arith in
    let of_page : is_of_page entry ≡ true = subst (λ e. is_of_page e ≡ true) (sym is) page in
    let held : has_page (entry_at entries f) entry.page.0 ≡ true = subst (λ e. has_page e entry.page.0 ≡ true) is (own_page entry of_page) in
    record {
      each_frame = length-set frames va slots ∙ sound.each_frame ∙ sym (length-set entries f free_entry);
      each_stamp = sound.each_stamp ∙ sym (length-set entries f free_entry);
      versions =
          written (slot_in entries frames) (slot_in (set entries f free_entry) (set frames va slots)) handles handles' entries (set entries f free_entry) va i f
          (sealed_page_of entry bytes) sound.versions
          (λ wa j.
          elim (emptied entries (set frames va slots) (set frames va slots) f free_entry within (λ g away. refl) (λ k. refl) wa j) [
            | inl kept ↦ elim (rewritten_slot entries frames va i (version (Some (length handles.sealed_pages))) slots frame_in slot versioned others wa j) [
              | inl new ↦ inl (new.0, new.1, kept ∙ new.2 ∙ handle_back (length handles.sealed_pages))
              | inr old ↦ inr (inl (kept ∙ old))
            ]
            | inr none ↦ inr (inr none)
          ])
          put next held (page_type entry.valid (is_addressed entry.kind) of_page).1
          (λ p none. no_frame_set entries f free_entry p within refl none)
          (λ g.
          elim (eqb_tells g f) [
            | inl same ↦ ap (λ k. has_page (entry_at (set entries f free_entry) k) entry.page.0) same.1 ∙ ap (λ x. has_page x entry.page.0) (entry_same entries f free_entry within)
            | inr away ↦ ap (λ x. has_page x entry.page.0) (entry_other entries f g free_entry away.1)
                ∙ not_true (has_page (entry_at entries g) entry.page.0) (λ h. absurd (away.1 (distinct g f entry.page.0 h held)))
          ]);
    }
