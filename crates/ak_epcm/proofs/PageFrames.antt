-- The frame that holds a page.
use Rattle.std.proofs.Common.{◌≡◌, ℕ, ◌<◌, Bool, true, false, ◌&&◌, ◌==◌, List, length, refl, sym, ◌∙◌, ap, inl, inr, arith}
use Rattle.std.proofs.lemmas.Bool.{cases_lt, eqb-true, and_parts}
use Rattle.std.proofs.lemmas.Bool.Decides.{nat_tests}
use Rattle.std.proofs.lemmas.List.Quantifiers.{position-Some}
use Rattle.std.proofs.lemmas.List.Sums.{passes_at_first, fails_before_first}
use Rattle.std.specs.Prelude.{Option, Some, None, nat_lt, if◌then◌else◌}
use Rattle.std.specs.List.{position_or_len}
use Rattle.ak_core.specs.declared.page.Entry.{Entry}
use Rattle.ak_epcm.specs.Entries.{entry_at, free_entry, is_of_page, has_page, frame_with, HasNoFrame, HasDistinctPages}
use Rattle.ak_epcm.proofs.EntryLists.{valid_in_range}

-- a frame that holds a page holds one of the enclave
pub has_page_of_page : (e : Entry) (p : ℕ) → has_page e p ≡ true → is_of_page e ≡ true
has_page_of_page e p h = (and_parts (is_of_page e) (e.page.0 == p) h).0

-- a frame that holds a page is one of the page cache
pub has_page_in_range : (entries : List Entry) (f p : ℕ) → has_page (entry_at entries f) p ≡ true → f < length entries
has_page_in_range entries f p h =
    let e = entry_at entries f in
    valid_in_range entries f (and_parts e.valid _ (has_page_of_page e p h)).0

position_is : (n l : ℕ) → n < l → (if nat_lt n l then Some n else None) ≡ Some n
position_is n l h = let t : nat_lt n l ≡ true = grind (arith, nat_tests) in rw t refl

-- the frame that holds the page is found
pub frame_with-has : (entries : List Entry) (f p : ℕ) → HasDistinctPages entries → has_page (entry_at entries f) p ≡ true → frame_with entries p ≡ Some f
frame_with-has entries f p distinct h =
    let P : Entry → Bool = λ e. has_page e p in
    let n = position_or_len P entries in
    let inside : f < length entries = has_page_in_range entries f p h in
    elim (cases_lt n (length entries)) [
      | inl lt ↦ position_is n (length entries) lt ∙ ap Some (distinct n f p (passes_at_first P entries free_entry lt) h)
      | inr ge ↦ let wrong : false ≡ true = sym (fails_before_first P entries f free_entry (omega arith)) ∙ h in cc
    ]

-- the frame that is found holds the page
pub frame_with-holds : (entries : List Entry) (f p : ℕ) → frame_with entries p ≡ Some f → (f < length entries) × (has_page (entry_at entries f) p ≡ true)
frame_with-holds entries f p is =
    let s = position-Some (λ e. has_page e p) entries f free_entry is in (s.0, s.1)

-- no frame holds the page
pub frame_with-none : (entries : List Entry) (p : ℕ) (o : Option ℕ) → frame_with entries p ≡ o → HasNoFrame entries p → o ≡ None
frame_with-none entries p None is none = refl
frame_with-none entries p (Some f) is none = let has = (frame_with-holds entries f p is).1 in let not = none f in cc

-- two pages are not in one frame
pub has_one : (e : Entry) (p q : ℕ) → has_page e p ≡ true → has_page e q ≡ true → q ≡ p
has_one e p q h k =
    sym (eqb-true e.page.0 q (and_parts (is_of_page e) (e.page.0 == q) k).1) ∙ eqb-true e.page.0 p (and_parts (is_of_page e) (e.page.0 == p) h).1
