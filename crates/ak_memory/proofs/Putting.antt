-- Bytes that were put into the frame of a page.
use Rattle.std.proofs.Math.Path.{fun_ext}
use Rattle.std.proofs.Common.{◌≡◌, ◌≢◌, ℕ, ◌+◌, ◌≤◌, ◌<◌, true, List, length, refl, sym, ◌∙◌, ap, subst, inl, inr, arith, length-append, length-drop}
use Rattle.std.proofs.lemmas.Bool.Decides.{eqb_tells}
use Rattle.std.proofs.lemmas.List.{length-take, take-append-le, take_all}
use Rattle.std.specs.Prelude.{Option, Some, None, slice_set, if◌then◌else◌}
use Rattle.ak_core.specs.Mem.{with_page, put_at}
use Rattle.ak_core.specs.declared.page.Entry.{Entry}
use Rattle.ak_epcm.specs.Entries.{entry_at, has_page, frame_with, HasDistinctPages}
use Rattle.ak_epcm.proofs.PageFrames.{frame_with-has, frame_with-holds, has_one}
use Rattle.ak_encls.specs.Enclave.{Enclave, frame_at}
use Rattle.ak_encls.proofs.SlotChanges.{frame_same, frame_other}
use Rattle.ak_memory.specs.Granting.{bytes_found, bytes_of, whole_page}

-- 4096 bytes are a whole page
pub whole_page-is : (bytes : List ℕ) → length bytes ≡ 4096 → whole_page bytes ≡ bytes
unfolding whole_page
whole_page-is bytes whole = take-append-le 4096 bytes _ (omega (arith, whole)) ∙ take_all 4096 bytes (omega (arith, whole))

-- the bytes of a page are those of its frame
pub bytes_in_frame : (frames : List (List ℕ)) (entries : List Entry) (f p : ℕ) → HasDistinctPages entries → has_page (entry_at entries f) p ≡ true
    → bytes_of frames entries p ≡ frame_at frames f
bytes_in_frame frames entries f p distinct has = ap (bytes_found frames) (frame_with-has entries f p distinct has)

-- those of the frame that was found
pub bytes_with : (frames : List (List ℕ)) (entries : List Entry) (f p : ℕ) → frame_with entries p ≡ Some f → length (frame_at frames f) ≡ 4096
    → whole_page (bytes_of frames entries p) ≡ frame_at frames f
bytes_with frames entries f p is whole = ap (λ o. whole_page (bytes_found frames o)) is ∙ whole_page-is (frame_at frames f) whole

found_set : (frames : List (List ℕ)) (entries : List Entry) (f p q : ℕ) (o : Option ℕ) (bytes : List ℕ) → frame_with entries q ≡ o
    → has_page (entry_at entries f) p ≡ true → q ≢ p → bytes_found (slice_set frames f bytes) o ≡ bytes_found frames o
found_set frames entries f p q None bytes is has other = refl
found_set frames entries f p q (Some g) bytes is has other =
    frame_other frames f g bytes
    (λ same. other (has_one (entry_at entries f) p q has (subst (λ (i : ℕ). has_page (entry_at entries i) q ≡ true) same (frame_with-holds entries g q is).1)))

page_set : (frames : List (List ℕ)) (entries : List Entry) (f p : ℕ) (bytes : List ℕ) → f < length frames → frame_with entries p ≡ Some f → length bytes ≡ 4096
    → (q : ℕ) → whole_page (bytes_of (slice_set frames f bytes) entries q) ≡ with_page (λ k. whole_page (bytes_of frames entries k)) p bytes q
page_set frames entries f p bytes within is whole q =
    elim (eqb_tells q p) [
      | inl same ↦ ap (λ k. whole_page (bytes_of (slice_set frames f bytes) entries k)) same.1
          ∙ ap (λ o. whole_page (bytes_found (slice_set frames f bytes) o)) is
          ∙ ap whole_page (frame_same frames f bytes within)
          ∙ whole_page-is bytes whole
          ∙ ap (λ b. if b then bytes else whole_page (bytes_of frames entries q)) (sym same.0)
      | inr other ↦ ap whole_page (found_set frames entries f p q (frame_with entries q) bytes refl (frame_with-holds entries f p is).1 other.1)
          ∙ ap (λ b. if b then bytes else whole_page (bytes_of frames entries q)) (sym other.0)
    ]

-- a page has the bytes that were put into its frame, and the others stay
pub bytes_set : (frames : List (List ℕ)) (entries : List Entry) (f p : ℕ) (bytes : List ℕ) → f < length frames → frame_with entries p ≡ Some f → length bytes ≡ 4096
    → (λ q. whole_page (bytes_of (slice_set frames f bytes) entries q)) ≡ with_page (λ q. whole_page (bytes_of frames entries q)) p bytes
bytes_set frames entries f p bytes within is whole = fun_ext (page_set frames entries f p bytes within is whole)

-- the same of an enclave of which a frame was changed
pub put_bytes_of : (old new : Enclave) (f p : ℕ) (bytes : List ℕ) → new ≡ record old { frames = slice_set old.frames f bytes } → f < length old.frames
    → frame_with old.entries p ≡ Some f → length bytes ≡ 4096
    → (λ q. whole_page (bytes_of new.frames new.entries q)) ≡ with_page (λ q. whole_page (bytes_of old.frames old.entries q)) p bytes
put_bytes_of old new f p bytes put within is whole =
    ap (λ (e : Enclave). λ q. whole_page (bytes_of e.frames e.entries q)) put ∙ bytes_set old.frames old.entries f p bytes within is whole

-- bytes in place of others
pub length-put_at : (bytes : List ℕ) (place : ℕ) (new : List ℕ) → place + length new ≤ length bytes → length (put_at bytes place new) ≡ length bytes
length-put_at bytes place new h = simp (length-append, length-take, length-drop) (omega arith)
