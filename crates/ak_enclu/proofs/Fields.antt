-- Numbers in the bytes of a TCS.
use Rattle.std.proofs.Common.{◌≡◌, ℕ, zero, suc, ◌+◌, ◌<◌, ◌≤◌, Bool, true, List, [], ◌∷◌, ◌++◌, length, take, drop, set, refl, ap, sym, ◌∙◌, subst, arith, length-drop, length-append, length-set}
use Rattle.std.proofs.lemmas.List.{drop_all, take_all, drop_at, drop-drop, append-nil, append_assoc, take-take, length-take-le}
use Rattle.std.specs.Prelude.{◌||◌}
use borrow.Rule.Slice.PartMut.{put_mid}
use Rattle.byteorder.specs.Endian.{little_bytes, little_number}
use Rattle.ak_model.specs.Flat.Instructions.{le_bytes, le_value}
use Rattle.ak_ssa.proofs.Words.{number, bytes-4}
use Rattle.ak_ssa.proofs.RegistersReturn.{value_back}
use Rattle.ak_ssa.specs.declared.cause.Why.{Why}
use Rattle.ak_ssa.specs.declared.cause.Why.TheVariants.{Interrupt, Vector, PageFault}
use Rattle.ak_relation.specs.Bytes.Pages.{flag_number, IsTcs}
use Rattle.ak_enclu.specs.TcsBytes.{saved_of, with_saved, with_pending, refuses, after_exit}

-- CSSA as it is read
pub saved_read : (bytes : List ℕ) → little_number 4 (take 4072 (drop 24 bytes)) ≡ saved_of bytes
saved_read bytes = number 4 (take 4072 (drop 24 bytes)) ∙ ap le_value (take-take 4 4072 (drop 24 bytes) (omega arith))

-- CSSA as it is written
pub saved_written : (bytes new : List ℕ) (saved : ℕ) → length bytes ≡ 4096 → new ≡ little_bytes 4 saved ++ drop 4 (take 4072 (drop 24 bytes))
    → put_mid 24 4072 bytes new ≡ with_saved saved bytes
saved_written bytes new saved whole is =
    let z = drop 24 bytes in
    let few : length z ≤ 4072 = omega (arith, length-drop 24 bytes, whole) in
    ap (λ l. take 24 bytes ++ (l ++ drop 4072 z)) is
    ∙ ap (λ l. take 24 bytes ++ l) (append_assoc (little_bytes 4 saved) (drop 4 (take 4072 z)) (drop 4072 z))
    ∙ ap (λ l. take 24 bytes ++ (little_bytes 4 saved ++ (drop 4 (take 4072 z) ++ l))) (drop_all 4072 z few)
    ∙ ap (λ l. take 24 bytes ++ (little_bytes 4 saved ++ l)) (append-nil (drop 4 (take 4072 z)))
    ∙ ap (λ l. take 24 bytes ++ (little_bytes 4 saved ++ drop 4 l)) (take_all 4072 z few)
    ∙ ap (λ l. take 24 bytes ++ (little_bytes 4 saved ++ l)) (drop-drop 4 24 bytes)
    ∙ ap (λ l. take 24 bytes ++ (l ++ drop 28 bytes)) (bytes-4 saved)

-- ---- Fields that are read back

before_take : (n i : ℕ) (xs : List ℕ) (v : ℕ) → n ≤ i → take n (set xs i v) ≡ take n xs
before_take zero i xs v le = refl
before_take (suc n) zero xs v le = absurd (omega arith)
before_take (suc n) (suc i) [] v le = refl
before_take (suc n) (suc i) (x ∷ xs) v le = ap (λ l. x ∷ l) (before_take n i xs v (omega arith))

-- a part before a place that changes
before_set : (k n i : ℕ) (xs : List ℕ) (v : ℕ) → k + n ≤ i → take n (drop k (set xs i v)) ≡ take n (drop k xs)
before_set zero n i xs v le = before_take n i xs v (omega arith)
before_set (suc k) n zero xs v le = absurd (omega arith)
before_set (suc k) n (suc i) [] v le = refl
before_set (suc k) n (suc i) (x ∷ xs) v le = before_set k n i xs v (omega arith)

-- the place itself
at_set : (i : ℕ) (xs : List ℕ) (v : ℕ) → i < length xs → take 1 (drop i (set xs i v)) ≡ v ∷ []
at_set i [] v lt = absurd (omega arith)
at_set zero (x ∷ xs) v lt = refl
at_set (suc i) (x ∷ xs) v lt = at_set i xs v (omega arith)

one_byte : (v : ℕ) → le_value (v ∷ []) ≡ v
one_byte v = omega arith

-- a TCS with another flag
pub flagged_by : (saved : ℕ) (flag : Bool) (bytes : List ℕ) → length bytes ≡ 4096 → saved_of bytes ≡ saved → IsTcs saved flag (with_pending flag bytes)
flagged_by saved flag bytes whole is = record {
  saved_is = ap le_value (before_set 24 4 72 bytes (flag_number flag) (omega arith)) ∙ is;
  pending_is = ap le_value (at_set 72 bytes (flag_number flag) (omega (arith, whole))) ∙ one_byte (flag_number flag);
}

pub flagged : (saved : ℕ) (pending flag : Bool) (bytes : List ℕ) → length bytes ≡ 4096 → IsTcs saved pending bytes → IsTcs saved flag (with_pending flag bytes)
flagged saved pending flag bytes whole h = flagged_by saved flag bytes whole h.saved_is

pub flagged_size : (flag : Bool) (bytes : List ℕ) → length bytes ≡ 4096 → length (with_pending flag bytes) ≡ 4096
flagged_size flag bytes whole = length-set bytes 72 (flag_number flag) ∙ whole

-- what follows 24 bytes of a TCS with another CSSA
after_field : (bytes : List ℕ) (saved : ℕ) → length bytes ≡ 4096 → drop 24 (with_saved saved bytes) ≡ le_bytes 4 saved ++ drop 28 bytes
after_field bytes saved whole =
    drop_at (take 24 bytes) (le_bytes 4 saved ++ drop 28 bytes) 24 (length-take-le 24 bytes (omega (arith, whole)))

-- a TCS with another CSSA
pub counted : (saved below : ℕ) (pending : Bool) (bytes : List ℕ) → length bytes ≡ 4096 → below < 4294967296 → IsTcs saved pending bytes
    → IsTcs below pending (with_saved below bytes)
counted saved below pending bytes whole small h = record {
  saved_is = ap (λ l. le_value (take 4 l)) (after_field bytes below whole) ∙ value_back 4 below (omega (arith, small));
  pending_is =
      ap (λ l. le_value (take 1 l)) (sym (drop-drop 48 24 (with_saved below bytes)))
      ∙ ap (λ l. le_value (take 1 (drop 48 l))) (after_field bytes below whole)
      ∙ ap (λ l. le_value (take 1 l)) (drop-drop 44 28 bytes)
      ∙ h.pending_is;
}

pub counted_size : (saved : ℕ) (bytes : List ℕ) → length bytes ≡ 4096 → length (with_saved saved bytes) ≡ 4096
counted_size saved bytes whole =
    length-append (take 24 bytes) (le_bytes 4 saved ++ drop 28 bytes)
    ∙ omega (arith, length-take-le 24 bytes (omega (arith, whole)), length-drop 28 bytes, whole)

-- a TCS after an asynchronous exit
pub exited : (saved : ℕ) (pending : Bool) (bytes : List ℕ) (why : Why) → length bytes ≡ 4096 → saved ≤ 2 → IsTcs saved pending bytes
    → IsTcs (saved + 1) (refuses why || pending) (after_exit why bytes)
exited saved pending bytes why whole few h = by_why why
  where
    one_more : IsTcs (saved + 1) pending (with_saved (saved_of bytes + 1) bytes)
    one_more = subst (λ k. IsTcs (saved + 1) pending (with_saved k bytes)) (ap (λ k. k + 1) (sym h.saved_is)) (counted saved (saved + 1) pending bytes whole (omega arith) h)

    refused : IsTcs (saved + 1) true (with_pending true (with_saved (saved_of bytes + 1) bytes))
    refused = flagged (saved + 1) pending true (with_saved (saved_of bytes + 1) bytes) (counted_size (saved_of bytes + 1) bytes whole) one_more

    by_why : (w : Why) → IsTcs (saved + 1) (refuses w || pending) (after_exit w bytes)
    by_why Interrupt = one_more
    by_why (Vector v) = refused
    by_why (PageFault address kind) = refused

pub exited_size : (bytes : List ℕ) (why : Why) → length bytes ≡ 4096 → length (after_exit why bytes) ≡ 4096
exited_size bytes why whole = by_why why
  where
    one_more : length (with_saved (saved_of bytes + 1) bytes) ≡ 4096
    one_more = counted_size (saved_of bytes + 1) bytes whole

    by_why : (w : Why) → length (after_exit w bytes) ≡ 4096
    by_why Interrupt = one_more
    by_why (Vector v) = flagged_size true _ one_more
    by_why (PageFault address kind) = flagged_size true _ one_more
