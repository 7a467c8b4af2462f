-- What is decoded is what the bytes begin with, and is decoded wherever they do.
use Rattle.std.proofs.Common.{◌≡◌, ℕ, ◌≤◌, List, [], ◌++◌, length, arith, refl, ap, sym, ◌∙◌, subst, length-append, append-nil}
use Rattle.std.specs.Prelude.{true, nat_lt}
use Rattle.std.specs.List.{list_all}
use Rattle.std.proofs.lemmas.List.{length-take-le, take_all, nil_from_length}
use Rattle.std.proofs.lemmas.List.Sums.{AllPass-from_list_all}
use Rattle.std.proofs.lemmas.Bool.{ltb-true}
use Rattle.ak_core.specs.declared.instruction.Instr.{Instr}
use Rattle.ak_core.specs.declared.instruction.Decoded.{Decoded}
use Rattle.ak_core.specs.declared.instruction.Decoded.TheVariants.{Whole, NeedMore, Illegal}
use Rattle.ak_model.specs.Flat.Encodings.{Row, no_fields, match_parts, decode, table}
use Rattle.ak_model.specs.Flat.Beginnings.{IsEncoding, BeginsWith, IsProperPrefix, BeginNone, Decodes}
use Rattle.ak_model.proofs.Flat.Decoding.{match_parts-take}
use Rattle.ak_model.proofs.Flat.AgreeingBytes.{agree-append, have_bytes, ending, ending_agrees, length-ending, ending_bytes}
use Rattle.ak_model.proofs.Flat.OneRow.{are_apart, all_at, one_row, AtRow, ShortOf, Found, found, fits_agrees, agrees_fits, whole_here, short_here, same_row, same_spelling}

-- ---- The table's rows

table_apart : are_apart table ≡ true
table_apart = refl

table_has_bytes : list_all (λ row. have_bytes row.parts) table ≡ true
table_has_bytes = refl

-- ---- Bytes that begin with an encoding are those that fit a row

at_begins : (bytes : List ℕ) (instr : Instr) (n : ℕ) → AtRow table bytes instr n → BeginsWith bytes instr n
at_begins bytes instr n a =
    let x = fits_agrees a.row bytes a.fields a.fits in
    let size = a.size in let whole = x.whole in let within : n ≤ length bytes = omega arith in
    record {
      row = a.place;
      within = within;
      encoding = record {
        row = a.row;
        listed = a.listed;
        fields = a.fields;
        fits = match_parts-take a.row.parts n bytes no_fields (omega arith) ∙ a.fits;
        size = length-take-le n bytes within ∙ sym a.size;
        spelled = a.spelled;
      };
    }

begins_at : (bytes : List ℕ) (instr : Instr) (n : ℕ) → BeginsWith bytes instr n → AtRow table bytes instr n
begins_at bytes instr n b =
    let e = b.encoding in
    let size : length e.row.parts ≡ n = sym e.size ∙ length-take-le n bytes b.within in
    record {
      place = b.row;
      row = e.row;
      listed = e.listed;
      fields = e.fields;
      fits = sym (match_parts-take e.row.parts n bytes no_fields (omega arith)) ∙ e.fits;
      size = size;
      spelled = e.spelled;
    }

-- all of the bytes are an encoding
all_begins : (i : ℕ) (bytes : List ℕ) (instr : Instr) → IsEncoding i bytes instr → BeginsWith bytes instr (length bytes)
all_begins i bytes instr e = record { row = i; within = omega arith; encoding = subst (λ xs. IsEncoding i xs instr) (sym (take_all (length bytes) bytes (omega arith))) e }

-- ---- Bytes that are short of a row are a proper prefix

short_prefix : (bytes : List ℕ) → ShortOf table bytes → IsProperPrefix bytes
short_prefix bytes s =
    let parts = s.row.parts in
    let h = all_at (λ row. have_bytes row.parts) table s.place s.row table_has_bytes s.listed in
    let short = s.short in
    let size = length-ending parts bytes (omega arith) in
    let all = length-append bytes (ending parts bytes) in
    let fit = agrees_fits parts (bytes ++ ending parts bytes) (ending_agrees parts bytes h s.agrees) (omega arith) in
    record {
      row = s.place;
      more = ending parts bytes;
      are_bytes = λ k d l. ltb-true _ _ (AllPass-from_list_all (λ v. nat_lt v 256) (ending parts bytes) (ending_bytes parts bytes h) k d l);
      some = omega arith;
      instr = s.row.spells fit.0;
      encoding = record { row = s.row; listed = s.listed; fields = fit.0; fits = fit.1; size = omega arith; spelled = refl };
    }

prefix_short : (bytes : List ℕ) → IsProperPrefix bytes → ShortOf table bytes
prefix_short bytes p =
    let e = p.encoding in let x = fits_agrees e.row (bytes ++ p.more) e.fields e.fits in
    let all = length-append bytes p.more in let some = p.some in let size = e.size in
    record { place = p.row; row = e.row; listed = e.listed; agrees = agree-append e.row.parts bytes p.more x.agrees; short = omega arith }

-- ---- The three together

by_found : (bytes : List ℕ) (d : Decoded) → Found table bytes d → Decodes bytes d
by_found bytes d f = record {
  whole = λ instr n. (
    λ e. at_begins bytes instr n (subst (Found table bytes) e f),
    λ b. whole_here table bytes d instr n table_apart f (begins_at bytes instr n b),
  );
  need_more = (
    λ e. short_prefix bytes (subst (Found table bytes) e f),
    λ p. short_here table bytes d table_apart f (prefix_short bytes p),
  );
  illegal = (λ e. none (subst (Found table bytes) e f), illegal_here d f);
}
  where
    none : Found table bytes Illegal → BeginNone bytes
    none off more instr n b =
        let a = begins_at (bytes ++ more) instr n b in
        let x = fits_agrees a.row (bytes ++ more) a.fields a.fits in
        let on = agree-append a.row.parts bytes more x.agrees in
        let out = off a.place a.row a.listed in cc

    illegal_here : (e : Decoded) → Found table bytes e → BeginNone bytes → e ≡ Illegal
    illegal_here (Whole instr n) g b = absurd (b [] instr n (subst (λ xs. BeginsWith xs instr n) (sym (append-nil bytes)) (at_begins bytes instr n g)))
    illegal_here NeedMore g b = let p = short_prefix bytes g in absurd (b p.more p.instr _ (all_begins p.row (bytes ++ p.more) p.instr p.encoding))
    illegal_here Illegal g b = refl

pub decoded_both_ways : (bytes : List ℕ) → Decodes bytes (decode bytes)
decoded_both_ways bytes = by_found bytes (decode bytes) (found table bytes)

-- ---- No encoding begins another

-- the same bytes, of the same row
one_encoding : (i j : ℕ) (bytes all more : List ℕ) (a b : Instr) → bytes ++ more ≡ all → i ≡ j → more ≡ [] → IsEncoding i bytes a → IsEncoding j all b → a ≡ b
one_encoding i j bytes all more a b whole same none e f =
    let bytes-same : all ≡ bytes = sym whole ∙ ap (λ xs. bytes ++ xs) none ∙ append-nil bytes in
    let fits = ap (λ xs. match_parts f.row.parts xs no_fields) (sym bytes-same) ∙ f.fits in
    let spelled = same_spelling e.row f.row bytes e.fields f.fields a b (length e.row.parts) (length f.row.parts) (same_row table i j e.row f.row same e.listed f.listed) e.fits fits refl refl e.spelled f.spelled in
    cc

pub no_encoding_begins_another : (i j : ℕ) (bytes more : List ℕ) (a b : Instr) → IsEncoding i bytes a → IsEncoding j (bytes ++ more) b → (i ≡ j) × (more ≡ []) × (a ≡ b)
no_encoding_begins_another i j bytes more a b e f =
    let x = fits_agrees e.row bytes e.fields e.fits in
    let y = fits_agrees f.row (bytes ++ more) f.fields f.fits in
    let same = one_row table i j e.row f.row bytes table_apart e.listed f.listed x.whole x.agrees (agree-append f.row.parts bytes more y.agrees) in
    let long = ap (λ (r : Row). length r.parts) (same_row table i j e.row f.row same e.listed f.listed) in
    let size = f.size ∙ sym long ∙ sym e.size in
    let none = nil_from_length more (omega (arith, length-append bytes more, size)) in
    (same, none, one_encoding i j bytes (bytes ++ more) more a b refl same none e f)
