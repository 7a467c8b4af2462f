-- The number that an encoding has is below 2^64, where its bytes are bytes.
use Rattle.std.proofs.Common.{◌≡◌, ℕ, ◌+◌, ◌*◌, ◌^◌, ◌<◌, ◌≤◌, List, [], ◌∷◌, arith, refl, ap, subst}
use Rattle.std.specs.Prelude.{Bool, true, false, Option, Some, None}
use Rattle.std.specs.Bool.{then_some}
use Rattle.std.proofs.lemmas.List.Elements.{All-head, All-tail}
use Rattle.std.proofs.Math.Nat.{mul-le-mul_right}
use Rattle.ak_core.specs.declared.instruction.Instr.{Instr}
use Rattle.ak_core.specs.declared.instruction.Instr.TheVariants.{MovImm}
use Rattle.ak_core.specs.declared.instruction.Decoded.{Decoded}
use Rattle.ak_core.specs.declared.instruction.Decoded.TheVariants.{Whole}
use Rattle.ak_model.specs.Flat.Encodings.{Part, Byte, W, WB, N, High, Plus, Both, Memory, Digit, Low, Fields, Row, Match, Fits, Short, Differs, no_fields, read_part, match_on, match_parts, decoded_as, decode_by, decode, table}
use Rattle.ak_relation.specs.Program.FlatFits.{AreBytes}

-- the most that a part adds to the number
abbrev most_of : Part → ℕ
most_of (Low place) = 255 * 256 ^ place
most_of _ = 0

-- and all parts
abbrev most : List Part → ℕ
most [] = 0
most (part ∷ parts) = most_of part + most parts

then_adds : (t : Bool) (fields out : Fields) → then_some t fields ≡ Some out → fields.number ≡ out.number
then_adds true fields out e = let same : fields ≡ out = cc in ap (λ f. f.number) same
then_adds false fields out e = absurd (cc)

read_adds : (part : Part) (v : ℕ) (fields out : Fields) → v < 256 → read_part part v fields ≡ Some out → out.number ≤ fields.number + most_of part
read_adds (Byte value) v fields out lt e = let s = then_adds _ _ out e in omega arith
read_adds W v fields out lt e = let s = then_adds _ _ out e in omega arith
read_adds WB v fields out lt e = let s = then_adds _ _ out e in omega arith
read_adds N v fields out lt e = let s = then_adds _ _ out e in omega arith
read_adds High v fields out lt e = let s = then_adds _ _ out e in omega arith
read_adds (Plus opcode) v fields out lt e = let s = then_adds _ _ out e in omega arith
read_adds Both v fields out lt e = let s = then_adds _ _ out e in omega arith
read_adds Memory v fields out lt e = let s = then_adds _ _ out e in omega arith
read_adds (Digit value) v fields out lt e = let s = then_adds _ _ out e in omega arith
read_adds (Low place) v fields out lt e =
    let s : fields.number + v * 256 ^ place ≡ out.number = then_adds true (record fields { number = fields.number + v * 256 ^ place }) out e in
    let m : v * 256 ^ place ≤ 255 * 256 ^ place = mul-le-mul_right (256 ^ place) (omega arith) in
    omega arith

on_adds : (o : Option Fields) (part : Part) (parts : List Part) (v : ℕ) (bytes : List ℕ) (fields out : Fields) → read_part part v fields ≡ o → v < 256 →
    match_on o (match_parts parts bytes) ≡ Fits out → ((next : Fields) → match_parts parts bytes next ≡ Fits out → out.number ≤ next.number + most parts) →
    out.number ≤ fields.number + most (part ∷ parts)
on_adds None part parts v bytes fields out d lt e later = absurd (cc)
on_adds (Some next) part parts v bytes fields out d lt e later =
    let first = read_adds part v fields next lt d in let rest = later next e in omega arith

match_adds : (parts : List Part) (bytes : List ℕ) (fields out : Fields) → AreBytes bytes → match_parts parts bytes fields ≡ Fits out → out.number ≤ fields.number + most parts
match_adds [] bytes fields out h e = let same : fields ≡ out = cc in let n : fields.number ≡ out.number = ap (λ f. f.number) same in omega arith
match_adds (part ∷ parts) [] fields out h e = absurd (cc)
match_adds (part ∷ parts) (v ∷ bytes) fields out h e =
    on_adds (read_part part v fields) part parts v bytes fields out refl (All-head (λ x. x < 256) v bytes h) e
    (λ next d. match_adds parts bytes next out (All-tail (λ x. x < 256) v bytes h) d)

-- ---- Rows

-- the number that goes into a register is one of 64 bits
abbrev pub ImmediateFits : Instr → Type 0
ImmediateFits (MovImm reg imm) = imm < 2 ^ 64
ImmediateFits _ = Unit {0}

-- what each row spells has one
abbrev EachFits : List Row → Type 0
EachFits [] = Unit {0}
EachFits (row ∷ rows) = ((fields : Fields) → fields.number ≤ most row.parts → ImmediateFits (row.spells fields)) × EachFits rows

row_fits : (row : Row) (m : Match) (bytes : List ℕ) (others : Decoded) (instr : Instr) (size : ℕ) → AreBytes bytes → match_parts row.parts bytes no_fields ≡ m →
    ((fields : Fields) → fields.number ≤ most row.parts → ImmediateFits (row.spells fields)) → decoded_as m row others ≡ Whole instr size →
    (others ≡ Whole instr size → ImmediateFits instr) → ImmediateFits instr
row_fits row (Fits fields) bytes others instr size b e spells w later =
    let same : row.spells fields ≡ instr = cc in
    let n = match_adds row.parts bytes no_fields fields b e in
    subst ImmediateFits same (spells fields (omega arith))
row_fits row Short bytes others instr size b e spells w later = absurd (cc)
row_fits row Differs bytes others instr size b e spells w later = later w

by_rows : (rows : List Row) (bytes : List ℕ) (instr : Instr) (size : ℕ) → AreBytes bytes → EachFits rows → decode_by rows bytes ≡ Whole instr size → ImmediateFits instr
by_rows [] bytes instr size b h w = absurd (cc)
by_rows (row ∷ rows) bytes instr size b h w =
    row_fits row (match_parts row.parts bytes no_fields) bytes (decode_by rows bytes) instr size b refl h.0 w (by_rows rows bytes instr size b h.1)

each_fits : EachFits table
each_fits =
    (λ f n. omega arith, (λ f n. tt, (λ f n. tt, (λ f n. tt, (λ f n. tt, (λ f n. tt, (λ f n. tt, (λ f n. tt, (λ f n. tt, (λ f n. tt, (λ f n. tt, (λ f n. tt, (λ f n. tt, (λ f n. tt, (λ f n. tt, (λ f n. tt, (λ f n. tt, (λ f n. tt, (λ f n. tt, (λ f n. tt, (λ f n. tt, (λ f n. tt, (λ f n. tt, (λ f n. tt, (λ f n. tt, (λ f n. tt, (λ f n. tt, (λ f n. tt, (λ f n. tt, (λ f n. tt, (λ f n. tt, (λ f n. tt, (λ f n. tt, (λ f n. tt, (λ f n. tt, (λ f n. tt, tt))))))))))))))))))))))))))))))))))))

-- so what bytes spell has one
pub decode-fits : (bytes : List ℕ) (instr : Instr) (size : ℕ) → AreBytes bytes → decode bytes ≡ Whole instr size → ImmediateFits instr
decode-fits bytes instr size b w = by_rows table bytes instr size b each_fits w
