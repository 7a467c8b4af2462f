-- What is known of decoding by any rows: how many bytes it reads, and what each row spells.
use Rattle.std.proofs.Common.{◌≡◌, ℕ, zero, suc, ◌+◌, ◌*◌, ◌^◌, ◌<◌, ◌≤◌, List, [], ◌∷◌, length, take, arith, refl, ap, ◌∙◌, subst}
use Rattle.std.specs.Prelude.{Bool, true, false, Option, Some, None, nat_le}
use Rattle.std.specs.List.{list_all}
use Rattle.std.specs.Bool.{then_some}
use Rattle.std.proofs.lemmas.Bool.{and_parts, leb-true}
use Rattle.ak_core.specs.declared.instruction.Instr.{Instr}
use Rattle.ak_core.specs.declared.instruction.Decoded.{Decoded}
use Rattle.ak_core.specs.declared.instruction.Decoded.TheVariants.{Whole}
use Rattle.ak_model.specs.Flat.Encodings.{Part, Byte, W, WB, N, High, Plus, Both, Memory, Digit, Low, with_operands, with_prefix, Fields, Row, Match, Fits, Short, Differs, no_fields, read_part, match_on, match_parts, decoded_as, decode_by, decode, table}
use Rattle.ak_model.specs.Flat.Instructions.{HasRegisters}

-- ---- Decoding reads no more bytes than the longest row has parts

on_more : (o : Option Fields) (parts : List Part) (n : ℕ) (bytes : List ℕ) → ((fields : Fields) → match_parts parts (take n bytes) fields ≡ match_parts parts bytes fields) → match_on o (match_parts parts (take n bytes)) ≡ match_on o (match_parts parts bytes)
on_more None parts n bytes h = refl
on_more (Some fields) parts n bytes h = h fields

-- bytes past the last part don't matter
pub match_parts-take : (parts : List Part) (n : ℕ) (bytes : List ℕ) (fields : Fields) → length parts ≤ n → match_parts parts (take n bytes) fields ≡ match_parts parts bytes fields
match_parts-take [] n bytes fields h = refl
match_parts-take (part ∷ parts) zero bytes fields h = absurd (omega arith)
match_parts-take (part ∷ parts) (suc n) [] fields h = refl
match_parts-take (part ∷ parts) (suc n) (v ∷ bytes) fields h =
    on_more (read_part part v fields) parts n bytes (λ f. match_parts-take parts n bytes f (omega arith))

-- no row has more than n parts
abbrev pub are_short : ℕ → List Row → Bool
are_short n rows = list_all (λ row. nat_le (length row.parts) n) rows

-- so many bytes tell what all of them begin with
pub decode_by-take : (rows : List Row) (n : ℕ) (bytes : List ℕ) → are_short n rows ≡ true → decode_by rows (take n bytes) ≡ decode_by rows bytes
decode_by-take [] n bytes h = refl
decode_by-take (row ∷ rows) n bytes h =
    let both = and_parts (nat_le (length row.parts) n) (are_short n rows) h in
    ap (λ m. decoded_as m row (decode_by rows (take n bytes))) (match_parts-take row.parts n bytes no_fields (leb-true _ _ both.0))
    ∙ ap (decoded_as (match_parts row.parts bytes no_fields) row) (decode_by-take rows n bytes both.1)

-- ---- A whole instruction is there

on_length : (o : Option Fields) (parts : List Part) (bytes : List ℕ) (out : Fields) → match_on o (match_parts parts bytes) ≡ Fits out → ((fields : Fields) → match_parts parts bytes fields ≡ Fits out → length parts ≤ length bytes) → length parts ≤ length bytes
on_length None parts bytes out e h = absurd (cc)
on_length (Some fields) parts bytes out e h = h fields e

fits_length : (parts : List Part) (bytes : List ℕ) (fields out : Fields) → match_parts parts bytes fields ≡ Fits out → length parts ≤ length bytes
fits_length [] bytes fields out e = omega arith
fits_length (part ∷ parts) [] fields out e = absurd (cc)
fits_length (part ∷ parts) (v ∷ bytes) fields out e =
    let less = on_length (read_part part v fields) parts bytes out e (λ f k. fits_length parts bytes f out k) in omega arith

whole_by : (row : Row) (m : Match) (others : Decoded) (bytes : List ℕ) (instr : Instr) (n : ℕ) → match_parts row.parts bytes no_fields ≡ m → decoded_as m row others ≡ Whole instr n → (others ≡ Whole instr n → n ≤ length bytes) → n ≤ length bytes
whole_by row (Fits fields) others bytes instr n e w h =
    let size : length row.parts ≡ n = cc in let less = fits_length row.parts bytes no_fields fields e in omega arith
whole_by row Short others bytes instr n e w h = absurd (cc)
whole_by row Differs others bytes instr n e w h = h w

-- a whole instruction is no longer than the bytes
pub decode_by-length : (rows : List Row) (bytes : List ℕ) (instr : Instr) (n : ℕ) → decode_by rows bytes ≡ Whole instr n → n ≤ length bytes
decode_by-length [] bytes instr n e = absurd (cc)
decode_by-length (row ∷ rows) bytes instr n e =
    whole_by row (match_parts row.parts bytes no_fields) (decode_by rows bytes) bytes instr n refl e (decode_by-length rows bytes instr n)

-- ---- The registers that an encoding names are below 16

-- the prefix's bits are bits, and the operands are registers
pub record FieldsFine (fields : Fields) : Type 0 where
  pub r : fields.r < 2
  pub b : fields.b < 2
  pub reg : fields.reg < 16
  pub rm : fields.rm < 16

then_fine : (t : Bool) (fields out : Fields) → FieldsFine fields → then_some t fields ≡ Some out → FieldsFine out
then_fine true fields out h e = let same : fields ≡ out = cc in subst FieldsFine same h
then_fine false fields out h e = absurd (cc)

operands_fine : (v : ℕ) (fields : Fields) → FieldsFine fields → FieldsFine (with_operands v fields)
operands_fine v fields h =
    let r = h.r in let b = h.b in
    record { r = h.r; b = h.b; reg = omega arith; rm = omega arith }

prefix_fine : (v : ℕ) (fields : Fields) → FieldsFine fields → FieldsFine (with_prefix v fields)
prefix_fine v fields h = record { r = omega arith; b = omega arith; reg = h.reg; rm = h.rm }

read_fine : (part : Part) (v : ℕ) (fields out : Fields) → FieldsFine fields → read_part part v fields ≡ Some out → FieldsFine out
read_fine (Byte value) v fields out h e = then_fine _ fields out h e
read_fine W v fields out h e = then_fine _ _ out (prefix_fine v fields h) e
read_fine WB v fields out h e = then_fine _ _ out (prefix_fine v fields h) e
read_fine N v fields out h e = then_fine _ _ out (prefix_fine v fields h) e
read_fine High v fields out h e = then_fine _ _ out (record { r = h.r; b = omega arith; reg = h.reg; rm = h.rm }) e
read_fine (Plus opcode) v fields out h e = then_fine _ _ out (let b = h.b in record { r = h.r; b = h.b; reg = omega arith; rm = h.rm }) e
read_fine Both v fields out h e = then_fine _ _ out (operands_fine v fields h) e
read_fine Memory v fields out h e = then_fine _ _ out (operands_fine v fields h) e
read_fine (Digit value) v fields out h e = then_fine _ _ out (operands_fine v fields h) e
read_fine (Low place) v fields out h e = then_fine true (record fields { number = fields.number + v * 256 ^ place }) out (record { r = h.r; b = h.b; reg = h.reg; rm = h.rm }) e

on_fine : (o : Option Fields) (part : Part) (parts : List Part) (v : ℕ) (bytes : List ℕ) (fields out : Fields) → read_part part v fields ≡ o → FieldsFine fields → match_on o (match_parts parts bytes) ≡ Fits out → ((next : Fields) → FieldsFine next → match_parts parts bytes next ≡ Fits out → FieldsFine out) → FieldsFine out
on_fine None part parts v bytes fields out d h e later = absurd (cc)
on_fine (Some next) part parts v bytes fields out d h e later = later next (read_fine part v fields next h d) e

match_fine : (parts : List Part) (bytes : List ℕ) (fields out : Fields) → FieldsFine fields → match_parts parts bytes fields ≡ Fits out → FieldsFine out
match_fine [] bytes fields out h e = let same : fields ≡ out = cc in subst FieldsFine same h
match_fine (part ∷ parts) [] fields out h e = absurd (cc)
match_fine (part ∷ parts) (v ∷ bytes) fields out h e =
    on_fine (read_part part v fields) part parts v bytes fields out refl h e (λ next k d. match_fine parts bytes next out k d)

none_fine : FieldsFine no_fields
none_fine = record { r = omega arith; b = omega arith; reg = omega arith; rm = omega arith }

-- what each row spells has the property
abbrev pub EachRow : (Instr → Type 0) → List Row → Type 0
EachRow P [] = Unit {0}
EachRow P (row ∷ rows) = ((fields : Fields) → FieldsFine fields → P (row.spells fields)) × EachRow P rows

row_spells : (P : Instr → Type 0) (row : Row) (m : Match) (bytes : List ℕ) (others : Decoded) (instr : Instr) (size : ℕ) → match_parts row.parts bytes no_fields ≡ m → ((fields : Fields) → FieldsFine fields → P (row.spells fields)) → decoded_as m row others ≡ Whole instr size → (others ≡ Whole instr size → P instr) → P instr
row_spells P row (Fits fields) bytes others instr size e spells w later =
    let same : row.spells fields ≡ instr = cc in subst P same (spells fields (match_fine row.parts bytes no_fields fields none_fine e))
row_spells P row Short bytes others instr size e spells w later = absurd (cc)
row_spells P row Differs bytes others instr size e spells w later = later w

-- so what is decoded has it
pub decode_by-each : (P : Instr → Type 0) (rows : List Row) (bytes : List ℕ) (instr : Instr) (size : ℕ) → EachRow P rows → decode_by rows bytes ≡ Whole instr size → P instr
decode_by-each P [] bytes instr size h w = absurd (cc)
decode_by-each P (row ∷ rows) bytes instr size h w =
    row_spells P row (match_parts row.parts bytes no_fields) bytes (decode_by rows bytes) instr size refl h.0 w
    (decode_by-each P rows bytes instr size h.1)

size_by : (row : Row) (m : Match) (others : Decoded) (instr : Instr) (n size : ℕ) → length row.parts ≤ n → decoded_as m row others ≡ Whole instr size → (others ≡ Whole instr size → size ≤ n) → size ≤ n
size_by row (Fits fields) others instr n size short w later = let same : length row.parts ≡ size = cc in omega arith
size_by row Short others instr n size short w later = absurd (cc)
size_by row Differs others instr n size short w later = later w

-- an instruction has no more bytes than the longest row has parts
pub decode_by-size : (rows : List Row) (n : ℕ) (bytes : List ℕ) (instr : Instr) (size : ℕ) → are_short n rows ≡ true → decode_by rows bytes ≡ Whole instr size → size ≤ n
decode_by-size [] n bytes instr size h w = absurd (cc)
decode_by-size (row ∷ rows) n bytes instr size h w =
    let both = and_parts (nat_le (length row.parts) n) (are_short n rows) h in
    size_by row (match_parts row.parts bytes no_fields) (decode_by rows bytes) instr n size (leb-true _ _ both.0) w
    (decode_by-size rows n bytes instr size both.1)

-- ---- The rows of the table

-- ten bytes are enough
pub decode-take : (bytes : List ℕ) → decode (take 10 bytes) ≡ decode bytes
decode-take bytes = decode_by-take table 10 bytes refl

pub decode-length : (bytes : List ℕ) (instr : Instr) (n : ℕ) → decode bytes ≡ Whole instr n → n ≤ length bytes
decode-length bytes instr n w = decode_by-length table bytes instr n w

pub decode-size : (bytes : List ℕ) (instr : Instr) (n : ℕ) → decode bytes ≡ Whole instr n → n ≤ 10
decode-size bytes instr n w = decode_by-size table 10 bytes instr n refl w

each_has : EachRow HasRegisters table
each_has =
    (λ f h. h.reg, (λ f h. (h.rm, h.reg), (λ f h. (h.rm, h.reg), (λ f h. (h.rm, h.reg), (λ f h. (h.rm, h.reg), (λ f h. (h.rm, h.reg), (λ f h. (h.rm, h.reg), (λ f h. (h.rm, h.reg), (λ f h. (h.rm, h.reg), (λ f h. (h.rm, h.reg), (λ f h. (h.rm, h.reg), (λ f h. (h.rm, h.reg), (λ f h. (h.rm, h.reg), (λ f h. (h.rm, h.reg), (λ f h. (h.rm, h.reg), (λ f h. h.rm, (λ f h. h.rm, (λ f h. h.rm, (λ f h. tt, (λ f h. tt, (λ f h. tt, (λ f h. tt, (λ f h. tt, (λ f h. tt, (λ f h. tt, (λ f h. tt, (λ f h. tt, (λ f h. tt, (λ f h. tt, (λ f h. h.reg, (λ f h. h.reg, (λ f h. h.reg, (λ f h. h.reg, (λ f h. tt, (λ f h. tt, (λ f h. tt, tt))))))))))))))))))))))))))))))))))))

pub decode-registers : (bytes : List ℕ) (instr : Instr) (n : ℕ) → decode bytes ≡ Whole instr n → HasRegisters instr
decode-registers bytes instr n w = decode_by-each HasRegisters table bytes instr n each_has w
