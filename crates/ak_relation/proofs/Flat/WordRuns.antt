-- Laws of flat runs: each state has registers of 64 bits and bytes, where the image is one of bytes and the values returned are of
-- 64 bits.
use Rattle.std.proofs.Common.{◌≡◌, ℕ, zero, suc, ◌+◌, ◌-◌, ◌*◌, ◌%◌, ◌^◌, ◌<◌, List, [], ◌∷◌, ◌++◌, length, take, drop, arith, refl, subst, inl, inr}
use Rattle.std.proofs.lemmas.Bool.{and_parts, leb-true}
use Rattle.std.proofs.lemmas.List.Elements.{All-append, All-take, All-drop, All-head, All-tail}
use Rattle.std.specs.Prelude.{Bool, true, false, if◌then◌else◌, Option, Some, None, nat_lt, nat_le, replicate}
use Rattle.std.specs.List.{list_any}
use Rattle.ak_core.specs.Layout.{Layout, IsValid}
use Rattle.ak_core.specs.Mem.{Access, access_to}
use Rattle.ak_core.specs.declared.page.Kind.{Kind}
use Rattle.ak_core.specs.declared.page.Kind.TheVariants.{Exec}
use Rattle.ak_core.specs.declared.instruction.Instr.{Instr}
use Rattle.ak_core.specs.declared.instruction.Decoded.{Decoded}
use Rattle.ak_core.specs.declared.instruction.Decoded.TheVariants.{Whole, NeedMore, Illegal}
use Rattle.ak_model.specs.Paging.Pages.{pages}
use Rattle.ak_model.specs.Flat.Instructions.{Plan, RaisesVector, Computes, Reads, Writes, CallsOut, plan, le_value, rax}
use Rattle.ak_model.specs.Flat.Encodings.{decode}
use Rattle.ak_model.specs.Flat.FlatRuns.{Flat, End, Line, line_of, page_at, is_program, bytes_at, overwrite, if_operand, carry_out, perform, straddling, in_first_page, line, is_forbidden, rest_of_page, page_bytes, ending, FlatRun, after_call, after_ending, one_more, flat_run}
use Rattle.ak_model.proofs.Flat.Decoding.{decode-size}
use Rattle.ak_relation.specs.Program.FlatPlaces.{Reaches, IsAfterCall, IsAtBy}
use Rattle.ak_model.specs.Laws.OwedAnswers.{Owing, Settled, Owed, Unknown}
use Rattle.ak_relation.specs.Program.FlatFits.{AreBytes, FlatFits}
use Rattle.ak_relation.proofs.Flat.Immediates.{decode-fits}
use Rattle.ak_relation.proofs.Flat.WordPlans.{PlanWords, plan_words, set_words}
use Rattle.ak_ssa.specs.SavedRegisters.{AreWords}
use Rattle.ak_ssa.proofs.Room.{room}

-- the same of an end
abbrev EndFits : End → Type 0
EndFits (End.Next flat) = FlatFits flat
EndFits (End.Call b a flat) = FlatFits flat
EndFits (End.Vector v) = Unit {0}

-- no register has a value yet
zeros : (n : ℕ) → AreWords (replicate n 0)
zeros zero = tt
zeros (suc n) = (omega arith, zeros n)

-- ---- Bytes

-- so many bytes at most spell a number that fits them
value_fits : (n : ℕ) (bytes : List ℕ) → AreBytes bytes → le_value (take n bytes) < 256 ^ n
value_fits zero bytes h = omega arith
value_fits (suc n) [] h = let more = value_fits n [] h in omega arith
value_fits (suc n) (b ∷ bytes) h =
    let low : b < 256 = All-head (λ x. x < 256) b bytes h in
    let more : le_value (take n bytes) < 256 ^ n = value_fits n bytes (All-tail (λ x. x < 256) b bytes h) in
    omega arith

overwrite_fits : (bytes new : List ℕ) (place : ℕ) → AreBytes bytes → AreBytes new → AreBytes (overwrite bytes place new)
overwrite_fits bytes new place h k =
    All-append (λ x. x < 256) (take place bytes) (new ++ drop (place + length new) bytes) (All-take (λ x. x < 256) place bytes h)
    (All-append (λ x. x < 256) new (drop (place + length new) bytes) k (All-drop (λ x. x < 256) (place + length new) bytes h))

page_fits : (flat : Flat) (p : ℕ) → AreBytes flat.bytes → AreBytes (page_bytes flat p)
page_fits flat p h = All-take (λ x. x < 256) 4096 (drop (4096 * p) flat.bytes) (All-drop (λ x. x < 256) (4096 * p) flat.bytes h)

module _ (layout : Layout) (valid : IsValid layout) where
  rest_fits : (flat : Flat) (p : ℕ) → AreBytes flat.bytes → AreBytes (rest_of_page layout flat p)
  rest_fits flat p h = All-drop (λ x. x < 256) ((flat.regs.rip - layout.base) % 4096) (page_bytes flat p) (page_fits flat p h)

  -- ---- Lines

  operand_fits : (accesses : List Access) (address count : ℕ) (kind : Kind) (flat : Flat) (b : Bool) → is_program layout address count ≡ b → FlatFits flat →
      EndFits (if_operand layout accesses address count kind flat).end
  operand_fits accesses address count kind flat true e h = rw e h
  operand_fits accesses address count kind flat false e h = rw e tt

  carry_fits : (flat : Flat) (accesses : List Access) (p : Plan) → FlatFits flat → PlanWords p → EndFits (carry_out layout flat accesses p).end
  carry_fits flat accesses (RaisesVector v) f h = tt
  carry_fits flat accesses (Computes regs) f h = record { words = h; bytes = f.bytes }
  carry_fits flat accesses (CallsOut n a regs) f h = record { words = h; bytes = f.bytes }
  carry_fits flat accesses (Reads address count regs) f h =
      operand_fits accesses address count _ _ (is_program layout address count) refl
      (record { words = h.1 (le_value (bytes_at layout flat address count)) (value_fits count (drop (address - layout.base) flat.bytes) (All-drop (λ x. x < 256) (address - layout.base) flat.bytes f.bytes)); bytes = f.bytes })
  carry_fits flat accesses (Writes address new regs) f h =
      operand_fits accesses address (length new) _ _ (is_program layout address (length new)) refl
      (record { words = h.1; bytes = overwrite_fits flat.bytes new (address - layout.base) f.bytes h.0 })

  perform_fits : (flat : Flat) (accesses : List Access) (bytes : List ℕ) (instr : Instr) (size : ℕ) → FlatFits flat → flat.regs.rip + 10 < 2 ^ 64 → AreBytes bytes →
      decode bytes ≡ Whole instr size → EndFits (perform layout flat accesses instr size).end
  perform_fits flat accesses bytes instr size f low b w =
      let short = decode-size bytes instr size w in
      carry_fits flat accesses (plan instr (record flat.regs { rip = flat.regs.rip + size })) f
      (plan_words instr (record flat.regs { rip = flat.regs.rip + size }) (decode-fits bytes instr size b w)
      (record { sixteen = f.words.sixteen; words = f.words.words; rip = omega arith }))

  straddling_fits : (flat : Flat) (accesses : List Access) (bytes : List ℕ) (d : Decoded) → decode bytes ≡ d → FlatFits flat → flat.regs.rip + 10 < 2 ^ 64 → AreBytes bytes →
      EndFits (straddling layout flat accesses d).end
  straddling_fits flat accesses bytes (Whole instr size) e f low b = perform_fits flat accesses bytes instr size f low b e
  straddling_fits flat accesses bytes NeedMore e f low b = tt
  straddling_fits flat accesses bytes Illegal e f low b = tt

  choose_fits : (b : Bool) (x y : Line) → (b ≡ true → EndFits x.end) → EndFits y.end → EndFits (if b then x else y).end
  choose_fits true x y h k = h refl
  choose_fits false x y h k = k

  first_fits : (flat : Flat) (p : ℕ) (d : Decoded) → decode (rest_of_page layout flat p) ≡ d → FlatFits flat → flat.regs.rip + 10 < 2 ^ 64 → EndFits (in_first_page layout flat p d).end
  first_fits flat p (Whole instr size) e f low = perform_fits flat (access_to p Exec ∷ []) (rest_of_page layout flat p) instr size f low (rest_fits flat p f.bytes) e
  first_fits flat p Illegal e f low = tt
  first_fits flat p NeedMore e f low =
      let two = rest_of_page layout flat p ++ page_bytes flat (suc p) in
      choose_fits (nat_lt (suc p) (pages layout)) (straddling layout flat (access_to p Exec ∷ access_to (suc p) Exec ∷ []) (decode two)) (line_of (access_to p Exec ∷ []) (End.Vector 13))
      (λ t. straddling_fits flat (access_to p Exec ∷ access_to (suc p) Exec ∷ []) two (decode two) refl f low
      (All-append (λ x. x < 256) (rest_of_page layout flat p) (page_bytes flat (suc p)) (rest_fits flat p f.bytes) (page_fits flat (suc p) f.bytes))) tt

  -- an instruction in the program begins so far below 2^64
  low_rip : (rip : ℕ) → is_program layout rip 1 ≡ true → rip + 10 < 2 ^ 64
  low_rip rip e =
      let parts = and_parts (nat_le layout.base rip) (nat_le (rip + 1) (layout.base + 4096 * pages layout)) e in
      let below = leb-true (rip + 1) (layout.base + 4096 * pages layout) parts.1 in
      let all : layout.base + 4096 * (pages layout + 6) < 2 ^ 64 = room layout valid in
      omega arith

  line_fits : (flat : Flat) → FlatFits flat → EndFits (line layout flat).end
  line_fits flat f =
      choose_fits (is_program layout flat.regs.rip 1) (in_first_page layout flat (page_at layout flat.regs.rip) (decode (rest_of_page layout flat (page_at layout flat.regs.rip)))) (line_of [] (End.Vector 13))
      (λ t. first_fits flat (page_at layout flat.regs.rip) (decode (rest_of_page layout flat (page_at layout flat.regs.rip))) refl f (low_rip flat.regs.rip t)) tt

  end_fits : (b : Bool) (e : End) → EndFits e → EndFits (if b then End.Vector 14 else e)
  end_fits true e h = tt
  end_fits false e h = h

  -- an instruction keeps it
  pub step_fits : (flat : Flat) → FlatFits flat → EndFits (ending layout flat)
  step_fits flat f = end_fits (list_any (is_forbidden layout) (line layout flat).accesses) (line layout flat).end (line_fits flat f)

  -- ---- Runs

  -- it holds of a run, if there is one
  abbrev RunFits : Option FlatRun → Type 0
  RunFits None = Unit {0}
  RunFits (Some run) = FlatFits run.flat × AreWords run.answers

  answered_fits : (b : ℕ) (flat : Flat) (answers : List ℕ) → FlatFits flat → AreWords answers → RunFits (after_call b flat answers)
  answered_fits zero flat answers h w = tt
  answered_fits (suc b) flat [] h w = tt
  answered_fits (suc b) flat (v ∷ answers) h w = (record { words = set_words flat.regs rax v h.words w.0; bytes = h.bytes }, w.1)

  ended_fits : (e : End) (answers : List ℕ) → EndFits e → AreWords answers → RunFits (after_ending e answers)
  ended_fits (End.Next flat) answers h w = (h, w)
  ended_fits (End.Call b a flat) answers h w = answered_fits b flat answers h w
  ended_fits (End.Vector v) answers h w = tt

  more_fits : (o : Option FlatRun) → RunFits o → RunFits (one_more layout o)
  more_fits None h = tt
  more_fits (Some run) h = ended_fits (ending layout run.flat) run.answers (step_fits run.flat h.0) h.1

  module _ (image answers : List ℕ) (are_bytes : AreBytes image) (are_words : AreWords answers) where
    run_fits : (i : ℕ) → RunFits (flat_run layout image answers i)
    run_fits zero =
        let entered = valid.entered in
        let all : layout.base + 4096 * (pages layout + 6) < 2 ^ 64 = room layout valid in
        (record { words = record { sixteen = refl; words = zeros 16; rip = omega arith }; bytes = are_bytes }, are_words)
    run_fits (suc i) = more_fits (flat_run layout image answers i) (run_fits i)

    -- at each state of a run
    pub reached_words : (i : ℕ) (run : FlatRun) → flat_run layout image answers i ≡ Some run → FlatFits run.flat
    reached_words i run e = (subst RunFits e (run_fits i)).0

    -- and so where the program is
    pub reaches_words : (i : ℕ) (flat : Flat) → Reaches layout image answers i flat → FlatFits flat
    reaches_words i flat e = reached_words i _ e

    -- after a call
    pub called_words : (count : ℕ) (flat : Flat) → IsAfterCall layout image answers count flat → FlatFits flat
    called_words count flat c = subst EndFits c.called (step_fits c.caller (reaches_words c.before c.caller c.reached))

    -- and so at the program's flat state, whether an answer is owed or not
    pub at_words : (owing : Owing) (count : ℕ) (flat : Flat) → IsAtBy owing layout image answers count flat → FlatFits flat
    at_words Settled count flat h = reaches_words count flat h
    at_words Owed count flat h = called_words count flat h
    at_words Unknown count flat (inl h) = reaches_words count flat h
    at_words Unknown count flat (inr h) = called_words count flat h
