-- The program as it would run if memory were never paged: registers, and one array of bytes. (SDM volume 1, "Operand
-- Addressing"; volume 2 for each instruction.)
use Rattle.std.specs.Prelude.{ℕ, zero, suc, ◌+◌, ◌-◌, ◌*◌, ◌/◌, ◌%◌, Bool, false, ◌&&◌, not, List, [], ◌∷◌, ◌++◌, length, take, drop, replicate, Option, Some, None, nat_lt, nat_le, ◌==◌, if◌then◌else◌}
use Rattle.std.specs.List.{list_any}
use Rattle.ak_core.specs.Layout.{Layout}
use Rattle.ak_core.specs.Journal.{with_more}
use Rattle.ak_core.specs.Mem.{Access, access_to}
use Rattle.ak_core.specs.declared.page.Kind.{Kind}
use Rattle.ak_core.specs.declared.page.Kind.TheVariants.{Read, Write, Exec}
use Rattle.ak_core.specs.declared.registers.Mode.{Mode}
use Rattle.ak_core.specs.declared.registers.Regs.{Regs}
use Rattle.ak_core.specs.declared.instruction.Instr.{Instr}
use Rattle.ak_core.specs.declared.instruction.Decoded.{Decoded}
use Rattle.ak_core.specs.declared.instruction.Decoded.TheVariants.{Whole, NeedMore, Illegal}
use Rattle.ak_model.specs.Paging.Pages.{pages, permits}
use Rattle.ak_model.specs.Flat.Encodings.{decode}
use Rattle.ak_model.specs.Flat.Instructions.{Plan, RaisesVector, Computes, Reads, Writes, CallsOut, plan, with_reg, rax, le_value}

-- a flat state: registers, and 4096 bytes for each page of the program
pub record Flat : Type 0 where
  pub regs : Regs
  pub bytes : List ℕ

-- how an instruction ends
pub data End : Type 0 where
  Next : (flat : Flat) → End
  Call : (number argument : ℕ) (flat : Flat) → End
  Vector : (vector : ℕ) → End

-- the accesses of an instruction, in order, and then its end
pub record Line : Type 0 where
  pub accesses : List Access
  pub end : End

-- these accesses and this end
abbrev pub line_of : List Access → End → Line
line_of accesses end = record { accesses = accesses; end = end }

-- ---- One instruction

-- count bytes at the address are the program's
abbrev pub is_program : Layout → ℕ → ℕ → Bool
is_program layout address count =
    nat_le layout.base address && nat_le (address + count) (layout.base + 4096 * pages layout)

-- the page of an address
abbrev pub page_at : Layout → ℕ → ℕ
page_at layout address = (address - layout.base) / 4096

-- the one or two pages of an operand
abbrev pub operand_accesses : Layout → ℕ → ℕ → Kind → List Access
operand_accesses layout address count kind =
    let p = page_at layout address in let q = page_at layout (address + count - 1) in
    if p == q then access_to p kind ∷ [] else access_to p kind ∷ access_to q kind ∷ []

-- so many bytes from an address on
abbrev pub bytes_at : Layout → Flat → ℕ → ℕ → List ℕ
bytes_at layout flat address count = take count (drop (address - layout.base) flat.bytes)

-- the bytes from a place on are these
abbrev pub overwrite : List ℕ → ℕ → List ℕ → List ℕ
overwrite bytes place new = take place bytes ++ (new ++ drop (place + length new) bytes)

-- an operand outside the program is refused before any of it is touched
abbrev pub if_operand : Layout → List Access → ℕ → ℕ → Kind → Flat → Line
if_operand layout accesses address count kind flat =
    if is_program layout address count
    then line_of (accesses ++ operand_accesses layout address count kind) (Next flat)
    else line_of accesses (Vector 13)

-- a plan carried out, after the accesses of the fetch
abbrev pub carry_out : Layout → Flat → List Access → Plan → Line
carry_out layout flat accesses (RaisesVector v) = line_of accesses (Vector v)
carry_out layout flat accesses (Computes regs) = line_of accesses (Next (record flat { regs = regs }))
carry_out layout flat accesses (CallsOut b a regs) = line_of accesses (Call b a (record flat { regs = regs }))
carry_out layout flat accesses (Reads address count regs) =
    if_operand layout accesses address count Read (record flat { regs = regs (le_value (bytes_at layout flat address count)) })
carry_out layout flat accesses (Writes address new regs) =
    if_operand layout accesses address (length new) Write
    (record { regs = regs; bytes = overwrite flat.bytes (address - layout.base) new })

-- an instruction of this size
abbrev pub perform : Layout → Flat → List Access → Instr → ℕ → Line
perform layout flat accesses instr size =
    carry_out layout flat accesses (plan instr (record flat.regs { rip = flat.regs.rip + size }))

-- the instruction's bytes go on in the next page
abbrev pub straddling : Layout → Flat → List Access → Decoded → Line
straddling layout flat accesses (Whole instr size) = perform layout flat accesses instr size
straddling layout flat accesses NeedMore = line_of accesses (Vector 6)
straddling layout flat accesses Illegal = line_of accesses (Vector 6)

-- the bytes of a page
abbrev pub page_bytes : Flat → ℕ → List ℕ
page_bytes flat p = take 4096 (drop (4096 * p) flat.bytes)

-- the bytes from RIP to the end of its page
abbrev pub rest_of_page : Layout → Flat → ℕ → List ℕ
rest_of_page layout flat p = drop ((flat.regs.rip - layout.base) % 4096) (page_bytes flat p)

-- what the bytes in the first page say
abbrev pub in_first_page : Layout → Flat → ℕ → Decoded → Line
in_first_page layout flat p (Whole instr size) = perform layout flat (access_to p Exec ∷ []) instr size
in_first_page layout flat p Illegal = line_of (access_to p Exec ∷ []) (Vector 6)
in_first_page layout flat p NeedMore =
    if nat_lt (suc p) (pages layout)
    then straddling layout flat (access_to p Exec ∷ access_to (suc p) Exec ∷ []) (decode (rest_of_page layout flat p ++ page_bytes flat (suc p)))
    else line_of (access_to p Exec ∷ []) (Vector 13)

-- what the next instruction does
abbrev pub line : Layout → Flat → Line
line layout flat =
    let p = page_at layout flat.regs.rip in
    if is_program layout flat.regs.rip 1
    then in_first_page layout flat p (decode (rest_of_page layout flat p))
    else line_of [] (Vector 13)

-- the page's permission does not allow the access
abbrev pub is_forbidden : Layout → Access → Bool
is_forbidden layout t = not (permits layout t.page.0 t.kind)

-- the end of a line: vector 14 where an access is forbidden
abbrev pub end_of : Layout → Line → End
end_of layout line = if list_any (is_forbidden layout) line.accesses then Vector 14 else line.end

-- how the next instruction ends
abbrev pub ending : Layout → Flat → End
ending layout flat = end_of layout (line layout flat)

-- ---- A run

-- a state, and the call answers that are left
pub record FlatRun : Type 0 where
  pub flat : Flat
  pub answers : List ℕ

-- the program's first registers
abbrev pub zeroed : ℕ → Regs
zeroed rip = record { gpr = replicate 16 0; rip = rip; cf = false; zf = false; sf = false; of = false; mode = Mode.Program }

-- the start of a run, from an image's bytes
abbrev pub first_run : Layout → List ℕ → List ℕ → FlatRun
first_run layout image answers =
    record { flat = record { regs = zeroed (layout.base + layout.entry); bytes = image }; answers = answers }

-- number 0 ends the program; another call goes on with the next answer, where there is one
abbrev pub after_call : ℕ → Flat → List ℕ → Option FlatRun
after_call zero flat answers = None
after_call (suc b) flat [] = None
after_call (suc b) flat (v ∷ answers) =
    Some (record { flat = record flat { regs = with_reg flat.regs rax v }; answers = answers })

-- the run after an instruction that ends so
abbrev pub after_ending : End → List ℕ → Option FlatRun
after_ending (Next flat) answers = Some (record { flat = flat; answers = answers })
after_ending (Call b a flat) answers = after_call b flat answers
after_ending (Vector v) answers = None

-- one more instruction
abbrev pub one_more : Layout → Option FlatRun → Option FlatRun
one_more layout None = None
one_more layout (Some run) = after_ending (ending layout run.flat) run.answers

-- the run after i completed instructions, from an image's bytes, with these answers to its calls
abbrev pub flat_run : Layout → List ℕ → List ℕ → ℕ → Option FlatRun
flat_run layout image answers zero = Some (first_run layout image answers)
flat_run layout image answers (suc i) = one_more layout (flat_run layout image answers i)

-- the output that a call makes: the argument of one with number 1
abbrev pub output_of_call : ℕ → ℕ → Option ℕ
output_of_call b a = if b == 1 then Some a else None

-- the output of an instruction that ends so
abbrev pub output_of : End → Option ℕ
output_of (Call b a flat) = output_of_call b a
output_of _ = None

-- the output of the next instruction
abbrev pub output_at : Layout → Option FlatRun → Option ℕ
output_at layout None = None
output_at layout (Some run) = output_of (ending layout run.flat)

-- the outputs of the first i instructions, in order
abbrev pub outputs : Layout → List ℕ → List ℕ → ℕ → List ℕ
outputs layout image answers zero = []
outputs layout image answers (suc i) =
    with_more (outputs layout image answers i) (output_at layout (flat_run layout image answers i))
