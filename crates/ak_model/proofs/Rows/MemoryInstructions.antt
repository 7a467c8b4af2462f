-- Instructions that move numbers, use memory or jump: what each reads, writes and leaves. And operands at the program's ends.
-- (SDM volume 2, the page of each instruction.)
use Rattle.std.specs.Prelude.{◌≡◌, ℕ, pos, negsuc, true, false, List, [], ◌∷◌, ◌++◌, replicate, map, slice_set, Option, Some, None, refl}
use Rattle.ak_core.specs.Mem.{Access, access_to}
use Rattle.ak_core.specs.declared.instruction.Cond.TheVariants.{Below, NotBelow}
use Rattle.ak_core.specs.declared.instruction.Instr.{Instr}
use Rattle.ak_core.specs.declared.instruction.Instr.TheVariants.{MovImm, MovTo, MovFrom, Store, Load, StoreByte, LoadByte, Jump, CallNear, JumpIf, Return, Push, Pop, Nop, Undefined, Enclu}
use Rattle.ak_core.specs.declared.page.Kind.TheVariants.{Read, Exec}
use Rattle.ak_core.specs.declared.registers.Mode.{Mode}
use Rattle.ak_core.specs.declared.registers.Regs.{Regs}
use Rattle.ak_model.specs.Flat.Instructions.{Plan, RaisesVector, Computes, Reads, Writes, CallsOut, plan}
use Rattle.ak_model.specs.Flat.FlatRuns.{FlatRun, line, flat_run}
use Rattle.ak_model.proofs.Rows.Samples.{image_d}
use Rattle.ak_model.proofs.Rows.WorkedFlat.{filled, shown_at}

-- ---- What a plan comes to

-- the address and the number of bytes that are read, or the address and the bytes that are written; and the registers after
record Seen : Type 0 where
  address : ℕ
  count : ℕ
  written : List ℕ
  regs : Regs

-- what a plan comes to, where the bytes that it reads spell this number
abbrev seen : Plan → ℕ → Option Seen
seen (Computes regs) v = Some (record { address = 0; count = 0; written = []; regs = regs })
seen (Reads a n regs) v = Some (record { address = a; count = n; written = []; regs = regs v })
seen (Writes a bytes regs) v = Some (record { address = a; count = 0; written = bytes; regs = regs })
seen _ v = None

-- RIP is the next address, carry and sign are set, and register i has 1000 and i twice
abbrev before : Regs
before = record {
  gpr = 1000 ∷ 1101 ∷ 1202 ∷ 1303 ∷ 1404 ∷ 1505 ∷ 1606 ∷ 1707 ∷ 1808 ∷ 1909 ∷ 2010 ∷ 2111 ∷ 2212 ∷ 2313 ∷ 2414 ∷ 2515 ∷ [];
  rip = 5000;
  cf = true;
  zf = false;
  sf = true;
  of = false;
  mode = Mode.Program;
}

-- a register with another number
abbrev set : ℕ → ℕ → Regs → Regs
set i v regs = record regs { gpr = slice_set regs.gpr i v }

-- RIP with another
abbrev at : ℕ → Regs → Regs
at v regs = record regs { rip = v }

-- no memory is used, and these are the registers after
abbrev computes : Regs → Option Seen
computes regs = Some (record { address = 0; count = 0; written = []; regs = regs })

-- so many bytes are read
abbrev reads : ℕ → ℕ → Regs → Option Seen
reads address count regs = Some (record { address = address; count = count; written = []; regs = regs })

-- these bytes are written
abbrev writes : ℕ → List ℕ → Regs → Option Seen
writes address bytes regs = Some (record { address = address; count = 0; written = bytes; regs = regs })

-- an instruction, where the bytes that it reads spell 700
abbrev does : Instr → Option Seen
does instr = seen (plan instr before) 700

-- ---- Numbers moved

moves : map does (MovImm 3 7 ∷ MovTo 2 9 ∷ MovFrom 2 9 ∷ Nop ∷ []) ≡ computes (set 3 7 before) ∷ computes (set 2 1909 before) ∷ computes (set 2 1909 before) ∷ computes before ∷ []
moves = refl

stores : map does (Store 2 (negsuc 7) 9 ∷ Store 2 (pos 16) 9 ∷ StoreByte 2 (pos 0) 9 ∷ []) ≡
    writes 1194 (117 ∷ 7 ∷ 0 ∷ 0 ∷ 0 ∷ 0 ∷ 0 ∷ 0 ∷ []) before ∷ writes 1218 (117 ∷ 7 ∷ 0 ∷ 0 ∷ 0 ∷ 0 ∷ 0 ∷ 0 ∷ []) before ∷ writes 1202 (117 ∷ []) before ∷ []
stores = refl

loads : map does (Load 9 2 (negsuc 7) ∷ Load 9 2 (pos 16) ∷ []) ≡ reads 1194 8 (set 9 700 before) ∷ reads 1218 8 (set 9 700 before) ∷ []
loads = refl

-- the other bytes of the register stay
byte_loaded : seen (plan (LoadByte 9 2 (pos 1)) before) 5 ≡ reads 1203 1 (set 9 1797 before)
byte_loaded = refl

-- ---- Jumps

jumps : map does (Jump (negsuc 4) ∷ Jump (pos 10) ∷ JumpIf Below (pos 10) ∷ JumpIf NotBelow (pos 10) ∷ []) ≡
    computes (at 4995 before) ∷ computes (at 5010 before) ∷ computes (at 5010 before) ∷ computes before ∷ []
jumps = refl

-- a call pushes the next address, 5000, and a return goes to what it pops
calls : map does (CallNear (pos 10) ∷ Return ∷ []) ≡
    writes 1396 (136 ∷ 19 ∷ 0 ∷ 0 ∷ 0 ∷ 0 ∷ 0 ∷ 0 ∷ []) (set 4 1396 (at 5010 before)) ∷ reads 1404 8 (set 4 1412 (at 700 before)) ∷ []
calls = refl

-- the stack pointer is pushed as it was, and popped as it is read
stack : map does (Push 9 ∷ Push 4 ∷ Pop 9 ∷ Pop 4 ∷ []) ≡
    writes 1396 (117 ∷ 7 ∷ 0 ∷ 0 ∷ 0 ∷ 0 ∷ 0 ∷ 0 ∷ []) (set 4 1396 before) ∷ writes 1396 (124 ∷ 5 ∷ 0 ∷ 0 ∷ 0 ∷ 0 ∷ 0 ∷ 0 ∷ []) (set 4 1396 before)
    ∷ reads 1404 8 (set 9 700 (set 4 1412 before)) ∷ reads 1404 8 (set 4 700 before) ∷ []
stack = refl

-- ---- Calls out

undefined : plan Undefined before ≡ RaisesVector 6
undefined = refl

-- the number is in RDI and the argument in RSI; RCX gets the next address. The upper half of RAX is not looked at
calls_out : plan Enclu (set 0 4294967300 before) ≡ CallsOut 1707 1606 (set 1 5000 (set 0 4294967300 before))
calls_out = refl

-- any other number in EAX traps
other_numbers : map (λ v. plan Enclu (set 0 v before)) (0 ∷ 3 ∷ 5 ∷ 8 ∷ 260 ∷ 4294967296 ∷ []) ≡ replicate 6 (RaisesVector 13)
other_numbers = refl

-- ---- Operands at the ends of the program, which has two pages from 10000000 on, in hexadecimal

-- RSI is loaded from this address, given by its bytes
abbrev load_from : List ℕ → List ℕ
load_from address = filled ((0x48 ∷ 0x8b ∷ 0xb3 ∷ []) ++ address) ++ filled []

-- the accesses of the first instruction
abbrev accesses_of : Option FlatRun → List Access
accesses_of None = []
accesses_of (Some run) = (line image_d run.flat).accesses

abbrev first_accesses : List ℕ → List Access
first_accesses bytes = accesses_of (flat_run image_d bytes [] 0)

abbrev first_vector : List ℕ → List ℕ
first_vector bytes = shown_at image_d (flat_run image_d bytes [] 0)

-- the last eight bytes are loaded
last_bytes : first_accesses (load_from (0xf8 ∷ 0x1f ∷ 0 ∷ 0x10 ∷ [])) ≡ access_to 0 Exec ∷ access_to 1 Read ∷ []
unfolding filled
last_bytes = refl

last_bytes_load : first_vector (load_from (0xf8 ∷ 0x1f ∷ 0 ∷ 0x10 ∷ [])) ≡ []
unfolding filled
last_bytes_load = refl

-- one byte further, no byte is accessed
past_end : map first_accesses (load_from (0xf9 ∷ 0x1f ∷ 0 ∷ 0x10 ∷ []) ∷ load_from (0 ∷ 0x20 ∷ 0 ∷ 0x10 ∷ []) ∷ []) ≡ (access_to 0 Exec ∷ []) ∷ (access_to 0 Exec ∷ []) ∷ []
unfolding filled
past_end = refl

past_end_traps : map first_vector (load_from (0xf9 ∷ 0x1f ∷ 0 ∷ 0x10 ∷ []) ∷ load_from (0 ∷ 0x20 ∷ 0 ∷ 0x10 ∷ []) ∷ []) ≡ (13 ∷ []) ∷ (13 ∷ []) ∷ []
unfolding filled
past_end_traps = refl

-- nor is one where the operand begins before the first page
before_first : map first_accesses (load_from (0xff ∷ 0xff ∷ 0xff ∷ 0x0f ∷ []) ∷ load_from (0xf8 ∷ 0xff ∷ 0xff ∷ 0x0f ∷ []) ∷ []) ≡ (access_to 0 Exec ∷ []) ∷ (access_to 0 Exec ∷ []) ∷ []
unfolding filled
before_first = refl

before_first_traps : map first_vector (load_from (0xff ∷ 0xff ∷ 0xff ∷ 0x0f ∷ []) ∷ load_from (0xf8 ∷ 0xff ∷ 0xff ∷ 0x0f ∷ []) ∷ []) ≡ (13 ∷ []) ∷ (13 ∷ []) ∷ []
unfolding filled
before_first_traps = refl

-- the first page is read where the operand begins there, and the next where it goes on there
straddling_pages : first_accesses (load_from (0xf9 ∷ 0x0f ∷ 0 ∷ 0x10 ∷ [])) ≡ access_to 0 Exec ∷ access_to 0 Read ∷ access_to 1 Read ∷ []
unfolding filled
straddling_pages = refl
