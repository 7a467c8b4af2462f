-- What a turn of the program comes to, beside the line of a flat state that the memory shows.
use Rattle.std.specs.Prelude.{◌≡◌, ℕ, ◌<◌, Bool, true, false, ◌||◌, List, ◌∷◌, ◌++◌, Option, Some, None, IsTrue, ◌==◌}
use Rattle.ak_core.specs.Layout.{Layout}
use Rattle.ak_core.specs.Mem.{Access, is_writable}
use Rattle.ak_core.specs.declared.page.Fault.{Fault}
use Rattle.ak_core.specs.declared.registers.Regs.{Regs}
use Rattle.ak_model.specs.Paging.Pages.{pages}
use Rattle.ak_model.specs.Flat.Instructions.{Plan, RaisesVector, Computes, Reads, Writes, CallsOut}
use Rattle.ak_model.specs.Flat.FlatRuns.{Flat, End, Next, Call, Vector, Line, page_bytes}
use Rattle.ak_exec.specs.declared.turn.Turn.{Turn}
use Rattle.ak_exec.specs.declared.turn.Turn.TheVariants.{Done, Called, Trapped, Faulted}

-- ---- What a turn does of a line

-- each program page that the memory holds has the flat state's bytes
abbrev pub Shows : Layout → (ℕ → Bool) → (ℕ → List ℕ) → Flat → Type 0
Shows layout holds bytes flat = (p : ℕ) → p < pages layout → holds p ≡ true → bytes p ≡ page_bytes flat p

-- the line was done whole: its accesses were granted, and registers and memory show the state that it ends in
pub record Completes (layout : Layout) (line : Line) (end : Flat → End) (regs : Regs) (holds : ℕ → Bool) (bytes : ℕ → List ℕ) (granted : List Access) : Type 0 where
  pub all : granted ≡ line.accesses
  pub after : Flat
  pub ends : line.end ≡ end after
  pub registers : after.regs ≡ regs
  pub shows : Shows layout holds bytes after

-- the line's accesses were granted, and it ends in a vector
pub record Raises (line : Line) (vector : ℕ) (granted : List Access) : Type 0 where
  pub all : granted ≡ line.accesses
  pub ends : line.end ≡ Vector vector

-- the line's accesses were granted up to this one, which is its next
pub record Refuses (line : Line) (fault : Fault) (granted : List Access) : Type 0 where
  pub rest : List Access
  pub next : line.accesses ≡ granted ++ fault ∷ rest

-- a turn does the line, whole or up to the access that was refused
abbrev pub DoesLine : Layout → Line → Turn → Regs → (ℕ → Bool) → (ℕ → List ℕ) → List Access → Type 0
DoesLine layout line Done regs holds bytes granted = Completes layout line Next regs holds bytes granted
DoesLine layout line (Called number argument) regs holds bytes granted = Completes layout line (Call number argument) regs holds bytes granted
DoesLine layout line (Trapped vector) regs holds bytes granted = Raises line vector granted
DoesLine layout line (Faulted fault) regs holds bytes granted = Refuses line fault granted

-- ---- What a turn tells alone

-- the access that was refused, if one was
abbrev pub refused_by : Turn → Option Access
refused_by (Faulted fault) = Some fault
refused_by _ = None

-- the vectors of a division, an invalid opcode, and a general-protection exception
abbrev pub is_vector : ℕ → Bool
is_vector vector = vector == 0 || (vector == 6 || vector == 13)

-- a turn that traps does so by one of these vectors
abbrev pub IsVector : Turn → Type 0
IsVector (Trapped vector) = IsTrue (is_vector vector)
IsVector _ = Unit {0}

-- this holds of a turn that completes no instruction
abbrev pub IfIncomplete : Turn → Type 0 → Type 0
IfIncomplete Done fact = Unit {0}
IfIncomplete (Called number argument) fact = Unit {0}
IfIncomplete (Trapped vector) fact = fact
IfIncomplete (Faulted fault) fact = fact

-- a page that was not touched for writing has the bytes that it had
abbrev pub KeepsUnwritten : List Access → (ℕ → List ℕ) → (ℕ → List ℕ) → Type 0
KeepsUnwritten granted old new = (p : ℕ) → is_writable granted p ≡ false → new p ≡ old p

-- ---- Plans that ask nothing of memory

-- what a plan comes to, from these registers to those; one that asks memory is not carried out
abbrev pub Performs : Plan → Turn → Regs → Regs → Type 0
Performs (RaisesVector vector) turn old new = (turn ≡ Trapped vector) × (new ≡ old)
Performs (Computes regs) turn old new = (turn ≡ Done) × (new ≡ regs)
Performs (CallsOut number argument regs) turn old new = (turn ≡ Called number argument) × (new ≡ regs)
Performs (Reads address count regs) turn old new = ⊥
Performs (Writes address bytes regs) turn old new = ⊥
