-- What a plan comes to that reads or writes an operand.
use Rattle.std.proofs.Common.{◌≡◌, ℕ, List, [], ◌∷◌, length, get_or, refl, ap, sym, subst, arith}
use Rattle.std.specs.Prelude.{Bool}
use Rattle.std.specs.Int.{w64, from_le_bytes, to_le_bytes}
use Rattle.std.proofs.Math.Nat.{div-div-eq-div-mul}
use Rattle.ak_core.specs.Layout.{Layout}
use Rattle.ak_core.specs.Mem.{Access}
use Rattle.ak_core.specs.declared.registers.Regs.{Regs}
use Rattle.ak_model.specs.Flat.Instructions.{Plan, le_bytes, le_value}
use Rattle.ak_model.specs.Flat.FlatRuns.{Flat, Next, Line, line_of}
use Rattle.ak_exec.specs.Turns.{Shows, Completes, DoesLine}
use Rattle.ak_exec.specs.Accessed.{EndsBefore}
use Rattle.ak_exec.specs.Carried.{CarriesOut, turn_of}
use Rattle.ak_exec.specs.declared.operands.Unreached.{Unreached}
use Rattle.ak_exec.specs.declared.operands.Unreached.TheVariants.{Outside, Refused}
use Rattle.ak_exec.specs.declared.turn.Turn.{Turn}

-- the line was done whole
pub completes : (layout : Layout) (line : Line) (after : Flat) (regs : Regs) (holds : ℕ → Bool) (bytes : ℕ → List ℕ) (granted : List Access) → line ≡ line_of granted (Next after) → after.regs ≡ regs → Shows layout holds bytes after → Completes layout line (λ (end : Flat). Next end) regs holds bytes granted
completes layout line after regs holds bytes granted e r shows =
    record { all = ap (λ (l : Line). l.accesses) (sym e); after = after; ends = ap (λ (l : Line). l.end) e; registers = r; shows = shows }

-- or up to the operand
pub ends_before : (layout : Layout) (line : Line) (unreached : Unreached) (turn : Turn) (regs : Regs) (holds : ℕ → Bool) (bytes : ℕ → List ℕ) (granted : List Access) → turn ≡ turn_of unreached → EndsBefore line unreached granted → DoesLine layout line turn regs holds bytes granted
ends_before layout line Outside turn regs holds bytes granted e h = subst (λ t. DoesLine layout line t regs holds bytes granted) (sym e) h
ends_before layout line (Refused fault) turn regs holds bytes granted e h = subst (λ t. DoesLine layout line t regs holds bytes granted) (sym e) h

-- equal plans are carried out alike
pub carries_as : (layout : Layout) (p q : Plan) (turn : Turn) (regs : Regs) (holds : ℕ → Bool) (old new : ℕ → List ℕ) (before after : List Access) → p ≡ q → CarriesOut layout p turn regs holds old new before after → CarriesOut layout q turn regs holds old new before after
carries_as layout p q turn regs holds old new before after e h = subst (λ x. CarriesOut layout x turn regs holds old new before after) e h

-- ---- Numbers and their bytes

-- the number of eight bytes
pub from_le_bytes-8 : (bytes : List ℕ) → length bytes ≡ 8 → from_le_bytes w64 bytes ≡ le_value bytes
from_le_bytes-8 (a ∷ b ∷ c ∷ d ∷ e ∷ f ∷ g ∷ h ∷ []) size = omega arith
from_le_bytes-8 _ size = absurd (omega arith)

-- the number of one byte
pub get_or-1 : (bytes : List ℕ) → length bytes ≡ 1 → get_or bytes 0 0 ≡ le_value bytes
get_or-1 (b ∷ []) size = omega arith
get_or-1 _ size = absurd (omega arith)

-- eight bytes of a number
pub to_le_bytes-8 : (v : ℕ) → to_le_bytes w64 v ≡ le_bytes 8 v
to_le_bytes-8 v = simp div-div-eq-div-mul refl
