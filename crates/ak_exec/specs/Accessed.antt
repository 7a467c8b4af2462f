-- What the access of an operand comes to, whatever state its line then ends in.
use Rattle.std.specs.Prelude.{◌≡◌, ℕ, ◌+◌, ◌*◌, ◌/◌, ◌<◌, ◌≤◌, Bool, true, List, [], ◌∷◌, ◌++◌, Option, Some, None, Result, Ok, Err, ◌==◌, if◌then◌else◌}
use Rattle.ak_core.specs.Layout.{Layout}
use Rattle.ak_core.specs.Mem.{Access, access_to}
use Rattle.ak_core.specs.declared.page.Fault.{Fault}
use Rattle.ak_core.specs.declared.page.Kind.{Kind}
use Rattle.ak_model.specs.Paging.Pages.{pages}
use Rattle.ak_model.specs.Flat.FlatRuns.{Flat, Next, Line, line_of, is_program, operand_accesses, if_operand}
use Rattle.ak_exec.specs.Turns.{Raises, Refuses}
use Rattle.ak_exec.specs.declared.operands.Unreached.{Unreached}
use Rattle.ak_exec.specs.declared.operands.Unreached.TheVariants.{Outside, Refused}

-- ---- The one or two pages of an operand

-- the accesses of its first page, and of its last, where that is another
abbrev pub accesses_of : ℕ → ℕ → Kind → List Access
accesses_of p q kind = if p == q then access_to p kind ∷ [] else access_to p kind ∷ access_to q kind ∷ []

-- both were granted, of pages that are held
pub record Grants (p q : ℕ) (kind : Kind) (holds : ℕ → Bool) (before after : List Access) : Type 0 where
  pub granted : after ≡ before ++ accesses_of p q kind
  pub first : holds p ≡ true
  pub last : holds q ≡ true

-- they were granted up to this one, which is the next
pub record Stops (p q : ℕ) (kind : Kind) (fault : Fault) (before after : List Access) : Type 0 where
  pub rest : List Access
  pub next : before ++ accesses_of p q kind ≡ after ++ fault ∷ rest

-- both were granted, or one was refused
abbrev pub TouchesBoth : {T : Type 0} → ℕ → ℕ → Kind → Result T Fault → (ℕ → Bool) → List Access → List Access → Type 0
TouchesBoth p q kind (Ok done) holds before after = Grants p q kind holds before after
TouchesBoth p q kind (Err fault) holds before after = Stops p q kind fault before after

-- ---- The operand

-- its bytes are the program's, so far from the base
pub record IsPlace (layout : Layout) (address count place : ℕ) : Type 0 where
  pub program : is_program layout address count ≡ true
  pub from_base : layout.base + place ≡ address
  pub room : place + count ≤ 4096 * pages layout
  pub few : pages layout ≤ 512

-- its accesses were granted, of pages that are held
pub record IsReached (layout : Layout) (address count : ℕ) (kind : Kind) (place : ℕ) (holds : ℕ → Bool) (before after : List Access) : Type 0 where
  pub at : IsPlace layout address count place
  pub granted : after ≡ before ++ operand_accesses layout address count kind
  pub held : (k : ℕ) → k < count → holds ((place + k) / 4096) ≡ true

-- the line goes on, whatever state it then ends in
abbrev pub Reaches : Layout → ℕ → ℕ → Kind → List Access → List Access → Type 0
Reaches layout address count kind before after =
    (end : Flat) → if_operand layout before address count kind end ≡ line_of after (Next end)

-- the line ends before the operand was reached
abbrev pub EndsBefore : Line → Unreached → List Access → Type 0
EndsBefore line Outside granted = Raises line 13 granted
EndsBefore line (Refused fault) granted = Refuses line fault granted

-- so it does, whatever state it would have ended in
abbrev pub IsUnreached : Layout → ℕ → ℕ → Kind → Unreached → List Access → List Access → Type 0
IsUnreached layout address count kind unreached before after =
    (end : Flat) → EndsBefore (if_operand layout before address count kind end) unreached after

-- the access that was refused, if one was
abbrev pub refused_access : {T : Type 0} → Result T Unreached → Option Access
refused_access (Ok done) = None
refused_access (Err Outside) = None
refused_access (Err (Refused fault)) = Some fault
