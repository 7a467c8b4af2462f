-- What has happened: the kernel's moves with their answers, the newest first, and what each pair changed.
use Rattle.std.specs.Prelude.{ℕ, ◌-◌, Bool, true, false, List, length, drop}
use Rattle.ak_core.specs.declared.moves.Move.{Move}
use Rattle.ak_core.specs.declared.moves.Move.TheVariants.{SetPte, ReadPte, Eblock, Etrack, Ewb, Eldu, Eldb, Eremove, Epa, Discard, Eenter, Eresume, Run, Interrupt}
use Rattle.ak_core.specs.declared.moves.Answer.{Answer}
use Rattle.ak_core.specs.declared.moves.Answer.TheVariants.{Ok, OkHandle, Exit as ExitBy}
use Rattle.ak_core.specs.declared.moves.Exit.{Exit}
use Rattle.ak_core.specs.declared.moves.Exit.TheVariants.{Still}
use Rattle.ak_core.specs.declared.page.Flags.{Flags}

-- a move and its answer
abbrev pub Pair : Type 0
Pair = Move × Answer

-- the newest pair first, so that one more move is one more head; the oldest pair has place 1, and the head has the length
-- as its place
abbrev pub History : Type 0
History = List Pair

-- the history's first j pairs
abbrev pub first : History → ℕ → History
first past j = drop (length past - j) past

-- what a move changed, by its answer; a refused move changed nothing
pub data Change : Type 0 where
  Unchanged : Change
  Maps : (page frame : ℕ) (flags : Flags) → Change
  Blocks : (frame : ℕ) → Change
  Cycles : Change
  WritesOut : (frame va slot handle : ℕ) → Change
  Loads : (frame handle page va slot : ℕ) (blocked : Bool) → Change
  Removes : (frame : ℕ) → Change
  MakesVa : (frame : ℕ) → Change
  Discards : (handle : ℕ) → Change
  Enters : (lp value : ℕ) → Change
  Resumes : (lp : ℕ) → Change
  Exits : (lp : ℕ) (exit : Exit) → Change
  Interrupts : (lp : ℕ) → Change

-- the change, where the answer is Ok
abbrev pub if_ok : Answer → Change → Change
if_ok Ok change = change
if_ok _ change = Unchanged

-- the change, where the answer gives a handle
abbrev pub if_handle : Answer → (ℕ → Change) → Change
if_handle (OkHandle k) change = change k.0
if_handle _ change = Unchanged

-- the change, where a run left
abbrev pub if_left : Exit → Change → Change
if_left Still change = Unchanged
if_left _ change = change

-- the change, where the answer shows an exit
abbrev pub if_exit : Answer → (Exit → Change) → Change
if_exit (ExitBy exit) change = if_left exit (change exit)
if_exit _ change = Unchanged

-- the change that a move made, by its answer
abbrev pub change : Move → Answer → Change
change (SetPte p f flags) a = if_ok a (Maps p.0 f.0 flags)
change (ReadPte p) a = Unchanged
change (Eblock f) a = if_ok a (Blocks f.0)
change Etrack a = if_ok a Cycles
change (Ewb f va i) a = if_handle a (λ k. WritesOut f.0 va.0 i k)
change (Eldu f k p va i) a = if_ok a (Loads f.0 k.0 p.0 va.0 i false)
change (Eldb f k p va i) a = if_ok a (Loads f.0 k.0 p.0 va.0 i true)
change (Eremove f) a = if_ok a (Removes f.0)
change (Epa f) a = if_ok a (MakesVa f.0)
change (Discard k) a = if_ok a (Discards k.0)
change (Eenter lp v) a = if_ok a (Enters lp.0 v)
change (Eresume lp) a = if_ok a (Resumes lp.0)
change (Run lp n) a = if_exit a (λ exit. Exits lp.0 exit)
change (Interrupt lp) a = if_ok a (Interrupts lp.0)

-- the change of a pair
abbrev pub change_of : Pair → Change
change_of pair = change pair.0 pair.1
