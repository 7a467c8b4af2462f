-- What the outcome of a step of the runtime tells, beside the cause of death: the access at which the step faulted, and the break for
-- which the enclave dies.
use Rattle.std.specs.Prelude.{◌≡◌, Bool, true, false, List, Option, Some, None}
use Rattle.ak_core.specs.Layout.{Layout}
use Rattle.ak_core.specs.Mem.{Access}
use Rattle.ak_model.specs.Control.ControlState.{Dead, Context, Control}
use Rattle.ak_model.specs.Control.RuntimeTurn.{accesses, first_fault}
use Rattle.ak_model.specs.Paging.Histories.{History}
use Rattle.ak_model.specs.Tapes.LastMoment.{FlatRuns}
use Rattle.ak_model.specs.Tapes.ProgramTurns.{ProgramTurn}
use Rattle.ak_pager.specs.declared.turn.RtTurn.{RtTurn}
use Rattle.ak_relation.specs.Relation.Journals.{CauseNamesBreak}

-- a step that faulted
abbrev pub is_faulted : RtTurn → Bool
is_faulted (RtTurn.Faulted t) = true
is_faulted _ = false

-- the step faulted at this access, or at none
abbrev pub NotesRefusal : Option Access → RtTurn → Type 0
NotesRefusal None outcome = is_faulted outcome ≡ false
NotesRefusal (Some t) outcome = outcome ≡ RtTurn.Faulted t

-- a step by which the enclave died
abbrev pub is_death : RtTurn → Bool
is_death (RtTurn.Dead cause) = true
is_death _ = false

-- a cause that says that the program's page was unmapped names an access that forced a break
abbrev pub NamesItsBreak : Layout → FlatRuns → List ProgramTurn → RtTurn → Type 0
NamesItsBreak layout runs turns (RtTurn.Dead cause) = CauseNamesBreak layout runs turns cause
NamesItsBreak layout runs turns _ = Unit {0}

-- a step in this context, by the definitions and by the turns of the program so far; an enclave that is dead does not die once more
pub record StepNotes (layout : Layout) (runs : FlatRuns) (past : History) (control : Control) (context : Context) (turns : List ProgramTurn) (outcome : RtTurn) : Type 0 where
  pub refusal : NotesRefusal (first_fault layout past (accesses layout control context)) outcome
  pub once : control.phase ≡ Dead → is_death outcome ≡ false
  pub its_break : NamesItsBreak layout runs turns outcome
