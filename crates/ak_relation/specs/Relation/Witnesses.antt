-- Witnesses of the parts of the relation that say nothing at most moments: a machine that was reached by moves, and a moment of their
-- trace at which it stands, where such a part says something.
use Rattle.std.specs.Prelude.{◌≡◌, ℕ, true, List, [], ◌∷◌, length, Some}
use Rattle.ak_core.specs.Layout.{Layout}
use Rattle.ak_core.specs.declared.event.Event.{Event}
use Rattle.ak_model.specs.Paging.Pages.{ssa_page, state_page}
use Rattle.ak_model.specs.Paging.Histories.{History}
use Rattle.ak_model.specs.Control.ControlState.{Asked, Broke, Saved, Control}
use Rattle.ak_model.specs.Flat.Instructions.{reg_of, rax}
use Rattle.ak_model.specs.Flat.FlatRuns.{Flat}
use Rattle.ak_model.specs.Tapes.ProgramTurns.{ProgramTurn}
use Rattle.ak_pager.specs.RuntimePages.{KeepsProgram}
use Rattle.ak_relation.specs.Program.FlatPlaces.{IsAt, Reaches}
use Rattle.ak_relation.specs.Program.Reaching.{NamesBreak}
use Rattle.ak_relation.specs.Program.Turns.{events_by}
use Rattle.ak_relation.specs.State.MachineState.{State}
use Rattle.ak_relation.specs.Relation.Stands.{Standing, Stands, runs_at, copies_at}
use Rattle.ak_relation.specs.Relation.Does.{at_moment}
use Rattle.ak_relation.specs.Relation.MoveByMove.{HasMoved}

-- some machine went through these moves with these events, and stands at a moment of this history and these events, of which this holds
pub record IsWitness (layout : Layout) (image : List ℕ) (past : History) (events : List Event) (shows : Standing → Type 0) : Type 0 where
  pub state : State
  pub moved : HasMoved layout image past state events
  pub control : Control
  pub turns : List ProgramTurn
  pub told : events_by turns ≡ events
  pub stands : Stands layout image (at_moment past control turns state)
  pub shown : shows (at_moment past control turns state)

-- a saved context broke, and its area has bytes, which name an access that forced the break
pub record ShowsBreak (layout : Layout) (image : List ℕ) (at : Standing) : Type 0 where
  pub saved : Saved
  pub older : List Saved
  pub newest : at.control.stack ≡ saved ∷ older
  pub broke : saved.reason ≡ Broke
  pub bytes : List ℕ
  pub copied : copies_at layout at.past at.state (ssa_page layout (length older)) ≡ Some bytes
  pub names : NamesBreak layout (runs_at layout image at.control) at.turns bytes

-- this cluster is asked for, and STATE has bytes, which keep the frame of the program where it is
pub record ShowsAsking (layout : Layout) (image : List ℕ) (cluster : ℕ) (at : Standing) : Type 0 where
  pub asks : at.control.phase ≡ Asked cluster
  pub bytes : List ℕ
  pub copied : copies_at layout at.past at.state (state_page layout) ≡ Some bytes
  pub flat : Flat
  pub program : IsAt layout image at.control flat
  pub keeps : KeepsProgram layout flat bytes

-- this value was returned, and no other; the flat run that it is given to comes to the next instruction with it in RAX, and so does the
-- processor
pub record ShowsValue (layout : Layout) (image : List ℕ) (lp value : ℕ) (at : Standing) : Type 0 where
  pub returned : at.control.returned ≡ value ∷ []
  pub flat : Flat
  pub reached : Reaches layout image (value ∷ []) at.control.count flat
  pub has : reg_of flat.regs rax ≡ value
  pub inside : (at.state.processors lp).inside ≡ true
  pub same : (at.state.processors lp).regs ≡ flat.regs
