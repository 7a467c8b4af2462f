-- The relation: what a machine stands for after a history of an image's moves, or between two turns of a run.
use Rattle.std.specs.Prelude.{◌≡◌, ℕ, true, List}
use Rattle.ak_core.specs.Layout.{Layout}
use Rattle.ak_model.specs.Paging.Histories.{History}
use Rattle.ak_model.specs.Paging.Handles.{place}
use Rattle.ak_model.specs.Flat.FlatRuns.{Flat, flat_run}
use Rattle.ak_model.specs.Control.ControlState.{Control}
use Rattle.ak_model.specs.Tapes.LastMoment.{FlatRuns}
use Rattle.ak_model.specs.Tapes.ProgramTurns.{ProgramTurn}
use Rattle.ak_model.specs.Sound.Forced.{queue_by}
use Rattle.ak_relation.specs.State.MachineState.{Processor, State, copy}
use Rattle.ak_pager.specs.Contexts.{GivesNow}
use Rattle.ak_relation.specs.Program.FlatPlaces.{IsAt}
use Rattle.ak_relation.specs.Program.Inputs.{InputsStand}
use Rattle.ak_relation.specs.Bytes.Pages.{CopiesStand}
use Rattle.ak_pager.specs.RuntimePages.{Copies}
use Rattle.ak_relation.specs.State.Tables.{TablesStand}
use Rattle.ak_relation.specs.Program.Turns.{events_by, TapeStands, TurnsStand, LawsStand}
use Rattle.ak_relation.specs.Program.Reaching.{ReachedStands}

-- a moment of an enclave: the history before the move that is being made, the control state with no event left, the program's turns
-- so far, the newest first, and the machine
pub record Standing : Type 0 where
  pub past : History
  pub control : Control
  pub turns : List ProgramTurn
  pub state : State

-- the flat run of an image with the values that were returned so far
abbrev pub runs_at : Layout → List ℕ → Control → FlatRuns
runs_at layout image control = flat_run layout image control.returned

-- the bytes of each page's newest copy
abbrev pub copies_at : Layout → History → State → Copies
copies_at layout past state p = copy state (place layout past p)

-- the registers of the processor inside are those of its context
pub record RegistersStand (layout : Layout) (control : Control) (flat : Flat) (processors : ℕ → Processor) : Type 0 where
  pub given : (lp : ℕ) → (processors lp).inside ≡ true → GivesNow layout control.phase flat control.now (processors lp).regs

-- the part on bytes: the program is at a flat state, which pages and registers show
pub record BytesStand (layout : Layout) (image : List ℕ) (control : Control) (copies : Copies) (processors : ℕ → Processor) : Type 0 where
  pub flat : Flat
  pub program : IsAt layout image control flat
  pub pages : CopiesStand layout control.phase control.queue control.stack control.pending flat copies
  pub registers : RegistersStand layout control flat processors

-- the relation
pub record Stands (layout : Layout) (image : List ℕ) (at : Standing) : Type 0 where
  pub inputs : InputsStand layout image at.control
  pub tape : TapeStands layout (runs_at layout image at.control) at.control.count (events_by at.turns)
  pub turns : TurnsStand layout (runs_at layout image at.control) at.turns
  pub laws : LawsStand layout at.past at.control at.turns
  pub counted : at.state.count ≡ at.control.count
  pub queued : at.state.queue ≡ queue_by layout at.turns
  pub tables : TablesStand layout at.past at.state
  pub bytes : BytesStand layout image at.control (copies_at layout at.past at.state) at.state.processors
  pub reached : ReachedStands layout (runs_at layout image at.control) at.past at.control at.turns at.state.processors
      (copies_at layout at.past at.state)
