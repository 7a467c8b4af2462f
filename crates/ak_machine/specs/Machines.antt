-- Which plain values a machine has, and that it stands for some history.
use Rattle.std.specs.Prelude.{◌≡◌, ℕ, ◌<◌, ◌≤◌, true, false, List, [], length, Some, slice_get}
use Rattle.ak_core.specs.Layout.{Layout}
use Rattle.ak_epcm.specs.Entries.{entry_at, has_page}
use Rattle.ak_model.specs.Control.ControlState.{Control}
use Rattle.ak_model.specs.Paging.Histories.{History}
use Rattle.ak_model.specs.Paging.Pages.{all_pages}
use Rattle.ak_model.specs.Tapes.ProgramTurns.{ProgramTurn}
use Rattle.ak_pte.specs.Table.{pte_at}
use Rattle.ak_pte.specs.declared.table.Pte.{Pte}
use Rattle.ak_walk.specs.Mappings.{mapping_of}
use Rattle.ak_relation.specs.Premises.Built.{IsBuilt}
use Rattle.ak_relation.specs.Relation.Does.{at_moment}
use Rattle.ak_relation.specs.Relation.Stands.{Stands}
use Rattle.ak_relation.specs.State.MachineState.{State}
use Rattle.ak_encls.specs.Enclave.{Enclave, frame_at}
use Rattle.ak_encls.specs.Paging.{IsPaging}
use Rattle.ak_enclu.specs.Machines.{IsProcessor}
use Rattle.ak_enclu.specs.declared.cpu.Cpu.{Cpu}
use Rattle.ak_memory.specs.declared.memory.Memory.{Memory}

-- the parts of a machine: what the kernel may know, the paging part, the page table, and the processors
pub record Parts : Type 0 where
  pub layout : Layout
  pub encls : Enclave
  pub table : List Pte
  pub cpus : List Cpu

-- the parts, by the memory that has two of them
abbrev pub parts_of : Layout → Memory → List Cpu → Parts
parts_of layout memory cpus = record { layout = layout; encls = memory.encls; table = memory.table; cpus = cpus }

-- these processors, by their numbers, and no others are inside
pub record AreProcessors (cpus : List Cpu) (state : State) : Type 0 where
  pub each : (lp : ℕ) (cpu : Cpu) → slice_get cpus lp ≡ Some cpu → (cpu.lp.0 ≡ lp) × IsProcessor cpu (state.processors lp)
  pub no_more : (lp : ℕ) → length cpus ≤ lp → (state.processors lp).inside ≡ false

-- the machine of these parts is in this state
pub record IsState (parts : Parts) (state : State) : Type 0 where
  pub paging : IsPaging parts.layout parts.encls state
  pub mapped : (p : ℕ) → p < all_pages parts.layout → state.table p ≡ mapping_of (pte_at parts.table p)
  pub processors : AreProcessors parts.cpus state

-- such a machine stands at a moment of a trace
pub record StandsSomewhere (parts : Parts) : Type 0 where
  pub image : List ℕ
  pub past : History
  pub control : Control
  pub turns : List ProgramTurn
  pub state : State
  pub machine : IsState parts state
  pub stands : Stands parts.layout image (at_moment past control turns state)

-- it does, with as many processors and entries of the page table as the layout says
pub record IsSound (parts : Parts) : Type 0 where
  pub each : length parts.cpus ≡ parts.layout.lps
  pub sized : length parts.table ≡ all_pages parts.layout
  pub somewhere : StandsSomewhere parts

-- a frame holds the page, and has these bytes
pub record HasBytes (encls : Enclave) (p : ℕ) (bytes : List ℕ) : Type 0 where
  pub frame : ℕ
  pub held : has_page (entry_at encls.entries frame) p ≡ true
  pub bytes_are : bytes ≡ frame_at encls.frames frame

-- the machine with so many blank pages to spare
abbrev pub with_spare : Parts → ℕ → Parts
with_spare parts n = record parts { encls = record parts.encls { handles = record parts.encls.handles { spare = n } } }

-- so many processors, by their numbers, each outside and with nothing cached
pub record AreNew (lps : ℕ) (cpus : List Cpu) : Type 0 where
  pub count : length cpus ≡ lps
  pub each : (lp : ℕ) (cpu : Cpu) → slice_get cpus lp ≡ Some cpu → (cpu.lp.0 ≡ lp) × (cpu.inside ≡ false) × (cpu.tlb ≡ [])

-- some state of the machine is as the build of an image leaves it
pub record IsJustBuilt (image : List ℕ) (parts : Parts) : Type 0 where
  pub state : State
  pub machine : IsState parts state
  pub built : IsBuilt parts.layout image state
