-- When a processor, the page table and the paging part are those of a machine.
use Rattle.std.specs.Prelude.{◌≡◌, ℕ, ◌<◌, List}
use Rattle.ak_core.specs.Layout.{Layout}
use Rattle.ak_model.specs.Paging.Pages.{all_pages}
use Rattle.ak_pte.specs.declared.table.Pte.{Pte}
use Rattle.ak_tlb.specs.Fills.{HoldsFills}
use Rattle.ak_relation.specs.State.MachineState.{State, Processor}
use Rattle.ak_encls.specs.Enclave.{Enclave}
use Rattle.ak_encls.specs.Paging.{IsPaging}
use Rattle.ak_pte.specs.Table.{pte_at}
use Rattle.ak_walk.specs.Mappings.{mapping_of}
use Rattle.ak_enclu.specs.declared.cpu.Cpu.{Cpu}

-- the machine's processor is this one
pub record IsProcessor (cpu : Cpu) (processor : Processor) : Type 0 where
  pub inside : processor.inside ≡ cpu.inside
  pub regs : processor.regs ≡ cpu.regs
  pub tcs : processor.tcs ≡ cpu.tcs.0
  pub ssa : processor.ssa ≡ cpu.ssa.0
  pub fills : HoldsFills cpu.tlb processor.fills

-- the machine has this processor, this page table and this paging part
pub record IsMachine (layout : Layout) (cpu : Cpu) (table : List Pte) (encls : Enclave) (state : State) : Type 0 where
  pub processor : IsProcessor cpu (state.processors cpu.lp.0)
  pub mapped : (p : ℕ) → p < all_pages layout → state.table p ≡ mapping_of (pte_at table p)
  pub paging : IsPaging layout encls state

-- it leads from one machine to another, of which this holds
pub record LeadsToWhere (layout : Layout) (cpu : Cpu) (table : List Pte) (encls : Enclave) (holds : State → Type 0) : Type 0 where
  pub state : State
  pub machine : IsMachine layout cpu table encls state
  pub does : holds state
