-- What a step of the runtime comes to in frames and tables, over a memory that uses no cached translation.
use Rattle.std.specs.Prelude.{◌≡◌, ℕ, true, false, List, [], length, Option, Some}
use Rattle.std.specs.List.{list_all}
use Rattle.ak_core.specs.Layout.{Layout}
use Rattle.ak_core.specs.Mem.{Access}
use Rattle.ak_core.specs.declared.page.Entry.{Entry}
use Rattle.ak_core.specs.declared.registers.Mode.{Mode}
use Rattle.ak_core.specs.declared.registers.Regs.{Regs}
use Rattle.ak_epcm.specs.Entries.{entry_at, has_page, is_of_page}
use Rattle.ak_pte.specs.declared.table.Pte.{Pte}
use Rattle.ak_pager.specs.Effects.{StepsAlways}
use Rattle.ak_pager.specs.declared.turn.RtTurn.{RtTurn}
use Rattle.ak_encls.specs.Enclave.{Enclave, frame_at}
use Rattle.ak_enclu.specs.declared.cpu.Cpu.{Cpu}
use Rattle.ak_memory.specs.Granting.{is_walked, is_seen}

-- the bytes of pages before and after are those of the frames that hold them; a frame of no page of the enclave stays, and all are whole
pub record IsStepMemory (entries : List Entry) (old new : List (List ℕ)) (before after : ℕ → List ℕ) : Type 0 where
  pub before_is : (f p : ℕ) → has_page (entry_at entries f) p ≡ true → before p ≡ frame_at old f
  pub after_is : (f p : ℕ) → has_page (entry_at entries f) p ≡ true → after p ≡ frame_at new f
  pub others : (f : ℕ) → is_of_page (entry_at entries f) ≡ false → frame_at new f ≡ frame_at old f
  pub whole : (f : ℕ) → length (frame_at new f) ≡ 4096

-- walks found the granted accesses, and none found the refused one; and in each context for which a step is defined, it comes to this
-- outcome and these registers
pub record StepDone (layout : Layout) (cpu : Cpu) (table : List Pte) (encls : Enclave) (new : List (List ℕ)) (before after : ℕ → List ℕ) (granted : List Access) (refused : Option Access) (outcome : RtTurn) (regs : Regs) : Type 0 where
  pub mode : cpu.regs.mode ≡ Mode.Runtime
  pub memory : IsStepMemory encls.entries encls.frames new before after
  pub found : list_all (is_walked encls.entries table) granted ≡ true
  pub lost : (t : Access) → refused ≡ Some t → is_walked encls.entries table t ≡ false
  pub steps : StepsAlways layout cpu.regs (λ p. is_seen encls.entries table [] p) before after granted refused outcome regs

-- with some bytes of pages and some accesses, it came to this outcome and these registers; of the enclave the bytes of frames alone differ
pub record HasStepped (layout : Layout) (cpu : Cpu) (table : List Pte) (old new : Enclave) (outcome : RtTurn) (regs : Regs) : Type 0 where
  pub before : ℕ → List ℕ
  pub after : ℕ → List ℕ
  pub granted : List Access
  pub refused : Option Access
  pub done : StepDone layout cpu table old new.frames before after granted refused outcome regs
  pub rest : new ≡ record old { frames = new.frames }
