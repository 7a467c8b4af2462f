-- What one instruction of the program does over a memory whose cached translations are in use.
use Rattle.std.specs.Prelude.{◌≡◌, ℕ, true, false, List}
use Rattle.std.specs.List.{list_all}
use Rattle.ak_core.specs.Layout.{Layout}
use Rattle.ak_core.specs.Mem.{Access}
use Rattle.ak_core.specs.declared.page.Entry.{Entry}
use Rattle.ak_core.specs.declared.registers.Regs.{Regs}
use Rattle.ak_exec.specs.Turns.{Shows, DoesLine, IfIncomplete, IsVector, KeepsUnwritten}
use Rattle.ak_exec.specs.declared.turn.Turn.{Turn}
use Rattle.ak_model.specs.Flat.FlatRuns.{Flat, line}
use Rattle.ak_memory.specs.Granting.{is_granted, is_seen, bytes_of, whole_page}
use Rattle.ak_memory.specs.Keeping.{KeepsFrames}
use Rattle.ak_memory.specs.Spots.{accesses_in}
use Rattle.ak_memory.specs.declared.memory.Memory.{Memory}

-- the bytes of each page, as a memory over these frames has them
abbrev pub memory_bytes : List (List ℕ) → List Entry → ℕ → List ℕ
memory_bytes frames entries p = whole_page (bytes_of frames entries p)

-- the accesses that a memory granted in this turn
abbrev pub granted_in : Memory → List Access
granted_in memory = accesses_in memory.touched.items

-- the refused access, if there is one, is granted by nothing
abbrev pub IsRefused : (Access → Type 0) → Turn → Type 0
IsRefused refused (Turn.Faulted t) = refused t
IsRefused refused _ = Unit {0}

-- the accesses were granted by the tables and by what is cached, and a refused one is granted by neither; tables and what is cached
-- stay; and registers and bytes are those of the line of each flat state that the memory showed
pub record Instructs (layout : Layout) (turn : Turn) (regs regs' : Regs) (old new : Memory) : Type 0 where
  pub kept : KeepsFrames old.encls new.encls
  pub table : new.table ≡ old.table
  pub tlb : new.tlb ≡ old.tlb
  pub uses_cache : new.uses_cache ≡ true
  pub granted : list_all (is_granted old.encls.entries old.table old.tlb) (granted_in new) ≡ true
  pub refused : IsRefused (λ t. is_granted old.encls.entries old.table old.tlb t ≡ false) turn
  pub mode : regs'.mode ≡ regs.mode
  pub vector : IsVector turn
  pub same_registers : IfIncomplete turn (regs' ≡ regs)
  pub same_bytes : IfIncomplete turn (memory_bytes new.encls.frames old.encls.entries ≡ memory_bytes old.encls.frames old.encls.entries)
  pub unwritten : KeepsUnwritten (granted_in new) (memory_bytes old.encls.frames old.encls.entries) (memory_bytes new.encls.frames old.encls.entries)
  pub line_is : (flat : Flat) → flat.regs ≡ regs → Shows layout (is_seen old.encls.entries old.table old.tlb) (memory_bytes old.encls.frames old.encls.entries) flat →
      DoesLine layout (line layout flat) turn regs' (is_seen old.encls.entries old.table old.tlb) (memory_bytes new.encls.frames old.encls.entries) (granted_in new)
