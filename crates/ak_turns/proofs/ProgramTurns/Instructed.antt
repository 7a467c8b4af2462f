-- What one instruction does over a memory, from what it does over the memory whose cached translations were taken into use.
use Rattle.std.proofs.Common.{◌≡◌, ℕ, Bool, true, false, List, ap, sym, ◌∙◌, subst}
use Rattle.std.specs.List.{list_all}
use Rattle.ak_core.specs.Layout.{Layout}
use Rattle.ak_core.specs.Mem.{Access}
use Rattle.ak_core.specs.declared.page.Entry.{Entry}
use Rattle.ak_core.specs.declared.registers.Regs.{Regs}
use Rattle.ak_exec.specs.Turns.{Shows, DoesLine, IfIncomplete, IsVector, KeepsUnwritten, refused_by}
use Rattle.ak_exec.specs.declared.turn.Turn.{Turn}
use Rattle.ak_model.specs.Flat.FlatRuns.{Flat, line}
use Rattle.ak_pte.specs.declared.table.Pte.{Pte}
use Rattle.ak_tlb.specs.declared.translation.Translation.{Translation}
use Rattle.ak_encls.specs.Enclave.{Enclave}
use Rattle.ak_memory.specs.Granting.{is_granted, is_seen, in_use}
use Rattle.ak_memory.specs.Keeping.{KeepsAround}
use Rattle.ak_memory.specs.declared.memory.Memory.{Memory}
use Rattle.ak_turns.specs.Instructing.{memory_bytes, granted_in, IsRefused, Instructs}

-- what `exec` says, of the values that the memory had before
pub record HasRun (layout : Layout) (turn : Turn) (regs regs' : Regs) (encls : Enclave) (table : List Pte) (cached : List Translation) (uses : Bool) (new : Memory) : Type 0 where
  pub keeps : KeepsAround encls new.encls table new.table cached new.tlb uses new.uses_cache
  pub holds : is_seen new.encls.entries new.table (in_use new.uses_cache new.tlb) ≡ is_seen encls.entries table (in_use uses cached)
  pub mode : regs'.mode ≡ regs.mode
  pub vector : IsVector turn
  pub refused : new.denied ≡ refused_by turn
  pub same_registers : IfIncomplete turn (regs' ≡ regs)
  pub same_bytes : IfIncomplete turn (memory_bytes new.encls.frames new.encls.entries ≡ memory_bytes encls.frames encls.entries)
  pub unwritten : KeepsUnwritten (granted_in new) (memory_bytes encls.frames encls.entries) (memory_bytes new.encls.frames new.encls.entries)
  pub line_is : (flat : Flat) → flat.regs ≡ regs → Shows layout (is_seen encls.entries table (in_use uses cached)) (memory_bytes encls.frames encls.entries) flat →
      DoesLine layout (line layout flat) turn regs' (is_seen new.encls.entries new.table (in_use new.uses_cache new.tlb)) (memory_bytes new.encls.frames new.encls.entries) (granted_in new)

module _ (layout : Layout) (turn : Turn) (regs regs' : Regs) where
  -- the same of the memory before
  moved_run : (old mid new : Memory) → mid.encls ≡ old.encls → mid.table ≡ old.table → mid.tlb ≡ old.tlb → mid.uses_cache ≡ true
      → HasRun layout turn regs regs' mid.encls mid.table mid.tlb mid.uses_cache new → HasRun layout turn regs regs' old.encls old.table old.tlb true new
  moved_run old mid new encls table tlb uses h =
      subst (λ (b : Bool). HasRun layout turn regs regs' old.encls old.table old.tlb b new) uses
      (subst (λ (c : List Translation). HasRun layout turn regs regs' old.encls old.table c mid.uses_cache new) tlb
      (subst (λ (t : List Pte). HasRun layout turn regs regs' old.encls t mid.tlb mid.uses_cache new) table
      (subst (λ (e : Enclave). HasRun layout turn regs regs' e mid.table mid.tlb mid.uses_cache new) encls h)))

  -- a test of granted accesses, over the tables before
  module _ (old new : Memory) (keeps : KeepsAround old.encls new.encls old.table new.table old.tlb new.tlb true new.uses_cache) where
    same_entries : new.encls.entries ≡ old.encls.entries
    same_entries = ap (λ (e : Enclave). e.entries) keeps.encls.rest

    granted_same : is_granted new.encls.entries new.table (in_use new.uses_cache new.tlb) ≡ is_granted old.encls.entries old.table old.tlb
    granted_same =
        ap (λ (es : List Entry). is_granted es new.table (in_use new.uses_cache new.tlb)) same_entries
        ∙ ap (λ (t : List Pte). is_granted old.encls.entries t (in_use new.uses_cache new.tlb)) keeps.mapped
        ∙ ap (λ (b : Bool). is_granted old.encls.entries old.table (in_use b new.tlb)) keeps.uses_cache
        ∙ ap (λ (c : List Translation). is_granted old.encls.entries old.table c) keeps.tlb

    refused_of : (t : Turn) → new.denied ≡ refused_by t → IsRefused (λ u. is_granted old.encls.entries old.table old.tlb u ≡ false) t
    refused_of Turn.Done e = tt
    refused_of (Turn.Called b a) e = tt
    refused_of (Turn.Trapped v) e = tt
    refused_of (Turn.Faulted t) e = ap (λ (f : Access → Bool). f t) (sym granted_same) ∙ new.lost t e

  pub instructed : (old mid new : Memory) → mid.encls ≡ old.encls → mid.table ≡ old.table → mid.tlb ≡ old.tlb → mid.uses_cache ≡ true
      → HasRun layout turn regs regs' mid.encls mid.table mid.tlb mid.uses_cache new
      → list_all (is_granted new.encls.entries new.table (in_use new.uses_cache new.tlb)) (granted_in new) ≡ true → Instructs layout turn regs regs' old new
  instructed old mid new encls table tlb uses h all =
      let run = moved_run old mid new encls table tlb uses h in
      let same = same_entries old new run.keeps in
      record {
        kept = run.keeps.encls;
        table = run.keeps.mapped;
        tlb = run.keeps.tlb;
        uses_cache = run.keeps.uses_cache;
        granted = ap (λ (f : Access → Bool). list_all f (granted_in new)) (sym (granted_same old new run.keeps)) ∙ all;
        refused = refused_of old new run.keeps turn run.refused;
        mode = run.mode;
        vector = run.vector;
        same_registers = run.same_registers;
        same_bytes = subst (λ (es : List Entry). IfIncomplete turn (memory_bytes new.encls.frames es ≡ memory_bytes old.encls.frames old.encls.entries)) same run.same_bytes;
        unwritten = subst (λ (es : List Entry). KeepsUnwritten (granted_in new) (memory_bytes old.encls.frames old.encls.entries) (memory_bytes new.encls.frames es)) same run.unwritten;
        line_is = λ flat registers shows.
            subst (λ (es : List Entry). DoesLine layout (line layout flat) turn regs' (is_seen old.encls.entries old.table old.tlb) (memory_bytes new.encls.frames es) (granted_in new)) same
            (subst (λ (held : ℕ → Bool). DoesLine layout (line layout flat) turn regs' held (memory_bytes new.encls.frames new.encls.entries) (granted_in new)) run.holds
            (run.line_is flat registers shows));
      }
