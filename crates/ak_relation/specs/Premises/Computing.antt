-- What the machine shows of a turn of the program that completes an instruction and is no call, by its own tables alone.
use Rattle.std.specs.Prelude.{◌≡◌, ℕ, ◌+◌, ◌<◌, ◌≤◌, false, ◌||◌, List, ◌++◌, length, map, ◌==◌}
use Rattle.ak_core.specs.Layout.{Layout}
use Rattle.ak_core.specs.Mem.{Access}
use Rattle.ak_model.specs.Paging.Pages.{pages}
use Rattle.ak_model.specs.Paging.Holdings.{PageFrame}
use Rattle.ak_model.specs.Flat.FlatRuns.{Flat, End, line, ending, page_bytes}
use Rattle.ak_model.specs.Misses.KeptTranslations.{is_among}
use Rattle.ak_epcm.specs.Entries.{entry_at}
use Rattle.ak_relation.specs.State.MachineState.{State}
use Rattle.ak_relation.specs.State.MachineView.{held_in}
use Rattle.ak_relation.specs.Program.Reaching.{is_filled}
use Rattle.ak_relation.specs.Premises.Faulting.{AreWalked}
use Rattle.ak_relation.specs.Premises.CallingOut.{walked_fill}
use Rattle.ak_relation.specs.Program.Seeing.{Sees}

-- the processor has the next flat state's registers, and each frame of a program's page its bytes; what was cached grows by the
-- accesses of the line, each found by a walk; and all else stays
pub record Computes (layout : Layout) (lp : ℕ) (flat after : Flat) (old new : State) : Type 0 where
  pub ends : ending layout flat ≡ End.Next after
  pub regs : (new.processors lp).regs ≡ after.regs
  pub written : (f p : ℕ) → held_in (entry_at old.entries f) ≡ PageFrame p → p < pages layout → old.frames f ≡ page_bytes flat p →
      new.frames f ≡ page_bytes after p
  pub frames : (f : ℕ) → ((p : ℕ) → held_in (entry_at old.entries f) ≡ PageFrame p → pages layout ≤ p) → new.frames f ≡ old.frames f
  pub whole : (f : ℕ) → length (new.frames f) ≡ 4096
  pub walked : List Access
  pub found : AreWalked layout old walked
  pub fills : (new.processors lp).fills ≡ map (walked_fill old) walked ++ (old.processors lp).fills
  pub filled : (t : Access) →
      is_filled (new.processors lp).fills t ≡ (is_among (line layout flat).accesses t || is_filled (old.processors lp).fills t)
  pub inside : (new.processors lp).inside ≡ (old.processors lp).inside
  pub tcs : (new.processors lp).tcs ≡ (old.processors lp).tcs
  pub ssa : (new.processors lp).ssa ≡ (old.processors lp).ssa
  pub others : (q : ℕ) → (q == lp) ≡ false → new.processors q ≡ old.processors q
  pub count : new.count ≡ old.count + 1
  pub queue : new.queue ≡ old.queue
  pub entries : new.entries ≡ old.entries
  pub stamps : new.stamps ≡ old.stamps
  pub track : new.track ≡ old.track
  pub sealed_pages : new.sealed_pages ≡ old.sealed_pages
  pub next : new.next ≡ old.next
  pub table : new.table ≡ old.table

-- wherever the program is that the processor sees, the instruction completes
abbrev pub ShowsComputed : Layout → ℕ → State → State → Type 0
ShowsComputed layout lp old new = (flat : Flat) → Sees layout old lp flat → (after : Flat) × Computes layout lp flat after old new
