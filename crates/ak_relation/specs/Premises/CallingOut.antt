-- What the machine shows of a turn of the program that completes a call: the instruction leaves no byte changed.
use Rattle.std.specs.Prelude.{◌≡◌, ℕ, ◌+◌, false, ◌||◌, List, ◌++◌, map, ◌==◌}
use Rattle.ak_core.specs.Layout.{Layout}
use Rattle.ak_core.specs.Mem.{Access}
use Rattle.ak_model.specs.Flat.FlatRuns.{Flat, End, line, ending}
use Rattle.ak_model.specs.Misses.KeptTranslations.{is_among}
use Rattle.ak_relation.specs.State.MachineState.{State}
use Rattle.ak_pager.specs.Contexts.{IsAtStep, SameButRip}
use Rattle.ak_relation.specs.Program.Reaching.{is_filled}
use Rattle.ak_tlb.specs.Fills.{Fill}
use Rattle.ak_relation.specs.Premises.Faulting.{AreWalked}
use Rattle.ak_relation.specs.Program.Seeing.{Sees}

-- what a walk that finds this access caches
abbrev pub walked_fill : State → Access → Fill
walked_fill state t = record { access = t; frame = (state.table t.page.0).frame }

-- the processor is at the leave step with the program's registers; what was cached grows by the accesses of the line, each found by
-- a walk; one more instruction is complete; and all else stays
pub record CallsOut (layout : Layout) (lp : ℕ) (flat after : Flat) (number argument : ℕ) (old new : State) : Type 0 where
  pub ends : ending layout flat ≡ End.Call number argument after
  pub step : IsAtStep layout (new.processors lp).regs 32
  pub regs : SameButRip (new.processors lp).regs after.regs
  pub walked : List Access
  pub found : AreWalked layout old walked
  pub fills : (new.processors lp).fills ≡ map (walked_fill old) walked ++ (old.processors lp).fills
  pub filled : (t : Access) →
      is_filled (new.processors lp).fills t ≡ (is_among (line layout flat).accesses t || is_filled (old.processors lp).fills t)
  pub inside : (new.processors lp).inside ≡ (old.processors lp).inside
  pub tcs : (new.processors lp).tcs ≡ (old.processors lp).tcs
  pub ssa : (new.processors lp).ssa ≡ (old.processors lp).ssa
  pub others : (q : ℕ) → (q == lp) ≡ false → new.processors q ≡ old.processors q
  pub count : new.count ≡ old.count + 1
  pub queue : new.queue ≡ old.queue
  pub entries : new.entries ≡ old.entries
  pub stamps : new.stamps ≡ old.stamps
  pub track : new.track ≡ old.track
  pub frames : new.frames ≡ old.frames
  pub sealed_pages : new.sealed_pages ≡ old.sealed_pages
  pub next : new.next ≡ old.next
  pub table : new.table ≡ old.table

-- wherever the program is that the processor sees, the instruction is this call
abbrev pub ShowsCall : Layout → ℕ → State → State → ℕ → ℕ → Type 0
ShowsCall layout lp old new b a = (flat : Flat) → Sees layout old lp flat → (after : Flat) × CallsOut layout lp flat after b a old new
