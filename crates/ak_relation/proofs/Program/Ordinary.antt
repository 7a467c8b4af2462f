-- What the machine shows of a turn of the program that completes an instruction, and is no call.
use Rattle.std.specs.Prelude.{◌≡◌, ℕ, ◌+◌, ◌<◌, ◌≤◌, false, ◌||◌, ◌==◌}
use Rattle.ak_core.specs.Layout.{Layout}
use Rattle.ak_core.specs.Mem.{Access}
use Rattle.ak_model.specs.Paging.Pages.{pages}
use Rattle.ak_model.specs.Paging.Histories.{History}
use Rattle.ak_model.specs.Flat.FlatRuns.{Flat, End, line, ending, page_bytes}
use Rattle.ak_model.specs.Misses.KeptTranslations.{is_among}
use Rattle.ak_relation.specs.State.MachineState.{State}
use Rattle.ak_pager.specs.RuntimePages.{OfCopy}
use Rattle.ak_relation.specs.State.Tables.{TablesStand}
use Rattle.ak_relation.specs.Program.Reaching.{is_filled, AreReached}
use Rattle.ak_relation.specs.Relation.Stands.{copies_at}

-- the processor's registers and the program's pages show the next flat state; what was cached grows by the accesses of the line,
-- each found by a walk; and all else stays
pub record Completes (layout : Layout) (past : History) (lp place : ℕ) (flat after : Flat) (old new : State) : Type 0 where
  pub ends : ending layout flat ≡ End.Next after
  pub regs : (new.processors lp).regs ≡ after.regs
  pub filled : (t : Access) →
      is_filled (new.processors lp).fills t ≡ (is_among (line layout flat).accesses t || is_filled (old.processors lp).fills t)
  pub reached : AreReached layout past place (new.processors lp).fills
  pub tcs : (new.processors lp).tcs ≡ (old.processors lp).tcs
  pub ssa : (new.processors lp).ssa ≡ (old.processors lp).ssa
  pub others : (q : ℕ) → (q == lp) ≡ false → new.processors q ≡ old.processors q
  pub program : (p : ℕ) → p < pages layout → OfCopy (copies_at layout past new p) (λ bytes. bytes ≡ page_bytes after p)
  pub runtime : (p : ℕ) → pages layout ≤ p → copies_at layout past new p ≡ copies_at layout past old p
  pub count : new.count ≡ old.count + 1
  pub queue : new.queue ≡ old.queue
  pub tables : TablesStand layout past new
