-- The machine after moves that change one table: a tracking cycle, an entry of the page table, a block, a removal and a discarded
-- handle; and the answer to a reading of the page table. (SDM volume 3D, ETRACK, EBLOCK, EREMOVE.)
use Rattle.std.specs.Prelude.{◌≡◌, ℕ, true, false, List, ◌∷◌, length, None, ◌==◌, if◌then◌else◌}
use Rattle.ak_core.specs.declared.moves.Answer.{Answer}
use Rattle.ak_core.specs.declared.page.Entry.{Entry}
use Rattle.ak_model.specs.Paging.Holdings.{Mapping}
use Rattle.ak_epcm.specs.Entries.{entry_at}
use Rattle.ak_track.specs.Steps.{Cycled}
use Rattle.ak_relation.specs.State.MachineState.{State}

-- one more tracking cycle
abbrev pub with_cycle : State → State
with_cycle state = record state { track = Cycled ∷ state.track }

-- the page table has this entry for a page
abbrev pub with_mapping : State → ℕ → Mapping → State
with_mapping state p entry = record state { table = λ q. if q == p then entry else state.table q }

-- the entry of frame f is blocked, and no other differs
abbrev pub BlocksEntry : List Entry → List Entry → ℕ → Type 0
BlocksEntry old new f = (g : ℕ) → entry_at new g ≡ (if g == f then record (entry_at old g) { blocked = true } else entry_at old g)

-- these entries, and frame f is stamped with the number of the tracking steps
abbrev pub with_block : State → List Entry → ℕ → State
with_block state entries f = record state { entries = entries; stamps = λ g. if g == f then length state.track else state.stamps g }

-- the entry of frame f is no longer valid, and no other differs. What else it says may be anything
pub record FreesEntry (old new : List Entry) (f : ℕ) : Type 0 where
  pub freed : (entry_at new f).valid ≡ false
  pub others : (g : ℕ) → (g == f) ≡ false → entry_at new g ≡ entry_at old g

-- these entries
abbrev pub with_entries : State → List Entry → State
with_entries state entries = record state { entries = entries }

-- no sealed page of a handle
abbrev pub without_sealed_page : State → ℕ → State
without_sealed_page state k = record state { sealed_pages = λ j. if j == k then None else state.sealed_pages j }

-- the answer to a reading of this entry of the page table
abbrev pub pte_answer : Mapping → Answer
pte_answer entry = Answer.Pte (record { 0 = entry.frame }) entry.flags
