-- What the machine shows of a turn of the program that it ends by an exit: the instruction traps, or an access of it faults. The
-- accesses before it were cached, or were found by walks in this turn.
use Rattle.std.specs.Prelude.{◌≡◌, ℕ, true, false, ◌||◌, not, List, ◌++◌, take, slice_get, Some}
use Rattle.std.specs.List.{list_all}
use Rattle.ak_core.specs.Layout.{Layout}
use Rattle.ak_core.specs.Mem.{Access}
use Rattle.ak_model.specs.Flat.FlatRuns.{Flat, End, line, ending, is_forbidden}
use Rattle.ak_model.specs.Misses.Reached.{permitted_accesses}
use Rattle.ak_model.specs.Misses.KeptTranslations.{is_among, is_kept}
use Rattle.ak_relation.specs.State.MachineState.{State}
use Rattle.ak_tlb.specs.Fills.{Fill, accesses_of}
use Rattle.ak_relation.specs.Program.Reaching.{is_filled}
use Rattle.ak_relation.specs.Premises.EnterRows.{walk_in}
use Rattle.ak_ssa.specs.SavedFrames.{SavedCause}
use Rattle.ak_relation.specs.Bytes.Pages.{IsTcs}
use Rattle.ak_relation.specs.Premises.Saving.{Saves}
use Rattle.ak_relation.specs.Program.Seeing.{Sees}

-- walks over the machine's tables find these accesses
abbrev pub AreWalked : Layout → State → List Access → Type 0
AreWalked layout state walked = list_all (λ t. walk_in layout state t.page.0 t.kind) walked ≡ true

-- the instruction traps, with each access before the first forbidden one cached or walked
pub record Traps (layout : Layout) (state : State) (fills : List Fill) (flat : Flat) (v : ℕ) : Type 0 where
  pub ends : ending layout flat ≡ End.Vector v
  pub walked : List Access
  pub found : AreWalked layout state walked
  pub covers : (t : Access) → is_among (permitted_accesses layout (line layout flat).accesses) t ≡ true → (is_filled fills t || is_among walked t) ≡ true

-- this access of the instruction comes next: those before it are permitted, and cached or walked
pub record IsNext (layout : Layout) (state : State) (fills : List Fill) (flat : Flat) (access : Access) : Type 0 where
  pub number : ℕ
  pub stands : slice_get (line layout flat).accesses number ≡ Some access
  pub allowed : list_all (λ t. not (is_forbidden layout t)) (take number (line layout flat).accesses) ≡ true
  pub walked : List Access
  pub found : AreWalked layout state walked
  pub covers : (t : Access) → is_among (take number (line layout flat).accesses) t ≡ true → (is_filled fills t || is_among walked t) ≡ true

-- it is permitted, and no walk finds it; and what was cached with those before it does not surely keep it
pub record Faults (layout : Layout) (state : State) (fills : List Fill) (flat : Flat) (access : Access) : Type 0 where
  pub next : IsNext layout state fills flat access
  pub permitted : is_forbidden layout access ≡ false
  pub unmapped : walk_in layout state access.page.0 access.kind ≡ false
  pub unkept : is_kept (accesses_of fills ++ take next.number (line layout flat).accesses) access ≡ false

-- wherever the program is that the processor sees, the instruction traps
abbrev pub ShowsTrap : Layout → ℕ → State → ℕ → Type 0
ShowsTrap layout lp old v = (flat : Flat) → Sees layout old lp flat → Traps layout old (old.processors lp).fills flat v

-- the access faults
abbrev pub ShowsFault : Layout → ℕ → State → Access → Type 0
ShowsFault layout lp old access = (flat : Flat) → Sees layout old lp flat → Faults layout old (old.processors lp).fills flat access

-- the access comes next, and its page does not allow it
abbrev pub ShowsDenied : Layout → ℕ → State → Access → Type 0
ShowsDenied layout lp old access =
    (is_forbidden layout access ≡ true) × ((flat : Flat) → Sees layout old lp flat → IsNext layout old (old.processors lp).fills flat access)

-- the processor is saved in the first area, with this cause, where the TCS says that nothing is saved
abbrev pub SavesFirst : Layout → ℕ → State → State → SavedCause → Type 0
SavesFirst layout lp old new cause = IsTcs 0 false (old.frames (old.processors lp).tcs) → Saves layout lp 0 true cause old new
