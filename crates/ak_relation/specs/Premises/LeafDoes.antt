-- What each leaf that is done does to a machine. (SDM volume 3D, "SGX Instruction References".)
use Rattle.std.specs.Prelude.{◌≡◌, ℕ, true, false}
use Rattle.ak_core.specs.declared.moves.Move.{Move}
use Rattle.ak_core.specs.declared.moves.Move.TheVariants.{Eblock, Etrack, Ewb, Eldu, Eldb, Eremove, Epa, Discard}
use Rattle.ak_core.specs.declared.moves.Answer.{Answer}
use Rattle.ak_core.specs.declared.moves.Answer.TheVariants.{Ok, OkHandle}
use Rattle.ak_relation.specs.State.MachineState.{State}
use Rattle.ak_relation.specs.State.TableChanges.{BlocksEntry, FreesEntry, with_block, with_cycle, with_entries, without_sealed_page}
use Rattle.ak_relation.specs.Premises.WriteOut.{WritesOutTo}
use Rattle.ak_relation.specs.Premises.Loading.{LoadsFrom}
use Rattle.ak_relation.specs.Premises.Making.{MakesSlots}

-- the entry of frame f is blocked and stamped, and all else stays
pub record Blocks (old new : State) (f : ℕ) : Type 0 where
  pub entry : BlocksEntry old.entries new.entries f
  pub others : new ≡ with_block old new.entries f

-- the entry of frame f is free, and all else stays
pub record Frees (old new : State) (f : ℕ) : Type 0 where
  pub entry : FreesEntry old.entries new.entries f
  pub others : new ≡ with_entries old new.entries

-- what a leaf does, where it is done; of another move nothing is said
abbrev pub DoesLeaf : State → State → Move → Type 0
DoesLeaf old new (Eblock f) = Blocks old new f.0
DoesLeaf old new Etrack = new ≡ with_cycle old
DoesLeaf old new (Ewb f va i) = WritesOutTo old new f.0 va.0 i
DoesLeaf old new (Eldu f k p va i) = LoadsFrom old new f.0 k.0 va.0 i false
DoesLeaf old new (Eldb f k p va i) = LoadsFrom old new f.0 k.0 va.0 i true
DoesLeaf old new (Eremove f) = Frees old new f.0
DoesLeaf old new (Epa f) = MakesSlots old new f.0
DoesLeaf old new (Discard k) = new ≡ without_sealed_page old k.0
DoesLeaf old new _ = Unit {0}

-- how a leaf that is done is answered, where so many handles were given
abbrev pub done_answer : ℕ → Move → Answer
done_answer given (Ewb f va i) = OkHandle (record { 0 = given })
done_answer given _ = Ok
