-- What a leaf of the kernel has to keep, so that the relation holds after it: the tables, said anew, and of the bytes that no page
-- gets others than it had.
use Rattle.std.specs.Prelude.{◌≡◌, ◌⊎◌, ℕ, ◌∷◌, None}
use Rattle.ak_core.specs.Layout.{Layout}
use Rattle.ak_model.specs.Paging.Histories.{History, Pair, change_of}
use Rattle.ak_model.specs.Paging.Inside.{since}
use Rattle.ak_relation.specs.State.MachineState.{State}
use Rattle.ak_pager.specs.RuntimePages.{Copies}
use Rattle.ak_relation.specs.State.Tables.{TablesStand}
use Rattle.ak_model.specs.Laws.OpenFrames.{KeepsOpen}
use Rattle.ak_relation.specs.Relation.Stands.{copies_at}

-- each page has the copy that it had, or none any more
abbrev pub AreFewer : Copies → Copies → Type 0
AreFewer new old = (p : ℕ) → (new p ≡ old p) ⊎ (new p ≡ None)

-- a move that enters and leaves nothing, and changes no register
pub record LeafKeeps (layout : Layout) (past : History) (pair : Pair) (old new : State) : Type 0 where
  pub since_is : (lp : ℕ) → since (pair ∷ past) lp ≡ since past lp
  pub opened : KeepsOpen layout past (change_of pair)
  pub processors : new.processors ≡ old.processors
  pub count : new.count ≡ old.count
  pub queue : new.queue ≡ old.queue
  pub copies : AreFewer (copies_at layout (pair ∷ past) new) (copies_at layout past old)
  pub tables : TablesStand layout (pair ∷ past) new

-- what a leaf itself has to show: the rest follows from its row
pub record LeafChanges (layout : Layout) (past : History) (pair : Pair) (old new : State) : Type 0 where
  pub processors : new.processors ≡ old.processors
  pub count : new.count ≡ old.count
  pub queue : new.queue ≡ old.queue
  pub copies : AreFewer (copies_at layout (pair ∷ past) new) (copies_at layout past old)
  pub tables : TablesStand layout (pair ∷ past) new
