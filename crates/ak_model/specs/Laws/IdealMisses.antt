-- The misses of a journal are those that the program's own accesses force.
use Rattle.std.specs.Prelude.{◌≡◌, ℕ, ◌<◌, Bool, true, false, List, [], ◌==◌}
use Rattle.std.specs.List.{list_any}
use Rattle.ak_core.specs.Layout.{Layout}
use Rattle.ak_core.specs.Journal.{Journal}
use Rattle.ak_core.specs.declared.event.Event.{Event}
use Rattle.ak_core.specs.declared.event.Event.TheVariants.{Trap}
use Rattle.ak_model.specs.Laws.Premises.{misses_at}
use Rattle.ak_model.specs.Tapes.LastMoment.{last_moment}
use Rattle.ak_model.specs.Sound.Outputs.{IsPrefixOf}
use Rattle.ak_model.specs.Misses.Ideal.{ideal}

-- the event is a trap of this count
abbrev pub is_trap_at : ℕ → Event → Bool
is_trap_at i (Trap j v) = j == i
is_trap_at i _ = false

-- the tape has a trap of this count
abbrev pub traps_at : List Event → ℕ → Bool
traps_at tape i = list_any (is_trap_at i) tape

-- the misses of this image's instruction i, with the values that the journal's calls returned
abbrev pub ideal_of : List ℕ → Layout → Journal → ℕ → List ℕ
ideal_of image layout journal i = ideal layout image (last_moment layout journal).control.returned i

-- the misses of each instruction that completed or trapped are those that its accesses force; those of the instruction at which
-- the program stands are a beginning of them; and no later one missed
pub record MissesAreIdeal (image : List ℕ) (layout : Layout) (journal : Journal) : Type 0 where
  pub completed : (i : ℕ) → i < (last_moment layout journal).control.count →
      misses_at journal.events i ≡ ideal_of image layout journal i
  pub trapped : (i : ℕ) → traps_at journal.events i ≡ true → misses_at journal.events i ≡ ideal_of image layout journal i
  pub last : IsPrefixOf (misses_at journal.events (last_moment layout journal).control.count)
      (ideal_of image layout journal (last_moment layout journal).control.count)
  pub later : (i : ℕ) → (last_moment layout journal).control.count < i → misses_at journal.events i ≡ []
