-- What the code counts, and for which history.
use Rattle.std.specs.Prelude.{◌≡◌, ℕ, ◌+◌, ◌-◌, Bool, true, false, ◌||◌, List, slice_index, if◌then◌else◌}
use Rattle.ak_model.specs.Paging.Histories.{History, Change}
use Rattle.ak_model.specs.Kernels.Counted.{saved_count, is_pending}
use Rattle.ak_model.specs.Kernels.HonestKernel.{ends, asks_input, is_ended, last_exit_is_input, inputs_asked}
use Rattle.ak_driver.specs.declared.counts.Counts.{Counts}

-- whether the end was seen after one more change
abbrev pub ended_after : Change → Bool → Bool
ended_after change before = ends change || before

-- one more, or none
abbrev pub one_if : Bool → ℕ
one_if true = 1
one_if false = 0

-- how often an input was asked for after one more change
abbrev pub asked_after : Change → ℕ → ℕ
asked_after change before = one_if (asks_input change) + before

-- the counts are those of this history: saved contexts, whether resuming is refused, whether the end was seen, whether the last
-- exit asked for an input, and how many did
pub record HasCounts (counts : Counts) (past : History) : Type 0 where
  pub saved_is : counts.saved ≡ saved_count past
  pub pending_is : counts.is_pending ≡ is_pending past
  pub ended_is : counts.is_ended ≡ is_ended past
  pub input_is : counts.last_is_input ≡ last_exit_is_input past
  pub asked_is : counts.inputs_asked ≡ inputs_asked past

-- the value to enter with
abbrev pub value_by : Counts → List ℕ → ℕ
value_by counts inputs = if counts.last_is_input then slice_index inputs (counts.inputs_asked - 1) else 0
