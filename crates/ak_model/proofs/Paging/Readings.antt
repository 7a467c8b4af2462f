-- What the proofs read of a change: a change of the tables alone reads as none.
use Rattle.std.proofs.Common.{ℕ, ◌+◌, length}
use Rattle.std.specs.Prelude.{Bool, Option, is_some}
use Rattle.std.specs.List.{list_any}
use Rattle.ak_core.specs.Layout.{Layout}
use Rattle.ak_model.specs.Paging.Histories.{History, Change}
use Rattle.ak_model.specs.Paging.Inside.{since_after, since, processors}
use Rattle.ak_model.specs.Kernels.Counted.{saved_after, pending_after, Service, service_after}
use Rattle.ak_model.specs.Stops.Blame.{faults, enters_at_one, resumes}
use Rattle.ak_model.specs.Kernels.KernelRules.{entered_after}
use Rattle.ak_model.specs.Stops.ShownStop.{says_stopped}
use Rattle.ak_model.specs.Laws.ShownOutputs.{output_of_change}

-- all that is read of a change to know who is inside, how the control state stands and which move is blamed; a proof that reads
-- more of it adds a field
pub record Reading : Type 0 where
  pub since : ℕ → ℕ → Option ℕ → Option ℕ
  pub saved : ℕ → ℕ
  pub pending : Bool → Bool
  pub service : Service → Service
  pub entered : Bool → Bool
  pub at_one : ℕ → Bool
  pub resumes : Bool
  pub faults : Bool
  pub stopped : Bool
  pub output : Option ℕ

abbrev pub reading : Change → Reading
reading c = record {
  since = since_after c;
  saved = saved_after c;
  pending = pending_after c;
  service = service_after c;
  entered = entered_after c;
  at_one = enters_at_one c;
  resumes = resumes c;
  faults = faults c;
  stopped = says_stopped c;
  output = output_of_change c;
}

-- somebody is inside after a change of which this is read
abbrev pub someone_then : Layout → History → Reading → Bool
someone_then layout past change = list_any (λ lp. is_some (change.since lp (length past + 1) (since past lp))) (processors layout)
