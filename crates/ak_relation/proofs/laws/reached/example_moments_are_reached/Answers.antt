use Rattle.ak_relation.proofs.Rows.BuiltMachine.{built_reached}
use Rattle.ak_relation.proofs.Rows.EnteredMachine.{entered_reached, interrupted_reached}
use Rattle.ak_relation.proofs.Rows.WrittenMachine.{written_reached}
use Rattle.ak_relation.proofs.Rows.ResumedMachine.{resumed_reached}
use Rattle.ak_relation.proofs.Rows.ComputedMachine.{computed_reached}
use Rattle.ak_relation.proofs.Rows.MissedMachine.{missed_reached}
use Rattle.ak_relation.proofs.Rows.AskedMachine.{asked_reached}
use Rattle.ak_relation.proofs.Rows.FetchedMachine.{ready_reached}
use Rattle.ak_relation.proofs.Rows.BrokenMachine.{broken_reached}
use Rattle.ak_relation.proofs.Rows.CalledMachine.{called_reached}
use Rattle.ak_relation.proofs.Rows.ReturnedMachine.{returned_reached}
use Rattle.ak_relation.proofs.Rows.TrappedMachine.{raised_reached, trapped_reached}
use Rattle.ak_relation.proofs.Rows.FaultedMachine.{faulted_reached}
use Rattle.ak_relation.proofs.Rows.StoppedMachine.{guarded_reached, stopped_reached}
use Rattle.ak_relation.proofs.laws.reached.example_moments_are_reached.Goals as goal

pub returns : goal.returns
returns c = record { built = built_reached; entered = entered_reached; interrupted = interrupted_reached; written = written_reached; resumed = resumed_reached; computed = computed_reached; missed = missed_reached; asked = asked_reached; faulted = faulted_reached; ready = ready_reached; broken = broken_reached; stopped = stopped_reached; guarded = guarded_reached; called = called_reached; returned = returned_reached; raised = raised_reached; trapped = trapped_reached }
