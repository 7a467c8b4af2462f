use Rattle.ak_model.proofs.Tapes.CallTurns.{turn-answered, entered-answered, resumed-answered, interrupted-answered}
use Rattle.ak_model.proofs.Tapes.CallTraces.{trace_serves, calls-taken}
use Rattle.ak_model.proofs.laws.tapes.calls_are_answered.Goals as goal

pub returns : goal.returns
returns c = record {
  turn = λ layout control calls past old. turn-answered layout control calls old past;
  enters = λ layout control calls v old. entered-answered layout control calls old v;
  resumes = resumed-answered;
  interrupts = interrupted-answered;
  always = λ layout tape moves valid misses. (trace_serves layout valid tape misses moves).answered;
  taken = calls-taken;
}
