use Rattle.std.proofs.Common.{◌≡◌, drop}
use Rattle.std.specs.List.{find}
use Rattle.ak_report.specs.Summary.{is_end}
use Rattle.ak_report.proofs.summary.first_end.Given as goal

abbrev pub invariant-loop-answer : goal.invariant-loop-answer
invariant-loop-answer l = find is_end l.answers ≡ find is_end (drop l.answer-index l.answers)
