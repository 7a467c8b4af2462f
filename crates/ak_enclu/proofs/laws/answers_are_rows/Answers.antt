use Rattle.ak_enclu.proofs.Rows.{enters_by_row, resumes_by_row}
use Rattle.ak_enclu.proofs.laws.answers_are_rows.Goals as goal

pub returns : goal.returns
returns c = record {
  enter = λ layout past state cpu table encls h m. enters_by_row layout past state cpu table encls h m;
  resume = λ layout past state cpu table encls h m. resumes_by_row layout past state cpu table encls h m;
}
