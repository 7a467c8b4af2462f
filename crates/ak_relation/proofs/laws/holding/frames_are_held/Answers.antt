use Rattle.ak_relation.proofs.Exits.HeldFrames.{three_saved, holds_frames, program_frames}
use Rattle.ak_relation.proofs.laws.holding.frames_are_held.Goals as goal

pub returns : goal.returns
returns c = record {
  frames = λ layout image past control turns state lp h within. holds_frames layout image past control turns state h lp within;
  program = λ layout image past control turns state lp h within mode. program_frames layout image past control turns state h lp within mode;
  saved = λ layout image past control turns state f h has. three_saved layout image past control turns state h f has;
}
