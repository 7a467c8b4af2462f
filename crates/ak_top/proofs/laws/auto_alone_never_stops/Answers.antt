use Rattle.ak_top.proofs.AutoAlone.{is_honest, never_stops, ends_with_the_program}
use Rattle.ak_top.proofs.laws.auto_alone_never_stops.Goals as goal

pub returns : goal.returns
returns c = record { honest = is_honest; unstopped = never_stops; ends = ends_with_the_program }
