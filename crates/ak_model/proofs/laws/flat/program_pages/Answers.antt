use Rattle.ak_model.specs.Flat.FlatRuns.{line}
use Rattle.ak_model.proofs.Flat.ProgramPages.{line_low, low_at}
use Rattle.ak_model.proofs.laws.flat.program_pages.Goals as goal

pub returns : goal.returns
returns c layout flat place t h = low_at layout (line layout flat).accesses place t (line_low layout flat) h
