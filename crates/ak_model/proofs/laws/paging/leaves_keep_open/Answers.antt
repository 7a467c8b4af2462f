use Rattle.ak_model.specs.Control.Trace.{trace}
use Rattle.ak_model.proofs.Control.OneInsideTrace.{is_present}
use Rattle.ak_model.proofs.Paging.OpenFrames.{known-present, keeps_open, moves_keep_open}
use Rattle.ak_model.proofs.laws.paging.leaves_keep_open.Goals as goal

pub returns : goal.returns
returns c = record {
  always = λ layout tape moves m.
      let here = trace layout tape moves in
      moves_keep_open layout here.past here.control (known-present layout here.past here.control (is_present layout tape moves)) m;
  leaf = λ layout past control h m a leaf row. keeps_open layout past (known-present layout past control h) m a leaf row;
}
