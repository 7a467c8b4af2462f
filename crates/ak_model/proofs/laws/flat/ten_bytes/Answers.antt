use Rattle.ak_model.proofs.Flat.Decoding.{decode-take, decode-length, decode-size}
use Rattle.ak_model.proofs.laws.flat.ten_bytes.Goals as goal

pub returns : goal.returns
returns c = record { enough = decode-take; whole = decode-length; most = decode-size }
