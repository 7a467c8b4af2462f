-- What a sink over a stream holds.
use Rattle.std.specs.Prelude.{ℕ}
use Rattle.ak_outside.specs.Counted.{held_by, number_of}
use Rattle.ak_outside.specs.declared.real_sink.RealSink.{RealSink}

-- the stream that takes the bytes
abbrev pub stream_of : {W : Type 0} → RealSink W → W
stream_of sink = held_by sink.stream

-- how often a write failed
abbrev pub faults_of : {W : Type 0} → RealSink W → ℕ
faults_of sink = number_of sink.faults
