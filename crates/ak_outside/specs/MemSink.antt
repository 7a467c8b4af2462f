-- What a sink in memory tells.
use Rattle.std.specs.Prelude.{ℕ, Bool, ◌||◌, ◌≡◌, List, length, nat_lt}
use Rattle.ak_outside.specs.Causes.{one_more}
use Rattle.ak_outside.specs.Calls.{is_failing as is_failing_call}
use Rattle.ak_outside.specs.declared.memory_sink.MemSink.{MemSink}

-- the bytes taken so far
abbrev pub taken_by : MemSink → List ℕ
taken_by sink = sink.bytes.items

-- how many bytes it still takes
abbrev pub room_of : MemSink → ℕ
room_of sink = sink.room

-- how many writes were made
abbrev pub calls_of : MemSink → ℕ
calls_of sink = sink.calls.made

-- whether the write of this number was made to fail
abbrev pub is_failing : MemSink → ℕ → Bool
is_failing sink call = is_failing_call sink.calls call

-- how often a write failed
abbrev pub faults_of : MemSink → ℕ
faults_of sink = sink.faults

-- whether the next write fails, if it is of this piece: its call was made to fail, or the piece is longer than the room
abbrev pub write_fails : MemSink → List ℕ → Bool
write_fails sink piece = is_failing sink (one_more (calls_of sink)) || nat_lt (room_of sink) (length piece)

-- no write was made
pub record KeepsAccount (old new : MemSink) : Type 0 where
  pub taken : taken_by new ≡ taken_by old
  pub calls : calls_of new ≡ calls_of old
  pub faults : faults_of new ≡ faults_of old
