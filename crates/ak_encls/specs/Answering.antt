-- How a leaf answers, and what it leaves beside the machine's paging part.
use Rattle.std.specs.Prelude.{◌≡◌, ℕ, ◌+◌, ◌^◌, ◌<◌, ◌≤◌, Bool, true, false, length, Result}
use Rattle.ak_core.specs.declared.moves.Move.{Move}
use Rattle.ak_core.specs.declared.page.Frame.{Frame}
use Rattle.ak_core.specs.declared.page.Handle.{Handle}
use Rattle.ak_core.specs.declared.page.Page.{Page}
use Rattle.ak_core.specs.declared.moves.Move.TheVariants.{Etrack, Ewb, Eldu, Eldb}
use Rattle.ak_core.specs.declared.moves.Answer.{Answer}
use Rattle.ak_core.specs.declared.moves.Answer.TheVariants.{OkHandle}
use Rattle.ak_model.specs.Kernels.Repeats.{is_done}
use Rattle.ak_encls.specs.Enclave.{Enclave}

-- the answer, unless a check refused
abbrev pub unless : {T : Type 0} → Result T Answer → Answer → Answer
unless (Result.Ok x) answer = answer
unless (Result.Err refusal) answer = refusal

-- what a leaf came to
abbrev pub answer_in : Result Answer Answer → Answer
answer_in (Result.Ok answer) = answer
answer_in (Result.Err refusal) = refusal

-- an answer that a leaf was done, or one that it was refused
abbrev pub IsOutcome : Result Answer Answer → Type 0
IsOutcome (Result.Ok answer) = is_done answer ≡ true
IsOutcome (Result.Err refusal) = is_done refusal ≡ false

-- ELDB where the frame is to be blocked, else ELDU
abbrev pub load_move : Frame → Handle → Page → Frame → ℕ → Bool → Move
load_move f h p va i true = Eldb f h p va i
load_move f h p va i false = Eldu f h p va i

-- the move is a write-out
abbrev pub is_write_out : Move → Bool
is_write_out (Ewb f va i) = true
is_write_out _ = false

-- where the move is ETRACK: so few cycles began that one more is told apart from them
abbrev pub IsCounted : Move → ℕ → Type 0
IsCounted Etrack cycles = cycles < 2 ^ 63
IsCounted _ cycles = Unit {0}

-- how many sealed pages an answer gives
abbrev pub given_by : Answer → ℕ
given_by (OkHandle k) = 1
given_by _ = 0

-- what no leaf changes: how many frames there are, and the measurement. Each write-out that is done takes one of the spare, and a leaf
-- makes one cycle at most
pub record KeepsRest (old new : Enclave) (answer : Answer) : Type 0 where
  pub frames : length new.frames ≡ length old.frames
  pub entries : length new.entries ≡ length old.entries
  pub measure : new.measure ≡ old.measure
  pub spare : new.handles.spare + given_by answer ≡ old.handles.spare
  pub given : length new.handles.sealed_pages ≡ length old.handles.sealed_pages + given_by answer
  pub cycles : new.track.cycles ≤ old.track.cycles + 1
