-- The numbers of a journal, and what the types of the program say of them.
use Rattle.std.specs.Prelude.{◌≡◌, ℕ, ◌^◌, ◌<◌, IsTrue, List, [], ◌∷◌, ◌++◌, length, nat_lt, Option, Some, None}
use Rattle.std.specs.List.{flat_map, list_all}
use Rattle.ak_core.specs.Journal.{Journal}
use Rattle.ak_core.specs.declared.moves.Move.{Move}
use Rattle.ak_core.specs.declared.moves.Move.TheVariants.{SetPte, ReadPte, Eblock, Etrack, Ewb, Eldu, Eldb, Eremove, Epa, Discard, Eenter, Eresume, Run, Interrupt}
use Rattle.ak_core.specs.declared.moves.Answer.{Answer}
use Rattle.ak_core.specs.declared.moves.Answer.TheVariants.{OkHandle, Pte, Exit as Exited}
use Rattle.ak_core.specs.declared.moves.Exit.{Exit}
use Rattle.ak_core.specs.declared.moves.Exit.TheVariants.{Pf, Vector, Call as Called, Ask, Ended, Trapped}
use Rattle.ak_core.specs.declared.event.Event.{Event}
use Rattle.ak_core.specs.declared.event.Event.TheVariants.{Call, Miss, Trap, Break}
use Rattle.ak_core.specs.declared.event.Stop.{Stop}
use Rattle.ak_core.specs.declared.event.StopCause.{StopCause}
use Rattle.ak_core.specs.declared.event.StopCause.TheVariants.{Unmapped, RuntimeUnmapped, FetchNotHonoured, ResumedEarly, Stuck}

-- the numbers of a move
abbrev pub move_numbers : Move → List ℕ
move_numbers (SetPte page frame flags) = page.0 ∷ frame.0 ∷ []
move_numbers (ReadPte page) = page.0 ∷ []
move_numbers (Eblock frame) = frame.0 ∷ []
move_numbers Etrack = []
move_numbers (Ewb frame va slot) = frame.0 ∷ va.0 ∷ slot ∷ []
move_numbers (Eldu frame handle page va slot) = frame.0 ∷ handle.0 ∷ page.0 ∷ va.0 ∷ slot ∷ []
move_numbers (Eldb frame handle page va slot) = frame.0 ∷ handle.0 ∷ page.0 ∷ va.0 ∷ slot ∷ []
move_numbers (Eremove frame) = frame.0 ∷ []
move_numbers (Epa frame) = frame.0 ∷ []
move_numbers (Discard handle) = handle.0 ∷ []
move_numbers (Eenter lp value) = lp.0 ∷ value ∷ []
move_numbers (Eresume lp) = lp.0 ∷ []
move_numbers (Run lp turns) = lp.0 ∷ turns ∷ []
move_numbers (Interrupt lp) = lp.0 ∷ []

-- the numbers of how a run ended
abbrev pub exit_numbers : Exit → List ℕ
exit_numbers (Pf base code) = base ∷ code ∷ []
exit_numbers (Vector vector) = vector ∷ []
exit_numbers (Called number argument) = number ∷ argument ∷ []
exit_numbers (Ask dropped cluster) = dropped ∷ cluster ∷ []
exit_numbers (Ended status) = status ∷ []
exit_numbers (Trapped vector) = vector ∷ []
exit_numbers _ = []

-- the numbers of an answer
abbrev pub answer_numbers : Answer → List ℕ
answer_numbers (OkHandle handle) = handle.0 ∷ []
answer_numbers (Pte frame flags) = frame.0 ∷ []
answer_numbers (Exited exit) = exit_numbers exit
answer_numbers _ = []

-- the numbers of an event
abbrev pub event_numbers : Event → List ℕ
event_numbers (Call count number argument) = count ∷ number ∷ argument ∷ []
event_numbers (Miss count cluster) = count ∷ cluster ∷ []
event_numbers (Trap count vector) = count ∷ vector ∷ []
event_numbers (Break count) = count ∷ []

-- the numbers of a cause
abbrev pub cause_numbers : StopCause → List ℕ
cause_numbers (Unmapped page kind) = page.0 ∷ []
cause_numbers (RuntimeUnmapped page kind) = page.0 ∷ []
cause_numbers (FetchNotHonoured page kind) = page.0 ∷ []
cause_numbers ResumedEarly = []
cause_numbers (Stuck page kind) = page.0 ∷ []

-- the numbers of a stop
abbrev pub stop_numbers : Option Stop → List ℕ
stop_numbers None = []
stop_numbers (Some stop) = cause_numbers stop.cause ++ stop.blame ∷ []

-- each number has at most 64 bits
abbrev pub AreWords : List ℕ → Type 0
AreWords numbers = IsTrue (list_all (λ n. nat_lt n (2 ^ 64)) numbers)

-- each move has its answer, and each count and number has at most 64 bits
pub record KeepsTypes (j : Journal) : Type 0 where
  pub answered : length j.moves ≡ length j.answers
  pub few : length j.moves < 2 ^ 64
  pub moves : AreWords (flat_map move_numbers j.moves)
  pub answers : AreWords (flat_map answer_numbers j.answers)
  pub outputs : AreWords j.outputs
  pub events : AreWords (flat_map event_numbers j.events)
  pub stop : AreWords (stop_numbers j.stop)
