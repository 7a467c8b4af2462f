-- The report of a journal: the bytes of its text. This project's own.
use Rattle.std.specs.Prelude.{ℕ, List, [], ◌∷◌, ◌++◌, ◌+◌, codes, decimal, Option, Some, None}
use Rattle.ak_core.specs.Journal.{Journal}
use Rattle.ak_core.specs.declared.page.Kind.{Kind}
use Rattle.ak_core.specs.declared.page.Kind.TheVariants.{Read, Write, Exec}
use Rattle.ak_core.specs.declared.page.Page.{Page}
use Rattle.ak_core.specs.declared.moves.Move.{Move}
use Rattle.ak_core.specs.declared.moves.Answer.{Answer}
use Rattle.ak_core.specs.declared.moves.Answer.TheVariants.{Ok, OkHandle, Pte, Exit as Exited, NoPage, NotEpc, IsSecs, Free, WrongType, InUse, Blocked, NotBlocked, NotTracked, PrevIncomplete, BadVa, SlotOccupied, SlotEmpty, MacFail, EnclaveActive, NoHandle, NoLp, Inside, Outside, TcsFault, Busy, Gp, Pending, SsaFault}
use Rattle.ak_core.specs.declared.moves.Exit.{Exit}
use Rattle.ak_core.specs.declared.moves.Exit.TheVariants.{Still, Pf, Vector, Call as Called, Ask, Ready, Nothing, Stopped, Ended, Trapped}
use Rattle.ak_core.specs.declared.event.Event.{Event}
use Rattle.ak_core.specs.declared.event.Event.TheVariants.{Call, Miss, Trap, Break}
use Rattle.ak_core.specs.declared.event.Stop.{Stop}
use Rattle.ak_core.specs.declared.event.StopCause.{StopCause}
use Rattle.ak_core.specs.declared.event.StopCause.TheVariants.{Unmapped, RuntimeUnmapped, FetchNotHonoured, ResumedEarly, Stuck}
use Rattle.ak_script.specs.Text.{numbers_text, flags_text, move_text, in_lines}

-- how a run ended
abbrev pub exit_text : Exit → List ℕ
exit_text Still = codes "in"
exit_text (Pf base code) = codes "pf" ++ numbers_text (base ∷ code ∷ [])
exit_text (Vector vector) = codes "vector" ++ numbers_text (vector ∷ [])
exit_text (Called number argument) = codes "call" ++ numbers_text (number ∷ argument ∷ [])
exit_text (Ask dropped cluster) = codes "ask" ++ numbers_text (dropped ∷ cluster ∷ [])
exit_text Ready = codes "ready"
exit_text Nothing = codes "nothing"
exit_text Stopped = codes "stopped"
exit_text (Ended status) = codes "ended" ++ numbers_text (status ∷ [])
exit_text (Trapped vector) = codes "trapped" ++ numbers_text (vector ∷ [])

-- an answer: what was done, or the name of the refusal
abbrev pub answer_text : Answer → List ℕ
answer_text Ok = codes "ok"
answer_text (OkHandle handle) = codes "handle" ++ numbers_text (handle.0 ∷ [])
answer_text (Pte frame flags) = codes "pte" ++ numbers_text (frame.0 ∷ []) ++ codes " " ++ flags_text flags
answer_text (Exited exit) = exit_text exit
answer_text NoPage = codes "nopage"
answer_text NotEpc = codes "notepc"
answer_text IsSecs = codes "issecs"
answer_text Free = codes "free"
answer_text WrongType = codes "wrongtype"
answer_text InUse = codes "inuse"
answer_text Blocked = codes "blocked"
answer_text NotBlocked = codes "notblocked"
answer_text NotTracked = codes "nottracked"
answer_text PrevIncomplete = codes "previncomplete"
answer_text BadVa = codes "badva"
answer_text SlotOccupied = codes "slotoccupied"
answer_text SlotEmpty = codes "slotempty"
answer_text MacFail = codes "macfail"
answer_text EnclaveActive = codes "enclaveactive"
answer_text NoHandle = codes "nohandle"
answer_text NoLp = codes "nolp"
answer_text Inside = codes "inside"
answer_text Outside = codes "outside"
answer_text TcsFault = codes "tcsfault"
answer_text Busy = codes "busy"
answer_text Gp = codes "gp"
answer_text Pending = codes "pending"
answer_text SsaFault = codes "ssafault"

-- an event, with the number of instructions before it
abbrev pub event_text : Event → List ℕ
event_text (Call count number argument) = codes "call" ++ numbers_text (count ∷ number ∷ argument ∷ [])
event_text (Miss count cluster) = codes "miss" ++ numbers_text (count ∷ cluster ∷ [])
event_text (Trap count vector) = codes "trap" ++ numbers_text (count ∷ vector ∷ [])
event_text (Break count) = codes "break" ++ numbers_text (count ∷ [])

-- how an access was made
abbrev pub kind_text : Kind → List ℕ
kind_text Read = codes "read"
kind_text Write = codes "write"
kind_text Exec = codes "exec"

-- a page and how it was accessed, each after a space
abbrev pub access_text : Page → Kind → List ℕ
access_text page kind = numbers_text (page.0 ∷ []) ++ codes " " ++ kind_text kind

-- which rule the kernel broke
abbrev pub cause_text : StopCause → List ℕ
cause_text (Unmapped page kind) = codes "unmapped" ++ access_text page kind
cause_text (RuntimeUnmapped page kind) = codes "runtime" ++ access_text page kind
cause_text (FetchNotHonoured page kind) = codes "fetch" ++ access_text page kind
cause_text ResumedEarly = codes "resumed"
cause_text (Stuck page kind) = codes "stuck" ++ access_text page kind

-- why the enclave stopped, and the number of the move to blame; or that it did not
abbrev pub stop_text : Option Stop → List ℕ
stop_text None = codes "none"
stop_text (Some stop) = cause_text stop.cause ++ codes " blame" ++ numbers_text (stop.blame ∷ [])

-- ---- Lines, each without its newline

-- a move with its number and its answer
pub record AnsweredMove : Type 0 where
  pub number : ℕ
  pub move : Move
  pub answer : Answer

-- the moves with their answers, the first of this number
abbrev pub answered_moves : ℕ → List Move → List Answer → List AnsweredMove
answered_moves k [] answers = []
answered_moves k (m ∷ ms) [] = []
answered_moves k (m ∷ ms) (a ∷ more) = record { number = k; move = m; answer = a } ∷ answered_moves (k + 1) ms more

abbrev pub move_line : AnsweredMove → List ℕ
move_line line = decimal line.number ++ codes " " ++ move_text line.move ++ codes " -> " ++ answer_text line.answer

abbrev pub output_line : ℕ → List ℕ
output_line output = codes "output" ++ numbers_text (output ∷ [])

abbrev pub event_line : Event → List ℕ
event_line event = codes "event " ++ event_text event

abbrev pub stop_line : Option Stop → List ℕ
stop_line stop = codes "stop " ++ stop_text stop

-- the report: its first line, then the moves, the outputs and the events, each in order, and the stop
unfoldable pub report : Journal → List ℕ
report j =
    codes "autarky 1\n" ++ in_lines move_line (answered_moves 1 j.moves j.answers) ++ in_lines output_line j.outputs ++ in_lines event_line j.events ++ stop_line j.stop ++ codes "\n"
