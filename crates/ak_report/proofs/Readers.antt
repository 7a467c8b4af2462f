-- What the words of a line of a report tell.
use Rattle.std.proofs.Common.{ℕ, List, [], ◌∷◌, Option, Some, None, codes}
use Rattle.std.specs.Option.{option_map}
use Rattle.ak_core.specs.declared.page.Kind.{Kind}
use Rattle.ak_core.specs.declared.page.Kind.TheVariants.{Read as Reads, Write, Exec}
use Rattle.ak_core.specs.declared.page.Page.{Page}
use Rattle.ak_core.specs.declared.moves.Move.{Move}
use Rattle.ak_core.specs.declared.moves.Move.TheVariants.{SetPte, ReadPte, Eblock, Etrack, Ewb, Eldu, Eldb, Eremove, Epa, Discard, Eenter, Eresume, Run, Interrupt}
use Rattle.ak_core.specs.declared.moves.Answer.{Answer}
use Rattle.ak_core.specs.declared.moves.Answer.TheVariants.{Ok, OkHandle, Pte, Exit as Exited, NoPage, NotEpc, IsSecs, Free, WrongType, InUse, Blocked, NotBlocked, NotTracked, PrevIncomplete, BadVa, SlotOccupied, SlotEmpty, MacFail, EnclaveActive, NoHandle, NoLp, Inside, Outside, TcsFault, Busy, Gp, Pending, SsaFault}
use Rattle.ak_core.specs.declared.moves.Exit.{Exit}
use Rattle.ak_core.specs.declared.moves.Exit.TheVariants.{Still, Pf, Vector, Call as Called, Ask, Ready, Nothing, Stopped, Ended, Trapped}
use Rattle.ak_core.specs.declared.event.Event.{Event}
use Rattle.ak_core.specs.declared.event.Event.TheVariants.{Call, Miss, Trap, Break}
use Rattle.ak_core.specs.declared.event.Stop.{Stop}
use Rattle.ak_core.specs.declared.event.StopCause.{StopCause}
use Rattle.ak_core.specs.declared.event.StopCause.TheVariants.{Unmapped, RuntimeUnmapped, FetchNotHonoured, ResumedEarly, Stuck}
use Rattle.ak_script.specs.Words.{number_of, words_of}
use Rattle.ak_report.specs.Report.{AnsweredMove}
use Rattle.ak_report.proofs.Worded.{Reader, Read, by_word, choose, five, flags, give, number, one, then, three, two}

unfoldable pub read_move : Reader Move
read_move = by_word (
    (codes "setpte", number (λ page. number (λ frame. flags (λ set. give (SetPte (record { 0 = page }) (record { 0 = frame }) set)))))
    ∷ (codes "readpte", one (λ page. ReadPte (record { 0 = page })))
    ∷ (codes "eblock", one (λ frame. Eblock (record { 0 = frame })))
    ∷ (codes "etrack", give Etrack)
    ∷ (codes "ewb", three (λ frame va slot. Ewb (record { 0 = frame }) (record { 0 = va }) slot))
    ∷ (codes "eldu", five (λ frame handle page va slot. Eldu (record { 0 = frame }) (record { 0 = handle }) (record { 0 = page }) (record { 0 = va }) slot))
    ∷ (codes "eldb", five (λ frame handle page va slot. Eldb (record { 0 = frame }) (record { 0 = handle }) (record { 0 = page }) (record { 0 = va }) slot))
    ∷ (codes "eremove", one (λ frame. Eremove (record { 0 = frame })))
    ∷ (codes "epa", one (λ frame. Epa (record { 0 = frame })))
    ∷ (codes "drop", one (λ handle. Discard (record { 0 = handle })))
    ∷ (codes "eenter", two (λ lp value. Eenter (record { 0 = lp }) value))
    ∷ (codes "eresume", one (λ lp. Eresume (record { 0 = lp })))
    ∷ (codes "run", two (λ lp turns. Run (record { 0 = lp }) turns))
    ∷ (codes "interrupt", one (λ lp. Interrupt (record { 0 = lp })))
    ∷ [])

-- an answer that ends a run
abbrev exits : Exit → Answer
exits exit = Exited exit

unfoldable pub read_answer : Reader Answer
read_answer = by_word (
    (codes "ok", give Ok)
    ∷ (codes "handle", one (λ handle. OkHandle (record { 0 = handle })))
    ∷ (codes "pte", number (λ frame. flags (λ set. give (Pte (record { 0 = frame }) set))))
    ∷ (codes "in", give (exits Still))
    ∷ (codes "pf", two (λ base code. exits (Pf base code)))
    ∷ (codes "vector", one (λ vector. exits (Vector vector)))
    ∷ (codes "call", two (λ number argument. exits (Called number argument)))
    ∷ (codes "ask", two (λ dropped cluster. exits (Ask dropped cluster)))
    ∷ (codes "ready", give (exits Ready))
    ∷ (codes "nothing", give (exits Nothing))
    ∷ (codes "stopped", give (exits Stopped))
    ∷ (codes "ended", one (λ status. exits (Ended status)))
    ∷ (codes "trapped", one (λ vector. exits (Trapped vector)))
    ∷ (codes "nopage", give NoPage)
    ∷ (codes "notepc", give NotEpc)
    ∷ (codes "issecs", give IsSecs)
    ∷ (codes "free", give Free)
    ∷ (codes "wrongtype", give WrongType)
    ∷ (codes "inuse", give InUse)
    ∷ (codes "blocked", give Blocked)
    ∷ (codes "notblocked", give NotBlocked)
    ∷ (codes "nottracked", give NotTracked)
    ∷ (codes "previncomplete", give PrevIncomplete)
    ∷ (codes "badva", give BadVa)
    ∷ (codes "slotoccupied", give SlotOccupied)
    ∷ (codes "slotempty", give SlotEmpty)
    ∷ (codes "macfail", give MacFail)
    ∷ (codes "enclaveactive", give EnclaveActive)
    ∷ (codes "nohandle", give NoHandle)
    ∷ (codes "nolp", give NoLp)
    ∷ (codes "inside", give Inside)
    ∷ (codes "outside", give Outside)
    ∷ (codes "tcsfault", give TcsFault)
    ∷ (codes "busy", give Busy)
    ∷ (codes "gp", give Gp)
    ∷ (codes "pending", give Pending)
    ∷ (codes "ssafault", give SsaFault)
    ∷ [])

unfoldable pub read_event : Reader Event
read_event = by_word (
    (codes "call", three (λ count number argument. Call count number argument))
    ∷ (codes "miss", two (λ count cluster. Miss count cluster))
    ∷ (codes "trap", two (λ count vector. Trap count vector))
    ∷ (codes "break", one (λ count. Break count))
    ∷ [])

abbrev read_kind : {T : Type 0} → (Kind → T) → Reader T
read_kind make = by_word ((codes "read", give (make Reads)) ∷ (codes "write", give (make Write)) ∷ (codes "exec", give (make Exec)) ∷ [])

-- a page, and how it was accessed
abbrev access : {T : Type 0} → (Page → Kind → T) → Reader T
access make = number (λ page. read_kind (make (record { 0 = page })))

unfoldable pub read_cause : Reader StopCause
read_cause = by_word (
    (codes "unmapped", access (λ page kind. Unmapped page kind))
    ∷ (codes "runtime", access (λ page kind. RuntimeUnmapped page kind))
    ∷ (codes "fetch", access (λ page kind. FetchNotHonoured page kind))
    ∷ (codes "resumed", give ResumedEarly)
    ∷ (codes "stuck", access (λ page kind. Stuck page kind))
    ∷ [])

-- a line of a report
pub data Line : Type 0 where
  First : Line
  Moved : AnsweredMove → Line
  Put : ℕ → Line
  Shown : Event → Line
  Halted : Option Stop → Line

-- the word between two parts is skipped
abbrev pub skip : {T : Type 0} → Reader T → Reader T
skip read [] = None
skip read (w ∷ rest) = read rest

-- a cause, and after a word the move to blame; or none
abbrev pub stopped : Read StopCause → Reader Line
stopped (Some front) words = skip (one (λ blame. Halted (Some (record { cause = front.0; blame = blame })))) front.1
stopped None words = give (Halted None) words

abbrev pub read_stop : Reader Line
read_stop words = stopped (read_cause words) words

-- a move, and after a word its answer
abbrev pub read_answered : ℕ → Reader Line
read_answered k words = then (λ m. skip (λ rest. then (λ a. give (Moved (record { number = k; move = m; answer = a }))) (read_answer rest))) (read_move words)

abbrev pub read_named : List ℕ → Reader Line
read_named = choose (
    (codes "autarky", give First)
    ∷ (codes "output", one (λ output. Put output))
    ∷ (codes "event", λ words. then (λ event. give (Shown event)) (read_event words))
    ∷ (codes "stop", read_stop)
    ∷ [])

-- a line begins with the number of a move, or with a word that says what it is
abbrev pub by_number : Option ℕ → List ℕ → Reader Line
by_number (Some k) w rest = read_answered k rest
by_number None w rest = read_named w rest

abbrev pub read_line : List (List ℕ) → Read Line
read_line [] = None
read_line (w ∷ rest) = by_number (number_of w) w rest

abbrev pub line_of : List ℕ → Option Line
line_of text = option_map (λ front. front.0) (read_line (words_of text))
