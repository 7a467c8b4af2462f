-- What is written of each part of a journal is read as that part.
use Rattle.std.proofs.Common.{◌≡◌, ℕ, ◌<◌, ◌^◌, List, [], ◌∷◌, ◌++◌, refl, ap, ◌∙◌, sym, true, Option, Some, None, append_assoc, append-nil, codes}
use Rattle.std.specs.Prelude.{decimal}
use Rattle.std.specs.List.{list_all}
use Rattle.ak_core.specs.declared.page.Kind.TheVariants.{Read as Reads, Write, Exec}
use Rattle.ak_core.specs.declared.moves.Move.{Move}
use Rattle.ak_core.specs.declared.moves.Move.TheVariants.{SetPte, ReadPte, Eblock, Etrack, Ewb, Eldu, Eldb, Eremove, Epa, Discard, Eenter, Eresume, Run, Interrupt}
use Rattle.ak_core.specs.declared.moves.Answer.{Answer}
use Rattle.ak_core.specs.declared.moves.Answer.TheVariants.{Ok, OkHandle, Pte, Exit as Exited, NoPage, NotEpc, IsSecs, Free, WrongType, InUse, Blocked, NotBlocked, NotTracked, PrevIncomplete, BadVa, SlotOccupied, SlotEmpty, MacFail, EnclaveActive, NoHandle, NoLp, Inside, Outside, TcsFault, Busy, Gp, Pending, SsaFault}
use Rattle.ak_core.specs.declared.moves.Exit.{Exit}
use Rattle.ak_core.specs.declared.moves.Exit.TheVariants.{Still, Pf, Vector, Call as Called, Ask, Ready, Nothing, Stopped, Ended, Trapped}
use Rattle.ak_core.specs.declared.event.Event.{Event}
use Rattle.ak_core.specs.declared.event.Event.TheVariants.{Call, Miss, Trap, Break}
use Rattle.ak_core.specs.declared.event.Stop.{Stop}
use Rattle.ak_core.specs.declared.event.StopCause.{StopCause}
use Rattle.ak_core.specs.declared.event.StopCause.TheVariants.{Unmapped, RuntimeUnmapped, FetchNotHonoured, ResumedEarly, Stuck}
use Rattle.ak_script.specs.Text.{flags_text, move_text}
use Rattle.ak_script.proofs.LinesRead.{told}
use Rattle.ak_script.proofs.Plain.{ArePlain, number_of-decimal, plain_by, plain_decimal, is_inner, inner_spaced, spaced, words_of-spaced}
use Rattle.ak_report.specs.Report.{AnsweredMove, answer_text, cause_text, event_line, event_text, exit_text, kind_text, move_line, output_line, stop_line}
use Rattle.ak_report.specs.Types.{answer_numbers, cause_numbers, event_numbers, exit_numbers, move_numbers, stop_numbers}
use Rattle.ak_report.proofs.Readers.{First, Halted, Line, Moved, Put, Shown, line_of, read_answer, read_cause, read_event, read_line, read_move}
use Rattle.ak_report.proofs.Worded.{AreSmall, IsRead, small_parts, by_numbers, by_tail, plain_append, spaced-append}

-- a move
pub move_read : (m : Move) → AreSmall (move_numbers m) → IsRead read_move (move_text m) m
unfolding read_move
move_read (SetPte page frame set) s =
    by_tail read_move (codes "setpte") (page.0 ∷ frame.0 ∷ []) (SetPte page frame set) (plain_by _ refl refl) s (flags_text set) (told set).plain
    (λ rest. rw (number_of-decimal page.0 s.0, number_of-decimal frame.0 s.1.0, (told set).read) refl)
move_read (ReadPte page) s = by_numbers read_move (codes "readpte") (page.0 ∷ []) (ReadPte page) (plain_by _ refl refl) s (λ rest. rw (number_of-decimal page.0 s.0) refl)
move_read (Eblock frame) s = by_numbers read_move (codes "eblock") (frame.0 ∷ []) (Eblock frame) (plain_by _ refl refl) s (λ rest. rw (number_of-decimal frame.0 s.0) refl)
move_read Etrack s = by_numbers read_move (codes "etrack") [] Etrack (plain_by _ refl refl) s (λ rest. refl)
move_read (Ewb frame va slot) s = by_numbers read_move (codes "ewb") (frame.0 ∷ va.0 ∷ slot ∷ []) (Ewb frame va slot) (plain_by _ refl refl) s (λ rest. rw (number_of-decimal frame.0 s.0, number_of-decimal va.0 s.1.0, number_of-decimal slot s.1.1.0) refl)
move_read (Eldu frame handle page va slot) s = by_numbers read_move (codes "eldu") (frame.0 ∷ handle.0 ∷ page.0 ∷ va.0 ∷ slot ∷ []) (Eldu frame handle page va slot) (plain_by _ refl refl) s (λ rest. rw (number_of-decimal frame.0 s.0, number_of-decimal handle.0 s.1.0, number_of-decimal page.0 s.1.1.0, number_of-decimal va.0 s.1.1.1.0, number_of-decimal slot s.1.1.1.1.0) refl)
move_read (Eldb frame handle page va slot) s = by_numbers read_move (codes "eldb") (frame.0 ∷ handle.0 ∷ page.0 ∷ va.0 ∷ slot ∷ []) (Eldb frame handle page va slot) (plain_by _ refl refl) s (λ rest. rw (number_of-decimal frame.0 s.0, number_of-decimal handle.0 s.1.0, number_of-decimal page.0 s.1.1.0, number_of-decimal va.0 s.1.1.1.0, number_of-decimal slot s.1.1.1.1.0) refl)
move_read (Eremove frame) s = by_numbers read_move (codes "eremove") (frame.0 ∷ []) (Eremove frame) (plain_by _ refl refl) s (λ rest. rw (number_of-decimal frame.0 s.0) refl)
move_read (Epa frame) s = by_numbers read_move (codes "epa") (frame.0 ∷ []) (Epa frame) (plain_by _ refl refl) s (λ rest. rw (number_of-decimal frame.0 s.0) refl)
move_read (Discard handle) s = by_numbers read_move (codes "drop") (handle.0 ∷ []) (Discard handle) (plain_by _ refl refl) s (λ rest. rw (number_of-decimal handle.0 s.0) refl)
move_read (Eenter lp value) s = by_numbers read_move (codes "eenter") (lp.0 ∷ value ∷ []) (Eenter lp value) (plain_by _ refl refl) s (λ rest. rw (number_of-decimal lp.0 s.0, number_of-decimal value s.1.0) refl)
move_read (Eresume lp) s = by_numbers read_move (codes "eresume") (lp.0 ∷ []) (Eresume lp) (plain_by _ refl refl) s (λ rest. rw (number_of-decimal lp.0 s.0) refl)
move_read (Run lp turns) s = by_numbers read_move (codes "run") (lp.0 ∷ turns ∷ []) (Run lp turns) (plain_by _ refl refl) s (λ rest. rw (number_of-decimal lp.0 s.0, number_of-decimal turns s.1.0) refl)
move_read (Interrupt lp) s = by_numbers read_move (codes "interrupt") (lp.0 ∷ []) (Interrupt lp) (plain_by _ refl refl) s (λ rest. rw (number_of-decimal lp.0 s.0) refl)

-- the end of a run, as an answer
exit_read : (exit : Exit) → AreSmall (exit_numbers exit) → IsRead read_answer (exit_text exit) (Exited exit)
unfolding read_answer
exit_read Still s = by_numbers read_answer (codes "in") [] (Exited Still) (plain_by _ refl refl) s (λ rest. refl)
exit_read (Pf base code) s = by_numbers read_answer (codes "pf") (base ∷ code ∷ []) (Exited (Pf base code)) (plain_by _ refl refl) s (λ rest. rw (number_of-decimal base s.0, number_of-decimal code s.1.0) refl)
exit_read (Vector vector) s = by_numbers read_answer (codes "vector") (vector ∷ []) (Exited (Vector vector)) (plain_by _ refl refl) s (λ rest. rw (number_of-decimal vector s.0) refl)
exit_read (Called number argument) s = by_numbers read_answer (codes "call") (number ∷ argument ∷ []) (Exited (Called number argument)) (plain_by _ refl refl) s (λ rest. rw (number_of-decimal number s.0, number_of-decimal argument s.1.0) refl)
exit_read (Ask dropped cluster) s = by_numbers read_answer (codes "ask") (dropped ∷ cluster ∷ []) (Exited (Ask dropped cluster)) (plain_by _ refl refl) s (λ rest. rw (number_of-decimal dropped s.0, number_of-decimal cluster s.1.0) refl)
exit_read Ready s = by_numbers read_answer (codes "ready") [] (Exited Ready) (plain_by _ refl refl) s (λ rest. refl)
exit_read Nothing s = by_numbers read_answer (codes "nothing") [] (Exited Nothing) (plain_by _ refl refl) s (λ rest. refl)
exit_read Stopped s = by_numbers read_answer (codes "stopped") [] (Exited Stopped) (plain_by _ refl refl) s (λ rest. refl)
exit_read (Ended status) s = by_numbers read_answer (codes "ended") (status ∷ []) (Exited (Ended status)) (plain_by _ refl refl) s (λ rest. rw (number_of-decimal status s.0) refl)
exit_read (Trapped vector) s = by_numbers read_answer (codes "trapped") (vector ∷ []) (Exited (Trapped vector)) (plain_by _ refl refl) s (λ rest. rw (number_of-decimal vector s.0) refl)

-- an answer
pub answer_read : (a : Answer) → AreSmall (answer_numbers a) → IsRead read_answer (answer_text a) a
unfolding read_answer
answer_read (Exited exit) s = exit_read exit s
answer_read (Pte frame set) s =
    by_tail read_answer (codes "pte") (frame.0 ∷ []) (Pte frame set) (plain_by _ refl refl) s (flags_text set) (told set).plain
    (λ rest. rw (number_of-decimal frame.0 s.0, (told set).read) refl)
answer_read Ok s = by_numbers read_answer (codes "ok") [] Ok (plain_by _ refl refl) s (λ rest. refl)
answer_read (OkHandle handle) s = by_numbers read_answer (codes "handle") (handle.0 ∷ []) (OkHandle handle) (plain_by _ refl refl) s (λ rest. rw (number_of-decimal handle.0 s.0) refl)
answer_read NoPage s = by_numbers read_answer (codes "nopage") [] NoPage (plain_by _ refl refl) s (λ rest. refl)
answer_read NotEpc s = by_numbers read_answer (codes "notepc") [] NotEpc (plain_by _ refl refl) s (λ rest. refl)
answer_read IsSecs s = by_numbers read_answer (codes "issecs") [] IsSecs (plain_by _ refl refl) s (λ rest. refl)
answer_read Free s = by_numbers read_answer (codes "free") [] Free (plain_by _ refl refl) s (λ rest. refl)
answer_read WrongType s = by_numbers read_answer (codes "wrongtype") [] WrongType (plain_by _ refl refl) s (λ rest. refl)
answer_read InUse s = by_numbers read_answer (codes "inuse") [] InUse (plain_by _ refl refl) s (λ rest. refl)
answer_read Blocked s = by_numbers read_answer (codes "blocked") [] Blocked (plain_by _ refl refl) s (λ rest. refl)
answer_read NotBlocked s = by_numbers read_answer (codes "notblocked") [] NotBlocked (plain_by _ refl refl) s (λ rest. refl)
answer_read NotTracked s = by_numbers read_answer (codes "nottracked") [] NotTracked (plain_by _ refl refl) s (λ rest. refl)
answer_read PrevIncomplete s = by_numbers read_answer (codes "previncomplete") [] PrevIncomplete (plain_by _ refl refl) s (λ rest. refl)
answer_read BadVa s = by_numbers read_answer (codes "badva") [] BadVa (plain_by _ refl refl) s (λ rest. refl)
answer_read SlotOccupied s = by_numbers read_answer (codes "slotoccupied") [] SlotOccupied (plain_by _ refl refl) s (λ rest. refl)
answer_read SlotEmpty s = by_numbers read_answer (codes "slotempty") [] SlotEmpty (plain_by _ refl refl) s (λ rest. refl)
answer_read MacFail s = by_numbers read_answer (codes "macfail") [] MacFail (plain_by _ refl refl) s (λ rest. refl)
answer_read EnclaveActive s = by_numbers read_answer (codes "enclaveactive") [] EnclaveActive (plain_by _ refl refl) s (λ rest. refl)
answer_read NoHandle s = by_numbers read_answer (codes "nohandle") [] NoHandle (plain_by _ refl refl) s (λ rest. refl)
answer_read NoLp s = by_numbers read_answer (codes "nolp") [] NoLp (plain_by _ refl refl) s (λ rest. refl)
answer_read Inside s = by_numbers read_answer (codes "inside") [] Inside (plain_by _ refl refl) s (λ rest. refl)
answer_read Outside s = by_numbers read_answer (codes "outside") [] Outside (plain_by _ refl refl) s (λ rest. refl)
answer_read TcsFault s = by_numbers read_answer (codes "tcsfault") [] TcsFault (plain_by _ refl refl) s (λ rest. refl)
answer_read Busy s = by_numbers read_answer (codes "busy") [] Busy (plain_by _ refl refl) s (λ rest. refl)
answer_read Gp s = by_numbers read_answer (codes "gp") [] Gp (plain_by _ refl refl) s (λ rest. refl)
answer_read Pending s = by_numbers read_answer (codes "pending") [] Pending (plain_by _ refl refl) s (λ rest. refl)
answer_read SsaFault s = by_numbers read_answer (codes "ssafault") [] SsaFault (plain_by _ refl refl) s (λ rest. refl)

-- an event
pub event_read : (e : Event) → AreSmall (event_numbers e) → IsRead read_event (event_text e) e
unfolding read_event
event_read (Call count number argument) s = by_numbers read_event (codes "call") (count ∷ number ∷ argument ∷ []) (Call count number argument) (plain_by _ refl refl) s (λ rest. rw (number_of-decimal count s.0, number_of-decimal number s.1.0, number_of-decimal argument s.1.1.0) refl)
event_read (Miss count cluster) s = by_numbers read_event (codes "miss") (count ∷ cluster ∷ []) (Miss count cluster) (plain_by _ refl refl) s (λ rest. rw (number_of-decimal count s.0, number_of-decimal cluster s.1.0) refl)
event_read (Trap count vector) s = by_numbers read_event (codes "trap") (count ∷ vector ∷ []) (Trap count vector) (plain_by _ refl refl) s (λ rest. rw (number_of-decimal count s.0, number_of-decimal vector s.1.0) refl)
event_read (Break count) s = by_numbers read_event (codes "break") (count ∷ []) (Break count) (plain_by _ refl refl) s (λ rest. rw (number_of-decimal count s.0) refl)

-- a cause
pub cause_read : (cause : StopCause) → AreSmall (cause_numbers cause) → IsRead read_cause (cause_text cause) cause
unfolding read_cause
cause_read ResumedEarly s = by_numbers read_cause (codes "resumed") [] ResumedEarly (plain_by _ refl refl) s (λ rest. refl)
cause_read (Unmapped page Reads) s = by_tail read_cause (codes "unmapped") (page.0 ∷ []) (Unmapped page Reads) (plain_by _ refl refl) s (kind_text Reads) (plain_by _ refl refl) (λ rest. rw (number_of-decimal page.0 s.0) refl)
cause_read (Unmapped page Write) s = by_tail read_cause (codes "unmapped") (page.0 ∷ []) (Unmapped page Write) (plain_by _ refl refl) s (kind_text Write) (plain_by _ refl refl) (λ rest. rw (number_of-decimal page.0 s.0) refl)
cause_read (Unmapped page Exec) s = by_tail read_cause (codes "unmapped") (page.0 ∷ []) (Unmapped page Exec) (plain_by _ refl refl) s (kind_text Exec) (plain_by _ refl refl) (λ rest. rw (number_of-decimal page.0 s.0) refl)
cause_read (RuntimeUnmapped page Reads) s = by_tail read_cause (codes "runtime") (page.0 ∷ []) (RuntimeUnmapped page Reads) (plain_by _ refl refl) s (kind_text Reads) (plain_by _ refl refl) (λ rest. rw (number_of-decimal page.0 s.0) refl)
cause_read (RuntimeUnmapped page Write) s = by_tail read_cause (codes "runtime") (page.0 ∷ []) (RuntimeUnmapped page Write) (plain_by _ refl refl) s (kind_text Write) (plain_by _ refl refl) (λ rest. rw (number_of-decimal page.0 s.0) refl)
cause_read (RuntimeUnmapped page Exec) s = by_tail read_cause (codes "runtime") (page.0 ∷ []) (RuntimeUnmapped page Exec) (plain_by _ refl refl) s (kind_text Exec) (plain_by _ refl refl) (λ rest. rw (number_of-decimal page.0 s.0) refl)
cause_read (FetchNotHonoured page Reads) s = by_tail read_cause (codes "fetch") (page.0 ∷ []) (FetchNotHonoured page Reads) (plain_by _ refl refl) s (kind_text Reads) (plain_by _ refl refl) (λ rest. rw (number_of-decimal page.0 s.0) refl)
cause_read (FetchNotHonoured page Write) s = by_tail read_cause (codes "fetch") (page.0 ∷ []) (FetchNotHonoured page Write) (plain_by _ refl refl) s (kind_text Write) (plain_by _ refl refl) (λ rest. rw (number_of-decimal page.0 s.0) refl)
cause_read (FetchNotHonoured page Exec) s = by_tail read_cause (codes "fetch") (page.0 ∷ []) (FetchNotHonoured page Exec) (plain_by _ refl refl) s (kind_text Exec) (plain_by _ refl refl) (λ rest. rw (number_of-decimal page.0 s.0) refl)
cause_read (Stuck page Reads) s = by_tail read_cause (codes "stuck") (page.0 ∷ []) (Stuck page Reads) (plain_by _ refl refl) s (kind_text Reads) (plain_by _ refl refl) (λ rest. rw (number_of-decimal page.0 s.0) refl)
cause_read (Stuck page Write) s = by_tail read_cause (codes "stuck") (page.0 ∷ []) (Stuck page Write) (plain_by _ refl refl) s (kind_text Write) (plain_by _ refl refl) (λ rest. rw (number_of-decimal page.0 s.0) refl)
cause_read (Stuck page Exec) s = by_tail read_cause (codes "stuck") (page.0 ∷ []) (Stuck page Exec) (plain_by _ refl refl) s (kind_text Exec) (plain_by _ refl refl) (λ rest. rw (number_of-decimal page.0 s.0) refl)

-- ---- Lines

-- a text is read as this line, and has no byte but those of words and spaces
pub record Tells (text : List ℕ) (line : Line) : Type 0 where
  pub tells : line_of text ≡ Some line
  pub inner : list_all is_inner text ≡ true

-- a text of words tells what is read of them
of_words : (text : List ℕ) (words : List (List ℕ)) (line : Line) (left : List (List ℕ)) → ArePlain words → 32 ∷ text ≡ spaced words → read_line words ≡ Some (line, left) → Tells text line
of_words text [] line left plain spelled reads = absurd (cc)
of_words text (w ∷ ws) line left plain spelled reads =
    let is : text ≡ w ++ spaced ws = cc in
    record {
      tells = ap line_of is ∙ rw (words_of-spaced w ws plain.0 plain.1, reads) refl;
      inner = ap (list_all is_inner) is ∙ inner_spaced w ws plain.0 plain.1;
    }

pub first_tells : Tells (codes "autarky 1") First
first_tells = record { tells = refl; inner = refl }

pub move_tells : (row : AnsweredMove) → row.number < 2 ^ 64 → AreSmall (move_numbers row.move) → AreSmall (answer_numbers row.answer) → Tells (move_line row) (Moved row)
move_tells row small move_small answer_small =
    let m : IsRead read_move (move_text row.move) row.move = move_read row.move move_small in
    let a : IsRead read_answer (answer_text row.answer) row.answer = answer_read row.answer answer_small in
    let arrow : List ℕ = codes "->" in
    let answered : read_answer a.words ≡ Some (row.answer, []) = ap read_answer (sym (append-nil a.words)) ∙ a.reads [] in
    let rest : spaced (m.words ++ arrow ∷ a.words) ≡ (32 ∷ move_text row.move) ++ 32 ∷ 45 ∷ 62 ∷ 32 ∷ answer_text row.answer = rw (spaced-append, ← m.spelled, ← a.spelled) refl in
    of_words (move_line row) (decimal row.number ∷ m.words ++ arrow ∷ a.words) (Moved row) []
    (plain_decimal row.number small, plain_append m.words (arrow ∷ a.words) m.plain (plain_by _ refl refl, a.plain))
    (rw rest (simp append_assoc))
    (rw (number_of-decimal row.number small, m.reads (arrow ∷ a.words), answered) refl)

pub output_tells : (output : ℕ) → output < 2 ^ 64 → Tells (output_line output) (Put output)
output_tells output small =
    of_words (output_line output) (codes "output" ∷ decimal output ∷ []) (Put output) [] (plain_by _ refl refl, (plain_decimal output small, tt)) refl
    (rw (number_of-decimal output small) refl)

pub event_tells : (e : Event) → AreSmall (event_numbers e) → Tells (event_line e) (Shown e)
event_tells e small =
    let r : IsRead read_event (event_text e) e = event_read e small in
    let heard : read_event r.words ≡ Some (e, []) = ap read_event (sym (append-nil r.words)) ∙ r.reads [] in
    of_words (event_line e) (codes "event" ∷ r.words) (Shown e) [] (plain_by _ refl refl, r.plain) (rw (← r.spelled) refl) (rw heard refl)

none_tells : Tells (stop_line None) (Halted None)
unfolding read_cause
none_tells = record { tells = refl; inner = refl }

pub stop_tells : (stop : Option Stop) → AreSmall (stop_numbers stop) → Tells (stop_line stop) (Halted stop)
stop_tells None small = none_tells
stop_tells (Some stop) small =
    let parts : AreSmall (cause_numbers stop.cause) × AreSmall (stop.blame ∷ []) = small_parts (cause_numbers stop.cause) (stop.blame ∷ []) small in
    let r : IsRead read_cause (cause_text stop.cause) stop.cause = cause_read stop.cause parts.0 in
    let blame : List (List ℕ) = codes "blame" ∷ decimal stop.blame ∷ [] in
    let rest : spaced (r.words ++ blame) ≡ (32 ∷ cause_text stop.cause) ++ spaced blame = rw (spaced-append, ← r.spelled) refl in
    of_words (stop_line (Some stop)) (codes "stop" ∷ r.words ++ blame) (Halted (Some stop)) []
    (plain_by _ refl refl, plain_append r.words blame r.plain (plain_by _ refl refl, (plain_decimal stop.blame parts.1.0, tt)))
    (rw rest (simp append_assoc))
    (rw (r.reads blame, number_of-decimal stop.blame parts.1.0) refl)
