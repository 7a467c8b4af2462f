-- Journals that are not sound, each by one part of soundness alone.
use Rattle.std.proofs.Common.{◌≡◌, ℕ, zero, suc, List, [], ◌∷◌, ◌++◌, arith, refl, ap, sym, ◌∙◌}
use Rattle.std.specs.Prelude.{true, false, take, slice_get, Option, Some, None, is_some, length}
use Rattle.ak_core.specs.Journal.{Journal}
use Rattle.ak_core.specs.Mem.{Access, access_to}
use Rattle.ak_core.specs.declared.event.Event.TheVariants.{Call, Miss, Break}
use Rattle.ak_core.specs.declared.event.Stop.{Stop}
use Rattle.ak_core.specs.declared.event.StopCause.TheVariants.{Unmapped}
use Rattle.ak_core.specs.declared.moves.Exit.{Exit}
use Rattle.ak_core.specs.declared.moves.Answer.TheVariants.{Ok}
use Rattle.ak_core.specs.declared.page.Page.{Page}
use Rattle.ak_core.specs.declared.page.Kind.{Kind}
use Rattle.ak_core.specs.declared.page.Kind.TheVariants.{Write, Exec}
use Rattle.ak_model.specs.Misses.KeptTranslations.{is_kept}
use Rattle.ak_model.specs.Sound.Outputs.{OutputsAreFlat}
use Rattle.ak_model.specs.Sound.Events.{EventsAreFlat}
use Rattle.ak_model.specs.Sound.TracedAnswers.{AnswersAreTraced}
use Rattle.ak_model.specs.Sound.Forced.{AccessesAreReached}
use Rattle.ak_model.specs.Sound.ForcedMisses.{MissesAreForced}
use Rattle.ak_model.specs.Sound.BreaksAndStop.{BreaksAreForcedUnkept, IsStopped}
use Rattle.ak_model.proofs.Rows.Samples.{image_a, page, none, pxad, setpte, eldu, eenter, eresume, run, interrupt, ex, pf}
use Rattle.ak_model.proofs.Rows.Worked.{Row}
use Rattle.ak_model.proofs.Rows.WorkedFlat.{code_a, bytes_a, filled}
use Rattle.ak_model.proofs.Rows.ServedMiss.{journal_of}
use Rattle.ak_model.proofs.Rows.KernelsAndEdges.{served, stopping}

-- the program's page is in and mapped before it is asked for, and the program is entered
abbrev mapped : Row
mapped = (eldu 8 0 0 1 0, Ok) ∷ (setpte 0 8 pxad, Ok) ∷ (eenter 0 0, Ok) ∷ []

-- ---- Outputs

-- another output than the program's, though the answer shows it
unfoldable other_output : Journal
other_output = journal_of (mapped ++ (run 0 9, ex (Exit.Call 1 8)) ∷ []) (8 ∷ []) (Call 3 1 8 ∷ []) None

other_answered : AnswersAreTraced image_a other_output
unfolding other_output
other_answered = record { answered = refl; taken = refl }

-- a beginning of 7 does not begin with 8
abbrev first_of : List ℕ → ℕ
first_of [] = 0
first_of (x ∷ xs) = x

other_output_not : OutputsAreFlat bytes_a image_a other_output → ⊥
unfolding other_output bytes_a code_a filled
other_output_not h = let no : suc 7 ≡ suc 6 = ap first_of h.flat.1 in cc

-- ---- Events

-- a completed call
abbrev call_of : ℕ → ℕ → Option (Option (ℕ × ℕ))
call_of b a = Some (Some (b, a))

-- its argument
abbrev argument_of : Option (Option (ℕ × ℕ)) → ℕ
argument_of (Some (Some call)) = call.1
argument_of _ = 0

-- so the call on the tape is not the program's
other_call_not : EventsAreFlat bytes_a image_a other_output → ⊥
unfolding other_output bytes_a code_a filled
other_call_not h = let no : suc 6 ≡ suc 7 = ap argument_of (h.completed 3 (omega arith)) in cc

-- the program calls, and the tape has no call
unfoldable no_call : Journal
no_call = journal_of (mapped ++ (run 0 9, ex Exit.Still) ∷ []) [] [] None

no_call_answered : AnswersAreTraced image_a no_call
unfolding no_call
no_call_answered = record { answered = refl; taken = refl }

no_call_not : EventsAreFlat bytes_a image_a no_call → ⊥
unfolding no_call bytes_a code_a filled
no_call_not h = let no : call_of 1 7 ≡ Some None = h.completed 3 (omega arith) in cc

-- bytes that give vector 6
unfoldable undefined : List ℕ
unfolding filled
undefined = filled (0x0f ∷ 0x0b ∷ [])

-- an instruction that gives a vector completes
unfoldable vector_done : Journal
vector_done = journal_of (mapped ++ (run 0 2, ex Exit.Still) ∷ []) [] [] None

vector_done_not : EventsAreFlat undefined image_a vector_done → ⊥
unfolding vector_done undefined filled
vector_done_not h = let no : None ≡ Some None = h.completed 0 (omega arith) in cc

-- ---- Accesses

-- the page is taken away while the program is interrupted, and an instruction completes after it
unfoldable unreached : Journal
unreached = journal_of (served ++ (run 0 1, ex Exit.Still) ∷ (interrupt 0, Ok) ∷ (setpte 0 0 none, Ok) ∷ (eresume 0, Ok) ∷ (run 0 1, ex Exit.Still) ∷ []) [] (Miss 0 0 ∷ []) None

unreached_answered : AnswersAreTraced image_a unreached
unfolding unreached
unreached_answered = record { answered = refl; taken = refl }

unreached_not : AccessesAreReached bytes_a image_a unreached → ⊥
unfolding unreached bytes_a code_a filled
unreached_not h = let no : false ≡ true = h.turns_reach.0 in cc

-- ---- Misses

-- the page is taken away after an instruction was fetched from it, and the next fetch misses, though its translation is kept
unfoldable kept_miss : Journal
kept_miss = journal_of (mapped ++ (run 0 2, ex Exit.Still) ∷ (setpte 0 0 none, Ok) ∷ (run 0 9, pf) ∷ []) [] (Miss 1 0 ∷ []) None

kept_miss_answered : AnswersAreTraced image_a kept_miss
unfolding kept_miss
kept_miss_answered = record { answered = refl; taken = refl }

-- no access of an instruction that makes one fetch is unkept
still_kept : (place : ℕ) (t : Access) → slice_get (access_to 0 Exec ∷ []) place ≡ Some t → is_kept (access_to 0 Exec ∷ take place (access_to 0 Exec ∷ [])) t ≡ false → ⊥
still_kept zero t stands unkept =
    let same : Some (access_to 0 Exec) ≡ Some t = stands in
    let kept : is_kept (access_to 0 Exec ∷ []) (access_to 0 Exec) ≡ true = refl in
    cc
still_kept (suc place) t stands unkept = cc

kept_miss_not : MissesAreForced bytes_a image_a kept_miss → ⊥
unfolding kept_miss bytes_a code_a filled
kept_miss_not h =
    let miss = h.turns_miss.0 in
    still_kept miss.faults.may_fault.place miss.access miss.faults.may_fault.stands miss.faults.unkept

-- ---- Breaks

-- the first fetch breaks, though its cluster is out
unfoldable out_break : Journal
out_break = journal_of ((eenter 0 0, Ok) ∷ (run 0 9, pf) ∷ []) [] (Break 0 ∷ []) None

only_page : (place : ℕ) (t : Access) → slice_get (access_to 0 Exec ∷ []) place ≡ Some t → t ≡ access_to 0 Exec
only_page zero t stands = cc
only_page (suc place) t stands = cc

out_break_not : BreaksAreForcedUnkept bytes_a image_a out_break → ⊥
unfolding out_break bytes_a code_a filled
out_break_not h =
    let break = h.turns_break.0 in
    let no : false ≡ true = break.inside in
    cc

-- the program breaks, and its stop names another page, or another kind of access
abbrev stop_of : Page → Kind → Option Stop
stop_of p kind = Some (record { cause = Unmapped p kind; blame = 10 })

abbrev stopped_by : Option Stop → Journal
stopped_by stop = journal_of (served ++ (setpte 0 0 none, Ok) ∷ (run 0 9, pf) ∷ stopping) [] (Miss 0 0 ∷ Break 0 ∷ []) stop

unfoldable other_page : Journal
other_page = stopped_by (stop_of (page 6) Exec)

unfoldable other_kind : Journal
other_kind = stopped_by (stop_of (page 0) Write)

other_page_not : BreaksAreForcedUnkept bytes_a image_a other_page → ⊥
unfolding other_page bytes_a code_a filled
other_page_not h =
    let break = h.turns_break.0 in
    let is : break.access ≡ access_to 0 Exec = only_page break.faults.unkept.may_fault.place break.access break.faults.unkept.may_fault.stands in
    let named : break.access.page ≡ page 6 = break.faults.named.0 in
    let no : zero ≡ suc 5 = sym (ap (λ t. t.page.0) is) ∙ ap (λ p. p.0) named in
    cc

other_kind_not : BreaksAreForcedUnkept bytes_a image_a other_kind → ⊥
unfolding other_kind bytes_a code_a filled
other_kind_not h =
    let break = h.turns_break.0 in
    let is : break.access ≡ access_to 0 Exec = only_page break.faults.unkept.may_fault.place break.access break.faults.unkept.may_fault.stands in
    let named : break.access.kind ≡ Write = break.faults.named.1 in
    let no : Exec ≡ Write = sym (ap (λ t. t.kind) is) ∙ named in
    cc

-- ---- Answers

-- the kernel is told of another exit than the trace has
unfoldable other_answer : Journal
other_answer = journal_of ((eenter 0 0, Ok) ∷ (run 0 1, ex Exit.Ready) ∷ []) [] [] None

other_answer_not : AnswersAreTraced image_a other_answer → ⊥
unfolding other_answer
other_answer_not h =
    let no : Some (ex Exit.Ready) ≡ Some (ex Exit.Still) = ap (λ answers. slice_get answers 1) h.answered in
    cc

-- a call is on the tape that no turn took
unfoldable untaken : Journal
untaken = journal_of ((eenter 0 0, Ok) ∷ (run 0 1, ex Exit.Still) ∷ []) [] (Call 0 1 7 ∷ []) None

untaken_not : AnswersAreTraced image_a untaken → ⊥
unfolding untaken
untaken_not h = let no : suc zero ≡ zero = ap length h.taken in cc

-- ---- The stop

-- the enclave stopped, and the journal has no stop
unfoldable unstopped : Journal
unstopped = stopped_by None

unstopped_not : IsStopped image_a unstopped → ⊥
unfolding unstopped
unstopped_not h = let no : false ≡ true = ap is_some h.stopped.2 in cc
