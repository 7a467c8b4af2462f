-- The program turns of worked rows, and what is forced in them.
use Rattle.std.specs.Prelude.{◌≡◌, ℕ, zero, suc, true, false, slice_get, List, [], ◌∷◌, ◌++◌, map, reverse, Some, None, refl}
use Rattle.ak_core.specs.Journal.{Journal}
use Rattle.ak_core.specs.Mem.{Access, access_to}
use Rattle.ak_core.specs.declared.event.Event.{Event}
use Rattle.ak_core.specs.declared.event.Event.TheVariants.{Call, Miss, Break}
use Rattle.ak_core.specs.declared.moves.Exit.{Exit}
use Rattle.ak_core.specs.declared.moves.Answer.TheVariants.{Ok}
use Rattle.ak_core.specs.declared.page.Kind.TheVariants.{Exec}
use Rattle.ak_model.specs.Paging.Histories.{History}
use Rattle.ak_model.specs.Tapes.ProgramTurns.{ProgramTurn}
use Rattle.ak_model.specs.Paging.Walk.{access_walkable}
use Rattle.ak_model.specs.Clusters.Queue.{is_in}
use Rattle.ak_model.specs.Sound.TracedAnswers.{AnswersAreTraced}
use Rattle.ak_model.specs.Misses.Reached.{reached}
use Rattle.ak_model.specs.Sound.Forced.{queue_by, turns_of, AccessesAreReached, BreaksAreForced}
use Rattle.ak_model.proofs.Rows.Samples.{image_a, setpte, none, pxad, eldu, eenter, eresume, run, interrupt, ex, pf}
use Rattle.ak_model.proofs.Rows.Worked.{Row, moves_of, answers_of}
use Rattle.ak_model.proofs.Rows.WorkedFlat.{code_a, bytes_a, filled}
use Rattle.ak_model.proofs.Rows.KernelsAndEdges.{served}

-- the journal of a row, with these outputs and events
abbrev journal_of : Row → List ℕ → List Event → Journal
journal_of row outputs events =
    record { moves = moves_of row; answers = answers_of row; outputs = outputs; events = events; stop = None; room = 0 }

-- a turn on the first processor
abbrev turn_of : History → ℕ → ProgramTurn
turn_of past count = record { lp = 0; past = past; count = count; event = None }

-- the program's page is in and mapped before it is asked for
abbrev mapped : Row
mapped = (eldu 8 0 0 1 0, Ok) ∷ (setpte 0 8 pxad, Ok) ∷ []

-- ---- A miss is served, and the page is taken away before the program goes on

unfoldable broken : Journal
broken = journal_of (served ++ (setpte 0 8 none, Ok) ∷ (interrupt 0, Ok) ∷ (eresume 0, Ok) ∷ (run 0 10, pf) ∷ (eenter 0 0, Ok) ∷ (run 0 10, ex Exit.Stopped) ∷ []) [] (Miss 0 0 ∷ Break 0 ∷ [])

one_break : map (λ turn. turn.event) (turns_of image_a broken) ≡ Some (Break 0) ∷ Some (Miss 0 0) ∷ []
unfolding broken
one_break = refl

break_forced : BreaksAreForced bytes_a image_a broken
unfolding broken bytes_a code_a filled
break_forced = record {
  turns_break = (
    record {
      access = access_to 0 Exec;
      faults = record { place = 0; stands = refl; permitted = refl; unmapped = refl; earlier = refl };
      inside = refl;
    },
    (tt, tt),
  );
}

break_reached : AccessesAreReached bytes_a image_a broken
unfolding broken bytes_a code_a filled
break_reached = record { turns_reach = (tt, (tt, tt)) }

-- ---- Two calls, with no turn but those that complete

unfoldable called : Journal
called = journal_of (mapped ++ (eenter 0 0, Ok) ∷ (run 0 1000, ex (Exit.Call 1 7)) ∷ (eenter 0 0, Ok) ∷ (run 0 1000, ex (Exit.Ended 0)) ∷ []) (7 ∷ []) (Call 3 1 7 ∷ Call 7 0 0 ∷ [])

called_answers : AnswersAreTraced image_a called
unfolding called
called_answers = record { answered = refl; taken = refl }

eight_turns : map (λ turn. turn.count) (turns_of image_a called) ≡ 7 ∷ 6 ∷ 5 ∷ 4 ∷ 3 ∷ 2 ∷ 1 ∷ 0 ∷ []
unfolding called
eight_turns = refl

two_calls : map (λ turn. turn.event) (turns_of image_a called) ≡ Some (Call 7 0 0) ∷ None ∷ None ∷ None ∷ Some (Call 3 1 7) ∷ None ∷ None ∷ None ∷ []
unfolding called
two_calls = refl

calls_reached : AccessesAreReached bytes_a image_a called
unfolding called bytes_a code_a filled
calls_reached = record { turns_reach = (refl, (refl, (refl, (refl, (refl, (refl, (refl, (refl, tt)))))))) }

calls_forced : BreaksAreForced bytes_a image_a called
unfolding called
calls_forced = record { turns_break = (tt, (tt, (tt, (tt, (tt, (tt, (tt, (tt, tt)))))))) }

-- ---- A miss is served, and later the page is taken away

-- a jump to itself
unfoldable jump : List ℕ
unfolding filled
jump = filled (0xe9 ∷ 0xfb ∷ 0xff ∷ 0xff ∷ 0xff ∷ [])

-- the kernel serves the miss; it takes the page while the program runs, and the program breaks once it was left
unfoldable taken : Journal
taken = journal_of ((eenter 0 0, Ok) ∷ (run 0 1000, pf) ∷ (eenter 0 0, Ok) ∷ (run 0 1000, ex (Exit.Ask 0 0)) ∷ (eldu 8 0 0 1 0, Ok) ∷ (setpte 0 8 pxad, Ok)
    ∷ (eenter 0 0, Ok) ∷ (run 0 1000, ex Exit.Ready) ∷ (eresume 0, Ok) ∷ (run 0 1, ex Exit.Still) ∷ (setpte 0 0 none, Ok) ∷ (run 0 1, ex Exit.Still)
    ∷ (interrupt 0, Ok) ∷ (eresume 0, Ok) ∷ (run 0 1, pf) ∷ []) [] (Miss 0 0 ∷ Break 2 ∷ [])

taken_turns : map (λ turn. turn.event) (turns_of image_a taken) ≡ Some (Break 2) ∷ None ∷ None ∷ Some (Miss 0 0) ∷ []
unfolding taken
taken_turns = refl

taken_answers : AnswersAreTraced image_a taken
unfolding taken
taken_answers = record { answered = refl; taken = refl }

-- the instruction after the page was taken is carried out too: its access was reached since the entering
taken_reached : AccessesAreReached jump image_a taken
unfolding taken jump filled
taken_reached = record { turns_reach = (tt, (refl, (refl, (tt, tt)))) }

taken_forced : BreaksAreForced jump image_a taken
unfolding taken jump filled
taken_forced = record {
  turns_break = (
    record {
      access = access_to 0 Exec;
      faults = record { place = 0; stands = refl; permitted = refl; unmapped = refl; earlier = refl };
      inside = refl;
    },
    (tt, (tt, (tt, tt))),
  );
}

-- without the miss the cluster is out
out : is_in (queue_by image_a []) 0 ≡ false
out = refl

-- ---- What is not so

-- a break where the kernel did nothing after it served the miss is not forced
unfoldable idle : Journal
idle = journal_of (served ++ (run 0 10, pf) ∷ []) [] (Miss 0 0 ∷ Break 0 ∷ [])

idle_walks : (place : ℕ) (t : Access) → slice_get (access_to 0 Exec ∷ []) place ≡ Some t → access_walkable image_a (reverse served) t ≡ false → ⊥
idle_walks zero t stands unmapped =
    let same : Some (access_to 0 Exec) ≡ Some t = stands in
    let walks : access_walkable image_a (reverse served) (access_to 0 Exec) ≡ true = refl in
    cc
idle_walks (suc place) t stands unmapped = cc

idle_not_forced : BreaksAreForced bytes_a image_a idle → ⊥
unfolding idle bytes_a code_a filled
idle_not_forced h =
    let break = h.turns_break.0 in
    idle_walks break.faults.place break.access break.faults.stands break.faults.unmapped

-- nothing completes on a page that was mapped away before the entering
unfoldable unreached : Journal
unreached = journal_of (mapped ++ (setpte 0 8 none, Ok) ∷ (eenter 0 0, Ok) ∷ (run 0 2, ex Exit.Still) ∷ []) [] []

unreached_not : AccessesAreReached bytes_a image_a unreached → ⊥
unfolding unreached bytes_a code_a filled
unreached_not h = let no : false ≡ true = h.turns_reach.0 in cc

-- ---- When an access was reached

-- mapped away before the entering, it was not
away_before : reached image_a (turn_of ((eenter 0 0, Ok) ∷ (setpte 0 8 none, Ok) ∷ reverse mapped) 0) (access_to 0 Exec) ≡ false
away_before = refl

-- mapped away after the entering, it was
away_after : reached image_a (turn_of ((setpte 0 8 none, Ok) ∷ (eenter 0 0, Ok) ∷ reverse mapped) 0) (access_to 0 Exec) ≡ true
away_after = refl

-- mapped for a moment between, it was
between : reached image_a (turn_of ((setpte 0 8 none, Ok) ∷ (setpte 0 8 pxad, Ok) ∷ (eenter 0 0, Ok) ∷ (setpte 0 8 none, Ok) ∷ reverse mapped) 0) (access_to 0 Exec) ≡ true
between = refl

-- outside, none was
outside : reached image_a (turn_of [] 0) (access_to 0 Exec) ≡ false
outside = refl
