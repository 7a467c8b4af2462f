-- A page is taken from a running program: its translation is kept until the processor leaves, and then the program breaks.
use Rattle.std.proofs.Common.{◌≡◌, ℕ, zero, suc, ◌<◌, List, [], ◌∷◌, ◌++◌, arith, refl, ap, sym, ◌∙◌}
use Rattle.std.specs.Prelude.{reverse, true, false, take, slice_get, Option, Some, None, option_and_then}
use Rattle.ak_core.specs.Layout.{Layout}
use Rattle.ak_core.specs.Journal.{Journal}
use Rattle.ak_core.specs.Mem.{Access, access_to}
use Rattle.ak_core.specs.declared.event.Event.TheVariants.{Miss, Break}
use Rattle.ak_core.specs.declared.event.Stop.{Stop}
use Rattle.ak_core.specs.declared.event.StopCause.{StopCause}
use Rattle.ak_core.specs.declared.event.StopCause.TheVariants.{Unmapped, ResumedEarly}
use Rattle.ak_core.specs.declared.page.Page.{Page}
use Rattle.ak_core.specs.declared.page.Kind.{Kind}
use Rattle.ak_model.specs.Stops.Blame.{blame}
use Rattle.ak_model.specs.Control.Trace.{trace}
use Rattle.ak_model.specs.Stops.MovesBefore.{before_stop}
use Rattle.ak_core.specs.declared.moves.Exit.{Exit}
use Rattle.ak_core.specs.declared.moves.Answer.TheVariants.{Ok}
use Rattle.ak_core.specs.declared.page.Kind.TheVariants.{Read, Write, Exec}
use Rattle.ak_model.specs.Tapes.LastMoment.{runs_of}
use Rattle.ak_model.specs.Sound.Events.{completed_by, ending_at, call_at}
use Rattle.ak_model.specs.Flat.FlatRuns.{flat_run}
use Rattle.ak_model.specs.Tapes.ProgramTurns.{ProgramTurn, program_turns}
use Rattle.ak_model.specs.Misses.KeptTranslations.{granted_since, is_kept, distinct}
use Rattle.ak_model.specs.Sound.SoundJournal.{Sound}
use Rattle.ak_model.proofs.Rows.Samples.{image_a, page, none, pxad, setpte, eldu, eenter, eresume, run, interrupt, ex, pf}
use Rattle.ak_model.proofs.Rows.Worked.{Row, moves_of}
use Rattle.ak_model.proofs.Rows.WorkedFlat.{filled}
use Rattle.ak_model.proofs.Rows.ValidLayouts.{valid_a}
use Rattle.ak_model.proofs.Rows.ServedMiss.{journal_of}

-- a jump to itself
unfoldable jump : List ℕ
unfolding filled
jump = filled (0xe9 ∷ 0xfb ∷ 0xff ∷ 0xff ∷ 0xff ∷ [])

-- the miss is served, one jump is made, the page is taken away
abbrev until_taken : Row
until_taken =
    (eenter 0 0, Ok) ∷ (run 0 1000, pf) ∷ (eenter 0 0, Ok) ∷ (run 0 1000, ex (Exit.Ask 0 0)) ∷ (eldu 8 0 0 1 0, Ok) ∷ (setpte 0 8 pxad, Ok)
    ∷ (eenter 0 0, Ok) ∷ (run 0 1000, ex Exit.Ready) ∷ (eresume 0, Ok) ∷ (run 0 1, ex Exit.Still) ∷ (setpte 0 0 none, Ok) ∷ []

-- a second jump is made; after an interrupt the program breaks, and the enclave stops
abbrev until_stopped : Row
until_stopped =
    until_taken ++ (run 0 1, ex Exit.Still) ∷ (interrupt 0, Ok) ∷ (eresume 0, Ok) ∷ (run 0 1, pf) ∷ (eenter 0 0, Ok) ∷ (run 0 1, ex Exit.Stopped) ∷ []

-- the page of the stop, and the move that is blamed
abbrev stop_by : ℕ → Option Stop
stop_by blamed = Some (record { cause = Unmapped (page 0) Exec; blame = blamed })

unfoldable broken : Journal
broken = journal_of until_stopped [] (Miss 0 0 ∷ Break 2 ∷ []) (stop_by 11)

each_completes : (i : ℕ) → i < 2 → option_and_then completed_by (ending_at image_a (runs_of image_a jump broken) i) ≡ Some (call_at broken.events i)
unfolding broken jump filled
each_completes zero h = refl
each_completes (suc zero) h = refl
each_completes (suc (suc i)) h = absurd (omega arith)

-- the newest of its four turns breaks, two complete, and the oldest misses
broken_sound : Sound jump image_a broken
unfolding broken jump filled
broken_sound = record {
  valid = valid_a;
  whole = refl;
  outputs = record { shown = refl; flat = ([], refl) };
  events = record { tape = refl; completed = each_completes; traps = (tt, (tt, tt)) };
  accesses = record { turns_reach = (tt, (refl, (refl, (tt, tt)))) };
  misses = record {
    turns_miss = (
      tt,
      (
        tt,
        (
          tt,
          (
            record {
              access = access_to 0 Exec;
              faults = record { may_fault = record { place = 0; stands = refl; permitted = refl; unmapped = refl; earlier = refl }; unkept = refl };
              cluster = refl;
              out = refl;
            },
            tt,
          ),
        ),
      ),
    );
  };
  breaks = record {
    turns_break = (
      record {
        access = access_to 0 Exec;
        faults = record {
          unkept = record { may_fault = record { place = 0; stands = refl; permitted = refl; unmapped = refl; earlier = refl }; unkept = refl };
          named = (refl, refl);
        };
        inside = refl;
      },
      (tt, (tt, (tt, tt))),
    );
  };
  answers = record { answered = refl; taken = refl };
  stop = record { stopped = (page 0, Exec, refl) };
}

-- ---- What is not sound

-- a break while the translation is kept: the processor has not left since the jump before
unfoldable early : Journal
early = journal_of (until_taken ++ (run 0 1, pf) ∷ []) [] (Miss 0 0 ∷ Break 1 ∷ []) None

still_kept : (place : ℕ) (t : Access) → slice_get (access_to 0 Exec ∷ []) place ≡ Some t → is_kept (access_to 0 Exec ∷ take place (access_to 0 Exec ∷ [])) t ≡ false → ⊥
still_kept zero t stands unkept =
    let same : Some (access_to 0 Exec) ≡ Some t = stands in
    let kept : is_kept (access_to 0 Exec ∷ []) (access_to 0 Exec) ≡ true = refl in
    cc
still_kept (suc place) t stands unkept = cc

early_not : Sound jump image_a early → ⊥
unfolding early jump filled
early_not h =
    let break = h.breaks.turns_break.0 in
    let may = break.faults.unkept in
    still_kept may.may_fault.place break.access may.may_fault.stands may.unkept

-- a stop that blames another move
unfoldable misblamed : Journal
misblamed = journal_of until_stopped [] (Miss 0 0 ∷ Break 2 ∷ []) (stop_by 10)

-- the cause of a stop
abbrev cause_of : Option Stop → StopCause
cause_of None = ResumedEarly
cause_of (Some stop) = stop.cause

-- the move that it blames
abbrev blame_of : Option Stop → ℕ
blame_of None = 0
blame_of (Some stop) = stop.blame

-- a stop for this page names the move that is blamed for it
blamed_by : (blamed : StopCause → ℕ) (p : Page) (kind : Kind) → stop_by 10 ≡ Some (record { cause = Unmapped p kind; blame = blamed (Unmapped p kind) }) → 10 ≡ blamed (Unmapped (page 0) Exec)
blamed_by blamed p kind same =
    let cause : Unmapped p kind ≡ Unmapped (page 0) Exec = ap cause_of (sym same) in
    let blame : 10 ≡ blamed (Unmapped p kind) = ap blame_of same in
    blame ∙ ap blamed cause

apart : (n : ℕ) → n ≡ 10 → n ≡ 11 → ⊥
apart n ten eleven = cc

misblamed_not : Sound jump image_a misblamed → ⊥
unfolding misblamed
misblamed_not h =
    let stop = h.stop.stopped in
    let tape = Miss 0 0 ∷ Break 2 ∷ [] in
    let past = (trace image_a tape (before_stop image_a tape (reverse (moves_of until_stopped)))).past in
    apart 10 refl (blamed_by (blame image_a past) stop.0 stop.1 stop.2)

-- ---- What is kept

-- an access that was not granted is not kept, and neither is another kind of access to its page
other_kind : is_kept (access_to 3 Read ∷ access_to 4 Exec ∷ []) (access_to 3 Write) ≡ false
other_kind = refl

-- four accesses of one remainder are kept, one of them granted twice
four : is_kept (access_to 1 Exec ∷ access_to 17 Read ∷ access_to 1 Exec ∷ access_to 33 Write ∷ access_to 1 Read ∷ []) (access_to 17 Read) ≡ true
four = refl

-- where a fifth came, none is kept for certain, whatever its remainder
five : is_kept (access_to 1 Exec ∷ access_to 17 Read ∷ access_to 49 Read ∷ access_to 33 Write ∷ access_to 1 Read ∷ access_to 2 Read ∷ []) (access_to 2 Read) ≡ false
five = refl

once : distinct (access_to 1 Exec ∷ access_to 1 Read ∷ access_to 1 Exec ∷ []) ≡ access_to 1 Read ∷ access_to 1 Exec ∷ []
once = refl

-- two processors
abbrev image_two : Layout
image_two = record image_a { lps = 2 }

-- what the newest turn that these moves make was granted before it
abbrev granted_to : List ProgramTurn → List Access
granted_to [] = []
granted_to (turn ∷ older) = granted_since image_two (flat_run image_two jump []) turn older

abbrev granted_after : Row → List Access
granted_after row = granted_to (program_turns image_two (Miss 0 0 ∷ []) (reverse (moves_of row)))

-- two jumps of the same stay, before a third
two_granted : granted_after (until_taken ++ (run 0 2, ex Exit.Still) ∷ []) ≡ access_to 0 Exec ∷ access_to 0 Exec ∷ []
unfolding jump filled
two_granted = refl

-- after leaving and resuming nothing was granted yet, on the same processor as on another
none_after : granted_after (until_taken ++ (interrupt 0, Ok) ∷ (eresume 0, Ok) ∷ (run 0 1, ex Exit.Still) ∷ []) ≡ []
unfolding jump filled
none_after = refl

none_on_another : granted_after (until_taken ++ (interrupt 0, Ok) ∷ (eresume 1, Ok) ∷ (run 1 1, ex Exit.Still) ∷ []) ≡ []
unfolding jump filled
none_on_another = refl
