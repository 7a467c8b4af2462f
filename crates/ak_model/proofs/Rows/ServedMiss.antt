-- The journal of one served miss is sound; and journals that are not.
use Rattle.std.proofs.Common.{◌≡◌, ℕ, zero, suc, ◌<◌, ◌≤◌, List, [], ◌∷◌, arith, refl, ap}
use Rattle.std.specs.Prelude.{false, true, slice_get, Option, Some, None, option_and_then, is_some, length}
use Rattle.ak_core.specs.Journal.{Journal}
use Rattle.ak_core.specs.Mem.{Access, access_to}
use Rattle.ak_core.specs.declared.event.Event.{Event}
use Rattle.ak_core.specs.declared.event.Event.TheVariants.{Call, Miss}
use Rattle.ak_core.specs.declared.event.Stop.{Stop}
use Rattle.ak_core.specs.declared.event.StopCause.TheVariants.{ResumedEarly}
use Rattle.ak_core.specs.declared.moves.Exit.{Exit}
use Rattle.ak_core.specs.declared.moves.Answer.TheVariants.{Ok}
use Rattle.ak_core.specs.declared.page.Kind.TheVariants.{Exec}
use Rattle.ak_model.specs.Paging.Walk.{access_walkable}
use Rattle.ak_model.specs.Tapes.LastMoment.{runs_of}
use Rattle.ak_model.specs.Sound.Events.{completed_by, ending_at, call_at}
use Rattle.ak_model.specs.Sound.SoundJournal.{Sound}
use Rattle.ak_model.proofs.Rows.Samples.{image_a, pxad, setpte, eldu, eenter, eresume, run, ex, pf}
use Rattle.ak_model.proofs.Rows.Worked.{Row, moves_of, answers_of}
use Rattle.ak_model.proofs.Rows.WorkedFlat.{bytes_a, code_a, filled}
use Rattle.ak_model.proofs.Rows.ValidLayouts.{valid_a, whole_a}

-- the journal of a row, with these outputs, events and stop
abbrev pub journal_of : Row → List ℕ → List Event → Option Stop → Journal
journal_of row outputs events stop =
    record { moves = moves_of row; answers = answers_of row; outputs = outputs; events = events; stop = stop; room = 0 }

-- ---- The program of two calls, its one miss served

unfoldable pub served : Journal
served = journal_of ((eenter 0 0, Ok) ∷ (run 0 1000, pf) ∷ (eenter 0 0, Ok) ∷ (run 0 1000, ex (Exit.Ask 0 0)) ∷ (eldu 8 0 0 1 0, Ok) ∷ (setpte 0 8 pxad, Ok)
    ∷ (eenter 0 0, Ok) ∷ (run 0 1000, ex Exit.Ready) ∷ (eresume 0, Ok) ∷ (run 0 1000, ex (Exit.Call 1 7)) ∷ (eenter 0 0, Ok) ∷ (run 0 1000, ex (Exit.Ended 0)) ∷ [])
    (7 ∷ []) (Miss 0 0 ∷ Call 3 1 7 ∷ Call 7 0 0 ∷ []) None

each_completes : (i : ℕ) → i < 8 → option_and_then completed_by (ending_at image_a (runs_of image_a bytes_a served) i) ≡ Some (call_at served.events i)
unfolding served bytes_a code_a filled
each_completes zero h = refl
each_completes (suc zero) h = refl
each_completes (suc (suc zero)) h = refl
each_completes (suc (suc (suc zero))) h = refl
each_completes (suc (suc (suc (suc zero)))) h = refl
each_completes (suc (suc (suc (suc (suc zero))))) h = refl
each_completes (suc (suc (suc (suc (suc (suc zero)))))) h = refl
each_completes (suc (suc (suc (suc (suc (suc (suc zero))))))) h = refl
each_completes (suc (suc (suc (suc (suc (suc (suc (suc i)))))))) h = absurd (omega arith)

-- of its nine turns the oldest misses, and the others complete
pub served_sound : Sound bytes_a image_a served
unfolding served bytes_a code_a filled
served_sound = record {
  valid = valid_a;
  whole = whole_a;
  outputs = record { shown = refl; flat = ([], refl) };
  events = record { tape = refl; completed = each_completes; traps = (tt, (tt, (tt, tt))) };
  accesses = record { turns_reach = (refl, (refl, (refl, (refl, (refl, (refl, (refl, (refl, (tt, tt))))))))) };
  misses = record {
    turns_miss = (
      tt,
      (
        tt,
        (
          tt,
          (
            tt,
            (
              tt,
              (
                tt,
                (
                  tt,
                  (
                    tt,
                    (
                      record {
                        access = access_to 0 Exec;
                        faults = record { may_fault = record { place = 0; stands = refl; permitted = refl; unmapped = refl; earlier = refl }; unkept = refl };
                        cluster = refl;
                        out = refl;
                      },
                      tt,
                    ),
                  ),
                ),
              ),
            ),
          ),
        ),
      ),
    );
  };
  breaks = record { turns_break = (tt, (tt, (tt, (tt, (tt, (tt, (tt, (tt, (tt, tt))))))))) };
  answers = record { answered = refl; taken = refl };
  stop = record { stopped = refl };
}

-- ---- What is not sound

-- a miss of a page that a walk finds: the kernel had put the page in before the program entered
unfoldable walkable : Journal
walkable = journal_of ((eldu 8 0 0 1 0, Ok) ∷ (setpte 0 8 pxad, Ok) ∷ (eenter 0 0, Ok) ∷ (run 0 10, pf) ∷ []) [] (Miss 0 0 ∷ []) None

is_found : (place : ℕ) (t : Access) → slice_get (access_to 0 Exec ∷ []) place ≡ Some t → access_walkable image_a ((eenter 0 0, Ok) ∷ (setpte 0 8 pxad, Ok) ∷ (eldu 8 0 0 1 0, Ok) ∷ []) t ≡ false → ⊥
is_found zero t stands unmapped =
    let same : Some (access_to 0 Exec) ≡ Some t = stands in
    let walks : access_walkable image_a ((eenter 0 0, Ok) ∷ (setpte 0 8 pxad, Ok) ∷ (eldu 8 0 0 1 0, Ok) ∷ []) (access_to 0 Exec) ≡ true = refl in
    cc
is_found (suc place) t stands unmapped = cc

walkable_not : Sound bytes_a image_a walkable → ⊥
unfolding walkable bytes_a code_a filled
walkable_not h =
    let miss = h.misses.turns_miss.0 in
    let fault = miss.faults.may_fault in
    is_found fault.place miss.access fault.stands fault.unmapped

-- a second miss of a cluster that is in by the first
unfoldable twice : Journal
twice = journal_of ((eenter 0 0, Ok) ∷ (run 0 1000, pf) ∷ (eenter 0 0, Ok) ∷ (run 0 1000, ex (Exit.Ask 0 0)) ∷ (eldu 8 0 0 1 0, Ok) ∷ (setpte 0 8 pxad, Ok)
    ∷ (eenter 0 0, Ok) ∷ (run 0 1000, ex Exit.Ready) ∷ (eresume 0, Ok) ∷ (run 0 1000, pf) ∷ []) [] (Miss 0 0 ∷ Miss 0 0 ∷ []) None

twice_not : Sound bytes_a image_a twice → ⊥
unfolding twice
twice_not h = let no : true ≡ false = h.misses.turns_miss.0.out in cc

-- an output that the program does not make, though the answers show it
unfoldable other : Journal
other = journal_of ((eenter 0 0, Ok) ∷ (run 0 1000, pf) ∷ []) (7 ∷ []) (Miss 0 0 ∷ []) None

other_not : Sound bytes_a image_a other → ⊥
unfolding other
other_not h = let no : suc zero ≡ zero = ap length h.outputs.shown in cc

-- a stop where nothing stopped
unfoldable stopped : Journal
stopped = journal_of [] [] [] (Some (record { cause = ResumedEarly; blame = 1 }))

stopped_not : Sound bytes_a image_a stopped → ⊥
unfolding stopped
stopped_not h =
    let no : true ≡ false = ap is_some h.stop.stopped in
    cc

-- before anything happened
nothing : Sound bytes_a image_a (journal_of [] [] [] None)
unfolding bytes_a code_a filled
nothing = record {
  valid = valid_a;
  whole = whole_a;
  outputs = record { shown = refl; flat = ([], refl) };
  events = record { tape = refl; completed = λ i. λ h. absurd (omega arith); traps = tt };
  accesses = record { turns_reach = tt };
  misses = record { turns_miss = tt };
  breaks = record { turns_break = tt };
  answers = record { answered = refl; taken = refl };
  stop = record { stopped = refl };
}

-- the image lacks its page
short_not : Sound [] image_a (journal_of [] [] [] None) → ⊥
short_not h = let no : zero ≡ suc 4095 = h.whole in cc

-- a layout without a processor
unprocessed_not : Sound bytes_a (record image_a { lps = 0 }) (journal_of [] [] [] None) → ⊥
unprocessed_not h = let no : 1 ≤ 0 = h.valid.some_lp in absurd (omega arith)
