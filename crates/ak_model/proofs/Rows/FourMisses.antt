-- An instruction that misses the cluster of each of its four accesses; and one that misses a cluster which was in before it.
use Rattle.std.proofs.Common.{◌≡◌, ℕ, zero, suc, ◌+◌, ◌<◌, List, [], ◌∷◌, ◌++◌, length, arith, refl}
use Rattle.std.specs.Prelude.{Some, None, option_and_then}
use Rattle.ak_core.specs.Layout.{Layout}
use Rattle.ak_core.specs.Journal.{Journal}
use Rattle.ak_core.specs.Mem.{access_to}
use Rattle.ak_core.specs.declared.event.Event.TheVariants.{Call, Miss}
use Rattle.ak_core.specs.declared.moves.Exit.{Exit}
use Rattle.ak_core.specs.declared.moves.Answer.TheVariants.{Ok}
use Rattle.ak_core.specs.declared.page.Flags.{Flags}
use Rattle.ak_core.specs.declared.page.Kind.TheVariants.{Read, Write, Exec}
use Rattle.ak_core.specs.declared.page.Perm.TheVariants.{R, Rx}
use Rattle.ak_model.specs.Flat.FlatRuns.{flat_run}
use Rattle.ak_model.specs.Tapes.LastMoment.{runs_of}
use Rattle.ak_model.specs.Sound.Events.{completed_by, ending_at, call_at}
use Rattle.ak_model.specs.Laws.Premises.{misses_at}
use Rattle.ak_model.specs.Misses.Ideal.{accesses_of, ideal_queue, ideal}
use Rattle.ak_model.specs.Sound.SoundJournal.{Sound}
use Rattle.ak_model.proofs.Rows.Samples.{layout_of, pxad, pwad, setpte, eldu, eenter, eresume, run, ex, pf}
use Rattle.ak_model.proofs.Rows.Worked.{Row}
use Rattle.ak_model.proofs.Rows.WorkedFlat.{image_b, bytes_b, filled}
use Rattle.ak_model.proofs.Rows.ValidLayouts.{valid_b, whole_b}
use Rattle.ak_model.proofs.Rows.ServedMiss.{journal_of}

-- ---- A store over two pages whose bytes lie over two others

-- a miss of the cluster of page p is served by the page in frame 8 + p
abbrev serving : ℕ → Flags → Row
serving p flags =
    (run 0 1000, pf) ∷ (eenter 0 0, Ok) ∷ (run 0 1000, ex (Exit.Ask 0 p)) ∷ (eldu (8 + p) p p 1 p, Ok) ∷ (setpte p (8 + p) flags, Ok)
    ∷ (eenter 0 0, Ok) ∷ (run 0 1000, ex Exit.Ready) ∷ (eresume 0, Ok) ∷ []

unfoldable four : Journal
four = journal_of ((eenter 0 0, Ok) ∷ (serving 0 pxad ++ (serving 1 pxad ++ (serving 2 pwad ++ (serving 3 pwad ++ (run 0 1000, ex (Exit.Ended 0)) ∷ [])))))
    [] (Miss 0 0 ∷ Miss 0 1 ∷ Miss 0 2 ∷ Miss 0 3 ∷ Call 2 0 0 ∷ []) None

four_complete : (i : ℕ) → i < 3 → option_and_then completed_by (ending_at image_b (runs_of image_b bytes_b four) i) ≡ Some (call_at four.events i)
unfolding image_b bytes_b four
four_complete zero h = refl
four_complete (suc zero) h = refl
four_complete (suc (suc zero)) h = refl
four_complete (suc (suc (suc i))) h = absurd (omega arith)

-- three turns complete, and the four before them miss, each by the next access of one instruction
four_sound : Sound bytes_b image_b four
unfolding image_b bytes_b four
four_sound = record {
  valid = valid_b;
  whole = whole_b;
  outputs = record { shown = refl; flat = ([], refl) };
  events = record { tape = refl; completed = four_complete; traps = (tt, (tt, (tt, (tt, (tt, tt))))) };
  accesses = record { turns_reach = (refl, (refl, (refl, (tt, (tt, (tt, (tt, tt))))))) };
  misses = record {
    turns_miss = (
      tt,
      (
        tt,
        (
          tt,
          (
            record {
              access = access_to 3 Write;
              faults = record { may_fault = record { place = 3; stands = refl; permitted = refl; unmapped = refl; earlier = refl }; unkept = refl };
              cluster = refl;
              out = refl;
            },
            (
              record {
                access = access_to 2 Write;
                faults = record { may_fault = record { place = 2; stands = refl; permitted = refl; unmapped = refl; earlier = refl }; unkept = refl };
                cluster = refl;
                out = refl;
              },
              (
                record {
                  access = access_to 1 Exec;
                  faults = record { may_fault = record { place = 1; stands = refl; permitted = refl; unmapped = refl; earlier = refl }; unkept = refl };
                  cluster = refl;
                  out = refl;
                },
                (
                  record {
                    access = access_to 0 Exec;
                    faults = record { may_fault = record { place = 0; stands = refl; permitted = refl; unmapped = refl; earlier = refl }; unkept = refl };
                    cluster = refl;
                    out = refl;
                  },
                  tt,
                ),
              ),
            ),
          ),
        ),
      ),
    );
  };
  breaks = record { turns_break = (tt, (tt, (tt, (tt, (tt, (tt, (tt, tt))))))) };
  answers = record { answered = refl; taken = refl };
  stop = record { stopped = refl };
}

-- so the bound on the misses of one instruction is met
four_misses : length (misses_at four.events 0) ≡ 4
unfolding four
four_misses = refl

-- they are those that its accesses force
four_ideal : ideal image_b bytes_b [] 0 ≡ misses_at four.events 0
unfolding image_b bytes_b four
four_ideal = refl

-- ---- A cluster that leaves for another one of the same instruction

-- five pages in clusters of their own, of which four may be in
unfoldable around : Layout
around = layout_of (Rx ∷ R ∷ Rx ∷ Rx ∷ Rx ∷ []) (0 ∷ 1 ∷ 2 ∷ 3 ∷ 4 ∷ []) 5 4 13 1

-- page 0 jumps to page 2, that to page 3, and that to page 4, which loads from the end of page 0 and the start of page 1
unfoldable bytes_around : List ℕ
unfolding filled
bytes_around =
    filled (0xe9 ∷ 0xfb ∷ 0x1f ∷ 0 ∷ 0 ∷ []) ++ (filled [] ++ (filled (0xe9 ∷ 0xfb ∷ 0x0f ∷ 0 ∷ 0 ∷ [])
    ++ (filled (0xe9 ∷ 0xfb ∷ 0x0f ∷ 0 ∷ 0 ∷ []) ++ filled (0x48 ∷ 0x8b ∷ 0x83 ∷ 0xfc ∷ 0x0f ∷ 0 ∷ 0x10 ∷ []))))

around_accesses : accesses_of around (flat_run around bytes_around [] 3) ≡ access_to 4 Exec ∷ access_to 0 Read ∷ access_to 1 Read ∷ []
unfolding around bytes_around filled
around_accesses = refl

-- cluster 0 is in before the load
around_in : ideal_queue around bytes_around [] 3 ≡ 0 ∷ 2 ∷ 3 ∷ []
unfolding around bytes_around filled
around_in = refl

-- it leaves for cluster 1, and is missed too
around_ideal : ideal around bytes_around [] 3 ≡ 4 ∷ 1 ∷ 0 ∷ []
unfolding around bytes_around filled
around_ideal = refl

around_out : ideal_queue around bytes_around [] 4 ≡ 3 ∷ 4 ∷ 1 ∷ 0 ∷ []
unfolding around bytes_around filled
around_out = refl
