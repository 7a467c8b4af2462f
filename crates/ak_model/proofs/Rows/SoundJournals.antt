-- More whole journals that are sound: a store over two pages of two clusters, and a store that is not permitted; and journals
-- whose events come in another order.
use Rattle.std.proofs.Common.{◌≡◌, ℕ, zero, suc, ◌<◌, List, [], ◌∷◌, ◌++◌, arith, refl, ap, sym, ◌∙◌}
use Rattle.std.specs.Prelude.{Bool, true, false, reverse, take, slice_get, Some, None, option_map, option_and_then}
use Rattle.std.specs.List.{list_all}
use Rattle.ak_core.specs.Journal.{Journal}
use Rattle.ak_core.specs.Mem.{Access, access_to}
use Rattle.ak_core.specs.declared.event.Event.{Event}
use Rattle.ak_core.specs.declared.event.Event.TheVariants.{Call, Miss, Trap}
use Rattle.ak_core.specs.declared.moves.Exit.{Exit}
use Rattle.ak_core.specs.declared.moves.Answer.TheVariants.{Ok}
use Rattle.ak_core.specs.declared.page.Kind.TheVariants.{Write, Exec}
use Rattle.ak_model.specs.Paging.Pages.{cluster_at}
use Rattle.ak_model.specs.Tapes.ProgramTurns.{ProgramTurn}
use Rattle.ak_model.specs.Misses.FaultingAccess.{may_succeed}
use Rattle.ak_model.specs.Tapes.LastMoment.{runs_of}
use Rattle.ak_model.specs.Sound.Events.{completed_by, ending_at, call_at}
use Rattle.ak_model.specs.Sound.SoundJournal.{Sound}
use Rattle.ak_model.proofs.Rows.Samples.{image_a, pxad, pwad, setpte, eldu, eenter, eresume, run, ex, pf}
use Rattle.ak_model.proofs.Rows.WorkedFlat.{image_f, bytes_f, filled}
use Rattle.ak_model.proofs.Rows.ValidLayouts.{valid_a, valid_f, whole_f}
use Rattle.ak_model.proofs.Rows.Worked.{Row}
use Rattle.ak_model.proofs.Rows.ServedMiss.{journal_of}

-- ---- A store over two pages, each in a cluster of its own

abbrev over_events : List Event
over_events = Miss 0 0 ∷ Miss 1 1 ∷ Miss 1 2 ∷ Call 5 1 18446744069414584320 ∷ Call 9 0 0 ∷ []

-- the first cluster is served
abbrev code_served : Row
code_served =
    (eenter 0 0, Ok) ∷ (run 0 1000, pf) ∷ (eenter 0 0, Ok) ∷ (run 0 1000, ex (Exit.Ask 0 0)) ∷ (eldu 8 0 0 1 0, Ok) ∷ (setpte 0 8 pxad, Ok)
    ∷ (eenter 0 0, Ok) ∷ (run 0 1000, ex Exit.Ready) ∷ (eresume 0, Ok) ∷ []

-- and then the two others
unfoldable pub over : Journal
over = journal_of (code_served ++ (run 0 1000, pf) ∷ (eenter 0 0, Ok) ∷ (run 0 1000, ex (Exit.Ask 0 1)) ∷ (eldu 9 1 1 1 1, Ok) ∷ (setpte 1 9 pwad, Ok)
    ∷ (eenter 0 0, Ok) ∷ (run 0 1000, ex Exit.Ready) ∷ (eresume 0, Ok) ∷ (run 0 1000, pf) ∷ (eenter 0 0, Ok) ∷ (run 0 1000, ex (Exit.Ask 0 2)) ∷ (eldu 10 2 2 1 2, Ok) ∷ (setpte 2 10 pwad, Ok)
    ∷ (eenter 0 0, Ok) ∷ (run 0 1000, ex Exit.Ready) ∷ (eresume 0, Ok) ∷ (run 0 1000, ex (Exit.Call 1 18446744069414584320)) ∷ (eenter 0 0, Ok) ∷ (run 0 1000, ex (Exit.Ended 0)) ∷ [])
    (18446744069414584320 ∷ []) over_events None

over_completes : (i : ℕ) → i < 10 → option_and_then completed_by (ending_at image_f (runs_of image_f bytes_f over) i) ≡ Some (call_at over.events i)
unfolding image_f bytes_f over
over_completes zero h = refl
over_completes (suc zero) h = refl
over_completes (suc (suc zero)) h = refl
over_completes (suc (suc (suc zero))) h = refl
over_completes (suc (suc (suc (suc zero)))) h = refl
over_completes (suc (suc (suc (suc (suc zero))))) h = refl
over_completes (suc (suc (suc (suc (suc (suc zero)))))) h = refl
over_completes (suc (suc (suc (suc (suc (suc (suc zero))))))) h = refl
over_completes (suc (suc (suc (suc (suc (suc (suc (suc zero)))))))) h = refl
over_completes (suc (suc (suc (suc (suc (suc (suc (suc (suc zero))))))))) h = refl
over_completes (suc (suc (suc (suc (suc (suc (suc (suc (suc (suc i)))))))))) h = absurd (omega arith)

-- nine turns complete, then two miss by the second and by the third access of one instruction, then one completes and one
-- misses by its first
pub over_sound : Sound bytes_f image_f over
unfolding image_f bytes_f over
over_sound = record {
  valid = valid_f;
  whole = whole_f;
  outputs = record { shown = refl; flat = ([], refl) };
  events = record { tape = refl; completed = over_completes; traps = (tt, (tt, (tt, (tt, (tt, tt))))) };
  accesses = record {
    turns_reach = (refl, (refl, (refl, (refl, (refl, (refl, (refl, (refl, (refl, (tt, (tt, (refl, (tt, tt)))))))))))));
  };
  misses = record {
    turns_miss = (
      tt,
      (
        tt,
        (
          tt,
          (
            tt,
            (
              tt,
              (
                tt,
                (
                  tt,
                  (
                    tt,
                    (
                      tt,
                      (
                        record {
                          access = access_to 2 Write;
                          faults = record { may_fault = record { place = 2; stands = refl; permitted = refl; unmapped = refl; earlier = refl }; unkept = refl };
                          cluster = refl;
                          out = refl;
                        },
                        (
                          record {
                            access = access_to 1 Write;
                            faults = record { may_fault = record { place = 1; stands = refl; permitted = refl; unmapped = refl; earlier = refl }; unkept = refl };
                            cluster = refl;
                            out = refl;
                          },
                          (
                            tt,
                            (
                              record {
                                access = access_to 0 Exec;
                                faults = record { may_fault = record { place = 0; stands = refl; permitted = refl; unmapped = refl; earlier = refl }; unkept = refl };
                                cluster = refl;
                                out = refl;
                              },
                              tt,
                            ),
                          ),
                        ),
                      ),
                    ),
                  ),
                ),
              ),
            ),
          ),
        ),
      ),
    );
  };
  breaks = record {
    turns_break = (tt, (tt, (tt, (tt, (tt, (tt, (tt, (tt, (tt, (tt, (tt, (tt, (tt, tt)))))))))))));
  };
  answers = record { answered = refl; taken = refl };
  stop = record { stopped = refl };
}

-- the third access cannot miss before the second was reached
unfoldable skipped : Journal
skipped = journal_of (code_served ++ (run 0 1000, pf) ∷ []) [] (Miss 0 0 ∷ Miss 1 2 ∷ []) None

-- the accesses of that store
abbrev stores : List Access
stores = access_to 0 Exec ∷ access_to 1 Write ∷ access_to 2 Write ∷ []

-- the turn that misses
abbrev skipping : ProgramTurn
skipping = record { lp = 0; past = reverse code_served; count = 1; event = Some (Miss 1 2) }

-- the cluster of an access
abbrev cluster : Access → ℕ
unfolding image_f
cluster t = cluster_at image_f t.page.0

skips : (may : Access → Bool) → list_all may (access_to 0 Exec ∷ access_to 1 Write ∷ []) ≡ false
    → (place : ℕ) (t : Access) → slice_get stores place ≡ Some t → cluster t ≡ 2 → list_all may (take place stores) ≡ true → ⊥
unfolding image_f
skips may unreached zero t stands c earlier = let other : Some zero ≡ Some (suc (suc zero)) = ap (option_map cluster) stands ∙ ap Some c in cc
skips may unreached (suc zero) t stands c earlier = let other : Some (suc zero) ≡ Some (suc (suc zero)) = ap (option_map cluster) stands ∙ ap Some c in cc
skips may unreached (suc (suc zero)) t stands c earlier = let both : true ≡ false = sym earlier ∙ unreached in cc
skips may unreached (suc (suc (suc place))) t stands c earlier = cc

skipped_not : Sound bytes_f image_f skipped → ⊥
unfolding image_f bytes_f skipped
skipped_not h =
    let miss = h.misses.turns_miss.0 in
    let fault = miss.faults.may_fault in
    skips (may_succeed image_f skipping) refl fault.place miss.access fault.stands miss.cluster fault.earlier

-- ---- A store that is not permitted

-- into the page of the program itself
unfoldable pub store : List ℕ
unfolding filled
store = filled (0x48 ∷ 0x89 ∷ 0x83 ∷ 0x00 ∷ 0x01 ∷ 0x00 ∷ 0x10 ∷ [])

unfoldable pub denied : Journal
denied = journal_of ((eenter 0 0, Ok) ∷ (run 0 1000, pf) ∷ (eenter 0 0, Ok) ∷ (run 0 1000, ex (Exit.Ask 0 0)) ∷ (eldu 8 0 0 1 0, Ok) ∷ (setpte 0 8 pxad, Ok)
    ∷ (eenter 0 0, Ok) ∷ (run 0 1000, ex Exit.Ready) ∷ (eresume 0, Ok) ∷ (run 0 1000, pf) ∷ (eenter 0 0, Ok) ∷ (run 0 1000, ex (Exit.Trapped 14)) ∷ [])
    [] (Miss 0 0 ∷ Trap 0 14 ∷ []) None

-- one turn traps, and one misses
pub denied_sound : Sound store image_a denied
unfolding denied store filled
denied_sound = record {
  valid = valid_a;
  whole = refl;
  outputs = record { shown = refl; flat = ([], refl) };
  events = record { tape = refl; completed = λ i. λ h. absurd (omega arith); traps = (tt, (refl, tt)) };
  accesses = record { turns_reach = (refl, (tt, tt)) };
  misses = record {
    turns_miss = (
      tt,
      (
        record {
          access = access_to 0 Exec;
          faults = record { may_fault = record { place = 0; stands = refl; permitted = refl; unmapped = refl; earlier = refl }; unkept = refl };
          cluster = refl;
          out = refl;
        },
        tt,
      ),
    );
  };
  breaks = record { turns_break = (tt, (tt, tt)) };
  answers = record { answered = refl; taken = refl };
  stop = record { stopped = refl };
}

-- another vector than the program's is refused
unfoldable other_vector : Journal
other_vector = journal_of ((eenter 0 0, Ok) ∷ (run 0 1000, ex (Exit.Vector 6)) ∷ []) [] (Trap 0 6 ∷ []) None

other_vector_not : Sound store image_a other_vector → ⊥
unfolding other_vector store filled
other_vector_not h = let no : Some (suc 13) ≡ Some (suc 5) = h.events.traps.0 in cc
