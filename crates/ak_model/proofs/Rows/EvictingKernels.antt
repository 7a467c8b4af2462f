-- Sound journals under a kernel that keeps its rules and evicts: all that the laws of such kernels ask can hold, with misses;
-- and where the kernel does not evict, the misses need not be those that the accesses force.
use Rattle.std.proofs.Common.{◌≡◌, ℕ, zero, suc, ◌<◌, [], ◌∷◌, ◌++◌, arith, refl, length, ap}
use Rattle.std.specs.Prelude.{true, false, reverse, Some, None, option_and_then}
use Rattle.ak_core.specs.Journal.{Journal}
use Rattle.ak_core.specs.declared.event.Event.TheVariants.{Call}
use Rattle.ak_core.specs.declared.moves.Exit.{Exit}
use Rattle.ak_core.specs.declared.moves.Answer.TheVariants.{Ok}
use Rattle.ak_model.specs.Tapes.LastMoment.{runs_of}
use Rattle.ak_model.specs.Sound.Events.{completed_by, ending_at, call_at}
use Rattle.ak_model.specs.Kernels.KernelRules.{Honours}
use Rattle.ak_model.specs.Kernels.Evictions.{Evicts}
use Rattle.ak_model.specs.Sound.SoundJournal.{Sound}
use Rattle.ak_model.specs.Stops.ShownStop.{has_break}
use Rattle.ak_model.specs.Laws.IdealMisses.{traps_at, ideal_of, MissesAreIdeal}
use Rattle.ak_model.proofs.Rows.Samples.{image_a, pxad, setpte, eldu, eenter, run, ex}
use Rattle.ak_model.proofs.Rows.WorkedFlat.{image_f, bytes_a, code_a, bytes_f, filled}
use Rattle.ak_model.proofs.Rows.ValidLayouts.{valid_a, whole_a}
use Rattle.ak_model.proofs.Rows.ServedMiss.{journal_of, served, served_sound}
use Rattle.ak_model.proofs.Rows.SoundJournals.{over, over_sound, store, denied, denied_sound}
use Rattle.ak_model.proofs.Kernels.NoBreakOnTape.{journal-unbroken}
use Rattle.ak_model.proofs.Misses.IdealMisses.{misses-ideal}

-- ---- One miss, served

served_honours : Honours image_a served.events (reverse served.moves)
unfolding served
served_honours = record { mapped = refl; fetched = refl; resumed = refl }

served_evicts : Evicts image_a served.events (reverse served.moves)
unfolding served
served_evicts = refl

served_unbroken : has_break served.events ≡ false
served_unbroken = journal-unbroken bytes_a image_a served served_sound served_honours

served_ideal : MissesAreIdeal bytes_a image_a served
served_ideal = misses-ideal bytes_a image_a served served_sound served_evicts

-- the first instruction misses its cluster, and the second none
served_misses : ideal_of bytes_a image_a served 0 ++ ideal_of bytes_a image_a served 1 ≡ 0 ∷ []
unfolding served bytes_a code_a filled
served_misses = refl

-- ---- A store over two pages, each in a cluster of its own

over_honours : Honours image_f over.events (reverse over.moves)
unfolding image_f over
over_honours = record { mapped = refl; fetched = refl; resumed = refl }

over_evicts : Evicts image_f over.events (reverse over.moves)
unfolding image_f over
over_evicts = refl

over_ideal : MissesAreIdeal bytes_f image_f over
over_ideal = misses-ideal bytes_f image_f over over_sound over_evicts

-- one instruction misses two clusters, in the order of its accesses
over_misses : ideal_of bytes_f image_f over 1 ≡ 1 ∷ 2 ∷ []
unfolding image_f bytes_f over
over_misses = refl

-- ---- A store that is not permitted

denied_honours : Honours image_a denied.events (reverse denied.moves)
unfolding denied
denied_honours = record { mapped = refl; fetched = refl; resumed = refl }

denied_evicts : Evicts image_a denied.events (reverse denied.moves)
unfolding denied
denied_evicts = refl

denied_ideal : MissesAreIdeal store image_a denied
denied_ideal = misses-ideal store image_a denied denied_sound denied_evicts

-- the instruction that traps has missed the cluster of its fetch
denied_trap : traps_at denied.events 0 ≡ true
unfolding denied
denied_trap = refl

denied_misses : ideal_of store image_a denied 0 ≡ 0 ∷ []
unfolding denied store filled
denied_misses = refl

-- ---- A kernel that maps a page before it is asked for

unfoldable early : Journal
early = journal_of ((eldu 8 0 0 1 0, Ok) ∷ (setpte 0 8 pxad, Ok) ∷ (eenter 0 0, Ok) ∷ (run 0 1000, ex (Exit.Call 1 7)) ∷ (eenter 0 0, Ok) ∷ (run 0 1000, ex (Exit.Ended 0)) ∷ [])
    (7 ∷ []) (Call 3 1 7 ∷ Call 7 0 0 ∷ []) None

early_completes : (i : ℕ) → i < 8 → option_and_then completed_by (ending_at image_a (runs_of image_a bytes_a early) i) ≡ Some (call_at early.events i)
unfolding early bytes_a code_a filled
early_completes zero h = refl
early_completes (suc zero) h = refl
early_completes (suc (suc zero)) h = refl
early_completes (suc (suc (suc zero))) h = refl
early_completes (suc (suc (suc (suc zero)))) h = refl
early_completes (suc (suc (suc (suc (suc zero))))) h = refl
early_completes (suc (suc (suc (suc (suc (suc zero)))))) h = refl
early_completes (suc (suc (suc (suc (suc (suc (suc zero))))))) h = refl
early_completes (suc (suc (suc (suc (suc (suc (suc (suc i)))))))) h = absurd (omega arith)

-- all eight turns complete
early_sound : Sound bytes_a image_a early
unfolding early bytes_a code_a filled
early_sound = record {
  valid = valid_a;
  whole = whole_a;
  outputs = record { shown = refl; flat = ([], refl) };
  events = record { tape = refl; completed = early_completes; traps = (tt, (tt, tt)) };
  accesses = record { turns_reach = (refl, (refl, (refl, (refl, (refl, (refl, (refl, (refl, tt)))))))) };
  misses = record { turns_miss = (tt, (tt, (tt, (tt, (tt, (tt, (tt, (tt, tt)))))))) };
  breaks = record { turns_break = (tt, (tt, (tt, (tt, (tt, (tt, (tt, (tt, tt)))))))) };
  answers = record { answered = refl; taken = refl };
  stop = record { stopped = refl };
}

early_honours : Honours image_a early.events (reverse early.moves)
unfolding early
early_honours = record { mapped = refl; fetched = refl; resumed = refl }

-- no miss is on the tape, though the first fetch would force one
early_not : MissesAreIdeal bytes_a image_a early → ⊥
unfolding early bytes_a code_a filled
early_not h =
    let none : zero ≡ suc zero = ap length (h.completed 0 (omega arith)) in
    cc

early_keeps : Evicts image_a early.events (reverse early.moves) → ⊥
unfolding early
early_keeps h = let no : false ≡ true = h in cc
