-- The driver stands for the history with one more move, and at first for the empty one.
use Rattle.std.proofs.Common.{◌≡◌, ℕ, ◌+◌, ◌^◌, ◌<◌, ◌≤◌, Bool, true, false, ◌∷◌, length, refl, ap, sym, ◌∙◌, subst, arith}
use Rattle.std.specs.Prelude.{◌&&◌, not, is_some}
use Rattle.ak_core.specs.Layout.{Layout}
use Rattle.ak_core.specs.declared.moves.Move.{Move}
use Rattle.ak_model.specs.Paging.Histories
use Rattle.ak_model.specs.Paging.Histories.{History, Pair, change_of}
use Rattle.ak_model.specs.Paging.Frames.{held, held_after, blocked_at, blocked_after}
use Rattle.ak_model.specs.Paging.Inside.{inside, since, since_after}
use Rattle.ak_model.specs.Paging.Tracking.{cycles, cycles_after}
use Rattle.ak_model.specs.Kernels.Counted.{saved_after, pending_after, service_after, service}
use Rattle.ak_model.specs.Kernels.HonestKernel.{input_after}
use Rattle.ak_model.specs.Kernels.Repeats.{same_move, is_done}
use Rattle.ak_driver.specs.Changes.{told}
use Rattle.ak_driver.specs.NotedCounts.{ended_after, asked_after, HasCounts}
use Rattle.ak_driver.specs.NotedCycles.{newest_after, entered_after, AreCycles}
use Rattle.ak_driver.specs.NotedRequests.{clusters_in, request_note, note_after, AreRequests}
use Rattle.ak_driver.specs.NotedTables.{frames_after, pages_after, facts_after, AreTables, IsThere}
use Rattle.ak_driver.specs.Notes.{refuses, Notes, IsPlausible}
use Rattle.ak_driver.specs.declared.changes.Change.{Change}
use Rattle.ak_driver.specs.declared.counts.Counts.{Counts}
use Rattle.ak_driver.specs.declared.driver.Driver.{Driver}
use Rattle.ak_driver.proofs.Noting.CountSteps.{saved_count-le, inputs_asked-le, inputs_asked-cons}
use Rattle.ak_driver.proofs.Noting.CycleSteps.{cycles_step}
use Rattle.ak_driver.proofs.Noting.RequestSteps.{requests_step}
use Rattle.ak_driver.proofs.Noting.TableSteps.{tables_step}

-- a move that was done was not refused
pub when_done : (same done : Bool) → done ≡ true → false ≡ (same && not done)
when_done true done e = ap not (sym e)
when_done false done e = refl

-- and one that was not done was
pub when_refused : (same done : Bool) → done ≡ false → same ≡ (same && not done)
when_refused true done e = ap not (sym e)
when_refused false done e = refl

-- what the counts are after a change
pub record Counted (old new : Counts) (change : Histories.Change) : Type 0 where
  pub saved : old.saved + 1 < 2 ^ 64 → new.saved ≡ saved_after change old.saved
  pub pending : new.is_pending ≡ pending_after change old.is_pending
  pub ended : new.is_ended ≡ ended_after change old.is_ended
  pub input : new.last_is_input ≡ input_after change old.last_is_input
  pub asked : old.inputs_asked + 1 < 2 ^ 64 → new.inputs_asked ≡ asked_after change old.inputs_asked

counts_step : (old new : Counts) (past : History) (pair : Pair) → length past < 2 ^ 31 → HasCounts old past → Counted old new (change_of pair)
    → HasCounts new (pair ∷ past)
counts_step old new past pair few h c =
    let a = saved_count-le past in
    let b = inputs_asked-le past in
    let s = h.saved_is in
    let i = h.asked_is in
    record {
      saved_is = c.saved (omega arith) ∙ ap (saved_after (change_of pair)) s;
      pending_is = c.pending ∙ ap (pending_after (change_of pair)) h.pending_is;
      ended_is = c.ended ∙ ap (ended_after (change_of pair)) h.ended_is;
      input_is = c.input ∙ ap (input_after (change_of pair)) h.input_is;
      asked_is = c.asked (omega arith) ∙ ap (asked_after (change_of pair)) i ∙ sym (inputs_asked-cons pair past);
    }

module _ (old new : Driver) (layout : Layout) (past : History) (pair : Pair) (change : Change) (place : ℕ)
    (is : told change ≡ change_of pair) (h : Notes old layout past) (plausible : IsPlausible layout past (change_of pair))
    (place_is : place ≡ length past + 1) where
  there : IsThere layout (told change)
  there = subst (IsThere layout) (sym is) plausible.there

  tables : new.tables.frames.items ≡ frames_after change place old.tables.frames.items
      → new.tables.pages.items ≡ pages_after change old.tables.frames.items old.tables.pages.items
      → AreTables new.tables.frames.items new.tables.pages.items layout (λ f. held_after (told change) f (held layout past f))
      (λ f. blocked_after (told change) f (length past + 1) (blocked_at past f)) (facts_after layout past (told change))
  tables frames notes =
      subst (λ l. AreTables l new.tables.pages.items layout (λ f. held_after (told change) f (held layout past f))
      (λ f. blocked_after (told change) f (length past + 1) (blocked_at past f)) (facts_after layout past (told change)))
      (sym (frames ∙ ap (λ (n : ℕ). frames_after change n old.tables.frames.items) place_is))
      (subst (λ l. AreTables (frames_after change (length past + 1) old.tables.frames.items) l layout (λ f. held_after (told change) f (held layout past f))
      (λ f. blocked_after (told change) f (length past + 1) (blocked_at past f)) (facts_after layout past (told change)))
      (sym notes)
      (tables_step layout past old.tables.frames.items old.tables.pages.items h.tables_are change there))

  all_cycles : new.tracking.newest ≡ newest_after change place old.tracking.newest
      → new.tracking.entered ≡ entered_after change old.tracking.newest old.tracking.entered
      → AreCycles new.tracking.newest new.tracking.entered layout.lps (length past + 1)
      (λ lp. is_some (since_after (told change) lp (length past + 1) (since past lp))) (cycles_after layout past (told change) (cycles layout past))
  all_cycles newest entered =
      subst (λ (n : ℕ). AreCycles n new.tracking.entered layout.lps (length past + 1)
      (λ lp. is_some (since_after (told change) lp (length past + 1) (since past lp))) (cycles_after layout past (told change) (cycles layout past)))
      (sym (newest ∙ ap (λ (n : ℕ). newest_after change n old.tracking.newest) place_is))
      (subst (λ l. AreCycles (newest_after change (length past + 1) old.tracking.newest) l layout.lps (length past + 1)
      (λ lp. is_some (since_after (told change) lp (length past + 1) (since past lp))) (cycles_after layout past (told change) (cycles layout past)))
      (sym entered)
      (cycles_step layout past old.tracking.newest old.tracking.entered h.cycles_are change there))

  requests : (length (clusters_in (note_after change (request_note old.requests))) ≤ 512
      → request_note new.requests ≡ note_after change (request_note old.requests)) → AreRequests (request_note new.requests) (service_after (told change) (service past))
  requests kept =
      let after = requests_step (request_note old.requests) (service past) h.requests_are change in
      let room : length (service_after (told change) (service past)).queue ≤ 512 =
      subst (λ (c : Histories.Change). length (service_after c (service past)).queue ≤ 512) (sym is) plausible.room in
      subst (λ k. AreRequests k (service_after (told change) (service past))) (sym (kept (let e = ap length after.queue_is in omega arith))) after

  -- the driver stands for one more move
  pub notes_step : new.place ≡ place
      → new.tables.frames.items ≡ frames_after change place old.tables.frames.items
      → new.tables.pages.items ≡ pages_after change old.tables.frames.items old.tables.pages.items
      → new.tracking.newest ≡ newest_after change place old.tracking.newest
      → new.tracking.entered ≡ entered_after change old.tracking.newest old.tracking.entered
      → Counted old.counts new.counts (told change)
      → (length (clusters_in (note_after change (request_note old.requests))) ≤ 512
      → request_note new.requests ≡ note_after change (request_note old.requests))
      → ((m : Move) → refuses new.refused m ≡ (same_move pair.0 m && not (is_done pair.1)))
      → Notes new layout (pair ∷ past)
  notes_step at frames notes newest entered counts kept refused = record {
    valid = h.valid;
    place_is = at ∙ place_is ∙ (let e : length past + 1 ≡ length (pair ∷ past) = omega arith in e);
    tables_are = subst (λ (c : Histories.Change). AreTables new.tables.frames.items new.tables.pages.items layout (λ f. held_after c f (held layout past f))
        (λ f. blocked_after c f (length past + 1) (blocked_at past f)) (facts_after layout past c)) is (tables frames notes);
    cycles_are =
        let e : length past + 1 ≡ length (pair ∷ past) = omega arith in
        subst (λ (n : ℕ). AreCycles new.tracking.newest new.tracking.entered layout.lps n (inside (pair ∷ past)) (cycles layout (pair ∷ past))) e
        (subst (λ (c : Histories.Change). AreCycles new.tracking.newest new.tracking.entered layout.lps (length past + 1)
        (λ lp. is_some (since_after c lp (length past + 1) (since past lp))) (cycles_after layout past c (cycles layout past))) is (all_cycles newest entered));
    counts_are = counts_step old.counts new.counts past pair plausible.few h.counts_are (subst (Counted old.counts new.counts) is counts);
    requests_are = subst (λ (c : Histories.Change). AreRequests (request_note new.requests) (service_after c (service past))) is (requests kept);
    refused_is = refused;
  }
