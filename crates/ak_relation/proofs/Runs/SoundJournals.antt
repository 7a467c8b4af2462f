-- The journal of moves from the build is sound.
use Rattle.std.proofs.Common.{◌≡◌, ℕ, ◌≤◌, ◌<◌, List, [], ◌∷◌, reverse, ap, sym, ◌∙◌, subst, append-nil}
use Rattle.std.proofs.lemmas.List.{reverse-reverse}
use Rattle.std.specs.Prelude.{option_and_then, Some, None}
use Rattle.ak_core.specs.Layout.{Layout}
use Rattle.ak_core.specs.Journal.{Journal}
use Rattle.ak_core.specs.declared.event.Event.{Event}
use Rattle.ak_model.specs.Paging.Histories.{History}
use Rattle.ak_model.specs.Flat.FlatRuns.{flat_run, outputs}
use Rattle.ak_model.specs.Control.ControlState.{Control}
use Rattle.ak_model.specs.Control.Trace.{Moment, trace, answers}
use Rattle.ak_model.specs.Tapes.LastMoment.{FlatRuns, last_moment, runs_of}
use Rattle.ak_model.specs.Tapes.ProgramTurns.{ProgramTurn, program_turns}
use Rattle.ak_model.specs.Laws.Premises.{MissesFit, IsCounted}
use Rattle.ak_model.specs.Laws.CountedBreaks.{breaks_by}
use Rattle.ak_model.specs.Laws.ShownOutputs.{outputs_by, unshown}
use Rattle.ak_model.specs.Sound.Outputs.{shown_outputs, IsPrefixOf, OutputsAreFlat}
use Rattle.ak_model.specs.Sound.Events.{completed_by, ending_at, call_at, TrapsAreForced, EventsAreFlat}
use Rattle.ak_model.specs.Sound.Forced.{EachTurn, turns_of, ReachedBy, AccessesAreReached}
use Rattle.ak_model.specs.Sound.ForcedMisses.{MissedBy, MissesAreForced}
use Rattle.ak_model.specs.Sound.BreaksAndStop.{BrokenUnkeptBy, BreaksAreForcedUnkept, IsStopped}
use Rattle.ak_model.specs.Sound.TracedAnswers.{AnswersAreTraced}
use Rattle.ak_model.specs.Sound.SoundJournal.{Sound}
use Rattle.ak_model.proofs.Tapes.EachTurn.{each-from}
use Rattle.ak_model.proofs.Tapes.TurnEvents.{EachEvent, events-each}
use Rattle.ak_model.proofs.Tapes.TurnCounts.{counts-each}
use Rattle.ak_model.proofs.Tapes.CountedBreaks.{at_most_one}
use Rattle.ak_model.proofs.Tapes.CallTraces.{trace_serves}
use Rattle.ak_relation.specs.State.MachineState.{State}
use Rattle.ak_relation.specs.Program.Turns.{events_by, TapeStands, TurnStands}
use Rattle.ak_relation.specs.Relation.Stands.{runs_at}
use Rattle.ak_relation.specs.Relation.Does.{with_rest}
use Rattle.ak_relation.specs.Relation.MoveByMove.{moves_of, IsTraced}
use Rattle.ak_relation.specs.Relation.Journals.{HasJournal, StopNamesBreak}
use Rattle.ak_relation.proofs.Runs.TapeOutputs.{flat_below, outputs_on, IsCallBelow, all_below, of_turns, calls_below, shown_first}
use Rattle.ak_relation.proofs.Runs.NamedBreaks.{named_breaks}

-- with no event left
none_left : (control : Control) → control.rest ≡ [] → with_rest control [] ≡ control
none_left control e = ap (λ (rest : List Event). record control { rest = rest }) (sym e)

each_event : (events : List Event) → EachEvent (λ event. Unit {0}) events
each_event [] = tt
each_event (event ∷ events) = (tt, each_event events)

-- the flat run ends and traps as the events say, up to where this moment is
record FlatAt (layout : Layout) (image : List ℕ) (events : List Event) (moment : Moment) : Type 0 where
  completed : (i : ℕ) → i < moment.control.count →
      option_and_then completed_by (ending_at layout (flat_run layout image moment.control.returned) i) ≡ Some (call_at events i)
  traps : TrapsAreForced layout (flat_run layout image moment.control.returned) events

module _ (layout : Layout) (image : List ℕ) (past : History) (state : State) (journal : Journal) (j : HasJournal layout image past state journal)
    (r : IsTraced layout image past state journal.events) where
  moves_back : reverse journal.moves ≡ moves_of past
  moves_back = ap reverse j.moves_are ∙ reverse-reverse (moves_of past)

  -- the trace of the journal ends at the moment
  ends : last_moment layout journal ≡ record { past = past; control = r.control }
  ends =
      ap (trace layout journal.events) moves_back ∙ ap (λ tape. trace layout tape (moves_of past)) (sym (append-nil journal.events)) ∙ r.traced [] tt
      ∙ ap (λ control. record { past = past; control = control }) (none_left r.control r.stands.laws.taken)

  pub turns_end : turns_of layout journal ≡ r.turns
  turns_end =
      ap (program_turns layout journal.events) moves_back ∙ ap (λ tape. program_turns layout tape (moves_of past)) (sym (append-nil journal.events)) ∙ r.made_are [] tt

  pub runs_end : runs_of layout image journal ≡ runs_at layout image r.control
  runs_end = ap (λ (moment : Moment). flat_run layout image moment.control.returned) ends

  -- what holds of each turn of the moment holds of the journal's
  of_journal : (P : FlatRuns → ProgramTurn → List ProgramTurn → Type 0) → EachTurn (P (runs_at layout image r.control)) r.turns →
      EachTurn (P (runs_of layout image journal)) (turns_of layout journal)
  of_journal P h =
      subst (λ runs. EachTurn (P runs) (turns_of layout journal)) (sym runs_end) (subst (EachTurn (P (runs_at layout image r.control))) (sym turns_end) h)

  -- ---- Events and answers

  tape : TapeStands layout (runs_at layout image r.control) r.control.count journal.events
  tape = subst (TapeStands layout (runs_at layout image r.control) r.control.count) r.told r.stands.tape

  pub sound_events : EventsAreFlat image layout journal
  sound_events =
      let flat = subst (FlatAt layout image journal.events) (sym ends) (record { completed = tape.completed; traps = tape.traps }) in
      record { tape = tape.ordered; completed = flat.completed; traps = flat.traps }

  pub sound_answers : AnswersAreTraced layout journal
  sound_answers =
      record {
        answered = j.answers_are ∙ sym r.answered ∙ ap (λ moves. answers (trace layout journal.events moves)) (sym moves_back);
        taken = ap (λ (moment : Moment). moment.control.rest) ends ∙ r.stands.laws.taken;
      }

  -- ---- Turns

  pub sound_accesses : AccessesAreReached image layout journal
  sound_accesses =
      let P : FlatRuns → ProgramTurn → List ProgramTurn → Type 0 = λ runs turn older. ReachedBy layout runs turn turn.event in
      let runs : FlatRuns = runs_at layout image r.control in
      record { turns_reach = of_journal P (each-from (TurnStands layout runs) (P runs) (λ turn older here. here.reached) r.turns r.stands.turns) }

  pub sound_misses : MissesAreForced image layout journal
  sound_misses =
      let P : FlatRuns → ProgramTurn → List ProgramTurn → Type 0 = λ runs turn older. MissedBy layout runs turn older turn.event in
      let runs : FlatRuns = runs_at layout image r.control in
      record { turns_miss = of_journal P (each-from (TurnStands layout runs) (P runs) (λ turn older here. here.missed) r.turns r.stands.turns) }

  one_break : breaks_by (turns_of layout journal) ≤ 1
  one_break = at_most_one layout journal.events (reverse journal.moves) tape.ordered

  pub sound_breaks : StopNamesBreak layout (runs_of layout image journal) (turns_of layout journal) journal.stop → BreaksAreForcedUnkept image layout journal
  sound_breaks names =
      let P : FlatRuns → ProgramTurn → List ProgramTurn → Type 0 = λ runs turn older. BrokenUnkeptBy layout runs None turn older turn.event in
      let runs : FlatRuns = runs_at layout image r.control in
      let forced = of_journal P (each-from (TurnStands layout runs) (P runs) (λ turn older here. here.broken) r.turns r.stands.turns) in
      record { turns_break = named_breaks layout (runs_of layout image journal) (turns_of layout journal) one_break forced journal.stop names }

  -- ---- Outputs

  misses : MissesFit layout [] journal.events
  misses = tape.fit

  told : events_by (turns_of layout journal) ≡ journal.events
  told = ap events_by turns_end ∙ r.told

  below : EachEvent (IsCallBelow r.control.count) journal.events
  below =
      let turns : List ProgramTurn = turns_of layout journal in
      let counts = subst (λ (moment : Moment). EachTurn (λ turn. λ older. IsCounted moment.control.count turn.count turn.event) turns) ends (counts-each layout journal.events (reverse journal.moves)) in
      subst (EachEvent (IsCallBelow r.control.count)) told
      (calls_below layout r.control.count turns counts (events-each layout (λ event. Unit {0}) journal.events (reverse journal.moves) (each_event journal.events)))

  -- the program's calls are those of the flat run
  called : outputs layout image r.control.returned r.control.count ≡ outputs_by (turns_of layout journal)
  called =
      flat_below layout image r.control.returned journal.events r.control.count tape.completed ∙ all_below r.control.count journal.events tape.ordered below
      ∙ ap outputs_on (sym told) ∙ of_turns (turns_of layout journal)

  pub sound_outputs : OutputsAreFlat image layout journal
  sound_outputs =
      let P : Moment → Type 0 = λ moment. IsPrefixOf journal.outputs (outputs layout image moment.control.returned moment.control.count) in
      let served = trace_serves layout j.moved.valid journal.events misses (reverse journal.moves) in
      let shown : shown_outputs (answers (last_moment layout journal)) ≡ journal.outputs = ap shown_outputs (sym sound_answers.answered) ∙ sym j.outputs_are in
      let first = shown_first (unshown (last_moment layout journal).control) (outputs_by (turns_of layout journal)) (shown_outputs (answers (last_moment layout journal))) served.are.are in
      record {
        shown = j.outputs_are;
        flat = subst P (sym ends) (subst (IsPrefixOf journal.outputs) (sym called) (subst (λ xs. IsPrefixOf xs (outputs_by (turns_of layout journal))) shown first));
      }

  -- ---- All parts

  pub sound : StopNamesBreak layout (runs_of layout image journal) (turns_of layout journal) journal.stop → IsStopped layout journal → Sound image layout journal
  sound names stopped = record {
    valid = r.stands.inputs.valid;
    whole = r.stands.inputs.whole;
    outputs = sound_outputs;
    events = sound_events;
    accesses = sound_accesses;
    misses = sound_misses;
    breaks = sound_breaks names;
    answers = sound_answers;
    stop = stopped;
  }
