-- No break is on the tape of a sound journal under a kernel that keeps its rules.
use Rattle.std.proofs.Common.{◌≡◌, List, [], ◌∷◌, reverse, refl, ap, subst}
use Rattle.std.specs.Prelude.{ℕ, Bool, true, false, Option, Some, None, is_some}
use Rattle.std.proofs.lemmas.Bool.{ltb-true, or_from}
use Rattle.ak_core.specs.Layout.{Layout, IsValid}
use Rattle.ak_core.specs.Journal.{Journal}
use Rattle.ak_core.specs.declared.event.Event.{Event}
use Rattle.ak_core.specs.declared.moves.Move.{Move}
use Rattle.ak_model.specs.Paging.Histories.{History}
use Rattle.ak_model.specs.Control.ControlState.{Control, Cause}
use Rattle.ak_model.specs.Control.Trace.{trace}
use Rattle.ak_model.specs.Tapes.ProgramTurns.{ProgramTurn, turn_at, program_turns}
use Rattle.ak_model.specs.Tapes.LastMoment.{FlatRuns, last_moment, runs_of}
use Rattle.ak_model.specs.Sound.Forced.{EachTurn, BreakIsForced, BrokenBy, turns_of}
use Rattle.ak_model.specs.Laws.Premises.{MissesFit}
use Rattle.ak_model.specs.Kernels.KernelRules.{keeps_mapped, Honours}
use Rattle.ak_model.specs.Laws.ToldFault.{is_break}
use Rattle.ak_model.specs.Stops.ShownStop.{has_break, shows_stop}
use Rattle.ak_model.specs.Stops.MovesBefore.{before_stop}
use Rattle.ak_model.specs.Sound.BreaksAndStop.{IsStop}
use Rattle.ak_model.specs.Sound.SoundJournal.{Sound}
use Rattle.ak_model.proofs.Paging.InsideIsOfLayout.{placed}
use Rattle.ak_model.proofs.Paging.SomeoneInside.{is_someone}
use Rattle.ak_model.proofs.Tapes.EachTurn.{each-from_both, not-broken_by}
use Rattle.ak_model.proofs.Tapes.EventsTaken.{with_event, taken, trace-taken, misses-fit}
use Rattle.ak_model.proofs.Kernels.NoStop.{no_stop}
use Rattle.ak_model.proofs.Kernels.NoForcedBreak.{not-broken}
use Rattle.ak_model.proofs.Misses.Unkept.{each-broken-without}
use Rattle.ak_model.proofs.Stops.ShownStops.{stop-has_cause}
use Rattle.ak_model.proofs.Tapes.TurnMoments.{StandsAt, turns-each}

-- ---- On the tape

one_unbroken : (event : Option Event) (rest : List Event) → is_break event ≡ false → has_break rest ≡ false → has_break (with_event event rest) ≡ false
one_unbroken None rest e h = h
one_unbroken (Some event) rest e h = or_from (is_break (Some event)) (has_break rest) e h

-- the events of turns of which none breaks, before others
taken_unbroken : (turns : List ProgramTurn) (rest : List Event) → EachTurn (λ turn. λ older. is_break turn.event ≡ false) turns → has_break rest ≡ false → has_break (taken turns rest) ≡ false
taken_unbroken [] rest h k = k
taken_unbroken (turn ∷ older) rest h k = taken_unbroken older (with_event turn.event rest) h.1 (one_unbroken turn.event rest h.0 k)

-- ---- Turns

module _ (layout : Layout) (runs : FlatRuns) where
  module _ (valid : IsValid layout) (tape : List Event) (misses : MissesFit layout [] tape) where
    never_forced : (moves : List Move) (lp : ℕ) (control : Control) (older : List ProgramTurn) → StandsAt layout tape (keeps_mapped layout) moves lp control older → BreakIsForced layout runs (turn_at lp (trace layout tape moves).past control) older → ⊥
    never_forced moves lp control older at =
        let past : History = (trace layout tape moves).past in
        let someone = is_someone layout past lp (ltb-true lp layout.lps (placed layout lp tape moves at.within)) at.within in
        not-broken layout runs older lp past control at.orderly at.program someone at.here

    -- under the rules no turn of the program breaks, where each break is forced
    pub turns-unbroken : (moves : List Move) → EachTurn (λ turn. λ older. BrokenBy layout runs turn older turn.event) (program_turns layout tape moves) → Honours layout tape moves → EachTurn (λ turn. λ older. is_break turn.event ≡ false) (program_turns layout tape moves)
    turns-unbroken moves b h =
        each-from_both (λ turn. λ older. BreakIsForced layout runs turn older → ⊥) (λ turn. λ older. BrokenBy layout runs turn older turn.event) (λ turn. λ older. is_break turn.event ≡ false)
        (λ turn older never forced. not-broken_by (BreakIsForced layout runs turn older) turn.event never forced) (program_turns layout tape moves)
        (turns-each layout tape (keeps_mapped layout) valid misses (λ turn. λ older. BreakIsForced layout runs turn older → ⊥) never_forced moves h.mapped) b

-- ---- Journals

module _ (image : List ℕ) (layout : Layout) (journal : Journal) (sound : Sound image layout journal) where
  -- all events of the journal are those of its turns
  pub all-taken : taken (turns_of layout journal) [] ≡ journal.events
  all-taken =
      subst (λ rest. taken (turns_of layout journal) rest ≡ journal.events) sound.answers.taken
      (trace-taken layout journal.events (reverse journal.moves))

  pub sound-misses : MissesFit layout [] journal.events
  sound-misses =
      subst (MissesFit layout []) all-taken
      (misses-fit layout sound.valid (runs_of layout image journal) (turns_of layout journal) [] sound.misses.turns_miss tt)

  sound_breaks : EachTurn (λ turn. λ older. BrokenBy layout (runs_of layout image journal) turn older turn.event) (turns_of layout journal)
  sound_breaks = each-broken-without layout (runs_of layout image journal) journal.stop (turns_of layout journal) sound.breaks.turns_break

  module _ (kept : Honours layout journal.events (reverse journal.moves)) where
    pub journal-unbroken : has_break journal.events ≡ false
    journal-unbroken =
        subst (λ events. has_break events ≡ false) all-taken
        (taken_unbroken (turns_of layout journal) []
        (turns-unbroken layout (runs_of layout image journal) sound.valid journal.events sound-misses (reverse journal.moves) sound_breaks kept) refl)

    no_cause : (last_moment layout journal).control.cause ≡ None
    no_cause = no_stop layout (runs_of layout image journal) journal.events (reverse journal.moves) sound.valid sound-misses sound_breaks kept

    stop_by : (cause : Option Cause) → cause ≡ None → IsStop layout (trace layout journal.events (before_stop layout journal.events (reverse journal.moves))).past cause journal.stop → journal.stop ≡ None
    stop_by None e h = h
    stop_by (Some cause) e h = cc

    pub journal-unstopped : journal.stop ≡ None
    journal-unstopped = stop_by (last_moment layout journal).control.cause no_cause sound.stop.stopped

    -- no processor left with the exit of a stopped enclave
    pub journal-unshown : shows_stop (last_moment layout journal).past ≡ false
    journal-unshown = by_shown (shows_stop (last_moment layout journal).past) refl
      where
        by_shown : (b : Bool) → shows_stop (last_moment layout journal).past ≡ b → b ≡ false
        by_shown false e = refl
        by_shown true e =
            let some = stop-has_cause layout sound.valid journal.events sound-misses (reverse journal.moves) e in
            let none : is_some (last_moment layout journal).control.cause ≡ false = ap is_some no_cause in
            cc
