-- The stop of a move that tells what its last turn tells names a break: the turn names one, and it stays forced after the turn.
use Rattle.std.proofs.Common.{◌≡◌, inl, inr, ℕ, List, [], ◌∷◌, ◌++◌, sym, ◌∙◌, subst}
use Rattle.std.specs.Prelude.{Bool, true, false, Option, Some, None, ◌==◌, if◌then◌else◌}
use Rattle.ak_core.specs.Layout.{Layout}
use Rattle.ak_core.specs.Journal.{Journal}
use Rattle.ak_core.specs.Mem.{Access}
use Rattle.ak_core.specs.declared.event.Event.{Event}
use Rattle.ak_core.specs.declared.event.StopCause.TheVariants.{Stuck}
use Rattle.ak_core.specs.declared.moves.Answer.{Answer}
use Rattle.ak_core.specs.declared.moves.Exit.{Exit}
use Rattle.ak_core.specs.declared.moves.Move.{Move}
use Rattle.ak_core.specs.declared.moves.Move.TheVariants.{Run}
use Rattle.ak_core.specs.declared.page.Lp.{Lp}
use Rattle.ak_model.specs.Control.ControlState.{Context, Program, Enter, Probe, Finish, Guard, Leave, Control}
use Rattle.ak_model.specs.Flat.FlatRuns.{flat_run}
use Rattle.ak_model.specs.Kernels.Counted.{saved_count}
use Rattle.ak_model.specs.Paging.Histories.{History}
use Rattle.ak_model.specs.Paging.Inside.{inside}
use Rattle.ak_model.specs.Sound.BreaksAndStop.{stop_for}
use Rattle.ak_model.specs.Sound.Forced.{turns_of}
use Rattle.ak_model.specs.Sound.Outputs.{IsPrefixOf}
use Rattle.ak_model.specs.Tapes.LastMoment.{FlatRuns, runs_of}
use Rattle.ak_model.specs.Tapes.ProgramTurns.{ProgramTurn}
use Rattle.ak_pager.specs.declared.turn.RtTurn.{RtTurn}
use Rattle.ak_relation.specs.Program.Turns.{events_by}
use Rattle.ak_relation.specs.Relation.Causes.{NamesMoveCause}
use Rattle.ak_relation.specs.Relation.Does.{with_rest, TurnFollows, MoveFollows, RunFollows, past_after, at_moment, GoesTo}
use Rattle.ak_relation.specs.Relation.Journals.{StopNamesBreak}
use Rattle.ak_relation.specs.Relation.Keeping.{KeepsJournal, HasOneMore}
use Rattle.ak_relation.specs.Relation.MoveByMove.{IsTraced}
use Rattle.ak_relation.specs.Relation.Stands.{runs_at, Stands}
use Rattle.ak_relation.specs.Relation.StepNotes.{NamesItsBreak}
use Rattle.ak_relation.specs.Relation.Stopping.{stop_by}
use Rattle.ak_relation.specs.Relation.Tells.{TurnNotes, LastTurn, TellsMove}
use Rattle.ak_relation.specs.State.MachineState.{State}
use Rattle.ak_relation.proofs.Runs.KeptJournals.{with_listed, one_more_move}
use Rattle.ak_relation.proofs.Runs.ReturnedValues.{GrowsBy, turn_grows}
use Rattle.ak_relation.proofs.Runs.RunMoves.{run_ends}
use Rattle.ak_relation.proofs.Runs.SoundJournals.{turns_end, runs_end}
use Rattle.ak_relation.proofs.Runs.StayingBreaks.{cause_stays, breaks_stay}
use Rattle.ak_relation.proofs.Runs.TracedMoves.{one_more, moves_are_traced}
use Rattle.ak_relation.proofs.Runs.WholeRuns.{turns_go}

-- ---- The outcome of a turn

module _ (layout : Layout) (runs : FlatRuns) (turns : List ProgramTurn) where
  -- an outcome that goes on names nothing
  went_on : (outcome : RtTurn) → outcome ≡ RtTurn.Go → NamesItsBreak layout runs turns outcome
  went_on outcome e = subst (NamesItsBreak layout runs turns) (sym e) tt

  -- what is told of a turn names the break
  told_break : (lp : ℕ) (past : History) (control : Control) (event : Option Event) (noted : Option Access) (outcome : RtTurn) (now : Option Context) →
      TurnNotes layout runs lp past control turns event noted outcome now → NamesItsBreak layout runs turns outcome
  told_break lp past control event noted outcome None h = went_on outcome h.1
  told_break lp past control event noted outcome (Some Program) h = went_on outcome h.1
  told_break lp past control event noted outcome (Some (Enter k v)) h = let s = h.1 in s.its_break
  told_break lp past control event noted outcome (Some (Probe i)) h = let s = h.1 in s.its_break
  told_break lp past control event noted outcome (Some Finish) h = let s = h.1 in s.its_break
  told_break lp past control event noted outcome (Some Guard) h = let s = h.1 in s.its_break
  told_break lp past control event noted outcome (Some (Leave b a)) h = let s = h.1 in s.its_break

  -- and so does the stop to which it comes
  stop_names : (past : History) (outcome : RtTurn) → NamesItsBreak layout runs turns outcome → StopNamesBreak layout runs turns (stop_by layout past outcome)
  stop_names past RtTurn.Go h = tt
  stop_names past (RtTurn.Leave exit) h = tt
  stop_names past (RtTurn.Dead cause) h = h
  stop_names past (RtTurn.Faulted t) h = by_count (saved_count past == 2)
    where
      by_count : (b : Bool) → StopNamesBreak layout runs turns (if b then Some (stop_for layout past (Stuck t.page t.kind)) else None)
      by_count true = tt
      by_count false = tt

-- ---- After the turn

module _ (layout : Layout) (image : List ℕ) (lp : ℕ) (past : History) (control : Control) (turns : List ProgramTurn) (old new : State) (exit : Exit) (event : Option Event) (all : ℕ)
    (h : Stands layout image (at_moment past control turns old))
    (g : GoesTo layout image (TurnFollows layout lp past (Some exit)) (at_moment past control turns old) (past_after past lp all (Some exit)) new event) where
  grown : IsPrefixOf control.returned g.control.returned
  grown =
      let before : Control = with_rest control (events_by g.made ++ []) in
      let follows : TurnFollows layout lp past (Some exit) before (with_rest g.control []) g.made = g.does.traced [] tt in
      subst (GrowsBy before) follows.turned (turn_grows layout before past before.now)

  -- the break stays forced
  break_after : (outcome : RtTurn) → NamesItsBreak layout (runs_at layout image control) turns outcome → NamesItsBreak layout (runs_at layout image g.control) g.turns outcome
  break_after RtTurn.Go named = tt
  break_after (RtTurn.Leave exit) named = tt
  break_after (RtTurn.Faulted t) named = tt
  break_after (RtTurn.Dead cause) named =
      let grow = grown in
      subst (λ all_turns. NamesItsBreak layout (runs_at layout image g.control) all_turns (RtTurn.Dead cause)) (sym g.does.turns)
      (subst (λ values. NamesItsBreak layout (flat_run layout image values) (g.made ++ turns) (RtTurn.Dead cause)) grow.1
      (cause_stays layout image control.returned grow.0 g.made turns h.turns cause named))

-- ---- A move

module _ (layout : Layout) (image : List ℕ) (past : History) (event : Option Event) (noted : Option Access) (outcome : RtTurn) (old new : State) (before after : Journal)
    (k : KeepsJournal layout image past old before) where
  -- a run whose last turn tells it, after the moment at which it begins, and the one before that turn
  module _ (lp : Lp) (all : ℕ) (exit : Exit) (move : NamesMoveCause layout old new (Run lp all) (Answer.Exit exit) event outcome)
      (more : HasOneMore layout past (Run lp all) (Answer.Exit exit) event outcome before after) (l : LastTurn layout lp all old new exit event noted outcome)
      (r : IsTraced layout image past old before.events) (within : inside past lp.0 ≡ true) where
    after_mid : (mid : GoesTo layout image (RunFollows layout lp.0 past l.before) (at_moment past r.control r.turns old) past l.mid l.first) →
        NamesItsBreak layout (runs_of layout image after) (turns_of layout after) outcome
    after_mid mid =
        let last = (l.turn image past mid.control mid.turns within mid.stands all).0 in
        let run = run_ends layout image lp past r.control r.turns old l.mid new l.before all exit l.first l.second event l.known within l.fewer mid last l.both in
        let g : GoesTo layout image (MoveFollows layout past (Run lp all) (Answer.Exit exit)) (at_moment past r.control r.turns old) ((Run lp all, Answer.Exit exit) ∷ past) new event = run.0 in
        let told = with_listed before.events event ∙ sym more.events in
        let k' = one_more_move layout image past (Run lp all) (Answer.Exit exit) event outcome old new before after k move more in
        let r' = one_more layout image past (Run lp all) (Answer.Exit exit) old new before.events event after.events r g told in
        let named = told_break layout (runs_at layout image mid.control) mid.turns lp.0 past mid.control l.second noted outcome mid.control.now
        (l.tells image past mid.control mid.turns within mid.stands) in
        let here : NamesItsBreak layout (runs_at layout image g.control) g.turns outcome =
        subst (λ (c : Control). NamesItsBreak layout (runs_at layout image c) g.turns outcome) (sym run.1)
        (subst (λ turns. NamesItsBreak layout (runs_at layout image last.control) turns outcome) (sym run.2)
        (break_after layout image lp.0 past mid.control mid.turns l.mid new exit l.second all mid.stands last outcome named)) in
        subst (λ rs. NamesItsBreak layout rs (turns_of layout after) outcome) (sym (runs_end layout image ((Run lp all, Answer.Exit exit) ∷ past) new after k'.has r'))
        (subst (λ turns. NamesItsBreak layout (runs_at layout image g.control) turns outcome) (sym (turns_end layout image ((Run lp all, Answer.Exit exit) ∷ past) new after k'.has r')) here)

    after_run : NamesItsBreak layout (runs_of layout image after) (turns_of layout after) outcome
    after_run = after_mid (turns_go layout image lp.0 past r.control r.turns old l.before l.mid l.first within r.stands l.turns)

  run_names : (lp : Lp) (all : ℕ) (exit : Exit) → NamesMoveCause layout old new (Run lp all) (Answer.Exit exit) event outcome →
      HasOneMore layout past (Run lp all) (Answer.Exit exit) event outcome before after → LastTurn layout lp all old new exit event noted outcome →
      IsTraced layout image past old before.events → NamesItsBreak layout (runs_of layout image after) (turns_of layout after) outcome
  run_names lp all exit move more l r = after_run lp all exit move more l r (sym (r.stands.tables.presence.within lp.0) ∙ l.in_use)

  move_names : (m : Move) (a : Answer) → NamesMoveCause layout old new m a event outcome → HasOneMore layout past m a event outcome before after →
      TellsMove layout old new m a event noted outcome → NamesItsBreak layout (runs_of layout image after) (turns_of layout after) outcome
  move_names (Run lp all) (Answer.Exit exit) move more (inl used) = went_on layout (runs_of layout image after) (turns_of layout after) outcome used.quiet.no_step
  move_names (Run lp all) (Answer.Exit exit) move more (inr last) = run_names lp all exit move more last (moves_are_traced layout image past old before.events k.has.moved)
  move_names _ _ move more h = went_on layout (runs_of layout image after) (turns_of layout after) outcome h.1.no_step

  -- the stop names a break again
  pub told_breaks : (m : Move) (a : Answer) → NamesMoveCause layout old new m a event outcome → TellsMove layout old new m a event noted outcome →
      HasOneMore layout past m a event outcome before after → StopNamesBreak layout (runs_of layout image before) (turns_of layout before) before.stop →
      StopNamesBreak layout (runs_of layout image after) (turns_of layout after) after.stop
  told_breaks m a move tells more named =
      breaks_stay layout image past m a event outcome old new before after k move more named
      (λ none. stop_names layout (runs_of layout image after) (turns_of layout after) past outcome (move_names m a move more tells))
