-- A break that was forced stays so, by the same access, as moves are made: the turns grow, and so do the returned values.
use Rattle.std.proofs.Common.{◌≡◌, ℕ, List, [], ◌∷◌, ◌++◌, refl, ap, sym, ◌∙◌, subst, append_assoc}
use Rattle.std.specs.Prelude.{Option, Some, None}
use Rattle.ak_core.specs.Layout.{Layout}
use Rattle.ak_core.specs.Journal.{Journal, first_stop}
use Rattle.ak_core.specs.Mem.{Access}
use Rattle.ak_core.specs.declared.event.Event.{Event}
use Rattle.ak_core.specs.declared.event.Stop.{Stop}
use Rattle.ak_core.specs.declared.event.StopCause.{StopCause}
use Rattle.ak_core.specs.declared.event.StopCause.TheVariants.{Unmapped, RuntimeUnmapped, FetchNotHonoured, ResumedEarly, Stuck}
use Rattle.ak_core.specs.declared.moves.Move.{Move}
use Rattle.ak_core.specs.declared.moves.Answer.{Answer}
use Rattle.ak_model.specs.Paging.Histories.{History}
use Rattle.ak_model.specs.Flat.FlatRuns.{flat_run}
use Rattle.ak_model.specs.Control.ControlState.{Control}
use Rattle.ak_model.specs.Tapes.LastMoment.{FlatRuns, runs_of}
use Rattle.ak_model.specs.Tapes.ProgramTurns.{ProgramTurn}
use Rattle.ak_model.specs.Sound.Forced.{EachTurn, turns_of}
use Rattle.ak_model.specs.Sound.Outputs.{IsPrefixOf}
use Rattle.ak_pager.specs.declared.turn.RtTurn.{RtTurn}
use Rattle.ak_relation.specs.State.MachineState.{State}
use Rattle.ak_relation.specs.Program.Reaching.{IsBreakBy}
use Rattle.ak_relation.specs.Program.Turns.{events_by, TurnsStand}
use Rattle.ak_relation.specs.Relation.Does.{with_rest}
use Rattle.ak_relation.specs.Relation.Causes.{NamesMoveCause}
use Rattle.ak_relation.specs.Relation.Journals.{CauseNamesBreak, StopNamesBreak}
use Rattle.ak_relation.specs.Relation.Stopping.{stop_by}
use Rattle.ak_relation.specs.Relation.Keeping.{KeepsJournal, HasOneMore}
use Rattle.ak_relation.proofs.Program.LongerTurns.{AllCome, unkept-longer, all_come}
use Rattle.ak_relation.proofs.Runs.TracedMoves.{one_more, moves_are_traced}
use Rattle.ak_relation.proofs.Runs.SoundJournals.{turns_end, runs_end}
use Rattle.ak_relation.proofs.Runs.KeptJournals.{with_listed, one_more_move}
use Rattle.ak_relation.proofs.Runs.ReturnedValues.{returned-grows}

-- what holds of each turn holds of the older ones
of_older : (P : ProgramTurn → List ProgramTurn → Type 0) (newer : List ProgramTurn) (turn : ProgramTurn) (older : List ProgramTurn) → EachTurn P (newer ++ turn ∷ older) → EachTurn P older
of_older P [] turn older h = h.1
of_older P (new ∷ newer) turn older h = of_older P newer turn older h.1

module _ (layout : Layout) (image : List ℕ) (returned more : List ℕ) (made turns : List ProgramTurn) (stand : TurnsStand layout (flat_run layout image returned) turns) where
  break_stays : (t : Access) → IsBreakBy layout (flat_run layout image returned) turns t → IsBreakBy layout (flat_run layout image (returned ++ more)) (made ++ turns) t
  break_stays t b =
      let came : AllCome layout image returned more (b.newer ++ b.turn ∷ b.older) = subst (AllCome layout image returned more) b.among (all_come layout image returned more turns stand) in
      record {
        newer = made ++ b.newer;
        turn = b.turn;
        older = b.older;
        among = ap (λ all. made ++ all) b.among ∙ sym (append_assoc made b.newer (b.turn ∷ b.older));
        broke = b.broke;
        faults = unkept-longer layout image returned more b.turn b.older t (of_older _ b.newer b.turn b.older came) b.faults;
        inside = b.inside;
      }

  pub cause_stays : (cause : StopCause) → CauseNamesBreak layout (flat_run layout image returned) turns cause → CauseNamesBreak layout (flat_run layout image (returned ++ more)) (made ++ turns) cause
  cause_stays (Unmapped p kind) h = break_stays (record { page = p; kind = kind }) h
  cause_stays (RuntimeUnmapped p kind) h = tt
  cause_stays (FetchNotHonoured p kind) h = tt
  cause_stays ResumedEarly h = tt
  cause_stays (Stuck p kind) h = tt

module _ (layout : Layout) (runs longer : FlatRuns) (turns all : List ProgramTurn) where
  -- the first stop names a break
  first_names : (stop next : Option Stop) → ((cause : StopCause) → CauseNamesBreak layout runs turns cause → CauseNamesBreak layout longer all cause) → StopNamesBreak layout runs turns stop →
      (stop ≡ None → StopNamesBreak layout longer all next) → StopNamesBreak layout longer all (first_stop stop next)
  first_names None next stays h new = new refl
  first_names (Some stop) next stays h new = stays stop.cause h

pub breaks_stay : (layout : Layout) (image : List ℕ) (past : History) (m : Move) (a : Answer) (event : Option Event) (outcome : RtTurn) (old new : State) (before after : Journal) →
    KeepsJournal layout image past old before → NamesMoveCause layout old new m a event outcome → HasOneMore layout past m a event outcome before after →
    StopNamesBreak layout (runs_of layout image before) (turns_of layout before) before.stop →
    (before.stop ≡ None → StopNamesBreak layout (runs_of layout image after) (turns_of layout after) (stop_by layout past outcome)) →
    StopNamesBreak layout (runs_of layout image after) (turns_of layout after) after.stop
breaks_stay layout image past m a event outcome old new before after k move more named next =
    let r = moves_are_traced layout image past old before.events k.has.moved in
    let g = (move image past r.control r.turns r.stands).0 in
    let told = with_listed before.events event ∙ sym more.events in
    let k' = one_more_move layout image past m a event outcome old new before after k move more in
    let r' = one_more layout image past m a old new before.events event after.events r g told in
    let grown : IsPrefixOf r.control.returned g.control.returned =
    subst (IsPrefixOf r.control.returned) (ap (λ (control : Control). control.returned) (g.does.traced [] tt).changed)
    (returned-grows layout past (with_rest r.control (events_by g.made ++ [])) m a) in
    let runs : FlatRuns = flat_run layout image r.control.returned in
    let longer : FlatRuns = flat_run layout image g.control.returned in
    let stays : (cause : StopCause) → CauseNamesBreak layout runs r.turns cause → CauseNamesBreak layout longer g.turns cause = λ cause h.
    subst (λ turns. CauseNamesBreak layout longer turns cause) (sym g.does.turns)
    (subst (λ values. CauseNamesBreak layout (flat_run layout image values) (g.made ++ r.turns) cause) grown.1
    (cause_stays layout image r.control.returned grown.0 g.made r.turns r.stands.turns cause h)) in
    let from : (cause : StopCause) → CauseNamesBreak layout (runs_of layout image before) (turns_of layout before) cause → CauseNamesBreak layout (runs_of layout image after) (turns_of layout after) cause = λ cause h.
    subst (λ rs. CauseNamesBreak layout rs (turns_of layout after) cause) (sym (runs_end layout image ((m, a) ∷ past) new after k'.has r'))
    (subst (λ turns. CauseNamesBreak layout longer turns cause) (sym (turns_end layout image ((m, a) ∷ past) new after k'.has r'))
    (stays cause
    (subst (λ rs. CauseNamesBreak layout rs r.turns cause) (runs_end layout image past old before k.has r)
    (subst (λ turns. CauseNamesBreak layout (runs_of layout image before) turns cause) (turns_end layout image past old before k.has r) h)))) in
    subst (StopNamesBreak layout (runs_of layout image after) (turns_of layout after)) (sym more.stop)
    (first_names layout (runs_of layout image before) (runs_of layout image after) (turns_of layout before) (turns_of layout after) before.stop (stop_by layout past outcome) from named next)
