-- What moves tell: no move but a run tells anything; and where a run tells an access, its last turn is the program's, and faulted by it.
use Rattle.std.proofs.Common.{◌≡◌, inl, inr, ℕ, List, [], ◌∷◌, ◌++◌, refl, ap, sym, ◌∙◌, subst}
use Rattle.std.proofs.lemmas.List.{reverse-reverse}
use Rattle.std.specs.Prelude.{true, false, Option, Some, None, reverse, ◌==◌}
use Rattle.ak_core.specs.Layout.{Layout}
use Rattle.ak_core.specs.Mem.{Access}
use Rattle.ak_core.specs.declared.event.Event.{Event}
use Rattle.ak_core.specs.declared.event.Event.TheVariants.{Call, Miss, Trap, Break}
use Rattle.ak_core.specs.declared.moves.Answer.{Answer}
use Rattle.ak_core.specs.declared.moves.Exit.{Exit}
use Rattle.ak_core.specs.declared.moves.Move.{Move}
use Rattle.ak_core.specs.declared.moves.Move.TheVariants.{Run}
use Rattle.ak_core.specs.declared.page.Lp.{Lp}
use Rattle.ak_model.specs.Control.ControlState.{Context, Program, Enter, Probe, Finish, Guard, Leave, Raised, Denied, Control}
use Rattle.ak_model.specs.Control.EventTurn.{due, leave_program, event_turn}
use Rattle.ak_model.specs.Control.OneTurn.{Turn}
use Rattle.ak_model.specs.Control.RuntimeTurn.{shown_fault}
use Rattle.ak_model.specs.Control.Runs.{turn_of}
use Rattle.ak_model.specs.Flat.FlatRuns.{flat_run}
use Rattle.ak_model.specs.Paging.Histories.{History}
use Rattle.ak_model.specs.Paging.Inside.{inside}
use Rattle.ak_model.specs.Tapes.ProgramTurns.{ProgramTurn, turn_at, turn_in}
use Rattle.ak_model.proofs.Paging.Tests.{either_way}
use Rattle.ak_model.proofs.Tapes.RunsOverTapes.{after}
use Rattle.ak_pager.specs.declared.turn.RtTurn.{RtTurn}
use Rattle.ak_relation.specs.Program.FaultedTurns.{IsFaultBy, FaultedLast}
use Rattle.ak_relation.specs.Program.Turns.{listed, events_by}
use Rattle.ak_relation.specs.Relation.Causes.{is_run}
use Rattle.ak_relation.specs.Relation.Does.{with_rest, TurnFollows, MoveFollows, past_after, at_moment, GoesTo}
use Rattle.ak_relation.specs.Relation.Stands.{runs_at, Stands}
use Rattle.ak_relation.specs.Relation.Tells.{turn_giving, TurnNotes, LastTurn, TellsMove}
use Rattle.ak_relation.specs.State.MachineState.{State}
use Rattle.ak_relation.proofs.Runs.RunMoves.{run_ends}
use Rattle.ak_relation.proofs.Runs.WholeRuns.{turns_go}

-- any other move than a run
pub other_move : (layout : Layout) (old new : State) (m : Move) (a : Answer) → is_run m a ≡ false → TellsMove layout old new m a None None RtTurn.Go
other_move layout old new (Run lp n) (Answer.Exit exit) none = absurd (cc)
other_move layout old new _ _ none = (refl, record { no_fault = refl; no_step = refl })

-- ---- A turn of the program

listed_same : (first second : Option Event) → listed first ≡ listed second → first ≡ second
listed_same None None e = refl
listed_same None (Some event) e = absurd (cc)
listed_same (Some event) None e = absurd (cc)
listed_same (Some event) (Some other) e = let same : event ≡ other = cc in ap Some same

-- it returns nothing
event_returns : (layout : Layout) (control : Control) (event : Option Event) → (after (event_turn layout control event)).returned ≡ control.returned
event_returns layout control None = refl
event_returns layout control (Some (Call i b a)) = refl
event_returns layout control (Some (Miss i c)) = refl
event_returns layout control (Some (Break i)) = refl
event_returns layout control (Some (Trap i v)) =
    either_way (λ (t : Turn). (after t).returned ≡ control.returned) (v == 14) (leave_program (shown_fault layout) Denied control) (leave_program (Exit.Vector v) (Raised v) control) refl refl

module _ (layout : Layout) (image : List ℕ) (lp : ℕ) (past : History) (control : Control) (turns : List ProgramTurn) (old new : State) (exit : Exit) (event : Option Event) (all : ℕ)
    (g : GoesTo layout image (TurnFollows layout lp past (Some exit)) (at_moment past control turns old) (past_after past lp all (Some exit)) new event) where
  follows : TurnFollows layout lp past (Some exit) (with_rest control (events_by g.made ++ [])) (with_rest g.control []) g.made
  follows = g.does.traced [] tt

  module _ (now : control.now ≡ Some Program) where
    -- it is the only one that was made
    made_one : g.made ≡ turn_at lp past (with_rest control (events_by g.made ++ [])) ∷ []
    made_one =
        let one : turn_at lp past (with_rest control (events_by g.made ++ [])) ∷ [] ≡ reverse g.made =
        sym (ap (turn_in lp past (with_rest control (events_by g.made ++ []))) now) ∙ follows.made_are in
        sym (reverse-reverse g.made) ∙ ap reverse (sym one)

    event_is : due control.count (events_by g.made ++ []) ≡ event
    event_is = listed_same (due control.count (events_by g.made ++ [])) event (sym (ap events_by made_one) ∙ g.told)

    made_is : g.made ≡ turn_giving lp past control event ∷ []
    made_is = made_one ∙ ap (λ (o : Option Event). turn_giving lp past control o ∷ []) event_is

    returned_is : g.control.returned ≡ control.returned
    returned_is =
        sym (ap (λ (t : Turn). (after t).returned) (sym (ap (turn_of layout past (with_rest control (events_by g.made ++ []))) now) ∙ follows.turned))
        ∙ event_returns layout (with_rest control (events_by g.made ++ [])) (due control.count (events_by g.made ++ []))

    -- where it faulted, it is the newest, and did so
    faulted_last : (t : Access) → IsFaultBy layout (runs_at layout image control) (turn_giving lp past control event) turns t → FaultedLast layout (runs_at layout image g.control) g.turns t
    faulted_last t by = record {
      turn = turn_giving lp past control event;
      older = turns;
      newest = g.does.turns ∙ ap (λ made. made ++ turns) made_is;
      by = subst (λ values. IsFaultBy layout (flat_run layout image values) (turn_giving lp past control event) turns t) (sym returned_is) by;
    }

  -- what is told of the turn
  told_fault : (t : Access) (outcome : RtTurn) (now : Option Context) → control.now ≡ now →
      TurnNotes layout (runs_at layout image control) lp past control turns event (Some t) outcome now → FaultedLast layout (runs_at layout image g.control) g.turns t
  told_fault t outcome None e h = absurd (let none = h.0 in cc)
  told_fault t outcome (Some Program) e h = faulted_last e t h.0
  told_fault t outcome (Some (Enter k v)) e h = absurd (let none = h.0 in cc)
  told_fault t outcome (Some (Probe i)) e h = absurd (let none = h.0 in cc)
  told_fault t outcome (Some Finish) e h = absurd (let none = h.0 in cc)
  told_fault t outcome (Some Guard) e h = absurd (let none = h.0 in cc)
  told_fault t outcome (Some (Leave b a)) e h = absurd (let none = h.0 in cc)

-- ---- A move

module _ (layout : Layout) (image : List ℕ) (past : History) (control : Control) (turns : List ProgramTurn) (old new : State) (event : Option Event) (t : Access) (outcome : RtTurn)
    (h : Stands layout image (at_moment past control turns old)) where
  -- the move comes to a moment at which the newest turn faulted so
  abbrev pub ComesToFault : Move → Answer → Type 0
  ComesToFault m a =
      (g : GoesTo layout image (MoveFollows layout past m a) (at_moment past control turns old) ((m, a) ∷ past) new event) × FaultedLast layout (runs_at layout image g.control) g.turns t

  run_faults : (lp : Lp) (all : ℕ) (exit : Exit) → LastTurn layout lp all old new exit event (Some t) outcome → ComesToFault (Run lp all) (Answer.Exit exit)
  run_faults lp all exit l =
      let within : inside past lp.0 ≡ true = sym (h.tables.presence.within lp.0) ∙ l.in_use in
      let mid = turns_go layout image lp.0 past control turns old l.before l.mid l.first within h l.turns in
      let last = (l.turn image past mid.control mid.turns within mid.stands all).0 in
      let run = run_ends layout image lp past control turns old l.mid new l.before all exit l.first l.second event l.known within l.fewer mid last l.both in
      let told : FaultedLast layout (runs_at layout image last.control) last.turns t =
      told_fault layout image lp.0 past mid.control mid.turns l.mid new exit l.second all last t outcome mid.control.now refl (l.tells image past mid.control mid.turns within mid.stands) in (
        run.0,
        subst (λ (c : Control). FaultedLast layout (runs_at layout image c) run.0.turns t) (sym run.1) (subst (λ made. FaultedLast layout (runs_at layout image last.control) made t) (sym run.2) told),
      )

  pub move_faults : (m : Move) (a : Answer) → TellsMove layout old new m a event (Some t) outcome → ComesToFault m a
  move_faults (Run lp all) (Answer.Exit exit) (inl used) = absurd (let none = used.quiet.no_fault in cc)
  move_faults (Run lp all) (Answer.Exit exit) (inr last) = run_faults lp all exit last
  move_faults _ _ tells = absurd (let none = tells.1.no_fault in cc)
