-- A turn that goes on shows a call or nothing; after a call the leave step is next, and its turn leaves and shows nothing.
use Rattle.std.proofs.Common.{◌≡◌, ℕ, zero, suc, List, [], ◌∷◌, refl, ap, sym, ◌∙◌, subst}
use Rattle.std.proofs.lemmas.List.{reverse-reverse}
use Rattle.std.specs.Prelude.{Bool, true, false, Option, Some, None, reverse, is_some, ◌==◌}
use Rattle.ak_core.specs.Layout.{Layout}
use Rattle.ak_core.specs.Mem.{Access}
use Rattle.ak_core.specs.declared.event.Event.{Event}
use Rattle.ak_core.specs.declared.event.Event.TheVariants.{Call, Miss, Trap, Break}
use Rattle.ak_core.specs.declared.moves.Exit.{Exit}
use Rattle.ak_model.specs.Paging.Histories.{History}
use Rattle.ak_model.specs.Control.ControlState.{Context, Program, Enter, Probe, Finish, Guard, Leave, Denied, Raised, Control}
use Rattle.ak_model.specs.Control.EventTurn.{due, leave_program, event_turn}
use Rattle.ak_model.specs.Control.OneTurn.{Turn, Goes, Leaves}
use Rattle.ak_model.specs.Control.RuntimeTurn.{accesses, first_fault, shown_fault, leave_call, unless_fault}
use Rattle.ak_model.specs.Control.Runs.{turn_of}
use Rattle.ak_model.specs.Tapes.ProgramTurns.{ProgramTurn, turn_at, turn_in}
use Rattle.ak_model.proofs.Paging.Tests.{either_way}
use Rattle.ak_relation.specs.Program.Turns.{listed, events_by}
use Rattle.ak_relation.specs.Relation.Does.{TurnFollows, turn_to}

-- ---- Turns that go on

-- the context after a turn that goes on with this event: a call is about to leave, and no other event goes on
abbrev pub GoesAs : Option Event → Option Context → Type 0
GoesAs None now = Unit {0}
GoesAs (Some (Call i b a)) now = now ≡ Some (Leave b a)
GoesAs (Some _) now = ⊥

-- so it is of what a turn comes to
abbrev pub GoesAsTurn : Option Event → Turn → Type 0
GoesAsTurn event (Goes after) = GoesAs event after.now
GoesAsTurn event (Leaves exit after) = Unit {0}

module _ (layout : Layout) (control : Control) where
  event_goes : (event : Option Event) → GoesAsTurn event (event_turn layout control event)
  event_goes None = tt
  event_goes (Some (Call i b a)) = refl
  event_goes (Some (Miss i c)) = tt
  event_goes (Some (Break i)) = tt
  event_goes (Some (Trap i v)) = either_way (GoesAsTurn (Some (Trap i v))) (v == 14) (leave_program (shown_fault layout) Denied control) (leave_program (Exit.Vector v) (Raised v) control) tt tt

-- the first of a list of events
abbrev first_of : List Event → Option Event
first_of [] = None
first_of (event ∷ events) = Some event

first_listed : (event : Option Event) → first_of (listed event) ≡ event
first_listed None = refl
first_listed (Some event) = refl

-- what the list of a turn's events says of the turn's event
same_event : (first second : Option Event) → listed first ≡ listed second → first ≡ second
same_event first second e = sym (first_listed first) ∙ ap first_of e ∙ first_listed second

module _ (layout : Layout) (lp : ℕ) (past : History) (control after : Control) (event : Option Event) (made : List ProgramTurn) (told : events_by made ≡ listed event) where
  -- the turns that were made, in order
  in_order : (turns : List ProgramTurn) → turns ≡ reverse made → made ≡ reverse turns
  in_order turns e = sym (reverse-reverse made) ∙ ap reverse (sym e)

  no_event : [] ≡ reverse made → event ≡ None
  no_event e = same_event event None (sym told ∙ ap events_by (in_order [] e))

  quiet : event ≡ None → GoesAs event after.now
  quiet e = let P : Option Event → Type 0 = λ o. GoesAs o after.now in subst P (sym e) tt

  program_goes : event_turn layout control (due control.count control.rest) ≡ Goes after → turn_at lp past control ∷ [] ≡ reverse made → GoesAs event after.now
  program_goes turned made_are =
      let is : due control.count control.rest ≡ event = same_event (due control.count control.rest) event (sym (ap events_by (in_order (turn_at lp past control ∷ []) made_are)) ∙ told) in
      let T : Turn → Type 0 = λ t. GoesAsTurn (due control.count control.rest) t in
      let P : Option Event → Type 0 = λ o. GoesAs o after.now in
      subst P is (subst T turned (event_goes layout control (due control.count control.rest)))

  -- the context after a turn that goes on with these turns of the program
  goes_by : (now : Option Context) → turn_of layout past control now ≡ Goes after → turn_in lp past control now ≡ reverse made → GoesAs event after.now
  goes_by None turned made_are = quiet (no_event made_are)
  goes_by (Some Program) turned made_are = program_goes turned made_are
  goes_by (Some (Enter k v)) turned made_are = quiet (no_event made_are)
  goes_by (Some (Probe i)) turned made_are = quiet (no_event made_are)
  goes_by (Some Finish) turned made_are = quiet (no_event made_are)
  goes_by (Some Guard) turned made_are = quiet (no_event made_are)
  goes_by (Some (Leave b a)) turned made_are = quiet (no_event made_are)

-- a turn that goes on
pub goes_on : (layout : Layout) (lp : ℕ) (past : History) (control after : Control) (event : Option Event) (made : List ProgramTurn) →
    TurnFollows layout lp past None control after made → events_by made ≡ listed event → GoesAs event after.now
goes_on layout lp past control after event made follows told = goes_by layout lp past control after event made told control.now follows.turned follows.made_are

-- ---- The leave step

-- the turn leaves
abbrev pub is_left : Turn → Bool
is_left (Goes after) = false
is_left (Leaves exit after) = true

module _ (layout : Layout) (control : Control) where
  call_leaves : (b a : ℕ) → is_left (leave_call control b a) ≡ true
  call_leaves zero a = refl
  call_leaves (suc b) a = refl

  step_leaves : (b a : ℕ) (refused : Option Access) → is_left (unless_fault layout control (Leave b a) refused) ≡ true
  step_leaves b a None = call_leaves b a
  step_leaves b a (Some t) = refl

  leaves_by : (past : History) (b a : ℕ) (after : Control) (exit : Option Exit) → turn_of layout past control (Some (Leave b a)) ≡ turn_to exit after → is_some exit ≡ true
  leaves_by past b a after (Some exit) turned = refl
  leaves_by past b a after None turned =
      let wrong : false ≡ true = sym (ap is_left turned) ∙ step_leaves b a (first_fault layout past (accesses layout control (Leave b a))) in cc

-- a turn at the leave step leaves
pub leaves : (layout : Layout) (lp : ℕ) (past : History) (control after : Control) (exit : Option Exit) (made : List ProgramTurn) (b a : ℕ) →
    control.now ≡ Some (Leave b a) → TurnFollows layout lp past exit control after made → is_some exit ≡ true
leaves layout lp past control after exit made b a now follows =
    leaves_by layout control past b a after exit (ap (turn_of layout past control) (sym now) ∙ follows.turned)

-- and shows nothing
pub leave_is_quiet : (layout : Layout) (lp : ℕ) (past : History) (control after : Control) (exit : Option Exit) (event : Option Event) (made : List ProgramTurn) (b a : ℕ) →
    control.now ≡ Some (Leave b a) → TurnFollows layout lp past exit control after made → events_by made ≡ listed event → event ≡ None
leave_is_quiet layout lp past control after exit event made b a now follows told =
    no_event layout lp past control after event made told (ap (turn_in lp past control) (sym now) ∙ follows.made_are)
