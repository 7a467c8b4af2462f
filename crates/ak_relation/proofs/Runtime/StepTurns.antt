-- A step of the runtime as a turn: it takes no event and makes no turn of the program, and the first access that no walk finds decides.
use Rattle.std.proofs.Common.{◌≡◌, ℕ, List, [], ◌∷◌, ◌++◌, refl, ap, sym, ◌∙◌}
use Rattle.std.specs.Prelude.{Bool, true, false, not, Option, Some, None, if◌then◌else◌}
use Rattle.ak_core.specs.Layout.{Layout}
use Rattle.ak_core.specs.Mem.{Access}
use Rattle.ak_core.specs.declared.event.Event.{Event}
use Rattle.ak_model.specs.Paging.Histories.{History}
use Rattle.ak_model.specs.Paging.Walk.{access_walkable}
use Rattle.ak_model.specs.Control.ControlState.{Context, Program, Enter, Probe, Finish, Guard, Leave, Control}
use Rattle.ak_model.specs.Control.RuntimeTurn.{accesses, first_fault, effect, fault, unless_fault, runtime_turn}
use Rattle.ak_model.specs.Control.Runs.{turn_of, turn}
use Rattle.ak_model.specs.Tapes.ProgramTurns.{turn_in}
use Rattle.ak_model.specs.Laws.Orderly.{after_turn}
use Rattle.ak_model.specs.Laws.Calls.{calls_now}
use Rattle.ak_relation.specs.Relation.Does.{with_rest}
use Rattle.ak_relation.specs.Premises.Works.{IsStep, AreFound}

-- ---- A context of the runtime's

-- it makes no turn of the program
pub no_turn : (lp : ℕ) (past : History) (control : Control) (context : Context) → IsStep context → turn_in lp past control (Some context) ≡ []
no_turn lp past control Program s = absurd s
no_turn lp past control (Enter k v) s = refl
no_turn lp past control (Probe i) s = refl
no_turn lp past control Finish s = refl
no_turn lp past control Guard s = refl
no_turn lp past control (Leave b a) s = refl

-- nor a call
pub no_call : (control : Control) (context : Context) → IsStep context → calls_now control (Some context) ≡ 0
no_call control Program s = absurd s
no_call control (Enter k v) s = refl
no_call control (Probe i) s = refl
no_call control Finish s = refl
no_call control Guard s = refl
no_call control (Leave b a) s = refl

-- nor a miss
pub no_miss : (layout : Layout) (so_far : List ℕ) (control : Control) (context : Context) → IsStep context → after_turn layout so_far control (Some context) ≡ so_far
no_miss layout so_far control Program s = absurd s
no_miss layout so_far control (Enter k v) s = refl
no_miss layout so_far control (Probe i) s = refl
no_miss layout so_far control Finish s = refl
no_miss layout so_far control Guard s = refl
no_miss layout so_far control (Leave b a) s = refl

step_turn : (layout : Layout) (past : History) (control : Control) (context : Context) → IsStep context →
    turn_of layout past control (Some context) ≡ runtime_turn layout past control context
step_turn layout past control Program s = absurd s
step_turn layout past control (Enter k v) s = refl
step_turn layout past control (Probe i) s = refl
step_turn layout past control Finish s = refl
step_turn layout past control Guard s = refl
step_turn layout past control (Leave b a) s = refl

same_touches : (layout : Layout) (control : Control) (later : List Event) (context : Context) → accesses layout (with_rest control later) context ≡ accesses layout control context
same_touches layout control later Program = refl
same_touches layout control later (Enter k v) = refl
same_touches layout control later (Probe i) = refl
same_touches layout control later Finish = refl
same_touches layout control later Guard = refl
same_touches layout control later (Leave b a) = refl

-- ---- The first refused access

module _ (layout : Layout) (past : History) where
  by_found : (b : Bool) (t : Access) (later : Option Access) → b ≡ true → (if not b then Some t else later) ≡ later
  by_found true t later e = refl
  by_found false t later e = absurd (cc)

  by_lost : (b : Bool) (t : Access) (later : Option Access) → b ≡ false → (if not b then Some t else later) ≡ Some t
  by_lost false t later e = refl
  by_lost true t later e = absurd (cc)

  -- where walks find all, none is refused
  none_lost : (holds : ℕ → Bool) (all : List Access) → AreFound layout past holds all → first_fault layout past all ≡ None
  none_lost holds [] h = refl
  none_lost holds (t ∷ all) h = by_found (access_walkable layout past t) t (first_fault layout past all) h.0 ∙ none_lost holds all h.2

  -- after those that walks find, the one that no walk finds
  one_lost : (holds : ℕ → Bool) (all later : List Access) (t : Access) → AreFound layout past holds all → access_walkable layout past t ≡ false → first_fault layout past (all ++ t ∷ later) ≡ Some t
  one_lost holds [] later t h n = by_lost (access_walkable layout past t) t (first_fault layout past later) n
  one_lost holds (x ∷ all) later t h n = by_found (access_walkable layout past x) x (first_fault layout past (all ++ t ∷ later)) h.0 ∙ one_lost holds all later t h.2 n

  module _ (lp : ℕ) (control : Control) (context : Context) (step : IsStep context) (now : control.now ≡ Some context) where
    turn_by : (o : Option Access) → first_fault layout past (accesses layout control context) ≡ o → (later : List Event) →
        turn layout past (with_rest control later) ≡ unless_fault layout (with_rest control later) context o
    turn_by o e later =
        ap (turn_of layout past (with_rest control later)) now ∙ step_turn layout past (with_rest control later) context step
        ∙ ap (λ all. unless_fault layout (with_rest control later) context (first_fault layout past all)) (same_touches layout control later context)
        ∙ ap (unless_fault layout (with_rest control later) context) e

    -- a step whose accesses are all found has its effect
    pub works : (holds : ℕ → Bool) (granted : List Access) → AreFound layout past holds granted → granted ≡ accesses layout control context → (later : List Event) →
        turn layout past (with_rest control later) ≡ effect layout (with_rest control later) context
    works holds granted found all later = turn_by None (ap (first_fault layout past) (sym all) ∙ none_lost holds granted found) later

    -- and one with a refused access faults at it
    pub faults : (holds : ℕ → Bool) (granted more : List Access) (t : Access) → AreFound layout past holds granted → access_walkable layout past t ≡ false →
        granted ++ t ∷ more ≡ accesses layout control context → (later : List Event) →
        turn layout past (with_rest control later) ≡ fault layout (with_rest control later) context t
    faults holds granted more t found lost_one all later = turn_by (Some t) (ap (first_fault layout past) (sym all) ∙ one_lost holds granted more t found lost_one) later

    -- so the definitions say which access faults: none, or that one
    pub none_refused : (holds : ℕ → Bool) (granted : List Access) → AreFound layout past holds granted → granted ≡ accesses layout control context →
        first_fault layout past (accesses layout control context) ≡ None
    none_refused holds granted found all = ap (first_fault layout past) (sym all) ∙ none_lost holds granted found

    pub one_refused : (holds : ℕ → Bool) (granted more : List Access) (t : Access) → AreFound layout past holds granted → access_walkable layout past t ≡ false →
        granted ++ t ∷ more ≡ accesses layout control context → first_fault layout past (accesses layout control context) ≡ Some t
    one_refused holds granted more t found lost_one all = ap (first_fault layout past) (sym all) ∙ one_lost holds granted more t found lost_one

    -- no turn of the program is made
    pub made_none : (later : List Event) → turn_in lp past (with_rest control later) control.now ≡ []
    made_none later = ap (turn_in lp past (with_rest control later)) now ∙ no_turn lp past (with_rest control later) context step
