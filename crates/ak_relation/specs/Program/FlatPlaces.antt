-- Where the program's flat run is, by the control state: at its next instruction, or after a call whose answer is missing.
use Rattle.std.specs.Prelude.{◌≡◌, ◌⊎◌, ℕ, suc, List, [], Some}
use Rattle.ak_core.specs.Layout.{Layout}
use Rattle.ak_model.specs.Flat.FlatRuns.{Flat, End, ending, flat_run}
use Rattle.ak_model.specs.Control.ControlState.{Control}
use Rattle.ak_model.specs.Laws.OwedAnswers.{Owing, Settled, Owed, Unknown, owing}

-- the flat run came to this state, and has used all values
abbrev pub Reaches : Layout → List ℕ → List ℕ → ℕ → Flat → Type 0
Reaches layout image returned count flat =
    flat_run layout image returned count ≡ Some (record { flat = flat; answers = [] })

-- the last instruction was a call, whose answer is missing
pub record IsAfterCall (layout : Layout) (image returned : List ℕ) (count : ℕ) (flat : Flat) : Type 0 where
  pub before : ℕ
  pub caller : Flat
  pub number : ℕ
  pub argument : ℕ
  pub count_is : count ≡ suc before
  pub reached : Reaches layout image returned before caller
  pub called : ending layout caller ≡ End.Call number argument flat

-- the flat state, where an answer is owed or not
abbrev pub IsAtBy : Owing → Layout → List ℕ → List ℕ → ℕ → Flat → Type 0
IsAtBy Settled layout image returned count flat = Reaches layout image returned count flat
IsAtBy Owed layout image returned count flat = IsAfterCall layout image returned count flat
IsAtBy Unknown layout image returned count flat =
    Reaches layout image returned count flat ⊎ IsAfterCall layout image returned count flat

-- the program is at this flat state
abbrev pub IsAt : Layout → List ℕ → Control → Flat → Type 0
IsAt layout image control flat = IsAtBy (owing control) layout image control.returned control.count flat
