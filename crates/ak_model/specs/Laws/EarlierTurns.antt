-- Turns of processors that were inside, after histories that have been.
use Rattle.std.specs.Prelude.{◌≡◌, ℕ, ◌≤◌, true, List, [], ◌∷◌, length}
use Rattle.ak_model.specs.Paging.Inside.{inside}
use Rattle.ak_model.specs.Tapes.ProgramTurns.{ProgramTurn}

-- the turns are of processors that were inside, after histories of this length at most
abbrev pub AreEarlier : ℕ → List ProgramTurn → Type 0
AreEarlier n [] = Unit {0}
AreEarlier n (turn ∷ older) = (inside turn.past turn.lp ≡ true) × (length turn.past ≤ n) × AreEarlier n older
