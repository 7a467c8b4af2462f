-- Stacks of saved contexts that the runtime changed are as long as before.
use Rattle.std.proofs.Common.{◌≡◌, suc, List, [], ◌∷◌, length, refl, ap}
use Rattle.ak_model.specs.Control.ControlState.{Saved}
use Rattle.ak_model.specs.Control.RuntimeTurn.{guard_top, guarded_twice, program_at_bottom}

pub top_length : (stack : List Saved) → length (guard_top stack) ≡ length stack
top_length [] = refl
top_length (saved ∷ older) = refl

pub twice_length : (stack : List Saved) → length (guarded_twice stack) ≡ length stack
twice_length [] = refl
twice_length (saved ∷ []) = refl
twice_length (saved ∷ next ∷ older) = refl

pub bottom_length : (stack : List Saved) → length (program_at_bottom stack) ≡ length stack
bottom_length [] = refl
bottom_length (saved ∷ []) = refl
bottom_length (saved ∷ next ∷ older) = ap suc (bottom_length (next ∷ older))
