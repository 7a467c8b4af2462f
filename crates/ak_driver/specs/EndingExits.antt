-- The exits by which an honest run ends.
use Rattle.std.specs.Prelude.{Bool, true, false, [], ◌∷◌}
use Rattle.ak_core.specs.declared.moves.Exit.{Exit}
use Rattle.ak_core.specs.declared.moves.Exit.TheVariants.{Ended, Trapped}
use Rattle.ak_model.specs.Paging.Histories.{History, Change, Exits, change_of}

-- the program has ended, or was trapped
abbrev pub is_result : Exit → Bool
is_result (Ended s) = true
is_result (Trapped v) = true
is_result _ = false

-- a processor left with such an exit
abbrev pub says_result : Change → Bool
says_result (Exits lp exit) = is_result exit
says_result _ = false

-- the last move was answered by such an exit
abbrev pub last_is_result : History → Bool
last_is_result [] = false
last_is_result (pair ∷ past) = says_result (change_of pair)
