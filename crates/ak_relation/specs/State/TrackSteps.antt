-- The steps of a history that tracking looks at. A frame that is blocked is stamped with how many there were.
-- (SDM volume 3D, ETRACK.)
use Rattle.std.specs.Prelude.{ℕ, List, [], ◌∷◌, length, Option, None}
use Rattle.ak_model.specs.Paging.Histories.{History, Change, change_of, Cycles, Enters, Resumes, Exits, Interrupts}
use Rattle.ak_model.specs.Paging.Frames.{blocked_after}
use Rattle.ak_track.specs.Steps.{TrackStep, EntersBy, LeavesBy, Cycled}

-- the steps after one more change, the newest first
abbrev pub steps_after : Change → List TrackStep → List TrackStep
steps_after (Enters lp v) steps = EntersBy lp ∷ steps
steps_after (Resumes lp) steps = EntersBy lp ∷ steps
steps_after (Exits lp exit) steps = LeavesBy lp ∷ steps
steps_after (Interrupts lp) steps = LeavesBy lp ∷ steps
steps_after Cycles steps = Cycled ∷ steps
steps_after _ steps = steps

-- the steps of a history
abbrev pub steps_of : History → List TrackStep
steps_of [] = []
steps_of (pair ∷ past) = steps_after (change_of pair) (steps_of past)

-- the stamp of a frame that is blocked: how many steps stood before it was first blocked
abbrev pub stamp_of : History → ℕ → Option ℕ
stamp_of [] f = None
stamp_of (pair ∷ past) f = blocked_after (change_of pair) f (length (steps_of past)) (stamp_of past f)
