-- What each frame of the page cache holds, and since when its page is blocked. (SDM volume 3D, "Enclave Page Cache Map",
-- EBLOCK.)
use Rattle.std.specs.Prelude.{ℕ, ◌+◌, [], ◌∷◌, length, Option, Some, None, ◌==◌, if◌then◌else◌}
use Rattle.std.specs.Bool.{then_some}
use Rattle.ak_core.specs.Layout.{Layout}
use Rattle.ak_model.specs.Paging.Holdings.{Held, FreeFrame, VaFrame, PageFrame}
use Rattle.ak_model.specs.Paging.Build.{held_at_build}
use Rattle.ak_model.specs.Paging.Histories.{History, Change, change_of, Blocks, WritesOut, Loads, Removes, MakesVa}

-- what a frame holds after one more change
abbrev pub held_after : Change → ℕ → Held → Held
held_after (Loads g k p va i blocked) f before = if f == g then PageFrame p else before
held_after (WritesOut g va i k) f before = if f == g then FreeFrame else before
held_after (Removes g) f before = if f == g then FreeFrame else before
held_after (MakesVa g) f before = if f == g then VaFrame else before
held_after _ f before = before

-- what a frame holds: the last load, write-out, removal or VA page in it decides
abbrev pub held : Layout → History → ℕ → Held
held layout [] f = held_at_build layout f
held layout (pair ∷ past) f = held_after (change_of pair) f (held layout past f)

-- the first block counts
abbrev pub blocks_first : Option ℕ → ℕ → Option ℕ
blocks_first None place = Some place
blocks_first (Some earlier) place = Some earlier

-- the place of the block after one more change, at this place
abbrev pub blocked_after : Change → ℕ → ℕ → Option ℕ → Option ℕ
blocked_after (Blocks g) f place before = if f == g then blocks_first before place else before
blocked_after (Loads g k p va i blocked) f place before = if f == g then then_some blocked place else before
blocked_after (MakesVa g) f place before = if f == g then None else before
blocked_after (WritesOut g va i k) f place before = if f == g then None else before
blocked_after (Removes g) f place before = if f == g then None else before
blocked_after _ f place before = before

-- the place at which the frame was first blocked since it was last filled or freed, if there is one
abbrev pub blocked_at : History → ℕ → Option ℕ
blocked_at [] f = None
blocked_at (pair ∷ past) f = blocked_after (change_of pair) f (length past + 1) (blocked_at past f)
