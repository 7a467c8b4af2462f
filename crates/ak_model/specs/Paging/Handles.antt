-- Sealed pages: their handles, the slots of VA pages, and where each page's newest copy is. (SDM volume 3D, EWB, ELDB and
-- ELDU, "Version Array".)
use Rattle.std.specs.Prelude.{ℕ, ◌+◌, Bool, false, ◌&&◌, ◌||◌, not, [], ◌∷◌, Option, Some, None, nat_lt, ◌==◌, if◌then◌else◌}
use Rattle.ak_core.specs.Layout.{Layout}
use Rattle.ak_model.specs.Paging.Holdings.{Held, PageFrame, is_page_in, Place, InFrame, InHandle, Gone}
use Rattle.ak_model.specs.Paging.Pages.{pages}
use Rattle.ak_model.specs.Paging.Build.{page_of_at_build, slot_at_build, place_at_build}
use Rattle.ak_model.specs.Paging.Histories.{History, Change, change_of, WritesOut, Loads, Removes, MakesVa, Discards}
use Rattle.ak_model.specs.Paging.Frames.{held}

-- how many handles were given after one more change
abbrev pub given_after : Change → ℕ → ℕ
given_after (WritesOut f va i k) before = before + 1
given_after _ before = before

-- how many handles were given: by the build one for each page of the program, then one by each write-out. Handles are the
-- numbers below
abbrev pub given : Layout → History → ℕ
given layout [] = pages layout
given layout (pair ∷ past) = given_after (change_of pair) (given layout past)

-- the page in a frame, or else another
abbrev pub page_in : Held → ℕ → ℕ
page_in (PageFrame p) otherwise = p
page_in _ otherwise = otherwise

-- the page of handle j after handle k was given for a frame
abbrev pub page_after : Held → ℕ → ℕ → ℕ → ℕ
page_after frame k j before = if j == k then page_in frame before else before

-- the page of handle j after one more change
abbrev pub page_of_after : Layout → History → Change → ℕ → ℕ → ℕ
page_of_after layout past (WritesOut f va i k) j before = page_after (held layout past f) k j before
page_of_after layout past _ j before = before

-- the page that a handle seals: the one that the frame held when it was written out
abbrev pub page_of : Layout → History → ℕ → ℕ
page_of layout [] j = page_of_at_build j
page_of layout (pair ∷ past) j = page_of_after layout past (change_of pair) j (page_of layout past j)

-- whether handle j is discarded after one more change
abbrev pub discarded_after : Change → ℕ → Bool → Bool
discarded_after (Discards k) j before = (j == k) || before
discarded_after _ j before = before

-- a handle was discarded
abbrev pub discarded : History → ℕ → Bool
discarded [] j = false
discarded (pair ∷ past) j = discarded_after (change_of pair) j (discarded past j)

-- a handle that was given and not discarded
abbrev pub live : Layout → History → ℕ → Bool
live layout past k = nat_lt k (given layout past) && not (discarded past k)

-- what a slot holds after one more change
abbrev pub slot_after : Change → ℕ → ℕ → Option ℕ → Option ℕ
slot_after (Loads f k p va' i' blocked) va i before = if (va == va') && (i == i') then None else before
slot_after (WritesOut f va' i' k) va i before = if (va == va') && (i == i') then Some k else before
slot_after (MakesVa va') va i before = if va == va' then None else before
slot_after _ va i before = before

-- the handle whose version a slot of a VA frame holds
abbrev pub slot : Layout → History → ℕ → ℕ → Option ℕ
slot layout [] va i = slot_at_build layout va i
slot layout (pair ∷ past) va i = slot_after (change_of pair) va i (slot layout past va i)

-- the copy is gone where its handle is this one
abbrev pub gone_if : Place → ℕ → Place
gone_if (InHandle j) k = if j == k then Gone else InHandle j
gone_if (InFrame f) k = InFrame f
gone_if Gone k = Gone

-- where the page's copy is after one more change
abbrev pub place_after : Layout → History → Change → ℕ → Place → Place
place_after layout past (Loads f k q va i blocked) p before = if p == q then InFrame f else before
place_after layout past (WritesOut f va i k) p before = if is_page_in (held layout past f) p then InHandle k else before
place_after layout past (Removes f) p before = if is_page_in (held layout past f) p then Gone else before
place_after layout past (Discards k) p before = gone_if before k
place_after layout past _ p before = before

-- where the page's newest copy is
abbrev pub place : Layout → History → ℕ → Place
place layout [] p = place_at_build layout p
place layout (pair ∷ past) p = place_after layout past (change_of pair) p (place layout past p)
