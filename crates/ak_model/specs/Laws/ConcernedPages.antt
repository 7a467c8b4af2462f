-- Which pages a change concerns: its own page, or what its frame held or holds. (SDM volume 3D, "Access-control for EPC pages".)
use Rattle.std.specs.Prelude.{ℕ, Bool, false, ◌||◌, ◌==◌}
use Rattle.ak_model.specs.Paging.Histories.{Change, Maps, Blocks, WritesOut, Loads, Removes, MakesVa}
use Rattle.ak_model.specs.Paging.Holdings.{Held, is_page_in}

-- the change concerns the page, where frames held this before it
abbrev pub concerns : (ℕ → Held) → Change → ℕ → Bool
concerns held (Maps q f flags) p = p == q
concerns held (Blocks f) p = is_page_in (held f) p
concerns held (WritesOut f va i k) p = is_page_in (held f) p
concerns held (Loads f k q va i blocked) p = (p == q) || is_page_in (held f) p
concerns held (Removes f) p = is_page_in (held f) p
concerns held (MakesVa f) p = is_page_in (held f) p
concerns held _ p = false
