-- The page table, as last set.
use Rattle.std.specs.Prelude.{ℕ, [], ◌∷◌, ◌==◌, if◌then◌else◌}
use Rattle.ak_core.specs.Layout.{Layout}
use Rattle.ak_model.specs.Paging.Histories.{History, Change, change_of, Maps}
use Rattle.ak_model.specs.Paging.Holdings.{Mapping}
use Rattle.ak_model.specs.Paging.Build.{entry_at_build}

-- the entry after one more change
abbrev pub pte_after : Change → ℕ → Mapping → Mapping
pte_after (Maps q f flags) p before = if p == q then record { frame = f; flags = flags } else before
pte_after _ p before = before

-- a page's entry, as last set
abbrev pub pte : Layout → History → ℕ → Mapping
pte layout [] p = entry_at_build layout p
pte layout (pair ∷ past) p = pte_after (change_of pair) p (pte layout past p)
