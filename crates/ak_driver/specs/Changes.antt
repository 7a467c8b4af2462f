-- What a move changed, as the code tells it.
use Rattle.ak_model.specs.Paging.Histories
use Rattle.ak_driver.specs.declared.changes.Change.{Change}
use Rattle.ak_driver.specs.declared.changes.Change.TheVariants.{Unchanged, Maps, Blocks, Cycles, WritesOut, Loads, Removes, MakesVa, Discards, Enters, Resumes, Exits, Interrupts}

-- the change that the code's value stands for
abbrev pub told : Change → Histories.Change
told Unchanged = Histories.Unchanged
told (Maps p f flags) = Histories.Maps p.0 f.0 flags
told (Blocks f) = Histories.Blocks f.0
told Cycles = Histories.Cycles
told (WritesOut f va i k) = Histories.WritesOut f.0 va.0 i k.0
told (Loads f k p va i blocked) = Histories.Loads f.0 k.0 p.0 va.0 i blocked
told (Removes f) = Histories.Removes f.0
told (MakesVa f) = Histories.MakesVa f.0
told (Discards k) = Histories.Discards k.0
told (Enters lp v) = Histories.Enters lp.0 v
told (Resumes lp) = Histories.Resumes lp.0
told (Exits lp exit) = Histories.Exits lp.0 exit
told (Interrupts lp) = Histories.Interrupts lp.0
