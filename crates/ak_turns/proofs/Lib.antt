mod Going
mod GoingOn
mod ProgramTurns
mod Steps
mod WholeRuns
mod CachedPages
