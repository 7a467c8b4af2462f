-- What is kept of a history, so that a stop can be blamed without looking back: the places at which accesses were lost, and those of
-- some entries.
use Rattle.std.specs.Prelude.{◌≡◌, ℕ, ◌+◌, ◌*◌, List, slice_index}
use Rattle.ak_core.specs.Layout.{Layout}
use Rattle.ak_core.specs.Mem.{Access}
use Rattle.ak_core.specs.declared.page.Kind.{Kind}
use Rattle.ak_core.specs.declared.page.Kind.TheVariants.{Read, Write, Exec}
use Rattle.ak_model.specs.Kernels.Counted.{saved_count}
use Rattle.ak_model.specs.Paging.Histories.{History}
use Rattle.ak_model.specs.Stops.Blame.{lost_at, past_before_fault, resumed_at, returned_at}

-- what is kept: of each access of a page of the enclave, where it was lost last; the same as it was at the last page fault; the last
-- entering at CSSA 1; the last resuming; and how many contexts are saved. A place is 0 where there is none
pub record Marks : Type 0 where
  pub lost : List ℕ
  pub lost_at_fault : List ℕ
  pub returned : ℕ
  pub resumed : ℕ
  pub saved : ℕ

-- the number of a kind
abbrev pub kind_number : Kind → ℕ
kind_number Read = 0
kind_number Write = 1
kind_number Exec = 2

-- the number of an access in a list of places: three for each page
abbrev pub access_number : Access → ℕ
access_number t = 3 * t.page.0 + kind_number t.kind

-- the places at which the accesses were lost last in a history
pub record AreLost (layout : Layout) (past : History) (places : List ℕ) : Type 0 where
  pub place : (t : Access) → slice_index places (access_number t) ≡ lost_at layout past t

-- the marks are those of this history
pub record Marked (layout : Layout) (past : History) (marks : Marks) : Type 0 where
  pub lost : AreLost layout past marks.lost
  pub lost_at_fault : AreLost layout (past_before_fault past) marks.lost_at_fault
  pub returned : marks.returned ≡ returned_at past
  pub resumed : marks.resumed ≡ resumed_at past
  pub saved : marks.saved ≡ saved_count past
