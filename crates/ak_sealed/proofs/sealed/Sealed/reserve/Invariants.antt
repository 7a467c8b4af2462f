use Rattle.std.proofs.Common.{◌≡◌, ◌-◌, ◌≤◌, max}
use Rattle.ak_sealed.proofs.sealed.Sealed.reserve.Given as goal

abbrev pub invariant-loop-self : goal.invariant-loop-self
invariant-loop-self l =
    (l.self.sealed_pages ≡ l.initial.self.sealed_pages) × (l.initial.self.spare ≤ l.self.spare) × (l.self.spare ≤ max l.initial.self.spare l.spare)

abbrev pub decreases-loop-self : goal.decreases-loop-self
decreases-loop-self l = l.spare - l.self.spare
