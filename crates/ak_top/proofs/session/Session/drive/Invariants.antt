use Rattle.std.proofs.Common.{◌≡◌, ◌+◌, ◌-◌, ◌≤◌, ℕ, List, length}
use Rattle.ak_model.specs.Paging.Histories.{History}
use Rattle.ak_top.specs.Follows.{Drives, past_of}
use Rattle.ak_top.specs.Sessions.{IsSession}
use Rattle.ak_top.proofs.session.Session.drive.Given as goal

abbrev pub invariant-loop : goal.invariant-loop
invariant-loop l = record {
  layout : l.self.run.machine.layout ≡ l.fn.self.run.machine.layout;
  moves : length l.self.run.journal.moves ≤ length l.fn.self.run.journal.moves + l.counter;
  stands : (image : List ℕ) → IsSession image l.fn.self → IsSession image l.self;
  drives : (image : List ℕ) → IsSession image l.fn.self → (last : History) → Drives l.fn.self.run.machine.layout l.inputs (l.most - l.counter) (past_of l.self.run.journal) last
      → Drives l.fn.self.run.machine.layout l.inputs l.most (past_of l.fn.self.run.journal) last;
}
