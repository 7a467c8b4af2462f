use Rattle.std.proofs.Common.{◌≡◌, ◌+◌, ◌≤◌, ℕ, List, [], length, drop}
use Rattle.std.specs.List.{sum_by}
use Rattle.ak_model.specs.Paging.Histories.{History}
use Rattle.ak_machine.specs.Machines.{IsJustBuilt}
use Rattle.ak_script.specs.Script.{moves_in}
use Rattle.ak_top.specs.Follows.{Leads, past_of}
use Rattle.ak_top.specs.Sessions.{IsSession}
use Rattle.ak_top.proofs.session.run_script.Given as goal

abbrev pub invariant-loop-item : goal.invariant-loop-item
invariant-loop-item l = record {
  layout : l.session.run.machine.layout ≡ l.fn.machine.layout;
  moves : length l.session.run.journal.moves + sum_by moves_in (drop l.item-index l.item-items) ≤ 20000;
  stands : (image : List ℕ) → IsJustBuilt image l.fn.machine → IsSession image l.session;
  leads : (image : List ℕ) → IsJustBuilt image l.fn.machine → (last : History) →
      Leads l.fn.machine.layout l.script.inputs (drop l.item-index l.item-items) (past_of l.session.run.journal) last →
      Leads l.fn.machine.layout l.script.inputs l.script.items [] last;
}
