use Rattle.std.proofs.Common.{◌≡◌, ◌+◌, ◌≤◌, length, ap, subst, arith}
use Rattle.ak_encls.specs.Answering.{answer_in, given_by}
use Rattle.ak_encls.specs.Enclave.{Enclave}
use Rattle.ak_encls.proofs.encls.Encls.begin_cycle.Goals as goal
use Rattle.ak_encls.proofs.encls.Encls.begin_cycle.Goals.{in-Ok, in-Err}

-- a cycle gives no handle
none_given : (c : goal.Joined-cycle) → given_by (answer_in c.match-cycle.result) ≡ 0
none_given c = elim c.match-cycle.branch [
  | in-Ok w ↦ ap (λ r. given_by (answer_in r)) w.result-is
  | in-Err w ↦ ap (λ r. given_by (answer_in r)) w.result-is
]

pub returns-clause-rest : goal.returns-clause-rest
returns-clause-rest c = record {
  frames = ap (λ (e : Enclave). length e.frames) c.self.view_is;
  entries = ap (λ (e : Enclave). length e.entries) c.self.view_is;
  measure = ap (λ (e : Enclave). e.measure) c.self.view_is;
  spare = (let none = none_given c in let same = ap (λ (e : Enclave). e.handles.spare) c.self.view_is in omega arith);
  given = (let none = none_given c in let same = ap (λ (e : Enclave). length e.handles.sealed_pages) c.self.view_is in omega arith);
  cycles = subst (λ (e : Enclave). c.cycle.new.self.cycles ≤ e.track.cycles + 1) c.self.view_is c.cycle.ensures.most;
}
