use Rattle.std.proofs.Common.{◌≡◌, List, ℕ, rules, subst, sym}
use Rattle.ak_cluster.specs.QueueBytes.{IsQueue, HasQueue, KeepsOthers, with_queue}
use Rattle.ak_cluster.proofs.Bytes.{has_queue, keeps_others}
use Rattle.ak_cluster.proofs.policy.Policy.store.Goals as goal

pub returns-clause-stored : goal.returns-clause-stored
returns-clause-stored c =
    let is : c.put_clusters.new.state ≡ with_queue c.args.state.now c.args.self.now = search rules in
    subst (λ (bytes : List ℕ). HasQueue bytes c.args.self.now) (sym is)
    (has_queue c.args.state.now c.args.self.now c.requires (subst IsQueue c.self.view_is c.self.invariant))

pub returns-clause-others : goal.returns-clause-others
returns-clause-others c =
    let is : c.put_clusters.new.state ≡ with_queue c.args.state.now c.args.self.now = search rules in
    subst (KeepsOthers c.args.state.now) (sym is)
    (keeps_others c.args.state.now c.args.self.now c.requires (subst IsQueue c.self.view_is c.self.invariant))
