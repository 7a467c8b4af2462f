use Rattle.std.proofs.Common.{◌≡◌, ap, sym, subst, ◌∙◌}
use Rattle.std.specs.Prelude.{true, false, not}
use Rattle.ak_model.specs.Clusters.Queue.{is_in}
use Rattle.ak_model.specs.Control.ControlState.{Reason}
use Rattle.ak_model.specs.Paging.Pages.{cluster_at, permits}
use Rattle.ak_pager.specs.Rows.{asking, program_row}
use Rattle.ak_pager.specs.StepsTo.{Performs}
use Rattle.ak_pager.proofs.Faults.{denied_by, broke_by, missed_by, not-true, not-false}
use Rattle.ak_pager.proofs.entry.program_fault.Goals as goal

pub returns-then-not-permits-clause-row : goal.returns-then-not-permits-clause-row
returns-then-not-permits-clause-row g c r regs reads =
    let layout = c.args.layout.now in
    let access = c.args.access in
    let cluster = cluster_at layout access.page.0 in
    let forbidden = not-false c.permits.result (permits layout access.page.0 access.kind) c.permits.ensures c.if-not-permits.true in
    subst (λ (reason : Reason). Performs layout (program_row layout r access reason) (g.M.Mem.bytes c.args.mem.now) (g.M.Mem.bytes c.trap.new.mem) c.trap.result regs)
    (sym (denied_by (not (permits layout access.page.0 access.kind)) (is_in r.queue cluster) cluster forbidden)) (c.trap.ensures.row r regs reads)

pub returns-then-is_in-clause-row : goal.returns-then-is_in-clause-row
returns-then-is_in-clause-row g c r regs reads =
    let layout = c.args.layout.now in
    let access = c.args.access in
    let cluster = cluster_at layout access.page.0 in
    let allowed = not-true c.permits.result (permits layout access.page.0 access.kind) c.permits.ensures c.if-not-permits.false in
    let queue : c.load_state.result.queue ≡ r.queue = c.load_state.ensures.queue r.queue reads.queue in
    let is : is_in r.queue cluster ≡ true =
    ap (λ q. is_in q cluster) (sym queue) ∙ ap (is_in c.load_state.result.queue) (sym c.cluster_at-cluster.ensures) ∙ sym c.is_in.ensures ∙ c.if-is_in.true in
    subst (λ (reason : Reason). Performs layout (program_row layout r access reason) (g.M.Mem.bytes c.args.mem.now) (g.M.Mem.bytes c.die.new.mem) c.die.result regs)
    (sym (broke_by (not (permits layout access.page.0 access.kind)) (is_in r.queue cluster) cluster allowed is)) (c.die.ensures.row r regs reads)

pub returns-clause-row : goal.returns-clause-row
returns-clause-row g c r regs reads =
    let layout = c.args.layout.now in
    let access = c.args.access in
    let cluster = cluster_at layout access.page.0 in
    let allowed = not-true c.permits.result (permits layout access.page.0 access.kind) c.permits.ensures c.if-not-permits.false in
    let queue : c.load_state.result.queue ≡ r.queue = c.load_state.ensures.queue r.queue reads.queue in
    let is : is_in r.queue cluster ≡ false =
    ap (λ q. is_in q cluster) (sym queue) ∙ ap (is_in c.load_state.result.queue) (sym c.cluster_at-cluster.ensures) ∙ sym c.is_in.ensures ∙ c.if-is_in.false in
    subst (λ (reason : Reason). Performs layout (program_row layout r access reason) (g.M.Mem.bytes c.args.mem.now) (g.M.Mem.bytes c.ask.new.mem) c.ask.result regs)
    (sym (missed_by (not (permits layout access.page.0 access.kind)) (is_in r.queue cluster) cluster allowed is))
    (subst (λ n. Performs layout (asking layout r n) (g.M.Mem.bytes c.args.mem.now) (g.M.Mem.bytes c.ask.new.mem) c.ask.result regs) c.cluster_at-cluster.ensures (c.ask.ensures.row r regs reads))
