use Rattle.std.proofs.Common.{◌≡◌, ℕ, drop, ap, sym, subst, ◌∙◌}
use Rattle.ak_core.specs.declared.moves.Exit.{Exit}
use Rattle.ak_model.specs.Clusters.Queue.{drops}
use Rattle.ak_model.specs.Control.ControlState.{Asked}
use Rattle.ak_model.specs.Paging.Pages.{state_page}
use Rattle.ak_pager.specs.declared.turn.RtTurn.{RtTurn}
use Rattle.ak_pager.specs.Rows.{area_bytes, asking}
use Rattle.ak_pager.specs.StepsTo.{HasState}
use Rattle.ak_pager.proofs.Changing.{guard_one, performs, state_alone}
use Rattle.ak_pager.proofs.entry.ask.Goals as goal

pub returns-clause-row : goal.returns-clause-row
returns-clause-row g c r regs reads =
    let layout = c.args.layout.now in
    let cluster = c.args.cluster in
    let old = g.M.Mem.bytes c.args.mem.now in
    let mid = g.M.Mem.bytes c.store_state.new.mem in
    let new = g.M.Mem.bytes c.guard_area.new.mem in
    let d = drops layout r.queue cluster in
    let queue : c.load_state-state.result.queue ≡ r.queue = c.load_state-state.ensures.queue r.queue reads.queue in
    let count : c.drop_for-dropped.result ≡ d = c.drop_for-dropped.ensures.count ∙ ap (λ q. drops layout q cluster) queue in
    let rest : c.drop_for-dropped.new.self ≡ drop d r.queue = c.drop_for-dropped.ensures.rest ∙ ap (λ (n : ℕ). drop n c.load_state-state.result.queue) count ∙ ap (λ q. drop d q) queue in
    let frame : c.area_frame-state.result ≡ area_bytes r.first = c.area_frame-state.ensures ∙ ap (λ bytes. area_bytes bytes) (sym reads.first) in
    let says : HasState (Asked cluster) (drop d r.queue) (area_bytes r.first) (mid (state_page layout)) =
    subst (λ q. HasState (Asked cluster) q (area_bytes r.first) (mid (state_page layout))) rest
    (subst (λ f. HasState (Asked cluster) c.drop_for-dropped.new.self f (mid (state_page layout))) frame c.store_state.ensures.state) in
    performs layout (asking layout r cluster) old new _ regs (ap (λ (n : ℕ). RtTurn.Leave (Exit.Ask n cluster)) count)
    (guard_one layout (Asked cluster) (drop d r.queue) (area_bytes r.first) old mid new
    (state_alone layout (Asked cluster) (drop d r.queue) (area_bytes r.first) old mid says c.store_state.ensures.others) c.guard_area.ensures.frame c.guard_area.ensures.others)
