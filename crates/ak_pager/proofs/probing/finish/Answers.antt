use Rattle.std.proofs.Common.{◌≡◌, ◌++◌, [], ◌∷◌, refl, ap, sym, subst, ◌∙◌, arith}
use Rattle.ak_model.specs.Clusters.Queue.{is_in}
use Rattle.ak_model.specs.Control.ControlState.{Phase, Running, Asked}
use Rattle.ak_model.specs.Paging.Pages.{state_page}
use Rattle.ak_ssa.specs.SavedFrames.{SavedFrame, NoCause, why_of}
use Rattle.ak_core.specs.declared.moves.Exit.{Exit}
use Rattle.ak_pager.specs.declared.turn.RtTurn.{RtTurn}
use Rattle.ak_pager.specs.Rows.{kept_bytes, finish_row}
use Rattle.ak_pager.specs.StepsTo.{HasState, IsAskedFor, ReadsKept, Performs}
use Rattle.ak_pager.proofs.StepReads.{few_clusters}
use Rattle.ak_pager.proofs.Changing.{area_first, performs}
use Rattle.ak_pager.proofs.probing.finish.Goals as goal

pub append-requires-clause-known : goal.append-requires-clause-known
append-requires-clause-known g c =
    let layout = c.args.layout.now in
    let r = c.requires.reads.0 in
    let its = c.requires.reads.1 in
    let asked = subst (λ (p : Phase). IsAskedFor layout r.queue p) c.requires.reads.2 its.asked in
    let low = asked.0 in
    omega (arith, low, few_clusters layout c.requires.valid)

pub append-requires-clause-out : goal.append-requires-clause-out
append-requires-clause-out g c =
    let layout = c.args.layout.now in
    let r = c.requires.reads.0 in
    let its = c.requires.reads.1 in
    let asked = subst (λ (p : Phase). IsAskedFor layout r.queue p) c.requires.reads.2 its.asked in
    ap (λ q. is_in q c.args.cluster) (c.load_state-state.ensures.queue r.queue its.queue) ∙ asked.1

pub returns-clause-row : goal.returns-clause-row
returns-clause-row g c r regs reads asked =
    let layout = c.args.layout.now in
    let cluster = c.args.cluster in
    let old = g.M.Mem.bytes c.args.mem.now in
    let mid = g.M.Mem.bytes c.set_area.new.mem in
    let new = g.M.Mem.bytes c.store_state.new.mem in
    let kept : ReadsKept layout (Asked cluster) (old (state_page layout)) r.kept = subst (λ (p : Phase). ReadsKept layout p (old (state_page layout)) r.kept) asked reads.kept in
    let words = kept.1 in
    let program : SavedFrame = record r.kept { cause = NoCause } in
    let frame = c.set_area.ensures.frame ∙ c.clear_valid.ensures.saved r.kept.regs (why_of layout r.kept.cause) words.sixteen (c.load_state-state.ensures.frame ∙ kept.0) in
    let queue : c.append.new.self ≡ r.queue ++ cluster ∷ [] = c.append.ensures ∙ ap (λ q. q ++ cluster ∷ []) (c.load_state-state.ensures.queue r.queue reads.queue) in
    let bytes : c.load_state-state.result.frame ≡ kept_bytes r.state = c.load_state-state.ensures.frame ∙ ap (λ b. kept_bytes b) (sym reads.state) in
    let says : HasState Running (r.queue ++ cluster ∷ []) (kept_bytes r.state) (new (state_page layout)) =
    subst (λ q. HasState Running q (kept_bytes r.state) (new (state_page layout))) queue
    (subst (λ f. HasState Running c.append.new.self f (new (state_page layout))) bytes c.store_state.ensures.state) in
    subst (λ (p : Phase). Performs layout (finish_row r p) old new (RtTurn.Leave Exit.Ready) regs) (sym asked)
    (performs layout (finish_row r (Asked cluster)) old new (RtTurn.Leave Exit.Ready) regs refl
    (area_first layout Running (r.queue ++ cluster ∷ []) (kept_bytes r.state) program old mid new frame c.set_area.ensures.others says c.store_state.ensures.others))
