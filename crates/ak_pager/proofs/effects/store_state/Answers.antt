use Rattle.ak_pager.proofs.Written.{writable_touched}
use Rattle.ak_pager.proofs.effects.store_state.Goals as goal

pub read_page-requires-clause-touched : goal.read_page-requires-clause-touched
read_page-requires-clause-touched g c =
    rw c.state-page.ensures (writable_touched (g.M.Mem.granted c.args.mem.now) _ c.requires)
