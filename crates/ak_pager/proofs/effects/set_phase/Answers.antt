use Rattle.ak_model.specs.Paging.Pages.{state_page}
use Rattle.ak_pager.proofs.Written.{writable_touched}
use Rattle.ak_pager.proofs.effects.set_phase.Goals as goal

pub load_state-state-requires-clause-touched : goal.load_state-state-requires-clause-touched
load_state-state-requires-clause-touched g c = writable_touched (g.M.Mem.granted c.args.mem.now) (state_page c.args.layout.now) c.requires.state
