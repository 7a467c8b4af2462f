use Rattle.std.proofs.Common.{◌∙◌}
use Rattle.ak_measure.proofs.Names.{knows-named}
use Rattle.ak_measure.proofs.signers.Signers.knows.Goals as goal

pub returns : goal.returns
returns c = c.contains_key.ensures ∙ knows-named (λ s. s.keys) c.args.name.now c.self.inside.digests.entries c.args.self.now c.self.view_is
