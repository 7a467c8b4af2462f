use Rattle.std.proofs.Common.{Some, None, ◌∙◌}
use Rattle.ak_measure.proofs.Names.{allows-named}
use Rattle.ak_measure.proofs.signers.Signers.allows.Goals as goal

pub returns-in-Some : goal.returns-in-Some
returns-in-Some c =
    c.contains.ensures
    ∙ allows-named (λ s. s.keys) c.args.name.now c.args.digest.now c.self.inside.digests.entries c.args.self.now (Some c.in-Some.digests.now) c.self.view_is c.in-Some.ensures.value

pub returns-in-None : goal.returns-in-None
returns-in-None c =
    allows-named (λ s. s.keys) c.args.name.now c.args.digest.now c.self.inside.digests.entries c.args.self.now None c.self.view_is c.in-None.ensures.value
