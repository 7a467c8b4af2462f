use Rattle.std.proofs.Common.{◌∷◌, sym, subst, if◌then◌else◌}
use Rattle.ak_tlb.specs.Fills.{HoldsFills}
use Rattle.ak_tlb.specs.Translations.{translation_of}
use Rattle.ak_memory.specs.Granting.{NamesPages}
use Rattle.ak_memory.specs.Spots.{spot_fill}
use Rattle.ak_memory.proofs.Cached.{filled_named}
use Rattle.ak_memory.proofs.caching.fill_if_walked.Goals as goal

pub returns-then-spot-clause-holds : goal.returns-then-spot-clause-holds
returns-then-spot-clause-holds c = λ fills h.
    let spot = c.args.spot.now in
    subst (λ b. HoldsFills c.fill.new.self (if b then spot_fill spot ∷ fills else fills)) (sym c.if-spot.true) (c.fill.ensures.holds fills h)

pub returns-then-spot-clause-named : goal.returns-then-spot-clause-named
returns-then-spot-clause-named c = λ entries named all.
    let spot = c.args.spot.now in
    subst (NamesPages entries) (sym c.fill.ensures.listed)
    (filled_named entries (translation_of spot.access.page.0 spot.access.kind spot.frame.0) c.args.tlb.now named all)
