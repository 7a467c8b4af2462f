use Rattle.std.proofs.Common.{◌∷◌, subst, sym, List}
use Rattle.ak_tlb.specs.declared.translation.Translation.{Translation}
use Rattle.ak_tlb.specs.Fills.{HoldsFills, fill_of}
use Rattle.ak_tlb.specs.Translations.{translation_of}
use Rattle.ak_tlb.proofs.Holding.{holds_filled}
use Rattle.ak_tlb.proofs.tlb.Tlb.fill.Goals as goal

pub returns-clause-holds : goal.returns-clause-holds
returns-clause-holds c fills holds =
    let p = c.args.p.0 in
    let k = c.args.k in
    let f = c.args.f.0 in
    let Holds : List Translation → Type 0 = λ list. HoldsFills list (fill_of p k f ∷ fills) in
    subst Holds (sym c.put.ensures) (holds_filled (translation_of p k f) c.args.self.now fills holds)
