use Rattle.std.proofs.Common.{◌<◌, length, ap, sym, arith}
use Rattle.std.proofs.lemmas.Bool.{ltb-true}
use Rattle.ak_sealed.specs.Shown.{shown_page}
use Rattle.ak_sealed.proofs.Discarded.{without_one}
use Rattle.ak_sealed.proofs.sealed.Sealed.discard.Goals as goal

pub returns-in-Some-Some-clause-sealed_page : goal.returns-in-Some-Some-clause-sealed_page
returns-in-Some-Some-clause-sealed_page c = λ k.
    let there : c.args.h.0 < length c.deref.result.now = ltb-true _ _ (sym c.in-Some-Some.ensures.lookup.0) in
    let within : c.args.h.0 < length c.self.inside.pages.items = omega (arith, there, ap length c.deref.ensures.value) in
    rw (← c.self.view_is) (without_one shown_page c.self.inside.pages.items c.args.h.0 k within)
