use Rattle.std.proofs.Common.{◌≡◌, true, Some, IfOk, List, ℕ, Option, sym, ap, ◌∙◌, subst}
use Rattle.std.specs.Option.{IfSome}
use Rattle.std.specs.Result.{IfOk}
use Rattle.ak_measure.specs.Collected.{digest_at, digests_at}
use Rattle.ak_measure.specs.Signers.{repeats}
use Rattle.ak_measure.specs.Stages.{each_of}
use Rattle.ak_measure.proofs.SpelledDigests.{digests_of-Array}
use Rattle.ak_measure.proofs.digests.digests_of.Goals as goal

pub distinct_digests-requires : goal.distinct_digests-requires
distinct_digests-requires c =
    let same : digests_at c.args.value ≡ each_of digest_at c.deref.result.now =
    digests_of-Array c.args.value c.in-Array.items c.in-Array.is ∙ ap (each_of digest_at) (sym c.deref.ensures.value) in
    rw same at c.requires

pub returns-clause-read : goal.returns-clause-read
returns-clause-read c =
    let same : digests_at c.args.value ≡ each_of digest_at c.deref.result.now =
    digests_of-Array c.args.value c.in-Array.items c.in-Array.is ∙ ap (each_of digest_at) (sym c.deref.ensures.value) in
    subst (λ (o : Option (List (List ℕ))). IfOk c.distinct_digests.result (λ digests. o ≡ Some digests.keys)) (sym same) c.distinct_digests.ensures.read

pub returns-clause-repeated : goal.returns-clause-repeated
returns-clause-repeated c repeated =
    let same : digests_at c.args.value ≡ each_of digest_at c.deref.result.now =
    digests_of-Array c.args.value c.in-Array.items c.in-Array.is ∙ ap (each_of digest_at) (sym c.deref.ensures.value) in
    subst (λ (o : Option (List (List ℕ))). IfSome o (λ ds. repeats ds ≡ true)) (sym same) (c.distinct_digests.ensures.repeated repeated)
