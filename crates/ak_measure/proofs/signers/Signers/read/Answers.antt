use Rattle.std.proofs.Common.{◌≡◌, ◌⊎◌, inl, inr, refl, Result, Ok, Err, sym, ap, subst, ◌∙◌}
use Rattle.std.specs.Result.{IfErr}
use Rattle.ak_measure.specs.Signers.{Signed, IsReason, IsRefusedFor}
use Rattle.ak_measure.specs.Collected.{named}
use Rattle.ak_measure.specs.declared.fault.SignersFault.{SignersFault}
use Rattle.ak_measure.specs.declared.fault.SignersFault.TheVariants.{Repeated, OutOfMemory}
use Rattle.ak_measure.proofs.ReadSigners.{signers_of-bad_key, signers_of-bad_digest, signers_of-signers, signers_of-repeated}
use Rattle.ak_measure.proofs.NamesInOrder.{Ascend-named}
use Rattle.ak_measure.proofs.signers.Signers.read.Goals as goal

abbrev Spelled : Type 0
Spelled = Result Signed SignersFault

-- the answer is that fault
refused_for : (spelled : Spelled) (fault : SignersFault) → spelled ≡ Err fault → IfErr spelled (IsRefusedFor (Err fault))
refused_for spelled fault is = subst (λ s. IfErr s (IsRefusedFor (Err fault))) (sym is) (inl refl)

-- memory ran out
out_of_memory : (spelled : Spelled) → IfErr spelled (IsRefusedFor (Err OutOfMemory))
out_of_memory (Ok signers) = tt
out_of_memory (Err fault) = inr refl

module _ (spelled : Spelled) (fault : SignersFault) (repeated : fault ≡ Repeated → spelled ≡ Err Repeated) where
  reason : (fault ≡ Repeated) ⊎ (fault ≡ OutOfMemory) → IsReason spelled fault
  reason (inl is) = subst (IsReason spelled) (sym is) (repeated is)
  reason (inr is) = subst (IsReason spelled) (sym is) tt

  refused : (fault ≡ Repeated) ⊎ (fault ≡ OutOfMemory) → IfErr spelled (IsRefusedFor (Err fault))
  refused (inl is) = refused_for spelled fault (repeated is ∙ ap Err (sym is))
  refused (inr is) = subst (λ f. IfErr spelled (IsRefusedFor (Err f))) (sym is) (out_of_memory spelled)

pub returns-then-not-all_are_arrays_of_strings-clause-refused : goal.returns-then-not-all_are_arrays_of_strings-clause-refused
returns-then-not-all_are_arrays_of_strings-clause-refused c =
    signers_of-bad_key c.args.bytes.now c.in-Ok.document.entries c.in-Ok.ensures.read (sym c.all_are_arrays_of_strings.ensures ∙ c.if-not-all_are_arrays_of_strings.true)

pub returns-then-not-all_are_arrays_of_strings-clause-refuses : goal.returns-then-not-all_are_arrays_of_strings-clause-refuses
returns-then-not-all_are_arrays_of_strings-clause-refuses c =
    refused_for _ _ (signers_of-bad_key c.args.bytes.now c.in-Ok.document.entries c.in-Ok.ensures.read (sym c.all_are_arrays_of_strings.ensures ∙ c.if-not-all_are_arrays_of_strings.true))

pub returns-then-not-all_are_arrays_of_digests-clause-refused : goal.returns-then-not-all_are_arrays_of_digests-clause-refused
returns-then-not-all_are_arrays_of_digests-clause-refused c =
    signers_of-bad_digest c.args.bytes.now c.in-Ok.document.entries c.in-Ok.ensures.read (sym c.all_are_arrays_of_strings.ensures ∙ c.if-not-all_are_arrays_of_strings.false)
    (sym c.all_are_arrays_of_digests.ensures ∙ c.if-not-all_are_arrays_of_digests.true)

pub returns-then-not-all_are_arrays_of_digests-clause-refuses : goal.returns-then-not-all_are_arrays_of_digests-clause-refuses
returns-then-not-all_are_arrays_of_digests-clause-refuses c =
    refused_for _ _ (signers_of-bad_digest c.args.bytes.now c.in-Ok.document.entries c.in-Ok.ensures.read (sym c.all_are_arrays_of_strings.ensures ∙ c.if-not-all_are_arrays_of_strings.false)
    (sym c.all_are_arrays_of_digests.ensures ∙ c.if-not-all_are_arrays_of_digests.true))

pub returns-in-Ok-by_name-clause-read : goal.returns-in-Ok-by_name-clause-read
returns-in-Ok-by_name-clause-read c =
    signers_of-signers c.args.bytes.now c.in-Ok.document.entries c.in-Ok.ensures.read (sym c.all_are_arrays_of_strings.ensures ∙ c.if-not-all_are_arrays_of_strings.false)
    (named (λ s. s.keys) c.in-Ok-by_name.digests.entries) c.in-Ok-by_name.ensures.read c.in-Ok-by_name.ensures.distinct

pub returns-in-Ok-by_name-clause-refuses : goal.returns-in-Ok-by_name-clause-refuses
returns-in-Ok-by_name-clause-refuses c =
    let signers = named (λ s. s.keys) c.in-Ok-by_name.digests.entries in
    let read = signers_of-signers c.args.bytes.now c.in-Ok.document.entries c.in-Ok.ensures.read (sym c.all_are_arrays_of_strings.ensures ∙ c.if-not-all_are_arrays_of_strings.false)
    signers c.in-Ok-by_name.ensures.read c.in-Ok-by_name.ensures.distinct in
    subst (λ (s : Spelled). IfErr s (IsRefusedFor (Ok signers))) (sym read) tt

pub returns-in-Err-clause-refused : goal.returns-in-Err-clause-refused
returns-in-Err-clause-refused c =
    reason _ _
    (λ is. signers_of-repeated c.args.bytes.now c.in-Ok.document.entries c.in-Ok.ensures.read (sym c.all_are_arrays_of_strings.ensures ∙ c.if-not-all_are_arrays_of_strings.false)
    (sym c.all_are_arrays_of_digests.ensures ∙ c.if-not-all_are_arrays_of_digests.false) (c.in-Err.ensures.repeated (ap Err is)))
    c.in-Err.ensures.only

pub returns-in-Err-clause-refuses : goal.returns-in-Err-clause-refuses
returns-in-Err-clause-refuses c =
    refused _ _
    (λ is. signers_of-repeated c.args.bytes.now c.in-Ok.document.entries c.in-Ok.ensures.read (sym c.all_are_arrays_of_strings.ensures ∙ c.if-not-all_are_arrays_of_strings.false)
    (sym c.all_are_arrays_of_digests.ensures ∙ c.if-not-all_are_arrays_of_digests.false) (c.in-Err.ensures.repeated (ap Err is)))
    c.in-Err.ensures.only

pub returns-in-Ok-by_name-clause-ascending : goal.returns-in-Ok-by_name-clause-ascending
returns-in-Ok-by_name-clause-ascending c = Ascend-named (λ s. s.keys) c.in-Ok-by_name.digests.entries c.in-Ok-by_name.ensures.ordered
