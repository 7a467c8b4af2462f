use Rattle.std.proofs.Common.{◌++◌, ◌*◌, ℕ, ap, sym, ◌∙◌, subst}
use Rattle.ak_measure.specs.Absorbed.{HasAbsorbed}
use Rattle.ak_measure.specs.Blocks.{page_blocks}
use Rattle.ak_measure.specs.declared.measurement.Measure.{Measure}
use Rattle.ak_encls.specs.Enclave.{Enclave}
use Rattle.ak_encls.proofs.encls.Encls.add_page.Goals as goal

pub returns-clause-measure : goal.returns-clause-measure
returns-clause-measure c = λ absorbed was.
    let bytes = c.args.bytes.now in
    let same = ap (λ (e : Enclave). e.measure) (c.self.view_is ∙ c.put_page.ensures.rest) in
    let before : HasAbsorbed c.self.inside.measure absorbed = subst (λ (m : Measure). HasAbsorbed m absorbed) (sym same) was in
    let at_offset : ℕ → Type 0 = λ n. HasAbsorbed c.add_page.new.self (absorbed ++ page_blocks n c.secinfo.result bytes) in
    let with_flags : ℕ → Type 0 = λ flags. HasAbsorbed c.add_page.new.self (absorbed ++ page_blocks (4096 * c.args.p.0) flags bytes) in
    subst with_flags c.secinfo.ensures (subst at_offset c.offset_of.ensures (c.add_page.ensures absorbed before))
