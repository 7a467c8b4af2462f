use Rattle.ak_image.proofs.Sizes.{enclave_size-positive, no_base-large}
use Rattle.ak_image.proofs.numbers.base_for.Goals as goal

pub returns-then-pages : goal.returns-then-pages
returns-then-pages c = no_base-large c.args.pages c.args.number c.if-pages.true

pub nonzero_rem-base : goal.nonzero_rem-base
nonzero_rem-base c = rw c.enclave_size-size.ensures (enclave_size-positive c.args.pages)
