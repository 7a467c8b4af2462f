use Rattle.ak_image.proofs.Sizes.{enclave_size-power}
use Rattle.ak_image.proofs.numbers.enclave_size.Goals as goal

pub returns : goal.returns
returns c =
    enclave_size-power c.args.pages c.next_power_of_two.result c.next_power_of_two.ensures.power c.next_power_of_two.ensures.lower_bound c.next_power_of_two.ensures.upper_bound c.requires
