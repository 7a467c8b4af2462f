use Rattle.ak_gen.proofs.Wholeness.{generated-parts, parts-whole}
use Rattle.ak_gen.proofs.generator.generate.Goals as goal

pub from_parts-requires : goal.from_parts-requires
from_parts-requires c =
    parts-whole c.args.number c.in-Ok.perms.items c.in-Ok-clusters_of.clusters.items c.in-Ok-bytes_of.bytes.items c.in-Ok.ensures c.in-Ok-clusters_of.ensures c.in-Ok-bytes_of.ensures

pub returns : goal.returns
returns c = rw (← generated-parts c.args.number c.in-Ok.perms.items c.in-Ok-clusters_of.clusters.items c.in-Ok-bytes_of.bytes.items c.in-Ok.ensures c.in-Ok-clusters_of.ensures c.in-Ok-bytes_of.ensures) c.from_parts.ensures
