use Rattle.std.proofs.Common.{◌+◌, ◌-◌, ◌*◌, ◌∙◌, length, drop, arith, length-drop}
use Rattle.std.proofs.lemmas.List.{length-take-le}
use Rattle.ak_cluster.proofs.Bytes.{put_over, flat_pairs}
use Rattle.ak_cluster.proofs.state_bytes.put_clusters.Goals as goal

pub returns : goal.returns
returns c =
    put_over c.args.state.now c.write_u16_into.new.dst _ 1024 (1024 + 2 * length c.args.queue.now - 1024) (c.write_u16_into.ensures ∙ flat_pairs c.args.queue.now)
    (c.write_u16_into.auto.dst
    ∙ length-take-le (1024 + 2 * length c.args.queue.now - 1024) (drop 1024 c.args.state.now)
    (omega (arith, length-drop 1024 c.args.state.now, c.requires.page, c.requires.few)))
