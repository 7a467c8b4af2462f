use Rattle.std.proofs.Common.{ap, get_or, sym, ◌∙◌}
use Rattle.ak_memory.proofs.Putting.{bytes_with}
use Rattle.ak_memory.proofs.accesses.MemoryMem.load.Goals as goal

pub returns : goal.returns
returns c =
    let e = c.args.self.now.encls in
    ap (λ bytes. get_or bytes c.args.offset 0)
    (c.bytes_in.ensures.bytes
    ∙ sym (bytes_with e.frames e.entries c.frame_of-frame.result.0 c.args.p.0 c.frame_of-frame.ensures.frame c.bytes_in.ensures.whole))
