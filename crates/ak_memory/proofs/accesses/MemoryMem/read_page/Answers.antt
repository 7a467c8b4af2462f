use Rattle.std.proofs.Common.{sym, ◌∙◌}
use Rattle.ak_memory.proofs.Putting.{bytes_with}
use Rattle.ak_memory.proofs.accesses.MemoryMem.read_page.Goals as goal

pub returns : goal.returns
returns c =
    let e = c.args.self.now.encls in
    c.copy_from_slice.ensures.after ∙ c.bytes_in.ensures.bytes
    ∙ sym (bytes_with e.frames e.entries c.frame_of-frame.result.0 c.args.p.0 c.frame_of-frame.ensures.frame c.bytes_in.ensures.whole)
