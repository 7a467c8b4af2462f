use Rattle.std.proofs.Common.{ap, sym, ◌∙◌, arith}
use Rattle.ak_core.specs.Mem.{with_page, put_at}
use Rattle.ak_encls.specs.Enclave.{frame_at}
use Rattle.ak_memory.specs.Granting.{bytes_of, whole_page}
use Rattle.ak_memory.specs.Spots.{accesses_in}
use Rattle.ak_memory.proofs.Granted.{writable_touched}
use Rattle.ak_memory.proofs.Putting.{bytes_with, put_bytes_of, length-put_at}
use Rattle.ak_memory.proofs.accesses.MemoryMem.store_slice.Goals as goal

pub frame_of-frame-requires : goal.frame_of-frame-requires
frame_of-frame-requires c = record { touched = writable_touched (accesses_in c.args.self.now.touched.items) c.args.p.0 c.requires.touched }

pub returns-clause-bytes : goal.returns-clause-bytes
returns-clause-bytes c =
    let e = c.args.self.now.encls in
    let f = c.frame_of-frame.result.0 in
    put_bytes_of e c.put_bytes.new.encls f c.args.p.0 (put_at (frame_at e.frames f) c.args.offset c.args.from.now) c.put_bytes.ensures.frames c.put_bytes.ensures.within
    c.frame_of-frame.ensures.frame
    (length-put_at (frame_at e.frames f) c.args.offset c.args.from.now (omega (arith, c.put_bytes.ensures.whole, c.requires.inside)) ∙ c.put_bytes.ensures.whole)
    ∙ ap (λ bytes. with_page (λ q. whole_page (bytes_of e.frames e.entries q)) c.args.p.0 (put_at bytes c.args.offset c.args.from.now))
    (sym (bytes_with e.frames e.entries f c.args.p.0 c.frame_of-frame.ensures.frame c.put_bytes.ensures.whole))
