use Rattle.std.proofs.Common.{ap, sym, ◌∙◌, slice_set, length-set}
use Rattle.ak_core.specs.Mem.{with_page}
use Rattle.ak_encls.specs.Enclave.{frame_at}
use Rattle.ak_memory.specs.Granting.{bytes_of, whole_page}
use Rattle.ak_memory.specs.Spots.{accesses_in}
use Rattle.ak_memory.proofs.Granted.{writable_touched}
use Rattle.ak_memory.proofs.Putting.{bytes_with, put_bytes_of}
use Rattle.ak_memory.proofs.accesses.MemoryMem.store.Goals as goal

pub frame_of-frame-requires : goal.frame_of-frame-requires
frame_of-frame-requires c = record { touched = writable_touched (accesses_in c.args.self.now.touched.items) c.args.p.0 c.requires.touched }

pub returns-clause-bytes : goal.returns-clause-bytes
returns-clause-bytes c =
    let e = c.args.self.now.encls in
    let f = c.frame_of-frame.result.0 in
    put_bytes_of e c.put_byte.new.encls f c.args.p.0 (slice_set (frame_at e.frames f) c.args.offset c.args.value) c.put_byte.ensures.frames c.put_byte.ensures.within
    c.frame_of-frame.ensures.frame (length-set (frame_at e.frames f) c.args.offset c.args.value ∙ c.put_byte.ensures.whole)
    ∙ ap (λ bytes. with_page (λ q. whole_page (bytes_of e.frames e.entries q)) c.args.p.0 (slice_set bytes c.args.offset c.args.value))
    (sym (bytes_with e.frames e.entries f c.args.p.0 c.frame_of-frame.ensures.frame c.put_byte.ensures.whole))
