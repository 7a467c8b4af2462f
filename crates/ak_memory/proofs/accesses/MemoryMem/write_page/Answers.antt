use Rattle.ak_memory.specs.Spots.{accesses_in}
use Rattle.ak_memory.proofs.Granted.{writable_touched}
use Rattle.ak_memory.proofs.Putting.{put_bytes_of}
use Rattle.ak_memory.proofs.accesses.MemoryMem.write_page.Goals as goal

pub frame_of-frame-requires : goal.frame_of-frame-requires
frame_of-frame-requires c = record { touched = writable_touched (accesses_in c.args.self.now.touched.items) c.args.p.0 c.requires.touched }

pub returns-clause-bytes : goal.returns-clause-bytes
returns-clause-bytes c =
    put_bytes_of c.args.self.now.encls c.put_page.new.encls c.frame_of-frame.result.0 c.args.p.0 c.args.from.now c.put_page.ensures.frames c.put_page.ensures.within
    c.frame_of-frame.ensures.frame c.requires.length
