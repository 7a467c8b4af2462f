use Rattle.std.proofs.Common.{◌≡◌, ℕ, true, ◌+◌, ◌/◌, ◌%◌, ◌<◌, length, get_or, refl, ap, subst, ◌∙◌, arith}
use Rattle.std.specs.Prelude.{slice_set}
use lib.Seq.{paste}
use Rattle.ak_core.specs.Mem.{with_page, put_at}
use Rattle.ak_model.specs.Flat.FlatRuns.{overwrite}
use Rattle.ak_exec.specs.Turns.{Shows}
use Rattle.ak_exec.proofs.Paged.{stored_more, stored_all, long_enough, shows_same}
use Rattle.ak_exec.proofs.Within.{stored_within}
use Rattle.ak_exec.proofs.Unwritten.{unwritten_more}
use Rattle.ak_exec.proofs.operands.store_bytes.Goals as goal

pub loop-i-preserved : goal.loop-i-preserved
loop-i-preserved g c = record {
  holds = c.store.ensures.holds ∙ c.loop-i.invariant.holds;
  keeps = g.met.M.Mem.keeps_on c.args.mem.now c.loop-i.mem c.store.new.self c.loop-i.invariant.keeps c.store.ensures.keeps;
  granted = c.store.ensures.granted ∙ c.loop-i.invariant.granted;
  refused = c.store.ensures.refused ∙ c.loop-i.invariant.refused;
  unwritten = unwritten_more (g.M.Mem.granted c.args.mem.now) (g.M.Mem.bytes c.args.mem.now) (g.M.Mem.bytes c.loop-i.mem) (g.M.Mem.bytes c.store.new.self) ((c.args.place + c.loop-i.i) / 4096) _
      (c.requires.touched c.loop-i.i c.loop-i-test.true) c.store.ensures.bytes c.loop-i.invariant.unwritten;
  shows = λ layout flat room shows.
      let p = (c.args.place + c.loop-i.i) / 4096 in
      let long = long_enough layout (g.M.Mem.holds c.args.mem.now) (g.M.Mem.bytes c.args.mem.now) flat p shows (g.M.Mem.whole c.args.mem.now p) (omega arith) (c.requires.held c.loop-i.i c.loop-i-test.true) in
      let room_here : c.args.place + c.loop-i.i < length flat.bytes = omega arith in
      shows_same layout (g.M.Mem.holds c.loop-i.mem) (g.M.Mem.holds c.store.new.self)
      (with_page (g.M.Mem.bytes c.loop-i.mem) p (slice_set (g.M.Mem.bytes c.loop-i.mem p) ((c.args.place + c.loop-i.i) % 4096) (get_or c.args.bytes.now c.loop-i.i 0))) (g.M.Mem.bytes c.store.new.self)
      (record flat { bytes = paste flat.bytes c.args.place c.args.bytes.now (c.loop-i.i + 1) }) c.store.ensures.holds c.store.ensures.bytes
      (stored_more layout (g.M.Mem.holds c.loop-i.mem) (g.M.Mem.bytes c.loop-i.mem) flat c.args.place c.args.bytes.now c.loop-i.i (get_or c.args.bytes.now c.loop-i.i 0)
      (c.loop-i.invariant.shows layout flat room shows) refl c.loop-i-test.true room_here);
}

pub returns-clause-shows : goal.returns-clause-shows
returns-clause-shows g c layout flat room shows =
    let all : c.loop-i.i ≡ length c.args.bytes.now = omega arith in
    let P : ℕ → Type 0 = λ n. Shows layout (g.M.Mem.holds c.loop-i.mem) (g.M.Mem.bytes c.loop-i.mem) (record flat { bytes = paste flat.bytes c.args.place c.args.bytes.now n }) in
    stored_all layout (g.M.Mem.holds c.loop-i.mem) (g.M.Mem.bytes c.loop-i.mem) flat c.args.place c.args.bytes.now
    (subst P all (c.loop-i.invariant.shows layout flat room shows))

pub returns-then-from-bytes-clause-shows : goal.returns-then-from-bytes-clause-shows
returns-then-from-bytes-clause-shows g c layout flat room shows =
    let p = c.args.place / 4096 in
    let old = g.M.Mem.bytes c.args.mem.now in
    let holds = g.M.Mem.holds c.args.mem.now in
    let held : holds p ≡ true = ap (λ (k : ℕ). holds (k / 4096)) (omega arith) ∙ c.requires.held 0 (omega arith) in
    let long = long_enough layout holds old flat p shows (g.M.Mem.whole c.args.mem.now p) (omega arith) held in
    shows_same layout holds (g.M.Mem.holds c.store_slice.new.self)
    (with_page old p (put_at (old p) (c.args.place % 4096) c.args.bytes.now)) (g.M.Mem.bytes c.store_slice.new.self)
    (record flat { bytes = overwrite flat.bytes c.args.place c.args.bytes.now }) c.store_slice.ensures.holds c.store_slice.ensures.bytes
    (stored_within layout holds old flat c.args.place c.args.bytes.now (omega arith) (g.M.Mem.whole c.args.mem.now p) (omega arith) shows)
