use Rattle.std.proofs.Common.{◌≡◌, ◌-◌, if◌then◌else◌, ap, sym, ◌∙◌, arith}
use Rattle.ak_track.specs.Tracking.{Marks}
use Rattle.ak_track.proofs.Marked.{any_mark}
use Rattle.ak_track.proofs.MarkedSteps.{tracked-steps}
use Rattle.ak_track.proofs.track.Track.tracked.Goals as goal
use Rattle.ak_track.proofs.track.Track.tracked.Goals.{then-waits, else-waits}

pub returns : goal.returns
returns c = λ lps steps place h at.
    let track = c.args.self.now in
    let same : c.self.inside.cycles ≡ track.cycles = ap (λ (m : Marks). m.cycles) c.self.view_is in
    let over : c.if-waits.over ≡ (if any_mark track.waiting then track.cycles - 1 else track.cycles) =
    elim c.if-waits.branch [
      | then-waits w ↦ omega (arith, w.over-is, w.saturating_sub-over.ensures, same)
          ∙ ap (λ b. if b then track.cycles - 1 else track.cycles) (sym w.if-waits.true ∙ c.waits.ensures)
      | else-waits w ↦ omega (arith, w.over-is, same)
          ∙ ap (λ b. if b then track.cycles - 1 else track.cycles) (sym w.if-waits.false ∙ c.waits.ensures)
    ] in
    tracked-steps track c.args.stamp lps place c.if-waits.over steps h at over
