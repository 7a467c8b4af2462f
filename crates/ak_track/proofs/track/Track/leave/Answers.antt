use Rattle.std.proofs.Common.{◌≡◌, ◌≤◌, ap, sym, ◌∙◌, subst, refl, arith}
use Rattle.std.specs.Prelude.{◌&&◌, false, slice_set}
use Rattle.std.proofs.lemmas.Bool.{le-ltb}
use Rattle.ak_track.specs.Steps.{inside_by}
use Rattle.ak_track.specs.Tracking.{Marks, is_marked, HoldsSteps}
use Rattle.ak_track.proofs.Marked.{marked_set, marked_without}
use Rattle.ak_track.proofs.MarkedSteps.{IsWithout, left}
use Rattle.ak_track.proofs.track.Track.leave.Goals as goal

pub returns-then-lp-self : goal.returns-then-lp-self
returns-then-lp-self c = λ lps steps h.
    let track : Marks = record { lps = c.self.inside.lps; inside = c.self.inside.inside; waiting = c.self.inside.waiting; cycles = c.self.inside.cycles } in
    let was : HoldsSteps track lps steps = subst (λ m. HoldsSteps m lps steps) (sym c.self.view_is) h in
    let q = c.args.lp.0 in
    let inside : IsWithout q track.inside (slice_set track.inside c.from.result false) =
    λ r. ap (λ i. is_marked (slice_set track.inside i false) r) c.from.ensures ∙ marked_set track.inside q r in
    let waiting : IsWithout q track.waiting (slice_set track.waiting c.from-then-lp-self.result false) =
    λ r. ap (λ i. is_marked (slice_set track.waiting i false) r) c.from-then-lp-self.ensures ∙ marked_set track.waiting q r in
    left track _ lps q steps was refl refl inside waiting

pub returns-else-lp-self : goal.returns-else-lp-self
returns-else-lp-self c = λ lps steps h.
    let q = c.args.lp.0 in
    let track = c.args.self.now in
    let same : track.lps ≡ c.self.inside.lps = ap (λ (m : Marks). m.lps) (sym c.self.view_is) in
    let beyond : lps ≤ q = omega (arith, c.if-lp-self.false, same, h.lps_are) in
    let outside : is_marked track.inside q ≡ false = h.inside q ∙ ap (λ b. b && inside_by steps q) (le-ltb q lps beyond) in
    left track track lps q steps h refl refl (λ r. marked_without track.inside q r outside) (λ r. marked_without track.waiting q r (h.none_beyond q beyond))
