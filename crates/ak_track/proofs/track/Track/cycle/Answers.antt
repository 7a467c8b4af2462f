use Rattle.std.proofs.Common.{◌≡◌, ◌+◌, length, ap, sym, ◌∙◌, subst, arith}
use Rattle.std.specs.Prelude.{false}
use Rattle.ak_track.specs.Steps.{cycles_by}
use Rattle.ak_track.specs.Tracking.{Marks, HoldsSteps}
use Rattle.ak_track.proofs.Marked.{any_mark}
use Rattle.ak_track.proofs.MarkedSteps.{waits-incomplete, begun}
use Rattle.ak_track.proofs.track.Track.cycle.Goals as goal

pub returns-then-waits-clause-incomplete : goal.returns-then-waits-clause-incomplete
returns-then-waits-clause-incomplete c = λ lps steps h. sym c.if-waits.true ∙ c.waits.ensures ∙ waits-incomplete c.args.self.now lps steps h

pub returns-clause-incomplete : goal.returns-clause-incomplete
returns-clause-incomplete c = λ lps steps h. sym c.if-waits.false ∙ c.waits.ensures ∙ waits-incomplete c.args.self.now lps steps h

pub returns-clause-ok : goal.returns-clause-ok
returns-clause-ok c = λ lps steps h few.
    let track : Marks = record { lps = c.self.inside.lps; inside = c.self.inside.inside; waiting = c.self.inside.waiting; cycles = c.self.inside.cycles } in
    let was : HoldsSteps track lps steps = subst (λ m. HoldsSteps m lps steps) (sym c.self.view_is) h in
    let none : any_mark track.waiting ≡ false =
    ap (λ (m : Marks). any_mark m.waiting) c.self.view_is ∙ sym c.waits.ensures ∙ c.if-waits.false in
    let grown : c.saturating_add-self-inside.result ≡ length (cycles_by lps steps) + 1 =
    omega (arith, c.saturating_add-self-inside.ensures, was.count, few) in
    begun track lps steps c.saturating_add-self-inside.result was none grown
