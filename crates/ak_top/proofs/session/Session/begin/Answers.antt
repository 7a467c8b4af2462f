use Rattle.std.proofs.Common.{[], ◌≡◌, ap, sym, ◌∙◌, subst}
use Rattle.std.specs.Prelude.{reverse, zip}
use Rattle.ak_core.specs.Layout.{Layout}
use Rattle.ak_driver.specs.Notes.{Notes}
use Rattle.ak_model.specs.Paging.Histories.{History}
use Rattle.ak_machine.specs.Machines.{Parts}
use Rattle.ak_top.specs.Follows.{past_of}
use Rattle.ak_top.proofs.session.Session.begin.Goals as goal

pub returns-clause-stands : goal.returns-clause-stands
returns-clause-stands c image built =
    let run = c.in_ok-run.run' in
    let empty : past_of run.journal ≡ [] = ap (λ moves. reverse (zip moves run.journal.answers)) c.in_ok-run.ensures.moves in
    let same : c.layout.result.now ≡ run.machine.layout = c.layout.ensures ∙ ap (λ (machine : Parts). machine.layout) (sym c.in_ok-run.ensures.machine) in
    let N : Layout → History → Type 0 = λ layout past. Notes c.in_ok-driver.driver layout past in
    record {
      faithful = c.in_ok-run.ensures.faithful image built;
      told = subst (λ layout. N layout (past_of run.journal)) same (subst (N c.layout.result.now) (sym empty) c.in_ok-driver.ensures);
    }
