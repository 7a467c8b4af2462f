use Rattle.std.proofs.Common.{replicate, sym, ◌∙◌, subst}
use Rattle.std.proofs.lemmas.Bool.{false≢true}
use Rattle.ak_track.specs.Steps.{Cycled}
use Rattle.ak_encls.specs.Building.{HasOnlyCycled}
use Rattle.ak_encls.specs.Enclave.{Enclave}
use Rattle.ak_encls.proofs.Alone.{complete_alone}
use Rattle.ak_encls.proofs.encls.Encls.cycle_alone.Goals as goal

pub unreachable-requires : goal.unreachable-requires
unreachable-requires c =
    let was : HasOnlyCycled c.self.inside.track = subst (λ (e : Enclave). HasOnlyCycled e.track) (sym c.self.view_is) c.requires.unentered in
    let track = c.self.inside.track in
    false≢true (sym (complete_alone track.lps track.cycles) ∙ sym (c.in-Err.ensures.incomplete track.lps (replicate track.cycles Cycled) was))
