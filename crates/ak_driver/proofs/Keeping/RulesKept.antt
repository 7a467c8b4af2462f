-- An honest run keeps all rules of a well-behaved kernel, and evicts.
use Rattle.std.proofs.Common.{◌≡◌, List, [], ◌∷◌, refl}
use Rattle.std.specs.Prelude.{Bool, true, All}
use Rattle.std.specs.List.{list_all}
use Rattle.std.proofs.lemmas.Bool.{and_from}
use Rattle.std.proofs.lemmas.List.Elements.{All-head, All-tail}
use Rattle.ak_core.specs.Layout.{Layout}
use Rattle.ak_core.specs.declared.event.Event.{Event}
use Rattle.ak_core.specs.declared.moves.Move.{Move}
use Rattle.std.specs.Prelude.{ℕ}
use Rattle.ak_model.specs.Control.Trace.{Moment}
use Rattle.ak_model.specs.Control.Moments.{moments}
use Rattle.ak_model.specs.Kernels.KernelRules.{keeps_mapped, keeps_fetched, Honours}
use Rattle.ak_model.specs.Kernels.Evictions.{keeps_out, Evicts}
use Rattle.ak_driver.specs.HonestRuns.{IsHonestRun}
use Rattle.ak_driver.proofs.Invariant.HonestMoments.{HonestAt}
use Rattle.ak_driver.proofs.Driving.AllRuns.{all_moments, all_patient}
use Rattle.ak_driver.proofs.Keeping.KeptMapped.{keeps_in}
use Rattle.ak_driver.proofs.Keeping.KeptOut.{keeps_others_out}
use Rattle.ak_driver.proofs.Keeping.KeptFetched.{keeps_what_is_fetched}

-- a test that each honest moment passes all of them pass
all_pass : (layout : Layout) (test : Moment → Bool) → ((moment : Moment) → HonestAt layout moment → test moment ≡ true) → (all : List Moment) → All (HonestAt layout) all → list_all test all ≡ true
all_pass layout test h [] all = refl
all_pass layout test h (moment ∷ more) all =
    and_from (test moment) (list_all test more) (h moment (All-head (HonestAt layout) moment more all)) (all_pass layout test h more (All-tail (HonestAt layout) moment more all))

module _ (layout : Layout) (tape : List Event) (inputs : List ℕ) (moves : List Move) (run : IsHonestRun layout tape inputs moves) where
  each_honest : All (HonestAt layout) (moments layout tape moves)
  each_honest = all_moments layout run.valid run.roomy tape run.misses run.unbroken inputs moves run.driven

  pub honours : Honours layout tape moves
  honours = record {
    mapped = all_pass layout (keeps_mapped layout) (λ k h. keeps_in layout k.past k.control h.0.spot h.0.rest h.0.states h.1 h.0.holds) (moments layout tape moves) each_honest;
    fetched = all_pass layout (keeps_fetched layout) (λ k h. keeps_what_is_fetched layout k.past k.control h.0.rest h.0.states h.1 h.0.spot h.0.holds) (moments layout tape moves) each_honest;
    resumed = all_patient layout run.valid run.roomy tape run.misses run.unbroken inputs moves run.driven;
  }

  pub evicts : Evicts layout tape moves
  evicts = all_pass layout (keeps_out layout) (λ k h. keeps_others_out layout k.past k.control h.0.spot h.0.rest h.0.states h.1 h.0.holds) (moments layout tape moves) each_honest
