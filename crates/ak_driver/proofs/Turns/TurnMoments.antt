-- The invariant holds before each turn of a run of processor 0.
use Rattle.std.proofs.Common.{◌≡◌, ℕ, List, [], ◌∷◌, reverse, sym, ◌∙◌, subst}
use Rattle.std.specs.Prelude.{true, All}
use Rattle.std.proofs.lemmas.List.Elements.{All-nil, All-cons, All-map, All-weaker}
use Rattle.ak_core.specs.Layout.{Layout, IsValid}
use Rattle.ak_core.specs.declared.moves.Move.TheVariants.{Run}
use Rattle.ak_model.specs.Paging.Pages.{cluster_at}
use Rattle.ak_model.specs.Paging.Histories.{History}
use Rattle.ak_model.specs.Paging.Inside.{inside}
use Rattle.ak_model.specs.Clusters.Queue.{is_in}
use Rattle.ak_model.specs.Control.ControlState.{Control}
use Rattle.ak_model.specs.Control.Runs.{before_turns}
use Rattle.ak_model.specs.Control.Moments.{turn_moments}
use Rattle.ak_model.specs.Kernels.Counted.{service}
use Rattle.ak_model.specs.Laws.OneLiveCopy.{OneCopy}
use Rattle.ak_model.specs.Laws.Orderly.{IsOrderly}
use Rattle.ak_model.proofs.Paging.Tests.{All-reverse}
use Rattle.ak_driver.proofs.Invariant.PageStates.{PageState}
use Rattle.ak_driver.proofs.Invariant.Spots.{Spot, Progress, is_within}
use Rattle.ak_driver.proofs.Invariant.HonestMoments.{IsHonest, HonestAt, MayBe, AreApart, dropped_for}
use Rattle.ak_driver.proofs.Invariant.TurnsLead.{GoesOn}
use Rattle.ak_driver.proofs.Turns.EnteringMoves.{within_resumable}
use Rattle.ak_driver.proofs.Turns.RunMove.{within_going}
use Rattle.ak_driver.proofs.Turns.TurnsHold.{EachGoes, turns_hold}

each_goes : (spot : Spot) (rest : Progress) (controls : List Control) → EachGoes spot rest controls → All (GoesOn spot rest) controls
each_goes spot rest [] h = All-nil (GoesOn spot rest)
each_goes spot rest (control ∷ controls) h = All-cons (GoesOn spot rest) control controls h.0 (each_goes spot rest controls h.1)

module _ (layout : Layout) (past : History) (control : Control) (spot : Spot) (rest : Progress) (states : ℕ → PageState) (old : IsHonest layout past control spot rest states) (within : is_within spot ≡ true) (copies : OneCopy layout past) where
  -- before a turn all is as before the run but the control state
  turn_honest : (next : Control) → GoesOn spot rest next → HonestAt layout (record { past = past; control = next })
  turn_honest next g = (
    record {
      spot = g.next;
      rest = g.after;
      states = states;
      holds = record {
        control_is = g.control_is;
        inside_is = λ lp. let i = old.inside_is lp in let w = within in let v = g.within in rw v (rw w at i);
        stands = old.stands;
        fits = λ p low. subst (λ q. MayBe g.next (is_in q (cluster_at layout p)) (is_in (dropped_for (service past).request) (cluster_at layout p)) (cluster_at layout p) (states p)) (sym g.queue) (g.fits (is_in rest.queue (cluster_at layout p)) (is_in (dropped_for (service past).request) (cluster_at layout p)) (cluster_at layout p) (states p) (old.fits p low));
        apart = subst (λ q. AreApart g.next q (dropped_for (service past).request)) (sym g.queue) (g.apart rest.queue (dropped_for (service past).request) old.apart);
        closed = λ a. old.closed (sym g.asking ∙ a);
        waits = λ a. absurd (within_resumable g.next g.within a);
        unstopped = old.unstopped;
        going = old.going ∙ within_going spot within ∙ sym (within_going g.next g.within);
        unbroken = g.unbroken;
        granted = old.granted;
      };
    },
    copies,
  )

  module _ (valid : IsValid layout) (so_far : List ℕ) (orderly : IsOrderly layout so_far true control) (counted : (service past).queue ≡ rest.queue) where
    turns_go : (n : ℕ) → EachGoes spot rest (before_turns layout past n control)
    turns_go n =
        subst (λ c. EachGoes spot rest (before_turns layout past n c)) (sym old.control_is)
        (turns_hold layout past states valid copies old.stands (service past) n spot rest so_far within counted old.unbroken old.fits (subst (λ c. IsOrderly layout so_far true c) old.control_is orderly))

    pub run_turns : (n : ℕ) → All (HonestAt layout) (turn_moments layout (record { past = past; control = control }) (Run (record { 0 = 0 }) n))
    run_turns n =
        let i : inside past 0 ≡ true = let i = old.inside_is 0 in let w = within in rw w at i in
        let controls : List Control = before_turns layout past n control in
        let each : All (λ next. HonestAt layout (record { past = past; control = next })) controls =
        All-weaker (GoesOn spot rest) (λ next. HonestAt layout (record { past = past; control = next })) turn_honest controls (each_goes spot rest controls (turns_go n)) in
        let all = All-map (HonestAt layout) (λ next. record { past = past; control = next }) (reverse controls) (All-reverse (λ next. HonestAt layout (record { past = past; control = next })) controls each) in
        rw i all
