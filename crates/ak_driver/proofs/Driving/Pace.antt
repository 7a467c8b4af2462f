-- How many moves stand between a request and the run that follows, and what that run is answered.
use Rattle.std.proofs.Common.{◌≡◌, ◌⊎◌, inl, inr, ℕ, suc, ◌+◌, ◌*◌, ◌<◌, ◌≤◌, List, [], ◌∷◌, ◌++◌, length, arith, refl, sym, ◌∙◌, subst, ap}
use Rattle.std.specs.Prelude.{true, false, not, take, Option, Some, None}
use Rattle.std.specs.List.{list_all}
use Rattle.std.proofs.lemmas.Bool.{and_parts}
use Rattle.ak_core.specs.Layout.{Layout, IsValid}
use Rattle.ak_core.specs.declared.event.Event.{Event}
use Rattle.ak_core.specs.declared.moves.Answer.{Answer}
use Rattle.ak_core.specs.declared.moves.Exit.{Exit}
use Rattle.ak_core.specs.declared.moves.Exit.TheVariants.{Ask}
use Rattle.ak_core.specs.declared.moves.Move.{Move}
use Rattle.ak_core.specs.declared.moves.Move.TheVariants.{Run}
use Rattle.ak_model.specs.Paging.Histories.{History}
use Rattle.ak_model.specs.Paging.Pages.{pages_of}
use Rattle.ak_model.specs.Clusters.Queue.{is_in}
use Rattle.ak_model.specs.Control.ControlState.{Control}
use Rattle.ak_model.specs.Control.Trace.{trace}
use Rattle.ak_model.specs.Kernels.Counted.{Request, service, service_after, IsRequested}
use Rattle.ak_model.specs.Kernels.HonestKernel.{drive, IsDriven}
use Rattle.ak_model.specs.Laws.Premises.{MissesFit}
use Rattle.ak_model.specs.Stops.ShownStop.{has_break}
use Rattle.ak_model.proofs.Control.OneInsideTrace.{counts_right}
use Rattle.ak_driver.specs.HonestRuns.{IsRoomy}
use Rattle.ak_driver.specs.Requests.{answer_after, is_run}
use Rattle.ak_driver.proofs.Invariant.PageStates.{PageState}
use Rattle.ak_driver.proofs.Invariant.Spots.{Begins, Probes, Finishes, Spot, Idle, Entered, InProgram, Leaving, Left, Handling, Requested, Answering, Resumable, Over, Progress, control_at, is_within}
use Rattle.ak_driver.proofs.Invariant.HonestMoments.{IsHonest, dropped_for}
use Rattle.ak_driver.proofs.Invariant.ServingMoves.{leaving_pages, moves_left}
use Rattle.ak_driver.proofs.Serving.MovesLeft.{left_at_most}
use Rattle.ak_driver.proofs.Driving.DrivenMove.{ServesOrAnswers, Made}
use Rattle.ak_driver.proofs.Driving.AllRuns.{all_honest, made, makes}
use Rattle.ak_driver.proofs.Driving.AnswersReady.{answers_ready}

-- the cluster of a request
abbrev cluster_in : Option Request → ℕ
cluster_in None = 0
cluster_in (Some request) = request.cluster

module _ (layout : Layout) (valid : IsValid layout) (roomy : IsRoomy layout) (tape : List Event) (misses : MissesFit layout [] tape) (whole : has_break tape ≡ false) (inputs : List ℕ)
    (before : List Move) (ask : Move) (d c : ℕ) (asked : answer_after layout tape before ask ≡ Answer.Exit (Ask d c)) where
  -- the clusters that are dropped, and the most moves that this takes
  abbrev dropped : List ℕ
  dropped = take d (service (trace layout tape before).past).queue

  abbrev most : ℕ
  most = 3 * length (leaving_pages layout dropped) + 2 * length (pages_of layout c) + 2

  abbrev past_of : List Move → History
  past_of since = (trace layout tape (since ++ ask ∷ before)).past

  abbrev control_of : List Move → Control
  control_of since = (trace layout tape (since ++ ask ∷ before)).control

  -- after these moves since, the request is being served, and so many moves are left
  record Serving (since : List Move) : Type 0 where
    rest : Progress
    states : ℕ → PageState
    holds : IsHonest layout (past_of since) (control_of since) (Requested c) rest states
    request : (service (past_of since)).request ≡ Some (record { dropped = dropped; cluster = c })
    left : length since + moves_left layout dropped c (past_of since) states ≤ most

  -- or a processor has entered
  record Answers (since : List Move) : Type 0 where
    value : ℕ
    rest : Progress
    states : ℕ → PageState
    holds : IsHonest layout (past_of since) (control_of since) (Answering c (Begins value)) rest states
    few : length since ≤ most

  -- ---- At the request

  first_serving : (spot : Spot) (rest : Progress) (states : ℕ → PageState) → IsHonest layout (past_of []) (control_of []) spot rest states → is_within spot ≡ false
      → (service (past_of [])).request ≡ Some (record { dropped = dropped; cluster = c }) → Serving []
  first_serving (Requested x) rest states old out request =
      let counts = counts_right layout tape (ask ∷ before) in
      let told : IsRequested (control_at (Requested x) rest).phase (service (past_of [])).request = subst (λ k. IsRequested k.phase (service (past_of [])).request) old.control_is counts.requested in
      let same : x ≡ c = ap cluster_in (sym told.1 ∙ request) in
      let here : IsHonest layout (past_of []) (control_of []) (Requested c) rest states = subst (λ y. IsHonest layout (past_of []) (control_of []) (Requested y) rest states) same old in
      let apart : is_in dropped c ≡ false = subst (λ o. is_in (dropped_for o) c ≡ false) request here.apart.1 in
      let l = left_at_most layout dropped c (past_of []) states apart in
      record { rest = rest; states = states; holds = here; request = request; left = let e : 0 + moves_left layout dropped c (past_of []) states ≤ most = omega arith in e }
  first_serving (Answering x step) rest states old out request = absurd (cc)
  first_serving (Idle called) rest states old out request = absurd (let a = old.closed refl in let z : None ≡ Some (record { dropped = dropped; cluster = c }) = sym a ∙ request in cc)
  first_serving (Entered called v) rest states old out request = absurd (cc)
  first_serving InProgram rest states old out request = absurd (cc)
  first_serving (Leaving b a) rest states old out request = absurd (cc)
  first_serving (Left fault) rest states old out request = absurd (let a = old.closed refl in let z : None ≡ Some (record { dropped = dropped; cluster = c }) = sym a ∙ request in cc)
  first_serving (Handling fault v) rest states old out request = absurd (cc)
  first_serving Resumable rest states old out request = absurd (let a = old.closed refl in let z : None ≡ Some (record { dropped = dropped; cluster = c }) = sym a ∙ request in cc)
  first_serving (Over end stack) rest states old out request = absurd (let a = old.closed refl in let z : None ≡ Some (record { dropped = dropped; cluster = c }) = sym a ∙ request in cc)

  at_request : IsDriven layout tape inputs (ask ∷ before) → Serving []
  at_request driven =
      let mk = made layout valid roomy tape misses whole inputs before (all_honest layout valid roomy tape misses whole inputs before driven.1) ask driven.0 in
      let out = mk.leaves (Ask d c) asked (λ e. cc) in
      first_serving mk.next mk.after mk.states mk.holds out.0 (ap (λ x. (service_after x (service (trace layout tape before).past)).request) out.1)

  -- ---- One more move

  goes_on : (m : Move) (since : List Move) (s : Serving since) (next : Spot) (after : Progress) (states : ℕ → PageState) → IsHonest layout (past_of (m ∷ since)) (control_of (m ∷ since)) next after states
      → ServesOrAnswers layout (past_of since) s.states c (past_of (m ∷ since)) states next → Serving (m ∷ since) ⊎ Answers (m ∷ since)
  goes_on m since s (Requested x) after states old (same, service_is, fewer) =
      let f : moves_left layout dropped c (past_of (m ∷ since)) states < moves_left layout dropped c (past_of since) s.states =
      subst (λ o. moves_left layout (dropped_for o) c (past_of (m ∷ since)) states < moves_left layout (dropped_for o) c (past_of since) s.states) s.request fewer in
      let l = s.left in
      inl (record {
        rest = after;
        states = states;
        holds = subst (λ y. IsHonest layout (past_of (m ∷ since)) (control_of (m ∷ since)) (Requested y) after states) same old;
        request = ap (λ z. z.request) service_is ∙ s.request;
        left = let e : suc (length since) + moves_left layout dropped c (past_of (m ∷ since)) states ≤ most = omega arith in e;
      })
  goes_on m since s (Answering x (Begins v)) after states old same =
      let l = s.left in
      inr (record {
        value = v;
        rest = after;
        states = states;
        holds = subst (λ y. IsHonest layout (past_of (m ∷ since)) (control_of (m ∷ since)) (Answering y (Begins v)) after states) same old;
        few = let e : suc (length since) ≤ most = omega arith in e;
      })
  goes_on m since s (Answering x (Probes i)) after states old p = absurd p
  goes_on m since s (Answering x Finishes) after states old p = absurd p
  goes_on m since s (Idle called) after states old p = absurd p
  goes_on m since s (Entered called v) after states old p = absurd p
  goes_on m since s InProgram after states old p = absurd p
  goes_on m since s (Leaving b a) after states old p = absurd p
  goes_on m since s (Left fault) after states old p = absurd p
  goes_on m since s (Handling fault v) after states old p = absurd p
  goes_on m since s Resumable after states old p = absurd p
  goes_on m since s (Over end stack) after states old p = absurd p

  -- the move that the kernel makes while the request is served
  served_by : (m : Move) (since : List Move) (s : Serving since) → drive layout (past_of since) inputs ≡ Some m
      → Made layout (trace layout tape (since ++ ask ∷ before)) (Requested c) s.states m (answer_after layout tape (since ++ ask ∷ before) m)
  served_by m since s e = makes layout valid roomy tape misses whole inputs (since ++ ask ∷ before) (Requested c) s.rest s.states s.holds refl m e

  -- and once a processor has entered: it is run, and says Ready
  run_by : (m : Move) (since : List Move) (s : Answers since) → drive layout (past_of since) inputs ≡ Some m
      → (is_run m ≡ true) × (answer_after layout tape (since ++ ask ∷ before) m ≡ Answer.Exit Exit.Ready)
  run_by m since s e =
      let r = answers_ready layout valid roomy tape misses whole inputs (since ++ ask ∷ before) c s.value s.rest s.states s.holds in
      let same : Run (record { 0 = 0 }) 1000 ≡ m = let a = r.0 in let b : Some (Run (record { 0 = 0 }) 1000) ≡ Some m = sym a ∙ e in cc in
      subst (λ x. (is_run x ≡ true) × (answer_after layout tape (since ++ ask ∷ before) x ≡ Answer.Exit Exit.Ready)) same (refl, r.1)

  -- ---- All moves since

  stands : (since : List Move) → IsDriven layout tape inputs (since ++ ask ∷ before) → list_all (λ m. not (is_run m)) since ≡ true → Serving since ⊎ Answers since
  stands [] driven none = inl (at_request driven)
  stands (m ∷ since) driven none =
      let p = and_parts (not (is_run m)) (list_all (λ m. not (is_run m)) since) none in
      by (stands since driven.1 p.1) p.0
    where
      by : Serving since ⊎ Answers since → not (is_run m) ≡ true → Serving (m ∷ since) ⊎ Answers (m ∷ since)
      by (inl s) n = let mk = served_by m since s driven.0 in goes_on m since s mk.next mk.after mk.states mk.holds mk.paced.1
      by (inr s) n = absurd (let r = run_by m since s driven.0 in let a : not (is_run m) ≡ false = ap not r.0 in let z : true ≡ false = sym n ∙ a in cc)

  -- at most so many moves that are no runs
  pub paced : (since : List Move) → IsDriven layout tape inputs (since ++ ask ∷ before) → list_all (λ m. not (is_run m)) since ≡ true → length since ≤ most
  paced since driven none = by (stands since driven none)
    where
      by : Serving since ⊎ Answers since → length since ≤ most
      by (inl s) = let l = s.left in omega arith
      by (inr s) = s.few

  -- and the run that follows says Ready
  pub ready : (m : Move) (since : List Move) → IsDriven layout tape inputs (m ∷ (since ++ ask ∷ before)) → list_all (λ m. not (is_run m)) since ≡ true → is_run m ≡ true
      → answer_after layout tape (since ++ ask ∷ before) m ≡ Answer.Exit Exit.Ready
  ready m since driven none runs = by (stands since driven.1 none)
    where
      by : Serving since ⊎ Answers since → answer_after layout tape (since ++ ask ∷ before) m ≡ Answer.Exit Exit.Ready
      by (inl s) = absurd (let mk = served_by m since s driven.0 in let z : true ≡ false = sym runs ∙ mk.paced.0 in cc)
      by (inr s) = (run_by m since s driven.0).1
