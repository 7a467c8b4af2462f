-- Under a kernel that evicts each miss is of the first access whose cluster is out, and what completes or traps has none.
use Rattle.std.proofs.Common.{◌≡◌, ℕ, zero, suc, ◌+◌, ◌<◌, List, [], ◌∷◌, length, arith, refl, ap, sym, ◌∙◌, subst}
use Rattle.std.specs.Prelude.{Bool, true, false, not, ◌&&◌, take, Option, Some, None, option_map, is_some, unwrap_or, slice_get}
use Rattle.std.specs.List.{list_all, prefix_len}
use Rattle.std.proofs.lemmas.Bool.{and_parts}
use Rattle.ak_core.specs.Layout.{Layout, IsValid}
use Rattle.ak_core.specs.Mem.{Access}
use Rattle.ak_core.specs.declared.event.Event.{Event}
use Rattle.ak_core.specs.declared.event.Event.TheVariants.{Call, Miss, Trap, Break}
use Rattle.ak_core.specs.declared.moves.Move.{Move}
use Rattle.ak_model.specs.Paging.Pages.{pages, cluster_at}
use Rattle.ak_model.specs.Paging.Histories.{History}
use Rattle.ak_model.specs.Paging.Inside.{since}
use Rattle.ak_model.specs.Clusters.Queue.{is_in}
use Rattle.ak_model.specs.Control.ControlState.{Program, Control}
use Rattle.ak_model.specs.Control.Trace.{trace}
use Rattle.ak_model.specs.Flat.FlatRuns.{is_forbidden}
use Rattle.ak_model.specs.Tapes.LastMoment.{FlatRuns}
use Rattle.ak_model.specs.Tapes.ProgramTurns.{ProgramTurn, turn_at, program_turns}
use Rattle.ak_model.specs.Laws.Premises.{MissesFit}
use Rattle.ak_model.specs.Misses.Reached.{MayComplete, reached_since, reached, accesses_at, permitted_accesses}
use Rattle.ak_model.specs.Sound.Forced.{EachTurn, queue_by, IfCarriedOut, ReachedBy}
use Rattle.ak_model.specs.Sound.ForcedMisses.{MissIsForced, MissedBy}
use Rattle.ak_model.specs.Kernels.Evictions.{keeps_out, Evicts}
use Rattle.ak_model.specs.Misses.Ideal.{accesses_of, first_out}
use Rattle.ak_model.specs.Laws.Orderly.{NowFits}
use Rattle.ak_model.proofs.Kernels.NoForcedBreak.{next_low}
use Rattle.ak_model.proofs.Flat.ProgramPages.{AllLow}
use Rattle.ak_model.proofs.Control.OrderlyTurns.{in_program}
use Rattle.ak_model.proofs.Misses.ReachedIsIn.{reached_in}
use Rattle.ak_model.proofs.Tapes.CompletedTurns.{completed}
use Rattle.ak_model.proofs.Tapes.TurnMoments.{StandsAt, turns-each}

-- ---- What was reached is in

-- an access of the turn that was reached is of a cluster that is in
abbrev ReachedIsIn : Layout → ProgramTurn → List ProgramTurn → Type 0
ReachedIsIn layout turn older = (t : Access) → t.page.0 < pages layout → reached layout turn t ≡ true → is_in (queue_by layout older) (cluster_at layout t.page.0) ≡ true

module _ (layout : Layout) (tape : List Event) where
  since_by : (moves : List Move) (lp : ℕ) (t : Access) (last : Control) (o : Option ℕ) → since (trace layout tape moves).past lp ≡ o → is_some o ≡ true → t.page.0 < pages layout → reached_since layout (unwrap_or o (length (trace layout tape moves).past + 1)) (trace layout tape moves).past t ≡ true → ((place : ℕ) → since (trace layout tape moves).past lp ≡ Some place → reached_since layout place (trace layout tape moves).past t ≡ true → is_in last.queue (cluster_at layout t.page.0) ≡ true) → is_in last.queue (cluster_at layout t.page.0) ≡ true
  since_by moves lp t last None e within low h go = cc
  since_by moves lp t last (Some place) e within low h go = go place e h

  turn_reaches : (moves : List Move) (lp : ℕ) (control : Control) (older : List ProgramTurn) → StandsAt layout tape (keeps_out layout) moves lp control older → ReachedIsIn layout (turn_at lp (trace layout tape moves).past control) older
  turn_reaches moves lp control older at t low h =
      let past : History = (trace layout tape moves).past in
      let fits : NowFits layout control.phase control.stack (Some Program) = subst (NowFits layout control.phase control.stack) at.program at.orderly.now in
      subst (λ queue. is_in queue (cluster_at layout t.page.0) ≡ true) (in_program layout (queue_by layout older) true control at.orderly at.program)
      (since_by moves lp t control (since past lp) refl at.within low h
      (λ place e found. reached_in layout tape lp place t low control fits.1 moves at.all e at.kept found))

-- ---- Accesses that are out

-- an access that is permitted is one of those up to the first forbidden one
passed : (layout : Layout) (x : Access) (accesses : List Access) → not (is_forbidden layout x) ≡ true → permitted_accesses layout (x ∷ accesses) ≡ x ∷ permitted_accesses layout accesses
passed layout x accesses e =
    let n = prefix_len (λ t. not (is_forbidden layout t)) accesses in
    let more : 1 + n ≡ suc n = omega arith in
    rw e (ap (λ k. take k (x ∷ accesses)) more)

halted : (layout : Layout) (x : Access) (accesses : List Access) → not (is_forbidden layout x) ≡ false → permitted_accesses layout (x ∷ accesses) ≡ []
halted layout x accesses e = rw e refl

-- the cluster of an access
abbrev pub cluster_of : Layout → Access → ℕ
cluster_of layout t = cluster_at layout t.page.0

module _ (layout : Layout) (queue : List ℕ) (reach : Access → Bool) (known : (t : Access) → t.page.0 < pages layout → reach t ≡ true → is_in queue (cluster_at layout t.page.0) ≡ true) where
  -- where all were reached, none is out
  none_out : (accesses : List Access) → AllLow layout accesses → list_all reach accesses ≡ true → first_out layout queue accesses ≡ None
  none_out [] low h = refl
  none_out (t ∷ accesses) low h =
      let parts = and_parts (reach t) (list_all reach accesses) h in
      let here : is_in queue (cluster_at layout t.page.0) ≡ true = known t low.0 parts.0 in
      rw here (none_out accesses low.1 parts.1)

  permitted_by : (t : Access) (accesses : List Access) (b : Bool) → not (is_forbidden layout t) ≡ b → AllLow layout (t ∷ accesses) → AllLow layout (permitted_accesses layout accesses) → AllLow layout (permitted_accesses layout (t ∷ accesses))
  permitted_by t accesses true e low h = subst (AllLow layout) (sym (passed layout t accesses e)) (low.0, h)
  permitted_by t accesses false e low h = subst (AllLow layout) (sym (halted layout t accesses e)) tt

  permitted_low : (accesses : List Access) → AllLow layout accesses → AllLow layout (permitted_accesses layout accesses)
  permitted_low [] low = tt
  permitted_low (t ∷ accesses) low = permitted_by t accesses (not (is_forbidden layout t)) refl low (permitted_low accesses low.1)

  one_more : (x : Access) (accesses : List Access) (t : Access) → not (is_forbidden layout x) ≡ true → is_in queue (cluster_at layout x.page.0) ≡ true → first_out layout queue (permitted_accesses layout accesses) ≡ Some t → first_out layout queue (permitted_accesses layout (x ∷ accesses)) ≡ Some t
  one_more x accesses t e i h =
      let rest : first_out layout queue (x ∷ permitted_accesses layout accesses) ≡ Some t = rw i h in
      subst (λ all. first_out layout queue all ≡ Some t) (sym (passed layout x accesses e)) rest

  here : (x : Access) (accesses : List Access) → is_forbidden layout x ≡ false → is_in queue (cluster_at layout x.page.0) ≡ false → first_out layout queue (permitted_accesses layout (x ∷ accesses)) ≡ Some x
  here x accesses e i =
      let allowed : not (is_forbidden layout x) ≡ true = ap not e in
      let first : first_out layout queue (x ∷ permitted_accesses layout accesses) ≡ Some x = rw i refl in
      subst (λ all. first_out layout queue all ≡ Some x) (sym (passed layout x accesses allowed)) first

  -- an access that is out, and before which all were granted, is the first
  first_is : (accesses : List Access) (place : ℕ) (t : Access) → AllLow layout accesses → slice_get accesses place ≡ Some t → is_forbidden layout t ≡ false → is_in queue (cluster_at layout t.page.0) ≡ false → list_all (λ x. not (is_forbidden layout x) && reach x) (take place accesses) ≡ true → first_out layout queue (permitted_accesses layout accesses) ≡ Some t
  first_is [] place t low e p i h = absurd (cc)
  first_is (x ∷ accesses) zero t low e p i h =
      let one : x ≡ t = cc in
      subst (λ y. first_out layout queue (permitted_accesses layout (x ∷ accesses)) ≡ Some y) one
      (here x accesses (subst (λ y. is_forbidden layout y ≡ false) (sym one) p) (subst (λ y. is_in queue (cluster_at layout y.page.0) ≡ false) (sym one) i))
  first_is (x ∷ accesses) (suc place) t low e p i h =
      let parts = and_parts (not (is_forbidden layout x) && reach x) (list_all (λ y. not (is_forbidden layout y) && reach y) (take place accesses)) h in
      let both = and_parts (not (is_forbidden layout x)) (reach x) parts.0 in
      one_more x accesses t both.0 (known x low.0 both.1) (first_is accesses place t low.1 e p i parts.1)

-- ---- One turn

module _ (layout : Layout) (runs : FlatRuns) where
  -- the cluster of the first access of an instruction that is out, if one is
  abbrev pub first_miss : List ℕ → ℕ → Option ℕ
  first_miss queue i = option_map (cluster_of layout) (first_out layout queue (accesses_of layout (runs i)))

  -- a turn of this count with this event: it misses the cluster of the first access that is out; where it completes or traps
  -- there is none
  abbrev pub MissesFirst : List ℕ → ℕ → Option Event → Type 0
  MissesFirst queue count (Some (Miss i c)) = first_miss queue count ≡ Some c
  MissesFirst queue count event = IfCarriedOut event (first_out layout queue (accesses_of layout (runs count)) ≡ None)

  module _ (turn : ProgramTurn) (older : List ProgramTurn) (known : ReachedIsIn layout turn older) where
    abbrev queue : List ℕ
    queue = queue_by layout older

    complete_first : MayComplete layout runs turn → first_out layout queue (accesses_of layout (runs turn.count)) ≡ None
    complete_first h =
        none_out layout queue (reached layout turn) known (accesses_of layout (runs turn.count))
        (permitted_low layout queue (reached layout turn) known (accesses_at layout runs turn) (next_low layout (runs turn.count))) h

    miss_first : (c : ℕ) → MissIsForced layout runs turn older c → first_miss queue turn.count ≡ Some c
    miss_first c h =
        let may = h.faults.may_fault in
        let first =
        first_is layout queue (reached layout turn) known (accesses_at layout runs turn) may.place h.access (next_low layout (runs turn.count)) may.stands may.permitted
        (subst (λ x. is_in queue x ≡ false) (sym h.cluster) h.out) may.earlier in
        ap (option_map (cluster_of layout)) first ∙ ap Some h.cluster

    turn_first : (event : Option Event) → ReachedBy layout runs turn event → MissedBy layout runs turn older event → MissesFirst queue turn.count event
    turn_first None r m = complete_first r
    turn_first (Some (Call i b a)) r m = complete_first r
    turn_first (Some (Trap i v)) r m = complete_first r
    turn_first (Some (Miss i c)) r m = miss_first c m
    turn_first (Some (Break i)) r m = tt

-- ---- All turns

-- what holds of each turn with those before it
pub record TurnFirst (layout : Layout) (runs : FlatRuns) (turn : ProgramTurn) (older : List ProgramTurn) : Type 0 where
  pub counted : turn.count ≡ completed older
  pub first : MissesFirst layout runs (queue_by layout older) turn.count turn.event

record Placed (layout : Layout) (turn : ProgramTurn) (older : List ProgramTurn) : Type 0 where
  pub counted : turn.count ≡ completed older
  pub known : ReachedIsIn layout turn older

each_first : (layout : Layout) (runs : FlatRuns) (turns : List ProgramTurn) → EachTurn (Placed layout) turns → EachTurn (λ turn. λ older. ReachedBy layout runs turn turn.event) turns → EachTurn (λ turn. λ older. MissedBy layout runs turn older turn.event) turns → EachTurn (TurnFirst layout runs) turns
each_first layout runs [] k r m = tt
each_first layout runs (turn ∷ older) k r m = (
  record { counted = k.0.counted; first = turn_first layout runs turn older k.0.known turn.event r.0 m.0 },
  each_first layout runs older k.1 r.1 m.1,
)

pub turns-first : (layout : Layout) (runs : FlatRuns) (tape : List Event) (moves : List Move) → IsValid layout → MissesFit layout [] tape → Evicts layout tape moves → EachTurn (λ turn. λ older. ReachedBy layout runs turn turn.event) (program_turns layout tape moves) → EachTurn (λ turn. λ older. MissedBy layout runs turn older turn.event) (program_turns layout tape moves) → EachTurn (TurnFirst layout runs) (program_turns layout tape moves)
turns-first layout runs tape moves valid misses out r m =
    each_first layout runs (program_turns layout tape moves)
    (turns-each layout tape (keeps_out layout) valid misses (Placed layout)
    (λ moves lp control older at. record { counted = at.counted; known = turn_reaches layout tape moves lp control older at }) moves out) r m
