-- Each stop of a sound journal has a move to blame, which broke a rule.
use Rattle.std.proofs.Common.{◌≡◌, ◌⊎◌, inl, inr, ℕ, ◌+◌, ◌<◌, ◌≤◌, List, [], ◌∷◌, ◌++◌, length, drop, reverse, max, append_assoc, length-append, length-drop, arith, refl, ap, sym, ◌∙◌, subst}
use Rattle.std.specs.Prelude.{slice_index, Bool, true, false, not, Option, Some, None, nat_le, ◌==◌}
use Rattle.std.specs.List.{list_all}
use Rattle.std.proofs.lemmas.Bool.{and_parts, eq-eqb, or_parts, leb-true, leb-false, not-false, false_from_ne_true}
use Rattle.std.proofs.lemmas.List.{length-reverse}
use Rattle.std.proofs.Math.Seq.{drop-append_seam}
use Rattle.ak_core.specs.Layout.{Layout, IsValid}
use Rattle.ak_core.specs.Journal.{Journal}
use Rattle.ak_core.specs.Mem.{Access}
use Rattle.ak_core.specs.declared.page.Page.{Page}
use Rattle.ak_core.specs.declared.page.Kind.{Kind}
use Rattle.ak_core.specs.declared.event.Event.{Event}
use Rattle.ak_core.specs.declared.event.Event.TheVariants.{Call, Miss, Trap, Break}
use Rattle.ak_core.specs.declared.event.Stop.{Stop}
use Rattle.ak_core.specs.declared.event.StopCause.{StopCause}
use Rattle.ak_core.specs.declared.event.StopCause.TheVariants.{Unmapped, RuntimeUnmapped, FetchNotHonoured, ResumedEarly, Stuck}
use Rattle.ak_core.specs.declared.moves.Move.{Move}
use Rattle.ak_model.specs.Paging.Pages.{pages, permits, cluster_at, pages_of, strong_kind}
use Rattle.ak_model.specs.Paging.Inside.{someone_inside}
use Rattle.ak_model.specs.Paging.Walk.{walkable, access_walkable, tcs_walkable}
use Rattle.ak_model.specs.Clusters.Queue.{is_in}
use Rattle.ak_model.specs.Control.ControlState.{Phase, New, Running, Calling, Asked, Ended, Trapped, Dead, is_asked, Program, Reason, Interrupted, Cleared, Raised, Denied, Missed, Broke, Faulted, Saved, Cause, ByBreak, Named}
use Rattle.ak_model.specs.Control.Trace.{Moment, trace}
use Rattle.ak_model.specs.Tapes.ProgramTurns.{ProgramTurn, turns_of_move, program_turns}
use Rattle.ak_model.specs.Tapes.LastMoment.{FlatRuns, runs_of}
use Rattle.ak_model.specs.Sound.Forced.{EachTurn, missed_by, queue_by}
use Rattle.ak_model.specs.Laws.Premises.{MissesFit}
use Rattle.ak_model.specs.Stops.Blame.{past_before_fault, lost_at, returned_at}
use Rattle.ak_model.specs.Stops.MovesBefore.{before_stop, moves_before_fault}
use Rattle.ak_model.specs.Laws.ToldFault.{refusal_or, newest_refusal, is_break, LastBroke, FaultStands, FaultIsToldAt}
use Rattle.ak_model.specs.Sound.BreaksAndStop.{NamedBy, NamesAccess, BreakIsForcedUnkept, BrokenUnkeptBy, BreaksAreForcedUnkept, stop_for, IsStop, IsStopped}
use Rattle.ak_model.specs.Kernels.KernelRules.{is_mapped, cluster_is_mapped, runtime_pages, keeps_mapped, entered_since_ask, is_finish_now, probes_done, fetched_by, keeps_fetched}
use Rattle.ak_model.specs.Laws.ViolatedRule.{told_at, IsTold, IsAskedFor, TookAway, LeftUnfetched, IsBlamed, BlamedIn}
use Rattle.ak_model.specs.Laws.Orderly.{ContextFits, ReasonFits, SavedFits, StackFits, IsOwnAccess, is_live, miss_of, oldest_miss, after_miss_if, ServedBy}
use Rattle.ak_model.specs.Misses.Reached.{accesses_next}
use Rattle.ak_model.proofs.Paging.Tests.{implied, all_in_range}
use Rattle.ak_model.proofs.Clusters.ClusterPages.{page_stands}
use Rattle.ak_model.proofs.Paging.LostAccess.{lost_some}
use Rattle.ak_model.proofs.Paging.LostBySomeMove.{lost-own}
use Rattle.ak_model.proofs.Paging.MappedIsWalkable.{walkable-strong}
use Rattle.ak_model.proofs.Flat.ProgramPages.{low_at}
use Rattle.ak_model.proofs.Kernels.NoForcedBreak.{all_in, all_kept, next_low}
use Rattle.ak_model.proofs.Control.OrderlyMoments.{trace_is_orderly}
use Rattle.ak_model.proofs.Stops.ToldFaultTrace.{trace_stands}
use Rattle.ak_model.proofs.Stops.InWasMapped.{trace_ever}
use Rattle.ak_model.proofs.Stops.StoppingMove.{StopSays, stops-after}
use Rattle.ak_model.proofs.Stops.LastFault.{unmapped, Unfetched, FaultAt}
use Rattle.ak_model.proofs.Stops.LastFaultTrace.{came_back, was_early, KeptAt, trace_kept}
use Rattle.ak_model.proofs.Stops.AskedSinceReturn.{Open, IsOpen, open_since}
use Rattle.ak_model.proofs.Stops.FaultIsLast.{fault-told}
use Rattle.ak_model.proofs.Stops.MovesAtPlaces.{dropped, MoveAt, places, Found, lost_move, is_lost, Back, back_move, early_move, faulting_past, faulting_older}

-- ---- The first rule is broken

module _ (layout : Layout) (moment : Moment) (someone : someone_inside layout moment.past ≡ true) (t : Access) (lost : access_walkable layout moment.past t ≡ false) where
  mapped_parts : keeps_mapped layout moment ≡ true → (list_all (is_mapped layout moment.past) (runtime_pages layout) ≡ true) × (list_all (cluster_is_mapped layout moment.past) moment.control.queue ≡ true)
  mapped_parts h =
      let all = implied (someone_inside layout moment.past) _ someone h in
      let most = and_parts (tcs_walkable layout moment.past) _ all in
      and_parts (list_all (is_mapped layout moment.past) (runtime_pages layout)) _ most.1

  pub own_broken : IsOwnAccess layout t → keeps_mapped layout moment ≡ false
  own_broken own = false_from_ne_true (keeps_mapped layout moment) (λ h.
      let page : is_mapped layout moment.past t.page.0 ≡ true = all_in_range (is_mapped layout moment.past) 5 (pages layout + 1) t.page.0 (let low = own.0 in omega arith) (let high = own.1 in omega arith) (mapped_parts h).0 in
      let walks : access_walkable layout moment.past t ≡ true = subst (λ kind. walkable layout moment.past t.page.0 kind ≡ true) (sym own.2) page in cc)

  program_broken : t.page.0 < pages layout → permits layout t.page.0 t.kind ≡ true → is_in moment.control.queue (cluster_at layout t.page.0) ≡ true → keeps_mapped layout moment ≡ false
  program_broken low allowed inside = false_from_ne_true (keeps_mapped layout moment) (λ h.
      let c : ℕ = cluster_at layout t.page.0 in
      let cluster : cluster_is_mapped layout moment.past c ≡ true = all_in (cluster_is_mapped layout moment.past) moment.control.queue c (mapped_parts h).1 inside in
      let page : is_mapped layout moment.past t.page.0 ≡ true =
      all_kept (is_mapped layout moment.past) (λ p. cluster_at layout p == c) (pages layout) 0 t.page.0 (omega arith) (omega arith) (eq-eqb (cluster_at layout t.page.0) c refl) cluster in
      let walks = walkable-strong layout moment.past t.page.0 t.kind page allowed in cc)

-- ---- What was in at a break

module _ (layout : Layout) (so_far : List ℕ) (phase : Phase) (queue : List ℕ) where
  -- a break is that of the oldest saved context, in phase Running
  broke_by : (saved : Saved) (older : List Saved) (reason : Reason) → saved.reason ≡ reason → SavedFits layout phase queue (length older) saved → refusal_or reason (newest_refusal older) ≡ Some Broke → (newest_refusal older ≡ Some Broke → (phase ≡ Running) × (oldest_miss older ≡ None) × (1 ≤ length older)) → (phase ≡ Running) × (oldest_miss (saved ∷ older) ≡ None)
  broke_by saved older (Raised v) r h e go = absurd (cc)
  broke_by saved older Denied r h e go = absurd (cc)
  broke_by saved older (Missed c) r h e go = absurd (cc)
  broke_by saved older (Faulted t) r h e go = absurd (cc)
  broke_by saved [] Interrupted r h e go = absurd (cc)
  broke_by saved [] Cleared r h e go = absurd (cc)
  broke_by saved (next ∷ older) Interrupted r h e go = let g = go e in (g.0, g.1)
  broke_by saved (next ∷ older) Cleared r h e go = let g = go e in (g.0, g.1)
  broke_by saved [] Broke r h e go =
      let program : saved.context ≡ Program = subst (ReasonFits layout phase queue saved.context) r h.reason in
      let fits : ContextFits layout phase 0 Program = subst (ContextFits layout phase 0) program h.context in
      (fits.1, ap miss_of r)
  broke_by saved (next ∷ older) Broke r h e go =
      let program : saved.context ≡ Program = subst (ReasonFits layout phase queue saved.context) r h.reason in
      let fits : ContextFits layout phase (length (next ∷ older)) Program = subst (ContextFits layout phase (length (next ∷ older))) program h.context in
      absurd (let z = fits.0 in omega arith)

  some_saved : (stack : List Saved) → newest_refusal stack ≡ Some Broke → 1 ≤ length stack
  some_saved [] e = absurd (cc)
  some_saved (saved ∷ older) e = omega arith

  broke_at : (stack : List Saved) → StackFits layout phase queue stack → newest_refusal stack ≡ Some Broke → (phase ≡ Running) × (oldest_miss stack ≡ None)
  broke_at [] h e = absurd (cc)
  broke_at (saved ∷ older) h e =
      broke_by saved older saved.reason refl h.0 e (λ x. let g = broke_at older h.1 x in (g.0, g.1, some_saved older x))

  -- so what is in by the misses so far is the queue
  broke_served : (stack : List Saved) → StackFits layout phase queue stack → newest_refusal stack ≡ Some Broke → ServedBy layout so_far phase queue stack → queue ≡ so_far
  broke_served stack h e s =
      let at = broke_at stack h e in
      let running : after_miss_if layout queue (oldest_miss stack) ≡ so_far = subst (λ p. ServedBy layout so_far p queue stack) at.0 s in
      subst (λ o. after_miss_if layout queue o ≡ so_far) at.1 running

no_miss : (event : Option Event) → is_break event ≡ true → missed_by event ≡ None
no_miss None h = absurd (cc)
no_miss (Some (Call i b a)) h = absurd (cc)
no_miss (Some (Miss i c)) h = absurd (cc)
no_miss (Some (Trap i v)) h = absurd (cc)
no_miss (Some (Break i)) h = refl

broke_queue : (layout : Layout) (turn : ProgramTurn) (older : List ProgramTurn) → is_break turn.event ≡ true → queue_by layout (turn ∷ older) ≡ queue_by layout older
broke_queue layout turn older h =
    let none = no_miss turn.event h in
    rw none refl

-- ---- The moves to blame

module _ (layout : Layout) (valid : IsValid layout) (tape : List Event) (misses : MissesFit layout [] tape) (stopping : List Move) where
  abbrev here : Moment
  here = trace layout tape stopping

  abbrev faulting : List Move
  faulting = moves_before_fault layout tape stopping

  abbrev fault : Moment
  fault = trace layout tape faulting

  abbrev Blamed : StopCause → Type 0
  Blamed cause = IsBlamed layout tape stopping (stop_for layout here.past cause)

  -- the moves before the fault are among those before the stop
  abbrev among : (place : ℕ) (Holds : List Move → Move → Type 0) → MoveAt faulting place Holds → MoveAt stopping place Holds
  among place Holds h =
      let older = faulting_older layout tape stopping in
      record {
        newer = older.0 ++ h.newer;
        move = h.move;
        older = h.older;
        stands = older.1 ∙ ap (λ l. older.0 ++ l) h.stands ∙ sym (append_assoc older.0 h.newer (h.move ∷ h.older));
        place_is = h.place_is;
        holds = h.holds;
      }

  -- how many moves there are up to one
  high : (moves : List Move) (place : ℕ) (Holds : List Move → Move → Type 0) → MoveAt moves place Holds → place ≤ length moves
  high moves place Holds h =
      let e : length moves ≡ length (h.newer ++ h.move ∷ h.older) = ap length h.stands in
      let l = length-append h.newer (h.move ∷ h.older) in
      let p = h.place_is in omega arith

  -- the access was taken away by the move at the place where it was lost
  took : (t : Access) (moves : List Move) → access_walkable layout (trace layout tape moves).past t ≡ false → someone_inside layout (trace layout tape moves).past ≡ true → keeps_mapped layout (trace layout tape moves) ≡ false → (at : MoveAt moves (lost_at layout (trace layout tape moves).past t) (Found layout tape t)) → TookAway layout (trace layout tape at.older).past (trace layout tape moves) t
  took t moves lost someone broken at =
      let p = at.place_is in
      let l = places layout tape at.older in
      let up = high moves _ _ at in
      record {
        found = at.holds;
        lost = is_lost layout tape t moves (length (trace layout tape at.older).past + 1) lost (omega arith) (omega arith);
        inside = someone;
        broken = broken;
      }

  -- what no walk found before the last fault, none found before its move
  lost_then : (t : Access) → access_walkable layout (past_before_fault here.past) t ≡ false → access_walkable layout fault.past t ≡ false
  lost_then t h = subst (λ past. access_walkable layout past t ≡ false) (sym (faulting_past layout tape stopping)) h

  place_then : (t : Access) → lost_at layout (past_before_fault here.past) t ≡ lost_at layout fault.past t
  place_then t = ap (λ past. lost_at layout past t) (sym (faulting_past layout tape stopping))

  -- ---- By the cause

  runtime_blamed : (p : Page) (kind : Kind) → access_walkable layout fault.past (record { page = p; kind = kind }) ≡ false → someone_inside layout fault.past ≡ true → IsOwnAccess layout (record { page = p; kind = kind }) → IsTold (told_at layout tape stopping) (RuntimeUnmapped p kind) → Blamed (RuntimeUnmapped p kind)
  runtime_blamed p kind lost someone own told =
      let t : Access = record { page = p; kind = kind } in
      let at = lost_move layout tape t faulting lost (lost-own layout fault.past t own lost) in
      let above = among _ (Found layout tape t) at in
      record {
        told = told;
        newer = above.newer;
        move = at.move;
        older = at.older;
        stands = above.stands;
        place = place_then t ∙ at.place_is;
        broke = record { page = own; took = took t faulting lost someone (own_broken layout fault someone t lost own) at };
      }

  stuck_blamed : (p : Page) (kind : Kind) → access_walkable layout here.past (record { page = p; kind = kind }) ≡ false → someone_inside layout here.past ≡ true → IsOwnAccess layout (record { page = p; kind = kind }) → Blamed (Stuck p kind)
  stuck_blamed p kind lost someone own =
      let t : Access = record { page = p; kind = kind } in
      let at = lost_move layout tape t stopping lost (lost-own layout here.past t own lost) in
      record {
        told = tt;
        newer = at.newer;
        move = at.move;
        older = at.older;
        stands = at.stands;
        place = at.place_is;
        broke = record { page = own; took = took t stopping lost someone (own_broken layout here someone t lost own) at };
      }

  early_blamed : was_early layout tape stopping ≡ true → Blamed ResumedEarly
  early_blamed h =
      let at = early_move layout tape stopping h in
      record { told = tt; newer = at.newer; move = at.move; older = at.older; stands = at.stands; place = at.place_is; broke = at.holds }

  -- the program's page was mapped when its cluster came in
  program_blamed : (p : Page) (kind : Kind) → access_walkable layout fault.past (record { page = p; kind = kind }) ≡ false → someone_inside layout fault.past ≡ true → p.0 < pages layout → permits layout p.0 kind ≡ true → is_in fault.control.queue (cluster_at layout p.0) ≡ true → IsTold (told_at layout tape stopping) (Unmapped p kind) → Blamed (Unmapped p kind)
  program_blamed p kind lost someone low allowed inside told =
      let t : Access = record { page = p; kind = kind } in
      let ever = (trace_ever layout valid tape misses faulting).queue p.0 low inside in
      let walked : access_walkable layout (drop ever.0 fault.past) t ≡ true = walkable-strong layout (drop ever.0 fault.past) p.0 kind ever.1 allowed in
      let at = lost_move layout tape t faulting lost (lost_some layout t fault.past lost ever.0 walked) in
      let above = among _ (Found layout tape t) at in
      record {
        told = told;
        newer = above.newer;
        move = at.move;
        older = at.older;
        stands = above.stands;
        place = place_then t ∙ at.place_is;
        broke = record {
          page = low;
          permitted = allowed;
          cluster = inside;
          took = took t faulting lost someone (program_broken layout fault someone t lost low allowed inside) at;
        };
      }

  -- ---- What was asked for and not fetched

  module _ (p : Page) (kind : Kind) (lost : access_walkable layout fault.past (record { page = p; kind = kind }) ≡ false) (low : p.0 < pages layout) (known : Unfetched layout fault (returned_at here.past) (record { page = p; kind = kind })) (told : IsTold (told_at layout tape stopping) (FetchNotHonoured p kind)) where
    abbrev accessed : Access
    accessed = record { page = p; kind = kind }

    asked_by : (phase : Phase) → IsAskedFor layout phase accessed → (c : ℕ) × (phase ≡ Asked c) × (cluster_at layout p.0 ≡ c) × (kind ≡ strong_kind layout p.0)
    asked_by (Asked c) h = (c, refl, h.0, h.1)
    asked_by New h = absurd h
    asked_by Running h = absurd h
    asked_by Calling h = absurd h
    asked_by (Ended s) h = absurd h
    asked_by (Trapped x) h = absurd h
    asked_by Dead h = absurd h

    -- the cluster that was asked for, of which the page is one
    asked : (c : ℕ) × (fault.control.phase ≡ Asked c) × (cluster_at layout p.0 ≡ c) × (kind ≡ strong_kind layout p.0)
    asked = asked_by fault.control.phase known.asked

    abbrev c : ℕ
    c = asked.0

    -- at the fault it was not past the probes
    undone : probes_done layout c fault.control ≡ false
    undone =
        let broken : fetched_by layout fault (Asked c) ≡ false = subst (λ phase. fetched_by layout fault phase ≡ false) asked.1 known.broken in
        (or_parts (probes_done layout c fault.control) _ (or_parts (not (entered_since_ask fault.past)) _ broken).1).0

    open_fault : Open layout c fault.control
    open_fault =
        let parts = or_parts (is_finish_now fault.control.now) _ undone in
        record { asked = asked.1; probing = known.probing; unfinished = parts.0; unpast = parts.1 }

    came : came_back layout tape faulting ≡ true
    came = ((trace_kept layout tape valid misses faulting).probing (ap is_asked asked.1) known.probing).0

    -- what was asked for is to be mapped, and is not
    not_fetched : (moment : Moment) → IsOpen layout valid tape misses c moment → access_walkable layout moment.past accessed ≡ false → keeps_fetched layout moment ≡ false
    not_fetched moment h l =
        let at = page_stands layout p.0 low in
        let place : at.0 < length (pages_of layout c) = subst (λ x. at.0 < length (pages_of layout x)) asked.2 at.1 in
        let page : slice_index (pages_of layout c) at.0 ≡ p.0 = ap (λ x. slice_index (pages_of layout x) at.0) (sym asked.2) ∙ at.2 in
        let here : is_mapped layout moment.past p.0 ≡ false = subst (λ k. walkable layout moment.past p.0 k ≡ false) asked.3 l in
        let cluster = unmapped layout moment.past c at.0 place (subst (λ x. is_mapped layout moment.past x ≡ false) (sym page) here) in
        subst (λ phase. fetched_by layout moment phase ≡ false) (sym h.asked)
        (let e = h.entered in let u = h.undone in rw (e, u, cluster) refl)

    left_at : (place : ℕ) (Holds : List Move → Move → Type 0) (at : MoveAt faulting place Holds) → returned_at fault.past ≤ place → lost_at layout fault.past accessed ≤ place → (Back layout tape at.older at.move) ⊎ (Found layout tape accessed at.older at.move) → LeftUnfetched layout (trace layout tape at.older) at.move fault accessed
    left_at place Holds at r l did =
        let n = places layout tape at.older in
        let e = at.place_is in
        let up = high faulting place Holds at in
        let gone = is_lost layout tape accessed faulting (length (trace layout tape at.older).past + 1) lost (omega arith) (omega arith) in
        let d : ℕ = length at.newer in
        let there : drop d faulting ≡ at.move ∷ at.older = ap (drop d) at.stands ∙ drop-append_seam at.newer (at.move ∷ at.older) in
        let sizes : length faulting ≡ length (at.newer ++ at.move ∷ at.older) = ap length at.stands in
        let joined = length-append at.newer (at.move ∷ at.older) in
        let all = places layout tape faulting in
        let short = length-drop d fault.past in
        let held : IsOpen layout valid tape misses c (trace layout tape (drop d faulting)) = open_since layout valid tape misses c faulting d open_fault (omega arith) in
        let walks : access_walkable layout (trace layout tape (drop d faulting)).past accessed ≡ false = subst (λ past. access_walkable layout past accessed ≡ false) (sym (dropped layout tape d faulting)) (gone.since d (omega arith)) in
        let first = back_move layout tape faulting came in
        let some = first.place_is in
        record {
          page = low;
          asked = known.asked;
          did = did;
          came = omega arith;
          newest = omega arith;
          lost = gone;
          broke = subst (λ moves. keeps_fetched layout (trace layout tape moves) ≡ false) there (not_fetched (trace layout tape (drop d faulting)) held walks);
          broken = known.broken;
        }

    unfetched_by : (came_last : Bool) → nat_le (lost_at layout fault.past accessed) (returned_at fault.past) ≡ came_last → Blamed (FetchNotHonoured p kind)
    unfetched_by true e =
        let at = back_move layout tape faulting came in
        let above = among _ (Back layout tape) at in
        let le = leb-true (lost_at layout fault.past accessed) (returned_at fault.past) e in
        let same = known.same in
        let first = place_then accessed in
        record {
          told = told;
          newer = above.newer;
          move = at.move;
          older = at.older;
          stands = above.stands;
          place = (let x : max (returned_at here.past) (lost_at layout (past_before_fault here.past) accessed) ≡ returned_at fault.past = omega arith in x ∙ at.place_is);
          broke = left_at (returned_at fault.past) (Back layout tape) at (omega arith) le (inl at.holds);
        }
    unfetched_by false e =
        let less = leb-false (lost_at layout fault.past accessed) (returned_at fault.past) e in
        let at = lost_move layout tape accessed faulting lost (omega arith) in
        let above = among _ (Found layout tape accessed) at in
        let same = known.same in
        let first = place_then accessed in
        record {
          told = told;
          newer = above.newer;
          move = at.move;
          older = at.older;
          stands = above.stands;
          place = (let x : max (returned_at here.past) (lost_at layout (past_before_fault here.past) accessed) ≡ lost_at layout fault.past accessed = omega arith in x ∙ at.place_is);
          broke = left_at (lost_at layout fault.past accessed) (Found layout tape accessed) at (omega arith) (omega arith) (inr at.holds);
        }

    unfetched : Blamed (FetchNotHonoured p kind)
    unfetched = unfetched_by (nat_le (lost_at layout fault.past accessed) (returned_at fault.past)) refl

  -- what is known of the last fault stands before the stop
  kept : KeptAt layout tape stopping
  kept = trace_kept layout tape valid misses stopping

  stands : FaultIsToldAt layout (program_turns layout tape stopping) here
  stands = trace_stands layout tape stopping valid misses

  -- the newest refusal to resume tells of the fault
  step_lost : (t : Access) → newest_refusal here.control.stack ≡ Some (Faulted t) → is_live here.control.phase ≡ true → access_walkable layout fault.past t ≡ false
  step_lost t r live = lost_then t (subst (FaultStands layout (past_before_fault here.past) (program_turns layout tape stopping)) r (stands.fault live))

  step_known : (t : Access) → newest_refusal here.control.stack ≡ Some (Faulted t) → is_live here.control.phase ≡ true → (someone_inside layout fault.past ≡ true) × (t.page.0 < pages layout → Unfetched layout fault (returned_at here.past) t)
  step_known t r live = subst (FaultAt layout fault (returned_at here.past) here.control.queue) r (kept.at live)

  -- each cause but the program's own break
  named_blamed : (cause : StopCause) → StopSays layout here.past here.control (Named cause) → Blamed cause
  named_blamed (Unmapped p kind) h = absurd h.says
  named_blamed (RuntimeUnmapped p kind) h =
      let s = h.says in
      let t : Access = record { page = p; kind = kind } in
      runtime_blamed p kind (step_lost t s.0 s.1) (step_known t s.0 s.1).0 s.2 (fault-told layout valid tape misses stopping (Faulted t) s.1 (λ m. m) s.0)
  named_blamed (FetchNotHonoured p kind) h =
      let s = h.says in
      let t : Access = record { page = p; kind = kind } in
      unfetched p kind (step_lost t s.0 s.1) s.2 ((step_known t s.0 s.1).1 s.2) (fault-told layout valid tape misses stopping (Faulted t) s.1 (λ m. m) s.0)
  named_blamed ResumedEarly h = let s = h.says in early_blamed (kept.guard s.0 s.1)
  named_blamed (Stuck p kind) h = let s = h.says in stuck_blamed p kind s.1 h.someone s.0

  -- the break is that of the newest turn of the program, which is forced
  forced_at : (runs : FlatRuns) (stop : Option Stop) (turn : ProgramTurn) (older : List ProgramTurn) (event : Option Event) → is_break event ≡ true → BrokenUnkeptBy layout runs stop turn older event → BreakIsForcedUnkept layout runs stop turn older
  forced_at runs stop turn older None b h = absurd (cc)
  forced_at runs stop turn older (Some (Call i n a)) b h = absurd (cc)
  forced_at runs stop turn older (Some (Miss i c)) b h = absurd (cc)
  forced_at runs stop turn older (Some (Trap i v)) b h = absurd (cc)
  forced_at runs stop turn older (Some (Break i)) b h = h

  -- what was in at the fault is what is in by the misses before the break
  queue_then : (turn : ProgramTurn) (older : List ProgramTurn) → turn ∷ older ≡ program_turns layout tape stopping → is_break turn.event ≡ true → fault.control.queue ≡ here.control.queue → newest_refusal here.control.stack ≡ Some Broke → queue_by layout older ≡ fault.control.queue
  queue_then turn older e b q r =
      let orderly = trace_is_orderly layout valid tape misses stopping in
      let served = broke_served layout (queue_by layout (program_turns layout tape stopping)) here.control.phase here.control.queue here.control.stack orderly.stack r orderly.served in
      sym (broke_queue layout turn older b) ∙ ap (queue_by layout) e ∙ sym served ∙ sym q

  broken_by : (turns : List ProgramTurn) (runs : FlatRuns) (stop : Option Stop) (p : Page) (kind : Kind) → turns ≡ program_turns layout tape stopping → StopSays layout here.past here.control ByBreak → LastBroke (past_before_fault here.past) turns → EachTurn (λ turn. λ older. BrokenUnkeptBy layout runs stop turn older turn.event) turns → ((t : Access) → NamesAccess stop t → t ≡ record { page = p; kind = kind }) → Blamed (Unmapped p kind)
  broken_by [] runs stop p kind e h last forced named = absurd last
  broken_by (turn ∷ older) runs stop p kind e h last forced named =
      let f = forced_at runs stop turn older turn.event last.1 forced.0 in
      let t : Access = f.access in
      let may = f.faults.unkept.may_fault in
      let low : t.page.0 < pages layout = low_at layout (accesses_next layout (runs turn.count)) may.place t (next_low layout (runs turn.count)) may.stands in
      let allowed : permits layout t.page.0 t.kind ≡ true = not-false (permits layout t.page.0 t.kind) may.permitted in
      let lost = lost_then t (subst (λ past. access_walkable layout past t ≡ false) last.0 may.unmapped) in
      let known = subst (FaultAt layout fault (returned_at here.past) here.control.queue) h.says.0 (kept.at h.says.1) in
      let inside = subst (λ queue. is_in queue (cluster_at layout t.page.0) ≡ true) (queue_then turn older e last.1 known.1 h.says.0) f.inside in
      subst (λ x. Blamed (Unmapped x.page x.kind)) (named t f.faults.named) (program_blamed t.page t.kind lost known.0 low allowed inside (fault-told layout valid tape misses stopping Broke h.says.1 (λ m. m) h.says.0))

-- ---- A journal's stop

module _ (layout : Layout) where
  older_turns : (P : ProgramTurn → List ProgramTurn → Type 0) (xs ys : List ProgramTurn) → EachTurn P (xs ++ ys) → EachTurn P ys
  older_turns P [] ys h = h
  older_turns P (x ∷ xs) ys h = older_turns P xs ys h.1

  -- what holds of each turn holds of those of the older moves
  fewer_turns : (P : ProgramTurn → List ProgramTurn → Type 0) (tape : List Event) (newer moves : List Move) → EachTurn P (program_turns layout tape (newer ++ moves)) → EachTurn P (program_turns layout tape moves)
  fewer_turns P tape [] moves h = h
  fewer_turns P tape (m ∷ newer) moves h =
      fewer_turns P tape newer moves (older_turns P (turns_of_move layout (trace layout tape (newer ++ moves)) m) (program_turns layout tape (newer ++ moves)) h)

  module _ (image : List ℕ) (journal : Journal) (stop : Stop) (valid : IsValid layout) (misses : MissesFit layout [] journal.events) (breaks : BreaksAreForcedUnkept image layout journal) (stopped : IsStopped layout journal) (is_stop : journal.stop ≡ Some stop) where
    abbrev tape : List Event
    tape = journal.events

    abbrev moves : List Move
    moves = reverse journal.moves

    abbrev stopping : List Move
    stopping = before_stop layout tape moves

    -- by the cause in the control state, and the stop that it comes to
    pub record StopFound : Type 0 where
      pub blamed : IsBlamed layout tape stopping stop
      pub fewer : length stopping < length moves

    names : (p : Page) (kind : Kind) → stop ≡ stop_for layout (trace layout tape stopping).past (Unmapped p kind) → (t : Access) → NamesAccess journal.stop t → t ≡ record { page = p; kind = kind }
    names p kind e t h =
        let named : NamedBy (Unmapped p kind) t = subst (λ s. NamedBy s.cause t) e (subst (λ o. NamesAccess o t) is_stop h) in
        let same : (let made : Access = record { page = t.page; kind = t.kind } in made) ≡ record { page = p; kind = kind } =
        ap (λ x. (let made : Access = record { page = x; kind = t.kind } in made)) named.0 ∙ ap (λ k. (let made : Access = record { page = p; kind = k } in made)) named.1 in
        same

    by_cause : (cause : Option Cause) → (trace layout tape moves).control.cause ≡ cause → IsStop layout (trace layout tape stopping).past cause journal.stop → StopFound
    by_cause None e h = absurd (let x : None ≡ Some stop = sym h ∙ is_stop in cc)
    by_cause (Some (Named cause)) e h =
        let at = stops-after layout valid tape misses moves (Named cause) e in
        let made : IsBlamed layout tape stopping (stop_for layout (trace layout tape stopping).past cause) = named_blamed layout valid tape misses stopping cause at.says in
        let same : stop_for layout (trace layout tape stopping).past cause ≡ stop = let x : Some (stop_for layout (trace layout tape stopping).past cause) ≡ Some stop = sym h ∙ is_stop in cc in
        record { blamed = subst (IsBlamed layout tape stopping) same made; fewer = at.fewer }
    by_cause (Some ByBreak) e h =
        let p : Page = h.0 in
        let kind : Kind = h.1 in
        let at = stops-after layout valid tape misses moves ByBreak e in
        let same : stop_for layout (trace layout tape stopping).past (Unmapped p kind) ≡ stop = let x : Some (stop_for layout (trace layout tape stopping).past (Unmapped p kind)) ≡ Some stop = sym h.2 ∙ is_stop in cc in
        let forced = fewer_turns (λ turn. λ older. BrokenUnkeptBy layout (runs_of layout image journal) journal.stop turn older turn.event) tape at.newer stopping
        (subst (λ all. EachTurn (λ turn. λ older. BrokenUnkeptBy layout (runs_of layout image journal) journal.stop turn older turn.event) (program_turns layout tape all)) at.stands breaks.turns_break) in
        let last = subst (FaultStands layout (past_before_fault (trace layout tape stopping).past) (program_turns layout tape stopping)) at.says.says.0 ((trace_stands layout tape stopping valid misses).fault at.says.says.1) in
        let made : IsBlamed layout tape stopping (stop_for layout (trace layout tape stopping).past (Unmapped p kind)) =
        broken_by layout valid tape misses stopping (program_turns layout tape stopping) (runs_of layout image journal) journal.stop p kind refl at.says last forced (names p kind (sym same)) in
        record { blamed = subst (IsBlamed layout tape stopping) same made; fewer = at.fewer }

    found : StopFound
    found = by_cause (trace layout tape moves).control.cause refl stopped.stopped

    pub blamed-in : BlamedIn layout journal stop
    blamed-in = found.blamed

    -- its place is that of a move of the journal
    pub blamed-place : (1 ≤ stop.blame) × (stop.blame < length journal.moves)
    blamed-place =
        let b = found.blamed in
        let p = b.place in
        let e : length stopping ≡ length (b.newer ++ b.move ∷ b.older) = ap length b.stands in
        let l = length-append b.newer (b.move ∷ b.older) in
        let f = found.fewer in
        let r = length-reverse journal.moves in
        (omega arith, omega arith)
