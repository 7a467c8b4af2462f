-- The moves that serve a request: each is granted and keeps the invariant.
use Rattle.std.proofs.Common.{◌≡◌, ℕ, ◌+◌, ◌<◌, ◌≤◌, List, ◌∷◌, arith, refl, sym, ◌∙◌, subst}
use Rattle.std.specs.Prelude.{Bool, true, false, if◌then◌else◌, Some, None, is_some, is_none, ◌==◌}
use Rattle.std.proofs.lemmas.Bool.{eqb-true}
use Rattle.std.proofs.lemmas.Bool.Decides.{nat_tests}
use Rattle.ak_core.specs.Layout.{Layout, IsValid}
use Rattle.ak_core.specs.declared.moves.Move.TheVariants.{SetPte, Eblock, Etrack, Ewb, Eldu}
use Rattle.ak_core.specs.declared.moves.Answer.TheVariants.{Ok, OkHandle}
use Rattle.ak_model.specs.Paging.Pages.{pages, cluster_at, perm_of, strong_flags, no_flags}
use Rattle.ak_model.specs.Paging.Holdings.{FreeFrame, InFrame, InHandle}
use Rattle.ak_model.specs.Paging.Histories.{History, Pair}
use Rattle.ak_model.specs.Paging.Frames.{held, blocked_at}
use Rattle.ak_model.specs.Paging.Handles.{given, place, slot}
use Rattle.ak_model.specs.Paging.Tracking.{tracked}
use Rattle.ak_model.specs.Paging.Inside.{inside}
use Rattle.ak_model.specs.Clusters.Queue.{is_in}
use Rattle.ak_model.specs.Control.ControlState.{Control}
use Rattle.ak_model.specs.Kernels.Counted.{service}
use Rattle.ak_model.specs.Kernels.Repeats.{is_done}
use Rattle.ak_model.specs.Kernels.KernelRules.{entered_since_ask}
use Rattle.ak_model.specs.Stops.ShownStop.{shows_stop}
use Rattle.ak_model.specs.Kernels.HonestKernel.{is_ended, frame_of, on_frame}
use Rattle.ak_model.specs.Laws.OneLiveCopy.{OneCopy}
use Rattle.ak_driver.proofs.Invariant.PageStates.{PageState, Out, Unmapped, Blocked, In, IsInState}
use Rattle.ak_driver.proofs.Invariant.PagesStand.{PagesStand, with_state}
use Rattle.ak_driver.proofs.Invariant.Spots.{Requested, Progress}
use Rattle.ak_driver.proofs.Invariant.HonestMoments.{IsHonest, IsMoving, dropped_for}
use Rattle.ak_driver.proofs.Invariant.ServingMoves.{Serves, leaving_pages, is_untracked, cycle_left, page_left}
use Rattle.ak_driver.proofs.Turns.EnteringMoves.{done_granted, nobody}
use Rattle.ak_driver.proofs.Pages.GrantedMoves.{set_granted, block_granted, track_granted, write_granted, load_granted}
use Rattle.ak_driver.proofs.Pages.MovedPages.{tracks, writes_out, loads}
use Rattle.ak_driver.proofs.Pages.MoveSteps.{unmaps, maps, blocks}
use Rattle.ak_driver.proofs.Serving.Finding.{Each}
use Rattle.ak_driver.proofs.Serving.MovesLeft.{leaving_listed, leaving_served, fetched_served, one_passes, state_less}
use Rattle.ak_driver.proofs.Serving.CyclesLeft.{block_left, track_left, write_left, load_left}

-- less is left for a page, and no more for a cycle
fewer_pages : (a b : ℕ) (d e : ℕ) → a < b → d ≤ e → a + d + 1 < b + e + 1
fewer_pages a b d e l k = omega arith

-- and the other way round
fewer_cycles : (a : ℕ) (b d : Bool) → b ≡ false → d ≡ true → a + cycle_left b + 1 < a + cycle_left d + 1
fewer_cycles a false true e f = omega arith
fewer_cycles a true d e f = absurd (cc)
fewer_cycles a false false e f = absurd (cc)

no_cycle : (b : Bool) (n : ℕ) → b ≡ false → cycle_left b ≤ n
no_cycle false n e = omega arith
no_cycle true n e = absurd (cc)

no_more : (n : ℕ) → n ≤ n
no_more n = omega arith

module _ (layout : Layout) (past : History) (control : Control) (c : ℕ) (rest : Progress) (states : ℕ → PageState) (valid : IsValid layout) (copies : OneCopy layout past) (old : IsHonest layout past control (Requested c) rest states) where
  -- the clusters that leave
  abbrev pub leaving : List ℕ
  leaving = dropped_for (service past).request

  -- where a page may be by its cluster
  abbrev pub May : ℕ → PageState → Type 0
  May p state = IsMoving (is_in rest.queue (cluster_at layout p)) (is_in leaving (cluster_at layout p)) (cluster_at layout p == c) state

  -- a page that leaves may be in any state
  pub leaves_may : (p : ℕ) (state : PageState) → is_in leaving (cluster_at layout p) ≡ true → May p state
  leaves_may p state h = let q = old.apart.2 (cluster_at layout p) h in rw (q, h) tt

  -- a page that is fetched may be in any state but blocked
  pub fetched_may : (p : ℕ) (state : PageState) → cluster_at layout p ≡ c → (state ≡ Blocked → ⊥) → May p state
  fetched_may p state h free =
      let q : is_in rest.queue (cluster_at layout p) ≡ false = subst (λ x. is_in rest.queue x ≡ false) (sym h) old.apart.0 in
      let d : is_in leaving (cluster_at layout p) ≡ false = subst (λ x. is_in leaving x ≡ false) (sym h) old.apart.1 in
      let e : (cluster_at layout p == c) ≡ true = grind (arith, nat_tests) in
      rw (q, d, e) free

  fits_with : (p : ℕ) (state : PageState) → May p state → (q : ℕ) → q < pages layout → May q (with_state states p state q)
  fits_with p state new q low = by (q == p) refl
    where
      by : (b : Bool) → (q == p) ≡ b → May q (if b then state else states q)
      by true e = let s = eqb-true q p e in subst (λ x. May x state) (sym s) new
      by false e = old.fits q low

  -- a move of the tables, after which the pages are in these states
  keeps : (pair : Pair) → is_done pair.1 ≡ true → (next : ℕ → PageState) → PagesStand layout (pair ∷ past) next → ((q : ℕ) → q < pages layout → May q (next q))
      → ((q : ℕ) → inside (pair ∷ past) q ≡ inside past q) → service (pair ∷ past) ≡ service past → is_ended (pair ∷ past) ≡ is_ended past → entered_since_ask (pair ∷ past) ≡ entered_since_ask past → shows_stop (pair ∷ past) ≡ shows_stop past
      → IsHonest layout (pair ∷ past) control (Requested c) rest next
  keeps pair done next stands fits same_inside same_service same_ended same_asked same_stops = record {
    control_is = old.control_is;
    inside_is = λ lp. same_inside lp ∙ old.inside_is lp;
    stands = stands;
    fits = λ p low. subst (λ s. IsMoving (is_in rest.queue (cluster_at layout p)) (is_in (dropped_for s.request) (cluster_at layout p)) (cluster_at layout p == c) (next p)) (sym same_service) (fits p low);
    apart = subst (λ s. (is_in rest.queue c ≡ false) × (is_in (dropped_for s.request) c ≡ false) × ((x : ℕ) → is_in (dropped_for s.request) x ≡ true → is_in rest.queue x ≡ false)) (sym same_service) old.apart;
    closed = λ a. absurd (cc);
    waits = λ a. same_asked ∙ old.waits refl;
    unstopped = same_stops ∙ old.unstopped;
    going = same_ended ∙ old.going;
    unbroken = old.unbroken;
    granted = done_granted pair past done;
  }

  -- what is left for a page of a cluster that leaves, or of the one that is fetched
  leaving_left : (p : ℕ) (state : PageState) → is_in leaving (cluster_at layout p) ≡ true → (was : PageState) → states p ≡ was → page_left true state < page_left true was
      → page_left (is_in leaving (cluster_at layout p)) state < page_left (is_in leaving (cluster_at layout p)) (states p)
  leaving_left p state h was e lt = rw (h, e) lt

  stays : (p : ℕ) → cluster_at layout p ≡ c → is_in leaving (cluster_at layout p) ≡ false
  stays p h = subst (λ x. is_in leaving x ≡ false) (sym h) old.apart.1

  fetched_left : (p : ℕ) (state : PageState) → cluster_at layout p ≡ c → (was : PageState) → states p ≡ was → page_left false state < page_left false was
      → page_left (is_in leaving (cluster_at layout p)) state < page_left (is_in leaving (cluster_at layout p)) (states p)
  fetched_left p state h was e lt = let s = stays p h in rw (s, e) lt

  -- a page that is in a frame and unmapped is not blocked
  unblocked : (p f : ℕ) → p < pages layout → states p ≡ Unmapped → place layout past p ≡ InFrame f → blocked_at past f ≡ None
  unblocked p f low e at =
      let was : IsInState layout past p Unmapped = subst (λ s. IsInState layout past p s) e (old.stands.each p low) in
      let s : was.0.frame ≡ f = let a = was.0.placed in let b : InFrame was.0.frame ≡ InFrame f = sym a ∙ at in cc in
      subst (λ g. blocked_at past g ≡ None) s was.1

  -- (a) a page that leaves is unmapped
  pub serves_unmap : (p : ℕ) → p < pages layout → is_in leaving (cluster_at layout p) ≡ true → states p ≡ In
      → Serves layout past control c rest states (SetPte (record { 0 = p }) (record { 0 = 0 }) no_flags)
  serves_unmap p low h e = record {
    answer_is = Ok;
    answered = set_granted layout past states control valid copies old.stands p 0 no_flags low;
    done = refl;
    states = with_state states p Unmapped;
    holds = keeps (SetPte (record { 0 = p }) (record { 0 = 0 }) no_flags, Ok) refl (with_state states p Unmapped) (unmaps layout past states old.stands p 0 low e) (fits_with p Unmapped (leaves_may p Unmapped h)) (λ q. refl) refl refl refl refl;
    same_service = refl;
    not_run = refl;
    not_exit = λ exit e. cc;
    not_resumed = refl;
    fewer = fewer_pages _ _ _ _ (state_less layout leaving c states p Unmapped (leaving_served layout leaving c p low h) (leaving_left p Unmapped h In e (omega arith))) (no_more _);
  }

  -- (b) its frame is blocked
  pub serves_block : (p f : ℕ) → p < pages layout → is_in leaving (cluster_at layout p) ≡ true → states p ≡ Unmapped → place layout past p ≡ InFrame f
      → Serves layout past control c rest states (Eblock (record { 0 = f }))
  serves_block p f low h e at = record {
    answer_is = Ok;
    answered = block_granted layout past states control valid copies old.stands p f low e at;
    done = refl;
    states = with_state states p Blocked;
    holds = keeps (Eblock (record { 0 = f }), Ok) refl (with_state states p Blocked) (blocks layout past states old.stands copies p f low e at) (fits_with p Blocked (leaves_may p Blocked h)) (λ q. refl) refl refl refl refl;
    same_service = refl;
    not_run = refl;
    not_exit = λ exit e. cc;
    not_resumed = refl;
    fewer = fewer_pages _ _ _ _ (state_less layout leaving c states p Blocked (leaving_served layout leaving c p low h) (leaving_left p Blocked h Unmapped e (omega arith))) (block_left layout past leaving ((Eblock (record { 0 = f }), Ok) ∷ past) p f low h at (unblocked p f low e at));
  }

  -- (c) a tracking cycle
  pub serves_track : Each (λ p. on_frame (frame_of layout past p) (λ f. is_none (blocked_at past f)) ≡ false) (leaving_pages layout leaving) → (p : ℕ) → p < pages layout → is_in leaving (cluster_at layout p) ≡ true → is_untracked layout past p ≡ true
      → Serves layout past control c rest states Etrack
  serves_track blocked p low h t = record {
    answer_is = Ok;
    answered = track_granted layout past states control valid copies old.stands;
    done = refl;
    states = states;
    holds = keeps (Etrack, Ok) refl states (tracks layout past states old.stands (nobody layout past control (Requested c) rest states old refl)) old.fits (λ q. refl) refl refl refl refl;
    same_service = refl;
    not_run = refl;
    not_exit = λ exit e. cc;
    not_resumed = refl;
    fewer = fewer_cycles _ _ _ (track_left layout past leaving (nobody layout past control (Requested c) rest states old refl) blocked) (one_passes (is_untracked layout past) p (leaving_pages layout leaving) (leaving_listed layout leaving p low h) t);
  }

  -- (d) it is written out
  pub serves_write : (p f : ℕ) → p < pages layout → is_in leaving (cluster_at layout p) ≡ true → states p ≡ Blocked → place layout past p ≡ InFrame f → tracked layout past f ≡ true → Each (λ x. is_untracked layout past x ≡ false) (leaving_pages layout leaving)
      → Serves layout past control c rest states (Ewb (record { 0 = f }) (record { 0 = 1 }) p)
  serves_write p f low h e at done all = record {
    answer_is = OkHandle (record { 0 = given layout past });
    answered = write_granted layout past states control valid copies old.stands p f low e at done;
    done = refl;
    states = with_state states p Out;
    holds = keeps (Ewb (record { 0 = f }) (record { 0 = 1 }) p, OkHandle (record { 0 = given layout past })) refl (with_state states p Out) (writes_out layout past states old.stands copies p f low e at) (fits_with p Out (leaves_may p Out h)) (λ q. refl) refl refl refl refl;
    same_service = refl;
    not_run = refl;
    not_exit = λ exit e. cc;
    not_resumed = refl;
    fewer = fewer_pages _ _ _ _ (state_less layout leaving c states p Out (leaving_served layout leaving c p low h) (leaving_left p Out h Blocked e (omega arith))) (no_cycle _ _ (write_left layout past leaving states copies old.stands p f at all));
  }

  -- (e) a page that is fetched is loaded
  pub serves_load : (p f k : ℕ) → p < pages layout → cluster_at layout p ≡ c → states p ≡ Out → place layout past p ≡ InHandle k → slot layout past 1 p ≡ Some k → held layout past f ≡ FreeFrame → f < layout.frames → Each (λ x. is_some (frame_of layout past x) ≡ false) (leaving_pages layout leaving)
      → Serves layout past control c rest states (Eldu (record { 0 = f }) (record { 0 = k }) (record { 0 = p }) (record { 0 = 1 }) p)
  serves_load p f k low h e at full free high gone = record {
    answer_is = Ok;
    answered = load_granted layout past states control valid copies old.stands p f k low at full free high;
    done = refl;
    states = with_state states p Unmapped;
    holds = keeps (Eldu (record { 0 = f }) (record { 0 = k }) (record { 0 = p }) (record { 0 = 1 }) p, Ok) refl (with_state states p Unmapped) (loads layout past states old.stands copies p f k low e free high) (fits_with p Unmapped (fetched_may p Unmapped h (λ b. cc))) (λ q. refl) refl refl refl refl;
    same_service = refl;
    not_run = refl;
    not_exit = λ exit e. cc;
    not_resumed = refl;
    fewer = fewer_pages _ _ _ _ (state_less layout leaving c states p Unmapped (fetched_served layout leaving c p low h) (fetched_left p Unmapped h Out e (omega arith))) (no_cycle _ _ (load_left layout past leaving p f k (stays p h) gone));
  }

  -- (f) it is mapped
  pub serves_map : (p f : ℕ) → p < pages layout → cluster_at layout p ≡ c → states p ≡ Unmapped → place layout past p ≡ InFrame f
      → Serves layout past control c rest states (SetPte (record { 0 = p }) (record { 0 = f }) (strong_flags (perm_of layout p)))
  serves_map p f low h e at = record {
    answer_is = Ok;
    answered = set_granted layout past states control valid copies old.stands p f (strong_flags (perm_of layout p)) low;
    done = refl;
    states = with_state states p In;
    holds = keeps (SetPte (record { 0 = p }) (record { 0 = f }) (strong_flags (perm_of layout p)), Ok) refl (with_state states p In) (maps layout past states old.stands p low e f at) (fits_with p In (fetched_may p In h (λ b. cc))) (λ q. refl) refl refl refl refl;
    same_service = refl;
    not_run = refl;
    not_exit = λ exit e. cc;
    not_resumed = refl;
    fewer = fewer_pages _ _ _ _ (state_less layout leaving c states p In (fetched_served layout leaving c p low h) (fetched_left p In h Unmapped e (omega arith))) (no_more _);
  }
