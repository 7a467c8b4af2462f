-- The rules of serving: the move that they give is done and keeps the invariant, or all is served.
use Rattle.std.proofs.Common.{◌≡◌, ℕ, ◌<◌, arith, List, refl, sym, ◌∙◌, subst, ap, ◌⊎◌, inl, inr}
use Rattle.std.specs.Prelude.{Bool, true, false, not, Option, Some, None, is_some, is_none, find, flat_map, ◌==◌}
use Rattle.std.proofs.lemmas.Bool.{not-true}
use Rattle.std.proofs.lemmas.Bool.Decides.{nat_tests}
use Rattle.ak_core.specs.Layout.{Layout, IsValid}
use Rattle.ak_core.specs.declared.moves.Move.{Move}
use Rattle.ak_core.specs.declared.moves.Move.TheVariants.{SetPte, Eblock, Ewb, Eldu, Eenter}
use Rattle.ak_model.specs.Paging.Pages.{pages, pages_of, cluster_at, perm_of, strong_flags}
use Rattle.ak_model.specs.Paging.Histories.{History}
use Rattle.ak_model.specs.Paging.Frames.{blocked_at}
use Rattle.ak_model.specs.Paging.PageTable.{pte}
use Rattle.ak_model.specs.Control.ControlState.{Control}
use Rattle.ak_model.specs.Kernels.Counted.{service}
use Rattle.ak_model.specs.Kernels.KernelRules.{is_mapped}
use Rattle.ak_model.specs.Clusters.Queue.{is_in}
use Rattle.ak_model.specs.Kernels.HonestKernel.{frame_in, frame_of, newest_copy, on_frame, move_on, load_into, Rule, Passes, Gives, or_else, rule_on, unmap_evicted, block_rule, track_rule, write_out_rule, load_rule, map_rule, enter_with, serve}
use Rattle.ak_model.specs.Laws.OneLiveCopy.{OneCopy}
use Rattle.ak_driver.proofs.Invariant.PageStates.{PageState, Out, Blocked, In}
use Rattle.ak_driver.proofs.Invariant.Spots.{Requested, Progress}
use Rattle.ak_driver.proofs.Invariant.HonestMoments.{IsHonest, IsFetched, IsMoving, dropped_for}
use Rattle.ak_driver.proofs.Invariant.ServingMoves.{Serves, HasRoom, is_untracked}
use Rattle.ak_driver.proofs.Serving.Finding.{Each, each_both, Found, finds, IsOf, IsAmong, each_of, each_among, among_listed}
use Rattle.ak_driver.proofs.Serving.ServingSteps.{serves_unmap, serves_block, serves_track, serves_write, serves_load, serves_map}
use Rattle.ak_driver.proofs.Serving.StateViews.{present_in, in_present, unmapped_or, blocked_or, out_or, unmapped_in}

module _ (layout : Layout) (past : History) (control : Control) (c : ℕ) (rest : Progress) (states : ℕ → PageState) (valid : IsValid layout) (copies : OneCopy layout past) (old : IsHonest layout past control (Requested c) rest states) (room : HasRoom layout past c states) where
  abbrev pub leaving : List ℕ
  leaving = dropped_for (service past).request

  abbrev pub evicted : List ℕ
  evicted = flat_map (pages_of layout) leaving

  abbrev pub fetched : List ℕ
  fetched = pages_of layout c

  -- ---- What a rule comes to

  -- a rule that passes leaves these facts; the move that it gives is as wanted
  abbrev Ruled : (Move → Type 0) → Type 0 → Rule → Type 0
  Ruled Q F Passes = F
  Ruled Q F (Gives None) = ⊥
  Ruled Q F (Gives (Some m)) = Q m

  chain : (Q : Move → Type 0) (F G : Type 0) (r s : Rule) → Ruled Q F r → (F → Ruled Q G s) → Ruled Q G (or_else r s)
  chain Q F G Passes s h k = k h
  chain Q F G (Gives None) s h k = h
  chain Q F G (Gives (Some m)) s h k = h

  -- the rule for the first that passes the test
  first_rule : (Q : Move → Type 0) (P : ℕ → Type 0) (test : ℕ → Bool) (all : List ℕ) (rule_of : ℕ → Rule) → Each P all
      → ((p : ℕ) → P p → test p ≡ true → Ruled Q (Each (λ x. test x ≡ false) all) (rule_of p)) → Ruled Q (Each (λ x. test x ≡ false) all) (rule_on (find test all) rule_of)
  first_rule Q P test all rule_of each h = by (find test all) (finds P test all each)
    where
      by : (o : Option ℕ) → Found P test all o → Ruled Q (Each (λ x. test x ≡ false) all) (rule_on o rule_of)
      by None f = f
      by (Some p) f = h p f.0 f.1

  -- ---- The tests, and what a served request has

  abbrev pub is_present : ℕ → Bool
  is_present p = (pte layout past p).flags.p

  abbrev pub is_unblocked : ℕ → Bool
  is_unblocked p = on_frame (frame_of layout past p) (λ f. is_none (blocked_at past f))

  -- the entry, once no evicted page is in a frame, and each fetched one is mapped
  pub record Enters (m : Move) : Type 0 where
    pub enter : m ≡ Eenter (record { 0 = 0 }) 0
    pub evicted_out : Each (λ p. is_some (frame_of layout past p) ≡ false) evicted
    pub fetched_in : Each (λ p. not (is_mapped layout past p) ≡ false) fetched

  abbrev pub Does : Move → Type 0
  Does m = Serves layout past control c rest states m ⊎ Enters m

  not_in : (p : ℕ) → p < pages layout → is_present p ≡ false → states p ≡ In → ⊥
  not_in p low h e = absurd (let t = in_present layout past states copies old.stands p low e in let b : true ≡ false = sym t ∙ h in cc)

  -- ---- The rules

  unmap_ruled : Ruled Does (Each (λ p. is_present p ≡ false) evicted) (unmap_evicted layout past evicted)
  unmap_ruled = first_rule Does (IsAmong layout leaving) is_present evicted _ (each_among layout leaving)
      (λ p h t. inl (serves_unmap layout past control c rest states valid copies old p h.0 h.1 (present_in layout past states copies old.stands p h.0 t)))

  block_ruled : Each (λ p. is_present p ≡ false) evicted → Ruled Does (Each (λ p. is_unblocked p ≡ false) evicted) (block_rule layout past evicted)
  block_ruled bare = first_rule Does (λ p. IsAmong layout leaving p × (is_present p ≡ false)) is_unblocked evicted _ (each_both _ _ evicted (each_among layout leaving) bare)
      (λ p h t.
      let v = unmapped_or layout past states copies old.stands p h.0.0 t (not_in p h.0.0 h.1) in
      subst (λ o. Ruled Does (Each (λ x. is_unblocked x ≡ false) evicted) (move_on o (λ f. Eblock (record { 0 = f })))) (sym (ap frame_in v.2))
      (inl (serves_block layout past control c rest states valid copies old p v.0 h.0.0 h.0.1 v.1 v.2)))

  track_ruled : Each (λ p. is_unblocked p ≡ false) evicted → Ruled Does (Each (λ p. is_untracked layout past p ≡ false) evicted) (track_rule layout past evicted)
  track_ruled blocked = first_rule Does (IsAmong layout leaving) (is_untracked layout past) evicted _ (each_among layout leaving)
      (λ p h t. inl (serves_track layout past control c rest states valid copies old blocked p h.0 h.1 t))

  write_ruled : Each (λ p. is_unblocked p ≡ false) evicted → Each (λ p. is_untracked layout past p ≡ false) evicted → Ruled Does (Each (λ p. is_some (frame_of layout past p) ≡ false) evicted) (write_out_rule layout past evicted)
  write_ruled blocked tracked_all = first_rule Does (λ p. IsAmong layout leaving p × ((is_unblocked p ≡ false) × (is_untracked layout past p ≡ false))) (λ p. is_some (frame_of layout past p)) evicted _
      (each_both _ _ evicted (each_among layout leaving) (each_both _ _ evicted blocked tracked_all))
      (λ p h t.
      let v = blocked_or layout past states copies old.stands p h.0.0 t h.1.0 h.1.1 in
      subst (λ o. Ruled Does (Each (λ x. is_some (frame_of layout past x) ≡ false) evicted) (move_on o (λ f. Ewb (record { 0 = f }) (record { 0 = 1 }) p))) (sym (ap frame_in v.2))
      (inl (serves_write layout past control c rest states valid copies old p v.0 h.0.0 h.0.1 v.1 v.2 v.3 tracked_all)))

  -- each page that leaves is out, where no evicted one is in a frame
  all_out : Each (λ p. is_some (frame_of layout past p) ≡ false) evicted → (q : ℕ) → q < pages layout → is_in leaving (cluster_at layout q) ≡ true → states q ≡ Out
  all_out gone q low h =
      (out_or layout past states copies old.stands q low (no_frame (frame_of layout past q) (among_listed layout (λ p. is_some (frame_of layout past p) ≡ false) leaving q low h gone))).1
    where
      no_frame : (o : Option ℕ) → is_some o ≡ false → is_none o ≡ true
      no_frame None h = refl
      no_frame (Some f) h = absurd (cc)

  load_ruled : Each (λ p. is_some (frame_of layout past p) ≡ false) evicted → Ruled Does (Each (λ p. is_none (frame_of layout past p) ≡ false) fetched) (load_rule layout past fetched)
  load_ruled gone = first_rule Does (IsOf layout c) (λ p. is_none (frame_of layout past p)) fetched _ (each_of layout c)
      (λ p h t.
      let v = out_or layout past states copies old.stands p h.0 t in
      let f = room (all_out gone) p h.0 h.1 v.1 in
      subst (λ o. Ruled Does (Each (λ x. is_none (frame_of layout past x) ≡ false) fetched) (load_into p (newest_copy layout past p) o)) (sym f.1)
      (subst (λ copy. Does (Eldu (record { 0 = f.0 }) (record { 0 = copy.handle }) (record { 0 = p }) (record { 0 = copy.va }) copy.slot)) (sym v.4)
      (inl (serves_load layout past control c rest states valid copies old p f.0 v.0 h.0 h.1 v.1 v.2 v.3 f.2 f.3 gone))))

  -- a page that is fetched is not blocked
  never_blocked : (p : ℕ) → p < pages layout → cluster_at layout p ≡ c → states p ≡ Blocked → ⊥
  never_blocked p low h =
      let x = cluster_at layout p in
      let q : is_in rest.queue x ≡ false = subst (λ y. is_in rest.queue y ≡ false) (sym h) old.apart.0 in
      let d : is_in leaving x ≡ false = subst (λ y. is_in leaving y ≡ false) (sym h) old.apart.1 in
      let e : (x == c) ≡ true = grind (arith, nat_tests) in
      let a : IsMoving (is_in rest.queue x) (is_in leaving x) (x == c) (states p) = old.fits p low in
      let b : IsMoving false (is_in leaving x) (x == c) (states p) = subst (λ y. IsMoving y (is_in leaving x) (x == c) (states p)) q a in
      let g : IsMoving false false (x == c) (states p) = subst (λ y. IsMoving false y (x == c) (states p)) d b in
      subst (λ y. IsFetched y (states p)) e g

  map_ruled : Each (λ p. is_none (frame_of layout past p) ≡ false) fetched → Ruled Does (Each (λ p. not (is_mapped layout past p) ≡ false) fetched) (map_rule layout past fetched)
  map_ruled loaded = first_rule Does (λ p. IsOf layout c p × (is_none (frame_of layout past p) ≡ false)) (λ p. not (is_mapped layout past p)) fetched _ (each_both _ _ fetched (each_of layout c) loaded)
      (λ p h t.
      let v = unmapped_in layout past states copies old.stands p h.0.0 h.1 (not-true (is_mapped layout past p) t) (never_blocked p h.0.0 h.0.1) in
      subst (λ o. Ruled Does (Each (λ x. not (is_mapped layout past x) ≡ false) fetched) (move_on o (λ f. SetPte (record { 0 = p }) (record { 0 = f }) (strong_flags (perm_of layout p))))) (sym (ap frame_in v.2))
      (inl (serves_map layout past control c rest states valid copies old p v.0 h.0.0 h.0.1 v.1 v.2)))

  -- ---- All rules: a move is given, and it serves the request or enters once all is served
  all_served : Each (λ p. is_some (frame_of layout past p) ≡ false) evicted → Each (λ p. not (is_mapped layout past p) ≡ false) fetched → Ruled Does ⊥ (enter_with 0)
  all_served gone mapped = inr (record { enter = refl; evicted_out = gone; fetched_in = mapped })

  serve_ruled : Ruled Does ⊥ (serve layout past (Some (record { dropped = leaving; cluster = c })))
  serve_ruled =
      chain Does _ ⊥ _ _ unmap_ruled (λ bare.
      chain Does _ ⊥ _ _ (block_ruled bare) (λ blocked.
      chain Does _ ⊥ _ _ (track_ruled blocked) (λ tracked_all.
      chain Does _ ⊥ _ _ (write_ruled blocked tracked_all) (λ gone.
      chain Does _ ⊥ _ _ (load_ruled gone) (λ loaded.
      chain Does _ ⊥ _ _ (map_ruled loaded) (λ mapped.
      all_served gone mapped))))))

  given : (r : Rule) → Ruled Does ⊥ r → (m : Move) × (r ≡ Gives (Some m)) × Does m
  given Passes h = absurd h
  given (Gives None) h = absurd h
  given (Gives (Some m)) h = (m, refl, h)

  pub serve_does : (m : Move) × (serve layout past (Some (record { dropped = leaving; cluster = c })) ≡ Gives (Some m)) × Does m
  serve_does = given _ serve_ruled
