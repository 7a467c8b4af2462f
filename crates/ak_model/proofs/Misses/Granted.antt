-- The accesses that were granted since an entering: none right after it; more by the line of each instruction that completes; and the
-- same ones throughout the stay.
use Rattle.std.proofs.Common.{◌≡◌, ℕ, ◌+◌, ◌<◌, List, [], ◌∷◌, ◌++◌, length, refl, ap, ◌∙◌, arith}
use Rattle.std.proofs.lemmas.Bool.Decides.{nat_tests}
use Rattle.std.specs.Prelude.{Bool, true, false, ◌&&◌, filter, flat_map, cond, Option, Some, None, is_some, unwrap_or, ◌==◌}
use Rattle.ak_core.specs.Layout.{Layout}
use Rattle.ak_core.specs.Mem.{Access}
use Rattle.ak_model.specs.Paging.Inside.{since}
use Rattle.ak_model.specs.Tapes.LastMoment.{FlatRuns}
use Rattle.ak_model.specs.Tapes.ProgramTurns.{ProgramTurn}
use Rattle.ak_model.specs.Misses.Reached.{entered_at, accesses_at}
use Rattle.ak_model.specs.Misses.KeptTranslations.{completes_by, completed_since, granted_since}
use Rattle.ak_model.specs.Laws.EarlierTurns.{AreEarlier}
use Rattle.ak_model.proofs.Paging.SincePast.{since_past}

-- ---- The same throughout the stay

module _ (layout : Layout) (runs : FlatRuns) where
  granted_by : ℕ → ℕ → List ProgramTurn → List Access
  granted_by lp place older =
      flat_map (accesses_at layout runs) (filter (λ earlier. completes_by earlier.event && ((earlier.lp == lp) && (entered_at earlier == place))) older)

  -- two turns of one stay
  pub granted-same : (turn other : ProgramTurn) (older : List ProgramTurn) → turn.lp ≡ other.lp → entered_at turn ≡ entered_at other →
      granted_since layout runs turn older ≡ granted_since layout runs other older
  unfolding granted_by
  granted-same turn other older lp place = ap (λ q. granted_by q (entered_at turn) older) lp ∙ ap (λ n. granted_by other.lp n older) place

  -- ---- One more turn

  -- an instruction that completes in the stay grants the accesses of its line
  pub granted-completes : (turn new : ProgramTurn) (older : List ProgramTurn) → completed_since turn new ≡ true →
      granted_since layout runs turn (new ∷ older) ≡ accesses_at layout runs new ++ granted_since layout runs turn older
  granted-completes turn new older h =
      ap (λ b. flat_map (accesses_at layout runs) (cond b (new ∷ filter (completed_since turn) older) (filter (completed_since turn) older))) h

  -- any other turn grants nothing
  pub granted-not : (turn new : ProgramTurn) (older : List ProgramTurn) → completed_since turn new ≡ false →
      granted_since layout runs turn (new ∷ older) ≡ granted_since layout runs turn older
  granted-not turn new older h =
      ap (λ b. flat_map (accesses_at layout runs) (cond b (new ∷ filter (completed_since turn) older) (filter (completed_since turn) older))) h

  -- ---- Right after the entering

  both_false : (a b c : Bool) → c ≡ false → (a && (b && c)) ≡ false
  both_false true true c h = h
  both_false true false c h = refl
  both_false false b c h = refl

  less_not : (n m : ℕ) → n < m → (n == m) ≡ false
  less_not n m h = grind (arith, nat_tests)

  entered_early : (turn : ProgramTurn) (o : Option ℕ) (n : ℕ) → since turn.past turn.lp ≡ o → is_some o ≡ true → length turn.past < n → entered_at turn < n
  entered_early turn None n e some lt = absurd (cc)
  entered_early turn (Some place) n e some lt =
      let at : entered_at turn ≡ place = ap (λ o. unwrap_or o (length turn.past + 1)) e in
      let le = since_past turn.past turn.lp place e in omega arith

  -- nothing was granted yet, where all turns are of earlier histories
  pub granted-none : (turn : ProgramTurn) (older : List ProgramTurn) (n : ℕ) → AreEarlier n older → n < entered_at turn → granted_since layout runs turn older ≡ []
  granted-none turn [] n h lt = refl
  granted-none turn (new ∷ older) n h lt =
      let low = h.1 in
      let early = entered_early new (since new.past new.lp) (entered_at turn) refl h.0 (omega arith) in
      granted-not turn new older (both_false (completes_by new.event) (new.lp == turn.lp) (entered_at new == entered_at turn) (less_not (entered_at new) (entered_at turn) early))
      ∙ granted-none turn older n h.2 lt
