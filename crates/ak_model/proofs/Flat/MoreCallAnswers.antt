-- The flat run with more call answers is the same as far as it went.
use Rattle.std.proofs.Common.{◌≡◌, ℕ, zero, suc, List, [], ◌∷◌, ◌++◌, refl, subst}
use Rattle.std.specs.Prelude.{Option, Some, None}
use Rattle.ak_core.specs.Layout.{Layout}
use Rattle.ak_model.specs.Flat.FlatRuns.{Flat, End, Next, Call, Vector, FlatRun, ending, after_call, after_ending, one_more, flat_run}

module _ (layout : Layout) (image : List ℕ) (more : List ℕ) where
  abbrev longer : FlatRun → FlatRun
  longer run = record run { answers = run.answers ++ more }

  -- where there is a run, there is the same one with more answers left
  abbrev Goes : Option FlatRun → Option FlatRun → Type 0
  Goes None o = Unit {0}
  Goes (Some run) o = o ≡ Some (longer run)

  answered_goes : (b : ℕ) (flat : Flat) (answers : List ℕ) → Goes (after_call b flat answers) (after_call b flat (answers ++ more))
  answered_goes zero flat answers = tt
  answered_goes (suc b) flat [] = tt
  answered_goes (suc b) flat (v ∷ answers) = refl

  ended_goes : (end : End) (answers : List ℕ) → Goes (after_ending end answers) (after_ending end (answers ++ more))
  ended_goes (Next flat) answers = refl
  ended_goes (Call b a flat) answers = answered_goes b flat answers
  ended_goes (Vector v) answers = tt

  step_goes : (o o' : Option FlatRun) → Goes o o' → Goes (one_more layout o) (one_more layout o')
  step_goes None o' h = tt
  step_goes (Some run) o' h = rw h (ended_goes (ending layout run.flat) run.answers)

  pub flat_run-more : (answers : List ℕ) (i : ℕ) → Goes (flat_run layout image answers i) (flat_run layout image (answers ++ more) i)
  flat_run-more answers zero = refl
  flat_run-more answers (suc i) = step_goes _ _ (flat_run-more answers i)

  some_goes : (o o' : Option FlatRun) (run : FlatRun) → o ≡ Some run → Goes o o' → o' ≡ Some (longer run)
  some_goes o o' run e h = let at = subst (λ x. Goes x o') e h in at

  -- where there is a run, there is the same one with more answers left
  pub flat_run-longer : (answers : List ℕ) (i : ℕ) (run : FlatRun) → flat_run layout image answers i ≡ Some run → flat_run layout image (answers ++ more) i ≡ Some (record run { answers = run.answers ++ more })
  flat_run-longer answers i run e = some_goes (flat_run layout image answers i) (flat_run layout image (answers ++ more) i) run e (flat_run-more answers i)
