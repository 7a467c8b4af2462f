-- What was said of turns and tape stays so when a call returns one more value: the flat run goes on as far as it came.
use Rattle.std.proofs.Common.{◌≡◌, ℕ, List, [], ◌∷◌, ◌++◌, refl, ap, ◌∙◌}
use Rattle.std.specs.Prelude.{Bool, true, false, cond, filter, flat_map, take, slice_get, option_map, option_and_then, Option, Some, None}
use Rattle.std.specs.List.{list_all}
use Rattle.ak_core.specs.Layout.{Layout}
use Rattle.ak_core.specs.Mem.{Access}
use Rattle.ak_core.specs.declared.event.Event.{Event}
use Rattle.ak_core.specs.declared.event.Event.TheVariants.{Call, Miss, Trap, Break}
use Rattle.ak_model.specs.Flat.FlatRuns.{FlatRun, End, ending, flat_run}
use Rattle.ak_model.specs.Tapes.LastMoment.{FlatRuns}
use Rattle.ak_model.specs.Sound.Events.{completed_by, vector_by, ending_at, call_at, TrapsAreForced}
use Rattle.ak_model.specs.Tapes.ProgramTurns.{ProgramTurn}
use Rattle.ak_model.specs.Misses.Reached.{accesses_at, ComesTo}
use Rattle.ak_model.specs.Misses.FaultingAccess.{may_succeed}
use Rattle.ak_model.specs.Sound.Forced.{EachTurn, ReachedBy}
use Rattle.ak_model.specs.Sound.ForcedMisses.{MissedBy}
use Rattle.ak_model.specs.Sound.BreaksAndStop.{BrokenUnkeptBy}
use Rattle.ak_model.specs.Misses.KeptTranslations.{completed_since, granted_since, is_kept, MayFaultUnkept}
use Rattle.ak_model.proofs.Flat.MoreCallAnswers.{flat_run-longer}
use Rattle.ak_model.proofs.Tapes.MoreValuesReturned.{accesses-longer, comes-longer, completes-longer, faults-comes}
use Rattle.ak_relation.specs.Program.Turns.{TapeStands, TurnsStand}

module _ (layout : Layout) (image returned more : List ℕ) where
  -- the flat run before and after
  abbrev before : FlatRuns
  before = flat_run layout image returned

  abbrev longer : FlatRuns
  longer = flat_run layout image (returned ++ more)

  -- ---- Granted accesses

  -- the flat run comes to each of these turns
  abbrev pub AllCome : List ProgramTurn → Type 0
  AllCome turns = EachTurn (λ turn. λ older. ComesTo before turn) turns

  by_test : (b : Bool) (turn new : ProgramTurn) (older : List ProgramTurn) → accesses_at layout longer new ≡ accesses_at layout before new →
      granted_since layout longer turn older ≡ granted_since layout before turn older →
      flat_map (accesses_at layout longer) (cond b (new ∷ filter (completed_since turn) older) (filter (completed_since turn) older))
      ≡ flat_map (accesses_at layout before) (cond b (new ∷ filter (completed_since turn) older) (filter (completed_since turn) older))
  by_test true turn new older e rest =
      ap (λ ts. ts ++ granted_since layout longer turn older) e ∙ ap (λ ts. accesses_at layout before new ++ ts) rest
  by_test false turn new older e rest = rest

  -- the same accesses were granted
  pub granted-longer : (turn : ProgramTurn) (older : List ProgramTurn) → AllCome older → granted_since layout longer turn older ≡ granted_since layout before turn older
  granted-longer turn [] came = refl
  granted-longer turn (new ∷ older) came =
      by_test (completed_since turn new) turn new older (accesses-longer layout image returned more new came.0) (granted-longer turn older came.1)

  -- an access that might fault unkept does so still
  pub unkept-longer : (turn : ProgramTurn) (older : List ProgramTurn) (t : Access) → AllCome older → MayFaultUnkept layout before turn older t → MayFaultUnkept layout longer turn older t
  unkept-longer turn older t came h =
      let same = accesses-longer layout image returned more turn (faults-comes layout image returned more turn t h.may_fault) in
      record {
        may_fault = record {
          place = h.may_fault.place;
          stands = ap (λ accesses. slice_get accesses h.may_fault.place) same ∙ h.may_fault.stands;
          permitted = h.may_fault.permitted;
          unmapped = h.may_fault.unmapped;
          earlier = ap (λ accesses. list_all (may_succeed layout turn) (take h.may_fault.place accesses)) same ∙ h.may_fault.earlier;
        };
        unkept =
            ap (λ ts. is_kept (ts ++ take h.may_fault.place (accesses_at layout longer turn)) t) (granted-longer turn older came)
            ∙ ap (λ ts. is_kept (granted_since layout before turn older ++ take h.may_fault.place ts) t) same ∙ h.unkept;
      }

  -- ---- Turns that stand

  reached : (turn : ProgramTurn) (event : Option Event) → ComesTo before turn → ReachedBy layout before turn event → ReachedBy layout longer turn event
  reached turn None came h = completes-longer layout image returned more turn came h
  reached turn (Some (Call i b a)) came h = completes-longer layout image returned more turn came h
  reached turn (Some (Trap i v)) came h = completes-longer layout image returned more turn came h
  reached turn (Some (Miss i c)) came h = tt
  reached turn (Some (Break i)) came h = tt

  missed : (turn : ProgramTurn) (older : List ProgramTurn) (event : Option Event) → AllCome older → MissedBy layout before turn older event → MissedBy layout longer turn older event
  missed turn older (Some (Miss i c)) came h = record { access = h.access; faults = unkept-longer turn older h.access came h.faults; cluster = h.cluster; out = h.out }
  missed turn older None came h = tt
  missed turn older (Some (Call i b a)) came h = tt
  missed turn older (Some (Trap i v)) came h = tt
  missed turn older (Some (Break i)) came h = tt

  broken : (turn : ProgramTurn) (older : List ProgramTurn) (event : Option Event) → AllCome older → BrokenUnkeptBy layout before None turn older event → BrokenUnkeptBy layout longer None turn older event
  broken turn older (Some (Break i)) came h = record { access = h.access; faults = record { unkept = unkept-longer turn older h.access came h.faults.unkept; named = tt }; inside = h.inside }
  broken turn older None came h = tt
  broken turn older (Some (Call i b a)) came h = tt
  broken turn older (Some (Trap i v)) came h = tt
  broken turn older (Some (Miss i c)) came h = tt

  -- the flat run comes to each turn that stands
  pub all_come : (turns : List ProgramTurn) → TurnsStand layout before turns → AllCome turns
  all_come [] h = tt
  all_come (turn ∷ older) h = let own = h.0 in (own.comes, all_come older h.1)

  -- each turn stands still
  pub turns-longer : (turns : List ProgramTurn) → TurnsStand layout before turns → TurnsStand layout longer turns
  turns-longer [] h = tt
  turns-longer (turn ∷ older) h =
      let own = h.0 in let came = all_come older h.1 in (
        record {
          comes = comes-longer layout image returned more turn own.comes;
          reached = reached turn turn.event own.comes own.reached;
          missed = missed turn older turn.event came own.missed;
          broken = broken turn older turn.event came own.broken;
        },
        turns-longer older h.1,
      )

  -- ---- The tape

  there : {A : Type 0} (f : End → Option A) (x : A) (i : ℕ) (o : Option FlatRun) → before i ≡ o → option_and_then f (option_map (λ run. ending layout run.flat) o) ≡ Some x →
      option_and_then f (ending_at layout longer i) ≡ Some x
  there f x i None e h = absurd (cc)
  there f x i (Some run) e h = ap (λ r. option_and_then f (option_map (λ run. ending layout run.flat) r)) (flat_run-longer layout image more returned i run e) ∙ h

  traps : (events : List Event) → TrapsAreForced layout before events → TrapsAreForced layout longer events
  traps [] h = tt
  traps (Trap i v ∷ events) h = (there vector_by v i (before i) refl h.0, traps events h.1)
  traps (Call i b a ∷ events) h = (tt, traps events h.1)
  traps (Miss i c ∷ events) h = (tt, traps events h.1)
  traps (Break i ∷ events) h = (tt, traps events h.1)

  -- the tape is one of the program still
  pub tape-longer : (count : ℕ) (events : List Event) → TapeStands layout before count events → TapeStands layout longer count events
  tape-longer count events h = record {
    ordered = h.ordered;
    fit = h.fit;
    completed = λ i lt. there completed_by (call_at events i) i (before i) refl (h.completed i lt);
    traps = traps events h.traps;
  }
