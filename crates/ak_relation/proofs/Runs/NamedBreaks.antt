-- Breaks that a stop names: there is one break at most, so where the stop names an access that forced a break it is that of each.
use Rattle.std.proofs.Common.{◌≡◌, ℕ, ◌≤◌, List, [], ◌∷◌, ◌++◌, arith, refl, ap, sym, subst}
use Rattle.std.specs.Prelude.{Option, Some, None}
use Rattle.ak_core.specs.Layout.{Layout}
use Rattle.ak_core.specs.Mem.{Access}
use Rattle.ak_core.specs.declared.event.Event.{Event}
use Rattle.ak_core.specs.declared.event.Event.TheVariants.{Call, Miss, Trap, Break}
use Rattle.ak_core.specs.declared.event.Stop.{Stop}
use Rattle.ak_core.specs.declared.event.StopCause.{StopCause}
use Rattle.ak_core.specs.declared.event.StopCause.TheVariants.{Unmapped, RuntimeUnmapped, FetchNotHonoured, ResumedEarly, Stuck}
use Rattle.ak_model.specs.Tapes.LastMoment.{FlatRuns}
use Rattle.ak_model.specs.Tapes.ProgramTurns.{ProgramTurn}
use Rattle.ak_model.specs.Laws.CountedBreaks.{break_in, breaks_by}
use Rattle.ak_model.specs.Sound.Forced.{EachTurn, queue_by, IfBroken}
use Rattle.ak_model.specs.Sound.BreaksAndStop.{NamedBy, NamesAccess, MayBreak, BreakIsForcedUnkept, BrokenUnkeptBy}
use Rattle.ak_model.proofs.Tapes.EachTurn.{each-from, broken-from, faults-from}
use Rattle.ak_relation.specs.Relation.Journals.{CauseNamesBreak, StopNamesBreak}

-- where none breaks
not_broken : (P : Type 0) (event : Option Event) → break_in event ≡ 0 → IfBroken event P
not_broken P None none = tt
not_broken P (Some (Call i b a)) none = tt
not_broken P (Some (Miss i c)) none = tt
not_broken P (Some (Trap i v)) none = tt
not_broken P (Some (Break i)) none = absurd (omega arith)

unbroken : (P : ProgramTurn → List ProgramTurn → Type 0) (turns : List ProgramTurn) → breaks_by turns ≡ 0 → EachTurn (λ turn. λ older. IfBroken turn.event (P turn older)) turns
unbroken P [] none = tt
unbroken P (turn ∷ older) none =
    (not_broken (P turn older) turn.event (let n = breaks_by older in omega arith), unbroken P older (let n = break_in turn.event in omega arith))

is_one : (event : Option Event) (i : ℕ) → event ≡ Some (Break i) → break_in event ≡ 1
is_one event i e = ap break_in e

some_break : (newer : List ProgramTurn) (turn : ProgramTurn) (older : List ProgramTurn) → break_in turn.event ≡ 1 → 1 ≤ breaks_by (newer ++ turn ∷ older)
some_break [] turn older one = omega arith
some_break (new ∷ newer) turn older one = let more = some_break newer turn older one in omega (arith, more)

-- one break, of which this holds
only_break : (P : ProgramTurn → List ProgramTurn → Type 0) (newer : List ProgramTurn) (turn : ProgramTurn) (older : List ProgramTurn) → break_in turn.event ≡ 1 →
    P turn older → breaks_by (newer ++ turn ∷ older) ≤ 1 → EachTurn (λ turn. λ older. IfBroken turn.event (P turn older)) (newer ++ turn ∷ older)
only_break P [] turn older one h few = (fact turn.event, unbroken P older (omega arith))
  where
    fact : (event : Option Event) → IfBroken event (P turn older)
    fact None = tt
    fact (Some (Call i b a)) = tt
    fact (Some (Miss i c)) = tt
    fact (Some (Trap i v)) = tt
    fact (Some (Break i)) = h
only_break P (new ∷ newer) turn older one h few =
    let more = some_break newer turn older one in
    (not_broken (P new (newer ++ turn ∷ older)) new.event (omega (arith, more, few)), only_break P newer turn older one h (omega (arith, few)))

module _ (layout : Layout) (runs : FlatRuns) (turns : List ProgramTurn) where
  abbrev AreNamed : Option Stop → Type 0
  AreNamed stop = EachTurn (λ turn. λ older. BrokenUnkeptBy layout runs stop turn older turn.event) turns

  -- a stop that names each access
  any_access : (stop : Option Stop) → ((t : Access) → NamesAccess stop t) → AreNamed None → AreNamed stop
  any_access stop named h =
      each-from (λ turn. λ older. BrokenUnkeptBy layout runs None turn older turn.event) (λ turn. λ older. BrokenUnkeptBy layout runs stop turn older turn.event)
      (λ turn older here.
      broken-from (BreakIsForcedUnkept layout runs None turn older) (BreakIsForcedUnkept layout runs stop turn older) turn.event
      (faults-from layout (queue_by layout older) (MayBreak layout runs None turn older) (MayBreak layout runs stop turn older)
      (λ t may. record { unkept = may.unkept; named = named t })) here)
      turns h

  module _ (few : breaks_by turns ≤ 1) (h : AreNamed None) where
    by_cause : (stop : Stop) (cause : StopCause) → stop.cause ≡ cause → CauseNamesBreak layout runs turns cause → AreNamed (Some stop)
    by_cause stop (Unmapped p kind) e b =
        subst (λ all. EachTurn (λ turn. λ older. BrokenUnkeptBy layout runs (Some stop) turn older turn.event) all) (sym b.among)
        (only_break (BreakIsForcedUnkept layout runs (Some stop)) b.newer b.turn b.older (is_one b.turn.event b.turn.count b.broke)
        (record {
          access = record { page = p; kind = kind };
          faults = record { unkept = b.faults; named = subst (λ cause. NamedBy cause (record { page = p; kind = kind })) (sym e) (refl, refl) };
          inside = b.inside;
        })
        (subst (λ all. breaks_by all ≤ 1) b.among few))
    by_cause stop (RuntimeUnmapped p kind) e b = any_access (Some stop) (λ t. subst (λ cause. NamedBy cause t) (sym e) tt) h
    by_cause stop (FetchNotHonoured p kind) e b = any_access (Some stop) (λ t. subst (λ cause. NamedBy cause t) (sym e) tt) h
    by_cause stop ResumedEarly e b = any_access (Some stop) (λ t. subst (λ cause. NamedBy cause t) (sym e) tt) h
    by_cause stop (Stuck p kind) e b = any_access (Some stop) (λ t. subst (λ cause. NamedBy cause t) (sym e) tt) h

    -- each break is forced, by an access that the stop names
    pub named_breaks : (stop : Option Stop) → StopNamesBreak layout runs turns stop → AreNamed stop
    named_breaks None names = h
    named_breaks (Some stop) names = by_cause stop stop.cause refl names
