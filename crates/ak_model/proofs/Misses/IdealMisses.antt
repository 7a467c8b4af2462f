-- The misses of a sound journal under a kernel that evicts, instruction by instruction.
use Rattle.std.proofs.Common.{◌≡◌, ◌⊎◌, inl, inr, ℕ, suc, ◌<◌, List, [], ◌∷◌, ◌++◌, append_assoc, length, arith, reverse, refl, ap, sym, ◌∙◌, subst}
use Rattle.std.specs.Prelude.{Bool, true, false, ◌||◌, ◌-◌, ◌==◌, if◌then◌else◌, fold, Option, Some, None, option_map}
use Rattle.std.proofs.lemmas.Bool.{eqb-true, eqb-false, eq-eqb, ne_eqb, or_cases}
use Rattle.std.proofs.lemmas.List.{append-nil}
use Rattle.std.proofs.lemmas.List.Folds.{list_any-append}
use Rattle.std.proofs.lemmas.List.Sums.{fold-append}
use Rattle.ak_core.specs.Layout.{Layout, IsValid}
use Rattle.ak_core.specs.Journal.{Journal}
use Rattle.ak_core.specs.Mem.{Access}
use Rattle.ak_core.specs.declared.event.Event.{Event}
use Rattle.ak_core.specs.declared.event.Event.TheVariants.{Call, Miss, Trap, Break}
use Rattle.ak_model.specs.Clusters.Queue.{after_miss}
use Rattle.ak_model.specs.Flat.FlatRuns.{flat_run}
use Rattle.ak_model.specs.Tapes.LastMoment.{FlatRuns, last_moment, runs_of}
use Rattle.ak_model.specs.Tapes.ProgramTurns.{ProgramTurn}
use Rattle.ak_model.specs.Laws.Premises.{with_miss, misses_at}
use Rattle.ak_model.specs.Sound.Forced.{EachTurn, queue_by, turns_of}
use Rattle.ak_model.specs.Kernels.Evictions.{Evicts}
use Rattle.ak_model.specs.Misses.Ideal.{accesses_of, first_out, misses_of, ideal_queue, ideal}
use Rattle.ak_model.specs.Laws.IdealMisses.{is_trap_at, traps_at, MissesAreIdeal}
use Rattle.ak_model.specs.Sound.SoundJournal.{Sound}
use Rattle.ak_model.proofs.Control.OrderlyTrace.{more_by}
use Rattle.ak_model.proofs.Tapes.EachTurn.{each-from_both}
use Rattle.ak_model.proofs.Tapes.TurnEvents.{EachEvent, HoldsAt, events-each}
use Rattle.ak_model.proofs.Tapes.EventsTaken.{with_event, taken}
use Rattle.ak_model.proofs.Misses.FewMisses.{few_of}
use Rattle.ak_model.proofs.Misses.MissesInARow.{FirstRun, first-begin, first-all}
use Rattle.ak_model.specs.Misses.KeptTranslations.{completes_by}
use Rattle.ak_model.specs.Laws.Orderly.{after_event}
use Rattle.ak_model.proofs.Tapes.CompletedTurns.{one_more_if, completed, trace-completed}
use Rattle.ak_model.proofs.Misses.FirstOut.{cluster_of, first_miss, MissesFirst, TurnFirst, turns-first}
use Rattle.ak_model.proofs.Kernels.NoBreakOnTape.{all-taken, sound-misses}

-- ---- One more miss in a row

row_more : (layout : Layout) (accesses : List Access) (queue misses : List ℕ) (c : ℕ) → FirstRun layout accesses queue misses → option_map (cluster_of layout) (first_out layout (fold (after_miss layout) queue misses) accesses) ≡ Some c → FirstRun layout accesses queue (misses ++ c ∷ [])
row_more layout accesses queue [] c h e = (e, tt)
row_more layout accesses queue (x ∷ misses) c h e = (h.0, row_more layout accesses (after_miss layout queue x) misses c h.1 e)

-- ---- Instruction by instruction

-- the misses of each count so far, by these functions; n instructions were completed, and these clusters are in
module _ (layout : Layout) (valid : IsValid layout) (image returned : List ℕ) where
  abbrev runs : FlatRuns
  runs = flat_run layout image returned

  abbrev accesses : ℕ → List Access
  accesses i = accesses_of layout (runs i)

  abbrev ideal_at : ℕ → List ℕ
  ideal_at i = ideal layout image returned i

  abbrev queue_at : ℕ → List ℕ
  queue_at i = ideal_queue layout image returned i

  -- an instruction that trapped is below n, or the one at n with no access that is out
  abbrev IsOver : ℕ → List ℕ → ℕ → Type 0
  IsOver n queue i = (i < n) ⊎ ((i ≡ n) × (first_out layout queue (accesses n) ≡ None))

  record SoFar (n : ℕ) (queue : List ℕ) (misses : ℕ → List ℕ) (traps : ℕ → Bool) : Type 0 where
    pub before : (i : ℕ) → i < n → misses i ≡ ideal_at i
    pub here : FirstRun layout (accesses n) (queue_at n) (misses n)
    pub queue_is : fold (after_miss layout) (queue_at n) (misses n) ≡ queue
    pub later : (i : ℕ) → n < i → misses i ≡ []
    pub trapped : (i : ℕ) → traps i ≡ true → IsOver n queue i

  -- where none of its accesses is out, the misses of the instruction at n are complete
  all_here : (n : ℕ) (queue : List ℕ) (misses : ℕ → List ℕ) (traps : ℕ → Bool) → SoFar n queue misses traps → first_out layout queue (accesses n) ≡ None → misses n ≡ ideal_at n
  all_here n queue misses traps h none =
      sym (first-all layout valid (accesses n) (few_of layout (runs n)) (queue_at n) (misses n) h.here
      (subst (λ q. first_out layout q (accesses n) ≡ None) (sym h.queue_is) none))

  -- the same misses and traps
  module _ (n : ℕ) (queue : List ℕ) (misses more : ℕ → List ℕ) (traps others : ℕ → Bool) where
    alike : SoFar n queue misses traps → ((i : ℕ) → more i ≡ misses i) → ((i : ℕ) → others i ≡ true → (traps i ≡ true) ⊎ ((i ≡ n) × (first_out layout queue (accesses n) ≡ None))) → SoFar n queue more others
    alike h e t = record {
      before = λ i l. e i ∙ h.before i l;
      here = subst (FirstRun layout (accesses n) (queue_at n)) (sym (e n)) h.here;
      queue_is = ap (fold (after_miss layout) (queue_at n)) (e n) ∙ h.queue_is;
      later = λ i l. e i ∙ h.later i l;
      trapped = λ i k. elim (t i k) [ inl old ↦ h.trapped i old | inr now ↦ inr now ];
    }

  -- an instruction is completed
  completes : (n : ℕ) (queue : List ℕ) (misses : ℕ → List ℕ) (traps : ℕ → Bool) → SoFar n queue misses traps → first_out layout queue (accesses n) ≡ None → SoFar (suc n) queue misses traps
  completes n queue misses traps h none =
      let all = all_here n queue misses traps h none in
      let empty : misses (suc n) ≡ [] = h.later (suc n) (omega arith) in
      record {
        before = λ i l. below i l all (i == n) refl;
        here = subst (FirstRun layout (accesses (suc n)) (queue_at (suc n))) (sym empty) tt;
        queue_is =
            ap (fold (after_miss layout) (queue_at (suc n))) empty
            ∙ ap (fold (after_miss layout) (queue_at n)) (sym all)
            ∙ h.queue_is;
        later = λ i l. h.later i (omega arith);
        trapped = λ i k. inl (over i (h.trapped i k));
      }
    where
      below : (i : ℕ) → i < suc n → misses n ≡ ideal_at n → (b : Bool) → (i == n) ≡ b → misses i ≡ ideal_at i
      below i l all true e = subst (λ j. misses j ≡ ideal_at j) (sym (eqb-true i n e)) all
      below i l all false e = let differ = eqb-false i n e in h.before i (omega arith)

      over : (i : ℕ) → IsOver n queue i → i < suc n
      over i (inl l) = omega arith
      over i (inr (e, none)) = omega arith

  -- the instruction at n misses a cluster
  misses_one : (n : ℕ) (queue : List ℕ) (misses more : ℕ → List ℕ) (traps others : ℕ → Bool) (c : ℕ) → SoFar n queue misses traps → first_miss layout runs queue n ≡ Some c → more n ≡ misses n ++ c ∷ [] → ((i : ℕ) → (i ≡ n → ⊥) → more i ≡ misses i) → ((i : ℕ) → others i ≡ traps i) → SoFar n (after_miss layout queue c) more others
  misses_one n queue misses more traps others c h first one rest same =
      let out = subst (λ q. option_map (cluster_of layout) (first_out layout q (accesses n)) ≡ Some c) (sym h.queue_is) first in
      record {
        before = λ i l. rest i (λ e. omega arith) ∙ h.before i l;
        here = subst (FirstRun layout (accesses n) (queue_at n)) (sym one) (row_more layout (accesses n) (queue_at n) (misses n) c h.here out);
        queue_is =
            ap (fold (after_miss layout) (queue_at n)) one
            ∙ fold-append (after_miss layout) (queue_at n) (misses n) (c ∷ [])
            ∙ ap (λ q. after_miss layout q c) h.queue_is;
        later = λ i l. rest i (λ e. omega arith) ∙ h.later i l;
        trapped = λ i k. elim (h.trapped i (sym (same i) ∙ k)) [
          | inl l ↦ inl l
          | inr now ↦ absurd (let none : first_miss layout runs queue n ≡ None = ap (option_map (cluster_of layout)) now.1 in cc)
        ];
      }

-- ---- On the tape

miss_before : (i j c : ℕ) (b : Bool) (xs ys : List ℕ) → (if b then c ∷ (xs ++ ys) else xs ++ ys) ≡ (if b then c ∷ xs else xs) ++ ys
miss_before i j c true xs ys = refl
miss_before i j c false xs ys = refl

one_before : (i : ℕ) (event : Event) (xs ys : List ℕ) → with_miss i event (xs ++ ys) ≡ with_miss i event xs ++ ys
one_before i (Miss j c) xs ys = miss_before i j c (j == i) xs ys
one_before i (Call j b a) xs ys = refl
one_before i (Trap j v) xs ys = refl
one_before i (Break j) xs ys = refl

misses_append : (done more : List Event) (i : ℕ) → misses_at (done ++ more) i ≡ misses_at done i ++ misses_at more i
misses_append [] more i = refl
misses_append (event ∷ done) more i =
    ap (with_miss i event) (misses_append done more i) ∙ one_before i event (misses_at done i) (misses_at more i)

before_rest : (event : Option Event) (rest : List Event) → with_event event rest ≡ with_event event [] ++ rest
before_rest None rest = refl
before_rest (Some event) rest = refl

-- the events of turns, before others
taken_before : (turns : List ProgramTurn) (rest : List Event) → taken turns rest ≡ taken turns [] ++ rest
taken_before [] rest = refl
taken_before (turn ∷ older) rest =
    taken_before older (with_event turn.event rest)
    ∙ ap (λ all. taken older [] ++ all) (before_rest turn.event rest)
    ∙ sym (append_assoc (taken older []) (with_event turn.event []) rest)
    ∙ ap (λ all. all ++ rest) (sym (taken_before older (with_event turn.event [])))

module _ (layout : Layout) (valid : IsValid layout) (image returned : List ℕ) where
  abbrev AtTurns : List ProgramTurn → Type 0
  AtTurns turns = SoFar layout valid image returned (completed turns) (queue_by layout turns) (misses_at (taken turns [])) (traps_at (taken turns []))

  abbrev Facts : ProgramTurn → List ProgramTurn → Type 0
  Facts turn older = TurnFirst layout (flat_run layout image returned) turn older × HoldsAt layout (λ event. Unit {0}) turn.count turn.event

  module _ (n : ℕ) (queue : List ℕ) (done : List Event) (h : SoFar layout valid image returned n queue (misses_at done) (traps_at done)) where
    abbrev none_out : Type 0
    none_out = first_out layout queue (accesses_of layout (flat_run layout image returned n)) ≡ None

    -- an event that is no miss and no trap
    plain : (event : Event) → ((i : ℕ) → with_miss i event [] ≡ []) → ((i : ℕ) → is_trap_at i event ≡ false) → SoFar layout valid image returned n queue (misses_at (done ++ event ∷ [])) (traps_at (done ++ event ∷ []))
    plain event no_miss no_trap =
        alike layout valid image returned n queue (misses_at done) (misses_at (done ++ event ∷ [])) (traps_at done) (traps_at (done ++ event ∷ [])) h
        (λ i. misses_append done (event ∷ []) i ∙ ap (λ more. misses_at done i ++ more) (no_miss i) ∙ append-nil (misses_at done i))
        (λ i k. elim (or_cases (traps_at done i) (is_trap_at i event || false) (sym (list_any-append (is_trap_at i) done (event ∷ [])) ∙ k)) [
          | inl old ↦ inl old
          | inr now ↦ absurd (let no = no_trap i in let yes = or_nil (is_trap_at i event) now in cc)
        ])
      where
        or_nil : (b : Bool) → (b || false) ≡ true → b ≡ true
        or_nil true e = refl
        or_nil false e = cc

    -- a trap of the instruction at n
    traps : (v : ℕ) → none_out → SoFar layout valid image returned n queue (misses_at (done ++ Trap n v ∷ [])) (traps_at (done ++ Trap n v ∷ []))
    traps v none =
        alike layout valid image returned n queue (misses_at done) (misses_at (done ++ Trap n v ∷ [])) (traps_at done) (traps_at (done ++ Trap n v ∷ [])) h
        (λ i. misses_append done (Trap n v ∷ []) i ∙ append-nil (misses_at done i))
        (λ i k. elim (or_cases (traps_at done i) ((n == i) || false) (sym (list_any-append (is_trap_at i) done (Trap n v ∷ [])) ∙ k)) [
          | inl old ↦ inl old
          | inr now ↦ inr (at_n i (n == i) refl now, none)
        ])
      where
        at_n : (i : ℕ) (b : Bool) → (n == i) ≡ b → (b || false) ≡ true → i ≡ n
        at_n i true e k = sym (eqb-true n i e)
        at_n i false e k = cc

    -- a miss of the instruction at n
    misses : (c : ℕ) → first_miss layout (flat_run layout image returned) queue n ≡ Some c → SoFar layout valid image returned n (after_miss layout queue c) (misses_at (done ++ Miss n c ∷ [])) (traps_at (done ++ Miss n c ∷ []))
    misses c first =
        misses_one layout valid image returned n queue (misses_at done) (misses_at (done ++ Miss n c ∷ [])) (traps_at done) (traps_at (done ++ Miss n c ∷ [])) c h first
        (misses_append done (Miss n c ∷ []) n ∙ ap (λ more. misses_at done n ++ more) (own (n == n) (eq-eqb n n refl)))
        (λ i differ. misses_append done (Miss n c ∷ []) i ∙ ap (λ more. misses_at done i ++ more) (others (n == i) (ne_eqb n i (λ e. differ (sym e)))) ∙ append-nil (misses_at done i))
        (λ i. list_any-append (is_trap_at i) done (Miss n c ∷ []) ∙ or_none (traps_at done i))
      where
        or_none : (b : Bool) → (b || false) ≡ b
        or_none true = refl
        or_none false = refl

        own : (b : Bool) → b ≡ true → (if b then c ∷ [] else []) ≡ c ∷ []
        own true e = refl
        own false e = cc

        others : (b : Bool) → b ≡ false → (if b then c ∷ [] else []) ≡ []
        others true e = cc
        others false e = refl

    -- a turn with this event
    turn_by : (event : Option Event) → HoldsAt layout (λ event. Unit {0}) n event → MissesFirst layout (flat_run layout image returned) queue n event → SoFar layout valid image returned (one_more_if (completes_by event) n) (after_event layout queue event) (misses_at (done ++ with_event event [])) (traps_at (done ++ with_event event []))
    turn_by None at first =
        subst (λ all. SoFar layout valid image returned (suc n) queue (misses_at all) (traps_at all)) (sym (append-nil done))
        (completes layout valid image returned n queue (misses_at done) (traps_at done) h first)
    turn_by (Some (Call i b a)) at first =
        completes layout valid image returned n queue (misses_at (done ++ Call i b a ∷ [])) (traps_at (done ++ Call i b a ∷ []))
        (plain (Call i b a) (λ j. refl) (λ j. refl)) first
    turn_by (Some (Break i)) at first = plain (Break i) (λ j. refl) (λ j. refl)
    turn_by (Some (Trap i v)) at first =
        subst (λ j. SoFar layout valid image returned n queue (misses_at (done ++ Trap j v ∷ [])) (traps_at (done ++ Trap j v ∷ []))) (sym at.0) (traps v first)
    turn_by (Some (Miss i c)) at first =
        subst (λ j. SoFar layout valid image returned n (after_miss layout queue c) (misses_at (done ++ Miss j c ∷ [])) (traps_at (done ++ Miss j c ∷ []))) (sym at.0) (misses c first)

  turn_so_far : (turn : ProgramTurn) (older : List ProgramTurn) → Facts turn older → AtTurns older → AtTurns (turn ∷ older)
  turn_so_far turn older f h =
      let first = subst (λ n. MissesFirst layout (flat_run layout image returned) (queue_by layout older) n turn.event) f.0.counted f.0.first in
      let at = subst (λ n. HoldsAt layout (λ event. Unit {0}) n turn.event) f.0.counted f.1 in
      let done : taken (turn ∷ older) [] ≡ taken older [] ++ with_event turn.event [] = taken_before older (with_event turn.event []) in
      subst (λ all. SoFar layout valid image returned (completed (turn ∷ older)) (queue_by layout (turn ∷ older)) (misses_at all) (traps_at all)) (sym done)
      (subst (λ queue. SoFar layout valid image returned (completed (turn ∷ older)) queue (misses_at (taken older [] ++ with_event turn.event [])) (traps_at (taken older [] ++ with_event turn.event [])))
      (sym (more_by layout turn.lp turn.past turn.count turn.event older))
      (turn_by (completed older) (queue_by layout older) (taken older []) h turn.event at first))

  -- before the first turn
  none_so_far : AtTurns []
  none_so_far = record {
    before = λ i l. absurd (omega arith);
    here = tt;
    queue_is = refl;
    later = λ i l. refl;
    trapped = λ i k. absurd (cc);
  }

  all_so_far : (turns : List ProgramTurn) → EachTurn Facts turns → AtTurns turns
  all_so_far [] h = none_so_far
  all_so_far (turn ∷ older) h = turn_so_far turn older h.0 (all_so_far older h.1)

-- ---- Journals

no_facts : (tape : List Event) → EachEvent (λ event. Unit {0}) tape
no_facts [] = tt
no_facts (event ∷ tape) = (tt, no_facts tape)

-- the misses of a sound journal, under a kernel that evicts
pub misses-ideal : (image : List ℕ) (layout : Layout) (journal : Journal) → Sound image layout journal → Evicts layout journal.events (reverse journal.moves) → MissesAreIdeal image layout journal
misses-ideal image layout journal sound evicts =
    let returned : List ℕ = (last_moment layout journal).control.returned in
    let turns : List ProgramTurn = turns_of layout journal in
    let count : ℕ = (last_moment layout journal).control.count in
    let first = turns-first layout (runs_of layout image journal) journal.events (reverse journal.moves) sound.valid (sound-misses image layout journal sound) evicts sound.accesses.turns_reach sound.misses.turns_miss in
    let at = events-each layout (λ event. Unit {0}) journal.events (reverse journal.moves) (no_facts journal.events) in
    let facts : EachTurn (Facts layout sound.valid image returned) turns =
    each-from_both (TurnFirst layout (runs_of layout image journal)) (λ turn. λ older. HoldsAt layout (λ event. Unit {0}) turn.count turn.event) (Facts layout sound.valid image returned)
    (λ turn older f h. (f, h)) turns first at in
    let counted : completed turns ≡ count = sym (trace-completed layout journal.events (reverse journal.moves)) in
    let so_far : SoFar layout sound.valid image returned count (queue_by layout turns) (misses_at journal.events) (traps_at journal.events) =
    subst (λ n. SoFar layout sound.valid image returned n (queue_by layout turns) (misses_at journal.events) (traps_at journal.events)) counted
    (subst (λ tape. SoFar layout sound.valid image returned (completed turns) (queue_by layout turns) (misses_at tape) (traps_at tape)) (all-taken image layout journal sound) (all_so_far layout sound.valid image returned turns facts)) in
    let accesses : List Access = accesses_of layout (runs_of layout image journal count) in
    record {
      completed = so_far.before;
      trapped = λ i k. elim (so_far.trapped i k) [
        | inl l ↦ so_far.before i l
        | inr now ↦
            subst (λ j. misses_at journal.events j ≡ ideal layout image returned j) (sym now.0)
            (all_here layout sound.valid image returned count (queue_by layout turns) (misses_at journal.events) (traps_at journal.events) so_far now.1)
      ];
      last = (
        misses_of layout accesses (length accesses - length (misses_at journal.events count)) (fold (after_miss layout) (ideal_queue layout image returned count) (misses_at journal.events count)),
        sym (first-begin layout sound.valid accesses (few_of layout (runs_of layout image journal count)) (ideal_queue layout image returned count) (misses_at journal.events count) so_far.here),
      );
      later = so_far.later;
    }
