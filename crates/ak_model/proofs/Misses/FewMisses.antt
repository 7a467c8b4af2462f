-- Each instruction of a sound journal misses few clusters.
use Rattle.std.proofs.Common.{◌≡◌, ℕ, zero, suc, ◌≤◌, List, [], ◌∷◌, length, take, arith, refl, sym, ap, ◌∙◌, subst}
use Rattle.std.specs.Prelude.{Bool, true, false, not, cond, reverse, slice_get, Option, Some, None, nat_lt, ◌==◌, if◌then◌else◌}
use Rattle.std.specs.List.{list_all}
use Rattle.std.proofs.lemmas.Bool.{eqb-true, eqb-false, ne_eqb, ltb-true, ltb-false, leb-true, not-true, and_parts, or_right}
use Rattle.std.proofs.lemmas.List.Sums.{take_while-cons}
use Rattle.ak_core.specs.Layout.{Layout, IsValid}
use Rattle.ak_core.specs.Journal.{Journal}
use Rattle.ak_core.specs.Mem.{Access}
use Rattle.ak_core.specs.declared.event.Event.{Event}
use Rattle.ak_core.specs.declared.event.Event.TheVariants.{Call, Miss, Trap, Break}
use Rattle.ak_model.specs.Paging.Pages.{cluster_at}
use Rattle.ak_model.specs.Clusters.Queue.{after_miss, is_in}
use Rattle.ak_model.specs.Flat.FlatRuns.{FlatRun, is_forbidden}
use Rattle.ak_model.specs.Control.EventTurn.{count_of}
use Rattle.ak_model.specs.Tapes.Tape.{may_follow, is_tape}
use Rattle.ak_model.specs.Tapes.LastMoment.{FlatRuns, runs_of}
use Rattle.ak_model.specs.Tapes.ProgramTurns.{ProgramTurn}
use Rattle.ak_model.specs.Misses.Reached.{accesses_next, permitted_accesses, reached}
use Rattle.ak_model.specs.Misses.FaultingAccess.{may_succeed}
use Rattle.ak_model.specs.Sound.Forced.{EachTurn, missed_by, queue_by, turns_of}
use Rattle.ak_model.specs.Sound.ForcedMisses.{MissIsForced, MissedBy}
use Rattle.ak_model.specs.Laws.Premises.{IsLater, misses_at, with_miss as with_miss_at}
use Rattle.ak_model.specs.Misses.Ideal.{accesses_of}
use Rattle.ak_model.specs.Laws.Orderly.{IsDistinct}
use Rattle.ak_model.specs.Sound.SoundJournal.{Sound}
use Rattle.ak_model.proofs.Flat.FewAccesses.{few_accesses}
use Rattle.ak_model.proofs.Tapes.TurnEvents.{EachEvent, HoldsAt, events-each}
use Rattle.ak_model.proofs.Tapes.EventsTaken.{with_event, taken, trace-taken, without_miss, with_miss}
use Rattle.ak_model.proofs.Clusters.FourLargest.{present}
use Rattle.ak_model.proofs.Misses.MissesInARow.{MissRun, clusters_of, accesses_fit, accesses_few}

-- ---- The accesses that may fault

module _ (layout : Layout) where
  permitted-cons : (u : Access) (rest : List Access) → is_forbidden layout u ≡ false → permitted_accesses layout (u ∷ rest) ≡ u ∷ permitted_accesses layout rest
  permitted-cons u rest e =
      take_while-cons (λ t. not (is_forbidden layout t)) u rest
      ∙ ap (λ b. cond (not b) (u ∷ permitted_accesses layout rest) []) e

  first_stays : (u : Access) (rest : List Access) (c : ℕ) → is_forbidden layout u ≡ false → is_in (clusters_of layout (u ∷ permitted_accesses layout rest)) c ≡ true → is_in (clusters_of layout (permitted_accesses layout (u ∷ rest))) c ≡ true
  first_stays u rest c e h =
      subst (λ all. is_in (clusters_of layout all) c ≡ true) (sym (permitted-cons u rest e)) h

  few_permitted_by : (u : Access) (rest : List Access) (b : Bool) → is_forbidden layout u ≡ b → length (permitted_accesses layout rest) ≤ length rest → length (permitted_accesses layout (u ∷ rest)) ≤ length (u ∷ rest)
  few_permitted_by u rest true e h = rw (take_while-cons (λ t. not (is_forbidden layout t)) u rest, e) (omega arith)
  few_permitted_by u rest false e h = rw (permitted-cons u rest e) (omega arith)

  pub few_permitted : (accesses : List Access) → length (permitted_accesses layout accesses) ≤ length accesses
  few_permitted [] = omega arith
  few_permitted (u ∷ rest) = few_permitted_by u rest (is_forbidden layout u) refl (few_permitted rest)

  -- the cluster of a permitted access after accesses that may succeed
  pub permitted_at : (turn : ProgramTurn) (accesses : List Access) (place : ℕ) (t : Access) → slice_get accesses place ≡ Some t → is_forbidden layout t ≡ false → list_all (may_succeed layout turn) (take place accesses) ≡ true → is_in (clusters_of layout (permitted_accesses layout accesses)) (cluster_at layout t.page.0) ≡ true
  permitted_at turn [] place t h ok all = absurd (cc)
  permitted_at turn (u ∷ rest) zero t h ok all =
      let same : t ≡ u = cc in
      let first = clusters_of layout (u ∷ permitted_accesses layout rest) in
      first_stays u rest (cluster_at layout t.page.0) (subst (λ x. is_forbidden layout x ≡ false) same ok)
      (subst (λ x. is_in first (cluster_at layout x.page.0) ≡ true) (sym same) (present (cluster_at layout u.page.0) (clusters_of layout (permitted_accesses layout rest))))
  permitted_at turn (u ∷ rest) (suc place) t h ok all =
      let parts = and_parts (may_succeed layout turn u) (list_all (may_succeed layout turn) (take place rest)) all in
      let allowed = not-true (is_forbidden layout u) (and_parts (not (is_forbidden layout u)) (reached layout turn u) parts.0).0 in
      let c = cluster_at layout t.page.0 in
      first_stays u rest c allowed
      (or_right (cluster_at layout u.page.0 == c) (is_in (clusters_of layout (permitted_accesses layout rest)) c) (permitted_at turn rest place t h ok parts.1))

  -- an instruction makes four accesses at most
  pub few_of : (run : Option FlatRun) → length (accesses_of layout run) ≤ 4
  few_of None = omega arith
  few_of (Some run) = let few = few_accesses layout run.flat in let less = few_permitted (accesses_next layout (Some run)) in omega arith

-- ---- The misses of a tape

module _ (layout : Layout) (runs : FlatRuns) where
  -- the clusters of an instruction's accesses
  abbrev pub clusters_at : ℕ → List ℕ
  clusters_at i = clusters_of layout (accesses_of layout (runs i))

  -- each miss is of a cluster of its instruction that is out by the misses before it, from this queue on
  abbrev pub MissesAccess : List ℕ → List Event → Type 0
  MissesAccess queue [] = Unit {0}
  MissesAccess queue (Miss i c ∷ tape) =
      (is_in (clusters_at i) c ≡ true) × (is_in queue c ≡ false) × MissesAccess (after_miss layout queue c) tape
  MissesAccess queue (event ∷ tape) = MissesAccess queue tape

module _ (layout : Layout) (valid : IsValid layout) (runs : FlatRuns) where
  same_queue : (turn : ProgramTurn) (older : List ProgramTurn) (rest : List Event) → missed_by turn.event ≡ None → MissesAccess layout runs (queue_by layout (turn ∷ older)) rest → MissesAccess layout runs (queue_by layout older) rest
  same_queue turn older rest e k =
      subst (λ queue. MissesAccess layout runs queue rest) (without_miss layout valid runs turn older e) k

  missed_access : (turn : ProgramTurn) (older : List ProgramTurn) (i c : ℕ) → i ≡ turn.count → MissIsForced layout runs turn older c → is_in (clusters_at layout runs i) c ≡ true
  missed_access turn older i c e h =
      let fault = h.faults.may_fault in
      let all = accesses_next layout (runs turn.count) in
      let there = permitted_at layout turn all fault.place h.access fault.stands fault.permitted fault.earlier in
      subst (λ j. is_in (clusters_at layout runs j) c ≡ true) (sym e) (subst (λ x. is_in (clusters_at layout runs turn.count) x ≡ true) h.cluster there)

  one_accesses : (turn : ProgramTurn) (older : List ProgramTurn) (event : Option Event) (rest : List Event) → turn.event ≡ event → HoldsAt layout (λ e. Unit {0}) turn.count event → MissedBy layout runs turn older event → MissesAccess layout runs (queue_by layout (turn ∷ older)) rest → MissesAccess layout runs (queue_by layout older) (with_event event rest)
  one_accesses turn older None rest e at h k = same_queue turn older rest (ap missed_by e) k
  one_accesses turn older (Some (Call i b a)) rest e at h k = same_queue turn older rest (ap missed_by e) k
  one_accesses turn older (Some (Trap i v)) rest e at h k = same_queue turn older rest (ap missed_by e) k
  one_accesses turn older (Some (Break i)) rest e at h k = same_queue turn older rest (ap missed_by e) k
  one_accesses turn older (Some (Miss i c)) rest e at h k = (
    missed_access turn older i c at.0 h,
    h.out,
    subst (λ queue. MissesAccess layout runs queue rest) (with_miss layout valid runs turn older c (ap missed_by e)) k,
  )

  -- the events of turns that miss as they are forced to, before others
  misses_access : (turns : List ProgramTurn) (rest : List Event) → EachTurn (λ turn. λ older. HoldsAt layout (λ e. Unit {0}) turn.count turn.event) turns → EachTurn (λ turn. λ older. MissedBy layout runs turn older turn.event) turns → MissesAccess layout runs (queue_by layout turns) rest → MissesAccess layout runs [] (taken turns rest)
  misses_access [] rest at h k = k
  misses_access (turn ∷ older) rest at h k =
      misses_access older (with_event turn.event rest) at.1 h.1 (one_accesses turn older turn.event rest refl at.0 h.0 k)

-- ---- The misses of one count

-- what follows an event has no smaller count
follows : (event : Event) (rest : List Event) → may_follow event rest ≡ true → IsLater rest (count_of event)
follows event [] h = tt
follows (Miss i c) (next ∷ rest) h = leb-true i (count_of next) h
follows (Call i zero a) (next ∷ rest) h = absurd (cc)
follows (Call i (suc b) a) (next ∷ rest) h = let l = ltb-true i (count_of next) h in omega arith
follows (Trap i v) (next ∷ rest) h = absurd (cc)
follows (Break i) (next ∷ rest) h = absurd (cc)

later_still : (m n : ℕ) (tape : List Event) → m ≤ n → IsLater tape n → IsLater tape m
later_still m n [] le h = tt
later_still m n (event ∷ tape) le h = omega arith

-- the rest of a tape is a tape, of counts from the first one's on
rest_later : (event : Event) (rest : List Event) (i : ℕ) → is_tape (event ∷ rest) ≡ true → i ≤ count_of event → IsLater rest i × (is_tape rest ≡ true)
rest_later event rest i h le =
    let parts = and_parts (may_follow event rest) (is_tape rest) h in
    (later_still i (count_of event) rest le (follows event rest parts.0), parts.1)

other_count : (i j c : ℕ) (others : List ℕ) → (i ≡ j → ⊥) → with_miss_at i (Miss j c) others ≡ others
other_count i j c others ne = rw (ne_eqb j i (λ e. ne (sym e))) refl

-- none is missed before the first event's count
none_before : (i : ℕ) (tape : List Event) → is_tape tape ≡ true → IsLater tape (suc i) → misses_at tape i ≡ []
none_before i [] h l = refl
none_before i (Call j b a ∷ tape) h l = let r = rest_later (Call j b a) tape (suc i) h l in none_before i tape r.1 r.0
none_before i (Trap j v ∷ tape) h l = let r = rest_later (Trap j v) tape (suc i) h l in none_before i tape r.1 r.0
none_before i (Break j ∷ tape) h l = let r = rest_later (Break j) tape (suc i) h l in none_before i tape r.1 r.0
none_before i (Miss j c ∷ tape) h l =
    let r = rest_later (Miss j c) tape (suc i) h l in
    other_count i j c (misses_at tape i) (λ e. omega arith) ∙ none_before i tape r.1 r.0

module _ (layout : Layout) (runs : FlatRuns) (i : ℕ) where
  -- a row of misses of this instruction
  abbrev Row : List ℕ → List ℕ → Type 0
  Row queue misses = MissRun layout (clusters_at layout runs i) queue misses

  here_by : (queue : List ℕ) (j c : ℕ) (tape : List Event) (b : Bool) → (j == i) ≡ b → is_tape (Miss j c ∷ tape) ≡ true → i ≤ j → MissesAccess layout runs queue (Miss j c ∷ tape) → (IsLater tape i → is_tape tape ≡ true → Row (after_miss layout queue c) (misses_at tape i)) → Row queue (if b then c ∷ misses_at tape i else misses_at tape i)
  here_by queue j c tape true e h l k go =
      let r = rest_later (Miss j c) tape i h l in
      (subst (λ m. is_in (clusters_at layout runs m) c ≡ true) (eqb-true j i e) k.0, k.1, go r.0 r.1)
  here_by queue j c tape false e h l k go =
      let ne = eqb-false j i e in
      let r = rest_later (Miss j c) tape (suc i) h (omega arith) in
      subst (Row queue) (sym (none_before i tape r.1 r.0)) tt

  -- where no event has a smaller count
  row_here : (queue : List ℕ) (tape : List Event) → is_tape tape ≡ true → IsLater tape i → MissesAccess layout runs queue tape → Row queue (misses_at tape i)
  row_here queue [] h l k = tt
  row_here queue (Call j b a ∷ tape) h l k = let r = rest_later (Call j b a) tape i h l in row_here queue tape r.1 r.0 k
  row_here queue (Trap j v ∷ tape) h l k = let r = rest_later (Trap j v) tape i h l in row_here queue tape r.1 r.0 k
  row_here queue (Break j ∷ tape) h l k = let r = rest_later (Break j) tape i h l in row_here queue tape r.1 r.0 k
  row_here queue (Miss j c ∷ tape) h l k =
      here_by queue j c tape (j == i) refl h l k (λ later. λ taped. row_here (after_miss layout queue c) tape taped later k.2)

  -- the misses of an instruction are a row, from some queue on
  abbrev HasRow : List ℕ → Type 0
  HasRow misses = (queue : List ℕ) × Row queue misses

  row_by : (queue : List ℕ) (j c : ℕ) (tape : List Event) (b : Bool) → nat_lt j i ≡ b → is_tape (Miss j c ∷ tape) ≡ true → MissesAccess layout runs queue (Miss j c ∷ tape) → HasRow (misses_at tape i) → HasRow (misses_at (Miss j c ∷ tape) i)
  row_by queue j c tape true e h k go =
      let l = ltb-true j i e in subst HasRow (sym (other_count i j c (misses_at tape i) (λ same. omega arith))) go
  row_by queue j c tape false e h k go = (queue, row_here queue (Miss j c ∷ tape) h (ltb-false j i e) k)

  row_at : (queue : List ℕ) (tape : List Event) → is_tape tape ≡ true → MissesAccess layout runs queue tape → HasRow (misses_at tape i)
  row_at queue [] h k = (queue, tt)
  row_at queue (Call j b a ∷ tape) h k = row_at queue tape (rest_later (Call j b a) tape 0 h (omega arith)).1 k
  row_at queue (Trap j v ∷ tape) h k = row_at queue tape (rest_later (Trap j v) tape 0 h (omega arith)).1 k
  row_at queue (Break j ∷ tape) h k = row_at queue tape (rest_later (Break j) tape 0 h (omega arith)).1 k
  row_at queue (Miss j c ∷ tape) h k =
      row_by queue j c tape (nat_lt j i) refl h k (row_at (after_miss layout queue c) tape (rest_later (Miss j c) tape 0 h (omega arith)).1 k.2)

-- ---- Sound journals

each_unit : (tape : List Event) → EachEvent (λ e. Unit {0}) tape
each_unit [] = tt
each_unit (event ∷ tape) = (tt, each_unit tape)

module _ (image : List ℕ) (layout : Layout) (journal : Journal) (sound : Sound image layout journal) where
  abbrev runs : FlatRuns
  runs = runs_of layout image journal

  sound_misses : MissesAccess layout runs [] journal.events
  sound_misses =
      let moves = reverse journal.moves in
      let turns = turns_of layout journal in
      subst (MissesAccess layout runs [])
      (ap (taken turns) (sym sound.answers.taken) ∙ trace-taken layout journal.events moves)
      (misses_access layout sound.valid runs turns [] (events-each layout (λ e. Unit {0}) journal.events moves (each_unit journal.events)) sound.misses.turns_miss tt)

  -- the misses of an instruction are a row
  pub sound_row : (i : ℕ) → HasRow layout runs i (misses_at journal.events i)
  sound_row i = row_at layout runs i [] journal.events sound.events.tape sound_misses

  -- of different clusters
  pub sound_distinct : (i : ℕ) → IsDistinct (misses_at journal.events i)
  sound_distinct i =
      let row = sound_row i in
      (accesses_fit layout sound.valid (accesses_of layout (runs i)) (few_of layout (runs i)) row.0 (misses_at journal.events i) row.1).distinct

  -- no more than its accesses
  pub sound_few : (i : ℕ) → length (misses_at journal.events i) ≤ length (accesses_of layout (runs i))
  sound_few i =
      let row = sound_row i in
      accesses_few layout sound.valid (accesses_of layout (runs i)) (few_of layout (runs i)) row.0 (misses_at journal.events i) row.1

  -- four at most
  pub sound_four : (i : ℕ) → length (misses_at journal.events i) ≤ 4
  sound_four i = let few = sound_few i in let four = few_of layout (runs i) in omega arith
