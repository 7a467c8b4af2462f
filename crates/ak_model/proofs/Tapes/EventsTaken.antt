-- The events that the turns of the program give, with those that are left, are the tape; so the misses of a sound journal fit.
use Rattle.std.proofs.Common.{◌≡◌, ℕ, zero, suc, ◌+◌, ◌<◌, ◌≤◌, List, [], ◌∷◌, ◌++◌, length, arith, refl, ap, ◌∙◌, subst}
use Rattle.std.specs.Prelude.{Bool, true, false, if◌then◌else◌, reverse, filter_map, slice_index, Option, Some, None, nat_lt, ◌==◌}
use Rattle.std.specs.Bool.{then_some}
use Rattle.std.proofs.lemmas.Bool.{eqb-true, ltb-true}
use Rattle.std.proofs.lemmas.List.{reverse-append}
use Rattle.ak_core.specs.Layout.{Layout, IsValid, number_on, numbers_from}
use Rattle.ak_core.specs.declared.event.Event.{Event}
use Rattle.ak_core.specs.declared.event.Event.TheVariants.{Call, Miss, Trap, Break}
use Rattle.ak_core.specs.declared.moves.Move.{Move}
use Rattle.ak_model.specs.Paging.Pages.{cluster_at}
use Rattle.ak_model.specs.Paging.Histories.{History}
use Rattle.ak_model.specs.Paging.Inside.{inside}
use Rattle.ak_model.specs.Clusters.Queue.{after_miss, queue_after}
use Rattle.ak_model.specs.Control.ControlState.{Context, Program, Enter, Probe, Finish, Guard, Leave, Control}
use Rattle.ak_model.specs.Control.OneTurn.{Turn, Goes, Leaves}
use Rattle.ak_model.specs.Control.EventTurn.{count_of, due, without_first, event_turn}
use Rattle.ak_model.specs.Control.Runs.{turn_of, turn, go_on, run, unless_left, before_turns}
use Rattle.ak_model.specs.Control.Trace.{Moment, after_move, trace}
use Rattle.ak_model.specs.Tapes.ProgramTurns.{ProgramTurn, turn_in, turns_in, turns_of_run, turns_of_move, program_turns}
use Rattle.ak_model.specs.Laws.Premises.{MissesFit}
use Rattle.ak_model.specs.Tapes.LastMoment.{FlatRuns}
use Rattle.ak_model.specs.Sound.Forced.{EachTurn, missed_by, queue_by}
use Rattle.ak_model.specs.Sound.ForcedMisses.{MissedBy}
use Rattle.ak_model.proofs.Paging.Tests.{either_way}
use Rattle.ak_model.proofs.Tapes.RunsOverTapes.{after, runtime_rest}
use Rattle.ak_model.proofs.Clusters.FewestLeave.{queue_after-more}
use Rattle.ak_model.proofs.Paging.InsideIsOfLayout.{placed}
use Rattle.ak_model.proofs.Control.MovedTo.{each_move, interrupted_same}

-- ---- Events of turns

-- the event of a turn, before others
abbrev pub with_event : Option Event → List Event → List Event
with_event None rest = rest
with_event (Some event) rest = event ∷ rest

-- the events of these turns, in order, before the rest
abbrev given : List ProgramTurn → List Event → List Event
given [] rest = rest
given (turn ∷ later) rest = with_event turn.event (given later rest)

-- the same, of turns that stand the newest first
abbrev pub taken : List ProgramTurn → List Event → List Event
taken [] rest = rest
taken (turn ∷ older) rest = taken older (with_event turn.event rest)

given_append : (made later : List ProgramTurn) (rest : List Event) → given (made ++ later) rest ≡ given made (given later rest)
given_append [] later rest = refl
given_append (turn ∷ made) later rest = ap (with_event turn.event) (given_append made later rest)

taken_append : (made older : List ProgramTurn) (rest : List Event) → taken (made ++ older) rest ≡ taken older (taken made rest)
taken_append [] older rest = refl
taken_append (turn ∷ made) older rest = taken_append made older (with_event turn.event rest)

taken_reverse : (made : List ProgramTurn) (rest : List Event) → taken (reverse made) rest ≡ given made rest
taken_reverse [] rest = refl
taken_reverse (turn ∷ made) rest =
    ap (λ turns. taken turns rest) (reverse-append (turn ∷ []) made)
    ∙ taken_append (reverse made) (turn ∷ []) rest
    ∙ ap (with_event turn.event) (taken_reverse made rest)

-- ---- One turn

-- what a turn with this event leaves
abbrev left : Option Event → List Event → List Event
left None rest = rest
left (Some event) rest = without_first rest

module _ (layout : Layout) where
  event_left : (control : Control) (event : Option Event) → (after (event_turn layout control event)).rest ≡ left event control.rest
  event_left control None = refl
  event_left control (Some (Call i b a)) = refl
  event_left control (Some (Miss i c)) = refl
  event_left control (Some (Break i)) = refl
  event_left control (Some (Trap i v)) = either_way (λ t. (after t).rest ≡ without_first control.rest) (v == 14) _ _ refl refl

  due_by : (event : Event) (rest : List Event) (b : Bool) → with_event (then_some b event) (left (then_some b event) (event ∷ rest)) ≡ event ∷ rest
  due_by event rest true = refl
  due_by event rest false = refl

  due_left : (count : ℕ) (rest : List Event) → with_event (due count rest) (left (due count rest) rest) ≡ rest
  due_left count [] = refl
  due_left count (event ∷ rest) = due_by event rest (count_of event == count)

  turn_given : (lp : ℕ) (past : History) (control : Control) (now : Option Context) → given (turn_in lp past control now) (after (turn_of layout past control now)).rest ≡ control.rest
  turn_given lp past control None = refl
  turn_given lp past control (Some Program) =
      ap (with_event (due control.count control.rest)) (event_left control (due control.count control.rest)) ∙ due_left control.count control.rest
  turn_given lp past control (Some (Enter k v)) = runtime_rest layout past control (Enter k v)
  turn_given lp past control (Some (Probe i)) = runtime_rest layout past control (Probe i)
  turn_given lp past control (Some Finish) = runtime_rest layout past control Finish
  turn_given lp past control (Some Guard) = runtime_rest layout past control Guard
  turn_given lp past control (Some (Leave b a)) = runtime_rest layout past control (Leave b a)

  -- ---- A run

  after_given : (lp : ℕ) (past : History) (n : ℕ) → ((control : Control) → given (turns_of_run layout lp past n control) (run layout past n control).control.rest ≡ control.rest) → (t : Turn) → given (turns_in lp past (unless_left t (before_turns layout past n))) (go_on t (run layout past n)).control.rest ≡ (after t).rest
  after_given lp past n later (Goes next) = later next
  after_given lp past n later (Leaves exit next) = refl

  run_given : (lp : ℕ) (past : History) (n : ℕ) (control : Control) → given (turns_of_run layout lp past n control) (run layout past n control).control.rest ≡ control.rest
  run_given lp past zero control = refl
  run_given lp past (suc n) control =
      given_append (turn_in lp past control control.now) (turns_in lp past (unless_left (turn layout past control) (before_turns layout past n))) (run layout past (suc n) control).control.rest
      ∙ ap (given (turn_in lp past control control.now)) (after_given lp past n (run_given lp past n) (turn layout past control))
      ∙ turn_given lp past control control.now

  -- ---- Moves

  move_taken : (moment : Moment) (m : Move) → ((lp : ℕ) → inside moment.past lp ≡ true → nat_lt lp layout.lps ≡ true) → taken (turns_of_move layout moment m) (after_move layout moment m).control.rest ≡ moment.control.rest
  move_taken moment m known =
      each_move layout moment (λ e. taken e.turns e.next.rest ≡ moment.control.rest)
      (record {
        quiet = refl;
        enters = λ lp v there out few. refl;
        resumes = λ lp saved rest there out free e. refl;
        interrupts = λ lp d. (interrupted_same moment.control moment.control.now).rest;
        runs = λ lp n d someone.
            taken_reverse (turns_of_run layout lp moment.past n moment.control) (run layout moment.past n moment.control).control.rest ∙ run_given lp moment.past n moment.control;
      })
      known m

  -- the events of all turns, and those that are left, are the tape
  pub trace-taken : (tape : List Event) (moves : List Move) → taken (program_turns layout tape moves) (trace layout tape moves).control.rest ≡ tape
  trace-taken tape [] = refl
  trace-taken tape (m ∷ moves) =
      taken_append (turns_of_move layout (trace layout tape moves) m) (program_turns layout tape moves) (trace layout tape (m ∷ moves)).control.rest
      ∙ ap (taken (program_turns layout tape moves)) (move_taken (trace layout tape moves) m (λ lp. placed layout lp tape moves))
      ∙ trace-taken tape moves

-- ---- Clusters of pages are clusters of the layout

grows_by : (x : ℕ) (xs : List ℕ) (next n : ℕ) (below same : Bool) → number_on (if below then Some next else (if same then Some (next + 1) else None)) (numbers_from xs) ≡ Some n → ((m : ℕ) → numbers_from xs m ≡ Some n → m ≤ n) → next ≤ n
grows_by x xs next n true same h go = go next h
grows_by x xs next n false true h go = let more = go (next + 1) h in omega arith
grows_by x xs next n false false h go = absurd (cc)

grows : (xs : List ℕ) (next n : ℕ) → numbers_from xs next ≡ Some n → next ≤ n
grows [] next n h = let e : next ≡ n = cc in omega arith
grows (x ∷ xs) next n h = grows_by x xs next n (nat_lt x next) (x == next) h (λ m k. grows xs m n k)

first_below : (x : ℕ) (xs : List ℕ) (next n : ℕ) (below same : Bool) → nat_lt x next ≡ below → (x == next) ≡ same → number_on (if below then Some next else (if same then Some (next + 1) else None)) (numbers_from xs) ≡ Some n → (x < n) × (m : ℕ) × (numbers_from xs m ≡ Some n)
first_below x xs next n true same l e h = let a = ltb-true x next l in let b = grows xs next n h in (omega arith, next, h)
first_below x xs next n false true l e h = let a = eqb-true x next e in let b = grows xs (next + 1) n h in (omega arith, next + 1, h)
first_below x xs next n false false l e h = absurd (cc)

each_below : (xs : List ℕ) (next n : ℕ) → 1 ≤ n → numbers_from xs next ≡ Some n → (i : ℕ) → slice_index xs i < n
each_below [] next n some h i = let e : slice_index [] i ≡ 0 = refl in omega arith
each_below (x ∷ xs) next n some h zero = (first_below x xs next n (nat_lt x next) (x == next) refl refl h).0
each_below (x ∷ xs) next n some h (suc i) =
    let first = first_below x xs next n (nat_lt x next) (x == next) refl refl h in each_below xs first.1 n some first.2 i

some_cluster : (xs : List ℕ) (n : ℕ) → 1 ≤ length xs → numbers_from xs 0 ≡ Some n → 1 ≤ n
some_cluster [] n some h = absurd (omega arith)
some_cluster (x ∷ xs) n some h = let l = (first_below x xs 0 n (nat_lt x 0) (x == 0) refl refl h).0 in omega arith

pub cluster_below : (layout : Layout) → IsValid layout → (p : ℕ) → cluster_at layout p < layout.clusters
cluster_below layout valid p =
    let long : 1 ≤ length layout.cluster_of = let a = valid.clustered in let b = valid.some_page in omega arith in
    each_below layout.cluster_of 0 layout.clusters (some_cluster layout.cluster_of layout.clusters long valid.numbered) valid.numbered p

-- ---- Misses

module _ (layout : Layout) (valid : IsValid layout) (runs : FlatRuns) where
  pub without_miss : (turn : ProgramTurn) (older : List ProgramTurn) → missed_by turn.event ≡ None → queue_by layout (turn ∷ older) ≡ queue_by layout older
  without_miss turn older e = rw e refl

  pub with_miss : (turn : ProgramTurn) (older : List ProgramTurn) (c : ℕ) → missed_by turn.event ≡ Some c → queue_by layout (turn ∷ older) ≡ after_miss layout (queue_by layout older) c
  with_miss turn older c e =
      let misses = filter_map (λ turn. missed_by turn.event) older in
      rw e (ap (queue_after layout) (reverse-append (c ∷ []) misses) ∙ queue_after-more layout (reverse misses) c)

  one_fits : (turn : ProgramTurn) (older : List ProgramTurn) (event : Option Event) (rest : List Event) → turn.event ≡ event → MissedBy layout runs turn older event → MissesFit layout (queue_by layout (turn ∷ older)) rest → MissesFit layout (queue_by layout older) (with_event event rest)
  one_fits turn older None rest e h k = subst (λ queue. MissesFit layout queue rest) (without_miss turn older (ap missed_by e)) k
  one_fits turn older (Some (Call i b a)) rest e h k = subst (λ queue. MissesFit layout queue rest) (without_miss turn older (ap missed_by e)) k
  one_fits turn older (Some (Trap i v)) rest e h k = subst (λ queue. MissesFit layout queue rest) (without_miss turn older (ap missed_by e)) k
  one_fits turn older (Some (Break i)) rest e h k = subst (λ queue. MissesFit layout queue rest) (without_miss turn older (ap missed_by e)) k
  one_fits turn older (Some (Miss i c)) rest e h k = (
    subst (λ x. x < layout.clusters) h.cluster (cluster_below layout valid h.access.page.0),
    h.out,
    subst (λ queue. MissesFit layout queue rest) (with_miss turn older c (ap missed_by e)) k,
  )

  -- the events of turns that miss as they are forced to, before others
  pub misses-fit : (turns : List ProgramTurn) (rest : List Event) → EachTurn (λ turn. λ older. MissedBy layout runs turn older turn.event) turns → MissesFit layout (queue_by layout turns) rest → MissesFit layout [] (taken turns rest)
  misses-fit [] rest h k = k
  misses-fit (turn ∷ older) rest h k =
      misses-fit older (with_event turn.event rest) h.1 (one_fits turn older turn.event rest refl h.0 k)
