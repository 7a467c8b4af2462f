-- A run after one more move is faithful to what it was faithful to.
use Rattle.std.proofs.Common.{◌≡◌, ℕ, ◌+◌, ◌<◌, Bool, true, false, List, [], ◌∷◌, ◌++◌, length, refl, ap, sym, ◌∙◌, subst, arith}
use Rattle.std.proofs.lemmas.List.{length-map, length-reverse}
use Rattle.std.specs.Prelude.{Option, Some, None, if◌then◌else◌}
use Rattle.ak_core.specs.Layout.{Layout, IsValid}
use Rattle.ak_core.specs.Journal.{Journal, first_stop, with_more}
use Rattle.ak_core.specs.Mem.{Access}
use Rattle.ak_core.specs.declared.event.Event.{Event}
use Rattle.ak_core.specs.declared.event.Event.TheVariants.{Call, Miss, Trap, Break}
use Rattle.ak_core.specs.declared.event.Stop.{Stop}
use Rattle.ak_core.specs.declared.moves.Answer.{Answer}
use Rattle.ak_core.specs.declared.moves.Move.{Move}
use Rattle.ak_core.specs.declared.page.Entry.{Entry}
use Rattle.ak_epcm.specs.Entries.{entry_at}
use Rattle.ak_model.specs.Clusters.Queue.{after_miss, is_in}
use Rattle.ak_model.specs.Flat.FlatRuns.{is_forbidden}
use Rattle.ak_model.specs.Paging.Frames.{blocked_at, held}
use Rattle.ak_model.specs.Paging.Histories.{History, Pair}
use Rattle.ak_model.specs.Paging.Holdings.{is_page_in}
use Rattle.ak_model.specs.Paging.Pages.{cluster_at}
use Rattle.ak_model.specs.Paging.Walk.{access_walkable}
use Rattle.ak_model.specs.Sound.Forced.{queue_by, turns_of}
use Rattle.ak_model.specs.Sound.Outputs.{shown_by}
use Rattle.ak_model.specs.Tapes.LastMoment.{FlatRuns, runs_of}
use Rattle.ak_model.specs.Tapes.ProgramTurns.{ProgramTurn}
use Rattle.ak_model.proofs.Paging.ConcernedPages.{walkable-unconcerned}
use Rattle.ak_model.proofs.Tapes.EventsTaken.{cluster_below}
use Rattle.ak_pager.proofs.StepReads.{few_clusters}
use Rattle.ak_relation.specs.Program.Turns.{events_by, listed}
use Rattle.ak_relation.specs.Relation.Does.{GoesTo, MoveFollows, at_moment}
use Rattle.ak_relation.specs.Relation.Journals.{HasJournal, StopNamesBreak}
use Rattle.ak_relation.specs.Relation.Keeping.{HasOneMore, KeepsJournal}
use Rattle.ak_relation.specs.Relation.MoveByMove.{IsTraced, moves_of}
use Rattle.ak_relation.specs.Relation.Stands.{runs_at}
use Rattle.ak_relation.specs.Relation.Stopping.{stop_by}
use Rattle.ak_relation.specs.State.MachineState.{State}
use Rattle.ak_relation.specs.State.Tables.{TablesStand}
use Rattle.ak_relation.proofs.Exits.Departures.{past_turns}
use Rattle.ak_relation.proofs.Exits.TapeGrows.{queue_past}
use Rattle.ak_relation.proofs.Runs.Composing.{events_by-append}
use Rattle.ak_relation.proofs.Runs.KeptJournals.{one_more_move}
use Rattle.ak_relation.proofs.Runs.ToldBreaks.{told_breaks}
use Rattle.ak_relation.proofs.Runs.TracedMoves.{moves_are_traced}
use Rattle.ak_walk.specs.Agrees.{EntryAgrees}
use Rattle.ak_turns.specs.Running.{fault_in, outcome_of}
use Rattle.ak_turns.specs.WholeRuns.{event_after}
use Rattle.ak_turns.specs.declared.notes.ProgramNote.{ProgramNote}
use Rattle.ak_machine.specs.Machines.{IsState, Parts}
use Rattle.ak_machine.specs.Moves.{Moves, MovesTo}
use Rattle.ak_machine.specs.declared.applied.Applied.{Applied}
use Rattle.ak_run.specs.Blaming.{Marked, Marks}
use Rattle.ak_run.specs.Events.{IsServable, queue_by_event}
use Rattle.ak_run.specs.Runs.{Faithful, RunParts}
use Rattle.ak_run.specs.Watching.{framed_by, is_page, named_by, page_in}
use Rattle.ak_run.proofs.Concerned.{entry_page, not_concerned}

-- ---- The queue

-- the queue past one event
past_one : (layout : Layout) (queue : List ℕ) (event : Option Event) → queue_past layout queue (listed event) ≡ queue_by_event layout queue event
past_one layout queue None = refl
past_one layout queue (Some (Call i b a)) = refl
past_one layout queue (Some (Miss i c)) = refl
past_one layout queue (Some (Trap i v)) = refl
past_one layout queue (Some (Break i)) = refl

past_more : (layout : Layout) (queue : List ℕ) (xs ys : List Event) → queue_past layout queue (xs ++ ys) ≡ queue_past layout (queue_past layout queue xs) ys
past_more layout queue [] ys = refl
past_more layout queue (Miss i c ∷ xs) ys = past_more layout (after_miss layout queue c) xs ys
past_more layout queue (Call i b a ∷ xs) ys = past_more layout queue xs ys
past_more layout queue (Trap i v ∷ xs) ys = past_more layout queue xs ys
past_more layout queue (Break i ∷ xs) ys = past_more layout queue xs ys

-- the queue by more turns, which gave one event at most
queue_more : (layout : Layout) → IsValid layout → (runs : FlatRuns) (made turns : List ProgramTurn) (event : Option Event) → events_by made ≡ listed event →
    queue_by layout (made ++ turns) ≡ queue_by_event layout (queue_by layout turns) event
queue_more layout valid runs made turns event told =
    sym (past_turns layout valid runs (made ++ turns))
    ∙ ap (queue_past layout []) (events_by-append made turns ∙ ap (λ es. events_by turns ++ es) told)
    ∙ past_more layout [] (events_by turns) (listed event)
    ∙ ap (λ queue. queue_past layout queue (listed event)) (past_turns layout valid runs turns)
    ∙ past_one layout (queue_by layout turns) event

-- ---- The event of a note may be served

module _ (layout : Layout) (valid : IsValid layout) (queue : List ℕ) (count : ℕ) where
  low_cluster : (p : ℕ) → cluster_at layout p < 512
  low_cluster p = let below = cluster_below layout valid p in let few = few_clusters layout valid in omega arith

  miss_servable : (p : ℕ) (b : Bool) → is_in queue (cluster_at layout p) ≡ b →
      IsServable queue (Some (if b then Break count else Miss count (cluster_at layout p)))
  miss_servable p true is = tt
  miss_servable p false is = (low_cluster p, is)

  fault_servable : (t : Access) (b : Bool) → is_forbidden layout t ≡ b →
      IsServable queue (Some (if b then Trap count 14 else (if is_in queue (cluster_at layout t.page.0) then Break count else Miss count (cluster_at layout t.page.0))))
  fault_servable t true is = tt
  fault_servable t false is = miss_servable t.page.0 (is_in queue (cluster_at layout t.page.0)) refl

  pub note_servable : (note : ProgramNote) → IsServable queue (event_after layout queue count note)
  note_servable ProgramNote.Plain = tt
  note_servable (ProgramNote.Called b a) = tt
  note_servable (ProgramNote.Trapped v) = tt
  note_servable (ProgramNote.Faulted t) = fault_servable t (is_forbidden layout t) refl

-- ---- Pages that a move does not concern

module _ (parts : Parts) (past : History) (state : State) (machine : IsState parts state) (tables : TablesStand parts.layout past state) where
  holds : (p f : ℕ) → is_page (page_in (entry_at parts.encls.entries f)) p ≡ is_page_in (held parts.layout past f) p
  holds p f = entry_page parts.layout (entry_at parts.encls.entries f) (held parts.layout past f) (blocked_at past f) p
      (subst (λ (l : List Entry). EntryAgrees parts.layout (entry_at l f) (held parts.layout past f) (blocked_at past f)) machine.paging.entries (tables.entries.entry f))

  pub others_walk : (m : Move) (a : Answer) (t : Access) → is_page (named_by m) t.page.0 ≡ false → is_page (framed_by parts.encls.entries m) t.page.0 ≡ false →
      access_walkable parts.layout ((m, a) ∷ past) t ≡ access_walkable parts.layout past t
  others_walk m a t named framed =
      walkable-unconcerned parts.layout past t.page.0 (m, a) t.kind
      (not_concerned parts.encls.entries (held parts.layout past) t.page.0 (holds t.page.0) m a named framed)

-- ---- The place of the move

-- the journal has as many moves as the history
pub many_moves : (layout : Layout) (image : List ℕ) (past : History) (state : State) (journal : Journal) → HasJournal layout image past state journal →
    length journal.moves ≡ length past
many_moves layout image past state journal has = ap length has.moves_are ∙ length-reverse (moves_of past) ∙ length-map past (λ (pair : Pair). pair.0)

-- ---- The run after the move

module _ (image : List ℕ) (old : RunParts) (f : Faithful image old) (m : Move) (applied : Applied) (after : Parts) (moves : Moves old.machine m applied after)
    (journal : Journal) (count : ℕ) (queue : List ℕ) (marks : Marks) (event : Option Event) (stop : Option Stop)
    (count_is : count ≡ old.count + applied.completed)
    (event_is : event ≡ event_after after.layout old.queue count applied.program)
    (stop_is : (layout : Layout) (past : History) → Marked layout past old.marks → stop ≡ stop_by layout past (outcome_of applied.runtime))
    (served : IsServable old.queue event → queue ≡ queue_by_event after.layout old.queue event)
    (more_moves : journal.moves ≡ old.journal.moves ++ m ∷ []) (more_answers : journal.answers ≡ old.journal.answers ++ applied.answer ∷ [])
    (more_events : journal.events ≡ with_more old.journal.events event) (more_outputs : journal.outputs ≡ with_more old.journal.outputs (shown_by applied.answer))
    (more_stop : journal.stop ≡ first_stop old.journal.stop stop)
    (marked : (later : State) → IsState after later → TablesStand old.machine.layout f.past f.state → TablesStand after.layout ((m, applied.answer) ∷ f.past) later →
    Marked after.layout ((m, applied.answer) ∷ f.past) marks) where
  abbrev layout : Layout
  layout = old.machine.layout

  before : IsTraced layout image f.past f.state old.journal.events
  before = moves_are_traced layout image f.past f.state old.journal.events f.keeps.has.moved

  valid : IsValid layout
  valid = f.keeps.has.moved.valid

  to : MovesTo layout f.state m applied after
  to = moves.moved f.state f.machine

  counted : count ≡ to.new.count
  counted = count_is ∙ ap (λ n. n + applied.completed) f.count ∙ sym to.count

  -- the event that was written down is the one that the relation tells
  same_event : event ≡ event_after layout f.state.queue to.new.count applied.program
  same_event =
      event_is ∙ ap (λ l. event_after l old.queue count applied.program) moves.layout
      ∙ ap (λ q. event_after layout q count applied.program) f.queue ∙ ap (λ n. event_after layout f.state.queue n applied.program) counted

  goes : GoesTo layout image (MoveFollows layout f.past m applied.answer) (at_moment f.past before.control before.turns f.state) ((m, applied.answer) ∷ f.past) to.new
      (event_after layout f.state.queue to.new.count applied.program)
  goes = (to.cause image f.past before.control before.turns before.stands).0

  more : HasOneMore layout f.past m applied.answer (event_after layout f.state.queue to.new.count applied.program) (outcome_of applied.runtime) old.journal journal
  more = record {
    moves = more_moves;
    answers = more_answers;
    events = more_events ∙ ap (with_more old.journal.events) same_event;
    outputs = more_outputs;
    stop = more_stop ∙ ap (first_stop old.journal.stop) (stop_is layout f.past f.marks);
  }

  keeps : KeepsJournal layout image ((m, applied.answer) ∷ f.past) to.new journal
  keeps = one_more_move layout image f.past m applied.answer (event_after layout f.state.queue to.new.count applied.program) (outcome_of applied.runtime) f.state to.new
      old.journal journal f.keeps to.cause more

  names : StopNamesBreak layout (runs_of layout image journal) (turns_of layout journal) journal.stop
  names =
      told_breaks layout image f.past (event_after layout f.state.queue to.new.count applied.program) (fault_in applied.program) (outcome_of applied.runtime) f.state to.new
      old.journal journal f.keeps m applied.answer to.cause to.notes more f.names

  queued : queue ≡ to.new.queue
  queued =
      served (subst (IsServable old.queue) (sym event_is) (note_servable after.layout (subst IsValid (sym moves.layout) valid) old.queue count applied.program))
      ∙ ap (λ l. queue_by_event l old.queue event) moves.layout
      ∙ ap (λ q. queue_by_event layout q event) (f.queue ∙ before.stands.queued)
      ∙ ap (queue_by_event layout (queue_by layout before.turns)) same_event
      ∙ sym (queue_more layout valid (runs_at layout image before.control) goes.made before.turns _ goes.told)
      ∙ ap (queue_by layout) (sym goes.does.turns) ∙ sym goes.stands.queued

  pub moved_faithful : Faithful image (record { machine = after; journal = journal; count = count; queue = queue; marks = marks })
  moved_faithful = record {
    past = (m, applied.answer) ∷ f.past;
    state = to.new;
    machine = to.machine;
    keeps = subst (λ l. KeepsJournal l image ((m, applied.answer) ∷ f.past) to.new journal) (sym moves.layout) keeps;
    names = subst (λ l. StopNamesBreak l (runs_of l image journal) (turns_of l journal) journal.stop) (sym moves.layout) names;
    count = counted;
    queue = queued;
    marks = marked to.new to.machine before.stands.tables (subst (λ l. TablesStand l ((m, applied.answer) ∷ f.past) to.new) (sym moves.layout) goes.stands.tables);
  }

-- a run that is another view of the same is faithful to the same images
pub seen : (image : List ℕ) (old now new : RunParts) → old ≡ now → (Faithful image old → Faithful image new) → Faithful image now → Faithful image new
seen image old now new same moved f = moved (subst (Faithful image) (sym same) f)
