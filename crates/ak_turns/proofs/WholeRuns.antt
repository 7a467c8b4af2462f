-- Turns, one after another, lead to a run: one more turn goes on with those before it, and the last one ends the run.
use Rattle.std.proofs.Common.{◌≡◌, inl, inr, ℕ, suc, ◌+◌, ◌-◌, ◌<◌, Bool, true, false, List, [], ◌++◌, refl, ap, sym, ◌∙◌, subst, arith}
use Rattle.std.proofs.lemmas.Bool.Decides.{nat_tests}
use Rattle.std.specs.Prelude.{Option, Some, None, is_some, nat_lt, if◌then◌else◌}
use Rattle.ak_core.specs.Layout.{Layout}
use Rattle.ak_core.specs.Mem.{Access}
use Rattle.ak_core.specs.declared.event.Event.{Event}
use Rattle.ak_core.specs.declared.event.Event.TheVariants.{Call, Miss, Trap, Break}
use Rattle.ak_core.specs.declared.moves.Exit.{Exit}
use Rattle.ak_core.specs.declared.page.Lp.{Lp}
use Rattle.ak_model.specs.Clusters.Queue.{is_in}
use Rattle.ak_model.specs.Control.ControlState.{Context}
use Rattle.ak_model.specs.Flat.FlatRuns.{is_forbidden}
use Rattle.ak_model.specs.Paging.Inside.{inside}
use Rattle.ak_model.specs.Paging.Pages.{cluster_at}
use Rattle.ak_model.proofs.Paging.Tests.{either_way}
use Rattle.ak_pte.specs.declared.table.Pte.{Pte}
use Rattle.ak_tlb.specs.declared.translation.Translation.{Translation}
use Rattle.ak_relation.proofs.Runs.WholeRuns.{still_moves, exit_moves}
use Rattle.ak_relation.proofs.Runs.NamedMoves.{still_names, exit_names}
use Rattle.ak_relation.specs.Program.FaultedTurns.{fault_event}
use Rattle.ak_relation.specs.Program.Turns.{listed, events_by}
use Rattle.ak_relation.specs.Relation.Causes.{NamesCause}
use Rattle.ak_relation.specs.Relation.Does.{GoesTo, IsTurn, TurnFollows, at_moment, past_after, with_rest}
use Rattle.ak_relation.specs.Relation.Tells.{TellsTurn}
use Rattle.ak_relation.specs.Relation.TurnByTurn.{AreTurns}
use Rattle.ak_relation.specs.State.MachineState.{State}
use Rattle.ak_encls.specs.Enclave.{Enclave}
use Rattle.ak_enclu.specs.Machines.{IsMachine}
use Rattle.ak_enclu.specs.declared.cpu.Cpu.{Cpu}
use Rattle.ak_memory.specs.declared.memory.Memory.{Memory}
use Rattle.ak_turns.specs.Running.{Runs, TellsOf, TurnKeeps, TurnsTo, completed_in, event_of, fault_in, outcome_of}
use Rattle.ak_turns.specs.WholeRuns.{GoesWith, RunsSoFar, RunsTo, RunsWith, StillRuns, event_after, note_or}
use Rattle.ak_turns.specs.declared.notes.ProgramNote.{ProgramNote}
use Rattle.ak_turns.specs.declared.notes.Ran.{Ran}
use Rattle.ak_turns.specs.declared.notes.RuntimeNote.{RuntimeNote}
use Rattle.ak_turns.specs.declared.notes.Turned.{Turned}
use Rattle.ak_turns.proofs.GoingOn.{GoesAs, goes_on, leaves, leave_is_quiet}

-- ---- Events

-- nothing else was shown where the note of the turns before is that of a call, and that is of no fault; nothing is completed where the
-- processor leaves
pub record Follows (note : ProgramNote) (turned : Turned) : Type 0 where
  pub earlier : fault_in note ≡ None
  pub told : TellsOf turned.program turned.completed
  pub one : (note ≡ ProgramNote.Plain → ⊥) → (turned.program ≡ ProgramNote.Plain) × (turned.completed ≡ false)

-- the fault that was shown last is that of the last turn, if those before it showed none
last_fault : (note program : ProgramNote) → fault_in note ≡ None → fault_in program ≡ fault_in (note_or program note)
last_fault note ProgramNote.Plain none = sym none
last_fault note (ProgramNote.Called b a) none = refl
last_fault note (ProgramNote.Trapped v) none = refl
last_fault note (ProgramNote.Faulted t) none = refl

module _ (layout : Layout) (queue : List ℕ) (count count' : ℕ) where
  -- the event of the turn, as it is told after it
  same_event : (program : ProgramNote) (completed : Bool) → TellsOf program completed → count' ≡ count + completed_in completed →
      event_of layout queue count program ≡ event_after layout queue count' program
  same_event ProgramNote.Plain completed told is = refl
  same_event (ProgramNote.Called b a) completed told is =
      let one : count' ≡ count + 1 = is ∙ ap (λ b. count + completed_in b) told in
      let before : count ≡ count' - 1 = omega arith in
      ap (λ c. Some (Call c b a)) before
  same_event (ProgramNote.Trapped v) completed told is =
      let same : count' ≡ count + 0 = is ∙ ap (λ b. count + completed_in b) told in
      let before : count ≡ count' = omega arith in
      ap (λ c. Some (Trap c v)) before
  same_event (ProgramNote.Faulted t) completed told is =
      let same : count' ≡ count + 0 = is ∙ ap (λ b. count + completed_in b) told in
      let before : count ≡ count' = omega arith in
      ap (λ c. Some (fault_event layout queue c t)) before

  -- a turn that shows nothing and completes nothing
  quiet_after : (note program : ProgramNote) (completed : Bool) → (program ≡ ProgramNote.Plain) × (completed ≡ false) → count' ≡ count + completed_in completed →
      listed (event_after layout queue count note) ++ [] ≡ listed (event_after layout queue count note) →
      listed (event_after layout queue count note) ++ listed (event_of layout queue count program) ≡ listed (event_after layout queue count' (note_or program note))
  quiet_after note program completed quiet is whole =
      let same : count' ≡ count + 0 = is ∙ ap (λ b. count + completed_in b) quiet.1 in
      let before : count ≡ count' = omega arith in
      ap (λ p. listed (event_after layout queue count note) ++ listed (event_of layout queue count p)) quiet.0
      ∙ whole
      ∙ ap (λ c. listed (event_after layout queue c note)) before
      ∙ ap (λ p. listed (event_after layout queue count' (note_or p note))) (sym quiet.0)

  -- the events of the turns before and of the turn are one at most, that of the later note
  pub both_events : (note program : ProgramNote) (completed : Bool) → TellsOf program completed →
      ((note ≡ ProgramNote.Plain → ⊥) → (program ≡ ProgramNote.Plain) × (completed ≡ false)) → count' ≡ count + completed_in completed →
      listed (event_after layout queue count note) ++ listed (event_of layout queue count program) ≡ listed (event_after layout queue count' (note_or program note))
  both_events ProgramNote.Plain ProgramNote.Plain completed told one is = refl
  both_events ProgramNote.Plain (ProgramNote.Called b a) completed told one is = ap listed (same_event (ProgramNote.Called b a) completed told is)
  both_events ProgramNote.Plain (ProgramNote.Trapped v) completed told one is = ap listed (same_event (ProgramNote.Trapped v) completed told is)
  both_events ProgramNote.Plain (ProgramNote.Faulted t) completed told one is = ap listed (same_event (ProgramNote.Faulted t) completed told is)
  both_events (ProgramNote.Called b a) program completed told one is = quiet_after (ProgramNote.Called b a) program completed (one (λ e. cc)) is refl
  both_events (ProgramNote.Trapped v) program completed told one is = quiet_after (ProgramNote.Trapped v) program completed (one (λ e. cc)) is refl
  both_events (ProgramNote.Faulted t) program completed told one is = quiet_after (ProgramNote.Faulted t) program completed (one (λ e. cc)) is refl

-- ---- The witness

-- turns that go on show no fault
pub no_fault_yet : (layout : Layout) (note : ProgramNote) (cpu : Cpu) (memory : Memory) → RunsWith layout note cpu memory → fault_in note ≡ None
no_fault_yet layout note cpu memory w = by_note note w.goes
  where
    by_note : (n : ProgramNote) → GoesWith n w.runs.control.now → fault_in n ≡ None
    by_note ProgramNote.Plain goes = refl
    by_note (ProgramNote.Called b a) goes = refl
    by_note (ProgramNote.Trapped v) goes = absurd goes
    by_note (ProgramNote.Faulted t) goes = absurd goes

module _ (layout : Layout) (note : ProgramNote) (cpu cpu' : Cpu) (memory memory' : Memory) (turned : Turned) (w : RunsWith layout note cpu memory)
    (to : TurnsTo layout cpu.lp.0 w.runs.state turned cpu' memory') where
  abbrev its_event : Option Event
  its_event = event_of layout w.runs.state.queue w.runs.state.count turned.program

  goes_to : GoesTo layout w.runs.image (TurnFollows layout cpu.lp.0 w.runs.past turned.exit) (at_moment w.runs.past w.runs.control w.runs.turns w.runs.state)
      (past_after w.runs.past cpu.lp.0 0 turned.exit) to.new its_event
  goes_to = to.turn w.runs.image w.runs.past w.runs.control w.runs.turns w.runs.within w.runs.stands 0

  -- after a call the processor leaves, and shows nothing
  pub after_call : (b a : ℕ) → note ≡ ProgramNote.Called b a → (is_some turned.exit ≡ true) × (turned.program ≡ ProgramNote.Plain)
  after_call b a is =
      let g = goes_to in
      let now : GoesWith (ProgramNote.Called b a) w.runs.control.now = subst (λ n. GoesWith n w.runs.control.now) is w.goes in
      let follows = g.does.traced [] tt in (
        leaves layout cpu.lp.0 w.runs.past (with_rest w.runs.control (events_by g.made ++ [])) (with_rest g.control []) turned.exit g.made b a now follows,
        no_note turned.program (leave_is_quiet layout cpu.lp.0 w.runs.past (with_rest w.runs.control (events_by g.made ++ [])) (with_rest g.control []) turned.exit its_event g.made b a now follows g.told),
      )
    where
      no_note : (program : ProgramNote) → event_of layout w.runs.state.queue w.runs.state.count program ≡ None → program ≡ ProgramNote.Plain
      no_note ProgramNote.Plain e = refl
      no_note (ProgramNote.Called b a) e = cc
      no_note (ProgramNote.Trapped v) e = cc
      no_note (ProgramNote.Faulted t) e = cc

  -- so where it goes on the note before was of nothing
  pub plain_before : turned.exit ≡ None → note ≡ ProgramNote.Plain
  plain_before stays = by_note note refl
    where
      by_note : (n : ProgramNote) → note ≡ n → n ≡ ProgramNote.Plain
      by_note ProgramNote.Plain is = refl
      by_note (ProgramNote.Called b a) is = let left = (after_call b a is).0 in let wrong : false ≡ true = sym (ap is_some stays) ∙ left in cc
      by_note (ProgramNote.Trapped v) is = absurd (subst (λ n. GoesWith n w.runs.control.now) is w.goes)
      by_note (ProgramNote.Faulted t) is = absurd (subst (λ n. GoesWith n w.runs.control.now) is w.goes)

  -- the processor that goes on stands at a moment, in the context of the later note
  pub runs_with : cpu'.lp ≡ cpu.lp → turned.exit ≡ None → RunsWith layout (note_or turned.program note) cpu' memory'
  runs_with same stays =
      let turn = subst (λ (exit : Option Exit). IsTurn layout cpu.lp.0 w.runs.state to.new exit its_event) stays to.turn in
      let g = turn w.runs.image w.runs.past w.runs.control w.runs.turns w.runs.within w.runs.stands 0 in
      let goes : GoesAs its_event g.control.now =
      goes_on layout cpu.lp.0 w.runs.past (with_rest w.runs.control (events_by g.made ++ [])) (with_rest g.control []) its_event g.made (g.does.traced [] tt) g.told in
      record {
        runs = record {
          image = w.runs.image;
          past = w.runs.past;
          control = g.control;
          turns = g.turns;
          state = to.new;
          machine = to.machine;
          stands = g.stands;
          within = subst (λ (lp : Lp). inside w.runs.past lp.0 ≡ true) (sym same) w.runs.within;
        };
        goes = subst (λ n. GoesWith (note_or turned.program n) g.control.now) (sym (plain_before stays)) (by_program turned.program g.control.now goes);
      }
    where
      event_goes : (t : Access) (now : Option Context) → GoesAs (Some (fault_event layout w.runs.state.queue w.runs.state.count t)) now → ⊥
      event_goes t now =
          let P : Event → Type 0 = λ e. GoesAs (Some e) now → ⊥ in
          either_way P (is_forbidden layout t) (Trap w.runs.state.count 14)
          (if is_in w.runs.state.queue (cluster_at layout t.page.0) then Break w.runs.state.count else Miss w.runs.state.count (cluster_at layout t.page.0)) (λ wrong. wrong)
          (either_way P (is_in w.runs.state.queue (cluster_at layout t.page.0)) (Break w.runs.state.count) (Miss w.runs.state.count (cluster_at layout t.page.0)) (λ wrong. wrong) (λ wrong. wrong))

      by_program : (program : ProgramNote) (now : Option Context) → GoesAs (event_of layout w.runs.state.queue w.runs.state.count program) now → GoesWith (note_or program ProgramNote.Plain) now
      by_program ProgramNote.Plain now goes = tt
      by_program (ProgramNote.Called b a) now goes = goes
      by_program (ProgramNote.Trapped v) now goes = absurd goes
      by_program (ProgramNote.Faulted t) now goes = absurd (event_goes t now goes)

  -- where the processor leaves nothing is completed: so the turn follows the note before
  pub follows : TellsOf turned.program turned.completed → (is_some turned.exit ≡ true → turned.completed ≡ false) → Follows note turned
  follows told left = record { earlier = no_fault_yet layout note cpu memory w; told = told; one = λ shown. by_note note refl shown }
    where
      by_note : (n : ProgramNote) → note ≡ n → (note ≡ ProgramNote.Plain → ⊥) → (turned.program ≡ ProgramNote.Plain) × (turned.completed ≡ false)
      by_note ProgramNote.Plain is shown = absurd (shown is)
      by_note (ProgramNote.Called b a) is shown = let c = after_call b a is in (c.1, left c.0)
      by_note (ProgramNote.Trapped v) is shown = absurd (subst (λ n. GoesWith n w.runs.control.now) is w.goes)
      by_note (ProgramNote.Faulted t) is shown = absurd (subst (λ n. GoesWith n w.runs.control.now) is w.goes)

-- ---- The turns

module _ (layout : Layout) (lp : Lp) (taken completed : ℕ) (note : ProgramNote) (old : State) (turned : Turned) (cpu cpu' : Cpu) (memory memory' : Memory)
    (so_far : RunsSoFar layout lp.0 taken old completed note cpu memory) (f : Follows note turned) (to : TurnsTo layout lp.0 so_far.new turned cpu' memory') where
  -- the event of both
  both : listed (event_after layout old.queue so_far.new.count note) ++ listed (event_of layout so_far.new.queue so_far.new.count turned.program)
      ≡ listed (event_after layout old.queue to.new.count (note_or turned.program note))
  both =
      ap (λ queue. listed (event_after layout old.queue so_far.new.count note) ++ listed (event_of layout queue so_far.new.count turned.program)) so_far.queue
      ∙ both_events layout old.queue so_far.new.count to.new.count note turned.program turned.completed f.told f.one to.count

  count_after : to.new.count ≡ old.count + (completed + completed_in turned.completed)
  count_after = let before = so_far.count in let after = to.count in omega arith

  -- one more, which goes on
  pub one_more : turned.exit ≡ None → (taken' completed' : ℕ) → taken' ≡ suc taken → completed' ≡ completed + completed_in turned.completed →
      RunsSoFar layout lp.0 taken' old completed' (note_or turned.program note) cpu' memory'
  one_more stays taken' completed' more sum = record {
    new = to.new;
    machine = to.machine;
    others = λ q other. to.others q other ∙ so_far.others q other;
    count = count_after ∙ ap (λ n. old.count + n) (sym sum);
    queue = to.queue stays ∙ so_far.queue;
    turns = subst (λ n. AreTurns layout lp.0 n old to.new (event_after layout old.queue to.new.count (note_or turned.program note))) (sym more) (
      so_far.new,
      event_after layout old.queue so_far.new.count note,
      event_of layout so_far.new.queue so_far.new.count turned.program,
      so_far.turns,
      subst (λ (exit : Option Exit). IsTurn layout lp.0 so_far.new to.new exit (event_of layout so_far.new.queue so_far.new.count turned.program)) stays to.turn,
      both,
    );
  }

  -- the last one, which leaves
  pub last_one : nat_lt lp.0 layout.lps ≡ true → (old.processors lp.0).inside ≡ true → (all : ℕ) → taken < all → (exit : Exit) → turned.exit ≡ Some exit →
      (ran : Ran) → ran ≡ record { exit = exit; completed = completed + completed_in turned.completed; program = note_or turned.program note; runtime = turned.runtime } →
      RunsTo layout lp all old ran (record cpu' { tlb = memory'.tlb }) memory'.table memory'.encls
  last_one known in_use all lt exit left ran is =
      let second = event_of layout so_far.new.queue so_far.new.count turned.program in
      let event = event_after layout old.queue to.new.count (note_or turned.program note) in
      let turn : IsTurn layout lp.0 so_far.new to.new (Some exit) second = subst (λ (x : Option Exit). IsTurn layout lp.0 so_far.new to.new x second) left to.turn in
      let named : NamesCause layout lp.0 so_far.new to.new (Some exit) second (outcome_of turned.runtime) =
      subst (λ (x : Option Exit). NamesCause layout lp.0 so_far.new to.new x second (outcome_of turned.runtime)) left to.cause in
      let its : Ran = record { exit = exit; completed = completed + completed_in turned.completed; program = note_or turned.program note; runtime = turned.runtime } in
      let done : RunsTo layout lp all old its (record cpu' { tlb = memory'.tlb }) memory'.table memory'.encls = record {
        new = to.new;
        machine = to.machine;
        others = λ q other. to.others q other ∙ so_far.others q other;
        count = count_after;
        move = exit_moves layout lp old known in_use taken all so_far.new to.new exit (event_after layout old.queue so_far.new.count note) second event lt so_far.turns turn both;
        cause = exit_names layout lp old known in_use taken all so_far.new to.new exit (event_after layout old.queue so_far.new.count note) second event (outcome_of turned.runtime) lt so_far.turns named both;
        notes = inr (record {
          known = known;
          in_use = in_use;
          before = taken;
          fewer = lt;
          mid = so_far.new;
          first = event_after layout old.queue so_far.new.count note;
          second = second;
          turns = so_far.turns;
          turn = named;
          both = both;
          tells = subst (λ (noted : Option Access). TellsTurn layout lp.0 so_far.new second noted (outcome_of turned.runtime)) (last_fault note turned.program f.earlier) to.notes;
        });
      } in
      subst (λ (r : Ran). RunsTo layout lp all old r (record cpu' { tlb = memory'.tlb }) memory'.table memory'.encls) (sym is) done

-- ---- All turns used up

pub all_taken : (layout : Layout) (lp : Lp) (all completed : ℕ) (note : ProgramNote) (old : State) (cpu : Cpu) (memory : Memory) → RunsSoFar layout lp.0 all old completed note cpu memory →
    fault_in note ≡ None → nat_lt lp.0 layout.lps ≡ true → (old.processors lp.0).inside ≡ true →
    RunsTo layout lp all old (record { exit = Exit.Still; completed = completed; program = note; runtime = RuntimeNote.Quiet }) (record cpu { tlb = memory.tlb }) memory.table memory.encls
all_taken layout lp all completed note old cpu memory so_far none known in_use = record {
  new = so_far.new;
  machine = so_far.machine;
  others = so_far.others;
  count = so_far.count;
  move = still_moves layout lp old known in_use all so_far.new (event_after layout old.queue so_far.new.count note) so_far.turns;
  cause = still_names layout lp old known in_use all so_far.new (event_after layout old.queue so_far.new.count note) so_far.turns;
  notes = inl (record { still = refl; turns = so_far.turns; quiet = record { no_fault = none; no_step = refl } });
}

-- ---- The processor

-- a processor that runs is inside, and so it is in each machine that has it
pub runs_inside : (layout : Layout) (cpu : Cpu) (memory : Memory) → Runs layout cpu memory → cpu.inside ≡ true
runs_inside layout cpu memory runs = sym runs.machine.processor.inside ∙ runs.stands.tables.presence.within cpu.lp.0 ∙ runs.within

-- a number below another, as a test
pub is_below : (n m : ℕ) → n < m → nat_lt n m ≡ true
is_below n m lt = grind (arith, nat_tests)

-- what a turn leaves, after what the turns before it left
pub still_on : (exit : Option Exit) (cpu cpu' cpu'' : Cpu) (memory memory' memory'' : Memory) → StillRuns cpu cpu' memory memory' → TurnKeeps exit cpu' cpu'' memory' memory'' →
    StillRuns cpu cpu'' memory memory''
still_on exit cpu cpu' cpu'' memory memory' memory'' before turn = record {
  cpu_is =
      let is : cpu'' ≡ record cpu' { regs = cpu''.regs; inside = cpu''.inside; tlb = cpu''.tlb } =
      turn.cpu_is ∙ ap (λ b. record cpu' { regs = cpu''.regs; inside = b; tlb = cpu''.tlb }) (sym (ap (λ (c : Cpu). c.inside) turn.cpu_is)) in
      is ∙ ap (λ (c : Cpu). record c { regs = cpu''.regs; inside = cpu''.inside; tlb = cpu''.tlb }) before.cpu_is;
  uncached = λ none. turn.uncached (before.uncached none);
  table = turn.table ∙ before.table;
  encls = turn.encls ∙ ap (λ (e : Enclave). record e { frames = memory''.encls.frames; track = memory''.encls.track }) before.encls;
  cycles = turn.cycles ∙ before.cycles;
}

-- ---- Translations that move between a processor and the memory

-- the machine is the same, with parts that are
pub same_machine : (layout : Layout) (cpu : Cpu) (table table' : List Pte) (encls encls' : Enclave) (tlb : List Translation) (state : State) → IsMachine layout cpu table encls state →
    tlb ≡ cpu.tlb → table' ≡ table → encls' ≡ encls → IsMachine layout (record cpu { tlb = tlb }) table' encls' state
same_machine layout cpu table table' encls encls' tlb state m cached mapped paging =
    subst (λ (x : List Translation). IsMachine layout (record cpu { tlb = x }) table' encls' state) (sym cached)
    (subst (λ (x : List Pte). IsMachine layout cpu x encls' state) (sym mapped)
    (subst (λ (x : Enclave). IsMachine layout cpu table x state) (sym paging) m))

-- so the run leads there too
pub same_run : (layout : Layout) (lp : Lp) (turns : ℕ) (old : State) (ran : Ran) (cpu : Cpu) (tlb tlb' : List Translation) (table table' : List Pte) (encls encls' : Enclave) →
    RunsTo layout lp turns old ran (record cpu { tlb = tlb }) table encls → tlb' ≡ tlb → table' ≡ table → encls' ≡ encls → RunsTo layout lp turns old ran (record cpu { tlb = tlb' }) table' encls'
same_run layout lp turns old ran cpu tlb tlb' table table' encls encls' to cached mapped paging =
    subst (λ (x : List Translation). RunsTo layout lp turns old ran (record cpu { tlb = x }) table' encls') (sym cached)
    (subst (λ (x : List Pte). RunsTo layout lp turns old ran (record cpu { tlb = tlb }) x encls') (sym mapped)
    (subst (λ (x : Enclave). RunsTo layout lp turns old ran (record cpu { tlb = tlb }) table x) (sym paging) to))
