-- A turn of the program is one of the definitions: by what its instruction does, and by what an asynchronous exit leaves.
use Rattle.std.proofs.Common.{◌≡◌, ◌≢◌, ℕ, ◌+◌, ◌<◌, ◌≤◌, Bool, true, false, List, [], length, ◌==◌, if◌then◌else◌, refl, ap, sym, ◌∙◌, subst, arith}
use Rattle.std.proofs.lemmas.Bool.{and_parts}
use Rattle.std.proofs.lemmas.Bool.Decides.{nat_tests}
use Rattle.std.specs.Prelude.{Option, Some, None, IsTrue, is_some, ◌||◌, ◌++◌, map}
use Rattle.ak_core.specs.Layout.{Layout}
use Rattle.ak_core.specs.Mem.{Access}
use Rattle.ak_core.specs.declared.event.Event.{Event}
use Rattle.ak_core.specs.declared.event.Event.TheVariants.{Break, Call, Miss, Trap}
use Rattle.ak_core.specs.declared.moves.Exit.{Exit}
use Rattle.ak_core.specs.declared.page.Entry.{Entry}
use Rattle.ak_core.specs.declared.registers.Mode.{Mode}
use Rattle.ak_core.specs.declared.registers.Regs.{Regs}
use Rattle.ak_exec.specs.Turns.{is_vector}
use Rattle.ak_exec.specs.declared.turn.Turn.{Turn}
use Rattle.ak_model.specs.Clusters.Queue.{is_in}
use Rattle.ak_model.specs.Control.RuntimeTurn.{shown_fault}
use Rattle.ak_model.specs.Flat.FlatRuns.{End, is_forbidden}
use Rattle.ak_model.specs.Paging.Pages.{all_pages, cluster_at, ssa_page, tcs_page}
use Rattle.ak_epcm.specs.Entries.{entry_at, is_of_page, has_page}
use Rattle.ak_pager.specs.Contexts.{step_address}
use Rattle.ak_pte.specs.declared.table.Pte.{Pte}
use Rattle.ak_relation.proofs.Exits.ExitTurns.{break_turns, miss_turns, denied_turns, vector_turns}
use Rattle.ak_relation.proofs.Exits.HeldFrames.{program_frames}
use Rattle.ak_relation.proofs.Program.CallMoves.{call_turns}
use Rattle.ak_relation.proofs.Program.ComputedTurns.{computed_turns}
use Rattle.ak_relation.proofs.Program.Seen.{sees}
use Rattle.ak_relation.proofs.Runs.NamedMoves.{program_names}
use Rattle.ak_relation.specs.Bytes.Pages.{IsTcs}
use Rattle.ak_relation.specs.Premises.Faulting.{SavesFirst, ShowsFault, ShowsTrap}
use Rattle.ak_relation.specs.Premises.Saving.{Saves}
use Rattle.ak_relation.specs.Program.FaultedTurns.{fault_event}
use Rattle.ak_relation.specs.Program.Seeing.{Sees}
use Rattle.ak_relation.specs.Relation.Does.{IsTurn}
use Rattle.ak_relation.specs.Relation.HeldFrames.{HoldsFrames}
use Rattle.ak_relation.specs.Relation.Tells.{TellsTurn}
use Rattle.ak_relation.proofs.Exits.ToldFaults.{fault_tells, denied_tells, other_tells}
use Rattle.ak_pager.specs.declared.turn.RtTurn.{RtTurn}
use Rattle.ak_relation.specs.State.MachineState.{State}
use Rattle.ak_ssa.specs.FramesFit.{CauseFits}
use Rattle.ak_ssa.specs.SavedFrames.{SavedCause, ByPage, ByVector, why_of}
use Rattle.ak_ssa.specs.declared.cause.Why.{Why}
use Rattle.ak_tlb.specs.Fills.{Fill, HoldsFills}
use Rattle.ak_encls.specs.Enclave.{Enclave, frame_at}
use Rattle.ak_enclu.proofs.Left.{saves}
use Rattle.ak_enclu.specs.Machines.{IsMachine, LeadsToWhere}
use Rattle.ak_enclu.specs.Passing.{outside_now, ExitsTo}
use Rattle.ak_enclu.specs.TcsBytes.{saved_of, refuses}
use Rattle.ak_enclu.specs.declared.cpu.Cpu.{Cpu}
use Rattle.ak_memory.specs.Granting.{in_use, walked_of, fill_by}
use Rattle.ak_memory.specs.declared.memory.Memory.{Memory}
use Rattle.ak_turns.specs.Instructing.{memory_bytes, granted_in, Instructs}
use Rattle.ak_turns.specs.Running.{IsRunning, Runs, TurnsTo, event_of, fault_in}
use Rattle.ak_turns.specs.declared.notes.ProgramNote.{ProgramNote}
use Rattle.ak_turns.specs.declared.notes.RuntimeNote.{RuntimeNote}
use Rattle.ak_turns.specs.declared.notes.Turned.{Turned}
use Rattle.ak_turns.proofs.ProgramTurns.Completed.{completed, completed_machine, shows_computed, shows_call, call_frames}
use Rattle.ak_turns.proofs.ProgramTurns.Ended.{shows_vector, shows_denied, refused_low, shows_fault, shows_refusal}
use Rattle.ak_turns.proofs.ProgramTurns.Machines.{stepped_other}
use Rattle.ak_turns.proofs.ProgramTurns.Showing.{page_in_frame, shows}
use Rattle.ak_turns.proofs.ProgramTurns.Walks.{IsKnown, known, entered}
use Rattle.ak_turns.proofs.ProgramTurns.Written.{own_page, low}

-- a vector of an instruction is no page fault, and of 8 bits
vector_by : (v : ℕ) (a b c : Bool) → (v == 0) ≡ a → (v == 6) ≡ b → (v == 13) ≡ c → IsTrue (a || (b || c)) → (v ≢ 14) × (v < 256)
vector_by v true b c e d f some = (grind (arith, nat_tests), grind (arith, nat_tests))
vector_by v false true c e d f some = (grind (arith, nat_tests), grind (arith, nat_tests))
vector_by v false false true e d f some = (grind (arith, nat_tests), grind (arith, nat_tests))
vector_by v false false false e d f some = absurd (cc)

vector_fits : (v : ℕ) → IsTrue (is_vector v) → (v ≢ 14) × (v < 256)
vector_fits v some = vector_by v (v == 0) (v == 6) (v == 13) refl refl refl some

-- a TCS that says that nothing is saved says that few are
pub few_saved : {bytes : List ℕ} → IsTcs 0 false bytes → saved_of bytes ≤ 2
few_saved {bytes} says = let none : saved_of bytes ≡ 0 = says.saved_is in omega arith

-- what is cached after a turn whose memory used its translations
pub cached_after : (mid new : Memory) → mid.uses_cache ≡ true
    → ((fills : List Fill) → HoldsFills mid.tlb fills → HoldsFills new.tlb (map (fill_by mid.table) (walked_of (in_use mid.uses_cache mid.tlb) (granted_in mid)) ++ fills))
    → (fills : List Fill) → HoldsFills mid.tlb fills → HoldsFills new.tlb (map (fill_by mid.table) (walked_of mid.tlb (granted_in mid)) ++ fills)
cached_after mid new uses holds fills held =
    subst (λ (b : Bool). HoldsFills new.tlb (map (fill_by mid.table) (walked_of (in_use b mid.tlb) (granted_in mid)) ++ fills)) uses (holds fills held)

-- the event of a fault, by whether the access is forbidden, and whether its cluster is in
abbrev pub chosen_event : ℕ → ℕ → Bool → Bool → Event
chosen_event count c forbidden inside = if forbidden then Trap count 14 else (if inside then Break count else Miss count c)

-- the turn, with a note of the program
abbrev pub completed_turn : ProgramNote → Turned
completed_turn program = record { exit = None; completed = true; program = program; runtime = RuntimeNote.Quiet }

abbrev pub ended_turn : Exit → ProgramNote → Turned
ended_turn exit program = record { exit = Some exit; completed = false; program = program; runtime = RuntimeNote.Quiet }

module _ (layout : Layout) (cpu : Cpu) (memory : Memory) (runs : Runs layout cpu memory) (mode : cpu.regs.mode ≡ Mode.Program) where
  -- the processor with what it has cached
  abbrev own : Cpu
  own = record cpu { tlb = memory.tlb }

  pub what_is_known : IsKnown layout own memory.table memory.encls
  what_is_known =
      known layout own memory.table memory.encls runs.image runs.past runs.control runs.turns runs.state runs.stands runs.machine runs.within mode memory.distinct memory.named

  witness_mode : (runs.state.processors cpu.lp.0).regs.mode ≡ Mode.Program
  witness_mode = ap (λ (regs : Regs). regs.mode) runs.machine.processor.regs ∙ mode

  -- it sees the program somewhere
  witness_sees : Sees layout runs.state cpu.lp.0 runs.stands.bytes.flat
  witness_sees =
      let stay = entered runs.past cpu.lp.0 runs.within in
      sees layout runs.image runs.past runs.control runs.turns runs.state cpu.lp.0 stay.place runs.stands stay.is witness_mode

  state_mode : (state : State) → IsRunning layout cpu memory state → (state.processors cpu.lp.0).regs.mode ≡ Mode.Program
  state_mode state m = ap (λ (regs : Regs). regs.mode) m.processor.regs ∙ mode

  -- ---- An instruction that completes

  module _ (regs : Regs) (mid new : Memory) (encls : new.encls ≡ mid.encls) (mapped : new.table ≡ mid.table)
      (holds : (fills : List Fill) → HoldsFills mid.tlb fills → HoldsFills new.tlb (map (fill_by mid.table) (walked_of mid.tlb (granted_in mid)) ++ fills)) where
    machine_after : (turn : Turn) (d : Instructs layout turn cpu.regs regs memory mid) (regs' : Regs) (state end : State)
        → IsMachine layout (record own { regs = regs'; tlb = new.tlb }) memory.table mid.encls end → IsRunning layout (record cpu { regs = regs' }) new end
    machine_after turn d regs' state end m =
        subst (λ (e : Enclave). IsMachine layout (record own { regs = regs'; tlb = new.tlb }) new.table e end) (sym encls)
        (subst (λ (t : List Pte). IsMachine layout (record own { regs = regs'; tlb = new.tlb }) t mid.encls end) (sym (mapped ∙ d.table)) m)

    holds_after : (turn : Turn) (d : Instructs layout turn cpu.regs regs memory mid) (fills : List Fill) → HoldsFills memory.tlb fills
        → HoldsFills new.tlb (map (fill_by memory.table) (walked_of memory.tlb (granted_in mid)) ++ fills)
    holds_after turn d fills held =
        subst (λ (t : List Pte). HoldsFills new.tlb (map (fill_by t) (walked_of memory.tlb (granted_in mid)) ++ fills)) d.table
        (subst (λ tlb. HoldsFills new.tlb (map (fill_by mid.table) (walked_of tlb (granted_in mid)) ++ fills)) d.tlb
        (holds fills (subst (λ tlb. HoldsFills tlb fills) (sym d.tlb) held)))

    pub turned_done : Instructs layout Turn.Done cpu.regs regs memory mid → (state : State) → IsRunning layout cpu memory state
        → TurnsTo layout cpu.lp.0 state (completed_turn ProgramNote.Plain) (record cpu { regs = regs }) new
    turned_done d state m =
        let k = what_is_known in
        let granted = granted_in mid in
        let end = completed layout own memory.table memory.encls mid.encls k d.kept granted d.granted d.unwritten state regs (frame_at mid.encls.frames) in
        let seen = shows layout own memory.table memory.encls k runs.state runs.machine runs.stands.bytes.flat witness_sees in
        let c = d.line_is runs.stands.bytes.flat (sym witness_sees.regs ∙ runs.machine.processor.regs) seen in
        let l = low layout own memory.table memory.encls mid.encls k d.kept granted d.granted d.unwritten runs.state runs.machine runs.stands.bytes.flat witness_sees End.Next regs c in
        let turn = computed_turns layout cpu.lp.0 state end (state_mode state m)
        (shows_computed layout own memory.table memory.encls mid.encls k d.kept granted d.granted d.unwritten state m regs d.line_is) in
        record {
          new = end;
          machine = machine_after Turn.Done d regs state end
              (completed_machine layout own memory.table memory.encls mid.encls k d.kept granted d.granted d.unwritten state m l regs new.tlb
              (frame_at mid.encls.frames) (holds_after Turn.Done d) (λ f. refl));
          others = λ q other. stepped_other state cpu.lp.0 q _ other;
          count = refl;
          queue = λ goes. refl;
          turn = turn;
          cause = program_names layout cpu.lp.0 state end None None (state_mode state m) turn;
          notes = other_tells layout cpu.lp.0 state (state_mode state m) None refl;
        }

    pub turned_called : (b a : ℕ) → Instructs layout (Turn.Called b a) cpu.regs regs memory mid → (state : State) → IsRunning layout cpu memory state
        → TurnsTo layout cpu.lp.0 state (completed_turn (ProgramNote.Called b a)) (record cpu { regs = record regs { rip = step_address layout 32; mode = Mode.Runtime } }) new
    turned_called b a d state m =
        let k = what_is_known in
        let granted = granted_in mid in
        let regs' : Regs = record regs { rip = step_address layout 32; mode = Mode.Runtime } in
        let end = completed layout own memory.table memory.encls mid.encls k d.kept granted d.granted d.unwritten state regs' state.frames in
        let seen = shows layout own memory.table memory.encls k runs.state runs.machine runs.stands.bytes.flat witness_sees in
        let c = d.line_is runs.stands.bytes.flat (sym witness_sees.regs ∙ runs.machine.processor.regs) seen in
        let l = low layout own memory.table memory.encls mid.encls k d.kept granted d.granted d.unwritten runs.state runs.machine runs.stands.bytes.flat witness_sees (End.Call b a) regs c in
        let same = call_frames layout own memory.table memory.encls mid.encls k d.kept granted d.granted d.unwritten runs.state runs.machine runs.stands.bytes.flat witness_sees b a regs d.line_is in
        let turn = call_turns layout cpu.lp.0 state end b a (state_mode state m)
        (shows_call layout own memory.table memory.encls mid.encls k d.kept granted d.granted d.unwritten state m b a regs d.line_is) in
        record {
          new = end;
          machine = machine_after (Turn.Called b a) d regs' state end
              (completed_machine layout own memory.table memory.encls mid.encls k d.kept granted d.granted d.unwritten state m l regs' new.tlb state.frames (holds_after (Turn.Called b a) d)
              (λ f. m.paging.frames f ∙ sym (same f)));
          others = λ q other. stepped_other state cpu.lp.0 q _ other;
          count = refl;
          queue = λ goes. refl;
          turn = turn;
          cause = program_names layout cpu.lp.0 state end None (Some (Call state.count b a)) (state_mode state m) turn;
          notes = other_tells layout cpu.lp.0 state (state_mode state m) (Some (Call state.count b a)) refl;
        }

  -- ---- An exit

  -- bytes that stay are in the same frames
  pub same_frames : (mid : Memory) (turn : Turn) (regs : Regs) → Instructs layout turn cpu.regs regs memory mid
      → memory_bytes mid.encls.frames memory.encls.entries ≡ memory_bytes memory.encls.frames memory.encls.entries → (f : ℕ) → frame_at mid.encls.frames f ≡ frame_at memory.encls.frames f
  same_frames mid turn regs d same f = by_page (is_of_page (entry_at memory.encls.entries f)) refl
    where
      by_page : (b : Bool) → is_of_page (entry_at memory.encls.entries f) ≡ b → frame_at mid.encls.frames f ≡ frame_at memory.encls.frames f
      by_page false e = d.kept.others f e
      by_page true e =
          let k = what_is_known in
          let p = (entry_at memory.encls.entries f).page.0 in
          let has = own_page (entry_at memory.encls.entries f) e in
          sym (page_in_frame mid.encls.frames memory.encls.entries f p k.distinct (d.kept.lengths f ∙ k.whole f) has)
          ∙ ap (λ (bytes : ℕ → List ℕ). bytes p) same
          ∙ page_in_frame memory.encls.frames memory.encls.entries f p k.distinct (k.whole f) has

  -- the frames that the processor holds
  witness_holds : HoldsFrames layout 0 runs.state.entries runs.state.frames (runs.state.processors cpu.lp.0)
  witness_holds = program_frames layout runs.image runs.past runs.control runs.turns runs.state runs.stands cpu.lp.0 runs.within witness_mode

  -- what is asked of the asynchronous exit after an instruction that left the frames
  pub record MayLeave (encls : Enclave) : Type 0 where
    pub tcs : is_of_page (entry_at encls.entries cpu.tcs.0) ≡ true
    pub area : is_of_page (entry_at encls.entries cpu.ssa.0) ≡ true
    pub apart : (cpu.tcs.0 == cpu.ssa.0) ≡ false
    pub says : IsTcs 0 false (frame_at encls.frames cpu.tcs.0)

  of_page : (e : Entry) (p : ℕ) → has_page e p ≡ true → is_of_page e ≡ true
  of_page e p has = (and_parts (is_of_page e) (e.page.0 == p) has).0

  pub may_leave : (mid : Memory) (turn : Turn) (regs : Regs) → Instructs layout turn cpu.regs regs memory mid
      → memory_bytes mid.encls.frames memory.encls.entries ≡ memory_bytes memory.encls.frames memory.encls.entries → MayLeave mid.encls
  may_leave mid turn regs d same =
      let h = witness_holds in
      let m = runs.machine in
      let entries : runs.state.entries ≡ mid.encls.entries = m.paging.entries ∙ sym (ap (λ (e : Enclave). e.entries) d.kept.rest) in
      record {
        tcs = ap (λ es. is_of_page (entry_at es cpu.tcs.0)) (sym entries) ∙ ap (λ f. is_of_page (entry_at runs.state.entries f)) (sym m.processor.tcs)
            ∙ of_page (entry_at runs.state.entries (runs.state.processors cpu.lp.0).tcs) (tcs_page layout) h.tcs;
        area = ap (λ es. is_of_page (entry_at es cpu.ssa.0)) (sym entries) ∙ ap (λ f. is_of_page (entry_at runs.state.entries f)) (sym m.processor.ssa)
            ∙ of_page (entry_at runs.state.entries (runs.state.processors cpu.lp.0).ssa) (ssa_page layout 0) h.area;
        apart = ap (λ f. f == cpu.ssa.0) (sym m.processor.tcs) ∙ ap (λ f. (runs.state.processors cpu.lp.0).tcs == f) (sym m.processor.ssa) ∙ h.apart;
        says = subst (IsTcs 0 false) (ap runs.state.frames m.processor.tcs ∙ m.paging.frames cpu.tcs.0 ∙ sym (same_frames mid turn regs d same cpu.tcs.0)) h.says;
      }

  module _ (mid : Memory) (turn : Turn) (regs : Regs) (d : Instructs layout turn cpu.regs regs memory mid)
      (same : memory_bytes mid.encls.frames memory.encls.entries ≡ memory_bytes memory.encls.frames memory.encls.entries) (kept : regs ≡ cpu.regs)
      (cause : SavedCause) (fits : CauseFits layout cause) (left : Cpu) (new : Memory) (is : left ≡ outside_now (record cpu { regs = regs }))
      (to : ExitsTo (record cpu { regs = regs }) (why_of layout cause) mid.encls new.encls) (mapped : new.table ≡ mid.table) (flushed : new.tlb ≡ []) where
    -- the machine, over the frames after the instruction
    same_machine : (state : State) → IsRunning layout cpu memory state → IsMachine layout own memory.table mid.encls state
    same_machine state m = subst (λ (e : Enclave). IsMachine layout own memory.table e state) (sym d.kept.rest) (record {
      processor = m.processor;
      mapped = m.mapped;
      paging = record {
        count = m.paging.count;
        entries = m.paging.entries;
        frames = λ f. m.paging.frames f ∙ sym (same_frames mid turn regs d same f);
        sealed_pages = m.paging.sealed_pages;
        next = m.paging.next;
        track = m.paging.track;
        stamps = m.paging.stamps;
        within = m.paging.within;
      };
    })

    exits_own : ExitsTo own (why_of layout cause) mid.encls new.encls
    exits_own =
        let e : ExitsTo (record cpu { regs = cpu.regs }) (why_of layout cause) mid.encls new.encls =
        subst (λ (r : Regs). ExitsTo (record cpu { regs = r }) (why_of layout cause) mid.encls new.encls) kept to in
        record { apart = e.apart; area = e.area; below = e.below; whole = e.whole; tcs = e.tcs; others = e.others; rest = e.rest; track = λ lps steps h. e.track lps steps h }

    pub machine_left : (state : State) → IsRunning layout cpu memory state
        → LeadsToWhere layout (outside_now own) memory.table new.encls (Saves layout cpu.lp.0 0 (refuses (why_of layout cause) || false) cause state)
    machine_left state m =
        let k = what_is_known in
        let may = may_leave mid turn regs d same in
        saves layout state own memory.table mid.encls new.encls 0 false cause (record { whole = λ f. ap length (m.paging.frames f) ∙ k.whole f }) (same_machine state m) exits_own
        (omega arith) may.says (λ (wrong : cpu.regs.mode ≡ Mode.Runtime). absurd (let clash : Mode.Program ≡ Mode.Runtime = sym mode ∙ wrong in cc)) fits

    is_left : (state : State) → IsMachine layout (outside_now own) memory.table new.encls state → IsRunning layout left new state
    is_left state m =
        let path : record left { tlb = new.tlb } ≡ outside_now own =
        ap (λ (c : Cpu). record c { tlb = new.tlb }) is
        ∙ ap (λ (r : Regs). record (outside_now own) { regs = r; tlb = new.tlb }) kept
        ∙ ap (λ tlb. record (outside_now own) { tlb = tlb }) flushed in
        subst (λ (t : List Pte). IsMachine layout (record left { tlb = new.tlb }) t new.encls state) (sym (mapped ∙ d.table))
        (subst (λ (c : Cpu). IsMachine layout c memory.table new.encls state) (sym path) m)

    -- the turn leads there, where the definitions say so of each machine that saves the processor first
    turned_left : (exit : Exit) (note : ProgramNote) (event : Event) (state : State) → IsRunning layout cpu memory state → refuses (why_of layout cause) ≡ true
        → event_of layout state.queue state.count note ≡ Some event
        → ((end : State) → SavesFirst layout cpu.lp.0 state end cause → IsTurn layout cpu.lp.0 state end (Some exit) (Some event))
        → TellsTurn layout cpu.lp.0 state (Some event) (fault_in note) RtTurn.Go → TurnsTo layout cpu.lp.0 state (ended_turn exit note) left new
    turned_left exit note event state m refusing event_is law tells =
        let led = machine_left state m in
        let saved : Saves layout cpu.lp.0 0 true cause state led.state = subst (λ b. Saves layout cpu.lp.0 0 (b || false) cause state led.state) refusing led.does in
        let turn : IsTurn layout cpu.lp.0 state led.state (Some exit) (event_of layout state.queue state.count note) =
        subst (λ (x : Option Event). IsTurn layout cpu.lp.0 state led.state (Some exit) x) (sym event_is) (law led.state (λ says. saved)) in
        let none : state.count ≡ state.count + 0 = omega arith in
        record {
          new = led.state;
          machine = is_left led.state led.machine;
          others = saved.others;
          count = saved.count ∙ none;
          queue = λ goes. let left : true ≡ false = ap is_some goes in cc;
          turn = turn;
          cause = program_names layout cpu.lp.0 state led.state (Some exit) (event_of layout state.queue state.count note) (state_mode state m) turn;
          notes = subst (λ (x : Option Event). TellsTurn layout cpu.lp.0 state x (fault_in note) RtTurn.Go) (sym event_is) tells;
        }

  -- an instruction that traps
  pub turned_trapped : (mid : Memory) (regs : Regs) (v : ℕ) (d : Instructs layout (Turn.Trapped v) cpu.regs regs memory mid) (left : Cpu) (new : Memory)
      → left ≡ outside_now (record cpu { regs = regs }) → ExitsTo (record cpu { regs = regs }) (Why.Vector v) mid.encls new.encls → new.table ≡ mid.table → new.tlb ≡ []
      → (state : State) → IsRunning layout cpu memory state → TurnsTo layout cpu.lp.0 state (ended_turn (Exit.Vector v) (ProgramNote.Trapped v)) left new
  turned_trapped mid regs v d left new is to mapped flushed state m =
      let fits = vector_fits v d.vector in
      let shown : ShowsTrap layout cpu.lp.0 state v =
      shows_vector layout own memory.table memory.encls what_is_known (granted_in mid) d.granted state m v d.line_is in
      turned_left mid (Turn.Trapped v) regs d d.same_bytes d.same_registers (ByVector v) fits.1 left new is to mapped flushed
      (Exit.Vector v) (ProgramNote.Trapped v) (Trap state.count v) state m refl refl
      (λ end saved. vector_turns layout runs.stands.inputs.valid cpu.lp.0 state end (state_mode state m) v shown fits.0 saved)
      (other_tells layout cpu.lp.0 state (state_mode state m) (Some (Trap state.count v)) (grind (arith, nat_tests, fits.0)))

  -- an instruction whose access faults
  pub turned_faulted : (mid : Memory) (regs : Regs) (t : Access) (d : Instructs layout (Turn.Faulted t) cpu.regs regs memory mid) (left : Cpu) (new : Memory)
      → left ≡ outside_now (record cpu { regs = regs }) → ExitsTo (record cpu { regs = regs }) (why_of layout (ByPage t)) mid.encls new.encls → new.table ≡ mid.table → new.tlb ≡ []
      → (state : State) → IsRunning layout cpu memory state → TurnsTo layout cpu.lp.0 state (ended_turn (shown_fault layout) (ProgramNote.Faulted t)) left new
  turned_faulted mid regs t d left new is to mapped flushed state m =
      by_permission (is_forbidden layout t) (is_in state.queue (cluster_at layout t.page.0)) refl refl
    where
      k : IsKnown layout own memory.table memory.encls
      k = what_is_known

      low_page : t.page.0 < all_pages layout
      low_page =
          let l = refused_low layout own memory.table memory.encls k (granted_in mid) d.granted runs.state runs.machine t d.line_is runs.stands.bytes.flat witness_sees in omega arith

      by_event : (event : Event) → fault_event layout state.queue state.count t ≡ event
          → ((end : State) → SavesFirst layout cpu.lp.0 state end (ByPage t) → IsTurn layout cpu.lp.0 state end (Some (shown_fault layout)) (Some event))
          → TellsTurn layout cpu.lp.0 state (Some (fault_event layout state.queue state.count t)) (Some t) RtTurn.Go
          → TurnsTo layout cpu.lp.0 state (ended_turn (shown_fault layout) (ProgramNote.Faulted t)) left new
      by_event event event_is law tells =
          turned_left mid (Turn.Faulted t) regs d d.same_bytes d.same_registers (ByPage t) low_page left new is to mapped flushed
          (shown_fault layout) (ProgramNote.Faulted t) event state m refl (ap Some event_is) law
          (subst (λ (x : Event). TellsTurn layout cpu.lp.0 state (Some x) (Some t) RtTurn.Go) event_is tells)

      faults : is_forbidden layout t ≡ false → ShowsFault layout cpu.lp.0 state t
      faults permitted = shows_fault layout own memory.table memory.encls k (granted_in mid) d.granted state m t permitted d.refused d.line_is

      tells_fault : is_forbidden layout t ≡ false → TellsTurn layout cpu.lp.0 state (Some (fault_event layout state.queue state.count t)) (Some t) RtTurn.Go
      tells_fault permitted = fault_tells layout cpu.lp.0 state (state_mode state m) t (faults permitted)

      event_by : (b c : Bool) → is_forbidden layout t ≡ b → is_in state.queue (cluster_at layout t.page.0) ≡ c
          → fault_event layout state.queue state.count t ≡ chosen_event state.count (cluster_at layout t.page.0) b c
      event_by b c e d = ap (λ x. chosen_event state.count (cluster_at layout t.page.0) x (is_in state.queue (cluster_at layout t.page.0))) e
          ∙ ap (chosen_event state.count (cluster_at layout t.page.0) b) d

      by_permission : (b c : Bool) → is_forbidden layout t ≡ b → is_in state.queue (cluster_at layout t.page.0) ≡ c
          → TurnsTo layout cpu.lp.0 state (ended_turn (shown_fault layout) (ProgramNote.Faulted t)) left new
      by_permission true c forbidden inside =
          by_event (Trap state.count 14) (event_by true c forbidden inside)
          (λ end saved. denied_turns layout runs.stands.inputs.valid cpu.lp.0 state end (state_mode state m) t
          (shows_denied layout own memory.table memory.encls k (granted_in mid) d.granted state m t forbidden d.line_is) forbidden saved)
          (denied_tells layout cpu.lp.0 state (state_mode state m) t (shows_refusal layout own memory.table memory.encls k (granted_in mid) d.granted state m t forbidden d.line_is))
      by_permission false true permitted inside =
          by_event (Break state.count) (event_by false true permitted inside)
          (λ end saved. break_turns layout runs.stands.inputs.valid cpu.lp.0 state end (state_mode state m) t (faults permitted) inside saved)
          (tells_fault permitted)
      by_permission false false permitted out =
          by_event (Miss state.count (cluster_at layout t.page.0)) (event_by false false permitted out)
          (λ end saved. miss_turns layout runs.stands.inputs.valid cpu.lp.0 state end (state_mode state m) t (faults permitted) out saved)
          (tells_fault permitted)
