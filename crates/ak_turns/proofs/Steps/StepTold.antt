-- What a step over the memory came to, from the memory's own clauses; and the turn as contracts have it.
use Rattle.std.proofs.Math.Path.{fun_ext}
use Rattle.std.proofs.Common.{◌≡◌, ℕ, ◌+◌, Bool, true, false, List, [], length, refl, ap, sym, ◌∙◌, subst, arith}
use Rattle.std.specs.Prelude.{Option, Some, None, IfSome}
use Rattle.std.specs.List.{list_all}
use Rattle.ak_core.specs.Layout.{Layout}
use Rattle.ak_core.specs.Mem.{Access}
use Rattle.ak_core.specs.declared.page.Entry.{Entry}
use Rattle.ak_core.specs.declared.moves.Exit.{Exit}
use Rattle.ak_core.specs.declared.registers.Mode.{Mode}
use Rattle.ak_core.specs.declared.registers.Regs.{Regs}
use Rattle.ak_epcm.specs.Entries.{entry_at, has_page, is_of_page, HasDistinctPages}
use Rattle.ak_pte.specs.declared.table.Pte.{Pte}
use Rattle.ak_pager.specs.Effects.{SomeStep, StepsAlways}
use Rattle.ak_pager.specs.declared.turn.RtTurn.{RtTurn}
use Rattle.ak_relation.specs.Premises.Works.{exit_of}
use Rattle.ak_relation.specs.Relation.Causes.{NamesCause}
use Rattle.ak_relation.specs.Relation.Does.{IsTurn}
use Rattle.ak_relation.specs.Relation.Tells.{TellsTurn}
use Rattle.ak_relation.specs.State.MachineState.{State}
use Rattle.ak_tlb.specs.declared.translation.Translation.{Translation}
use Rattle.ak_encls.specs.Enclave.{Enclave, frame_at}
use Rattle.ak_enclu.specs.declared.cpu.Cpu.{Cpu}
use Rattle.ak_memory.proofs.Putting.{whole_page-is, bytes_in_frame}
use Rattle.ak_memory.specs.Granting.{is_walked, is_granted, is_seen, in_use, bytes_of, whole_page}
use Rattle.ak_memory.specs.Keeping.{KeepsAround}
use Rattle.ak_memory.specs.declared.memory.Memory.{Memory}
use Rattle.ak_turns.specs.Running.{Runs, TurnsTo, outcome_of}
use Rattle.ak_turns.specs.Stepping.{HasStepped}
use Rattle.ak_turns.specs.declared.notes.ProgramNote.{ProgramNote}
use Rattle.ak_turns.specs.declared.notes.RuntimeNote.{RuntimeNote}
use Rattle.ak_turns.proofs.Steps.OwnMachine.{frames_whole, some_step}
use Rattle.ak_turns.proofs.Steps.RuntimeTurns.{StepTurns}
use Rattle.ak_turns.proofs.Steps.Walking.{granted_walked}

-- the bytes of each page, as a memory over these frames has them
abbrev pub bytes_by : List (List ℕ) → List Entry → ℕ → List ℕ
bytes_by frames entries p = whole_page (bytes_of frames entries p)

-- those of the frame that holds it
bytes_here : (frames : List (List ℕ)) (entries : List Entry) → HasDistinctPages entries → ((f : ℕ) → length (frame_at frames f) ≡ 4096) → (f p : ℕ) → has_page (entry_at entries f) p ≡ true →
    bytes_by frames entries p ≡ frame_at frames f
bytes_here frames entries distinct whole f p has =
    ap whole_page (bytes_in_frame frames entries f p distinct has) ∙ whole_page-is (frame_at frames f) (whole f)

none_by : (P : Access → Bool) (refused : Option Access) → IfSome refused (λ t. P t ≡ false) → (t : Access) → refused ≡ Some t → P t ≡ false
none_by P refused lost t e = let own : IfSome (Some t) (λ u. P u ≡ false) = subst (λ o. IfSome o (λ u. P u ≡ false)) e lost in own

module _ (layout : Layout) (cpu : Cpu) (memory : Memory) (r : Runs layout cpu memory) (mode : cpu.regs.mode ≡ Mode.Runtime) (distinct : HasDistinctPages memory.encls.entries)
    (encls : Enclave) (table : List Pte) (cached : List Translation) (uses : Bool) (same_encls : encls ≡ memory.encls) (same_table : table ≡ memory.table) (unused : uses ≡ false) where
  -- a memory of the same frames and tables, which uses no cached translation, shows a step that is defined
  pub step_there : SomeStep layout cpu.regs (is_seen encls.entries table (in_use uses cached)) (bytes_by encls.frames encls.entries)
  step_there =
      subst (λ (e : Enclave). SomeStep layout cpu.regs (is_seen e.entries table (in_use uses cached)) (bytes_by e.frames e.entries)) (sym same_encls)
      (subst (λ (t : List Pte). SomeStep layout cpu.regs (is_seen memory.encls.entries t (in_use uses cached)) (bytes_by memory.encls.frames memory.encls.entries)) (sym same_table)
      (subst (λ b. SomeStep layout cpu.regs (is_seen memory.encls.entries memory.table (in_use b cached)) (bytes_by memory.encls.frames memory.encls.entries)) (sym unused)
      (some_step layout cpu memory r (bytes_by memory.encls.frames memory.encls.entries)
      (bytes_here memory.encls.frames memory.encls.entries distinct (frames_whole layout cpu memory r)) mode)))

  module _ (new : Enclave) (table' : List Pte) (cached' : List Translation) (uses' : Bool) (keeps : KeepsAround encls new table table' cached cached' uses uses')
      (granted : List Access) (refused : Option Access) (outcome : RtTurn) (regs : Regs) where
    rest : new ≡ record memory.encls { frames = new.frames }
    rest = keeps.encls.rest ∙ ap (λ (e : Enclave). record e { frames = new.frames }) same_encls

    entries_are : new.entries ≡ memory.encls.entries
    entries_are = ap (λ (e : Enclave). e.entries) rest

    table_is : table' ≡ memory.table
    table_is = keeps.mapped ∙ same_table

    none_used : (b : Bool) (xs : List Translation) → b ≡ false → in_use b xs ≡ []
    none_used false xs e = refl
    none_used true xs e = absurd (cc)

    used : in_use uses' cached' ≡ []
    used = none_used uses' cached' (keeps.uses_cache ∙ unused)

    frames_here : (f : ℕ) → length (frame_at new.frames f) ≡ 4096
    frames_here f = keeps.encls.lengths f ∙ ap (λ (e : Enclave). length (frame_at e.frames f)) same_encls ∙ frames_whole layout cpu memory r f

    other_frames : (f : ℕ) → is_of_page (entry_at memory.encls.entries f) ≡ false → frame_at new.frames f ≡ frame_at memory.encls.frames f
    other_frames f away =
        keeps.encls.others f (ap (λ (e : Enclave). is_of_page (entry_at e.entries f)) same_encls ∙ away)
        ∙ ap (λ (e : Enclave). frame_at e.frames f) same_encls

    -- the step came to what the memory tells
    pub has_stepped : list_all (is_granted new.entries table' (in_use uses' cached')) granted ≡ true → IfSome refused (λ t. is_walked new.entries table' t ≡ false) →
        StepsAlways layout cpu.regs (is_seen encls.entries table (in_use uses cached)) (bytes_by encls.frames encls.entries) (bytes_by new.frames new.entries) granted refused outcome regs →
        HasStepped layout (record cpu { tlb = memory.tlb }) memory.table memory.encls new outcome regs
    has_stepped all lost steps =
        let entries = memory.encls.entries in
        let all_here : list_all (is_granted entries memory.table []) granted ≡ true =
        subst (λ (e : List Entry). list_all (is_granted e memory.table []) granted ≡ true) entries_are
        (subst (λ (t : List Pte). list_all (is_granted new.entries t []) granted ≡ true) table_is
        (subst (λ (c : List Translation). list_all (is_granted new.entries table' c) granted ≡ true) used all)) in
        let lost_here : IfSome refused (λ t. is_walked entries memory.table t ≡ false) =
        subst (λ (e : List Entry). IfSome refused (λ t. is_walked e memory.table t ≡ false)) entries_are
        (subst (λ (t : List Pte). IfSome refused (λ x. is_walked new.entries t x ≡ false)) table_is lost) in
        let steps_here : StepsAlways layout cpu.regs (is_seen entries memory.table []) (bytes_by memory.encls.frames entries) (bytes_by new.frames entries) granted refused outcome regs =
        subst (λ (e : List Entry). StepsAlways layout cpu.regs (is_seen entries memory.table []) (bytes_by memory.encls.frames entries) (bytes_by new.frames e) granted refused outcome regs) entries_are
        (subst (λ (e : Enclave). StepsAlways layout cpu.regs (is_seen e.entries memory.table []) (bytes_by e.frames e.entries) (bytes_by new.frames new.entries) granted refused outcome regs) same_encls
        (subst (λ (t : List Pte). StepsAlways layout cpu.regs (is_seen encls.entries t []) (bytes_by encls.frames encls.entries) (bytes_by new.frames new.entries) granted refused outcome regs) same_table
        (subst (λ (c : List Translation). StepsAlways layout cpu.regs (is_seen encls.entries table c) (bytes_by encls.frames encls.entries) (bytes_by new.frames new.entries) granted refused outcome regs)
        (none_used uses cached unused) steps))) in
        record {
          before = bytes_by memory.encls.frames entries;
          after = bytes_by new.frames entries;
          granted = granted;
          refused = refused;
          done = record {
            mode = mode;
            memory = record {
              before_is = bytes_here memory.encls.frames entries distinct (frames_whole layout cpu memory r);
              after_is = bytes_here new.frames entries distinct frames_here;
              others = other_frames;
              whole = frames_here;
            };
            found = sym (ap (λ (P : Access → Bool). list_all P granted) (fun_ext (λ t. granted_walked entries memory.table t))) ∙ all_here;
            lost = none_by (is_walked entries memory.table) refused lost_here;
            steps = steps_here;
          };
          rest = rest;
        }

-- ---- The turn as contracts have it

-- a turn in which the program shows nothing
pub turned_to : (layout : Layout) (lp : ℕ) (old : State) (outcome : RtTurn) (cpu : Cpu) (memory : Memory) (exit : Option Exit) (note : RuntimeNote)
    → StepTurns layout lp old outcome (record cpu { tlb = memory.tlb }) memory.table memory.encls → exit ≡ exit_of layout outcome
    → ((new : State) → NamesCause layout lp old new (exit_of layout outcome) None outcome → NamesCause layout lp old new (exit_of layout outcome) None (outcome_of note))
    → (TellsTurn layout lp old None None outcome → TellsTurn layout lp old None None (outcome_of note))
    → TurnsTo layout lp old (record { exit = exit; completed = false; program = ProgramNote.Plain; runtime = note }) cpu memory
turned_to layout lp old outcome cpu memory exit note t e named tells = record {
  new = t.new;
  machine = t.machine;
  others = t.others;
  count = let none : old.count ≡ old.count + 0 = omega arith in t.count ∙ none;
  queue = λ goes. t.queue (sym e ∙ goes);
  turn = subst (λ x. IsTurn layout lp old t.new x None) (sym e) t.turn;
  cause = subst (λ x. NamesCause layout lp old t.new x None (outcome_of note)) (sym e) (named t.new t.cause);
  notes = tells t.notes;
}
