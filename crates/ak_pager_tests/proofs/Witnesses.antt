-- A control state, a context and a flat state for which a step is defined.
use Rattle.std.proofs.Common.{◌≡◌, ℕ, zero, suc, ◌+◌, ◌*◌, ◌-◌, ◌/◌, ◌<◌, ◌≤◌, ◌^◌, Bool, true, false, List, [], ◌∷◌, ◌++◌, length, refl, ap, sym, subst, ◌∙◌, inl, inr, arith}
use Rattle.std.specs.Prelude.{Some, None, slice_get, slice_index, take, drop, if◌then◌else◌, ◌⊎◌}
use Rattle.std.specs.Bool.{then_some}
use Rattle.std.proofs.lemmas.Bool.{cases_lt}
use Rattle.std.proofs.lemmas.Option.{slice_get_within, get_or_from_slice_get}
use Rattle.ak_core.specs.Layout.{Layout}
use Rattle.ak_core.specs.Mem.{Access, access_to}
use Rattle.ak_core.specs.declared.page.Kind.{Kind}
use Rattle.ak_core.specs.declared.registers.Mode.{Mode}
use Rattle.ak_core.specs.declared.registers.Regs.{Regs}
use Rattle.ak_model.specs.Clusters.Queue.{is_in}
use Rattle.ak_model.specs.Control.ControlState.{Phase, New, Running, Calling, Asked, Ended, Trapped, Dead, Context, Program, Enter, Probe, Finish, Guard, Leave, Reason, Interrupted, Raised, Denied, Missed, Broke, Faulted, Saved, Control, is_asked}
use Rattle.ak_model.specs.Control.RuntimeTurn.{asked_pages}
use Rattle.ak_model.specs.Flat.FlatRuns.{Flat, is_forbidden}
use Rattle.ak_model.specs.Flat.Instructions.{number_at, reg_of, rax, rcx, rsi, rdi}
use Rattle.ak_model.specs.Laws.StepRows.{HasRow, opens, guards}
use Rattle.ak_model.specs.Paging.Pages.{all_pages, cluster_at, ssa_page, state_page}
use Rattle.ak_ssa.specs.declared.cause.Why.{Why}
use Rattle.ak_ssa.specs.declared.cause.Why.TheVariants.{Interrupt, Vector, PageFault}
use Rattle.ak_ssa.specs.ReadFrames.{cause_of}
use Rattle.ak_ssa.specs.SavedFrames.{ByPage, saved_bytes}
use Rattle.ak_ssa.specs.SavedRegisters.{AreWords, AreRegs}
use Rattle.ak_pager.specs.Contexts.{Gives, IsAtStep, IsNoted, SameButRip, entry_regs, reason_for, step_address}
use Rattle.ak_pager.specs.Effects.{SomeStep}
use Rattle.ak_pager.specs.RuntimePages.{OfCopy, IsArea, IsState, KeepsFrame, KeepsProgram}
use Rattle.ak_pager.specs.StepsTo.{IsAskedFor, IsReason, IsSmall, memory_of}
use Rattle.ak_pager_tests.specs.DefinedSteps.{AreSame, HasSavedContext, HaveSavedContexts, IsCause, IsProgramWhy, IsRuntimeWhy, SaysPhase, SaysQueue, SaysState, program_at}

-- ---- STATE

-- clusters that were read one by one
pub says_clusters : (bytes queue : List ℕ) → ((k : ℕ) → k < length queue → slice_index queue k ≡ number_at bytes (1024 + 2 * k) 2) →
    (i c : ℕ) → slice_get queue i ≡ Some c → number_at bytes (1024 + 2 * i) 2 ≡ c
says_clusters bytes queue read i c e = sym (read i (slice_get_within queue i c e)) ∙ get_or_from_slice_get queue i c 0 e

-- one more that is read
pub reads-push : (f : ℕ → ℕ) (xs : List ℕ) (x : ℕ) → ((k : ℕ) → k < length xs → slice_index xs k ≡ f k) → x ≡ f (length xs) →
    (k : ℕ) → k < length (xs ++ x ∷ []) → slice_index (xs ++ x ∷ []) k ≡ f k
reads-push f [] x h e zero low = e
reads-push f [] x h e (suc k) low = absurd (omega arith)
reads-push f (y ∷ xs) x h e zero low = h 0 (omega arith)
reads-push f (y ∷ xs) x h e (suc k) low = reads-push (λ n. f (suc n)) xs x (λ n l. h (suc n) (omega arith)) e k (omega arith)

-- all of it together
pub says_state : (layout : Layout) (phase : Phase) (program : Regs) (queue bytes : List ℕ) → SaysPhase phase bytes → SaysQueue layout queue bytes →
    IsAskedFor layout queue phase → KeepsFrame phase layout (program_at program) bytes → SaysState layout phase program bytes
says_state layout phase program queue bytes phase_is queue_is asked kept = record {
  queue = queue;
  is_queue = queue_is;
  asked = asked;
  state = record { phase_is = phase_is.number; more = phase_is.more; size = queue_is.size; clusters = queue_is.clusters; kept = kept };
}

-- ---- Frames

-- numbers of 64 bits, one by one
pub words_from : (xs : List ℕ) → ((k : ℕ) → k < length xs → slice_index xs k < 2 ^ 64) → AreWords xs
words_from [] h = tt
words_from (x ∷ xs) h = (h 0 (omega arith), words_from xs (λ k low. h (suc k) (omega arith)))

-- registers from their parts
abbrev made : List ℕ → ℕ → Bool → Bool → Bool → Bool → Mode → Regs
made gpr rip cf zf sf of mode = record { gpr = gpr; rip = rip; cf = cf; zf = zf; sf = sf; of = of; mode = mode }

-- those that are equal one by one
pub same_regs : (regs other : Regs) → AreSame regs other → regs ≡ other
same_regs regs other h =
    let gpr = h.gpr in
    let rip = h.rip in
    let cf = h.cf in
    let zf = h.zf in
    let sf = h.sf in
    let of = h.of in
    let mode = h.mode in
    let e : made regs.gpr regs.rip regs.cf regs.zf regs.sf regs.of regs.mode ≡ made other.gpr other.rip other.cf other.zf other.sf other.of other.mode = cc in e

-- a page fault at the address of a page of the enclave
pub page_cause : (layout : Layout) (address : ℕ) (kind : Kind) → layout.base + 4096 * ((address - layout.base) / 4096) ≡ address → (address - layout.base) / 4096 < all_pages layout →
    IsCause layout (PageFault address kind)
page_cause layout address kind is low = record { is = ap (λ a. PageFault a kind) is; fits = low }

-- the program's frame
pub kept_frame : (layout : Layout) (program : Regs) (why : Why) (bytes : List ℕ) → take 200 (drop 2048 bytes) ≡ saved_bytes program why → AreRegs program → IsCause layout why →
    KeepsProgram layout (program_at program) bytes
kept_frame layout program why bytes stored words cause = record {
  frame = record { regs = program; cause = cause_of layout why };
  stored = stored ∙ ap (saved_bytes program) (sym cause.is);
  words = words;
  registers = refl;
}

-- where the phase keeps one
pub keeps_by : (phase : Phase) (layout : Layout) (flat : Flat) (bytes : List ℕ) → KeepsProgram layout flat bytes → KeepsFrame phase layout flat bytes
keeps_by New layout flat bytes h = tt
keeps_by Running layout flat bytes h = tt
keeps_by Calling layout flat bytes h = h
keeps_by (Asked c) layout flat bytes h = h
keeps_by (Ended s) layout flat bytes h = tt
keeps_by (Trapped v) layout flat bytes h = tt
keeps_by Dead layout flat bytes h = tt

-- ---- Saved contexts

-- by whether the access is forbidden, and whether its cluster is in
abbrev reason_by : Bool → Bool → ℕ → Reason
reason_by forbidden is_in c = if forbidden then Denied else (if is_in then Broke else Missed c)

noted_by : (layout : Layout) (queue : List ℕ) (t : Access) (f b : Bool) (c : ℕ) → reason_for layout queue Program t ≡ reason_by f b c → IsNoted layout queue Program (reason_by f b c) (ByPage t)
noted_by layout queue t true b c e = record { access = t; noted = refl; gives = e }
noted_by layout queue t false true c e = record { access = t; noted = refl; gives = e }
noted_by layout queue t false false c e = record { access = t; noted = refl; gives = e }

programs_by : (f b : Bool) (c : ℕ) → IsReason Program (reason_by f b c)
programs_by true b c = refl
programs_by false true c = refl
programs_by false false c = refl

-- the access that was noted
abbrev noted_access : Layout → ℕ → Kind → Access
noted_access layout address kind = access_to ((address - layout.base) / 4096) kind

abbrev program_reason : Layout → List ℕ → Why → Reason
program_reason layout queue Interrupt = Interrupted
program_reason layout queue (Vector v) = Raised v
program_reason layout queue (PageFault address kind) = reason_for layout queue Program (noted_access layout address kind)

program_noted : (layout : Layout) (queue : List ℕ) (why : Why) → IsProgramWhy why → IsNoted layout queue Program (program_reason layout queue why) (cause_of layout why)
program_noted layout queue Interrupt may = refl
program_noted layout queue (Vector v) may = (refl, may)
program_noted layout queue (PageFault address kind) may =
    let t = noted_access layout address kind in
    noted_by layout queue t (is_forbidden layout t) (is_in queue (cluster_at layout t.page.0)) (cluster_at layout t.page.0) refl

programs : (layout : Layout) (queue : List ℕ) (why : Why) → IsReason Program (program_reason layout queue why)
programs layout queue Interrupt = tt
programs layout queue (Vector v) = refl
programs layout queue (PageFault address kind) =
    let t = noted_access layout address kind in
    programs_by (is_forbidden layout t) (is_in queue (cluster_at layout t.page.0)) (cluster_at layout t.page.0)

abbrev runtime_reason : Layout → Why → Reason
runtime_reason layout (PageFault address kind) = Faulted (noted_access layout address kind)
runtime_reason layout _ = Interrupted

guard_noted : (layout : Layout) (queue : List ℕ) (why : Why) → IsRuntimeWhy why → IsNoted layout queue Guard (runtime_reason layout why) (cause_of layout why)
guard_noted layout queue Interrupt may = refl
guard_noted layout queue (Vector v) may = absurd may
guard_noted layout queue (PageFault address kind) may = record { access = noted_access layout address kind; noted = refl; gives = refl }

probe_noted : (layout : Layout) (queue : List ℕ) (i : ℕ) (why : Why) → IsRuntimeWhy why → IsNoted layout queue (Probe i) (runtime_reason layout why) (cause_of layout why)
probe_noted layout queue i Interrupt may = refl
probe_noted layout queue i (Vector v) may = absurd may
probe_noted layout queue i (PageFault address kind) may = record { access = noted_access layout address kind; noted = refl; gives = refl }

guards_reason : (layout : Layout) (why : Why) → IsReason Guard (runtime_reason layout why)
guards_reason layout Interrupt = tt
guards_reason layout (Vector v) = tt
guards_reason layout (PageFault address kind) = λ (e : Guard ≡ Program). absurd (cc)

probes_reason : (layout : Layout) (i : ℕ) (why : Why) → IsReason (Probe i) (runtime_reason layout why)
probes_reason layout i Interrupt = tt
probes_reason layout i (Vector v) = tt
probes_reason layout i (PageFault address kind) = λ (e : Probe i ≡ Program). absurd (cc)

module _ (layout : Layout) (phase : Phase) (queue : List ℕ) (program regs : Regs) (why : Why) (is_oldest : Bool) (bytes : List ℕ)
    (stored : take 200 (drop 3896 bytes) ≡ saved_bytes regs why) (words : AreRegs regs) (cause : IsCause layout why) where
  -- an area has the program's context
  pub program_context : regs ≡ program → IsProgramWhy why → is_oldest ≡ true → HasSavedContext layout phase queue (program_at program) is_oldest bytes
  program_context same may oldest = record {
    saved = record { context = Program; reason = program_reason layout queue why };
    area = record {
      frame = record { regs = regs; cause = cause_of layout why };
      stored = stored ∙ ap (saved_bytes regs) (sym cause.is);
      fits = record { words = words; cause = cause.fits };
      noted = program_noted layout queue why may;
      registers = same;
    };
    reason = programs layout queue why;
    oldest = λ e. oldest;
  }

  -- an area has the guard's context, or a probe's
  pub runtime_context : regs.mode ≡ Mode.Runtime → IsRuntimeWhy why → (regs.rip ≡ step_address layout 16) ⊎ (regs.rip ≡ step_address layout 48) →
      HasSavedContext layout phase queue (program_at program) is_oldest bytes
  runtime_context mode may (inl at) = record {
    saved = record { context = Guard; reason = runtime_reason layout why };
    area = record {
      frame = record { regs = regs; cause = cause_of layout why };
      stored = stored ∙ ap (saved_bytes regs) (sym cause.is);
      fits = record { words = words; cause = cause.fits };
      noted = guard_noted layout queue why may;
      registers = record { mode = mode; rip = at };
    };
    reason = guards_reason layout why;
    oldest = λ (e : Guard ≡ Program). absurd (cc);
  }
  runtime_context mode may (inr at) = record {
    saved = record { context = Probe (reg_of regs rcx); reason = runtime_reason layout why };
    area = record {
      frame = record { regs = regs; cause = cause_of layout why };
      stored = stored ∙ ap (saved_bytes regs) (sym cause.is);
      fits = record { words = words; cause = cause.fits };
      noted = probe_noted layout queue (reg_of regs rcx) why may;
      registers = (record { mode = mode; rip = at }, refl);
    };
    reason = probes_reason layout (reg_of regs rcx) why;
    oldest = λ (e : Probe (reg_of regs rcx) ≡ Program). absurd (cc);
  }

-- ---- Areas

-- a page that the memory holds, or doesn't
of_copy : (b : Bool) (bytes : List ℕ) (P : List ℕ → Type 0) → P bytes → OfCopy (then_some b bytes) P
of_copy true bytes P h = h
of_copy false bytes P h = tt

module _ (layout : Layout) (phase : Phase) (queue : List ℕ) (flat : Flat) (holds : ℕ → Bool) (bytes : ℕ → List ℕ) where
  abbrev pub no_context : HaveSavedContexts layout phase queue flat (memory_of holds bytes) 0
  no_context = record { stack = []; count_is = refl; reasons = tt; areas = tt }

  pub one_context : HasSavedContext layout phase queue flat true (bytes (ssa_page layout 0)) → HaveSavedContexts layout phase queue flat (memory_of holds bytes) 1
  one_context h = record {
    stack = h.saved ∷ [];
    count_is = refl;
    reasons = (h.reason, λ e. refl, tt);
    areas = (of_copy (holds (ssa_page layout 0)) (bytes (ssa_page layout 0)) (IsArea layout phase queue flat h.saved) h.area, tt);
  }

  pub two_contexts : HasSavedContext layout phase queue flat true (bytes (ssa_page layout 0)) → HasSavedContext layout phase queue flat false (bytes (ssa_page layout 1)) →
      HaveSavedContexts layout phase queue flat (memory_of holds bytes) 2
  two_contexts h newest = record {
    stack = newest.saved ∷ h.saved ∷ [];
    count_is = refl;
    reasons = (newest.reason, λ e. absurd (let o = newest.oldest e in cc), (h.reason, λ e. refl, tt));
    areas = (
      of_copy (holds (ssa_page layout 1)) (bytes (ssa_page layout 1)) (IsArea layout phase queue flat newest.saved) newest.area,
      (of_copy (holds (ssa_page layout 0)) (bytes (ssa_page layout 0)) (IsArea layout phase queue flat h.saved) h.area, tt),
    );
  }

  -- so many
  abbrev Counted : ℕ → Type 0
  Counted n = HaveSavedContexts layout phase queue flat (memory_of holds bytes) n × (n ≤ 2)

  pub one_counted : (n : ℕ) → n ≡ 1 → HasSavedContext layout phase queue flat true (bytes (ssa_page layout 0)) → Counted n
  one_counted n e h = subst Counted (sym e) (one_context h, omega arith)

  pub two_counted : (n : ℕ) → n ≡ 2 → HasSavedContext layout phase queue flat true (bytes (ssa_page layout 0)) →
      HasSavedContext layout phase queue flat false (bytes (ssa_page layout 1)) → Counted n
  two_counted n e h newest = subst Counted (sym e) (two_contexts h newest, omega arith)

-- ---- Steps

-- a control state that has this phase, queue and stack
abbrev control_of : Phase → List ℕ → List Saved → Control
control_of phase queue stack =
    record { phase = phase; queue = queue; stack = stack; now = None; pending = false; count = 0; rest = []; returned = []; cause = None }

module _ (layout : Layout) (phase : Phase) (program regs : Regs) (holds : ℕ → Bool) (bytes : ℕ → List ℕ)
    (says : SaysState layout phase program (bytes (state_page layout))) (mode : regs.mode ≡ Mode.Runtime) where
  -- a context with a row, and registers that it gives
  some : (context : Context) (count : ℕ) (saved : HaveSavedContexts layout phase says.queue (program_at program) (memory_of holds bytes) count) →
      HasRow layout (control_of phase says.queue saved.stack) context → IsSmall context → Gives layout phase (program_at program) context regs → SomeStep layout regs holds bytes
  some context count saved row small gives = (
    control_of phase says.queue saved.stack,
    context,
    program_at program,
    record {
      mode = mode;
      row = row;
      small = small;
      reasons = saved.reasons;
      distinct = says.is_queue.distinct;
      known = says.is_queue.known;
      asked = says.asked;
      registers = gives;
      state = of_copy (holds (state_page layout)) (bytes (state_page layout)) (IsState layout phase says.queue (program_at program)) says.state;
      areas = saved.areas;
    },
  )

  entry_row : (stack : List Saved) (k v : ℕ) → length stack ≡ k → (k ≡ 0 → opens phase ≡ true) → HasRow layout (control_of phase says.queue stack) (Enter k v)
  entry_row stack zero v count opened = (count, opened refl)
  entry_row stack (suc k) v count opened = count

  -- an entering
  pub entry_step : HaveSavedContexts layout phase says.queue (program_at program) (memory_of holds bytes) (reg_of regs rax) → reg_of regs rax ≤ 2 →
      regs ≡ entry_regs layout (reg_of regs rax) (reg_of regs rdi) → (reg_of regs rax ≡ 0 → opens phase ≡ true) → SomeStep layout regs holds bytes
  entry_step saved few is opened =
      some (Enter (reg_of regs rax) (reg_of regs rdi)) (reg_of regs rax) saved (entry_row saved.stack (reg_of regs rax) (reg_of regs rdi) saved.count_is opened) (omega arith) is

  -- the guard
  pub guard_step : IsAtStep layout regs 16 → guards phase ≡ true → SomeStep layout regs holds bytes
  guard_step at row = some Guard 0 (no_context layout phase says.queue (program_at program) holds bytes) row tt at

  -- a leave step
  pub leave_step : IsAtStep layout regs 32 → SameButRip regs program → SomeStep layout regs holds bytes
  leave_step at same =
      some (Leave (reg_of regs rdi) (reg_of regs rsi)) 0 (no_context layout phase says.queue (program_at program) holds bytes) refl tt
      (at, same, refl, refl)

  -- a probe, or the end of the probes
  pub probe_step : HaveSavedContexts layout phase says.queue (program_at program) (memory_of holds bytes) 1 → IsAtStep layout regs 48 →
      is_asked phase ≡ true → reg_of regs rcx ≤ length (asked_pages layout phase) → SomeStep layout regs holds bytes
  probe_step saved at asked few = by (cases_lt (reg_of regs rcx) (length (asked_pages layout phase)))
    where
      by : (reg_of regs rcx < length (asked_pages layout phase)) ⊎ (length (asked_pages layout phase) ≤ reg_of regs rcx) → SomeStep layout regs holds bytes
      by (inl low) = some (Probe (reg_of regs rcx)) 1 saved (saved.count_is, low) tt (at, refl)
      by (inr past) = some Finish 1 saved (saved.count_is, asked) tt (at, (let e : reg_of regs rcx ≡ length (asked_pages layout phase) = omega arith in e))
