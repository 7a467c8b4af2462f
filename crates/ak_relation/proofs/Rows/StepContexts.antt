-- Which context, phase and queue the registers and STATE tell of, where a step of the runtime is defined.
use Rattle.std.proofs.Common.{◌≡◌, ℕ, List, [], ◌∷◌, length, refl, ap, sym, ◌∙◌, subst, ◌+◌, ◌*◌, arith}
use Rattle.std.specs.Prelude.{Some, slice_get}
use Rattle.ak_core.specs.declared.registers.Mode.{Mode}
use Rattle.ak_core.specs.declared.registers.Regs.{Regs}
use Rattle.ak_model.specs.Flat.Instructions.{reg_of, with_reg, rax, rcx, rsi, rdi, number_at}
use Rattle.ak_model.specs.Flat.FlatRuns.{Flat, zeroed}
use Rattle.ak_model.specs.Control.ControlState.{Phase, New, Running, Calling, Asked, Ended, Trapped, Dead, Context, Program, Enter, Probe, Finish, Guard, Leave, Control}
use Rattle.ak_model.specs.Control.RuntimeTurn.{asked_pages}
use Rattle.ak_model.specs.Laws.StepRows.{HasRow}
use Rattle.ak_pager.specs.Contexts.{step_address, entry_regs, Gives}
use Rattle.ak_pager.specs.RuntimePages.{phase_number, SaysMore}
use Rattle.ak_relation.specs.Relation.Example.{one_page}
use Rattle.ak_ssa.specs.SavedFrames.{SavedFrame, state_place, HasFrame, why_of}
use Rattle.ak_ssa.specs.SavedRegisters.{AreRegs, regs_in}
use Rattle.ak_ssa.proofs.RegistersReturn.{regs_back}

-- ---- Phases

pub phase_running : (phase : Phase) → 1 ≡ phase_number phase → phase ≡ Running
phase_running New e = absurd (omega arith)
phase_running Running e = refl
phase_running Calling e = absurd (omega arith)
phase_running (Asked c) e = absurd (omega arith)
phase_running (Ended s) e = absurd (omega arith)
phase_running (Trapped v) e = absurd (omega arith)
phase_running Dead e = absurd (omega arith)

pub phase_calling : (phase : Phase) → 2 ≡ phase_number phase → phase ≡ Calling
phase_calling New e = absurd (omega arith)
phase_calling Running e = absurd (omega arith)
phase_calling Calling e = refl
phase_calling (Asked c) e = absurd (omega arith)
phase_calling (Ended s) e = absurd (omega arith)
phase_calling (Trapped v) e = absurd (omega arith)
phase_calling Dead e = absurd (omega arith)

-- the cluster that is asked for is 0
pub phase_asked : (phase : Phase) (bytes : List ℕ) → 3 ≡ phase_number phase → SaysMore phase bytes → number_at bytes 8 8 ≡ 0 → phase ≡ Asked 0
phase_asked New bytes e m z = absurd (omega arith)
phase_asked Running bytes e m z = absurd (omega arith)
phase_asked Calling bytes e m z = absurd (omega arith)
phase_asked (Asked c) bytes e m z = ap Asked (sym m ∙ z)
phase_asked (Ended s) bytes e m z = absurd (omega arith)
phase_asked (Trapped v) bytes e m z = absurd (omega arith)
phase_asked Dead bytes e m z = absurd (omega arith)

-- ---- Queues

pub no_queue : (queue : List ℕ) → 0 ≡ length queue → queue ≡ []
no_queue [] e = refl
no_queue (c ∷ queue) e = absurd (omega arith)

-- a queue of cluster 0 alone
pub one_queue : (queue bytes : List ℕ) → 1 ≡ length queue → ((i c : ℕ) → slice_get queue i ≡ Some c → number_at bytes (1024 + 2 * i) 2 ≡ c) → number_at bytes 1024 2 ≡ 0 → queue ≡ 0 ∷ []
one_queue [] bytes e clusters z = absurd (omega arith)
one_queue (c ∷ []) bytes e clusters z = ap (λ d. d ∷ []) (sym (clusters 0 c refl) ∙ z)
one_queue (c ∷ d ∷ queue) bytes e clusters z = absurd (omega arith)

-- ---- Contexts

-- the registers of the runtime at a step, with a number in RCX
abbrev pub step_regs : ℕ → ℕ → Regs
step_regs offset i = record (with_reg (zeroed (step_address one_page offset)) rcx i) { mode = Mode.Runtime }

-- an entry step
pub entry_context : (n v : ℕ) (control : Control) (flat : Flat) (P : Context → Type 0) → P (Enter n v) → (context : Context) → HasRow one_page control context →
    Gives one_page control.phase flat context (entry_regs one_page n v) → P context
entry_context n v control flat P at Program row g = absurd row
entry_context n v control flat P at (Enter k w) row g =
    let number : n ≡ k = ap (λ r. reg_of r rax) g in
    let value : v ≡ w = ap (λ r. reg_of r rdi) g in
    subst (λ m. P (Enter m w)) number (subst (λ x. P (Enter n x)) value at)
entry_context n v control flat P at (Probe i) row g = let step = g.0 in absurd (let rip = step.rip in omega arith)
entry_context n v control flat P at Finish row g = let step = g.0 in absurd (let rip = step.rip in omega arith)
entry_context n v control flat P at Guard row g = absurd (let rip = g.rip in omega arith)
entry_context n v control flat P at (Leave b a) row g = let step = g.0 in absurd (let rip = step.rip in omega arith)

-- while cluster 0 is asked for, there is one page to probe
one_asked : (phase : Phase) → phase ≡ Asked 0 → length (asked_pages one_page phase) ≡ 1
one_asked phase is = ap (λ ph. length (asked_pages one_page ph)) is

-- the first probe
pub probe_context : (control : Control) (flat : Flat) → control.phase ≡ Asked 0 → (P : Context → Type 0) → P (Probe 0) → (context : Context) → HasRow one_page control context →
    Gives one_page control.phase flat context (step_regs 48 0) → P context
probe_context control flat is P at Program row g = absurd row
probe_context control flat is P at (Enter k w) row g = absurd (let rip = ap (λ (r : Regs). r.rip) g in omega arith)
probe_context control flat is P at (Probe i) row g = subst (λ k. P (Probe k)) g.1 at
probe_context control flat is P at Finish row g = absurd (let one = one_asked control.phase is in let none = g.1 in omega arith)
probe_context control flat is P at Guard row g = absurd (let rip = g.rip in omega arith)
probe_context control flat is P at (Leave b a) row g = let step = g.0 in absurd (let rip = step.rip in omega arith)

-- the end of the probes
pub finish_context : (control : Control) (flat : Flat) → control.phase ≡ Asked 0 → (P : Context → Type 0) → P Finish → (context : Context) → HasRow one_page control context →
    Gives one_page control.phase flat context (step_regs 48 1) → P context
finish_context control flat is P at Program row g = absurd row
finish_context control flat is P at (Enter k w) row g = absurd (let rip = ap (λ (r : Regs). r.rip) g in omega arith)
finish_context control flat is P at (Probe i) row g = absurd (let one = one_asked control.phase is in let second = g.1 in let few = row.1 in omega arith)
finish_context control flat is P at Finish row g = at
finish_context control flat is P at Guard row g = absurd (let rip = g.rip in omega arith)
finish_context control flat is P at (Leave b a) row g = let step = g.0 in absurd (let rip = step.rip in omega arith)

-- a call that leaves
pub leave_context : (control : Control) (flat : Flat) (regs : Regs) → regs.rip ≡ step_address one_page 32 → (P : Context → Type 0) → P (Leave (reg_of regs rdi) (reg_of regs rsi)) →
    (context : Context) → HasRow one_page control context → Gives one_page control.phase flat context regs → P context
leave_context control flat regs at_step P at Program row g = absurd row
leave_context control flat regs at_step P at (Enter k w) row g = absurd (let rip = ap (λ (r : Regs). r.rip) g in omega arith)
leave_context control flat regs at_step P at (Probe i) row g = let step = g.0 in absurd (let rip = step.rip in omega arith)
leave_context control flat regs at_step P at Finish row g = let step = g.0 in absurd (let rip = step.rip in omega arith)
leave_context control flat regs at_step P at Guard row g = absurd (let rip = g.rip in omega arith)
leave_context control flat regs at_step P at (Leave b a) row g =
    let number = g.2 in
    let argument = g.3 in
    subst (λ m. P (Leave m a)) number (subst (λ x. P (Leave (reg_of regs rdi) x)) argument at)

-- ---- The frame that STATE keeps

-- its registers are those of the frame whose bytes stand there
pub same_regs : (bytes : List ℕ) (frame kept : SavedFrame) → AreRegs frame.regs → AreRegs kept.regs → HasFrame one_page state_place bytes frame → HasFrame one_page state_place bytes kept →
    frame.regs ≡ kept.regs
same_regs bytes frame kept words others has have =
    sym (regs_back frame.regs (why_of one_page frame.cause) words) ∙ ap regs_in (sym has ∙ have) ∙ regs_back kept.regs (why_of one_page kept.cause) others
