use Rattle.std.proofs.Common.{ap, sym, ◌∙◌, subst}
use Rattle.std.specs.Prelude.{None}
use Rattle.ak_core.specs.declared.moves.Exit.{Exit}
use Rattle.ak_track.specs.Steps.{LeavesBy}
use Rattle.ak_enclu.specs.Passing.{outside_now, Steps}
use Rattle.ak_enclu.specs.declared.cpu.Cpu.{Cpu}
use Rattle.ak_turns.specs.Running.{TurnsTo, TurnKeeps}
use Rattle.ak_turns.specs.declared.notes.Turned.{Turned}
use Rattle.ak_turns.proofs.Steps.Arms.{may_be_saved, arm_goes, arm_leaves, arm_dies, arm_faults}
use Rattle.ak_turns.proofs.Steps.StepKeeps.{keeps_gone_on, keeps_left, only_track}
use Rattle.ak_turns.proofs.runtime.runtime_step.Goals as goal

pub leave-requires : goal.leave-requires
leave-requires c =
    let saved = may_be_saved c.args.layout.now c.args.cpu.now c.args.memory.now c.requires.runs c.step.new.cpu c.step.new.memory c.step.result c.step.ensures.step c.step.ensures.cpu
    c.in-Faulted.access c.in-Faulted.is in
    record { tcs = saved.tcs; area = saved.area; apart = saved.apart; saved = saved.saved }

pub returns-in-Go-clause-turn : goal.returns-in-Go-clause-turn
returns-in-Go-clause-turn c = λ state m.
    subst (λ (t : Turned). TurnsTo c.args.layout.now c.args.cpu.now.lp.0 state t c.step.new.cpu c.step.new.memory) (sym c.told.ensures)
    (arm_goes c.args.layout.now c.args.cpu.now c.args.memory.now c.requires.runs c.step.new.cpu c.step.new.memory c.step.result c.step.ensures.step c.step.ensures.cpu
    c.step.ensures.table c.step.ensures.tlb state m c.in-Go.is)

pub returns-in-Leave-clause-turn : goal.returns-in-Leave-clause-turn
returns-in-Leave-clause-turn c = λ state m.
    subst (λ (t : Turned). TurnsTo c.args.layout.now c.args.cpu.now.lp.0 state t c.quit.new.cpu c.quit.new.memory) (sym c.told-in-Leave.ensures)
    (arm_leaves c.args.layout.now c.args.cpu.now c.args.memory.now c.requires.runs c.step.new.cpu c.step.new.memory c.step.result c.step.ensures.step c.step.ensures.cpu
    c.step.ensures.table c.step.ensures.tlb state m c.quit.new.cpu c.quit.new.memory c.quit.ensures.cpu c.quit.ensures.table c.quit.ensures.tlb c.quit.ensures.rest
    (λ lps marks holds. c.quit.ensures.track lps marks holds) c.in-Leave.exit c.in-Leave.is)

pub returns-in-Dead-clause-turn : goal.returns-in-Dead-clause-turn
returns-in-Dead-clause-turn c = λ state m.
    subst (λ (t : Turned). TurnsTo c.args.layout.now c.args.cpu.now.lp.0 state t c.quit-in-Dead.new.cpu c.quit-in-Dead.new.memory) (sym c.told-in-Dead.ensures)
    (arm_dies c.args.layout.now c.args.cpu.now c.args.memory.now c.requires.runs c.step.new.cpu c.step.new.memory c.step.result c.step.ensures.step c.step.ensures.cpu
    c.step.ensures.table c.step.ensures.tlb state m c.quit-in-Dead.new.cpu c.quit-in-Dead.new.memory c.quit-in-Dead.ensures.cpu c.quit-in-Dead.ensures.table c.quit-in-Dead.ensures.tlb
    c.quit-in-Dead.ensures.rest (λ lps marks holds. c.quit-in-Dead.ensures.track lps marks holds) c.in-Dead.cause c.in-Dead.is)

pub returns-in-Faulted-clause-turn : goal.returns-in-Faulted-clause-turn
returns-in-Faulted-clause-turn c = λ state m.
    subst (λ (t : Turned). TurnsTo c.args.layout.now c.args.cpu.now.lp.0 state t c.leave.new.cpu c.leave.new.memory) (sym c.told-in-Faulted.ensures)
    (arm_faults c.args.layout.now c.args.cpu.now c.args.memory.now c.requires.runs c.step.new.cpu c.step.new.memory c.step.result c.step.ensures.step c.step.ensures.cpu
    c.step.ensures.table c.step.ensures.tlb state m c.leave.new.cpu c.leave.new.memory c.leave.ensures.cpu c.leave.ensures.table c.leave.ensures.tlb
    c.in-Faulted.access c.fault_of.result c.mask.result c.in-Faulted.is c.fault_of.ensures (c.mask.ensures ∙ ap (λ base. Exit.Pf base 4) c.base.ensures.base) c.leave.ensures.leaves
    (record { sixteen = c.are_registers.ensures.sixteen; words = c.are_registers.ensures.words; rip = c.are_registers.ensures.rip }))

pub returns-in-Faulted-clause-keeps : goal.returns-in-Faulted-clause-keeps
returns-in-Faulted-clause-keeps c =
    let layout = c.args.layout.now in
    let cpu = c.args.cpu.now in
    let memory = c.args.memory.now in
    let mid = c.step.new.memory in
    let new = c.leave.new.memory in
    subst (λ (t : Turned). TurnKeeps t.exit cpu c.leave.new.cpu memory new) (sym c.told-in-Faulted.ensures)
    (keeps_left layout cpu memory c.requires.runs c.step.new.cpu.regs mid new c.step.ensures.step.rest c.step.ensures.table c.mask.result c.leave.new.cpu
    (c.leave.ensures.cpu ∙ ap outside_now c.step.ensures.cpu) c.leave.ensures.table c.leave.ensures.tlb c.leave.ensures.leaves.rest
    (subst (λ (x : Cpu). Steps mid.encls new.encls (LeavesBy x.lp.0)) c.step.ensures.cpu (λ lps marks holds. c.leave.ensures.leaves.track lps marks holds)))

pub returns-in-Go-clause-keeps : goal.returns-in-Go-clause-keeps
returns-in-Go-clause-keeps c =
    let cpu = c.args.cpu.now in
    let mid = c.step.new.memory in
    subst (λ (t : Turned). TurnKeeps t.exit cpu c.step.new.cpu c.args.memory.now mid) (sym c.told.ensures)
    (subst (λ (x : Cpu). TurnKeeps None cpu x c.args.memory.now mid) (sym c.step.ensures.cpu)
    (keeps_gone_on c.args.layout.now cpu c.args.memory.now c.requires.runs c.step.new.cpu.regs mid mid c.step.ensures.step.rest c.step.ensures.table))

pub returns-in-Leave-clause-keeps : goal.returns-in-Leave-clause-keeps
returns-in-Leave-clause-keeps c =
    let cpu = c.args.cpu.now in
    let mid = c.step.new.memory in
    let new = c.quit.new.memory in
    subst (λ (t : Turned). TurnKeeps t.exit cpu c.quit.new.cpu c.args.memory.now new) (sym c.told-in-Leave.ensures)
    (keeps_left c.args.layout.now cpu c.args.memory.now c.requires.runs c.step.new.cpu.regs mid new c.step.ensures.step.rest c.step.ensures.table c.in-Leave.exit c.quit.new.cpu
    (c.quit.ensures.cpu ∙ ap outside_now c.step.ensures.cpu) c.quit.ensures.table c.quit.ensures.tlb (only_track mid.encls new.encls c.quit.ensures.rest)
    (subst (λ (x : Cpu). Steps mid.encls new.encls (LeavesBy x.lp.0)) c.step.ensures.cpu (λ lps marks holds. c.quit.ensures.track lps marks holds)))

pub returns-in-Dead-clause-keeps : goal.returns-in-Dead-clause-keeps
returns-in-Dead-clause-keeps c =
    let cpu = c.args.cpu.now in
    let mid = c.step.new.memory in
    let new = c.quit-in-Dead.new.memory in
    subst (λ (t : Turned). TurnKeeps t.exit cpu c.quit-in-Dead.new.cpu c.args.memory.now new) (sym c.told-in-Dead.ensures)
    (keeps_left c.args.layout.now cpu c.args.memory.now c.requires.runs c.step.new.cpu.regs mid new c.step.ensures.step.rest c.step.ensures.table Exit.Stopped c.quit-in-Dead.new.cpu
    (c.quit-in-Dead.ensures.cpu ∙ ap outside_now c.step.ensures.cpu) c.quit-in-Dead.ensures.table c.quit-in-Dead.ensures.tlb (only_track mid.encls new.encls c.quit-in-Dead.ensures.rest)
    (subst (λ (x : Cpu). Steps mid.encls new.encls (LeavesBy x.lp.0)) c.step.ensures.cpu (λ lps marks holds. c.quit-in-Dead.ensures.track lps marks holds)))
