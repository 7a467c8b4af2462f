use Rattle.std.proofs.Common.{◌≡◌, ◌<◌, true, ℕ, ◌+◌, suc, ap, sym, ◌∙◌, subst, arith, nat_lt}
use Rattle.std.specs.Prelude.{None, is_none}
use Rattle.ak_core.specs.declared.page.Lp.{Lp}
use Rattle.ak_enclu.specs.declared.cpu.Cpu.{Cpu}
use Rattle.ak_turns.specs.Running.{TurnsTo, completed_in}
use Rattle.ak_turns.specs.WholeRuns.{RunsSoFar, RunsWith, note_or}
use Rattle.ak_turns.specs.declared.notes.ProgramNote.{ProgramNote}
use Rattle.ak_turns.specs.declared.notes.Ran.{Ran}
use Rattle.ak_turns.proofs.WholeRuns.{no_fault_yet, runs_with, follows, one_more, last_one, all_taken, runs_inside, is_below, still_on}
use Rattle.ak_turns.proofs.running.take_turns.Goals as goal

pub returns-in-Some-clause-run : goal.returns-in-Some-clause-run
returns-in-Some-clause-run c state m =
    let layout = c.args.layout.now in
    let first = c.args.cpu.now in
    let l = c.loop-taken in
    let t = c.turn-turned in
    let w = l.invariant.runs in
    let s = l.invariant.so_far state m in
    let same : l.cpu.lp ≡ first.lp = ap (λ (cpu : Cpu). cpu.lp) l.invariant.keeps.cpu_is in
    let to : TurnsTo layout first.lp.0 s.new t.result t.new.cpu t.new.memory =
    subst (λ (lp : Lp). TurnsTo layout lp.0 s.new t.result t.new.cpu t.new.memory) same (t.ensures.turn s.new s.machine) in
    let f = follows layout l.program l.cpu t.new.cpu l.memory t.new.memory t.result w (t.ensures.turn w.runs.state w.runs.machine) t.ensures.told t.ensures.left in
    let known : nat_lt first.lp.0 layout.lps ≡ true = is_below first.lp.0 layout.lps c.requires.known in
    let in_use : (state.processors first.lp.0).inside ≡ true = m.processor.inside ∙ runs_inside layout first c.args.memory.now c.requires.runs in
    let lt : l._taken < c.args.turns = c.loop-taken-test.true in
    let one : c.count_of-completed.result ≡ completed_in t.result.completed = c.count_of-completed.ensures.count in
    let is : (completed : ℕ) (program : ProgramNote) → completed ≡ completed_in t.result.completed → program ≡ note_or t.result.program l.program →
    (let ran : Ran = record { exit = c.in-Some.exit; completed = l.completed + completed; program = program; runtime = t.result.runtime } in ran)
    ≡ record { exit = c.in-Some.exit; completed = l.completed + completed_in t.result.completed; program = note_or t.result.program l.program; runtime = t.result.runtime } =
    λ completed program e d. subst (λ k. (let ran : Ran = record { exit = c.in-Some.exit; completed = l.completed + k; program = program; runtime = t.result.runtime } in ran)
    ≡ record { exit = c.in-Some.exit; completed = l.completed + completed_in t.result.completed; program = note_or t.result.program l.program; runtime = t.result.runtime }) (sym e)
    (ap (λ (p : ProgramNote). let ran : Ran = record { exit = c.in-Some.exit; completed = l.completed + completed_in t.result.completed; program = p; runtime = t.result.runtime } in ran) d) in
    last_one layout first.lp l._taken l.completed l.program state t.result l.cpu t.new.cpu l.memory t.new.memory s f to known in_use c.args.turns lt c.in-Some.exit c.in-Some.is
    (record { exit = c.in-Some.exit; completed = l.completed + c.count_of-completed.result; program = c.later_note-program.result; runtime = t.result.runtime })
    (is c.count_of-completed.result c.later_note-program.result one c.later_note-program.ensures)

pub loop-taken-preserved : goal.loop-taken-preserved
loop-taken-preserved c =
    let layout = c.args.layout.now in
    let first = c.args.cpu.now in
    let l = c.loop-taken in
    let t = c.turn-turned in
    let w = l.invariant.runs in
    let same : l.cpu.lp ≡ first.lp = ap (λ (cpu : Cpu). cpu.lp) l.invariant.keeps.cpu_is in
    let kept : t.new.cpu.lp ≡ l.cpu.lp = ap (λ (cpu : Cpu). cpu.lp) t.ensures.keeps.cpu_is in
    let stays : t.result.exit ≡ None = c.in_default.is in
    let told : c.later_note-program.result ≡ note_or t.result.program l.program = c.later_note-program.ensures in
    let one : c.count_of-completed.result ≡ completed_in t.result.completed = c.count_of-completed.ensures.count in
    let f = follows layout l.program l.cpu t.new.cpu l.memory t.new.memory t.result w (t.ensures.turn w.runs.state w.runs.machine) t.ensures.told t.ensures.left in
    record {
      runs = subst (λ note. RunsWith layout note t.new.cpu t.new.memory) (sym told)
          (runs_with layout l.program l.cpu t.new.cpu l.memory t.new.memory t.result w (t.ensures.turn w.runs.state w.runs.machine) kept stays);
      so_far = λ state m.
          let s = l.invariant.so_far state m in
          let to : TurnsTo layout first.lp.0 s.new t.result t.new.cpu t.new.memory =
          subst (λ (lp : Lp). TurnsTo layout lp.0 s.new t.result t.new.cpu t.new.memory) same (t.ensures.turn s.new s.machine) in
          let more : l._taken + 1 ≡ suc l._taken = omega arith in
          subst (λ note. RunsSoFar layout first.lp.0 (l._taken + 1) state (l.completed + c.count_of-completed.result) note t.new.cpu t.new.memory) (sym told)
          (one_more layout first.lp l._taken l.completed l.program state t.result l.cpu t.new.cpu l.memory t.new.memory s f to stays (l._taken + 1) (l.completed + c.count_of-completed.result) more
          (ap (λ n. l.completed + n) one));
      keeps = still_on t.result.exit first l.cpu t.new.cpu c.args.memory.now l.memory t.new.memory l.invariant.keeps t.ensures.keeps;
      inside = ap (λ (cpu : Cpu). cpu.inside) t.ensures.keeps.cpu_is ∙ ap is_none stays;
      few = let before = l.invariant.few in let small = c.count_of-completed.ensures.few in omega arith;
    }

pub returns-clause-run : goal.returns-clause-run
returns-clause-run c state m =
    let layout = c.args.layout.now in
    let first = c.args.cpu.now in
    let l = c.loop-taken in
    let s = l.invariant.so_far state m in
    let known : nat_lt first.lp.0 layout.lps ≡ true = is_below first.lp.0 layout.lps c.requires.known in
    let in_use : (state.processors first.lp.0).inside ≡ true = m.processor.inside ∙ runs_inside layout first c.args.memory.now c.requires.runs in
    let all : l._taken ≡ c.args.turns = omega arith in
    all_taken layout first.lp c.args.turns l.completed l.program state l.cpu l.memory
    (subst (λ n. RunsSoFar layout first.lp.0 n state l.completed l.program l.cpu l.memory) all s)
    (no_fault_yet layout l.program l.cpu l.memory l.invariant.runs) known in_use
