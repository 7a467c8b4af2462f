use Rattle.std.proofs.Common.{◌≡◌, ◌+◌, ◌<◌, ◌^◌, List, length, refl, ap, sym, ◌∙◌, subst}
use Rattle.ak_core.specs.Layout.{Layout}
use Rattle.ak_core.specs.Journal.{with_more}
use Rattle.ak_core.specs.declared.moves.Move.{Move}
use Rattle.ak_turns.specs.WholeRuns.{event_after}
use Rattle.ak_machine.specs.Machines.{Parts}
use Rattle.ak_machine.specs.Moves.{turns_in}
use Rattle.ak_run.specs.Blaming.{Marks}
use Rattle.ak_run.specs.Events.{queue_by_event}
use Rattle.ak_run.specs.Runs.{MachineMoves, RunParts}
use Rattle.ak_run.proofs.Bounds.{bounded_more, few_completed, fits_count}
use Rattle.ak_run.proofs.MarkedMoves.{marks_moved}
use Rattle.ak_run.proofs.Moving.{many_moves, moved_faithful, seen}
use Rattle.ak_run.proofs.run.Run.make.Goals as goal

pub overflow_add-self : goal.overflow_add-self
overflow_add-self c =
    fits_count c.self.inside.count (length c.self.inside.journal.moves) c.apply-applied.result.completed _ c.self.invariant.counted
    (subst (λ n. n < 2 ^ 31) (sym (ap (λ (run : RunParts). length run.journal.moves) c.self.view_is)) c.requires.few) c.apply-applied.ensures.few c.are_few_turns.ensures

pub invariant_of-self : goal.invariant_of-self
invariant_of-self c =
    let old : RunParts = record { machine = c.self.inside.machine; journal = c.self.inside.journal; count = c.self.inside.count; queue = c.self.inside.queue; marks = c.self.inside.marks } in
    let new : RunParts = record { machine = c.apply-applied.new.self; journal = c.append.new.self; count = c.self.inside.count + c.apply-applied.result.completed; queue = c.serve.new.queue; marks = c.lose-2.new.self } in
    let rest : c.lose-2.new.self ≡ record c.note.new.self { lost = c.lose-2.new.self.lost } =
    c.lose-2.ensures.rest ∙ ap (λ (marks : Marks). record marks { lost = c.lose-2.new.self.lost }) c.lose.ensures.rest in
    bounded_more old new c.args.m.now c.apply-applied.result c.self.invariant c.apply-applied.ensures
    (few_completed c.apply-applied.result.completed (turns_in c.args.m.now) c.apply-applied.ensures.few c.are_few_turns.ensures)
    c.append.ensures.moves c.append.ensures.answers refl
    (ap (λ (marks : Marks). marks.saved) rest ∙ c.note.ensures.saved)
    (c.lose-2.ensures.size ∙ c.lose.ensures.size ∙ ap length c.note.ensures.lost)
    (ap (λ (marks : Marks). marks.lost_at_fault) rest ∙ c.note.ensures.lost_at_fault)

pub returns-clause-faithful : goal.returns-clause-faithful
returns-clause-faithful c image f =
    let old : RunParts = record { machine = c.self.inside.machine; journal = c.self.inside.journal; count = c.self.inside.count; queue = c.self.inside.queue; marks = c.self.inside.marks } in
    let new : RunParts = record { machine = c.apply-applied.new.self; journal = c.append.new.self; count = c.self.inside.count + c.apply-applied.result.completed; queue = c.serve.new.queue; marks = c.lose-2.new.self } in
    let after : Parts = c.apply-applied.new.self in
    let layout_is : c.layout-layout.result.now ≡ c.apply-applied.new.self.layout = c.layout-layout.ensures in
    seen image old c.args.self.now new c.self.view_is (λ now.
    moved_faithful image old now c.args.m.now c.apply-applied.result after c.apply-applied.ensures
    c.append.new.self (c.self.inside.count + c.apply-applied.result.completed) c.serve.new.queue c.lose-2.new.self c.event_of-event.result c.stop-stop.result
    refl
    (c.event_of-event.ensures
    ∙ ap (λ (l : Layout). event_after l c.self.inside.queue (c.self.inside.count + c.apply-applied.result.completed) c.apply-applied.result.program) layout_is)
    c.stop-stop.ensures
    (λ servable. c.serve.ensures servable ∙ ap (λ (l : Layout). queue_by_event l c.self.inside.queue c.event_of-event.result) layout_is)
    c.append.ensures.moves c.append.ensures.answers c.append.ensures.events
    (c.append.ensures.outputs ∙ ap (with_more c.self.inside.journal.outputs) c.output_of.ensures)
    c.append.ensures.stop
    (λ later machine tables tables'.
    marks_moved old.machine after c.apply-applied.ensures.layout c.args.m.now c.apply-applied.result.answer (length c.moves.result.now + 1)
    c.named-named.result c.framed-framed.result c.lost.result c.lost-2.result c.named-named.ensures c.framed-framed.ensures c.lost.ensures c.lost-2.ensures
    c.self.inside.marks c.note.new.self c.lose.new.self c.lose-2.new.self c.self.invariant.lost
    c.note.ensures.lost c.note.ensures.lost_at_fault c.note.ensures.returned c.note.ensures.resumed c.note.ensures.saved
    c.lose.ensures.lost c.lose.ensures.size c.lose.ensures.rest c.lose-2.ensures.lost c.lose-2.ensures.rest
    now.past now.state later (ap (λ (ms : List Move). length ms + 1) c.moves.ensures.moves ∙ ap (λ n. n + 1) (many_moves old.machine.layout image now.past now.state old.journal now.keeps.has)) now.marks now.machine tables machine tables'))
    f

pub returns-clause-machine : goal.returns-clause-machine
returns-clause-machine c =
    subst (λ (run : RunParts). MachineMoves run.machine c.args.m.now c.apply-applied.result.answer c.apply-applied.new.self) c.self.view_is
    (record { applied = c.apply-applied.result; answer = refl; moves = c.apply-applied.ensures })
