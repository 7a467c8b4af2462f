use Rattle.std.proofs.Common.{◌≡◌, false, ap, sym, ◌∙◌}
use Rattle.ak_model.specs.Paging.Holdings.{is_free}
use Rattle.ak_driver.specs.NotedTables.{holding, is_free_note}
use Rattle.ak_driver.specs.declared.tables.FrameNote.{FrameNote}
use Rattle.ak_driver.proofs.Noting.Searches.{next_passed}
use Rattle.ak_driver.proofs.tables.Tables.lowest_free.Goals as goal

pub loop-f-preserved : goal.loop-f-preserved
loop-f-preserved c =
    let notes = c.args.self.now.frames.items in
    let busy : is_free_note notes c.loop-f.f ≡ false =
    sym (ap (λ (note : FrameNote). is_free (holding note.held)) c.frame.ensures) ∙ sym c.is_free.ensures ∙ c.if-is_free.false in
    next_passed (is_free_note notes) c.loop-f.f c.args.frames c.loop-f-test.true busy ∙ c.loop-f.invariant
