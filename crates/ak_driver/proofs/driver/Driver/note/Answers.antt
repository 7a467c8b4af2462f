use Rattle.std.proofs.Common.{◌≡◌, ◌+◌, length, ap, sym, refl, ◌∙◌, arith}
use Rattle.std.specs.Prelude.{◌&&◌, not}
use Rattle.ak_core.specs.declared.moves.Move.{Move}
use Rattle.ak_model.specs.Kernels.Repeats.{is_done, same_move}
use Rattle.ak_driver.specs.Notes.{refuses}
use Rattle.ak_driver.specs.declared.driver.Driver.{Driver}
use Rattle.ak_driver.proofs.Noting.NoteSteps.{notes_step, when_done, when_refused}
use Rattle.ak_driver.proofs.driver.Driver.note.Goals as goal
use Rattle.ak_driver.proofs.driver.Driver.note.Goals.{then-is_done, else-is_done}

pub returns : goal.returns
returns c = λ layout past h plausible.
    let m = c.args.m.now in
    let a = c.args.a.now in
    let place = c.saturating_add-self.result in
    let is : place ≡ length past + 1 = let was = h.place_is in let few = plausible.few in omega (arith, c.saturating_add-self.ensures) in
    let new : Driver = record {
      tables = c.note.new.self;
      tracking = c.note-2.new.self;
      counts = c.note-3.new.self;
      requests = c.note-4.new.self;
      place = place;
      refused = c.if-is_done.self;
    } in
    let refused : (n : Move) → refuses c.if-is_done.self n ≡ (same_move m n && not (is_done a)) =
    elim c.if-is_done.branch [
      | then-is_done w ↦ λ n. ap (λ o. refuses o n) w.self-is ∙ when_done (same_move m n) (is_done a) (sym c.is_done.ensures ∙ w.if-is_done.true)
      | else-is_done w ↦ λ n. ap (λ o. refuses o n) w.self-is ∙ when_refused (same_move m n) (is_done a) (sym c.is_done.ensures ∙ w.if-is_done.false)
    ] in
    notes_step c.args.self.now new layout past (m, a) c.change_by-change.result place c.change_by-change.ensures h plausible is refl
    c.note.ensures.frames c.note.ensures.pages c.note-2.ensures.newest c.note-2.ensures.entered
    (record {
      saved = c.note-3.ensures.saved;
      pending = c.note-3.ensures.pending;
      ended = c.note-3.ensures.ended;
      input = c.note-3.ensures.input;
      asked = c.note-3.ensures.asked;
    })
    c.note-4.ensures refused
