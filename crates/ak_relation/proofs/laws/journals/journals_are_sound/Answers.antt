use Rattle.std.proofs.Common.{sym, subst}
use Rattle.ak_model.specs.Tapes.LastMoment.{runs_of}
use Rattle.ak_model.specs.Sound.Forced.{turns_of}
use Rattle.ak_relation.specs.Relation.Journals.{StopNamesBreak}
use Rattle.ak_relation.proofs.Runs.TracedMoves.{moves_are_traced}
use Rattle.ak_relation.proofs.Runs.SoundJournals.{sound_outputs, sound_events, sound_accesses, sound_misses, sound_breaks, sound_answers, sound}
use Rattle.ak_relation.proofs.laws.journals.journals_are_sound.Goals as goal

pub returns : goal.returns
returns c = record {
  valid = λ layout image past state journal j. j.moved.valid;
  whole = λ layout image past state journal j. let r = moves_are_traced layout image past state journal.events j.moved in r.stands.inputs.whole;
  outputs = λ layout image past state journal j. sound_outputs layout image past state journal j (moves_are_traced layout image past state journal.events j.moved);
  events = λ layout image past state journal j. sound_events layout image past state journal j (moves_are_traced layout image past state journal.events j.moved);
  accesses = λ layout image past state journal j. sound_accesses layout image past state journal j (moves_are_traced layout image past state journal.events j.moved);
  misses = λ layout image past state journal j. sound_misses layout image past state journal j (moves_are_traced layout image past state journal.events j.moved);
  breaks = λ layout image past state journal j none.
      sound_breaks layout image past state journal j (moves_are_traced layout image past state journal.events j.moved)
      (subst (StopNamesBreak layout (runs_of layout image journal) (turns_of layout journal)) (sym none) tt);
  named_breaks = λ layout image past state journal j names.
      sound_breaks layout image past state journal j (moves_are_traced layout image past state journal.events j.moved) names;
  answers = λ layout image past state journal j. sound_answers layout image past state journal j (moves_are_traced layout image past state journal.events j.moved);
  all = λ layout image past state journal j names stopped.
      sound layout image past state journal j (moves_are_traced layout image past state journal.events j.moved) names stopped;
}
