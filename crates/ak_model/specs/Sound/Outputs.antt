-- The part of soundness on outputs: they are those of the program over memory never paged.
use Rattle.std.specs.Prelude.{◌≡◌, ℕ, List, ◌++◌, filter_map, Option, None}
use Rattle.ak_core.specs.Layout.{Layout}
use Rattle.ak_core.specs.Journal.{Journal}
use Rattle.ak_core.specs.declared.moves.Answer.{Answer}
use Rattle.ak_core.specs.declared.moves.Exit.{Exit}
use Rattle.ak_model.specs.Flat.FlatRuns.{output_of_call, outputs}
use Rattle.ak_model.specs.Tapes.LastMoment.{last_moment}

-- the output that an exit shows
abbrev pub output_by : Exit → Option ℕ
output_by (Exit.Call b a) = output_of_call b a
output_by _ = None

-- the output that an answer shows
abbrev pub shown_by : Answer → Option ℕ
shown_by (Answer.Exit exit) = output_by exit
shown_by _ = None

-- the outputs that were shown, in order
abbrev pub shown_outputs : List Answer → List ℕ
shown_outputs answers = filter_map shown_by answers

-- a beginning of a list
abbrev pub IsPrefixOf : List ℕ → List ℕ → Type 0
IsPrefixOf xs ys = (rest : List ℕ) × (xs ++ rest ≡ ys)

-- the journal's outputs are those that were shown, and a beginning of those of the flat run
pub record OutputsAreFlat (image : List ℕ) (layout : Layout) (journal : Journal) : Type 0 where
  pub shown : journal.outputs ≡ shown_outputs journal.answers
  pub flat : IsPrefixOf journal.outputs
      (outputs layout image (last_moment layout journal).control.returned (last_moment layout journal).control.count)
