-- The summary of a run that was asked for by a number: the bytes of its text. This project's own.
use Rattle.std.specs.Prelude.{ℕ, List, [], ◌∷◌, ◌++◌, Bool, true, false, codes, length, count_by, Option, Some, None}
use Rattle.std.specs.List.{find}
use Rattle.ak_core.specs.Journal.{Journal}
use Rattle.ak_core.specs.Layout.{Layout}
use Rattle.ak_core.specs.declared.event.Event.{Event}
use Rattle.ak_core.specs.declared.event.Event.TheVariants.{Miss}
use Rattle.ak_core.specs.declared.event.Stop.{Stop}
use Rattle.ak_core.specs.declared.moves.Answer.{Answer}
use Rattle.ak_core.specs.declared.moves.Answer.TheVariants.{Exit as Exited}
use Rattle.ak_core.specs.declared.moves.Exit.TheVariants.{Ended, Trapped}
use Rattle.ak_script.specs.Text.{numbers_text, in_lines}
use Rattle.ak_report.specs.Report.{answer_text, output_line}

abbrev pub is_miss : Event → Bool
is_miss (Miss count cluster) = true
is_miss _ = false

-- an answer that tells the program's end
abbrev pub is_end : Answer → Bool
is_end (Exited (Ended status)) = true
is_end (Exited (Trapped vector)) = true
is_end _ = false

-- the end, by the stop and the first answer that tells the program's end
abbrev pub end_text : Option Stop → Option Answer → List ℕ
end_text (Some stop) answer = codes "stopped"
end_text None (Some answer) = answer_text answer
end_text None None = codes "unfinished"

-- ---- Lines, each without its newline

-- the number that the run was asked for by
abbrev pub number_line : ℕ → List ℕ
number_line number = codes "demo" ++ numbers_text (number ∷ [])

-- the pages, the clusters and the budget of a layout
abbrev pub layout_line : Layout → List ℕ
layout_line layout =
    codes "pages" ++ numbers_text (length layout.perms ∷ []) ++ codes " clusters" ++ numbers_text (layout.clusters ∷ []) ++ codes " budget" ++ numbers_text (layout.budget ∷ [])

-- how many moves there were
abbrev pub moves_line : Journal → List ℕ
moves_line j = codes "moves" ++ numbers_text (length j.moves ∷ [])

-- how many misses
abbrev pub misses_line : Journal → List ℕ
misses_line j = codes "misses" ++ numbers_text (count_by is_miss j.events ∷ [])

-- the lines before the outputs
unfoldable pub first_lines : ℕ → Layout → Journal → List ℕ
first_lines number layout j = in_lines (λ line. line) (number_line number ∷ layout_line layout ∷ moves_line j ∷ misses_line j ∷ [])

-- the line of the end
abbrev pub end_line : Journal → List ℕ
end_line j = codes "end " ++ end_text j.stop (find is_end j.answers)

-- the summary: those lines, a line for each output, and the end
unfoldable pub summary : ℕ → Layout → Journal → List ℕ
summary number layout j = first_lines number layout j ++ in_lines output_line j.outputs ++ end_line j ++ codes "\n"
