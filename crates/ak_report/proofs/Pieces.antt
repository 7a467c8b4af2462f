-- Texts that go out piece by piece.
use Rattle.std.proofs.Common.{◌≡◌, ℕ, List, [], ◌∷◌, ◌++◌, ap, ◌∙◌, sym, subst, Option, append_assoc, append-nil, codes}
use Rattle.ak_core.specs.Journal.{Journal}
use Rattle.ak_core.specs.Layout.{Layout}
use Rattle.ak_outside.specs.Taken.{with_more, TakesFront}
use Rattle.ak_outside.proofs.Fronts.{front_more, then_front, then_whole, with_none}
use Rattle.ak_script.specs.Text.{in_lines}
use Rattle.ak_report.specs.Report.{answered_moves, event_line, move_line, output_line, report, stop_line}
use Rattle.ak_report.specs.Summary.{end_line, first_lines, layout_line, misses_line, moves_line, number_line, summary}

-- the pieces, one after the other
abbrev pub joined : List (List ℕ) → List ℕ
joined [] = []
joined (piece ∷ pieces) = piece ++ joined pieces

-- all pieces went out
pub record Goes (before after : Option (List ℕ)) (pieces : List (List ℕ)) : Type 0 where
  pub whole : after ≡ with_more before (joined pieces)

-- a front of them went out
pub record Fails (before after : Option (List ℕ)) (pieces : List (List ℕ)) : Type 0 where
  pub front : TakesFront before after (joined pieces)

module _ {before : Option (List ℕ)} where
  pub ends : Goes before before []
  ends = record { whole = with_none before }

module _ {before after : Option (List ℕ)} {piece : List ℕ} {pieces : List (List ℕ)} where
  pub fails : TakesFront before after piece → Fails before after (piece ∷ pieces)
  fails front = record { front = front_more before after piece (joined pieces) front }

module _ {before mid after : Option (List ℕ)} {piece : List ℕ} {pieces : List (List ℕ)} where
  pub goes_on : mid ≡ with_more before piece → Goes mid after pieces → Goes before after (piece ∷ pieces)
  goes_on is rest = record { whole = then_whole before mid after piece (joined pieces) is rest.whole }

  pub then_fails : mid ≡ with_more before piece → Fails mid after pieces → Fails before after (piece ∷ pieces)
  then_fails is rest = record { front = then_front before mid after piece (joined pieces) is rest.front }

-- ---- The pieces of the texts

abbrev pub report_pieces : Journal → List (List ℕ)
report_pieces j =
    codes "autarky 1\n" ∷ in_lines move_line (answered_moves 1 j.moves j.answers) ∷ in_lines output_line j.outputs ∷ in_lines event_line j.events ∷ (stop_line j.stop ++ codes "\n") ∷ []

six : (a b c d e f : List ℕ) → a ++ b ++ c ++ d ++ e ++ f ≡ a ++ (b ++ (c ++ (d ++ ((e ++ f) ++ []))))
six a b c d e f = simp (append_assoc, append-nil)

four : (a b c d : List ℕ) → a ++ b ++ c ++ d ≡ a ++ (b ++ ((c ++ d) ++ []))
four a b c d = simp (append_assoc, append-nil)

report_joined : (j : Journal) → report j ≡ joined (report_pieces j)
unfolding report
report_joined j = six (codes "autarky 1\n") (in_lines move_line (answered_moves 1 j.moves j.answers)) (in_lines output_line j.outputs) (in_lines event_line j.events) (stop_line j.stop) (codes "\n")

pub report_goes : {before after : Option (List ℕ)} (j : Journal) → Goes before after (report_pieces j) → after ≡ with_more before (report j)
report_goes {before} j goes = goes.whole ∙ ap (with_more before) (sym (report_joined j))

pub report_fails : {before after : Option (List ℕ)} (j : Journal) → Fails before after (report_pieces j) → TakesFront before after (report j)
report_fails {before} {after} j fails = subst (TakesFront before after) (sym (report_joined j)) fails.front

abbrev pub summary_pieces : ℕ → Layout → Journal → List (List ℕ)
summary_pieces number layout j = first_lines number layout j ∷ in_lines output_line j.outputs ∷ (end_line j ++ codes "\n") ∷ []

summary_joined : (number : ℕ) (layout : Layout) (j : Journal) → summary number layout j ≡ joined (summary_pieces number layout j)
unfolding summary
summary_joined number layout j = four (first_lines number layout j) (in_lines output_line j.outputs) (end_line j) (codes "\n")

pub summary_goes : {before after : Option (List ℕ)} (number : ℕ) (layout : Layout) (j : Journal) → Goes before after (summary_pieces number layout j) → after ≡ with_more before (summary number layout j)
summary_goes {before} number layout j goes = goes.whole ∙ ap (with_more before) (sym (summary_joined number layout j))

pub summary_fails : {before after : Option (List ℕ)} (number : ℕ) (layout : Layout) (j : Journal) → Fails before after (summary_pieces number layout j) → TakesFront before after (summary number layout j)
summary_fails {before} {after} number layout j fails = subst (TakesFront before after) (sym (summary_joined number layout j)) fails.front

abbrev pub first_pieces : ℕ → Layout → Journal → List (List ℕ)
first_pieces number layout j = (number_line number ++ codes "\n") ∷ (layout_line layout ++ codes "\n") ∷ (moves_line j ++ codes "\n") ∷ (misses_line j ++ codes "\n") ∷ []

pub first_goes : {before after : Option (List ℕ)} (number : ℕ) (layout : Layout) (j : Journal) → Goes before after (first_pieces number layout j) → after ≡ with_more before (first_lines number layout j)
unfolding first_lines
first_goes number layout j goes = goes.whole

pub first_fails : {before after : Option (List ℕ)} (number : ℕ) (layout : Layout) (j : Journal) → Fails before after (first_pieces number layout j) → TakesFront before after (first_lines number layout j)
unfolding first_lines
first_fails number layout j fails = fails.front
