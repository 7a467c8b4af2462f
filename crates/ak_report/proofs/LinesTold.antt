-- Journals with equal reports are equal.
use Rattle.std.proofs.Common.{◌≡◌, ℕ, ◌+◌, ◌^◌, ◌≤◌, List, [], ◌∷◌, ◌++◌, map, length, refl, ap, ◌∙◌, sym, arith, Option, Some, None, append_assoc, append-nil, codes}
use Rattle.std.specs.Prelude.{nat_lt}
use Rattle.std.specs.List.{filter_map, flat_map, list_all}
use Rattle.std.specs.Str.Lines.{lines}
use Rattle.std.proofs.lemmas.Bool.{and_parts}
use Rattle.std.proofs.lemmas.List.Folds.{list_all-append}
use Rattle.ak_core.specs.Journal.{Journal, SameLists}
use Rattle.ak_core.specs.declared.moves.Move.{Move}
use Rattle.ak_core.specs.declared.moves.Answer.{Answer}
use Rattle.ak_core.specs.declared.event.Event.{Event}
use Rattle.ak_core.specs.declared.event.Stop.{Stop}
use Rattle.ak_script.specs.Text.{in_lines}
use Rattle.ak_script.proofs.PrintedRead.{lines-cons}
use Rattle.ak_report.specs.Report.{AnsweredMove, answered_moves, event_line, move_line, output_line, report, stop_line}
use Rattle.ak_report.specs.Types.{AreWords, KeepsTypes, answer_numbers, event_numbers, move_numbers, stop_numbers}
use Rattle.ak_report.proofs.Readers.{First, Halted, Line, Moved, Put, Shown, line_of}
use Rattle.ak_report.proofs.Told.{Tells, event_tells, first_tells, move_tells, output_tells, stop_tells}
use Rattle.ak_report.proofs.Worded.{AreSmall, are_small}

-- each thing is written as a line that tells it
abbrev AllTold : {A : Type 0} → (A → List ℕ) → (A → Line) → List A → Type 0
AllTold text line [] = Unit {0}
AllTold text line (x ∷ xs) = Tells (text x) (line x) × AllTold text line xs

-- what the lines of a text tell
abbrev told_by : List ℕ → List (Option Line)
told_by bytes = map line_of (lines bytes)

told_by-cons : (text rest : List ℕ) (line : Line) → Tells text line → told_by (text ++ 10 ∷ rest) ≡ Some line ∷ told_by rest
told_by-cons text rest line t = ap (map line_of) (lines-cons text rest t.inner) ∙ ap (λ first. first ∷ told_by rest) t.tells

module _ {A : Type 0} (text : A → List ℕ) (line : A → Line) where
  told_lines : (xs : List A) (rest : List ℕ) → AllTold text line xs → told_by (in_lines text xs ++ rest) ≡ map (λ x. Some (line x)) xs ++ told_by rest
  told_lines [] rest all = refl
  told_lines (x ∷ xs) rest all =
      let whole : in_lines text (x ∷ xs) ++ rest ≡ text x ++ 10 ∷ (in_lines text xs ++ rest) = append_assoc (text x ++ 10 ∷ []) (in_lines text xs) rest ∙ append_assoc (text x) (10 ∷ []) (in_lines text xs ++ rest) in
      ap told_by whole
      ∙ told_by-cons (text x) (in_lines text xs ++ rest) (line x) all.0
      ∙ ap (λ others. Some (line x) ∷ others) (told_lines xs rest all.1)

-- ---- Each line of a journal is told

parts_small : {A : Type 0} (numbers : A → List ℕ) (x : A) (xs : List A) → AreWords (flat_map numbers (x ∷ xs)) → AreSmall (numbers x) × AreWords (flat_map numbers xs)
parts_small numbers x xs small =
    let small' : ℕ → _ = λ n. nat_lt n (2 ^ 64) in
    let parts = and_parts (list_all small' (numbers x)) (list_all small' (flat_map numbers xs)) (sym (list_all-append small' (numbers x) (flat_map numbers xs)) ∙ small) in
    (are_small (numbers x) parts.0, parts.1)

moves_told : (k : ℕ) (ms : List Move) (answers : List Answer) → k + length ms ≤ 2 ^ 64 → AreWords (flat_map move_numbers ms) → AreWords (flat_map answer_numbers answers) → AllTold move_line Moved (answered_moves k ms answers)
moves_told k [] answers few small others = tt
moves_told k (m ∷ ms) [] few small others = tt
moves_told k (m ∷ ms) (a ∷ more) few small others =
    let here = parts_small move_numbers m ms small in
    let there = parts_small answer_numbers a more others in
    (move_tells (record { number = k; move = m; answer = a }) (omega arith) here.0 there.0, moves_told (k + 1) ms more (omega arith) here.1 there.1)

outputs_told : (outputs : List ℕ) → AreSmall outputs → AllTold output_line Put outputs
outputs_told [] small = tt
outputs_told (v ∷ vs) small = (output_tells v small.0, outputs_told vs small.1)

events_told : (events : List Event) → AreWords (flat_map event_numbers events) → AllTold event_line Shown events
events_told [] small = tt
events_told (e ∷ es) small = let here = parts_small event_numbers e es small in (event_tells e here.0, events_told es here.1)

-- what a report tells, line by line
abbrev all_told : Journal → List (Option Line)
all_told j =
    Some First ∷ (map (λ row. Some (Moved row)) (answered_moves 1 j.moves j.answers) ++ (map (λ v. Some (Put v)) j.outputs ++ (map (λ e. Some (Shown e)) j.events ++ Some (Halted j.stop) ∷ [])))

regrouped : (a b c d e f : List ℕ) → a ++ b ++ c ++ d ++ e ++ f ≡ a ++ (b ++ (c ++ (d ++ (e ++ f))))
regrouped a b c d e f = simp append_assoc

report_told : (j : Journal) → KeepsTypes j → told_by (report j) ≡ all_told j
unfolding report
report_told j keeps =
    let rows : List ℕ = in_lines move_line (answered_moves 1 j.moves j.answers) in
    let outputs : List ℕ = in_lines output_line j.outputs in
    let events : List ℕ = in_lines event_line j.events in
    let end : List ℕ = stop_line j.stop ++ codes "\n" in
    let whole : report j ≡ codes "autarky 1" ++ 10 ∷ (rows ++ (outputs ++ (events ++ end))) = regrouped (codes "autarky 1\n") rows outputs events (stop_line j.stop) (codes "\n") in
    let stop = told_by-cons (stop_line j.stop) [] (Halted j.stop) (stop_tells j.stop (are_small (stop_numbers j.stop) keeps.stop)) in
    ap told_by whole
    ∙ told_by-cons (codes "autarky 1") (rows ++ (outputs ++ (events ++ end))) First first_tells
    ∙ ap (λ l. Some First ∷ l) (told_lines move_line Moved (answered_moves 1 j.moves j.answers) (outputs ++ (events ++ end)) (moves_told 1 j.moves j.answers (omega (arith, keeps.few)) keeps.moves keeps.answers)
    ∙ ap (λ l. map (λ row. Some (Moved row)) (answered_moves 1 j.moves j.answers) ++ l) (told_lines output_line Put j.outputs (events ++ end) (outputs_told j.outputs (are_small j.outputs keeps.outputs))
    ∙ ap (λ l. map (λ v. Some (Put v)) j.outputs ++ l) (told_lines event_line Shown j.events end (events_told j.events keeps.events)
    ∙ ap (λ l. map (λ e. Some (Shown e)) j.events ++ l) stop)))

-- ---- The parts of what is told

module _ {A T : Type 0} (said : A → Option Line) (pick : Option Line → Option T) where
  skipped : ((x : A) → pick (said x) ≡ None) → (xs : List A) (rest : List (Option Line)) → filter_map pick (map said xs ++ rest) ≡ filter_map pick rest
  skipped none [] rest = refl
  skipped none (x ∷ xs) rest = rw (none x) (skipped none xs rest)

module _ {A : Type 0} (said : A → Option Line) (pick : Option Line → Option A) where
  taken : ((x : A) → pick (said x) ≡ Some x) → (xs : List A) (rest : List (Option Line)) → filter_map pick (map said xs ++ rest) ≡ xs ++ filter_map pick rest
  taken some [] rest = refl
  taken some (x ∷ xs) rest = rw (some x) (ap (λ l. x ∷ l) (taken some xs rest))

abbrev moved : Option Line → Option AnsweredMove
moved (Some (Moved row)) = Some row
moved _ = None

abbrev put : Option Line → Option ℕ
put (Some (Put v)) = Some v
put _ = None

abbrev shown : Option Line → Option Event
shown (Some (Shown e)) = Some e
shown _ = None

abbrev halted : Option Line → Option (Option Stop)
halted (Some (Halted stop)) = Some stop
halted _ = None

module _ (j : Journal) where
  abbrev rows_said : AnsweredMove → Option Line
  rows_said row = Some (Moved row)

  abbrev outputs_said : ℕ → Option Line
  outputs_said v = Some (Put v)

  abbrev events_said : Event → Option Line
  events_said e = Some (Shown e)

  abbrev rows : List AnsweredMove
  rows = answered_moves 1 j.moves j.answers

  abbrev end : List (Option Line)
  end = Some (Halted j.stop) ∷ []

  rows_of : filter_map moved (all_told j) ≡ rows
  rows_of =
      taken rows_said moved (λ x. refl) rows (map outputs_said j.outputs ++ (map events_said j.events ++ end))
      ∙ ap (λ l. rows ++ l) (skipped outputs_said moved (λ x. refl) j.outputs (map events_said j.events ++ end) ∙ skipped events_said moved (λ x. refl) j.events end)
      ∙ append-nil rows

  outputs_of : filter_map put (all_told j) ≡ j.outputs
  outputs_of =
      skipped rows_said put (λ x. refl) rows (map outputs_said j.outputs ++ (map events_said j.events ++ end))
      ∙ taken outputs_said put (λ x. refl) j.outputs (map events_said j.events ++ end)
      ∙ ap (λ l. j.outputs ++ l) (skipped events_said put (λ x. refl) j.events end)
      ∙ append-nil j.outputs

  events_of : filter_map shown (all_told j) ≡ j.events
  events_of =
      skipped rows_said shown (λ x. refl) rows (map outputs_said j.outputs ++ (map events_said j.events ++ end))
      ∙ skipped outputs_said shown (λ x. refl) j.outputs (map events_said j.events ++ end)
      ∙ taken events_said shown (λ x. refl) j.events end
      ∙ append-nil j.events

  stops_of : filter_map halted (all_told j) ≡ j.stop ∷ []
  stops_of =
      skipped rows_said halted (λ x. refl) rows (map outputs_said j.outputs ++ (map events_said j.events ++ end))
      ∙ skipped outputs_said halted (λ x. refl) j.outputs (map events_said j.events ++ end)
      ∙ skipped events_said halted (λ x. refl) j.events end

moves_of : (k : ℕ) (ms : List Move) (answers : List Answer) → length ms ≡ length answers → map (λ row. row.move) (answered_moves k ms answers) ≡ ms
moves_of k [] answers same = refl
moves_of k (m ∷ ms) [] same = absurd (omega arith)
moves_of k (m ∷ ms) (a ∷ more) same = ap (λ l. m ∷ l) (moves_of (k + 1) ms more (omega arith))

answers_of : (k : ℕ) (ms : List Move) (answers : List Answer) → length ms ≡ length answers → map (λ row. row.answer) (answered_moves k ms answers) ≡ answers
answers_of k [] [] same = refl
answers_of k [] (a ∷ more) same = absurd (omega arith)
answers_of k (m ∷ ms) [] same = absurd (omega arith)
answers_of k (m ∷ ms) (a ∷ more) same = ap (λ l. a ∷ l) (answers_of (k + 1) ms more (omega arith))

-- the same report tells the same journal
pub reports_tell : (first second : Journal) → KeepsTypes first → KeepsTypes second → report first ≡ report second → SameLists first second
reports_tell first second keeps keeps_too same =
    let told : all_told second ≡ all_told first = sym (report_told second keeps_too) ∙ ap told_by (sym same) ∙ report_told first keeps in
    let rows : answered_moves 1 second.moves second.answers ≡ answered_moves 1 first.moves first.answers = sym (rows_of second) ∙ ap (filter_map moved) told ∙ rows_of first in
    let stops : second.stop ∷ [] ≡ first.stop ∷ [] = sym (stops_of second) ∙ ap (filter_map halted) told ∙ stops_of first in
    record {
      moves = sym (moves_of 1 second.moves second.answers keeps_too.answered) ∙ ap (map (λ row. row.move)) rows ∙ moves_of 1 first.moves first.answers keeps.answered;
      answers = sym (answers_of 1 second.moves second.answers keeps_too.answered) ∙ ap (map (λ row. row.answer)) rows ∙ answers_of 1 first.moves first.answers keeps.answered;
      outputs = sym (outputs_of second) ∙ ap (filter_map put) told ∙ outputs_of first;
      events = sym (events_of second) ∙ ap (filter_map shown) told ∙ events_of first;
      stop = cc;
    }
