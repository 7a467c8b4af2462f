-- The moves of a journal with their answers.
use Rattle.std.proofs.Common.{◌≡◌, ℕ, ◌+◌, ◌<◌, ◌≤◌, List, [], ◌∷◌, length, get_or, take, zero, suc, refl, ap, sym, ◌∙◌, arith, false}
use Rattle.std.proofs.lemmas.List.{take_all}
use Rattle.ak_core.specs.declared.moves.Move.{Move}
use Rattle.ak_core.specs.declared.moves.Move.TheVariants.{SetPte}
use Rattle.ak_core.specs.declared.moves.Answer.{Answer}
use Rattle.ak_core.specs.declared.moves.Answer.TheVariants.{Ok}
use Rattle.ak_report.specs.Report.{AnsweredMove, answered_moves, move_line}

abbrev pub row : ℕ → Move → Answer → AnsweredMove
row number m answer = record { number = number; move = m; answer = answer }

pub rows_length : (k : ℕ) (ms : List Move) (answers : List Answer) → length ms ≡ length answers → length (answered_moves k ms answers) ≡ length ms
rows_length k [] answers same = refl
rows_length k (m ∷ ms) [] same = absurd (omega arith)
rows_length k (m ∷ ms) (a ∷ more) same = ap suc (rows_length (k + 1) ms more (omega arith))

-- a move at its place
pub row_at : (k : ℕ) (ms : List Move) (answers : List Answer) (i : ℕ) (d : AnsweredMove) (m : Move) (a : Answer) → length ms ≡ length answers → i < length ms →
    get_or (answered_moves k ms answers) i d ≡ row (k + i) (get_or ms i m) (get_or answers i a)
row_at k [] answers i d m a same lt = absurd (omega arith)
row_at k (n ∷ ms) [] i d m a same lt = absurd (omega arith)
row_at k (n ∷ ms) (b ∷ more) zero d m a same lt = let e : k ≡ k + 0 = omega arith in ap (λ j. row j n b) e
row_at k (n ∷ ms) (b ∷ more) (suc i) d m a same lt =
    let e : k + 1 + i ≡ k + suc i = omega arith in
    row_at (k + 1) ms more i d m a (omega arith) (omega arith) ∙ ap (λ j. row j (get_or ms i m) (get_or more i a)) e

-- all of them
pub all_rows : (ms : List Move) (answers : List Answer) (i : ℕ) → length ms ≡ length answers → length ms ≤ i → take i (answered_moves 1 ms answers) ≡ answered_moves 1 ms answers
all_rows ms answers i same le = let len = rows_length 1 ms answers same in take_all i (answered_moves 1 ms answers) (omega arith)

-- what a list of moves, or of answers, has past its end
abbrev pub no_move : Move
no_move = SetPte (record { 0 = 0 }) (record { 0 = 0 }) (record { p = false; w = false; x = false; a = false; d = false })

abbrev pub no_row : AnsweredMove
no_row = row 0 no_move Ok

-- the line of a move at its place
pub line_at : (ms : List Move) (answers : List Answer) (i : ℕ) → length ms ≡ length answers → i < length ms →
    move_line (row (i + 1) (get_or ms i no_move) (get_or answers i Ok)) ≡ move_line (get_or (answered_moves 1 ms answers) i no_row)
line_at ms answers i same lt =
    let e : 1 + i ≡ i + 1 = omega arith in
    sym (ap move_line (row_at 1 ms answers i no_row no_move Ok same lt) ∙ ap (λ k. move_line (row k (get_or ms i no_move) (get_or answers i Ok))) e)
