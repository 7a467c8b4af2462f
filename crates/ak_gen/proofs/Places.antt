-- What stands at which place of a generated image's pages.
use Rattle.std.proofs.Common.{◌≡◌, ℕ, ◌+◌, ◌-◌, ◌*◌, ◌<◌, ◌≤◌, List, ◌++◌, length, take, drop, sym, ap, ◌∙◌, arith, append_assoc, length-append}
use Rattle.std.proofs.Math.Seq.{drop-append_seam, take-append_seam}
use Rattle.std.proofs.lemmas.List.{drop-take, take-take, drop-drop}
use Rattle.std.specs.Int.{w64, to_le_bytes}
use Rattle.ak_image.specs.Built.{program_page}
use Rattle.ak_gen.specs.Generated.{generated}
use Rattle.ak_gen.specs.Numbers.{all_words, number_after, word_at, word_bytes}
use Rattle.ak_gen.specs.Program.{first_page}
use Rattle.ak_gen.proofs.Wholeness.{length-first_page}
use Rattle.ak_gen.proofs.Words.{word_bytes-none, word_bytes-more, word_bytes-append, word_at-after, length-word_bytes}

-- a piece of some bytes, in a part of them of this size from a place on
piece : (before word rest bytes : List ℕ) (size from at left : ℕ) → bytes ≡ before ++ (word ++ rest) → length before ≡ from + at → length word ≤ left → at + left ≡ size
    → take (length word) (drop at (take size (drop from bytes))) ≡ word
piece before word rest bytes size from at left is long fits e =
    ap (λ (n : ℕ). take (length word) (drop at (take n (drop from bytes)))) (sym e)
    ∙ (ap (take (length word)) (drop-take at left (drop from bytes))
    ∙ (take-take (length word) left (drop at (drop from bytes)) fits
    ∙ (ap (take (length word)) (drop-drop at from bytes ∙ (ap (λ (n : ℕ). drop n bytes) (sym long) ∙ (ap (drop (length before)) is ∙ drop-append_seam before (word ++ rest))))
    ∙ take-append_seam word rest)))

one_word : (number place : ℕ) → word_bytes 1 (number_after place number) ≡ to_le_bytes w64 (word_at number place)
one_word number place =
    let same : place + 0 ≡ place = omega arith in
    word_bytes-more 0 (number_after place number)
    ∙ (ap (λ l. l ++ to_le_bytes w64 (word_at (number_after place number) 0)) (word_bytes-none (number_after place number))
    ∙ ap (λ (n : ℕ). to_le_bytes w64 n) (sym (word_at-after place 0 number) ∙ ap (word_at number) same))

-- the words before one, its bytes, and the others
split : (number place rest : ℕ) → place + (1 + rest) ≡ all_words
    → word_bytes all_words number ≡ word_bytes place number ++ (to_le_bytes w64 (word_at number place) ++ word_bytes rest (number_after 1 (number_after place number)))
split number place rest e =
    ap (λ (n : ℕ). word_bytes n number) (sym e)
    ∙ (word_bytes-append place (1 + rest) number
    ∙ ap (λ l. word_bytes place number ++ l)
    (word_bytes-append 1 rest (number_after place number) ∙ ap (λ l. l ++ word_bytes rest (number_after 1 (number_after place number))) (one_word number place)))

pub first_page-at : (number : ℕ) → program_page (generated number) 0 ≡ first_page
first_page-at number =
    ap (λ (n : ℕ). take n (first_page ++ word_bytes all_words number)) (sym length-first_page) ∙ take-append_seam first_page (word_bytes all_words number)

pub word-at : (number p j : ℕ) → 1 ≤ p → p < 512 → j < 512 → take 8 (drop (8 * j) (program_page (generated number) p)) ≡ to_le_bytes w64 (word_at number (512 * (p - 1) + j))
word-at number p j some few within =
    let place : ℕ = 512 * (p - 1) + j in
    let rest : ℕ = all_words - (place + 1) in
    let e : place + (1 + rest) ≡ all_words = omega arith in
    let word : List ℕ = to_le_bytes w64 (word_at number place) in
    let others : List ℕ = word_bytes rest (number_after 1 (number_after place number)) in
    let before : List ℕ = first_page ++ word_bytes place number in
    let words : length (word_bytes place number) ≡ 8 * place = length-word_bytes place number in
    let long : length before ≡ 4096 * p + 8 * j = omega (arith, length-append first_page (word_bytes place number), length-first_page) in
    let is : first_page ++ word_bytes all_words number ≡ before ++ (word ++ others) =
    ap (λ l. first_page ++ l) (split number place rest e) ∙ sym (append_assoc first_page (word_bytes place number) (word ++ others)) in
    piece before word others (first_page ++ word_bytes all_words number) 4096 (4096 * p) (8 * j) (4096 - 8 * j) is long (omega arith) (omega arith)
