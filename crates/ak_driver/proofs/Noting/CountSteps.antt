-- What is counted is no more than there are moves.
use Rattle.std.proofs.Common.{◌≡◌, ℕ, ◌+◌, ◌≤◌, Bool, true, false, [], ◌∷◌, length, refl, ◌∙◌, arith}
use Rattle.std.proofs.lemmas.List.Sums.{sum_by-cons}
use Rattle.std.specs.Prelude.{cond}
use Rattle.ak_model.specs.Paging.Histories.{History, Pair, Change, Unchanged, Maps, Blocks, Cycles, WritesOut, Loads, Removes, MakesVa, Discards, Enters, Resumes, Exits, Interrupts, change_of}
use Rattle.ak_model.specs.Kernels.Counted.{more_if, is_asynchronous, saved_after, saved_count}
use Rattle.ak_model.specs.Kernels.HonestKernel.{asks_input, inputs_asked}
use Rattle.ak_driver.specs.NotedCounts.{one_if, asked_after}

most_if : (b : Bool) (n : ℕ) → more_if b n ≤ n + 1
most_if true n = omega arith
most_if false n = omega arith

saved_most : (change : Change) (n : ℕ) → saved_after change n ≤ n + 1
saved_most (Exits lp exit) n = most_if (is_asynchronous exit) n
saved_most (Interrupts lp) n = omega arith
saved_most (Resumes lp) n = omega arith
saved_most Unchanged n = omega arith
saved_most (Maps p f flags) n = omega arith
saved_most (Blocks f) n = omega arith
saved_most Cycles n = omega arith
saved_most (WritesOut f va i k) n = omega arith
saved_most (Loads f k p va i blocked) n = omega arith
saved_most (Removes f) n = omega arith
saved_most (MakesVa f) n = omega arith
saved_most (Discards k) n = omega arith
saved_most (Enters lp v) n = omega arith

-- no more contexts are saved than moves were made
pub saved_count-le : (past : History) → saved_count past ≤ length past
saved_count-le [] = omega arith
saved_count-le (pair ∷ past) =
    let a = saved_most (change_of pair) (saved_count past) in let b = saved_count-le past in omega arith

same_if : (b : Bool) (n : ℕ) → cond b 1 0 + n ≡ one_if b + n
same_if true n = refl
same_if false n = refl

-- how often an input was asked for, with one more move
pub inputs_asked-cons : (pair : Pair) (past : History) → inputs_asked (pair ∷ past) ≡ asked_after (change_of pair) (inputs_asked past)
inputs_asked-cons pair past =
    sum_by-cons (λ (x : Pair). cond (asks_input (change_of x)) 1 0) pair past ∙ same_if (asks_input (change_of pair)) (inputs_asked past)

one_most : (b : Bool) → one_if b ≤ 1
one_most true = omega arith
one_most false = omega arith

-- an input was not asked for more often than moves were made
pub inputs_asked-le : (past : History) → inputs_asked past ≤ length past
inputs_asked-le [] = omega arith
inputs_asked-le (pair ∷ past) =
    let a = inputs_asked-cons pair past in let b = inputs_asked-le past in let c = one_most (asks_input (change_of pair)) in omega arith
