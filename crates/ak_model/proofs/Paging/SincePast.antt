-- The place of an entering is not to come.
use Rattle.std.proofs.Common.{◌≡◌, ℕ, ◌+◌, ◌≤◌, [], ◌∷◌, length, arith}
use Rattle.std.specs.Prelude.{Bool, true, false, Option, Some, None, ◌==◌, if◌then◌else◌}
use Rattle.ak_model.specs.Paging.Histories.{History, Change, Unchanged, Maps, Blocks, Cycles, WritesOut, Loads, Removes, MakesVa, Discards, Enters, Resumes, Exits, Interrupts, change_of}
use Rattle.ak_model.specs.Paging.Inside.{since, since_after}

some_is : (a b : ℕ) → Some a ≡ Some b → a ≡ b
some_is a b h = cc

entered_by : (b : Bool) (place n : ℕ) (before : Option ℕ) → (if b then Some (n + 1) else before) ≡ Some place → (before ≡ Some place → place ≤ n) → place ≤ n + 1
entered_by true place n before h old = let e : n + 1 ≡ place = some_is (n + 1) place h in omega arith
entered_by false place n before h old = let k = old h in omega arith

left_by : (b : Bool) (place n : ℕ) (before : Option ℕ) → (if b then None else before) ≡ Some place → (before ≡ Some place → place ≤ n) → place ≤ n + 1
left_by true place n before h old = absurd (cc)
left_by false place n before h old = let k = old h in omega arith

since_by : (c : Change) (lp place n : ℕ) (before : Option ℕ) → since_after c lp (n + 1) before ≡ Some place → (before ≡ Some place → place ≤ n) → place ≤ n + 1
since_by (Enters q v) lp place n before h old = entered_by (lp == q) place n before h old
since_by (Resumes q) lp place n before h old = entered_by (lp == q) place n before h old
since_by (Exits q exit) lp place n before h old = left_by (lp == q) place n before h old
since_by (Interrupts q) lp place n before h old = left_by (lp == q) place n before h old
since_by Unchanged lp place n before h old = let k = old h in omega arith
since_by (Maps p f flags) lp place n before h old = let k = old h in omega arith
since_by (Blocks f) lp place n before h old = let k = old h in omega arith
since_by Cycles lp place n before h old = let k = old h in omega arith
since_by (WritesOut f va i k) lp place n before h old = let l = old h in omega arith
since_by (Loads f k p va i blocked) lp place n before h old = let l = old h in omega arith
since_by (Removes f) lp place n before h old = let k = old h in omega arith
since_by (MakesVa f) lp place n before h old = let k = old h in omega arith
since_by (Discards k) lp place n before h old = let l = old h in omega arith

-- an entering is not to come
pub since_past : (past : History) (lp place : ℕ) → since past lp ≡ Some place → place ≤ length past
since_past [] lp place h = absurd (cc)
since_past (pair ∷ past) lp place h =
    let le = since_by (change_of pair) lp place (length past) (since past lp) h (since_past past lp place) in omega arith
