-- Which processors are inside the enclave. (SDM volume 3D, EENTER, ERESUME, EEXIT, "Asynchronous Enclave Exit".)
use Rattle.std.specs.Prelude.{ℕ, ◌+◌, Bool, ◌&&◌, not, List, [], ◌∷◌, length, Option, Some, None, is_some, ◌==◌, if◌then◌else◌}
use Rattle.std.specs.List.{range_with_len, list_any}
use Rattle.ak_core.specs.Layout.{Layout}
use Rattle.ak_model.specs.Paging.Histories.{History, Change, change_of, Enters, Resumes, Exits, Interrupts}

-- the place of the entering after one more change, at this place
abbrev pub since_after : Change → ℕ → ℕ → Option ℕ → Option ℕ
since_after (Enters q v) lp place before = if lp == q then Some place else before
since_after (Resumes q) lp place before = if lp == q then Some place else before
since_after (Exits q exit) lp place before = if lp == q then None else before
since_after (Interrupts q) lp place before = if lp == q then None else before
since_after _ lp place before = before

-- the place of the entering after which a processor is inside, if it is
abbrev pub since : History → ℕ → Option ℕ
since [] lp = None
since (pair ∷ past) lp = since_after (change_of pair) lp (length past + 1) (since past lp)

-- a processor is inside
abbrev pub inside : History → ℕ → Bool
inside past lp = is_some (since past lp)

-- all processors
abbrev pub processors : Layout → List ℕ
processors layout = range_with_len 0 layout.lps

-- some processor is inside
abbrev pub someone_inside : Layout → History → Bool
someone_inside layout past = list_any (inside past) (processors layout)

-- some other processor is inside
abbrev pub another_inside : Layout → History → ℕ → Bool
another_inside layout past lp = list_any (λ q. inside past q && not (q == lp)) (processors layout)
