-- The memory of pages that the tests use.
use Rattle.std.specs.Prelude.{◌≡◌, ℕ, Bool, List, refl, length, replicate, nat_lt, slice_index_or}
use Rattle.std.specs.List.{list_all}
use Rattle.std.proofs.Common.{◌∙◌}
use Rattle.std.proofs.lemmas.List.{length-replicate}
use Rattle.ak_core.specs.Mem.{Access}

-- a page of zeros, which stands for each page that the memory does not have
pub blank_page : List ℕ
blank_page = replicate 4096 0

pub length-blank_page : length blank_page ≡ 4096
unfolding blank_page
length-blank_page = length-replicate {A = ℕ} 4096 0

-- the bytes of a page
abbrev pub page_of : List (List ℕ) → ℕ → List ℕ
page_of pages p = slice_index_or pages p blank_page

-- each page has 4096 bytes
abbrev pub IsWhole : List (List ℕ) → Type 0
IsWhole pages = (p : ℕ) → length (page_of pages p) ≡ 4096

-- one of so many pages
abbrev pub is_held : ℕ → ℕ → Bool
is_held count p = nat_lt p count

-- the accesses are of these pages
abbrev pub are_inside : ℕ → List Access → Bool
are_inside count accesses = list_all (λ t. nat_lt t.page.0 count) accesses

-- the touch that is refused stays the same
abbrev pub KeepsRefusing : ℕ → ℕ → Type 0
KeepsRefusing n n' = n' ≡ n

-- from a state to itself
pub keeps_refusing-self : (n : ℕ) → KeepsRefusing n n
keeps_refusing-self n = refl

-- and over a state between
pub keeps_refusing-on : (a b c : ℕ) → KeepsRefusing a b → KeepsRefusing b c → KeepsRefusing a c
keeps_refusing-on a b c first then = then ∙ first
