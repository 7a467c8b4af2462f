-- The memory of pages that the tests use.
use Rattle.std.proofs.Common.{◌≡◌, ℕ, zero, suc, ◌<◌, List, [], ◌∷◌, ◌++◌, refl, ap, ◌∙◌, arith, length}
use Rattle.std.proofs.Math.Path.{fun_ext}
use Rattle.std.specs.Prelude.{Bool, true, false, ◌&&◌, ◌||◌, ◌==◌, nat_lt, slice_set, slice_index_or, if◌then◌else◌}
use Rattle.std.proofs.lemmas.Bool.Decides.{nat_tests}
use Rattle.std.proofs.lemmas.List.{get_or-set_same, get_or-set_other}
use Rattle.ak_core.specs.Mem.{Access, is_touched, is_writable, is_write, with_page}
use Rattle.ak_pager_tests.specs.TestPages.{IsWhole, are_inside, page_of, blank_page, length-blank_page}

both : (a b : Bool) → a && b ≡ true → (a ≡ true) × (b ≡ true)
both true b h = (refl, h)
both false b h = absurd (cc)

touched-by : (n q p : ℕ) (b rest all : Bool) → (q == p) ≡ b → nat_lt q n && all ≡ true → b || rest ≡ true → (all ≡ true → rest ≡ true → p < n) → p < n
touched-by n q p true rest all e inside some more = let below = (both (nat_lt q n) all inside).0 in grind (arith, nat_tests)
touched-by n q p false rest all e inside some more = more (both (nat_lt q n) all inside).1 some

-- a page that was touched is one of the memory's
pub touched_inside : (n : ℕ) (granted : List Access) (p : ℕ) → are_inside n granted ≡ true → is_touched granted p ≡ true → p < n
touched_inside n [] p inside some = absurd (cc)
touched_inside n (t ∷ granted) p inside some =
    touched-by n t.page.0 p (t.page.0 == p) (is_touched granted p) (are_inside n granted) refl inside some (touched_inside n granted p)

writable-by : (b w any other : Bool) → (b && w) || any ≡ true → (any ≡ true → other ≡ true) → b || other ≡ true
writable-by true w any other some more = refl
writable-by false w any other some more = more some

-- a page that was touched for writing was touched
pub writable_touched : (granted : List Access) (p : ℕ) → is_writable granted p ≡ true → is_touched granted p ≡ true
writable_touched [] p some = some
writable_touched (t ∷ granted) p some =
    writable-by (t.page.0 == p) (is_write t.kind) (is_writable granted p) (is_touched granted p) some (writable_touched granted p)

-- so it is one of the memory's
pub writable_inside : (n : ℕ) (granted : List Access) (p : ℕ) → are_inside n granted ≡ true → is_writable granted p ≡ true → p < n
writable_inside n granted p inside some = touched_inside n granted p inside (writable_touched granted p some)

set-at : (pages : List (List ℕ)) (p q : ℕ) (new : List ℕ) (b : Bool) → p < length pages → (q == p) ≡ b → page_of (slice_set pages p new) q ≡ (if b then new else page_of pages q)
set-at pages p q new true below e =
    let here : q ≡ p = grind (arith, nat_tests) in
    ap (λ n. slice_index_or (slice_set pages p new) n blank_page) here ∙ get_or-set_same pages p new blank_page below
set-at pages p q new false below e = get_or-set_other pages p q new blank_page (grind (arith, nat_tests))

-- one page is set, and the others stay
pub page_of-set : (pages : List (List ℕ)) (p : ℕ) (new : List ℕ) → p < length pages → page_of (slice_set pages p new) ≡ with_page (page_of pages) p new
page_of-set pages p new below = fun_ext (λ q. set-at pages p q new (q == p) below refl)

whole-by : (b : Bool) (new old : List ℕ) → length new ≡ 4096 → length old ≡ 4096 → length (if b then new else old) ≡ 4096
whole-by true new old x y = x
whole-by false new old x y = y

-- one page is set to another whole one, and all are whole
pub whole-set : (pages : List (List ℕ)) (p : ℕ) (new : List ℕ) → p < length pages → length new ≡ 4096 → IsWhole pages → IsWhole (slice_set pages p new)
whole-set pages p new below size whole q =
    ap length (set-at pages p q new (q == p) below refl) ∙ whole-by (q == p) new (page_of pages q) size (whole q)

-- none are whole
pub whole-none : (pages : List (List ℕ)) → pages ≡ [] → IsWhole pages
whole-none pages e p = ap (λ (xs : List (List ℕ)). length (page_of xs p)) e ∙ length-blank_page

whole-on : (pages : List (List ℕ)) (new : List ℕ) → length new ≡ 4096 → IsWhole pages → (p : ℕ) → length (page_of (pages ++ new ∷ []) p) ≡ 4096
whole-on [] new size whole zero = size
whole-on [] new size whole (suc p) = length-blank_page
whole-on (page ∷ pages) new size whole zero = whole 0
whole-on (page ∷ pages) new size whole (suc p) = whole-on pages new size (λ q. whole (suc q)) p

-- one more that is whole
pub whole-push : (pages : List (List ℕ)) (new : List ℕ) (all : List (List ℕ)) → all ≡ pages ++ new ∷ [] → length new ≡ 4096 → IsWhole pages → IsWhole all
whole-push pages new all e size whole p = ap (λ (xs : List (List ℕ)). length (page_of xs p)) e ∙ whole-on pages new size whole p
