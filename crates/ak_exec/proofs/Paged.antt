-- The bytes of a flat state, and those of the pages that show it.
use Rattle.std.proofs.Common.{◌≡◌, ℕ, zero, suc, ◌+◌, ◌-◌, ◌*◌, ◌/◌, ◌%◌, ◌<◌, ◌≤◌, List, [], ◌∷◌, length, take, drop, get_or, min, refl, ap, sym, ◌∙◌, subst, arith, length-take, length-drop}
use Rattle.std.specs.Prelude.{Bool, true, false, ◌==◌, nat_lt, if◌then◌else◌, slice_set}
use Rattle.std.proofs.lemmas.Bool.Decides.{nat_tests}
use Rattle.std.proofs.lemmas.List.{get_or-take, get_or-drop, drop-set-lt, drop-set-add, take-set-le, length-take-le, ext_get_or}
use Rattle.std.proofs.lemmas.List.Edits.{paste_more, paste_all}
use lib.Seq.{paste}
use Rattle.ak_core.specs.Layout.{Layout}
use Rattle.ak_core.specs.Mem.{with_page}
use Rattle.ak_model.specs.Paging.Pages.{pages}
use Rattle.ak_model.specs.Flat.FlatRuns.{Flat, page_bytes, overwrite}
use Rattle.ak_exec.specs.Turns.{Shows}

-- ---- One byte of the flat state, and of its page

page-of : ℕ → List ℕ → List ℕ
page-of p bytes = take 4096 (drop (4096 * p) bytes)

take-set : (n : ℕ) (l : List ℕ) (i v : ℕ) → take n (slice_set l i v) ≡ slice_set (take n l) i v
take-set zero l i v = refl
take-set (suc n) [] i v = refl
take-set (suc n) (x ∷ l) zero v = refl
take-set (suc n) (x ∷ l) (suc i) v = ap (λ xs. x ∷ xs) (take-set n l i v)

-- a byte of a page is one of the flat state's
pub get_or-page : (bytes : List ℕ) (place : ℕ) → get_or (take 4096 (drop (4096 * (place / 4096)) bytes)) (place % 4096) 0 ≡ get_or bytes place 0
get_or-page bytes place =
    get_or-take 4096 (drop (4096 * (place / 4096)) bytes) (place % 4096) 0 (omega arith)
    ∙ get_or-drop (4096 * (place / 4096)) bytes (place % 4096) 0
    ∙ ap (λ n. get_or bytes n 0) (omega arith)

-- a byte that is set is set in its page
page-set_same : (bytes : List ℕ) (place v : ℕ) → take 4096 (drop (4096 * (place / 4096)) (slice_set bytes place v)) ≡ slice_set (take 4096 (drop (4096 * (place / 4096)) bytes)) (place % 4096) v
page-set_same bytes place v =
    let at : 4096 * (place / 4096) + place % 4096 ≡ place = omega arith in
    ap (λ n. take 4096 (drop (4096 * (place / 4096)) (slice_set bytes n v))) (sym at)
    ∙ ap (take 4096) (drop-set-add (4096 * (place / 4096)) bytes (place % 4096) v)
    ∙ take-set 4096 (drop (4096 * (place / 4096)) bytes) (place % 4096) v

-- and in no earlier page
page-set_above : (bytes : List ℕ) (p place v : ℕ) → 4096 * p + 4096 ≤ place → take 4096 (drop (4096 * p) (slice_set bytes place v)) ≡ take 4096 (drop (4096 * p) bytes)
page-set_above bytes p place v far =
    let at : 4096 * p + (place - 4096 * p) ≡ place = omega arith in
    ap (λ n. take 4096 (drop (4096 * p) (slice_set bytes n v))) (sym at)
    ∙ ap (take 4096) (drop-set-add (4096 * p) bytes (place - 4096 * p) v)
    ∙ take-set-le 4096 (drop (4096 * p) bytes) (place - 4096 * p) v (omega arith)

-- nor in a later one
page-set_below : (bytes : List ℕ) (p place v : ℕ) → place < 4096 * p → take 4096 (drop (4096 * p) (slice_set bytes place v)) ≡ take 4096 (drop (4096 * p) bytes)
page-set_below bytes p place v far = ap (take 4096) (drop-set-lt (4096 * p) bytes place v far)

-- ---- A store of one byte

-- a page beside the byte stays
page-set_other : (bytes : List ℕ) (p place v : ℕ) (b : Bool) → (nat_lt place (4096 * p) ≡ b) → (p == place / 4096) ≡ false → take 4096 (drop (4096 * p) (slice_set bytes place v)) ≡ take 4096 (drop (4096 * p) bytes)
page-set_other bytes p place v true below e = page-set_below bytes p place v (grind (arith, nat_tests))
page-set_other bytes p place v false below e = page-set_above bytes p place v (grind (arith, nat_tests))

stored-in : (bytes : ℕ → List ℕ) (flat : Flat) (q place v : ℕ) (b : Bool) → (q == place / 4096) ≡ b → bytes q ≡ page_bytes flat q → (if b then slice_set (bytes (place / 4096)) (place % 4096) v else bytes q) ≡ take 4096 (drop (4096 * q) (slice_set flat.bytes place v))
stored-in bytes flat q place v true e s =
    let here : q ≡ place / 4096 = grind (arith, nat_tests) in
    ap (λ n. slice_set (bytes n) (place % 4096) v) (sym here)
    ∙ ap (λ xs. slice_set xs (place % 4096) v) (s ∙ ap (page_bytes flat) here)
    ∙ sym (page-set_same flat.bytes place v)
    ∙ ap (λ n. take 4096 (drop (4096 * n) (slice_set flat.bytes place v))) (sym here)
stored-in bytes flat q place v false e s = s ∙ sym (page-set_other flat.bytes q place v (nat_lt place (4096 * q)) refl e)

-- the pages show the flat state with that byte
pub stored : (layout : Layout) (holds : ℕ → Bool) (bytes : ℕ → List ℕ) (flat : Flat) (place v : ℕ) → Shows layout holds bytes flat → Shows layout holds (with_page bytes (place / 4096) (slice_set (bytes (place / 4096)) (place % 4096) v)) (record flat { bytes = slice_set flat.bytes place v })
stored layout holds bytes flat place v shows = λ q inside held. stored-in bytes flat q place v (q == place / 4096) refl (shows q inside held)

-- ---- More bytes

-- a flat state has the bytes of each page that shows it
pub long_enough : (layout : Layout) (holds : ℕ → Bool) (bytes : ℕ → List ℕ) (flat : Flat) (p : ℕ) → Shows layout holds bytes flat → length (bytes p) ≡ 4096 → p < pages layout → holds p ≡ true → 4096 * p + 4096 ≤ length flat.bytes
long_enough layout holds bytes flat p shows whole inside held =
    let page : min 4096 (length flat.bytes - 4096 * p) ≡ 4096 =
    sym (length-take 4096 (drop (4096 * p) flat.bytes) ∙ ap (min 4096) (length-drop (4096 * p) flat.bytes)) ∙ sym (ap length (shows p inside held)) ∙ whole in
    omega arith

-- one more byte was stored
pub stored_more : (layout : Layout) (holds : ℕ → Bool) (bytes : ℕ → List ℕ) (flat : Flat) (place : ℕ) (new : List ℕ) (i v : ℕ) → Shows layout holds bytes (record flat { bytes = paste flat.bytes place new i }) → v ≡ get_or new i 0 → i < length new → place + i < length flat.bytes → Shows layout holds (with_page bytes ((place + i) / 4096) (slice_set (bytes ((place + i) / 4096)) ((place + i) % 4096) v)) (record flat { bytes = paste flat.bytes place new (i + 1) })
stored_more layout holds bytes flat place new i v shows e within room =
    let next : slice_set (paste flat.bytes place new i) (place + i) v ≡ paste flat.bytes place new (i + 1) =
    ap (slice_set (paste flat.bytes place new i) (place + i)) e ∙ paste_more flat.bytes place new i 0 room within in
    subst (λ xs. Shows layout holds (with_page bytes ((place + i) / 4096) (slice_set (bytes ((place + i) / 4096)) ((place + i) % 4096) v)) (record flat { bytes = xs })) next
    (stored layout holds bytes (record flat { bytes = paste flat.bytes place new i }) (place + i) v shows)

-- all were stored
pub stored_all : (layout : Layout) (holds : ℕ → Bool) (bytes : ℕ → List ℕ) (flat : Flat) (place : ℕ) (new : List ℕ) → Shows layout holds bytes (record flat { bytes = paste flat.bytes place new (length new) }) → Shows layout holds bytes (record flat { bytes = overwrite flat.bytes place new })
stored_all layout holds bytes flat place new shows =
    subst (λ xs. Shows layout holds bytes (record flat { bytes = xs })) (paste_all flat.bytes place new (length new) refl) shows

-- the same pages are held and have the same bytes
pub shows_same : (layout : Layout) (holds_old holds : ℕ → Bool) (bytes_old bytes : ℕ → List ℕ) (flat : Flat) → holds ≡ holds_old → bytes ≡ bytes_old → Shows layout holds_old bytes_old flat → Shows layout holds bytes flat
shows_same layout holds_old holds bytes_old bytes flat h b shows = λ p inside held. ap (λ f. f p) b ∙ shows p inside (ap (λ f. f p) (sym h) ∙ held)

-- ---- Bytes that were loaded

-- the last of them is in the flat state
reaches-end : (layout : Layout) (holds : ℕ → Bool) (bytes : ℕ → List ℕ) (flat : Flat) (place n : ℕ) → Shows layout holds bytes flat → ((p : ℕ) → length (bytes p) ≡ 4096) → place + suc n ≤ 4096 * pages layout → holds ((place + n) / 4096) ≡ true → place + suc n ≤ length flat.bytes
reaches-end layout holds bytes flat place n shows whole room held =
    let long = long_enough layout holds bytes flat ((place + n) / 4096) shows (whole ((place + n) / 4096)) (omega arith) held in
    omega arith

length-at : (place n : ℕ) (bytes : List ℕ) → place + n ≤ length bytes → length (take n (drop place bytes)) ≡ n
length-at place n bytes room = length-take-le n (drop place bytes) (omega (arith, length-drop place bytes))

-- a byte of the operand is one of the flat state's
same-byte : (layout : Layout) (holds : ℕ → Bool) (bytes : ℕ → List ℕ) (flat : Flat) (place n k : ℕ) → Shows layout holds bytes flat → place + n ≤ 4096 * pages layout → k < n → holds ((place + k) / 4096) ≡ true → get_or (bytes ((place + k) / 4096)) ((place + k) % 4096) 0 ≡ get_or (take n (drop place flat.bytes)) k 0
same-byte layout holds bytes flat place n k shows room below held =
    let p = (place + k) / 4096 in
    ap (λ xs. get_or xs ((place + k) % 4096) 0) (shows p (omega arith) held)
    ∙ get_or-page flat.bytes (place + k)
    ∙ sym (get_or-drop place flat.bytes k 0)
    ∙ sym (get_or-take n (drop place flat.bytes) k 0 below)

-- they are those of the flat state
pub loaded : (layout : Layout) (holds : ℕ → Bool) (bytes : ℕ → List ℕ) (flat : Flat) (place : ℕ) (into : List ℕ) → Shows layout holds bytes flat → ((p : ℕ) → length (bytes p) ≡ 4096) → place + length into ≤ 4096 * pages layout → ((k : ℕ) → k < length into → holds ((place + k) / 4096) ≡ true) → ((k : ℕ) → k < length into → get_or into k 0 ≡ get_or (bytes ((place + k) / 4096)) ((place + k) % 4096) 0) → into ≡ take (length into) (drop place flat.bytes)
loaded layout holds bytes flat place [] shows whole room held each = refl
loaded layout holds bytes flat place (x ∷ into) shows whole room held each =
    let n = suc (length into) in
    let size = length-at place n flat.bytes (reaches-end layout holds bytes flat place (length into) shows whole room (held (length into) (omega arith))) in
    ext_get_or 0 (x ∷ into) (take n (drop place flat.bytes)) (sym size)
    (λ k below. each k below ∙ same-byte layout holds bytes flat place n k shows room below (held k below))
