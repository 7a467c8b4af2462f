-- Bytes that are stored in one page.
use Rattle.std.proofs.Common.{◌≡◌, ℕ, zero, suc, ◌+◌, ◌/◌, ◌%◌, ◌≤◌, Bool, true, false, List, length, get_or, refl, ap, sym, ◌∙◌, subst, arith}
use Rattle.std.specs.Prelude.{◌==◌, if◌then◌else◌, slice_set}
use Rattle.std.proofs.lemmas.Bool.{eqb-true, eq-eqb}
use Rattle.std.proofs.lemmas.List.Edits.{paste_none, paste_more, paste_all}
use lib.Seq.{paste}
use Rattle.ak_core.specs.Layout.{Layout}
use Rattle.ak_core.specs.Mem.{with_page, put_at}
use Rattle.ak_model.specs.Flat.FlatRuns.{Flat, page_bytes, overwrite}
use Rattle.ak_exec.specs.Turns.{Shows}
use Rattle.ak_exec.proofs.Paged.{stored_more}

unchanged : (bytes : ℕ → List ℕ) (q p : ℕ) (content : List ℕ) (b : Bool) → (q == p) ≡ b → content ≡ bytes p → (if b then content else bytes q) ≡ bytes q
unchanged bytes q p content true e same = same ∙ ap bytes (sym (eqb-true q p e))
unchanged bytes q p content false e same = refl

collapse : (b : Bool) (first second content rest : List ℕ) → second ≡ content → (if b then second else (if b then first else rest)) ≡ (if b then content else rest)
collapse true first second content rest same = same
collapse false first second content rest same = refl

-- the first n of them were stored
stored_first : (layout : Layout) (holds : ℕ → Bool) (bytes : ℕ → List ℕ) (flat : Flat) (place : ℕ) (new : List ℕ) (n : ℕ) → n ≤ length new →
    place % 4096 + length new ≤ 4096 → length (bytes (place / 4096)) ≡ 4096 → place + length new ≤ length flat.bytes → Shows layout holds bytes flat →
    Shows layout holds (with_page bytes (place / 4096) (paste (bytes (place / 4096)) (place % 4096) new n)) (record flat { bytes = paste flat.bytes place new n })
stored_first layout holds bytes flat place new zero le inside size room shows = λ q low held.
    unchanged bytes q (place / 4096) (paste (bytes (place / 4096)) (place % 4096) new zero) (q == place / 4096) refl (sym (paste_none (bytes (place / 4096)) (place % 4096) new))
    ∙ shows q low held
    ∙ ap (λ xs. page_bytes (record flat { bytes = xs }) q) (paste_none flat.bytes place new)
stored_first layout holds bytes flat place new (suc n) le inside size room shows =
    let p = place / 4096 in
    let off = place % 4096 in
    let v = get_or new n 0 in
    let mid : ℕ → List ℕ = with_page bytes p (paste (bytes p) off new n) in
    let before : Shows layout holds mid (record flat { bytes = paste flat.bytes place new n }) =
    stored_first layout holds bytes flat place new n (omega arith) inside size room shows in
    let one = stored_more layout holds mid flat place new n v before refl (omega arith) (omega arith) in
    let e : n + 1 ≡ suc n = omega arith in
    let page : (place + n) / 4096 ≡ p = omega arith in
    let at : (place + n) % 4096 ≡ off + n = omega arith in
    let here : mid p ≡ paste (bytes p) off new n = ap (λ (b : Bool). if b then paste (bytes p) off new n else bytes p) (eq-eqb p p refl) in
    let content : slice_set (mid ((place + n) / 4096)) ((place + n) % 4096) v ≡ paste (bytes p) off new (suc n) =
    ap (λ (k : ℕ). slice_set (mid k) ((place + n) % 4096) v) page
    ∙ ap (λ (i : ℕ). slice_set (mid p) i v) at
    ∙ ap (λ xs. slice_set xs (off + n) v) here
    ∙ paste_more (bytes p) off new n 0 (omega (arith, size)) (omega arith)
    ∙ ap (paste (bytes p) off new) e in
    λ q low held.
    sym (ap (λ (k : ℕ). if q == k then slice_set (mid ((place + n) / 4096)) ((place + n) % 4096) v else mid q) page
    ∙ collapse (q == p) (paste (bytes p) off new n) (slice_set (mid ((place + n) / 4096)) ((place + n) % 4096) v) (paste (bytes p) off new (suc n)) (bytes q) content)
    ∙ one q low held
    ∙ ap (λ (k : ℕ). page_bytes (record flat { bytes = paste flat.bytes place new k }) q) e

-- all of them were stored
pub stored_within : (layout : Layout) (holds : ℕ → Bool) (bytes : ℕ → List ℕ) (flat : Flat) (place : ℕ) (new : List ℕ) →
    place % 4096 + length new ≤ 4096 → length (bytes (place / 4096)) ≡ 4096 → place + length new ≤ length flat.bytes → Shows layout holds bytes flat →
    Shows layout holds (with_page bytes (place / 4096) (put_at (bytes (place / 4096)) (place % 4096) new)) (record flat { bytes = overwrite flat.bytes place new })
stored_within layout holds bytes flat place new inside size room shows =
    let P : List ℕ → Type 0 = λ xs. Shows layout holds (with_page bytes (place / 4096) xs) (record flat { bytes = overwrite flat.bytes place new }) in
    let Q : List ℕ → Type 0 = λ xs. Shows layout holds (with_page bytes (place / 4096) (paste (bytes (place / 4096)) (place % 4096) new (length new))) (record flat { bytes = xs }) in
    subst P (paste_all (bytes (place / 4096)) (place % 4096) new (length new) refl)
    (subst Q (paste_all flat.bytes place new (length new) refl)
    (stored_first layout holds bytes flat place new (length new) (omega arith) inside size room shows))
