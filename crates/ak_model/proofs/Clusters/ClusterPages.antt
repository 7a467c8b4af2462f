-- The pages of a cluster: each is a page of the program, and each page of the program is one of its cluster.
use Rattle.std.proofs.Common.{◌≡◌, ℕ, zero, suc, ◌+◌, ◌<◌, ◌≤◌, List, ◌∷◌, length, arith, refl, sym, subst}
use Rattle.std.specs.Prelude.{Bool, true, false, cond, filter, slice_index, ◌==◌}
use Rattle.std.specs.List.{range_with_len}
use Rattle.std.proofs.lemmas.Bool.{eqb-true, eqb-false, eq-eqb}
use Rattle.ak_core.specs.Layout.{Layout}
use Rattle.ak_model.specs.Paging.Pages.{pages, cluster_at, pages_of}
use Rattle.ak_model.specs.Control.ControlState.{Phase, New, Running, Calling, Asked, Ended, Trapped, Dead}
use Rattle.ak_model.specs.Control.RuntimeTurn.{asked_pages}

-- ---- What a filter keeps of a range

kept_by : (test : ℕ → Bool) (a : ℕ) (rest : List ℕ) (b : Bool) (P : ℕ → Type 0) (i : ℕ) → test a ≡ b → (test a ≡ true → P a) → ((j : ℕ) → j < length rest → P (slice_index rest j)) → i < length (cond b (a ∷ rest) rest) → P (slice_index (cond b (a ∷ rest) rest) i)
kept_by test a rest true P zero e here later l = here e
kept_by test a rest true P (suc i) e here later l = later i (omega arith)
kept_by test a rest false P i e here later l = later i l

-- each number that is kept lies in the range and passes the test
pub kept_at : (test : ℕ → Bool) (n a i : ℕ) → i < length (filter test (range_with_len a n)) → (let x = slice_index (filter test (range_with_len a n)) i in (a ≤ x) × (x < a + n) × (test x ≡ true))
kept_at test zero a i l = absurd (omega arith)
kept_at test (suc n) a i l =
    kept_by test a (filter test (range_with_len (a + 1) n)) (test a) (λ x. (a ≤ x) × (x < a + suc n) × (test x ≡ true)) i refl
    (λ e. (omega arith, omega arith, e))
    (λ j m. let h = kept_at test n (a + 1) j m in let low = h.0 in let high = h.1 in (omega arith, omega arith, h.2)) l

abbrev Stands : List ℕ → ℕ → Type 0
Stands xs x = (i : ℕ) × (i < length xs) × (slice_index xs i ≡ x)

found_by : (test : ℕ → Bool) (a x : ℕ) (rest : List ℕ) (same b : Bool) → (a == x) ≡ same → test a ≡ b → test x ≡ true → ((a ≡ x → ⊥) → Stands rest x) → Stands (cond b (a ∷ rest) rest) x
found_by test a x rest true true e t h later = (0, omega arith, eqb-true a x e)
found_by test a x rest true false e t h later = absurd (let y = subst (λ z. test z ≡ true) (sym (eqb-true a x e)) h in cc)
found_by test a x rest false true e t h later = let at = later (eqb-false a x e) in (suc at.0, (let l = at.1 in omega arith), at.2)
found_by test a x rest false false e t h later = later (eqb-false a x e)

-- each number of the range that passes the test is kept
pub found_at : (test : ℕ → Bool) (n a x : ℕ) → a ≤ x → x < a + n → test x ≡ true → Stands (filter test (range_with_len a n)) x
found_at test zero a x low high h = absurd (omega arith)
found_at test (suc n) a x low high h =
    found_by test a x (filter test (range_with_len (a + 1) n)) (a == x) (test a) refl refl h (λ ne. found_at test n (a + 1) x (omega arith) (omega arith) h)

-- ---- Clusters

module _ (layout : Layout) where
  -- a page of a cluster is a page of the program
  pub page_low : (c i : ℕ) → i < length (pages_of layout c) → slice_index (pages_of layout c) i < pages layout
  page_low c i l = let h = kept_at (λ p. cluster_at layout p == c) (pages layout) 0 i l in let high = h.1 in omega arith

  -- and its cluster is this one
  pub page_cluster : (c i : ℕ) → i < length (pages_of layout c) → cluster_at layout (slice_index (pages_of layout c) i) ≡ c
  page_cluster c i l = eqb-true _ c (kept_at (λ p. cluster_at layout p == c) (pages layout) 0 i l).2

  -- each page of the program is one of its cluster
  pub page_stands : (p : ℕ) → p < pages layout → Stands (pages_of layout (cluster_at layout p)) p
  page_stands p low = found_at (λ q. cluster_at layout q == cluster_at layout p) (pages layout) 0 p (omega arith) (omega arith) (eq-eqb (cluster_at layout p) (cluster_at layout p) refl)

  -- a page of the asked cluster is a page of the program
  pub asked_low : (phase : Phase) (i : ℕ) → i < length (asked_pages layout phase) → slice_index (asked_pages layout phase) i < pages layout
  asked_low (Asked c) i l = page_low c i l
  asked_low New i l = absurd (omega arith)
  asked_low Running i l = absurd (omega arith)
  asked_low Calling i l = absurd (omega arith)
  asked_low (Ended s) i l = absurd (omega arith)
  asked_low (Trapped x) i l = absurd (omega arith)
  asked_low Dead i l = absurd (omega arith)
