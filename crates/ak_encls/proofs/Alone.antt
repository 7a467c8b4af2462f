-- Tracking while nobody has entered: each cycle is over at once.
use Rattle.std.proofs.Common.{◌≡◌, ℕ, zero, suc, ◌+◌, Bool, true, false, ◌==◌, [], ◌∷◌, length, replicate, refl, ap, ◌∙◌}
use Rattle.std.specs.Prelude.{not, filter, cond}
use Rattle.std.specs.List.{range_with_len}
use Rattle.ak_model.specs.Paging.Tracking.{last_is_over}
use Rattle.ak_track.specs.Steps.{Cycled, inside_by, cycles_by, incomplete_by}

pub nobody : (n lp : ℕ) → inside_by (replicate n Cycled) lp ≡ false
nobody zero lp = refl
nobody (suc n) lp = nobody n lp

none_filtered : (p : ℕ → Bool) (a n : ℕ) → ((x : ℕ) → p x ≡ false) → filter p (range_with_len a n) ≡ []
none_filtered p a zero none = refl
none_filtered p a (suc n) none =
    ap (λ b. cond b (a ∷ filter p (range_with_len (a + 1) n)) (filter p (range_with_len (a + 1) n))) (none a) ∙ none_filtered p (a + 1) n none

all_over : (lps n : ℕ) → last_is_over (cycles_by lps (replicate n Cycled)) ≡ true
all_over lps zero = refl
all_over lps (suc n) = ap (λ xs. length xs == 0) (none_filtered (inside_by (replicate n Cycled)) 0 lps (nobody n))

pub complete_alone : (lps n : ℕ) → incomplete_by lps (replicate n Cycled) ≡ false
complete_alone lps n = ap not (all_over lps n)
