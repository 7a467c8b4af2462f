-- Pages that were not touched for writing.
use Rattle.std.proofs.Common.{◌≡◌, ℕ, List, Bool, true, false, refl, ap, sym, ◌∙◌}
use Rattle.std.specs.Prelude.{◌==◌, if◌then◌else◌}
use Rattle.std.proofs.lemmas.Bool.{eqb-true}
use Rattle.ak_core.specs.Mem.{Access, is_writable, with_page}
use Rattle.ak_exec.specs.Turns.{KeepsUnwritten}

beside : (granted : List Access) (bytes : ℕ → List ℕ) (q : ℕ) (content : List ℕ) (p : ℕ) (b : Bool) → (p == q) ≡ b → is_writable granted q ≡ true → is_writable granted p ≡ false →
    (if b then content else bytes p) ≡ bytes p
beside granted bytes q content p true e writable unwritten =
    let no : false ≡ true = sym unwritten ∙ ap (is_writable granted) (eqb-true p q e) ∙ writable in cc
beside granted bytes q content p false e writable unwritten = refl

-- they keep their bytes where a page that was is written
pub unwritten_more : (granted : List Access) (old bytes new : ℕ → List ℕ) (q : ℕ) (content : List ℕ) → is_writable granted q ≡ true → new ≡ with_page bytes q content →
    KeepsUnwritten granted old bytes → KeepsUnwritten granted old new
unwritten_more granted old bytes new q content writable is keeps p unwritten =
    ap (λ f. f p) is ∙ beside granted bytes q content p (p == q) refl writable unwritten ∙ keeps p unwritten
