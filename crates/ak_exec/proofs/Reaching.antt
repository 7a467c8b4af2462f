-- The pages of an operand, touched in order.
use Rattle.std.proofs.Common.{◌≡◌, ℕ, List, [], ◌∷◌, ◌++◌, ap, sym, ◌∙◌}
use Rattle.std.specs.Prelude.{Bool, true, false, ◌==◌, if◌then◌else◌}
use Rattle.ak_core.specs.Mem.{Access, access_to}
use Rattle.ak_core.specs.declared.page.Fault.{Fault}
use Rattle.ak_core.specs.declared.page.Kind.{Kind}
use Rattle.ak_exec.specs.Accessed.{Stops}

-- the first of two lists of accesses is left of the first access
rest-of : (b : Bool) (before after : List Access) (t u : Access) → after ≡ before → (rest : List Access) × (before ++ (if b then t ∷ [] else t ∷ u ∷ []) ≡ after ++ t ∷ rest)
rest-of true before after t u e = ([], ap (λ ts. ts ++ t ∷ []) (sym e))
rest-of false before after t u e = (u ∷ [], ap (λ ts. ts ++ t ∷ u ∷ []) (sym e))

-- the first access was refused
pub first_stops : (p q : ℕ) (kind : Kind) (fault : Fault) (before after : List Access) → fault ≡ access_to p kind → after ≡ before → Stops p q kind fault before after
first_stops p q kind fault before after f e =
    let r = rest-of (p == q) before after (access_to p kind) (access_to q kind) e in
    record { rest = r.0; next = r.1 ∙ ap (λ t. after ++ t ∷ r.0) (sym f) }
