-- The access at which a step faults is one that no walk finds.
use Rattle.std.proofs.Common.{◌≡◌, List, [], ◌∷◌, refl, subst}
use Rattle.std.specs.Prelude.{Bool, true, false, not, if◌then◌else◌, Option, Some}
use Rattle.ak_core.specs.Layout.{Layout}
use Rattle.ak_core.specs.Mem.{Access}
use Rattle.ak_model.specs.Paging.Histories.{History}
use Rattle.ak_model.specs.Paging.Walk.{access_walkable}
use Rattle.ak_model.specs.Control.RuntimeTurn.{first_fault}

module _ (layout : Layout) (past : History) where
  not_walkable : (b : Bool) (x t : Access) (later : Option Access) → access_walkable layout past x ≡ b → (later ≡ Some t → access_walkable layout past t ≡ false) → (if not b then Some x else later) ≡ Some t → access_walkable layout past t ≡ false
  not_walkable true x t later e go h = go h
  not_walkable false x t later e go h = let same : x ≡ t = cc in subst (λ y. access_walkable layout past y ≡ false) same e

  pub unwalkable : (all : List Access) (t : Access) → first_fault layout past all ≡ Some t → access_walkable layout past t ≡ false
  unwalkable [] t h = absurd (cc)
  unwalkable (x ∷ all) t h = not_walkable (access_walkable layout past x) x t (first_fault layout past all) refl (unwalkable all t) h
