-- The blamed move: an access was walkable before it, and has not been since.
use Rattle.std.proofs.Common.{◌≡◌, ℕ, zero, suc, ◌+◌, ◌≤◌, [], ◌∷◌, length, drop, arith, refl, subst, length-drop}
use Rattle.std.specs.Prelude.{Bool, true, false, if◌then◌else◌}
use Rattle.ak_core.specs.Layout.{Layout}
use Rattle.ak_core.specs.declared.page.Fault.{Fault}
use Rattle.ak_model.specs.Paging.Histories.{History, Pair}
use Rattle.ak_model.specs.Paging.Walk.{access_walkable}
use Rattle.ak_model.specs.Stops.Blame.{lost_at}

module _ (layout : Layout) (t : Fault) where
  -- the newest pair, by whether the access was walkable before it
  lost_tests : (pair : Pair) (past : History) (before : Bool) → access_walkable layout past t ≡ before → access_walkable layout (pair ∷ past) t ≡ false → lost_at layout (pair ∷ past) t ≡ (if before then length past + 1 else lost_at layout past t)
  lost_tests pair past true e h = rw (e, h) refl
  lost_tests pair past false e h = rw e refl

  -- the older history, by whether the access was walkable there
  older_lost : (pair : Pair) (past : History) (d : ℕ) (before : Bool) → access_walkable layout past t ≡ before → access_walkable layout (pair ∷ past) t ≡ false → lost_at layout (pair ∷ past) t ≤ length (drop d past) → (access_walkable layout past t ≡ false → lost_at layout past t ≤ length (drop d past) → access_walkable layout (drop d past) t ≡ false) → access_walkable layout (drop d past) t ≡ false
  older_lost pair past d true e h le earlier =
      let at : lost_at layout (pair ∷ past) t ≡ length past + 1 = lost_tests pair past true e h in
      let short = length-drop d past in
      absurd (omega arith)
  older_lost pair past d false e h le earlier =
      let at : lost_at layout (pair ∷ past) t ≡ lost_at layout past t = lost_tests pair past false e h in
      earlier e (subst (λ n. n ≤ length (drop d past)) at le)

  -- from the blamed place on the access is not walkable
  pub lost_since : (past : History) → access_walkable layout past t ≡ false → (d : ℕ) → lost_at layout past t ≤ length (drop d past) → access_walkable layout (drop d past) t ≡ false
  lost_since [] h zero le = h
  lost_since [] h (suc d) le = h
  lost_since (pair ∷ past) h zero le = h
  lost_since (pair ∷ past) h (suc d) le =
      older_lost pair past d (access_walkable layout past t) refl h le (λ k l. lost_since past k d l)

  -- where the access was walkable at some moment, a move is to blame
  older_some : (pair : Pair) (past : History) (before : Bool) → access_walkable layout past t ≡ before → access_walkable layout (pair ∷ past) t ≡ false → (access_walkable layout past t ≡ false → 1 ≤ lost_at layout past t) → 1 ≤ lost_at layout (pair ∷ past) t
  older_some pair past true e h earlier =
      let at : lost_at layout (pair ∷ past) t ≡ length past + 1 = lost_tests pair past true e h in omega arith
  older_some pair past false e h earlier =
      let at : lost_at layout (pair ∷ past) t ≡ lost_at layout past t = lost_tests pair past false e h in
      let some = earlier e in omega arith

  pub lost_some : (past : History) → access_walkable layout past t ≡ false → (d : ℕ) → access_walkable layout (drop d past) t ≡ true → 1 ≤ lost_at layout past t
  lost_some [] h zero w = absurd (cc)
  lost_some [] h (suc d) w = absurd (cc)
  lost_some (pair ∷ past) h zero w = absurd (cc)
  lost_some (pair ∷ past) h (suc d) w =
      older_some pair past (access_walkable layout past t) refl h (λ k. lost_some past k d w)
