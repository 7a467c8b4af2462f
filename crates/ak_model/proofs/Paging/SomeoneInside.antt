-- Who is inside after a move, and what an answer to entering says of it.
use Rattle.std.proofs.Common.{◌≡◌, ℕ, ◌+◌, ◌<◌, List, [], ◌∷◌, length, arith, refl, sym, subst}
use Rattle.std.specs.Prelude.{Bool, true, false, not, ◌&&◌, if◌then◌else◌, is_some, nat_lt, ◌==◌}
use Rattle.std.specs.List.{list_any}
use Rattle.std.proofs.lemmas.Bool.{or_parts, or_from, eq-eqb, eqb-true, ltb-true, not-false}
use Rattle.ak_core.specs.Layout.{Layout}
use Rattle.ak_core.specs.declared.moves.Answer.{Answer}
use Rattle.ak_core.specs.declared.moves.Answer.TheVariants.{Ok, NoLp, Inside, TcsFault, Busy}
use Rattle.ak_model.specs.Paging.Histories.{History, Enters, Resumes}
use Rattle.ak_model.specs.Paging.Inside.{since, since_after, inside, processors, someone_inside, another_inside}
use Rattle.ak_model.specs.Paging.Walk.{tcs_walkable}
use Rattle.ak_model.specs.Control.Answers.{if_outside}
use Rattle.ak_model.proofs.Paging.Tests.{any_in_range}
use Rattle.ak_model.proofs.Paging.Readings.{reading, someone_then}

-- the answer is none of the first check's, so that check did not hold
pub other : (b : Bool) (x y z : Answer) → (x ≡ z → ⊥) → (if b then x else y) ≡ z → (b ≡ false) × (y ≡ z)
other true x y z ne h = absurd (ne h)
other false x y z ne h = (refl, h)

module _ (layout : Layout) where
  pub entered_someone : (past : History) (lp v : ℕ) → lp < layout.lps → someone_then layout past (reading (Enters lp v)) ≡ true
  entered_someone past lp v h =
      let same : (lp == lp) ≡ true = eq-eqb lp lp refl in
      any_in_range (λ q. is_some (since_after (Enters lp v) q (length past + 1) (since past q))) layout.lps 0 lp (omega arith) (omega arith) (rw same refl)

  pub resumed_someone : (past : History) (lp : ℕ) → lp < layout.lps → someone_then layout past (reading (Resumes lp)) ≡ true
  resumed_someone past lp h =
      let same : (lp == lp) ≡ true = eq-eqb lp lp refl in
      any_in_range (λ q. is_some (since_after (Resumes lp) q (length past + 1) (since past q))) layout.lps 0 lp (omega arith) (omega arith) (rw same refl)

  -- a processor of the layout that is inside is somebody
  pub is_someone : (past : History) (lp : ℕ) → lp < layout.lps → inside past lp ≡ true → someone_inside layout past ≡ true
  is_someone past lp low h = any_in_range (inside past) layout.lps 0 lp (omega arith) (omega arith) h

  -- ---- Who is inside where entering is answered Ok

  not_there : (past : History) (lp q : ℕ) (same : Bool) → (q == lp) ≡ same → inside past lp ≡ false → (inside past q && not same) ≡ false → inside past q ≡ false
  not_there past lp q true e out h = subst (λ x. inside past x ≡ false) (sym (eqb-true q lp e)) out
  not_there past lp q false e out h = and_true (inside past q) h
    where
      and_true : (b : Bool) → (b && true) ≡ false → b ≡ false
      and_true true h = absurd (cc)
      and_true false h = refl

  none_of : (past : History) (lp : ℕ) (all : List ℕ) → inside past lp ≡ false → list_any (λ q. inside past q && not (q == lp)) all ≡ false → list_any (inside past) all ≡ false
  none_of past lp [] out h = refl
  none_of past lp (q ∷ all) out h =
      let parts = or_parts (inside past q && not (q == lp)) (list_any (λ x. inside past x && not (x == lp)) all) h in
      or_from (inside past q) (list_any (inside past) all) (not_there past lp q (q == lp) refl out parts.0) (none_of past lp all out parts.1)

  -- the processor is one of the layout, and nobody is inside
  pub outside_ok : (past : History) (lp : ℕ) (a : Answer) → if_outside layout past lp a ≡ Ok → (lp < layout.lps) × (someone_inside layout past ≡ false) × (a ≡ Ok)
  outside_ok past lp a h =
      let w = other (not (nat_lt lp layout.lps)) NoLp _ Ok (λ e. cc) h in
      let x = other (inside past lp) Inside _ Ok (λ e. cc) w.1 in
      let y = other (not (tcs_walkable layout past)) TcsFault _ Ok (λ e. cc) x.1 in
      let z = other (another_inside layout past lp) Busy _ Ok (λ e. cc) y.1 in
      (ltb-true lp layout.lps (not-false (nat_lt lp layout.lps) w.0), none_of past lp (processors layout) x.0 z.0, z.1)
