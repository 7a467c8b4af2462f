-- A missed cluster that is served.
use Rattle.std.proofs.Common.{◌≡◌, ℕ, zero, suc, ◌<◌, Bool, true, false, List, [], ◌∷◌, drop, refl, ap, ◌∙◌, arith}
use Rattle.std.proofs.lemmas.Bool.Decides.{nat_tests}
use Rattle.std.specs.Prelude.{◌==◌, ◌||◌, ◌&&◌, not, nat_lt}
use Rattle.ak_core.specs.Layout.{Layout}
use Rattle.ak_model.specs.Clusters.Queue.{after_miss, is_in}

-- where one of the two holds neither alone, the second does not
second_false : (a b : Bool) → (a || b) ≡ false → b ≡ false
second_false false b h = h
second_false true b h = cc

-- what is out is out of what is left of the queue
pub out_of_rest : (queue : List ℕ) (d c : ℕ) → is_in queue c ≡ false → is_in (drop d queue) c ≡ false
out_of_rest [] zero c h = h
out_of_rest [] (suc d) c h = h
out_of_rest (x ∷ queue) zero c h = h
out_of_rest (x ∷ queue) (suc d) c h = out_of_rest queue d c (second_false (x == c) (is_in queue c) h)

-- what passes this test may be served
passes : (in_range inside : Bool) → in_range ≡ true → inside ≡ false → (in_range && not inside) ≡ true
passes true false _ _ = refl
passes true true _ h = cc
passes false inside h _ = cc

-- a cluster that is out is not passed over
pub not_passed : (layout : Layout) (queue rest : List ℕ) (c d : ℕ) → rest ≡ drop d queue → (nat_lt c 512 && not (is_in rest c)) ≡ false → c < 512 → is_in queue c ≡ false →
    rest ≡ after_miss layout queue c
not_passed layout queue rest c d dropped passed low out =
    let known : nat_lt c 512 ≡ true = grind (arith, nat_tests) in
    let out_still : is_in rest c ≡ false = ap (λ q. is_in q c) dropped ∙ out_of_rest queue d c out in
    let served = passes (nat_lt c 512) (is_in rest c) known out_still in
    cc
