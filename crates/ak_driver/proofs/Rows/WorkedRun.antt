-- A whole run of the honest kernel, over five clusters of one page with room for four: the laws speak of it, and between its last
-- request and the run that follows stand just as many moves as they allow.
use Rattle.std.proofs.Common.{◌≡◌, ℕ, zero, suc, ◌+◌, ◌*◌, List, [], ◌∷◌, ◌++◌, length, arith, refl}
use Rattle.std.specs.Prelude.{true, Option, Some, None, drop}
use Rattle.ak_core.specs.Layout.{Layout, IsValid, enclave_size}
use Rattle.ak_core.specs.declared.event.Event.{Event}
use Rattle.ak_core.specs.declared.event.Event.TheVariants.{Call, Miss}
use Rattle.ak_core.specs.declared.moves.Exit.{Exit}
use Rattle.ak_core.specs.declared.moves.Answer.{Answer}
use Rattle.ak_core.specs.declared.moves.Move.{Move}
use Rattle.ak_core.specs.declared.moves.Move.TheVariants.{Etrack}
use Rattle.ak_model.specs.Control.Trace.{trace}
use Rattle.ak_model.specs.Kernels.HonestKernel.{drive, IsDriven}
use Rattle.ak_model.proofs.Rows.Samples.{image_j, none, pxad, setpte, eblock, ewb, eldu, eenter, run}
use Rattle.ak_model.proofs.Rows.HonestKernel.{with_next, auto}
use Rattle.ak_driver.specs.EndingExits.{last_is_result}
use Rattle.ak_driver.specs.HonestRuns.{IsHonestRun}
use Rattle.ak_driver.specs.Requests.{IsAsked, answer_after, pages_dropped, pages_fetched}

-- the moves that the kernel gives are driven
auto_driven : (layout : Layout) (tape : List Event) (inputs : List ℕ) (n : ℕ) (moves : List Move) → IsDriven layout tape inputs moves → IsDriven layout tape inputs (auto layout tape inputs n moves)
auto_driven layout tape inputs zero moves h = h
auto_driven layout tape inputs (suc n) moves h = by (drive layout (trace layout tape moves).past inputs) refl (λ m e. auto_driven layout tape inputs n (m ∷ moves) (e, h))
  where
    by : (o : Option Move) → drive layout (trace layout tape moves).past inputs ≡ o → ((m : Move) → drive layout (trace layout tape moves).past inputs ≡ Some m → IsDriven layout tape inputs (auto layout tape inputs n (m ∷ moves)))
        → IsDriven layout tape inputs (with_next o moves (auto layout tape inputs n))
    by None e next = h
    by (Some m) e next = next m e

valid_j : IsValid image_j
unfolding enclave_size
valid_j = record {
  clustered = refl;
  numbered = refl;
  some_page = omega arith;
  few_pages = omega arith;
  aligned = refl;
  low = omega arith;
  entered = omega arith;
  large_budget = omega arith;
  small_budget = omega arith;
  some_frames = omega arith;
  few_frames = omega arith;
  some_lp = omega arith;
  few_lps = omega arith;
}

abbrev tape_j : List Event
tape_j = Miss 0 0 ∷ Miss 1 1 ∷ Miss 2 2 ∷ Miss 3 3 ∷ Miss 4 4 ∷ Call 5 0 0 ∷ []

all_moves : List Move
all_moves = auto image_j tape_j [] 60 []

-- the laws speak of the run
honest_run : IsHonestRun image_j tape_j [] all_moves
unfolding all_moves
honest_run = record {
  valid = valid_j;
  roomy = record { room = omega arith };
  misses = (omega arith, refl, (omega arith, refl, (omega arith, refl, (omega arith, refl, (omega arith, refl, tt)))));
  unbroken = refl;
  driven = auto_driven image_j tape_j [] 60 [] tt;
}

-- it comes to its end
ended : last_is_result (trace image_j tape_j all_moves).past ≡ true
unfolding all_moves
ended = refl

-- the last request, the moves before it, and those since it up to the run that follows
before_ask : List Move
before_ask = drop 11 all_moves

abbrev since_ask : List Move
since_ask = eenter 0 0 ∷ setpte 4 8 pxad ∷ eldu 8 4 4 1 4 ∷ ewb 8 1 0 ∷ Etrack ∷ eblock 8 ∷ setpte 0 0 none ∷ []

last_request : drop 2 all_moves ≡ run 0 1000 ∷ since_ask ++ run 0 1000 ∷ before_ask
unfolding all_moves before_ask
last_request = refl

asked : IsAsked image_j tape_j before_ask (run 0 1000) since_ask 1 4
unfolding all_moves before_ask
asked = record { asked = refl; without_run = refl }

bound_met : length since_ask ≡ 3 * pages_dropped image_j tape_j before_ask 1 + 2 * pages_fetched image_j 4 + 2
unfolding all_moves before_ask
bound_met = refl

answered : answer_after image_j tape_j (since_ask ++ run 0 1000 ∷ before_ask) (run 0 1000) ≡ Answer.Exit Exit.Ready
unfolding all_moves before_ask
answered = refl
