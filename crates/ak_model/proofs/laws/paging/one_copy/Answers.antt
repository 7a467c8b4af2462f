use Rattle.std.proofs.Common.{◌≡◌, ℕ, ◌<◌, arith}
use Rattle.std.specs.Prelude.{Bool, true, false, ◌&&◌, not, nat_lt}
use Rattle.std.proofs.lemmas.Bool.Decides.{nat_tests}
use Rattle.ak_model.proofs.Paging.OneCopy.{one_copy}
use Rattle.ak_model.proofs.laws.paging.one_copy.Goals as goal

-- a handle that was given and not discarded is live
given_and_kept : {k n : ℕ} → {b : Bool} → k < n → b ≡ false → (nat_lt k n && not b) ≡ true
given_and_kept l e = grind (arith, nat_tests, l, e)

pub returns : goal.returns
returns c = record {
  framed = λ layout tape moves p f. let copies = one_copy layout tape moves in (copies.framed p f, copies.placed p f);
  sealed = λ layout tape moves p k h. (one_copy layout tape moves).named p k h;
  live = λ layout tape moves p k h. let copies = one_copy layout tape moves in given_and_kept (copies.known p k h) (copies.kept p k h);
  given = λ layout tape moves va i k h. (one_copy layout tape moves).slotted va i k h;
  newest = λ layout tape moves va i k h d. (one_copy layout tape moves).newest va i k h d;
  one_slot = λ layout tape moves va i va' i' k h h'. let copies = one_copy layout tape moves in (copies.same_va va i va' i' k h h', copies.same_slot va i va' i' k h h');
}
