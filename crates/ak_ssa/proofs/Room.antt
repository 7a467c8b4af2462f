-- The addresses of a valid layout's enclave have 64 bits.
use Rattle.std.proofs.Common.{◌≡◌, ℕ, zero, suc, ◌+◌, ◌*◌, ◌^◌, ◌≤◌, length, arith, refl}
use Rattle.std.proofs.lemmas.Bool.{leb-true}
use Rattle.std.proofs.Math.Nat.{pow-suc, mul_assoc}
use Rattle.std.specs.Prelude.{Bool, true, false, if◌then◌else◌, nat_le}
use Rattle.ak_core.specs.Layout.{Layout, IsValid, doubled_to, enclave_size}
use Rattle.ak_ssa.specs.FramesFit.{HasRoom}

-- the doubled size is large enough, where so many doublings are
large : (n size least : ℕ) → least ≤ 2 ^ n * size → least ≤ doubled_to n size least
large zero size least h = omega arith
large (suc n) size least h = by (nat_le least size) refl (large n (2 * size) least (let e : 2 ^ suc n * size ≡ 2 ^ n * (2 * size) = power n size in omega arith))
  where
    power : (n size : ℕ) → 2 ^ suc n * size ≡ 2 ^ n * (2 * size)
    power n size = rw pow-suc (mul_assoc (2 ^ n) 2 size)

    by : (b : Bool) → nat_le least size ≡ b → least ≤ doubled_to n (2 * size) least → least ≤ (if b then size else doubled_to n (2 * size) least)
    by true e more = leb-true least size e
    by false e more = more

-- the enclave's addresses have 64 bits
pub room : (layout : Layout) → IsValid layout → HasRoom layout
unfolding enclave_size
room layout h =
    let few = h.few_pages in let low = h.low in
    let enough : 4096 * (length layout.perms + 6) ≤ enclave_size (length layout.perms) = large 64 1 (4096 * (length layout.perms + 6)) (omega arith) in omega arith
