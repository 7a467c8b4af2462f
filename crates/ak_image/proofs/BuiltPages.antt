-- The bytes of each kind of page, for what stands above.
use Rattle.std.proofs.Common.{◌≡◌, ℕ, ◌+◌, ◌<◌, ◌==◌, nat_lt, true, false, arith}
use Rattle.std.proofs.lemmas.Bool.Decides.{nat_tests}
use Rattle.ak_measure.specs.Blocks.{zeros}
use Rattle.ak_image.specs.Built.{program_page, tcs_page, code_page, page_bytes, pages_of}
use Rattle.ak_image.specs.Image.{Image}

pub page_bytes-program : (image : Image) (p : ℕ) → p < pages_of image → page_bytes image p ≡ program_page image p
unfolding page_bytes
page_bytes-program image p within = let t : nat_lt p (pages_of image) ≡ true = grind (arith, nat_tests) in rw t

pub page_bytes-tcs : (image : Image) (p : ℕ) → p ≡ pages_of image → page_bytes image p ≡ tcs_page (pages_of image)
unfolding page_bytes
page_bytes-tcs image p at =
    let f : nat_lt p (pages_of image) ≡ false = grind (arith, nat_tests) in
    let t : (p == pages_of image) ≡ true = grind (arith, nat_tests) in
    rw (f, t)

pub page_bytes-zeros : (image : Image) (p : ℕ) → pages_of image < p → p < pages_of image + 5 → page_bytes image p ≡ zeros 4096
unfolding page_bytes
page_bytes-zeros image p above below =
    let f : nat_lt p (pages_of image) ≡ false = grind (arith, nat_tests) in
    let g : (p == pages_of image) ≡ false = grind (arith, nat_tests) in
    let t : nat_lt p (pages_of image + 5) ≡ true = grind (arith, nat_tests) in
    rw (f, g, t)

pub page_bytes-code : (image : Image) (p : ℕ) → p ≡ pages_of image + 5 → page_bytes image p ≡ code_page image.cluster_of image.perms image.budget image.entry
unfolding page_bytes
page_bytes-code image p at =
    let f : nat_lt p (pages_of image) ≡ false = grind (arith, nat_tests) in
    let g : (p == pages_of image) ≡ false = grind (arith, nat_tests) in
    let h : nat_lt p (pages_of image + 5) ≡ false = grind (arith, nat_tests) in
    rw (f, g, h)
