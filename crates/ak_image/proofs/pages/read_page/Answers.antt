use Rattle.std.proofs.Common.{◌≡◌, ℕ, List, take, subst, ◌-◌, ◌*◌, ◌/◌, ◌≤◌, length, replicate, drop, arith, sym, ap, ◌∙◌}
use Rattle.std.proofs.lemmas.List.{drop-replicate, take-replicate, length-replicate}
use Rattle.ak_image.proofs.Digits.{page_of-odd, page_of-long, page_of-read, Says}
use Rattle.hex.specs.Hex.{decode_sized}
use Rattle.ak_image.proofs.pages.read_page.Goals as goal
use Rattle.ak_image.proofs.pages.read_page.Goals.{then-digits-eq1-via-then-digits-eq1, then-digits-eq1-via-else-digits-eq1+then-digits}

pub returns-then-digits-eq1-clause-refused : goal.returns-then-digits-eq1-clause-refused
returns-then-digits-eq1-clause-refused c =
    elim c.then-digits-eq1.branch [
      | then-digits-eq1-via-then-digits-eq1 w ↦ page_of-odd _ (omega (arith, w.if-digits-eq1.true, c.as_bytes-digits.ensures.value))
      | then-digits-eq1-via-else-digits-eq1+then-digits w ↦ page_of-long _ (omega (arith, c.as_bytes-digits.ensures.value))
    ]

pub returns-in-Ok-clause-page : goal.returns-in-Ok-clause-page
returns-in-Ok-clause-page c =
    let text = c.args.text.now in
    let digits = c.as_bytes-digits.result.now in
    let n = length digits / 2 in
    let all : digits ≡ text = c.as_bytes-digits.ensures.value in
    let filled : c.fill.new.self ≡ replicate 4096 0 = c.fill.ensures.after (λ y e. e) ∙ ap (λ (k : ℕ). replicate k 0) c.requires in
    let small : n ≤ 4096 = omega arith in
    let twice : length digits ≡ 2 * n = omega arith in
    let room : length (take n c.fill.new.self) ≡ n = ap (λ (l : List ℕ). length (take n l)) filled ∙ (ap length (take-replicate n 4096 0 small) ∙ length-replicate n 0) in
    let out : length c.decode_to_slice.new.out ≡ n = omega (arith, c.decode_to_slice.auto.out, room) in
    let left : drop n c.fill.new.self ≡ replicate (4096 - n) 0 = ap (drop n) filled ∙ drop-replicate n 4096 0 in
    rw (sym all) (page_of-read digits _ _ c.decode_to_slice.result c.in-Ok.field-0 n small twice out left c.in-Ok.is (subst (λ (k : ℕ). Says (decode_sized digits k) c.decode_to_slice.result c.decode_to_slice.new.out) room (rw c.in-Ok.is c.in-Ok.ensures.value)))
