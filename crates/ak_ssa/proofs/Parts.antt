-- Parts of a frame and of a page that are put into their places.
use Rattle.std.proofs.Common.{◌≡◌, ℕ, zero, suc, ◌+◌, ◌-◌, List, [], ◌∷◌, ◌++◌, length, take, drop, replicate, ap, sym, ◌∙◌, arith, length-append, length-drop}
use Rattle.std.proofs.lemmas.List.{drop_all, take_all, take_at, drop_at, drop-drop, append-nil, append_assoc, length-take-le}
use Rattle.std.specs.Prelude.{flat_map, slice_set}
use borrow.Rule.Slice.PartMut.{put_mid}
use Rattle.byteorder.specs.Endian.{little_bytes}
use Rattle.ak_core.specs.declared.registers.Regs.{Regs}
use Rattle.ak_model.specs.Flat.Instructions.{le_bytes}
use Rattle.ak_ssa.specs.declared.cause.Why.{Why}
use Rattle.ak_ssa.specs.declared.cause.Why.TheVariants.{Interrupt}
use Rattle.ak_ssa.specs.SavedFrames.{tail_bytes, saved_bytes}
use Rattle.ak_ssa.specs.ReadFrames.{cleared}
use Rattle.ak_ssa.proofs.RegistersReturn.{parts}
use Rattle.ak_ssa.proofs.FramesReturn.{length-words}
use Rattle.ak_ssa.proofs.Words.{bytes-8, bytes-4}

-- bytes put at the end
pub put_at_end : (n : ℕ) (xs ys : List ℕ) → put_mid n (length xs - n) xs ys ≡ take n xs ++ ys
put_at_end n xs ys =
    let none : drop (length xs - n) (drop n xs) ≡ [] = drop_all (length xs - n) (drop n xs) (omega (arith, length-drop n xs)) in
    ap (λ l. take n xs ++ (ys ++ l)) none ∙ ap (λ l. take n xs ++ l) (append-nil ys)

-- three parts that follow one another
pub three : (h g t old : List ℕ) → length h ≡ 16 → length g ≡ 128 → (let m = put_mid 16 128 (h ++ drop 16 old) g in put_mid 144 (length m - 144) m t) ≡ h ++ (g ++ t)
three h g t old sixteen many =
    let r = drop 128 (drop 16 (h ++ drop 16 old)) in
    let m = put_mid 16 128 (h ++ drop 16 old) g in
    let begins : m ≡ (h ++ g) ++ r = ap (λ l. l ++ (g ++ r)) (take_at h (drop 16 old) 16 sixteen) ∙ sym (append_assoc h g r) in
    put_at_end 144 m t ∙ ap (λ l. take 144 l ++ t) begins ∙ ap (λ l. l ++ t) (take_at (h ++ g) r 144 (omega (arith, length-append h g, sixteen, many))) ∙ append_assoc h g t

-- as many as the middle has
pub mid_size : (h old : List ℕ) → length h ≡ 16 → length old ≡ 200 → length (take 128 (drop 16 (h ++ drop 16 old))) ≡ 128
mid_size h old sixteen size =
    length-take-le 128 (drop 16 (h ++ drop 16 old)) (omega (arith, length-drop 16 (h ++ drop 16 old), length-append h (drop 16 old), length-drop 16 old, sixteen, size))

-- what follows the sixteen registers, written number by number
module _ (flags rip info mode : ℕ) where
  abbrev A : List ℕ
  A = little_bytes 8 flags ++ drop 8 (replicate 56 0)

  abbrev B : List ℕ → List ℕ
  B a = little_bytes 8 rip ++ drop 8 (take 48 (drop 8 a))

  abbrev D : List ℕ → List ℕ → List ℕ
  D a b = little_bytes 4 info ++ drop 4 (take 24 (drop 32 (put_mid 8 48 a b)))

  pub tail_is : (a b d : List ℕ) → a ≡ A → b ≡ B a → d ≡ D a b →
      slice_set (put_mid 32 24 (put_mid 8 48 a b) d) 36 mode ≡ le_bytes 8 flags ++ (le_bytes 8 rip ++ (replicate 16 0 ++ (le_bytes 4 info ++ (mode ∷ replicate 19 0))))
  tail_is a b d ea eb ed =
      let rest = λ (l : List ℕ). replicate 16 0 ++ (l ++ (mode ∷ replicate 19 0)) in
      ap (λ l. slice_set (put_mid 32 24 (put_mid 8 48 a b) l) 36 mode) ed
      ∙ ap (λ l. slice_set (put_mid 32 24 (put_mid 8 48 a l) (D a l)) 36 mode) eb
      ∙ ap (λ l. slice_set (put_mid 32 24 (put_mid 8 48 l (B l)) (D l (B l))) 36 mode) ea
      ∙ ap (λ l. l ++ (little_bytes 8 rip ++ rest (little_bytes 4 info))) (bytes-8 flags)
      ∙ ap (λ l. le_bytes 8 flags ++ (l ++ rest (little_bytes 4 info))) (bytes-8 rip)
      ∙ ap (λ l. le_bytes 8 flags ++ (le_bytes 8 rip ++ rest l)) (bytes-4 info)

-- a frame at the end of a page: `size` is 200 where the frame has its length
pub at_end : (page frame : List ℕ) → length page ≡ 4096 → length frame ≡ 200 → take 200 (drop 3896 (put_mid 3896 (length page - 3896) page frame)) ≡ frame
at_end page frame whole size =
    ap (λ l. take 200 (drop 3896 l)) (put_at_end 3896 page frame)
    ∙ ap (take 200) (drop_at (take 3896 page) frame 3896 (length-take-le 3896 page (omega (arith, whole))))
    ∙ take_all 200 frame (omega (arith, size))

pub below_put : (page frame : List ℕ) → length page ≡ 4096 → take 3896 (put_mid 3896 (length page - 3896) page frame) ≡ take 3896 page
below_put page frame whole =
    ap (take 3896) (put_at_end 3896 page frame) ∙ take_at (take 3896 page) frame 3896 (length-take-le 3896 page (omega (arith, whole)))

-- ---- What is cleared

take_past : (xs ys : List ℕ) (n k : ℕ) → length xs ≡ n → take (n + k) (xs ++ ys) ≡ xs ++ take k ys
take_past [] ys zero k size = ap (λ i. take i ys) (omega arith)
take_past [] ys (suc n) k size = absurd (omega arith)
take_past (x ∷ xs) ys zero k size = absurd (omega arith)
take_past (x ∷ xs) ys (suc n) k size =
    let e : suc n + k ≡ suc (n + k) = omega arith in ap (λ i. take i (x ∷ (xs ++ ys))) e ∙ ap (λ l. x ∷ l) (take_past xs ys n k (omega arith))

-- zeros in the place of EXINFO and of EXITINFO
pub cleared_is : (old a b : List ℕ) → a ≡ replicate 16 0 → b ≡ replicate 4 0 → put_mid 176 4 (a ++ drop 16 old) b ≡ cleared old
cleared_is old a b sixteen four =
    ap (λ l. put_mid 176 4 (l ++ drop 16 old) b) sixteen
    ∙ ap (λ l. replicate 16 0 ++ (take 160 (drop 16 old) ++ (b ++ l))) (drop-drop 4 160 (drop 16 old) ∙ drop-drop 164 16 old)
    ∙ ap (λ l. replicate 16 0 ++ (take 160 (drop 16 old) ++ (l ++ drop 180 old))) four

-- as many as there are
pub first_sixteen : (old : List ℕ) → length old ≡ 200 → length (take 16 old) ≡ 16
first_sixteen old size = length-take-le 16 old (omega (arith, size))

pub four_within : (a old : List ℕ) → length a ≡ 16 → length old ≡ 200 → length (take 4 (drop 176 (a ++ drop 16 old))) ≡ 4
four_within a old sixteen size =
    length-take-le 4 (drop 176 (a ++ drop 16 old)) (omega (arith, length-drop 176 (a ++ drop 16 old), length-append a (drop 16 old), length-drop 16 old, sixteen, size))

-- a saved frame that is cleared has the same registers, and nothing noted
pub cleared_saved : (regs : Regs) (why : Why) → length regs.gpr ≡ 16 → cleared (saved_bytes regs why) ≡ saved_bytes regs Interrupt
unfolding saved_bytes
cleared_saved regs why sixteen =
    let gpr = flat_map (le_bytes 8) regs.gpr in
    let tail = tail_bytes regs why in
    let many : length gpr ≡ 128 = omega (arith, length-words regs.gpr, sixteen) in
    let frame = saved_bytes regs why in
    let after : drop 180 frame ≡ drop 36 tail =
    sym (drop-drop 164 16 frame) ∙ ap (drop 164) (parts regs why) ∙ sym (drop-drop 36 128 (gpr ++ tail)) ∙ ap (drop 36) (drop_at gpr tail 128 many) in
    ap (λ l. replicate 16 0 ++ (take 160 l ++ (replicate 4 0 ++ drop 180 frame))) (parts regs why)
    ∙ ap (λ l. replicate 16 0 ++ (l ++ (replicate 4 0 ++ drop 180 frame))) (take_past gpr tail 128 32 many)
    ∙ ap (λ l. replicate 16 0 ++ ((gpr ++ take 32 tail) ++ (replicate 4 0 ++ l))) after
    ∙ ap (λ l. replicate 16 0 ++ l) (append_assoc gpr (take 32 tail) (replicate 4 0 ++ drop 36 tail))

-- what follows byte 3895 of a page are its last 200 bytes
pub ends : (page frame : List ℕ) → length page ≡ 4096 → take 200 (drop 3896 page) ≡ frame → take (length page - 3896) (drop 3896 page) ≡ frame
ends page frame whole is =
    let e : length page - 3896 ≡ 200 = omega (arith, whole) in ap (λ n. take n (drop 3896 page)) e ∙ is

pub end_size : (page : List ℕ) → length page ≡ 4096 → length (take (length page - 3896) (drop 3896 page)) ≡ 200
end_size page whole =
    length-take-le (length page - 3896) (drop 3896 page) (omega (arith, length-drop 3896 page, whole)) ∙ omega (arith, whole)
