-- One more move of the honest kernel, and one more item of a script.
use Rattle.std.proofs.Common.{◌≡◌, ℕ, zero, suc, ◌+◌, ◌<◌, ◌≤◌, List, length, drop, get_or, refl, sym, subst, arith}
use Rattle.std.proofs.lemmas.List.{drop_more}
use Rattle.std.proofs.lemmas.List.Sums.{sum_by-drop_more}
use Rattle.std.specs.Prelude.{Some, None}
use Rattle.std.specs.List.{sum_by}
use Rattle.ak_core.specs.Layout.{Layout}
use Rattle.ak_core.specs.declared.moves.Move.{Move}
use Rattle.ak_model.specs.Kernels.HonestKernel.{drive}
use Rattle.ak_model.specs.Paging.Histories.{History}
use Rattle.ak_script.specs.Script.{moves_in}
use Rattle.ak_script.specs.declared.items.Item.{Item}
use Rattle.ak_top.specs.Follows.{Moves, Drives, Makes, Leads}

module _ (layout : Layout) (inputs : List ℕ) where
  -- where the kernel has no move
  pub drives_none : (n : ℕ) (past : History) → drive layout past inputs ≡ None → Drives layout inputs n past past
  drives_none zero past e = refl
  drives_none (suc n) past e = rw e refl

  -- where it has one
  pub drives_some : (n : ℕ) (past last : History) (m : Move) → drive layout past inputs ≡ Some m → Moves m (λ next. Drives layout inputs n next last) past →
      Drives layout inputs (suc n) past last
  drives_some n past last m e next = rw e next

  -- the items from one on: what it makes, and then the others
  pub leads_more : (items : List Item) (i : ℕ) (d : Item) (past next last : History) → i < length items → Makes layout inputs (get_or items i d) past next →
      Leads layout inputs (drop (i + 1) items) next last → Leads layout inputs (drop i items) past last
  leads_more items i d past next last lt makes rest =
      let P : List Item → Type 0 = λ items. Leads layout inputs items past last in
      subst P (sym (drop_more items i d lt)) (next, makes, rest)

-- the moves that the items from one on may still make
pub room_more : (items : List Item) (i : ℕ) (d : Item) (before after : ℕ) → i < length items → before + sum_by moves_in (drop i items) ≤ 20000 →
    after ≤ before + moves_in (get_or items i d) → after + sum_by moves_in (drop (i + 1) items) ≤ 20000
room_more items i d before after lt room le = let sum = sum_by-drop_more moves_in items i d lt in omega arith
