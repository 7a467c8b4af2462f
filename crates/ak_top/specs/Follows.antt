-- Which moves follow a script: each item's, and for `auto` those of the honest kernel.
use Rattle.std.specs.Prelude.{◌≡◌, ℕ, zero, suc, Bool, true, false, List, [], ◌∷◌, reverse, zip, Option, Some, None}
use Rattle.std.specs.List.{list_all}
use Rattle.ak_core.specs.Layout.{Layout}
use Rattle.ak_core.specs.Journal.{Journal}
use Rattle.ak_core.specs.declared.moves.Answer.{Answer}
use Rattle.ak_core.specs.declared.moves.Move.{Move}
use Rattle.ak_model.specs.Kernels.HonestKernel.{drive}
use Rattle.ak_model.specs.Paging.Histories.{History}
use Rattle.ak_script.specs.Script.{Script}
use Rattle.ak_script.specs.declared.items.Item.{Item}
use Rattle.ak_script.specs.declared.items.Item.TheVariants as item

-- the history that a journal tells: its moves with their answers, the newest first
abbrev pub past_of : Journal → History
past_of journal = reverse (zip journal.moves journal.answers)

-- this move, with an answer, comes next
abbrev pub Moves : Move → (History → Type 0) → History → Type 0
Moves m then past = (a : Answer) × then ((m, a) ∷ past)

-- the move that there is comes next, and then so on; or there is none, and it ends here
abbrev pub GoesOn : Option Move → (History → Type 0) → Type 0 → History → Type 0
GoesOn (Some m) then ends past = Moves m then past
GoesOn None then ends past = ends

-- up to n moves of the honest kernel lead from one history to another: fewer only where it has none left
abbrev pub Drives : Layout → List ℕ → ℕ → History → History → Type 0
Drives layout inputs zero past last = last ≡ past
Drives layout inputs (suc n) past last = GoesOn (drive layout past inputs) (λ next. Drives layout inputs n next last) (last ≡ past) past

-- so does one item
abbrev pub Makes : Layout → List ℕ → Item → History → History → Type 0
Makes layout inputs (item.Move m) past last = Moves m (λ next. last ≡ next) past
Makes layout inputs (item.Auto n) past last = Drives layout inputs n past last

-- so do these items, one after the other
abbrev pub Leads : Layout → List ℕ → List Item → History → History → Type 0
Leads layout inputs [] past last = last ≡ past
Leads layout inputs (i ∷ items) past last = (next : History) × Makes layout inputs i past next × Leads layout inputs items next last

-- the journal has the moves of the script, from the build on
abbrev pub Follows : Layout → Script → Journal → Type 0
Follows layout script journal = Leads layout script.inputs script.items [] (past_of journal)

-- the item leaves its moves to the honest kernel
abbrev pub is_auto : Item → Bool
is_auto (item.Move m) = false
is_auto (item.Auto n) = true

-- so does each item of the script
abbrev pub IsAutoAlone : Script → Type 0
IsAutoAlone script = list_all is_auto script.items ≡ true
