-- Reading by stages: each refuses, or hands on what the next one needs.
use Rattle.std.specs.Prelude.{ℕ, Bool, true, false, List, Option, Some, None, is_none, Result, Ok, Err, position}
use Rattle.std.specs.List.{filter_map}
use Rattle.ak_core.specs.declared.page.Page.{Page}
use Rattle.ak_image.specs.declared.fault.ImageFault.{ImageFault}

-- the next stage, where this one does not refuse
infixl 10 ◌>>◌
abbrev pub ◌>>◌ : {A B E : Type 0} → Result A E → Result B E → Result B E
Ok x >> next = next
Err fault >> next = Err fault

-- refused where the test holds
abbrev pub refuse : ImageFault → Bool → Result (Unit {0}) ImageFault
refuse fault true = Err fault
refuse fault false = Ok tt

-- refused at a place, if there is one
abbrev pub refuse_at : (Page → ImageFault) → Option ℕ → Result (Unit {0}) ImageFault
refuse_at fault None = Ok tt
refuse_at fault (Some p) = Err (fault (record { 0 = p }))

-- what is read of each page; refused at the least page of which nothing is read
abbrev pub each : {A B : Type 0} → (Page → ImageFault) → (A → Option B) → List A → Result (List B) ImageFault
each fault read pages = do
  refuse_at fault (position (λ page. is_none (read page)) pages)
  Ok (filter_map read pages)
