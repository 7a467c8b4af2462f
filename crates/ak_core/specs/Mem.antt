-- Words on a memory that is touched before it is read or written.
use Rattle.std.specs.Prelude.{◌≡◌, ℕ, ◌+◌, Bool, true, false, ◌&&◌, List, [], ◌∷◌, ◌++◌, take, drop, length, Option, Some, Result, OnOk, IfErr, ◌==◌, if◌then◌else◌}
use Rattle.std.specs.List.{list_any}
use Rattle.ak_core.specs.declared.page.Fault.{Fault}
use Rattle.ak_core.specs.declared.page.Kind.{Kind}
use Rattle.ak_core.specs.declared.page.Kind.TheVariants.{Write}

-- an access, granted or refused: a page, and what is done to it
abbrev pub Access : Type 0
Access = Fault

-- the access of a page
abbrev pub access_to : ℕ → Kind → Access
access_to p kind = record { page = record { 0 = p }; kind = kind }

-- a touch is granted, at the end of the list, or becomes the refused one. Only a page that the memory holds is granted
pub record Touches {T : Type 0} (t : Access) (result : Result T Fault) (holds : ℕ → Bool) (before after : List Access) (refused_before refused : Option Access) : Type 0 where
  pub ok : OnOk result (after ≡ before ++ t ∷ [])
  pub held : OnOk result (holds t.page.0 ≡ true)
  pub unrefused : OnOk result (refused ≡ refused_before)
  pub err : IfErr result (λ f. f ≡ t)
  pub same : IfErr result (λ f. after ≡ before)
  pub refused_is : IfErr result (λ f. refused ≡ Some t)

-- the page was touched in this turn
abbrev pub is_touched : List Access → ℕ → Bool
is_touched granted p = list_any (λ t. t.page.0 == p) granted

-- an access that writes
abbrev pub is_write : Kind → Bool
is_write Write = true
is_write _ = false

-- and for writing
abbrev pub is_writable : List Access → ℕ → Bool
is_writable granted p = list_any (λ t. (t.page.0 == p) && is_write t.kind) granted

-- one page has these bytes, and the others stay
abbrev pub with_page : (ℕ → List ℕ) → ℕ → List ℕ → ℕ → List ℕ
with_page bytes p new q = if q == p then new else bytes q

-- the bytes from a place on are these
abbrev pub put_at : List ℕ → ℕ → List ℕ → List ℕ
put_at bytes place new = take place bytes ++ (new ++ drop (place + length new) bytes)
