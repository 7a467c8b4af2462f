-- No page has two live copies: what frames hold, where pages are, and what slots have, agree.
use Rattle.std.specs.Prelude.{◌≡◌, ℕ, ◌<◌, Bool, true, false, Option, Some}
use Rattle.ak_core.specs.Layout.{Layout}
use Rattle.ak_model.specs.Paging.Histories.{History}
use Rattle.ak_model.specs.Paging.Holdings.{Held, PageFrame, Place, InFrame, InHandle}
use Rattle.ak_model.specs.Paging.Frames.{held}
use Rattle.ak_model.specs.Paging.Handles.{given, page_of, discarded, slot, place}

-- what is held, placed, slotted, given, sealed and discarded agrees
pub record Agrees (held : ℕ → Held) (place : ℕ → Place) (slot : ℕ → ℕ → Option ℕ) (given : ℕ) (page_of : ℕ → ℕ) (discarded : ℕ → Bool) : Type 0 where
  pub framed : (p f : ℕ) → place p ≡ InFrame f → held f ≡ PageFrame p
  pub placed : (p f : ℕ) → held f ≡ PageFrame p → place p ≡ InFrame f
  pub named : (p k : ℕ) → place p ≡ InHandle k → page_of k ≡ p
  pub known : (p k : ℕ) → place p ≡ InHandle k → k < given
  pub kept : (p k : ℕ) → place p ≡ InHandle k → discarded k ≡ false
  pub slotted : (va i k : ℕ) → slot va i ≡ Some k → k < given
  pub newest : (va i k : ℕ) → slot va i ≡ Some k → discarded k ≡ false → place (page_of k) ≡ InHandle k
  pub same_va : (va i wa j k : ℕ) → slot va i ≡ Some k → slot wa j ≡ Some k → va ≡ wa
  pub same_slot : (va i wa j k : ℕ) → slot va i ≡ Some k → slot wa j ≡ Some k → i ≡ j
  pub gone : (k : ℕ) → discarded k ≡ true → k < given

-- they agree in a history
abbrev pub OneCopy : Layout → History → Type 0
OneCopy layout past = Agrees (held layout past) (place layout past) (slot layout past) (given layout past) (page_of layout past) (discarded past)
