-- What a frame holds, where a page is, and what an entry of the page table says. (SDM volume 3D, "Enclave Page Cache Map".)
use Rattle.std.specs.Prelude.{ℕ, Bool, true, false, ◌==◌}
use Rattle.ak_core.specs.declared.page.Flags.{Flags}

-- what a frame of the page cache holds. The page after the program's is a TCS page, and each other one is a REG page
pub data Held : Type 0 where
  FreeFrame : Held
  SecsFrame : Held
  VaFrame : Held
  PageFrame : (page : ℕ) → Held

-- the frame holds this page
abbrev pub is_page_in : Held → ℕ → Bool
is_page_in (PageFrame q) p = p == q
is_page_in _ p = false

-- the frame is a VA page
abbrev pub is_va : Held → Bool
is_va VaFrame = true
is_va _ = false

-- the frame is free
abbrev pub is_free : Held → Bool
is_free FreeFrame = true
is_free _ = false

-- where a page is: in a frame, sealed under a handle, or nowhere
pub data Place : Type 0 where
  InFrame : (frame : ℕ) → Place
  InHandle : (handle : ℕ) → Place
  Gone : Place

-- an entry of the page table
pub record Mapping : Type 0 where
  pub frame : ℕ
  pub flags : Flags
