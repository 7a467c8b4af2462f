-- Which context the registers tell of, where a step is defined.
use Rattle.std.proofs.Common.{◌≡◌, ℕ, ap, arith}
use Rattle.ak_core.specs.Layout.{Layout}
use Rattle.ak_core.specs.declared.registers.Regs.{Regs}
use Rattle.ak_model.specs.Flat.FlatRuns.{Flat}
use Rattle.ak_model.specs.Control.ControlState.{Context, Program, Enter, Probe, Finish, Guard, Leave, Control}
use Rattle.ak_model.specs.Laws.StepRows.{HasRow}
use Rattle.ak_pager.specs.Contexts.{step_address, Gives}

-- the step of a context, which is none of the program's
abbrev pub offset_of : Context → ℕ
offset_of (Enter k v) = 0
offset_of Guard = 16
offset_of (Leave b a) = 32
offset_of _ = 48

-- RIP is at it
pub rip_of : (layout : Layout) (control : Control) (flat : Flat) (context : Context) (regs : Regs) → HasRow layout control context → Gives layout control.phase flat context regs →
    regs.rip ≡ step_address layout (offset_of context)
rip_of layout control flat Program regs row gives = absurd row
rip_of layout control flat (Enter k v) regs row gives = ap (λ r. r.rip) gives
rip_of layout control flat (Probe i) regs row gives = let at = gives.0 in at.rip
rip_of layout control flat Finish regs row gives = let at = gives.0 in at.rip
rip_of layout control flat Guard regs row gives = gives.rip
rip_of layout control flat (Leave b a) regs row gives = let at = gives.0 in at.rip

-- so it tells the step
pub same_offset : (layout : Layout) (rip a b : ℕ) → rip ≡ step_address layout a → rip ≡ step_address layout b → a ≡ b
same_offset layout rip a b e f = omega arith

module _ (layout : Layout) (control : Control) (flat : Flat) (regs : Regs) (P : Context → Type 0) where
  abbrev At : Context → Type 0
  At context = HasRow layout control context → Gives layout control.phase flat context regs → P context

  clash : (n m : ℕ) (context : Context) → regs.rip ≡ step_address layout n → regs.rip ≡ step_address layout m → (n ≡ m → ⊥) → P context
  clash n m context at e differ = absurd (differ (same_offset layout regs.rip n m at e))

  -- an entry
  pub at_entry : regs.rip ≡ step_address layout 0 → ((k v : ℕ) → At (Enter k v)) → (context : Context) → At context
  at_entry at enter Program row gives = absurd row
  at_entry at enter (Enter k v) row gives = enter k v row gives
  at_entry at enter (Probe i) row gives = clash 0 48 (Probe i) at (rip_of layout control flat (Probe i) regs row gives) (λ e. omega arith)
  at_entry at enter Finish row gives = clash 0 48 Finish at (rip_of layout control flat Finish regs row gives) (λ e. omega arith)
  at_entry at enter Guard row gives = clash 0 16 Guard at (rip_of layout control flat Guard regs row gives) (λ e. omega arith)
  at_entry at enter (Leave b a) row gives = clash 0 32 (Leave b a) at (rip_of layout control flat (Leave b a) regs row gives) (λ e. omega arith)

  -- the guard
  pub at_guard : regs.rip ≡ step_address layout 16 → At Guard → (context : Context) → At context
  at_guard at guard Program row gives = absurd row
  at_guard at guard (Enter k v) row gives = clash 16 0 (Enter k v) at (rip_of layout control flat (Enter k v) regs row gives) (λ e. omega arith)
  at_guard at guard (Probe i) row gives = clash 16 48 (Probe i) at (rip_of layout control flat (Probe i) regs row gives) (λ e. omega arith)
  at_guard at guard Finish row gives = clash 16 48 Finish at (rip_of layout control flat Finish regs row gives) (λ e. omega arith)
  at_guard at guard Guard row gives = guard row gives
  at_guard at guard (Leave b a) row gives = clash 16 32 (Leave b a) at (rip_of layout control flat (Leave b a) regs row gives) (λ e. omega arith)

  -- a leave step
  pub at_leave : regs.rip ≡ step_address layout 32 → ((b a : ℕ) → At (Leave b a)) → (context : Context) → At context
  at_leave at leave Program row gives = absurd row
  at_leave at leave (Enter k v) row gives = clash 32 0 (Enter k v) at (rip_of layout control flat (Enter k v) regs row gives) (λ e. omega arith)
  at_leave at leave (Probe i) row gives = clash 32 48 (Probe i) at (rip_of layout control flat (Probe i) regs row gives) (λ e. omega arith)
  at_leave at leave Finish row gives = clash 32 48 Finish at (rip_of layout control flat Finish regs row gives) (λ e. omega arith)
  at_leave at leave Guard row gives = clash 32 16 Guard at (rip_of layout control flat Guard regs row gives) (λ e. omega arith)
  at_leave at leave (Leave b a) row gives = leave b a row gives

  -- a probe, or the end of the probes
  pub at_probe : regs.rip ≡ step_address layout 48 → ((i : ℕ) → At (Probe i)) → At Finish → (context : Context) → At context
  at_probe at probe finish Program row gives = absurd row
  at_probe at probe finish (Enter k v) row gives = clash 48 0 (Enter k v) at (rip_of layout control flat (Enter k v) regs row gives) (λ e. omega arith)
  at_probe at probe finish (Probe i) row gives = probe i row gives
  at_probe at probe finish Finish row gives = finish row gives
  at_probe at probe finish Guard row gives = clash 48 16 Guard at (rip_of layout control flat Guard regs row gives) (λ e. omega arith)
  at_probe at probe finish (Leave b a) row gives = clash 48 32 (Leave b a) at (rip_of layout control flat (Leave b a) regs row gives) (λ e. omega arith)
