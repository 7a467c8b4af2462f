-- What entering and resuming look at, in the machine's own tables, and each one's row. (SDM volume 3D, EENTER, ERESUME; that their
-- walks are those of any access is the Autarky paper's.)
use Rattle.std.specs.Prelude.{ℕ, ◌-◌, Bool, ◌&&◌, not, List, nat_lt, ◌==◌, if◌then◌else◌}
use Rattle.std.specs.List.{list_any}
use Rattle.ak_core.specs.Layout.{Layout}
use Rattle.ak_core.specs.declared.moves.Answer.{Answer}
use Rattle.ak_core.specs.declared.moves.Answer.TheVariants.{Ok, NoLp, Inside, TcsFault, Busy, Gp, Pending, SsaFault}
use Rattle.ak_core.specs.declared.page.Kind.{Kind}
use Rattle.ak_core.specs.declared.page.Kind.TheVariants.{Write}
use Rattle.ak_model.specs.Paging.Pages.{permits, tcs_page, ssa_page}
use Rattle.ak_model.specs.Paging.Holdings.{is_page_in}
use Rattle.ak_model.specs.Paging.Inside.{processors}
use Rattle.ak_model.specs.Paging.Walk.{is_preset, flags_allow}
use Rattle.ak_epcm.specs.Entries.{entry_at}
use Rattle.ak_relation.specs.State.MachineState.{State}
use Rattle.ak_model.specs.Flat.Instructions.{number_at}
use Rattle.ak_relation.specs.State.MachineView.{held_in}

-- ---- Walks

-- the frame's entry says that it holds the page, and is not blocked
abbrev pub is_in_entry : State → ℕ → ℕ → Bool
is_in_entry state p f = is_page_in (held_in (entry_at state.entries f)) p && not (entry_at state.entries f).blocked

-- a walk of this kind finds the page
abbrev pub walk_in : Layout → State → ℕ → Kind → Bool
walk_in layout state p kind =
    let entry = state.table p in permits layout p kind && (flags_allow entry.flags kind && is_in_entry state p entry.frame)

-- entering finds the TCS
abbrev pub tcs_in : Layout → State → Bool
tcs_in layout state =
    let entry = state.table (tcs_page layout) in is_preset entry.flags && is_in_entry state (tcs_page layout) entry.frame

-- ---- The TCS

-- the bytes of the TCS, where the page table names its frame
abbrev pub tcs_bytes : Layout → State → List ℕ
tcs_bytes layout state = state.frames (state.table (tcs_page layout)).frame

-- how many contexts it says are saved
abbrev pub saved_in : Layout → State → ℕ
saved_in layout state = number_at (tcs_bytes layout state) 24 4

-- it says that resuming is refused
abbrev pub pending_in : Layout → State → Bool
pending_in layout state = number_at (tcs_bytes layout state) 72 1 == 1

-- ---- Rows

-- the answer, unless the processor is none or is inside, no TCS is found, or another processor is inside
abbrev pub outside_row : Layout → State → ℕ → Answer → Answer
outside_row layout state lp answer =
    if not (nat_lt lp layout.lps) then NoLp
    else (if (state.processors lp).inside then Inside
    else (if not (tcs_in layout state) then TcsFault
    else (if list_any (λ q. (state.processors q).inside && not (q == lp)) (processors layout) then Busy
    else answer)))

-- EENTER of a processor
abbrev pub enter_row : Layout → State → ℕ → Answer
enter_row layout state lp =
    outside_row layout state lp
    (if saved_in layout state == 3 then Gp
    else (if not (walk_in layout state (ssa_page layout (saved_in layout state)) Write) then SsaFault
    else Ok))

-- ERESUME of a processor
abbrev pub resume_row : Layout → State → ℕ → Answer
resume_row layout state lp =
    outside_row layout state lp
    (if saved_in layout state == 0 then Gp
    else (if pending_in layout state then Pending
    else (if not (walk_in layout state (ssa_page layout (saved_in layout state - 1)) Write) then SsaFault
    else Ok)))
