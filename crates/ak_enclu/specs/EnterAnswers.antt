-- The answers of EENTER and ERESUME to a processor that there is, by the EPCM, the page table and the bytes of the TCS, whatever its
-- page is; the areas are the pages that follow. (SDM volume 3D, EENTER, ERESUME; that their walks are those of any access is the
-- Autarky paper's.)
use Rattle.std.specs.Prelude.{ℕ, ◌+◌, ◌-◌, Bool, not, List, ◌==◌, if◌then◌else◌}
use Rattle.ak_core.specs.declared.moves.Answer.{Answer}
use Rattle.ak_core.specs.declared.moves.Answer.TheVariants.{Ok, Inside, TcsFault, Busy, Gp, Pending, SsaFault}
use Rattle.ak_core.specs.declared.page.Entry.{Entry}
use Rattle.ak_core.specs.declared.page.Kind.TheVariants.{Write}
use Rattle.ak_epcm.specs.Entries.{entry_at}
use Rattle.ak_pte.specs.Table.{pte_at}
use Rattle.ak_pte.specs.declared.table.Pte.{Pte}
use Rattle.ak_walk.specs.Finds.{walk_finds, tcs_walk_finds}
use Rattle.ak_enclu.specs.declared.areas.Held.{Held}
use Rattle.ak_enclu.specs.TcsBytes.{saved_of, pending_of}

-- entering finds the TCS
abbrev pub finds_tcs : List Entry → List Pte → ℕ → Bool
finds_tcs entries table tcs = let pte = pte_at table tcs in tcs_walk_finds pte.flags (entry_at entries pte.frame.0) tcs

-- a walk for writing finds the area
abbrev pub finds_area : List Entry → List Pte → ℕ → Bool
finds_area entries table p = let pte = pte_at table p in walk_finds pte.flags (entry_at entries pte.frame.0) p Write

-- the page of an area
abbrev pub area_page : ℕ → ℕ → ℕ
area_page tcs i = tcs + 1 + i

-- the answer, unless the processor is inside, no TCS is found, or another processor is inside
abbrev pub unless_outside : Bool → Bool → Bool → Answer → Answer
unless_outside inside found busy answer =
    if inside then Inside else (if not found then TcsFault else (if busy then Busy else answer))

-- whether there is an area to enter with
abbrev pub enter_area : List Entry → List Pte → ℕ → List ℕ → Answer
enter_area entries table tcs bytes =
    if saved_of bytes == 3 then Gp
    else (if not (finds_area entries table (area_page tcs (saved_of bytes))) then SsaFault
    else Ok)

-- whether there is an area to resume
abbrev pub resume_area : List Entry → List Pte → ℕ → List ℕ → Answer
resume_area entries table tcs bytes =
    if saved_of bytes == 0 then Gp
    else (if pending_of bytes then Pending
    else (if not (finds_area entries table (area_page tcs (saved_of bytes - 1))) then SsaFault
    else Ok))

-- EENTER
abbrev pub enter_answer : List Entry → List Pte → ℕ → List ℕ → Bool → Bool → Answer
enter_answer entries table tcs bytes inside busy =
    unless_outside inside (finds_tcs entries table tcs) busy (enter_area entries table tcs bytes)

-- ERESUME
abbrev pub resume_answer : List Entry → List Pte → ℕ → List ℕ → Bool → Bool → Answer
resume_answer entries table tcs bytes inside busy =
    unless_outside inside (finds_tcs entries table tcs) busy (resume_area entries table tcs bytes)

-- the frames that an entering finds, by the number of its area
abbrev pub held_at : List Pte → ℕ → ℕ → Held
held_at table tcs i = record { tcs = (pte_at table tcs).frame; ssa = (pte_at table (area_page tcs i)).frame; area = i }
