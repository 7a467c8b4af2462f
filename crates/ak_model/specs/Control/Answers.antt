-- What each move of the kernel is answered. Each row's checks stand in order, and the first that holds gives the answer; a leaf
-- is answered by its row over the view of the history. (SDM volume 3D, "SGX Instruction References".)
use Rattle.std.specs.Prelude.{ℕ, ◌-◌, Bool, not, nat_lt, ◌==◌, if◌then◌else◌}
use Rattle.ak_core.specs.Layout.{Layout}
use Rattle.ak_core.specs.declared.moves.Move.{Move}
use Rattle.ak_core.specs.declared.moves.Move.TheVariants.{SetPte, ReadPte, Eenter, Eresume, Run, Interrupt}
use Rattle.ak_core.specs.declared.moves.Answer.{Answer}
use Rattle.ak_core.specs.declared.moves.Answer.TheVariants.{Ok, NoPage, NoLp, Inside, Outside, TcsFault, Busy, Gp, Pending, SsaFault}
use Rattle.ak_core.specs.declared.page.Kind.TheVariants.{Write}
use Rattle.ak_model.specs.Paging.Pages.{all_pages, ssa_page}
use Rattle.ak_model.specs.Paging.Histories.{History}
use Rattle.ak_model.specs.Paging.PageTable.{pte}
use Rattle.ak_model.specs.Paging.Inside.{inside, another_inside}
use Rattle.ak_model.specs.Paging.Walk.{walkable, tcs_walkable}
use Rattle.ak_model.specs.Paging.Views.{view_of}
use Rattle.ak_model.specs.Control.ControlState.{Control, cssa}
use Rattle.ak_model.specs.Control.LeafRows.{leaf_row}
use Rattle.ak_model.specs.Control.Runs.{run}

-- entering at CSSA i finds the saved-state area i
abbrev pub finds_ssa : Layout → History → ℕ → Bool
finds_ssa layout past i = walkable layout past (ssa_page layout i) Write

-- the answer, unless the processor is none or is inside, no TCS is found, or another processor is inside
abbrev pub if_outside : Layout → History → ℕ → Answer → Answer
if_outside layout past lp answer =
    if not (nat_lt lp layout.lps) then NoLp
    else (if inside past lp then Inside
    else (if not (tcs_walkable layout past) then TcsFault
    else (if another_inside layout past lp then Busy
    else answer)))

-- EENTER of a processor
abbrev pub enter_answer : Layout → History → Control → ℕ → Answer
enter_answer layout past control lp =
    if_outside layout past lp
    (if cssa control == 3 then Gp
    else (if not (finds_ssa layout past (cssa control)) then SsaFault
    else Ok))

-- ERESUME of a processor
abbrev pub resume_answer : Layout → History → Control → ℕ → Answer
resume_answer layout past control lp =
    if_outside layout past lp
    (if cssa control == 0 then Gp
    else (if control.pending then Pending
    else (if not (finds_ssa layout past (cssa control - 1)) then SsaFault
    else Ok)))

-- the answer, unless the processor is none or is outside
abbrev pub if_inside : Layout → History → ℕ → Answer → Answer
if_inside layout past lp answer =
    if not (nat_lt lp layout.lps) then NoLp else (if not (inside past lp) then Outside else answer)

-- the answer to a move
abbrev pub answer : Layout → History → Control → Move → Answer
answer layout past control (SetPte p f flags) = if nat_lt p.0 (all_pages layout) then Ok else NoPage
answer layout past control (ReadPte p) =
    let entry = pte layout past p.0 in
    if nat_lt p.0 (all_pages layout) then Answer.Pte (record { 0 = entry.frame }) entry.flags else NoPage
answer layout past control (Eenter lp v) = enter_answer layout past control lp.0
answer layout past control (Eresume lp) = resume_answer layout past control lp.0
answer layout past control (Run lp n) = if_inside layout past lp.0 (Answer.Exit (run layout past n control).exit)
answer layout past control (Interrupt lp) = if_inside layout past lp.0 Ok
answer layout past control leaf = leaf_row (view_of layout past) leaf
