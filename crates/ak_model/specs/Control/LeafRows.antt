-- What each leaf instruction of the kernel is answered, by what it looks at. Each row's checks stand in order, and the first that
-- holds gives the answer. (SDM volume 3D, "SGX Instruction References".)
use Rattle.std.specs.Prelude.{ℕ, Bool, true, false, ◌&&◌, not, Option, Some, None, is_some, nat_lt, ◌==◌, if◌then◌else◌}
use Rattle.ak_core.specs.declared.moves.Move.{Move}
use Rattle.ak_core.specs.declared.moves.Move.TheVariants.{Eblock, Etrack, Ewb, Eldu, Eldb, Eremove, Epa, Discard}
use Rattle.ak_core.specs.declared.moves.Answer.{Answer}
use Rattle.ak_core.specs.declared.moves.Answer.TheVariants.{Ok, OkHandle, NotEpc, IsSecs, Free, WrongType, InUse, Blocked, NotBlocked, NotTracked, PrevIncomplete, BadVa, SlotOccupied, SlotEmpty, MacFail, EnclaveActive, NoHandle}
use Rattle.ak_model.specs.Paging.Holdings.{Held, FreeFrame, SecsFrame, VaFrame, PageFrame, is_va, is_free}
use Rattle.ak_model.specs.Paging.Views.{View}

-- the answer, unless the frame is none of the page cache's or is the SECS
abbrev pub frame_row : View → ℕ → Answer → Answer
frame_row view f answer = if not (nat_lt f view.frames) then NotEpc else (if f == 0 then IsSecs else answer)

-- the answer, unless the frame holds no page of the enclave
abbrev pub if_page : Held → Answer → Answer
if_page FreeFrame answer = Free
if_page SecsFrame answer = IsSecs
if_page VaFrame answer = WrongType
if_page (PageFrame p) answer = answer

-- the answer for a frame, unless it holds no page of the enclave
abbrev pub page_row : View → ℕ → Answer → Answer
page_row view f answer = frame_row view f (if_page (view.held f) answer)

-- a slot of a frame that is a VA page
abbrev pub has_slot : View → ℕ → ℕ → Bool
has_slot view va i = is_va (view.held va) && nat_lt i 512

-- EBLOCK of a frame
abbrev pub block_row : View → ℕ → Answer
block_row view f = page_row view f (if view.blocked f then Blocked else Ok)

-- EWB of a frame into a slot
abbrev pub write_out_row : View → ℕ → ℕ → ℕ → Answer
write_out_row view f va i =
    page_row view f
    (if not (view.blocked f) then NotBlocked
    else (if not (view.tracked f) then NotTracked
    else (if not (has_slot view va i) then BadVa
    else (if is_some (view.slot va i) then SlotOccupied
    else OkHandle (record { 0 = view.given })))))

-- the slot holds this handle's version, and the handle seals this page
abbrev pub mac_row : View → Option ℕ → ℕ → ℕ → Answer
mac_row view None k p = SlotEmpty
mac_row view (Some j) k p = if (j == k) && (view.page_of k == p) then Ok else MacFail

-- ELDU and ELDB of a handle into a frame
abbrev pub load_row : View → ℕ → ℕ → ℕ → ℕ → ℕ → Answer
load_row view f k p va i =
    frame_row view f
    (if not (is_free (view.held f)) then InUse
    else (if not (has_slot view va i) then BadVa
    else (if not (view.live k) then NoHandle
    else mac_row view (view.slot va i) k p)))

-- EREMOVE, by what the frame holds: a page stays while a processor is inside
abbrev pub remove_by_row : Bool → Held → Answer
remove_by_row active FreeFrame = Free
remove_by_row active SecsFrame = IsSecs
remove_by_row active VaFrame = Ok
remove_by_row active (PageFrame p) = if active then EnclaveActive else Ok

-- EREMOVE of a frame
abbrev pub remove_row : View → ℕ → Answer
remove_row view f = frame_row view f (remove_by_row view.active (view.held f))

-- EPA of a frame
abbrev pub va_row : View → ℕ → Answer
va_row view f = frame_row view f (if is_free (view.held f) then Ok else InUse)

-- the row of a leaf; of another move it says nothing
abbrev pub leaf_row : View → Move → Answer
leaf_row view (Eblock f) = block_row view f.0
leaf_row view Etrack = if view.incomplete then PrevIncomplete else Ok
leaf_row view (Ewb f va i) = write_out_row view f.0 va.0 i
leaf_row view (Eldu f k p va i) = load_row view f.0 k.0 p.0 va.0 i
leaf_row view (Eldb f k p va i) = load_row view f.0 k.0 p.0 va.0 i
leaf_row view (Eremove f) = remove_row view f.0
leaf_row view (Epa f) = va_row view f.0
leaf_row view (Discard k) = if view.live k.0 then Ok else NoHandle
leaf_row view _ = Ok

-- the move is a leaf
abbrev pub is_leaf : Move → Bool
is_leaf (Eblock f) = true
is_leaf Etrack = true
is_leaf (Ewb f va i) = true
is_leaf (Eldu f k p va i) = true
is_leaf (Eldb f k p va i) = true
is_leaf (Eremove f) = true
is_leaf (Epa f) = true
is_leaf (Discard k) = true
is_leaf _ = false
