-- Each leaf that does what its change says is a move.
use Rattle.std.proofs.Common.{◌≡◌, ◌∙◌, ℕ, refl, sym, subst}
use Rattle.std.specs.Prelude.{Bool, true, false, not, ◌&&◌, Option, Some, None, is_some, nat_lt, ◌==◌, if◌then◌else◌}
use Rattle.ak_core.specs.Layout.{Layout}
use Rattle.ak_core.specs.declared.moves.Move.{Move}
use Rattle.ak_core.specs.declared.moves.Move.TheVariants.{SetPte, ReadPte, Eblock, Etrack, Ewb, Eldu, Eldb, Eremove, Epa, Discard, Eenter, Eresume, Run, Interrupt}
use Rattle.ak_core.specs.declared.moves.Answer.{Answer}
use Rattle.ak_core.specs.declared.moves.Answer.TheVariants.{Ok, OkHandle, NotEpc, IsSecs, Free, WrongType, InUse, Blocked, NotBlocked, NotTracked, PrevIncomplete, BadVa, SlotOccupied, SlotEmpty, MacFail, EnclaveActive, NoHandle}
use Rattle.ak_model.specs.Control.LeafRows.{frame_row, if_page, has_slot, mac_row, remove_by_row, leaf_row, is_leaf}
use Rattle.ak_model.specs.Kernels.Repeats.{is_done}
use Rattle.ak_model.specs.Paging.Holdings.{Held, FreeFrame, SecsFrame, VaFrame, PageFrame, is_free}
use Rattle.ak_model.specs.Paging.Views.{View}
use Rattle.ak_relation.specs.State.MachineState.{State}
use Rattle.ak_relation.specs.State.MachineView.{view_in}
use Rattle.ak_relation.specs.Premises.LeafDoes.{DoesLeaf, done_answer}
use Rattle.ak_relation.specs.Relation.Does.{IsMove}
use Rattle.ak_relation.proofs.Leaves.DoneMoves.{etrack_moves, eblock_moves}
use Rattle.ak_relation.proofs.Leaves.RemoveMoves.{remove_moves}
use Rattle.ak_relation.proofs.Leaves.DiscardMoves.{discard_moves}
use Rattle.ak_relation.proofs.Leaves.WriteOutMoves.{ewb_moves}
use Rattle.ak_relation.proofs.Leaves.LoadMoves.{eldu_moves}
use Rattle.ak_relation.proofs.Leaves.BlockedLoads.{eldb_moves}
use Rattle.ak_relation.proofs.Leaves.MakeMoves.{make_moves}

-- where the answer is that the leaf was done, it is this one
abbrev pub OnlyDone : Answer → Answer → Type 0
OnlyDone a done = is_done a ≡ true → a ≡ done

refusal : (a done : Answer) → is_done a ≡ false → OnlyDone a done
refusal a done undone done_is = absurd (let both : true ≡ false = sym done_is ∙ undone in cc)

if_done : (b : Bool) (x y done : Answer) → OnlyDone x done → OnlyDone y done → OnlyDone (if b then x else y) done
if_done true x y done first second = first
if_done false x y done first second = second

frame_done : (view : View) (f : ℕ) (a done : Answer) → OnlyDone a done → OnlyDone (frame_row view f a) done
frame_done view f a done only =
    if_done (not (nat_lt f view.frames)) NotEpc (if f == 0 then IsSecs else a) done (refusal NotEpc done refl)
    (if_done (f == 0) IsSecs a done (refusal IsSecs done refl) only)

page_done : (h : Held) (a done : Answer) → OnlyDone a done → OnlyDone (if_page h a) done
page_done FreeFrame a done only = refusal Free done refl
page_done SecsFrame a done only = refusal IsSecs done refl
page_done VaFrame a done only = refusal WrongType done refl
page_done (PageFrame p) a done only = only

self_done : (a : Answer) → OnlyDone a a
self_done a done_is = refl

mac_done : (view : View) (o : Option ℕ) (k p : ℕ) → OnlyDone (mac_row view o k p) Ok
mac_done view None k p = refusal SlotEmpty Ok refl
mac_done view (Some j) k p = if_done ((j == k) && (view.page_of k == p)) Ok MacFail Ok (self_done Ok) (refusal MacFail Ok refl)

load_done : (view : View) (f k p va i : ℕ) →
    OnlyDone (frame_row view f (if not (is_free (view.held f)) then InUse else (if not (has_slot view va i) then BadVa else (if not (view.live k) then NoHandle else mac_row view (view.slot va i) k p)))) Ok
load_done view f k p va i =
    frame_done view f _ Ok
    (if_done (not (is_free (view.held f))) InUse _ Ok (refusal InUse Ok refl)
    (if_done (not (has_slot view va i)) BadVa _ Ok (refusal BadVa Ok refl)
    (if_done (not (view.live k)) NoHandle _ Ok (refusal NoHandle Ok refl) (mac_done view (view.slot va i) k p))))

remove_done : (active : Bool) (h : Held) → OnlyDone (remove_by_row active h) Ok
remove_done active FreeFrame = refusal Free Ok refl
remove_done active SecsFrame = refusal IsSecs Ok refl
remove_done active VaFrame = self_done Ok
remove_done active (PageFrame p) = if_done active EnclaveActive Ok Ok (refusal EnclaveActive Ok refl) (self_done Ok)

-- a leaf that is done has one answer
pub row_done : (view : View) (m : Move) → is_leaf m ≡ true → OnlyDone (leaf_row view m) (done_answer view.given m)
row_done view (Eblock f) leaf =
    frame_done view f.0 _ Ok (page_done (view.held f.0) _ Ok (if_done (view.blocked f.0) Blocked Ok Ok (refusal Blocked Ok refl) (self_done Ok)))
row_done view Etrack leaf = if_done view.incomplete PrevIncomplete Ok Ok (refusal PrevIncomplete Ok refl) (self_done Ok)
row_done view (Ewb f va i) leaf =
    let done : Answer = OkHandle (record { 0 = view.given }) in
    frame_done view f.0 _ done
    (page_done (view.held f.0) _ done
    (if_done (not (view.blocked f.0)) NotBlocked _ done (refusal NotBlocked done refl)
    (if_done (not (view.tracked f.0)) NotTracked _ done (refusal NotTracked done refl)
    (if_done (not (has_slot view va.0 i)) BadVa _ done (refusal BadVa done refl)
    (if_done (is_some (view.slot va.0 i)) SlotOccupied done done (refusal SlotOccupied done refl) (self_done done))))))
row_done view (Eldu f k p va i) leaf = load_done view f.0 k.0 p.0 va.0 i
row_done view (Eldb f k p va i) leaf = load_done view f.0 k.0 p.0 va.0 i
row_done view (Eremove f) leaf = frame_done view f.0 _ Ok (remove_done view.active (view.held f.0))
row_done view (Epa f) leaf = frame_done view f.0 _ Ok (if_done (is_free (view.held f.0)) Ok InUse Ok (self_done Ok) (refusal InUse Ok refl))
row_done view (Discard k) leaf = if_done (view.live k.0) Ok NoHandle Ok (self_done Ok) (refusal NoHandle Ok refl)
row_done view (SetPte p f flags) leaf = absurd (cc)
row_done view (ReadPte p) leaf = absurd (cc)
row_done view (Eenter lp v) leaf = absurd (cc)
row_done view (Eresume lp) leaf = absurd (cc)
row_done view (Run lp n) leaf = absurd (cc)
row_done view (Interrupt lp) leaf = absurd (cc)

module _ (layout : Layout) where
  done_moves : (old new : State) (m : Move) → is_leaf m ≡ true → leaf_row (view_in layout old) m ≡ done_answer old.next m → DoesLeaf old new m →
      IsMove layout old new m (done_answer old.next m) None
  done_moves old new (Eblock f) leaf row does =
      subst (λ s. IsMove layout old s (Eblock f) Ok None) (sym does.others) (eblock_moves layout old f new.entries row does.entry)
  done_moves old new Etrack leaf row does = subst (λ s. IsMove layout old s Etrack Ok None) (sym does) (etrack_moves layout old row)
  done_moves old new (Ewb f va i) leaf row does = ewb_moves layout old new f va i does row
  done_moves old new (Eldu f k p va i) leaf row does = eldu_moves layout old new f va k p i row does
  done_moves old new (Eldb f k p va i) leaf row does = eldb_moves layout old new f va k p i row does
  done_moves old new (Eremove f) leaf row does =
      subst (λ s. IsMove layout old s (Eremove f) Ok None) (sym does.others) (remove_moves layout old f new.entries row does.entry)
  done_moves old new (Epa f) leaf row does = make_moves layout old new f row does
  done_moves old new (Discard k) leaf row does = subst (λ s. IsMove layout old s (Discard k) Ok None) (sym does) (discard_moves layout old k row)
  done_moves old new (SetPte p f flags) leaf row does = absurd (cc)
  done_moves old new (ReadPte p) leaf row does = absurd (cc)
  done_moves old new (Eenter lp v) leaf row does = absurd (cc)
  done_moves old new (Eresume lp) leaf row does = absurd (cc)
  done_moves old new (Run lp n) leaf row does = absurd (cc)
  done_moves old new (Interrupt lp) leaf row does = absurd (cc)

  -- a leaf that is answered by its row, and done, and does what its change says
  pub does_moves : (old new : State) (m : Move) (a : Answer) → is_leaf m ≡ true → is_done a ≡ true → leaf_row (view_in layout old) m ≡ a → DoesLeaf old new m →
      IsMove layout old new m a None
  does_moves old new m a leaf done row does =
      let done_row : is_done (leaf_row (view_in layout old) m) ≡ true = subst (λ x. is_done x ≡ true) (sym row) done in
      let is = row_done (view_in layout old) m leaf done_row in
      subst (λ x. IsMove layout old new m x None) (sym is ∙ row) (done_moves old new m leaf is does)
