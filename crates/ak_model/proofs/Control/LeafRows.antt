-- The rows of the leaves: the answers of the definitions are those over the view of the history, and views that agree in what is
-- read give one answer.
use Rattle.std.proofs.Common.{◌≡◌, ℕ, refl, ap, ◌∙◌}
use Rattle.std.specs.Prelude.{Bool, true, false, ◌&&◌, not, Option, Some, None, is_some, nat_lt, ◌==◌, if◌then◌else◌}
use Rattle.ak_core.specs.Layout.{Layout}
use Rattle.ak_core.specs.declared.moves.Move.{Move}
use Rattle.ak_core.specs.declared.moves.Move.TheVariants.{SetPte, ReadPte, Eblock, Etrack, Ewb, Eldu, Eldb, Eremove, Epa, Discard, Eenter, Eresume, Run, Interrupt}
use Rattle.ak_core.specs.declared.moves.Answer.{Answer}
use Rattle.ak_core.specs.declared.moves.Answer.TheVariants.{Ok, OkHandle, NotEpc, IsSecs, InUse, Blocked, NotBlocked, NotTracked, PrevIncomplete, BadVa, SlotOccupied, MacFail, NoHandle}
use Rattle.ak_model.specs.Paging.Histories.{History}
use Rattle.ak_model.specs.Paging.Holdings.{Held, FreeFrame, SecsFrame, VaFrame, PageFrame, is_va, is_free}
use Rattle.ak_model.specs.Control.ControlState.{Control}
use Rattle.ak_model.specs.Control.Answers.{answer}
use Rattle.ak_model.specs.Control.LeafRows.{if_page, frame_row, page_row, has_slot, write_out_row, mac_row, load_row, remove_by_row, leaf_row, is_leaf}
use Rattle.ak_model.specs.Paging.Views.{View, view_of}
use Rattle.ak_model.specs.Laws.SameViews.{SameView}
use Rattle.ak_model.proofs.Paging.SomeoneInside.{other}

-- ---- The answers of the definitions

-- the answer to a leaf is its row over the view of the history
pub answer-leaf : (layout : Layout) (past : History) (control : Control) (m : Move) → is_leaf m ≡ true →
    answer layout past control m ≡ leaf_row (view_of layout past) m
answer-leaf layout past control (Eblock f) h = refl
answer-leaf layout past control Etrack h = refl
answer-leaf layout past control (Ewb f va i) h = refl
answer-leaf layout past control (Eldu f k p va i) h = refl
answer-leaf layout past control (Eldb f k p va i) h = refl
answer-leaf layout past control (Eremove f) h = refl
answer-leaf layout past control (Epa f) h = refl
answer-leaf layout past control (Discard k) h = refl
answer-leaf layout past control (SetPte p f flags) h = cc
answer-leaf layout past control (ReadPte p) h = cc
answer-leaf layout past control (Eenter lp v) h = cc
answer-leaf layout past control (Eresume lp) h = cc
answer-leaf layout past control (Run lp n) h = cc
answer-leaf layout past control (Interrupt lp) h = cc

-- ---- What a row says

-- an answer that is neither of the first two
pub frame_ok : (view : View) (f : ℕ) (x z : Answer) → (NotEpc ≡ z → ⊥) → (IsSecs ≡ z → ⊥) → frame_row view f x ≡ z → x ≡ z
frame_ok view f x z inside none h =
    let a = other (not (nat_lt f view.frames)) NotEpc (if f == 0 then IsSecs else x) z inside h in (other (f == 0) IsSecs x z none a.1).1

-- ---- Two views

same_if : (b c : Bool) (x y z w : Answer) → b ≡ c → (c ≡ true → x ≡ z) → (c ≡ false → y ≡ w) → (if b then x else y) ≡ (if c then z else w)
same_if b true x y z w e t f = ap (λ d. if d then x else y) e ∙ t refl
same_if b false x y z w e t f = ap (λ d. if d then x else y) e ∙ f refl

by_held : (h : Held) (a b : Answer) → ((p : ℕ) → h ≡ PageFrame p → a ≡ b) → if_page h a ≡ if_page h b
by_held FreeFrame a b e = refl
by_held SecsFrame a b e = refl
by_held VaFrame a b e = refl
by_held (PageFrame p) a b e = e p refl

not_false : (b : Bool) → not b ≡ false → b ≡ true
not_false true h = refl
not_false false h = cc

slot_facts : (h : Held) (b : Bool) → not (is_va h && b) ≡ false → (h ≡ VaFrame) × (b ≡ true)
slot_facts VaFrame true h = (refl, refl)
slot_facts VaFrame false h = absurd (cc)
slot_facts FreeFrame b h = absurd (cc)
slot_facts SecsFrame b h = absurd (cc)
slot_facts (PageFrame p) b h = absurd (cc)

module _ (view other : View) (same : SameView view other) where
  frame_same : (f : ℕ) (a b : Answer) → a ≡ b → frame_row view f a ≡ frame_row other f b
  frame_same f a b e = ap (λ n. if not (nat_lt f n) then NotEpc else (if f == 0 then IsSecs else a)) same.frames ∙ ap (frame_row other f) e

  page_same : (f : ℕ) (a b : Answer) → ((p : ℕ) → other.held f ≡ PageFrame p → a ≡ b) → page_row view f a ≡ page_row other f b
  page_same f a b e = frame_same f _ _ (ap (λ h. if_page h a) (same.held f) ∙ by_held (other.held f) a b e)

  slot_same : (va i : ℕ) → not (has_slot view va i) ≡ not (has_slot other va i)
  slot_same va i = ap (λ h. not (is_va h && nat_lt i 512)) (same.held va)

  in_slot : (va i : ℕ) → not (has_slot other va i) ≡ false → view.slot va i ≡ other.slot va i
  in_slot va i h = let facts = slot_facts (other.held va) (nat_lt i 512) h in same.slot va i facts.0 facts.1

  write_out_same : (f va i : ℕ) → write_out_row view f va i ≡ write_out_row other f va i
  write_out_same f va i =
      page_same f _ _ (λ p h.
      same_if _ _ NotBlocked _ NotBlocked _ (ap not (same.blocked f p h)) (λ t. refl) (λ blocked.
      same_if _ _ NotTracked _ NotTracked _ (ap not (same.tracked f p h (not_false (other.blocked f) blocked))) (λ t. refl) (λ tracked.
      same_if _ _ BadVa _ BadVa _ (slot_same va i) (λ t. refl) (λ good.
      same_if _ _ SlotOccupied _ SlotOccupied _ (ap is_some (in_slot va i good)) (λ t. refl) (λ empty.
      ap (λ (g : ℕ). OkHandle (record { 0 = g })) same.given)))))

  mac_same : (o : Option ℕ) (k p : ℕ) → other.live k ≡ true → mac_row view o k p ≡ mac_row other o k p
  mac_same None k p live = refl
  mac_same (Some j) k p live = ap (λ q. if (j == k) && (q == p) then Ok else MacFail) (same.page_of k live)

  load_same : (f k p va i : ℕ) → load_row view f k p va i ≡ load_row other f k p va i
  load_same f k p va i =
      frame_same f _ _
      (same_if _ _ InUse _ InUse _ (ap (λ h. not (is_free h)) (same.held f)) (λ t. refl) (λ free.
      same_if _ _ BadVa _ BadVa _ (slot_same va i) (λ t. refl) (λ good.
      same_if _ _ NoHandle _ NoHandle _ (ap not (same.live k)) (λ t. refl) (λ live.
      ap (λ o. mac_row view o k p) (in_slot va i good) ∙ mac_same (other.slot va i) k p (not_false (other.live k) live)))))

  -- views that agree in what is read give one answer
  pub leaf_row-same : (m : Move) → leaf_row view m ≡ leaf_row other m
  leaf_row-same (Eblock f) = page_same f.0 _ _ (λ p h. ap (λ b. if b then Blocked else Ok) (same.blocked f.0 p h))
  leaf_row-same Etrack = ap (λ b. if b then PrevIncomplete else Ok) same.incomplete
  leaf_row-same (Ewb f va i) = write_out_same f.0 va.0 i
  leaf_row-same (Eldu f k p va i) = load_same f.0 k.0 p.0 va.0 i
  leaf_row-same (Eldb f k p va i) = load_same f.0 k.0 p.0 va.0 i
  leaf_row-same (Eremove f) =
      frame_same f.0 _ _ (ap (λ b. remove_by_row b (view.held f.0)) same.active ∙ ap (remove_by_row other.active) (same.held f.0))
  leaf_row-same (Epa f) = frame_same f.0 _ _ (ap (λ h. if is_free h then Ok else InUse) (same.held f.0))
  leaf_row-same (Discard k) = ap (λ b. if b then Ok else NoHandle) (same.live k.0)
  leaf_row-same (SetPte p f flags) = refl
  leaf_row-same (ReadPte p) = refl
  leaf_row-same (Eenter lp v) = refl
  leaf_row-same (Eresume lp) = refl
  leaf_row-same (Run lp n) = refl
  leaf_row-same (Interrupt lp) = refl
