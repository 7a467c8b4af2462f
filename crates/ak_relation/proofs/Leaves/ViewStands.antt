-- The view of a machine's tables agrees with that of the history, where the tables stand: so the rows over the machine's own tables
-- are the answers of the definitions.
use Rattle.std.proofs.Math.Path.{fun_ext}
use Rattle.std.proofs.Common.{◌≡◌, ℕ, ◌+◌, ◌-◌, ◌++◌, refl, ap, sym, ◌∙◌, subst, arith}
use Rattle.std.proofs.lemmas.Bool.{ltb-true}
use Rattle.std.proofs.lemmas.Bool.Decides.{nat_tests}
use Rattle.std.specs.Prelude.{Bool, true, false, replicate, Option, Some, None, is_some, ◌==◌, if◌then◌else◌}
use Rattle.std.specs.List.{list_any}
use Rattle.ak_core.specs.Layout.{Layout}
use Rattle.ak_core.specs.declared.page.Entry.{Entry}
use Rattle.ak_core.specs.declared.page.PageType.{PageType}
use Rattle.ak_core.specs.declared.page.PageType.TheVariants.{Tcs, Reg}
use Rattle.ak_core.specs.declared.moves.Move.{Move}
use Rattle.ak_model.specs.Paging.Pages.{tcs_page}
use Rattle.ak_model.specs.Paging.Histories.{History}
use Rattle.ak_model.specs.Paging.Holdings.{Held, FreeFrame, SecsFrame, VaFrame, PageFrame}
use Rattle.ak_model.specs.Paging.Frames.{held, blocked_at}
use Rattle.ak_model.specs.Paging.Handles.{live, page_of, slot}
use Rattle.ak_model.specs.Paging.Inside.{processors, inside}
use Rattle.ak_model.specs.Paging.Tracking.{tracked}
use Rattle.ak_model.specs.Control.ControlState.{Control}
use Rattle.ak_model.specs.Control.Answers.{answer}
use Rattle.ak_epcm.specs.Entries.{entry_at}
use Rattle.ak_walk.specs.Agrees.{EntryAgrees, HoldsPage}
use Rattle.ak_model.specs.Paging.Views.{view_of}
use Rattle.ak_model.specs.Control.LeafRows.{leaf_row, is_leaf}
use Rattle.ak_model.specs.Laws.SameViews.{SameView}
use Rattle.ak_relation.specs.State.TrackSteps.{steps_of, stamp_of}
use Rattle.ak_relation.specs.State.MachineState.{State}
use Rattle.ak_relation.specs.State.Tables.{SealedPageAgrees, TablesStand}
use Rattle.ak_track.specs.Steps.{Cycled, tracked_by, incomplete_by}
use Rattle.ak_sealed.specs.SealedPages.{SealedPage, version, handle_in}
use Rattle.ak_relation.specs.State.MachineView.{held_by, held_in, page_on, view_in}
use Rattle.ak_model.proofs.Control.LeafRows.{answer-leaf, leaf_row-same}
use Rattle.ak_relation.proofs.Leaves.SomeLeaves.{stamp-blocked}
use Rattle.ak_relation.proofs.Tracking.TrackedBy.{tracked-steps, incomplete-steps}

-- ---- Frames

held_of_type : (b : Bool) (kind : PageType) (p : ℕ) → kind ≡ (if b then Tcs else Reg) → held_by kind p ≡ PageFrame p
held_of_type true kind p e = ap (λ k. held_by k p) e
held_of_type false kind p e = ap (λ k. held_by k p) e

held_agrees : (layout : Layout) (e : Entry) (h : Held) (b : Option ℕ) → EntryAgrees layout e h b → held_in e ≡ h
held_agrees layout e FreeFrame b a = ap (λ (v : Bool). if v then held_by e.kind e.page.0 else FreeFrame) a
held_agrees layout e SecsFrame b a = ap (λ (v : Bool). if v then held_by e.kind e.page.0 else FreeFrame) a.valid ∙ ap (λ k. held_by k e.page.0) a.kind
held_agrees layout e VaFrame b a = ap (λ (v : Bool). if v then held_by e.kind e.page.0 else FreeFrame) a.valid ∙ ap (λ k. held_by k e.page.0) a.kind
held_agrees layout e (PageFrame p) b a =
    ap (λ (v : Bool). if v then held_by e.kind e.page.0 else FreeFrame) a.valid
    ∙ held_of_type (p == tcs_page layout) e.kind e.page.0 a.kind ∙ ap PageFrame a.page

page_holds : (layout : Layout) (e : Entry) (h : Held) (b : Option ℕ) (p : ℕ) → h ≡ PageFrame p → EntryAgrees layout e h b → e.blocked ≡ is_some b
page_holds layout e h b p is a = let holds : HoldsPage layout e p b = subst (λ k. EntryAgrees layout e k b) is a in holds.blocked

-- ---- Handles

handle-version : (o : Option ℕ) → handle_in (version o) ≡ o
handle-version None = refl
handle-version (Some k) =
    let e : (k + 1 == 0) ≡ false = grind (arith, nat_tests) in let f : k + 1 - 1 ≡ k = omega arith in rw (e, f) refl

live-sealed_page : (layout : Layout) (o : Option SealedPage) (live : Bool) (p : ℕ) → SealedPageAgrees layout o live p → is_some o ≡ live
live-sealed_page layout None live p h = sym h
live-sealed_page layout (Some sealed_page) live p h = sym h.0

page-sealed_page : (layout : Layout) (o : Option SealedPage) (live : Bool) (p : ℕ) → SealedPageAgrees layout o live p → live ≡ true → page_on o ≡ p
page-sealed_page layout None live p h is = absurd (cc)
page-sealed_page layout (Some sealed_page) live p h is = let s = h.1 in s.page

-- ---- The view

module _ (layout : Layout) (past : History) (s : State) (h : TablesStand layout past s) where
  tracked_same : (f : ℕ) (o : Option ℕ) → stamp_of past f ≡ o → is_some o ≡ true → tracked_by layout.lps s.track (Some (s.stamps f)) ≡ tracked layout past f
  tracked_same f None is some = absurd (cc)
  tracked_same f (Some stamp) is some =
      ap (λ track. tracked_by layout.lps track (Some (s.stamps f))) h.tracking.steps_are
      ∙ ap (λ n. tracked_by layout.lps (steps_of past ++ replicate h.tracking.built Cycled) (Some n)) (h.tracking.stamped f stamp is)
      ∙ sym (tracked-steps layout h.tracking.built past f stamp is)

  active_same : (λ (lp : ℕ). (s.processors lp).inside) ≡ inside past
  active_same = fun_ext (λ lp. h.presence.within lp)

  -- the two views agree where rows read
  pub view-same : SameView (view_in layout s) (view_of layout past)
  view-same = record {
    frames = refl;
    held = λ f. held_agrees layout (entry_at s.entries f) (held layout past f) (blocked_at past f) (h.entries.entry f);
    blocked = λ f p is. page_holds layout (entry_at s.entries f) (held layout past f) (blocked_at past f) p is (h.entries.entry f);
    tracked = λ f p is blocked. tracked_same f (stamp_of past f) refl (stamp-blocked past f ∙ blocked);
    slot = λ va i is low. ap handle_in (h.slots.versions va i is (ltb-true i 512 low)) ∙ handle-version (slot layout past va i);
    live = λ k. live-sealed_page layout (s.sealed_pages k) (live layout past k) (page_of layout past k) (h.sealed_pages.sealed_page k);
    page_of = λ k is. page-sealed_page layout (s.sealed_pages k) (live layout past k) (page_of layout past k) (h.sealed_pages.sealed_page k) is;
    given = h.sealed_pages.numbered;
    incomplete = ap (incomplete_by layout.lps) h.tracking.steps_are ∙ sym (incomplete-steps layout h.tracking.built past);
    active = ap (λ inside. list_any inside (processors layout)) active_same;
  }

  -- the row over the machine's tables is the answer of the definitions
  pub answer-view : (control : Control) (m : Move) → is_leaf m ≡ true → answer layout past control m ≡ leaf_row (view_in layout s) m
  answer-view control m leaf = answer-leaf layout past control m leaf ∙ sym (leaf_row-same (view_in layout s) (view_of layout past) view-same m)
