-- A new VA page as a move.
use Rattle.std.proofs.Common.{◌≡◌, inl, inr, ℕ, ◌+◌, ◌*◌, ◌<◌, refl, ap, sym, ◌∙◌, subst}
use Rattle.std.proofs.lemmas.Bool.{eqb-true}
use Rattle.std.proofs.lemmas.Bool.Decides.{eqb_tells}
use Rattle.std.specs.Prelude.{Bool, true, false, option_map, Some, None, ◌==◌, if◌then◌else◌}
use Rattle.ak_core.specs.Layout.{Layout}
use Rattle.ak_core.specs.declared.page.Entry.{Entry}
use Rattle.ak_core.specs.declared.page.Frame.{Frame}
use Rattle.ak_core.specs.declared.page.PageType.TheVariants.{Va}
use Rattle.ak_core.specs.declared.moves.Move.TheVariants.{Epa}
use Rattle.ak_core.specs.declared.moves.Answer.TheVariants.{Ok, InUse}
use Rattle.ak_model.specs.Paging.Histories.{History}
use Rattle.ak_model.specs.Paging.Holdings.{Held, FreeFrame, SecsFrame, VaFrame, PageFrame, is_free, Place, InFrame, InHandle, Gone}
use Rattle.ak_model.specs.Paging.Frames.{held, blocked_at}
use Rattle.ak_model.specs.Paging.Handles.{live, page_of, slot, place}
use Rattle.ak_model.specs.Paging.Inside.{since}
use Rattle.ak_model.specs.Paging.PageTable.{pte}
use Rattle.ak_model.proofs.Paging.LiveCopies.{makes_va}
use Rattle.ak_epcm.specs.Entries.{entry_at}
use Rattle.ak_walk.specs.Agrees.{EntryAgrees, IsOfType}
use Rattle.ak_relation.specs.State.TrackSteps.{stamp_of}
use Rattle.ak_model.specs.Paging.Views.{view_of}
use Rattle.ak_model.specs.Control.LeafRows.{leaf_row}
use Rattle.ak_relation.specs.State.MachineState.{State, copy}
use Rattle.ak_relation.specs.State.Tables.{MappingStands, PresenceStands, SealedPageAgrees, TablesStand}
use Rattle.ak_model.specs.Flat.Instructions.{number_at}
use Rattle.ak_sealed.specs.SealedPages.{version}
use Rattle.ak_relation.specs.State.MachineView.{view_in}
use Rattle.ak_relation.specs.Premises.Leaves.{LeafChanges}
use Rattle.ak_relation.specs.Premises.Making.{MakesSlots}
use Rattle.ak_relation.specs.Relation.Does.{IsMove}
use Rattle.ak_model.proofs.Control.LeafRows.{frame_ok}
use Rattle.ak_relation.proofs.Leaves.LeafMoves.{leaf_moves}

free_is : (h : Held) → (if is_free h then Ok else InUse) ≡ Ok → h ≡ FreeFrame
free_is FreeFrame e = refl
free_is SecsFrame e = absurd (cc)
free_is VaFrame e = absurd (cc)
free_is (PageFrame p) e = absurd (cc)

module _ (layout : Layout) (past : History) (old new : State) (f : Frame) (h : TablesStand layout past old) (m : MakesSlots old new f.0) (free : held layout past f.0 ≡ FreeFrame) where
  apart : (g p : ℕ) → held layout past g ≡ PageFrame p → (g == f.0) ≡ false
  apart g p there =
      elim (eqb_tells g f.0) [
        | inl is ↦ absurd (let clash : PageFrame p ≡ FreeFrame = sym there ∙ ap (held layout past) is.1 ∙ free in cc)
        | inr is_not ↦ is_not.0
      ]

  same_copy : (p : ℕ) (at : Place) → place layout past p ≡ at → copy new at ≡ copy old at
  same_copy p (InFrame g) e = ap Some (m.others g (apart g p (h.one_copy.framed p g e)))
  same_copy p (InHandle k) e = ap (λ all. option_map (λ sealed_page. sealed_page.bytes) (all k)) m.sealed_pages
  same_copy p Gone e = refl

  entry : (g : ℕ) (b : Bool) → (g == f.0) ≡ b → EntryAgrees layout (entry_at new.entries g) (if b then VaFrame else held layout past g) (if b then None else blocked_at past g)
  entry g true e =
      subst (λ x. IsOfType (entry_at new.entries x) Va) (sym (eqb-true g f.0 e)) (record { valid = m.valid; kind = m.kind })
  entry g false e = subst (λ (x : Entry). EntryAgrees layout x (held layout past g) (blocked_at past g)) (sym (m.entry g e)) (h.entries.entry g)

  slots : (va j : ℕ) (b : Bool) → (va == f.0) ≡ b → (if b then VaFrame else held layout past va) ≡ VaFrame → j < 512 →
      number_at (new.frames va) (8 * j) 8 ≡ version (if b then None else slot layout past va j)
  slots va j true e v lt = ap (λ g. number_at (new.frames g) (8 * j) 8) (eqb-true va f.0 e) ∙ m.empty j lt
  slots va j false e v lt = ap (λ bytes. number_at bytes (8 * j) 8) (m.others va e) ∙ h.slots.versions va j v lt

  stamps : (g t : ℕ) (b : Bool) → (if b then None else stamp_of past g) ≡ Some t → new.stamps g ≡ h.tracking.built + t
  stamps g t true e = absurd (cc)
  stamps g t false e = ap (λ all. all g) m.stamps ∙ h.tracking.stamped g t e

  -- what a new VA page changes
  pub make_changes : LeafChanges layout past (Epa f, Ok) old new
  make_changes = record {
    processors = m.processors;
    count = m.count;
    queue = m.queue;
    copies = λ p. inl (same_copy p (place layout past p) refl);
    tables = record {
      entries = record { entry = λ g. entry g (g == f.0) refl };
      slots = record { versions = λ va j v lt. slots va j (va == f.0) refl v lt };
      sealed_pages = record {
        sealed_page = λ j. subst (λ all. SealedPageAgrees layout (all j) (live layout past j) (page_of layout past j)) (sym m.sealed_pages) (h.sealed_pages.sealed_page j);
        numbered = m.next ∙ h.sealed_pages.numbered;
      };
      mapping = subst (λ table. MappingStands layout table (pte layout past)) (sym m.table) h.mapping;
      presence = subst (λ all. PresenceStands all (since past)) (sym m.processors) h.presence;
      tracking = record { built = h.tracking.built; steps_are = m.track ∙ h.tracking.steps_are; stamped = λ g t e. stamps g t (g == f.0) e };
      frames = record { whole = λ g. m.lengths g ∙ h.frames.whole g };
      one_copy = makes_va _ _ _ _ _ _ h.one_copy f.0 free;
    };
  }

-- the new VA page, by its row over the machine's own tables
pub make_moves : (layout : Layout) (old new : State) (f : Frame) → leaf_row (view_in layout old) (Epa f) ≡ Ok → MakesSlots old new f.0 → IsMove layout old new (Epa f) Ok None
make_moves layout old new f row m =
    leaf_moves layout old new (Epa f) Ok refl row
    (λ past tables there.
    make_changes layout past old new f tables m (free_is (held layout past f.0) (frame_ok (view_of layout past) f.0 _ Ok (λ e. cc) (λ e. cc) there)))
