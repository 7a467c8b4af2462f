-- The removal of a frame's page as a move.
use Rattle.std.proofs.Common.{◌≡◌, ◌⊎◌, inl, inr, ℕ, ◌+◌, List, refl}
use Rattle.std.specs.Prelude.{Bool, true, false, Some, None, ◌==◌, if◌then◌else◌}
use Rattle.ak_core.specs.Layout.{Layout}
use Rattle.ak_core.specs.declared.page.Entry.{Entry}
use Rattle.ak_core.specs.declared.page.Frame.{Frame}
use Rattle.ak_core.specs.declared.moves.Move.TheVariants.{Eremove}
use Rattle.ak_core.specs.declared.moves.Answer.TheVariants.{Ok}
use Rattle.ak_model.specs.Paging.Histories.{History}
use Rattle.ak_model.specs.Paging.Holdings.{Held, FreeFrame, SecsFrame, VaFrame, PageFrame, is_page_in, Place, Gone}
use Rattle.ak_model.specs.Paging.Frames.{held, blocked_at}
use Rattle.ak_model.specs.Paging.Handles.{given, page_of, discarded, slot, place}
use Rattle.ak_model.specs.Laws.OneLiveCopy.{Agrees}
use Rattle.ak_model.proofs.Paging.LiveCopies.{frees, removes}
use Rattle.ak_epcm.specs.Entries.{entry_at}
use Rattle.ak_model.specs.Control.LeafRows.{leaf_row}
use Rattle.ak_relation.specs.State.TrackSteps.{stamp_of}
use Rattle.ak_relation.specs.State.MachineState.{State, copy}
use Rattle.ak_relation.specs.State.Tables.{TablesStand}
use Rattle.ak_relation.specs.State.TableChanges.{FreesEntry}
use Rattle.ak_relation.specs.State.MachineView.{view_in}
use Rattle.ak_relation.specs.Premises.Leaves.{LeafChanges}
use Rattle.ak_relation.specs.Relation.Does.{IsMove}
use Rattle.ak_relation.proofs.Leaves.LeafMoves.{leaf_moves}
use Rattle.ak_relation.proofs.Leaves.WriteOut.{freed_or, freed_entry, still_va}

module _ (layout : Layout) (past : History) (s : State) (f : Frame) (entries : List Entry) (h : TablesStand layout past s)
    (sets : FreesEntry s.entries entries f.0) where
  copies : (frame : Held) → held layout past f.0 ≡ frame → Agrees (λ g. if g == f.0 then FreeFrame else held layout past g) (λ p. if is_page_in frame p then Gone else place layout past p)
      (slot layout past) (given layout past) (page_of layout past) (discarded past)
  copies FreeFrame e = frees _ _ _ _ _ _ h.one_copy f.0 (λ q x. cc)
  copies SecsFrame e = frees _ _ _ _ _ _ h.one_copy f.0 (λ q x. cc)
  copies VaFrame e = frees _ _ _ _ _ _ h.one_copy f.0 (λ q x. cc)
  copies (PageFrame q) e = removes _ _ _ _ _ _ h.one_copy f.0 q e

  fewer : (b : Bool) (at : Place) → (copy s (if b then Gone else at) ≡ copy s at) ⊎ (copy s (if b then Gone else at) ≡ None)
  fewer true at = inr refl
  fewer false at = inl refl

  stamps : (g t : ℕ) (b : Bool) → (if b then None else stamp_of past g) ≡ Some t → s.stamps g ≡ h.tracking.built + t
  stamps g t true e = absurd (cc)
  stamps g t false e = h.tracking.stamped g t e

  -- what a removal changes
  pub remove_changes : LeafChanges layout past (Eremove f, Ok) s (record s { entries = entries })
  remove_changes = record {
    processors = refl;
    count = refl;
    queue = refl;
    copies = λ p. fewer (is_page_in (held layout past f.0) p) (place layout past p);
    tables = record {
      entries = record { entry = λ g. freed_entry layout (g == f.0) (entry_at s.entries g) (entry_at entries g) (held layout past g) (blocked_at past g) (freed_or s.entries entries f.0 sets g (g == f.0) refl) (h.entries.entry g) };
      slots = record { versions = λ va i v lt. h.slots.versions va i (still_va (va == f.0) (held layout past va) v).1 lt };
      sealed_pages = h.sealed_pages;
      mapping = h.mapping;
      presence = h.presence;
      frames = h.frames;
      tracking = record { built = h.tracking.built; steps_are = h.tracking.steps_are; stamped = λ g t e. stamps g t (g == f.0) e };
      one_copy = copies (held layout past f.0) refl;
    };
  }

-- the removal, by its row over the machine's own tables
pub remove_moves : (layout : Layout) (old : State) (f : Frame) (entries : List Entry) → leaf_row (view_in layout old) (Eremove f) ≡ Ok →
    FreesEntry old.entries entries f.0 →
    IsMove layout old (record old { entries = entries }) (Eremove f) Ok None
remove_moves layout old f entries row sets =
    leaf_moves layout old (record old { entries = entries }) (Eremove f) Ok refl row (λ past tables there. remove_changes layout past old f entries tables sets)
