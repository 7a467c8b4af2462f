-- A load that blocks, as a move.
use Rattle.std.proofs.Common.{◌≡◌, ℕ, ◌+◌, length, refl, sym, ◌∙◌, subst, inl}
use Rattle.std.specs.Prelude.{true, None, ◌==◌}
use Rattle.ak_core.specs.Layout.{Layout}
use Rattle.ak_core.specs.declared.page.Frame.{Frame}
use Rattle.ak_core.specs.declared.page.Handle.{Handle}
use Rattle.ak_core.specs.declared.page.Page.{Page}
use Rattle.ak_core.specs.declared.moves.Move.TheVariants.{Eldb}
use Rattle.ak_core.specs.declared.moves.Answer.TheVariants.{Ok}
use Rattle.ak_model.specs.Paging.Histories.{History}
use Rattle.ak_model.specs.Paging.Frames.{held}
use Rattle.ak_model.specs.Paging.Handles.{live, page_of, place}
use Rattle.ak_model.specs.Paging.PageTable.{pte}
use Rattle.ak_model.specs.Paging.Inside.{since}
use Rattle.ak_model.specs.Control.LeafRows.{leaf_row}
use Rattle.ak_relation.specs.State.MachineState.{State}
use Rattle.ak_relation.specs.State.Tables.{SealedPageAgrees, MappingStands, PresenceStands, TablesStand}
use Rattle.ak_relation.specs.State.MachineView.{view_in}
use Rattle.ak_relation.specs.Premises.Leaves.{LeafChanges}
use Rattle.ak_relation.specs.Premises.Loading.{LoadsFrom}
use Rattle.ak_relation.specs.Relation.Does.{IsMove}
use Rattle.ak_relation.proofs.Leaves.LeafMoves.{leaf_moves}
use Rattle.ak_relation.proofs.Leaves.LoadMoves.{fair_row}
use Rattle.ak_relation.proofs.Leaves.Loaded.{IsFair, other_va, loaded_entry, loaded_slot, loaded_whole, loaded_copy, loaded_one, loaded_stamp}

module _ (layout : Layout) (old new : State) (f va : Frame) (k : Handle) (p : Page) (i : ℕ) where
  -- what it changes
  eldb_changes : (past : History) → TablesStand layout past old → LoadsFrom old new f.0 k.0 va.0 i true → IsFair layout past f.0 k.0 p.0 va.0 i → LeafChanges layout past (Eldb f k p va i, Ok) old new
  eldb_changes past h w fair = record {
    processors = w.processors;
    count = w.count;
    queue = w.queue;
    copies = λ q. inl (loaded_copy layout past old new f.0 k.0 p.0 va.0 i true h w fair q (place layout past q) (q == p.0) refl refl);
    tables = record {
      entries = record { entry = λ g. loaded_entry layout past old new f.0 k.0 p.0 va.0 i true h w fair g (length past + 1) (g == f.0) (w.entry g) };
      slots = record {
        versions = λ wa j v lt.
            let is = other_va (wa == f.0) p.0 (held layout past wa) v in
            loaded_slot layout past old new f.0 k.0 p.0 va.0 i true h w fair wa j (wa == va.0) (j == i) refl refl is.0 is.1 lt;
      };
      sealed_pages = record {
        sealed_page = λ j. subst (λ all. SealedPageAgrees layout (all j) (live layout past j) (page_of layout past j)) (sym w.sealed_pages) (h.sealed_pages.sealed_page j);
        numbered = w.next ∙ h.sealed_pages.numbered;
      };
      mapping = subst (λ table. MappingStands layout table (pte layout past)) (sym w.table) h.mapping;
      presence = subst (λ all. PresenceStands all (since past)) (sym w.processors) h.presence;
      tracking = record {
        built = h.tracking.built;
        steps_are = w.track ∙ h.tracking.steps_are;
        stamped = λ g t e. loaded_stamp layout past old new f.0 k.0 p.0 va.0 i true h w fair g t e;
      };
      frames = record { whole = λ g. loaded_whole layout past old new f.0 k.0 p.0 va.0 i true h w fair g (g == f.0) refl };
      one_copy = loaded_one layout past old new f.0 k.0 p.0 va.0 i true h w fair;
    };
  }

  -- a load with a block, by its row over the machine's own tables
  pub eldb_moves : leaf_row (view_in layout old) (Eldb f k p va i) ≡ Ok → LoadsFrom old new f.0 k.0 va.0 i true → IsMove layout old new (Eldb f k p va i) Ok None
  eldb_moves row w =
      leaf_moves layout old new (Eldb f k p va i) Ok refl row
      (λ past tables there.
      eldb_changes past tables w
      (fair_row layout past f.0 k.0 p.0 va.0 i there))
