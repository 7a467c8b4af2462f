-- The write-out as a move.
use Rattle.std.proofs.Common.{◌≡◌, ℕ, ◌+◌, refl, ap, sym, ◌∙◌, subst, inl}
use Rattle.std.specs.Prelude.{Bool, false, ◌&&◌, not, nat_lt, None, is_some, ◌==◌, if◌then◌else◌}
use Rattle.ak_core.specs.Layout.{Layout}
use Rattle.ak_core.specs.declared.page.Frame.{Frame}
use Rattle.ak_core.specs.declared.page.Handle.{Handle}
use Rattle.ak_core.specs.declared.moves.Move.TheVariants.{Ewb}
use Rattle.ak_core.specs.declared.moves.Answer.{Answer}
use Rattle.ak_core.specs.declared.moves.Answer.TheVariants.{OkHandle, NotBlocked, NotTracked, BadVa}
use Rattle.ak_model.specs.Paging.Histories.{History}
use Rattle.ak_model.specs.Paging.Holdings.{Held, FreeFrame, SecsFrame, VaFrame, PageFrame, is_va, InHandle, is_page_in}
use Rattle.ak_model.specs.Paging.Frames.{held, blocked_at}
use Rattle.ak_model.specs.Paging.Handles.{given, place, discarded}
use Rattle.ak_model.specs.Paging.Inside.{since}
use Rattle.ak_model.specs.Paging.PageTable.{pte}
use Rattle.ak_model.specs.Paging.Tracking.{tracked}
use Rattle.ak_model.specs.Control.LeafRows.{if_page, has_slot, leaf_row}
use Rattle.ak_model.proofs.Paging.SomeoneInside.{other}
use Rattle.ak_epcm.specs.Entries.{entry_at}
use Rattle.ak_model.specs.Paging.Views.{view_of}
use Rattle.ak_relation.specs.State.MachineState.{State, copy}
use Rattle.ak_relation.specs.State.Tables.{MappingStands, PresenceStands, TablesStand, SealedPageAgrees}
use Rattle.ak_relation.specs.State.MachineView.{view_in}
use Rattle.ak_relation.specs.Premises.Leaves.{LeafChanges}
use Rattle.ak_relation.specs.Premises.WriteOut.{WritesOutTo}
use Rattle.ak_relation.specs.Relation.Does.{IsMove}
use Rattle.ak_model.proofs.Control.LeafRows.{frame_ok}
use Rattle.ak_relation.proofs.Leaves.LeafMoves.{leaf_moves}
use Rattle.ak_relation.proofs.Leaves.WriteOut.{freed_or, freed_entry, still_va, slot_stands, sealed_page_stands, sealed_pages_are, page_is, copy_stands, copies_after, stamp_stands}

page_if : (h : Held) (x : Answer) (k : Handle) → if_page h x ≡ OkHandle k → ((q : ℕ) × (h ≡ PageFrame q)) × (x ≡ OkHandle k)
page_if (PageFrame q) x k e = ((q, refl), e)
page_if FreeFrame x k e = absurd (cc)
page_if SecsFrame x k e = absurd (cc)
page_if VaFrame x k e = absurd (cc)

-- the frame of a slot is a VA page
pub va_if : (h : Held) (b : Bool) → not (is_va h && b) ≡ false → h ≡ VaFrame
va_if VaFrame b e = refl
va_if FreeFrame b e = absurd (cc)
va_if SecsFrame b e = absurd (cc)
va_if (PageFrame p) b e = absurd (cc)

module _ (layout : Layout) (old new : State) (f va : Frame) (i : ℕ) (w : WritesOutTo old new f.0 va.0 i) where
  -- what a write-out changes
  changes : (past : History) (q : ℕ) → TablesStand layout past old → held layout past f.0 ≡ PageFrame q → held layout past va.0 ≡ VaFrame →
      LeafChanges layout past (Ewb f va i, OkHandle (record { 0 = given layout past })) old new
  changes past q h is in_va = record {
    processors = w.processors;
    count = w.count;
    queue = w.queue;
    copies = λ p.
        inl (ap (λ k. copy new (if is_page_in k p then InHandle (given layout past) else place layout past p)) is
        ∙ copy_stands layout past old new f.0 va.0 i q h w is in_va p (place layout past p) (p == q) refl refl);
    tables = record {
      entries = record { entry = λ g. freed_entry layout (g == f.0) (entry_at old.entries g) (entry_at new.entries g) (held layout past g) (blocked_at past g) (freed_or old.entries new.entries f.0 w.entry g (g == f.0) refl) (h.entries.entry g) };
      slots = record {
        versions = λ wa j v lt.
            let still = still_va (wa == f.0) (held layout past wa) v in
            slot_stands layout past old new f.0 va.0 i q h w is in_va wa j (wa == va.0) (j == i) refl refl still.0 still.1 lt;
      };
      sealed_pages = record {
        sealed_page = λ j.
            subst (λ p. SealedPageAgrees layout (new.sealed_pages j) (nat_lt j (given layout past + 1) && not (discarded past j)) p)
            (sym (page_is layout past old new f.0 va.0 i q h w is in_va j))
            (sealed_page_stands layout past old new f.0 va.0 i q h w is in_va j (j == given layout past) refl (sealed_pages_are layout past old new f.0 va.0 i q h w is in_va j));
        numbered = w.next ∙ ap (λ n. n + 1) h.sealed_pages.numbered;
      };
      mapping = subst (λ table. MappingStands layout table (pte layout past)) (sym w.table) h.mapping;
      presence = subst (λ all. PresenceStands all (since past)) (sym w.processors) h.presence;
      tracking = record {
        built = h.tracking.built;
        steps_are = w.track ∙ h.tracking.steps_are;
        stamped = λ g s e. stamp_stands layout past old new f.0 va.0 i q h w is in_va g s (g == f.0) e;
      };
      frames = record { whole = λ g. w.lengths g ∙ h.frames.whole g };
      one_copy = copies_after layout past old new f.0 va.0 i q h w is in_va (held layout past f.0) is;
    };
  }

  -- the write-out of a page into a slot, by its row over the machine's own tables
  pub ewb_moves : leaf_row (view_in layout old) (Ewb f va i) ≡ OkHandle (record { 0 = old.next }) →
      IsMove layout old new (Ewb f va i) (OkHandle (record { 0 = old.next })) None
  ewb_moves row =
      leaf_moves layout old new (Ewb f va i) (OkHandle (record { 0 = old.next })) refl row
      (λ past tables there.
      let next : Handle = record { 0 = old.next } in
      let page = page_if (held layout past f.0) _ next (frame_ok (view_of layout past) f.0 _ (OkHandle next) (λ e. cc) (λ e. cc) there) in
      let blocked = other (not (is_some (blocked_at past f.0))) NotBlocked _ (OkHandle next) (λ e. cc) page.1 in
      let cycled = other (not (tracked layout past f.0)) NotTracked _ (OkHandle next) (λ e. cc) blocked.1 in
      let slotted = other (not (has_slot (view_of layout past) va.0 i)) BadVa _ (OkHandle next) (λ e. cc) cycled.1 in
      subst (λ n. LeafChanges layout past (Ewb f va i, OkHandle (record { 0 = n })) old new) (sym tables.sealed_pages.numbered)
      (changes past page.0.0 tables page.0.1 (va_if (held layout past va.0) (nat_lt i 512) slotted.0)))
