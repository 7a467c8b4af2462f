-- A refused move leaves the whole relation: no scan of the history sees it.
use Rattle.std.proofs.Common.{◌≡◌, inl, ◌+◌, ◌∷◌, length, refl, ap, sym, subst}
use Rattle.std.specs.Prelude.{not, ◌&&◌, nat_lt}
use Rattle.ak_core.specs.Layout.{Layout}
use Rattle.ak_core.specs.declared.moves.Move.{Move}
use Rattle.ak_core.specs.declared.moves.Answer.{Answer}
use Rattle.ak_model.specs.Paging.Histories.{History, Unchanged, change}
use Rattle.ak_model.specs.Paging.Frames.{held, held_after, blocked_at, blocked_after}
use Rattle.ak_model.specs.Paging.Handles.{given, given_after, page_of, page_of_after, discarded, discarded_after, slot, slot_after, place, place_after}
use Rattle.ak_model.specs.Paging.PageTable.{pte, pte_after}
use Rattle.ak_model.specs.Paging.Inside.{since, since_after}
use Rattle.ak_model.specs.Laws.OneLiveCopy.{Agrees}
use Rattle.ak_relation.specs.State.TrackSteps.{steps_of, steps_after, stamp_of}
use Rattle.ak_relation.specs.State.MachineState.{State, copy}
use Rattle.ak_relation.specs.State.Tables.{EntriesStand, SlotsStand, SealedPagesStand, MappingStands, PresenceStands, TrackingStands, TablesStand}
use Rattle.ak_model.specs.Laws.OpenFrames.{takes}
use Rattle.ak_relation.specs.Premises.Leaves.{LeafKeeps}

module _ (layout : Layout) (past : History) (m : Move) (a : Answer) (s : State) (e : change m a ≡ Unchanged) where
  tables : TablesStand layout past s → TablesStand layout ((m, a) ∷ past) s
  tables h = record {
    entries = subst (λ c. EntriesStand layout s.entries (λ f. held_after c f (held layout past f)) (λ f. blocked_after c f (length past + 1) (blocked_at past f))) (sym e) h.entries;
    slots = subst (λ c. SlotsStand s.frames (λ f. held_after c f (held layout past f)) (λ va i. slot_after c va i (slot layout past va i))) (sym e) h.slots;
    sealed_pages = subst (λ c. SealedPagesStand layout s.sealed_pages s.next (λ k. nat_lt k (given_after c (given layout past)) && not (discarded_after c k (discarded past k)))
        (λ k. page_of_after layout past c k (page_of layout past k)) (given_after c (given layout past))) (sym e) h.sealed_pages;
    mapping = subst (λ c. MappingStands layout s.table (λ p. pte_after c p (pte layout past p))) (sym e) h.mapping;
    presence = subst (λ c. PresenceStands s.processors (λ lp. since_after c lp (length past + 1) (since past lp))) (sym e) h.presence;
    tracking = subst (λ c. TrackingStands s.track s.stamps (steps_after c (steps_of past)) (λ f. blocked_after c f (length (steps_of past)) (stamp_of past f))) (sym e) h.tracking;
    frames = h.frames;
    one_copy = subst (λ c. Agrees (λ f. held_after c f (held layout past f)) (λ p. place_after layout past c p (place layout past p)) (λ va i. slot_after c va i (slot layout past va i))
        (given_after c (given layout past)) (λ j. page_of_after layout past c j (page_of layout past j)) (λ j. discarded_after c j (discarded past j))) (sym e) h.one_copy;
  }

  -- a move that changed nothing
  pub refused_keeps : TablesStand layout past s → LeafKeeps layout past (m, a) s s
  refused_keeps h = record {
    since_is = λ lp. ap (λ c. since_after c lp (length past + 1) (since past lp)) e;
    opened = λ lp place f p is holds. ap (λ c. takes c f) e;
    processors = refl;
    count = refl;
    queue = refl;
    copies = λ p. inl (ap (λ c. copy s (place_after layout past c p (place layout past p))) e);
    tables = tables h;
  }
