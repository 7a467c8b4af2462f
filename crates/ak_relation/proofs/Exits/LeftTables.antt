-- The tables after a run that left: whatever its exit, no scan but those of processors and tracking sees it.
use Rattle.std.proofs.Common.{◌≡◌, ℕ, ◌+◌, ◌*◌, List, [], ◌∷◌, length, refl, ap, sym, ◌∙◌, subst}
use Rattle.std.proofs.lemmas.Bool.{eqb-true, eqb-false}
use Rattle.std.specs.Prelude.{Bool, true, false, ◌&&◌, not, nat_lt, Option, Some, None, is_some, ◌==◌, if◌then◌else◌}
use Rattle.ak_core.specs.Layout.{Layout}
use Rattle.ak_core.specs.declared.moves.Move.{Move}
use Rattle.ak_core.specs.declared.moves.Exit.{Exit}
use Rattle.ak_core.specs.declared.moves.Answer.{Answer}
use Rattle.ak_model.specs.Paging.Histories.{History, Exits, change}
use Rattle.ak_model.specs.Paging.Frames.{held, held_after, blocked_at, blocked_after}
use Rattle.ak_model.specs.Paging.Handles.{given, given_after, page_of, page_of_after, discarded, discarded_after, live, slot, slot_after, place, place_after}
use Rattle.ak_model.specs.Paging.PageTable.{pte, pte_after}
use Rattle.ak_model.specs.Paging.Inside.{since, since_after, inside}
use Rattle.ak_model.specs.Control.ControlState.{Control}
use Rattle.ak_model.specs.Laws.Presence.{IsPresent}
use Rattle.ak_model.specs.Tapes.LastMoment.{FlatRuns}
use Rattle.ak_model.specs.Tapes.ProgramTurns.{ProgramTurn}
use Rattle.ak_model.specs.Laws.OneLiveCopy.{Agrees}
use Rattle.ak_relation.specs.State.TrackSteps.{steps_of, steps_after, stamp_of}
use Rattle.ak_relation.specs.State.MachineState.{State, copy}
use Rattle.ak_model.specs.Flat.Instructions.{number_at}
use Rattle.ak_track.specs.Steps.{LeavesBy}
use Rattle.ak_relation.specs.State.Tables.{EntriesStand, SlotsStand, SealedPageAgrees, SealedPagesStand, MappingStands, PresenceStands, TrackingStands, TablesStand}
use Rattle.ak_relation.specs.Program.Reaching.{StaysBy}
use Rattle.ak_relation.specs.Relation.Stands.{copies_at}
use Rattle.ak_relation.specs.Premises.Works.{KeepsTables, Quits}

module _ (layout : Layout) (past : History) (m : Move) (a : Answer) (lp : ℕ) (exit : Exit) (e : change m a ≡ Exits lp exit) where
  -- the history after it
  abbrev after : History
  after = (m, a) ∷ past

  -- who is inside after it
  pub since_left : (q : ℕ) → since after q ≡ (if q == lp then None else since past q)
  since_left q = ap (λ c. since_after c q (length past + 1) (since past q)) e

  -- each page is where it was
  pub copies_left : (state : State) (p : ℕ) → copies_at layout after state p ≡ copies_at layout past state p
  copies_left state p = ap (λ c. copy state (place_after layout past c p (place layout past p))) e

  module _ (old new : State) (h : TablesStand layout past old) (k : KeepsTables layout past old new) (s : Quits lp old new) where
    present : (q : ℕ) (b : Bool) → (q == lp) ≡ b → (new.processors q).inside ≡ is_some (if b then None else since past q)
    present q true t = ap (λ x. (new.processors x).inside) (eqb-true q lp t) ∙ s.left
    present q false t = ap (λ x. x.inside) (s.others q t) ∙ h.presence.within q

    -- the tables after it
    pub tables_left : TablesStand layout after new
    tables_left = record {
      entries = subst (λ c. EntriesStand layout new.entries (λ f. held_after c f (held layout past f)) (λ f. blocked_after c f (length past + 1) (blocked_at past f))) (sym e)
          (subst (λ all. EntriesStand layout all (held layout past) (blocked_at past)) (sym k.entries) h.entries);
      slots = subst (λ c. SlotsStand new.frames (λ f. held_after c f (held layout past f)) (λ va i. slot_after c va i (slot layout past va i))) (sym e)
          (record { versions = λ va i v lt. ap (λ bytes. number_at bytes (8 * i) 8) (k.slots va v) ∙ h.slots.versions va i v lt });
      sealed_pages = subst (λ c. SealedPagesStand layout new.sealed_pages new.next (λ j. nat_lt j (given_after c (given layout past)) && not (discarded_after c j (discarded past j)))
          (λ j. page_of_after layout past c j (page_of layout past j)) (given_after c (given layout past))) (sym e)
          (record {
            sealed_page = λ j. subst (λ all. SealedPageAgrees layout (all j) (live layout past j) (page_of layout past j)) (sym k.sealed_pages) (h.sealed_pages.sealed_page j);
            numbered = k.next ∙ h.sealed_pages.numbered;
          });
      mapping = subst (λ c. MappingStands layout new.table (λ p. pte_after c p (pte layout past p))) (sym e)
          (subst (λ table. MappingStands layout table (pte layout past)) (sym k.table) h.mapping);
      presence = subst (λ c. PresenceStands new.processors (λ q. since_after c q (length past + 1) (since past q))) (sym e)
          (record { within = λ q. present q (q == lp) refl });
      tracking = subst (λ c. TrackingStands new.track new.stamps (steps_after c (steps_of past)) (λ f. blocked_after c f (length (steps_of past)) (stamp_of past f))) (sym e)
          (record {
            built = h.tracking.built;
            steps_are = s.track ∙ ap (λ steps. LeavesBy lp ∷ steps) h.tracking.steps_are;
            stamped = λ f t x. ap (λ all. all f) k.stamps ∙ h.tracking.stamped f t x;
          });
      frames = record { whole = k.whole };
      one_copy = subst (λ c. Agrees (λ f. held_after c f (held layout past f)) (λ p. place_after layout past c p (place layout past p)) (λ va i. slot_after c va i (slot layout past va i))
          (given_after c (given layout past)) (λ j. page_of_after layout past c j (page_of layout past j)) (λ j. discarded_after c j (discarded past j))) (sym e) h.one_copy;
    }

  -- ---- Nobody is inside

  module _ (control : Control) (h : IsPresent layout (record { past = past; control = control })) (is : inside past lp ≡ true) where
    outside : (q : ℕ) (b : Bool) → (q == lp) ≡ b → (if b then None else since past q) ≡ None
    outside q true t = refl
    outside q false t = gone (since past q) refl
      where
        gone : (o : Option ℕ) → since past q ≡ o → o ≡ None
        gone None f = refl
        gone (Some x) f = absurd (eqb-false q lp t (h.alone q lp (ap is_some f) is))

    -- nobody is inside any more
    pub nobody_left : (q : ℕ) → since after q ≡ None
    nobody_left q = since_left q ∙ outside q (q == lp) refl

    -- and nothing is cached
    pub stays_left : (runs : FlatRuns) (turns : List ProgramTurn) (old new : State) (next : Control) → Quits lp old new →
        ((q : ℕ) → StaysBy layout runs past control turns q (old.processors q) (since past q)) →
        (q : ℕ) → (later : FlatRuns) → StaysBy layout later after next turns q (new.processors q) (since after q)
    stays_left runs turns old new next s stays q later =
        subst (StaysBy layout later after next turns q (new.processors q)) (sym (nobody_left q)) (flushed (q == lp) refl)
      where
        flushed : (b : Bool) → (q == lp) ≡ b → (new.processors q).fills ≡ []
        flushed true t = ap (λ x. (new.processors x).fills) (eqb-true q lp t) ∙ s.flushed
        flushed false t = ap (λ x. x.fills) (s.others q t) ∙ subst (StaysBy layout runs past control turns q (old.processors q)) (ap (λ b. if b then None else since past q) (sym t) ∙ outside q (q == lp) refl) (stays q)
