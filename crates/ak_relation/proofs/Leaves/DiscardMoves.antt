-- The discarding of a handle as a move, and the reading and refusing of the page table.
use Rattle.std.proofs.Common.{◌≡◌, ◌⊎◌, inl, inr, ℕ, refl, ap, sym, ◌∙◌}
use Rattle.std.proofs.lemmas.Bool.{and_parts, ltb-true}
use Rattle.std.specs.Prelude.{Bool, true, false, ◌&&◌, ◌||◌, not, nat_lt, option_map, None, ◌==◌, if◌then◌else◌}
use Rattle.ak_core.specs.Layout.{Layout}
use Rattle.ak_core.specs.declared.page.Frame.{Frame}
use Rattle.ak_core.specs.declared.page.Handle.{Handle}
use Rattle.ak_core.specs.declared.page.Page.{Page}
use Rattle.ak_core.specs.declared.page.Flags.{Flags}
use Rattle.ak_core.specs.declared.moves.Move.TheVariants.{SetPte, ReadPte, Discard}
use Rattle.ak_core.specs.declared.moves.Answer.TheVariants.{Ok, NoPage, NoHandle}
use Rattle.ak_model.specs.Paging.Pages.{all_pages}
use Rattle.ak_model.specs.Paging.Histories.{History}
use Rattle.ak_model.specs.Paging.Holdings.{Place, InFrame, InHandle, Gone}
use Rattle.ak_model.specs.Paging.Handles.{given, page_of, discarded, live, gone_if, place}
use Rattle.ak_model.specs.Paging.PageTable.{pte}
use Rattle.ak_model.proofs.Paging.LiveCopies.{discards}
use Rattle.ak_model.specs.Control.LeafRows.{leaf_row}
use Rattle.ak_relation.specs.State.MachineState.{State, copy}
use Rattle.ak_relation.specs.State.Tables.{SealedPageAgrees, TablesStand}
use Rattle.ak_sealed.specs.SealedPages.{SealedPage}
use Rattle.ak_relation.specs.State.MachineView.{view_in}
use Rattle.ak_relation.specs.Premises.Leaves.{LeafChanges}
use Rattle.ak_relation.specs.Relation.Does.{IsMove}
use Rattle.ak_relation.specs.State.TableChanges.{without_sealed_page, pte_answer}
use Rattle.ak_relation.proofs.Leaves.Refused.{refused_keeps}
use Rattle.ak_relation.proofs.Leaves.LeafMoves.{quiet_moves, leaf_moves}

-- a handle that was answered Ok is live
live_is : (b : Bool) → (if b then Ok else NoHandle) ≡ Ok → b ≡ true
live_is true e = refl
live_is false e = absurd (cc)

no_more : (a b : Bool) → (a && not (true || b)) ≡ false
no_more true b = refl
no_more false b = refl

module _ (layout : Layout) (past : History) (s : State) (k : Handle) (h : TablesStand layout past s) (alive : live layout past k.0 ≡ true) where
  by_handle : (j : ℕ) (b : Bool) → (j == k.0) ≡ b → (copy (without_sealed_page s k.0) (if b then Gone else InHandle j) ≡ copy s (InHandle j)) ⊎ (copy (without_sealed_page s k.0) (if b then Gone else InHandle j) ≡ None)
  by_handle j true e = inr refl
  by_handle j false e = inl (ap (λ (b : Bool). option_map (λ (sealed_page : SealedPage). sealed_page.bytes) (if b then None else s.sealed_pages j)) e)

  fewer : (at : Place) → (copy (without_sealed_page s k.0) (gone_if at k.0) ≡ copy s at) ⊎ (copy (without_sealed_page s k.0) (gone_if at k.0) ≡ None)
  fewer (InFrame f) = inl refl
  fewer Gone = inl refl
  fewer (InHandle j) = by_handle j (j == k.0) refl

  sealed_page : (j : ℕ) (b : Bool) → SealedPageAgrees layout (if b then None else s.sealed_pages j) (nat_lt j (given layout past) && not (b || discarded past j)) (page_of layout past j)
  sealed_page j true = no_more (nat_lt j (given layout past)) (discarded past j)
  sealed_page j false = h.sealed_pages.sealed_page j

  -- what a discarded handle changes
  pub discard_changes : LeafChanges layout past (Discard k, Ok) s (without_sealed_page s k.0)
  discard_changes = record {
    processors = refl;
    count = refl;
    queue = refl;
    copies = λ p. fewer (place layout past p);
    tables = record {
      entries = h.entries;
      slots = h.slots;
      sealed_pages = record { sealed_page = λ j. sealed_page j (j == k.0); numbered = h.sealed_pages.numbered };
      mapping = h.mapping;
      presence = h.presence;
      tracking = h.tracking;
      frames = h.frames;
      one_copy = discards _ _ _ _ _ _ h.one_copy k.0 (ltb-true k.0 (given layout past) (and_parts (nat_lt k.0 (given layout past)) (not (discarded past k.0)) alive).0);
    };
  }

module _ (layout : Layout) (old : State) where
  -- the discarding, by its row over the machine's own tables
  pub discard_moves : (k : Handle) → leaf_row (view_in layout old) (Discard k) ≡ Ok → IsMove layout old (without_sealed_page old k.0) (Discard k) Ok None
  discard_moves k row =
      leaf_moves layout old (without_sealed_page old k.0) (Discard k) Ok refl row
      (λ past tables there. discard_changes layout past old k tables (live_is (live layout past k.0) there))

  -- ---- The page table

  -- the reading of an entry
  pub read_pte_moves : (p : Page) → nat_lt p.0 (all_pages layout) ≡ true → IsMove layout old old (ReadPte p) (pte_answer (old.table p.0)) None
  read_pte_moves p known =
      quiet_moves layout old old (ReadPte p) (pte_answer (old.table p.0)) refl
      (λ past control tables. ap (λ b. if b then pte_answer (pte layout past p.0) else NoPage) known ∙ ap pte_answer (sym (tables.mapping.mapped p.0 (ltb-true p.0 (all_pages layout) known))))
      (λ past inside tables. refused_keeps layout past (ReadPte p) (pte_answer (old.table p.0)) old refl tables)

  -- a reading of no page
  pub read_pte_refused : (p : Page) → nat_lt p.0 (all_pages layout) ≡ false → IsMove layout old old (ReadPte p) NoPage None
  read_pte_refused p unknown =
      quiet_moves layout old old (ReadPte p) NoPage refl
      (λ past control tables. ap (λ b. if b then pte_answer (pte layout past p.0) else NoPage) unknown)
      (λ past inside tables. refused_keeps layout past (ReadPte p) NoPage old refl tables)

  -- an entry of no page
  pub set_pte_refused : (p : Page) (f : Frame) (flags : Flags) → nat_lt p.0 (all_pages layout) ≡ false → IsMove layout old old (SetPte p f flags) NoPage None
  set_pte_refused p f flags unknown =
      quiet_moves layout old old (SetPte p f flags) NoPage refl
      (λ past control tables. ap (λ b. if b then Ok else NoPage) unknown)
      (λ past inside tables. refused_keeps layout past (SetPte p f flags) NoPage old refl tables)
