-- Moves of the kernel that were done, as moves: an entry of the page table, a block and a tracking cycle.
use Rattle.std.proofs.Common.{◌≡◌, ℕ, List, ◌∷◌, length, refl, ap}
use Rattle.std.specs.Prelude.{true, nat_lt, Option, Some, None, is_some, ◌==◌, if◌then◌else◌}
use Rattle.ak_core.specs.Layout.{Layout}
use Rattle.ak_core.specs.declared.page.Entry.{Entry}
use Rattle.ak_core.specs.declared.page.Page.{Page}
use Rattle.ak_core.specs.declared.page.Frame.{Frame}
use Rattle.ak_core.specs.declared.page.Flags.{Flags}
use Rattle.ak_core.specs.declared.moves.Move.TheVariants.{SetPte, Eblock, Etrack}
use Rattle.ak_core.specs.declared.moves.Answer.TheVariants.{Ok, NoPage, Blocked}
use Rattle.ak_model.specs.Paging.Pages.{all_pages}
use Rattle.ak_model.specs.Paging.Histories.{History, Pair}
use Rattle.ak_model.specs.Paging.Holdings.{Held, FreeFrame, SecsFrame, VaFrame, PageFrame}
use Rattle.ak_model.specs.Paging.Frames.{held, blocked_at}
use Rattle.ak_model.specs.Control.LeafRows.{if_page, leaf_row}
use Rattle.ak_epcm.specs.Entries.{entry_at}
use Rattle.ak_model.specs.Paging.Views.{view_of}
use Rattle.ak_relation.specs.State.MachineState.{State}
use Rattle.ak_track.specs.Steps.{Cycled}
use Rattle.ak_relation.specs.State.MachineView.{view_in}
use Rattle.ak_relation.specs.Premises.Leaves.{LeafKeeps, LeafChanges}
use Rattle.ak_relation.specs.Relation.Does.{IsMove}
use Rattle.ak_model.proofs.Control.LeafRows.{frame_ok}
use Rattle.ak_relation.proofs.Leaves.LeafMoves.{quiet_moves, leaf_moves}
use Rattle.ak_relation.proofs.Leaves.SomeLeaves.{etrack_keeps, set_pte_keeps, eblock_keeps}

blocked_free : (h : Held) (o : Option ℕ) → if_page h (if is_some o then Blocked else Ok) ≡ Ok → ((p : ℕ) × (h ≡ PageFrame p)) × (o ≡ None)
blocked_free (PageFrame p) None e = ((p, refl), refl)
blocked_free (PageFrame p) (Some x) e = absurd (cc)
blocked_free FreeFrame o e = absurd (cc)
blocked_free SecsFrame o e = absurd (cc)
blocked_free VaFrame o e = absurd (cc)

module _ (layout : Layout) where
  shown : {past : History} {pair : Pair} {old new : State} → LeafKeeps layout past pair old new → LeafChanges layout past pair old new
  shown keeps = record { processors = keeps.processors; count = keeps.count; queue = keeps.queue; copies = keeps.copies; tables = keeps.tables }

  -- a tracking cycle
  pub etrack_moves : (old : State) → leaf_row (view_in layout old) Etrack ≡ Ok → IsMove layout old (record old { track = Cycled ∷ old.track }) Etrack Ok None
  etrack_moves old row = leaf_moves layout old _ Etrack Ok refl row (λ past tables there. shown (etrack_keeps layout past old tables))

  -- an entry of the page table
  pub set_pte_moves : (old : State) (p : Page) (f : Frame) (flags : Flags) → nat_lt p.0 (all_pages layout) ≡ true →
      IsMove layout old (record old { table = λ q. if q == p.0 then record { frame = f.0; flags = flags } else old.table q }) (SetPte p f flags) Ok None
  set_pte_moves old p f flags known =
      quiet_moves layout old _ (SetPte p f flags) Ok refl (λ past control tables. ap (λ b. if b then Ok else NoPage) known)
      (λ past inside tables. set_pte_keeps layout past old tables p f flags)

  -- a block
  pub eblock_moves : (old : State) (f : Frame) (entries : List Entry) → leaf_row (view_in layout old) (Eblock f) ≡ Ok →
      ((g : ℕ) → entry_at entries g ≡ (if g == f.0 then record (entry_at old.entries g) { blocked = true } else entry_at old.entries g)) →
      IsMove layout old (record old { entries = entries; stamps = λ g. if g == f.0 then length old.track else old.stamps g }) (Eblock f) Ok None
  eblock_moves old f entries row sets =
      leaf_moves layout old _ (Eblock f) Ok refl row
      (λ past tables there.
      let facts = blocked_free (held layout past f.0) (blocked_at past f.0) (frame_ok (view_of layout past) f.0 _ Ok (λ e. cc) (λ e. cc) there) in
      shown (eblock_keeps layout past old tables f facts.0.0 entries sets facts.0.1 facts.1))
