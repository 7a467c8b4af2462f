-- Leaves of the kernel as moves: the row over the machine's own tables, and what the leaf keeps, are all that is asked.
use Rattle.std.proofs.Common.{◌≡◌, ℕ, ◌+◌, [], length, refl, sym, ◌∙◌}
use Rattle.std.specs.Prelude.{Bool, true, false, Option, None}
use Rattle.ak_core.specs.Layout.{Layout}
use Rattle.ak_core.specs.declared.moves.Move.{Move}
use Rattle.ak_core.specs.declared.moves.Move.TheVariants.{SetPte, ReadPte, Eblock, Etrack, Ewb, Eldu, Eldb, Eremove, Epa, Discard, Eenter, Eresume, Run, Interrupt}
use Rattle.ak_core.specs.declared.moves.Answer.{Answer}
use Rattle.ak_core.specs.declared.moves.Answer.TheVariants.{Ok, OkHandle}
use Rattle.ak_model.specs.Paging.Histories.{History, Change, change, if_ok, if_handle}
use Rattle.ak_model.specs.Paging.Inside.{since, since_after}
use Rattle.ak_model.specs.Control.ControlState.{Control}
use Rattle.ak_model.specs.Control.Answers.{answer}
use Rattle.ak_model.specs.Control.Entering.{control_after}
use Rattle.ak_model.specs.Tapes.ProgramTurns.{turns_of_move}
use Rattle.ak_model.specs.Kernels.Repeats.{is_done}
use Rattle.ak_model.proofs.Paging.RefusedMoves.{change-refused}
use Rattle.ak_model.specs.Paging.Views.{view_of}
use Rattle.ak_model.specs.Control.LeafRows.{leaf_row, is_leaf}
use Rattle.ak_relation.specs.State.MachineState.{State}
use Rattle.ak_relation.specs.State.Tables.{TablesStand}
use Rattle.ak_relation.specs.State.MachineView.{view_in}
use Rattle.ak_relation.specs.Premises.Leaves.{LeafKeeps, LeafChanges}
use Rattle.ak_relation.specs.Relation.Does.{IsMove}
use Rattle.ak_model.proofs.Control.LeafRows.{leaf_row-same}
use Rattle.ak_relation.proofs.Leaves.ViewStands.{view-same, answer-view}
use Rattle.ak_model.proofs.Paging.OpenFrames.{IsKnown, known-present, keeps_open}
use Rattle.ak_relation.proofs.Leaves.LeafStands.{leaf_stands}
use Rattle.ak_relation.proofs.Leaves.Refused.{refused_keeps}

-- no leaf, and neither move of the page table, enters or leaves, or makes the program take a turn
abbrev pub is_quiet : Move → Bool
is_quiet (Eenter lp v) = false
is_quiet (Eresume lp) = false
is_quiet (Run lp n) = false
is_quiet (Interrupt lp) = false
is_quiet _ = true

leaf_quiet : (m : Move) → is_leaf m ≡ true → is_quiet m ≡ true
leaf_quiet (Eblock f) h = refl
leaf_quiet Etrack h = refl
leaf_quiet (Ewb f va i) h = refl
leaf_quiet (Eldu f k p va i) h = refl
leaf_quiet (Eldb f k p va i) h = refl
leaf_quiet (Eremove f) h = refl
leaf_quiet (Epa f) h = refl
leaf_quiet (Discard k) h = refl
leaf_quiet (SetPte p f flags) h = refl
leaf_quiet (ReadPte p) h = refl
leaf_quiet (Eenter lp v) h = absurd (cc)
leaf_quiet (Eresume lp) h = absurd (cc)
leaf_quiet (Run lp n) h = absurd (cc)
leaf_quiet (Interrupt lp) h = absurd (cc)

ok_since : (a : Answer) (c : Change) (lp n : ℕ) (o : Option ℕ) → since_after c lp n o ≡ o → since_after (if_ok a c) lp n o ≡ o
ok_since Ok c lp n o h = h
ok_since _ c lp n o h = refl

handle_since : (a : Answer) (c : ℕ → Change) (lp n : ℕ) (o : Option ℕ) → ((k : ℕ) → since_after (c k) lp n o ≡ o) → since_after (if_handle a c) lp n o ≡ o
handle_since (OkHandle k) c lp n o h = h k.0
handle_since _ c lp n o h = refl

quiet_since : (m : Move) (a : Answer) (lp n : ℕ) (o : Option ℕ) → is_quiet m ≡ true → since_after (change m a) lp n o ≡ o
quiet_since (SetPte p f flags) a lp n o h = ok_since a _ lp n o refl
quiet_since (ReadPte p) a lp n o h = refl
quiet_since (Eblock f) a lp n o h = ok_since a _ lp n o refl
quiet_since Etrack a lp n o h = ok_since a _ lp n o refl
quiet_since (Ewb f va i) a lp n o h = handle_since a _ lp n o (λ k. refl)
quiet_since (Eldu f k p va i) a lp n o h = ok_since a _ lp n o refl
quiet_since (Eldb f k p va i) a lp n o h = ok_since a _ lp n o refl
quiet_since (Eremove f) a lp n o h = ok_since a _ lp n o refl
quiet_since (Epa f) a lp n o h = ok_since a _ lp n o refl
quiet_since (Discard k) a lp n o h = ok_since a _ lp n o refl
quiet_since (Eenter q v) a lp n o h = absurd (cc)
quiet_since (Eresume q) a lp n o h = absurd (cc)
quiet_since (Run q k) a lp n o h = absurd (cc)
quiet_since (Interrupt q) a lp n o h = absurd (cc)

module _ (layout : Layout) where
  quiet_stays : (past : History) (control : Control) (m : Move) (a : Answer) → is_quiet m ≡ true → control_after layout past control m a ≡ control
  quiet_stays past control (Eblock f) a h = refl
  quiet_stays past control Etrack a h = refl
  quiet_stays past control (Ewb f va i) a h = refl
  quiet_stays past control (Eldu f k p va i) a h = refl
  quiet_stays past control (Eldb f k p va i) a h = refl
  quiet_stays past control (Eremove f) a h = refl
  quiet_stays past control (Epa f) a h = refl
  quiet_stays past control (Discard k) a h = refl
  quiet_stays past control (SetPte p f flags) a h = refl
  quiet_stays past control (ReadPte p) a h = refl
  quiet_stays past control (Eenter lp v) a h = absurd (cc)
  quiet_stays past control (Eresume lp) a h = absurd (cc)
  quiet_stays past control (Run lp n) a h = absurd (cc)
  quiet_stays past control (Interrupt lp) a h = absurd (cc)

  quiet_made : (past : History) (control : Control) (m : Move) → is_quiet m ≡ true → turns_of_move layout (record { past = past; control = control }) m ≡ []
  quiet_made past control (Run lp n) h = absurd (cc)
  quiet_made past control (Eblock f) h = refl
  quiet_made past control Etrack h = refl
  quiet_made past control (Ewb f va i) h = refl
  quiet_made past control (Eldu f k p va i) h = refl
  quiet_made past control (Eldb f k p va i) h = refl
  quiet_made past control (Eremove f) h = refl
  quiet_made past control (Epa f) h = refl
  quiet_made past control (Discard k) h = refl
  quiet_made past control (SetPte p f flags) h = refl
  quiet_made past control (ReadPte p) h = refl
  quiet_made past control (Eenter lp v) h = refl
  quiet_made past control (Eresume lp) h = refl
  quiet_made past control (Interrupt lp) h = refl

  -- a quiet move with its answer, which keeps what a leaf has to keep
  pub quiet_moves : (old new : State) (m : Move) (a : Answer) → is_quiet m ≡ true →
      ((past : History) (control : Control) → TablesStand layout past old → answer layout past control m ≡ a) →
      ((past : History) → IsKnown layout past → TablesStand layout past old → LeafKeeps layout past (m, a) old new) → IsMove layout old new m a None
  quiet_moves old new m a quiet row keeps image past control turns stands = record {
    control = control;
    turns = turns;
    made = [];
    does = record {
      turns = refl;
      traced = λ later ok. record {
        answered = row past (record control { rest = later }) stands.tables;
        changed = quiet_stays past (record control { rest = later }) m a quiet;
        made_are = quiet_made past (record control { rest = later }) m quiet;
      };
      due = λ later ok. ok;
    };
    told = refl;
    stands = leaf_stands layout image past (m, a) control turns old new (keeps past (known-present layout past control stands.laws.present) stands.tables) stands;
  }

  -- a leaf with the answer of its row over the machine's own tables, which shows its changes
  pub leaf_moves : (old new : State) (m : Move) (a : Answer) → is_leaf m ≡ true → leaf_row (view_in layout old) m ≡ a →
      ((past : History) → TablesStand layout past old → leaf_row (view_of layout past) m ≡ a → LeafChanges layout past (m, a) old new) → IsMove layout old new m a None
  leaf_moves old new m a leaf row changes =
      quiet_moves old new m a (leaf_quiet m leaf) (λ past control tables. answer-view layout past old tables control m leaf ∙ row)
      (λ past known tables.
      let there = sym (leaf_row-same (view_in layout old) (view_of layout past) (view-same layout past old tables) m) ∙ row in
      let shown = changes past tables there in
      record {
        since_is = λ lp. quiet_since m a lp (length past + 1) (since past lp) (leaf_quiet m leaf);
        opened = keeps_open layout past known m a leaf there;
        processors = shown.processors;
        count = shown.count;
        queue = shown.queue;
        copies = shown.copies;
        tables = shown.tables;
      })

  -- a leaf that is refused
  pub leaf_refused : (old : State) (m : Move) (a : Answer) → is_leaf m ≡ true → is_done a ≡ false → leaf_row (view_in layout old) m ≡ a →
      IsMove layout old old m a None
  leaf_refused old m a leaf undone row =
      quiet_moves old old m a (leaf_quiet m leaf) (λ past control tables. answer-view layout past old tables control m leaf ∙ row)
      (λ past known tables. refused_keeps layout past m a old (change-refused m a undone) tables)
