-- The machine of the example after its program's page was loaded and mapped, and the processor entered.
use Rattle.std.proofs.Common.{◌≡◌, ℕ, zero, suc, ◌*◌, List, [], ◌∷◌, length, refl, ap, sym, ◌∙◌, subst, arith}
use Rattle.std.proofs.lemmas.Bool.Decides.{nat_tests}
use Rattle.std.specs.Prelude.{Bool, true, false, None, ◌==◌, if◌then◌else◌}
use Rattle.ak_core.specs.declared.page.Entry.{Entry}
use Rattle.ak_core.specs.declared.page.PageType.TheVariants.{Secs, Tcs, Reg, Va}
use Rattle.ak_core.specs.declared.page.Perm.TheVariants.{Rx}
use Rattle.ak_core.specs.declared.moves.Move.TheVariants.{Eldu, SetPte, Eenter}
use Rattle.ak_core.specs.declared.moves.Answer.TheVariants.{Ok}
use Rattle.ak_model.specs.Paging.Pages.{flags_for}
use Rattle.ak_epcm.specs.Entries.{entry_at}
use Rattle.ak_relation.specs.State.MachineState.{State}
use Rattle.ak_relation.specs.State.MachineView.{view_in}
use Rattle.ak_relation.specs.State.TableChanges.{with_mapping}
use Rattle.ak_model.specs.Flat.Instructions.{number_at}
use Rattle.ak_track.specs.Steps.{EntersBy}
use Rattle.ak_model.specs.Control.LeafRows.{leaf_row}
use Rattle.ak_relation.specs.Premises.EnterRows.{enter_row, saved_in}
use Rattle.ak_relation.specs.Premises.Entering.{EntersAt}
use Rattle.ak_relation.specs.Premises.Loading.{LoadsFrom}
use Rattle.ak_sealed.specs.SealedPages.{entry_of}
use Rattle.ak_relation.specs.Relation.Does.{IsMove}
use Rattle.ak_relation.specs.Relation.MoveByMove.{AreMoves}
use Rattle.ak_relation.specs.Relation.Example.{one_page, input_program, fetched_past, shown_past, begun_past}
use Rattle.ak_relation.proofs.Leaves.LoadMoves.{eldu_moves}
use Rattle.ak_relation.proofs.Leaves.DoneMoves.{set_pte_moves}
use Rattle.ak_relation.proofs.Entering.EnterMoves.{enter_moves}
use Rattle.ak_relation.proofs.Rows.BlankPages.{blank, blank_at, blank_whole, one_slot, other_slots}
use Rattle.ak_relation.proofs.Rows.BuiltMachine.{in_use, built_entries, program_sealed, image_whole, built_whole, outside, built, is_built}
use Rattle.ak_relation.proofs.Rows.EnteredMachine.{inside}
use Rattle.ak_relation.proofs.Rows.WrittenMachine.{frame}

-- ---- The load of the program's page

-- it is in the last frame
abbrev pub fetched_entries : List Entry
fetched_entries =
    in_use Secs 0 false false false ∷ in_use Va 0 false false false ∷ in_use Tcs 1 false false false ∷ in_use Reg 2 true true false
    ∷ in_use Reg 3 true true false ∷ in_use Reg 4 true true false ∷ in_use Reg 5 true true false ∷ in_use Reg 6 true false true ∷ in_use Reg 0 true false true ∷ []

-- all other frames are blank
abbrev pub fetched_frames : ℕ → List ℕ
fetched_frames g = if g == 8 then input_program else blank

-- the machine
abbrev pub fetched : State
fetched = record built { entries = fetched_entries; frames = fetched_frames; stamps = λ g. if g == 8 then 0 else 0 }

fetched_entry : (g : ℕ) → entry_at fetched_entries g ≡ (if g == 8 then entry_of program_sealed false else entry_at built_entries g)
fetched_entry zero = refl
fetched_entry (suc zero) = refl
fetched_entry (suc (suc zero)) = refl
fetched_entry (suc (suc (suc zero))) = refl
fetched_entry (suc (suc (suc (suc zero)))) = refl
fetched_entry (suc (suc (suc (suc (suc zero))))) = refl
fetched_entry (suc (suc (suc (suc (suc (suc zero)))))) = refl
fetched_entry (suc (suc (suc (suc (suc (suc (suc zero))))))) = refl
fetched_entry (suc (suc (suc (suc (suc (suc (suc (suc zero)))))))) = refl
fetched_entry (suc (suc (suc (suc (suc (suc (suc (suc (suc g))))))))) =
    let other : (suc (suc (suc (suc (suc (suc (suc (suc (suc g)))))))) == 8) ≡ false = grind (arith, nat_tests) in rw other refl

pub fetched_whole : (f : ℕ) → length (fetched_frames f) ≡ 4096
fetched_whole f = by (f == 8)
  where
    by : (b : Bool) → length (if b then input_program else blank) ≡ 4096
    by true = image_whole
    by false = blank_whole

other_frames : (g : ℕ) → (g == 8) ≡ false → (g == 1) ≡ false → fetched_frames g ≡ built.frames g
other_frames g no_page no_slots = rw (no_page, no_slots) refl

same_slots : (j : ℕ) → (j == 0) ≡ false → number_at blank (8 * j) 8 ≡ number_at one_slot (8 * j) 8
same_slots zero other = absurd (cc)
same_slots (suc j) other = blank_at (8 * suc j) 8 ∙ sym (other_slots j)

loads : LoadsFrom built fetched 8 0 1 0 false
loads = record {
  sealed_page = program_sealed;
  sealed = refl;
  entry = fetched_entry;
  bytes = refl;
  others = other_frames;
  slot = blank_at 0 8;
  slots = λ j other lt. same_slots j other;
  lengths = λ g other. fetched_whole g ∙ sym (built_whole g);
  stamps = λ g. refl;
  sealed_pages = refl;
  next = refl;
  table = refl;
  processors = refl;
  count = refl;
  queue = refl;
  track = refl;
}

load_row : leaf_row (view_in one_page built) (Eldu (frame 8) (record { 0 = 0 }) (record { 0 = 0 }) (frame 1) 0) ≡ Ok
unfolding one_slot
load_row = refl

load_move : IsMove one_page built fetched (Eldu (frame 8) (record { 0 = 0 }) (record { 0 = 0 }) (frame 1) 0) Ok None
load_move = eldu_moves one_page built fetched (frame 8) (frame 1) (record { 0 = 0 }) (record { 0 = 0 }) 0 load_row loads

-- ---- The page table, and the entering

-- the machine
abbrev pub shown : State
shown = with_mapping fetched 0 (record { frame = 8; flags = flags_for Rx })

map_move : IsMove one_page fetched shown (SetPte (record { 0 = 0 }) (frame 8) (flags_for Rx)) Ok None
map_move = set_pte_moves one_page fetched (record { 0 = 0 }) (frame 8) (flags_for Rx) refl

-- the machine
abbrev pub begun : State
begun = record shown { processors = λ lp. if lp == 0 then inside else outside; track = EntersBy 0 ∷ [] }

none_saved : saved_in one_page shown ≡ 0
none_saved = blank_at 24 4

answered : enter_row one_page shown 0 ≡ Ok
unfolding blank
answered = refl

enters : EntersAt one_page 0 0 7 shown begun
enters = record {
  inside = refl;
  regs = refl;
  tcs = refl;
  ssa = refl;
  flushed = refl;
  others = λ q e. ap (λ b. if b then inside else outside) e;
  cleared = record { saved_is = blank_at 24 4; pending_is = blank_at 72 1 };
  frames = λ g e. refl;
  whole = fetched_whole;
  track = refl;
  entries = refl;
  count = refl;
  queue = refl;
  stamps = refl;
  sealed_pages = refl;
  next = refl;
  table = refl;
}

enter_move : IsMove one_page shown begun (Eenter (record { 0 = 0 }) 7) Ok None
enter_move =
    enter_moves one_page shown (record { 0 = 0 }) begun 7 (omega arith) answered (subst (λ n. EntersAt one_page 0 n 7 shown begun) (sym none_saved) enters)

-- the moves
load_reached : AreMoves one_page input_program fetched_past fetched []
load_reached = (built, [], None, (is_built, refl), load_move, refl)

map_reached : AreMoves one_page input_program shown_past shown []
map_reached = (fetched, [], None, load_reached, map_move, refl)

pub begin_reached : AreMoves one_page input_program begun_past begun []
begin_reached = (shown, [], None, map_reached, enter_move, refl)
