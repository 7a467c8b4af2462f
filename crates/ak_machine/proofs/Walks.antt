-- What a machine tells of its pages, where its tables stand for a history.
use Rattle.std.proofs.Common.{◌≡◌, ℕ, ◌<◌, ◌≤◌, true, List, length, ap, sym, ◌∙◌, subst, arith}
use Rattle.std.specs.Prelude.{Option}
use Rattle.ak_core.specs.Mem.{access_to}
use Rattle.ak_core.specs.declared.page.Entry.{Entry}
use Rattle.ak_core.specs.declared.page.Kind.{Kind}
use Rattle.ak_epcm.specs.Entries.{entry_at, has_page}
use Rattle.ak_model.specs.Control.ControlState.{Control}
use Rattle.ak_model.specs.Paging.Frames.{blocked_at, held}
use Rattle.ak_model.specs.Paging.Histories.{History}
use Rattle.ak_model.specs.Paging.Holdings.{Mapping}
use Rattle.ak_model.specs.Paging.PageTable.{pte}
use Rattle.ak_model.specs.Paging.Pages.{all_pages, tcs_page}
use Rattle.ak_model.specs.Paging.Walk.{tcs_walkable, walkable}
use Rattle.ak_model.specs.Tapes.ProgramTurns.{ProgramTurn}
use Rattle.ak_pager.specs.RuntimePages.{OfCopy}
use Rattle.ak_pte.specs.Table.{pte_at}
use Rattle.ak_relation.proofs.Exits.HeldFrames.{has_frame}
use Rattle.ak_relation.specs.Bytes.Pages.{IsTcs}
use Rattle.ak_relation.specs.Relation.Does.{at_moment}
use Rattle.ak_relation.specs.Relation.Stands.{Stands}
use Rattle.ak_relation.specs.State.MachineState.{State, copy}
use Rattle.ak_relation.specs.State.Tables.{TablesStand}
use Rattle.ak_walk.proofs.Bridge.{tcs_walk_finds-tcs_walkable, walk_finds-walkable}
use Rattle.ak_walk.specs.Agrees.{EntryAgrees}
use Rattle.ak_walk.specs.Mappings.{mapping_of}
use Rattle.ak_encls.specs.Enclave.{frame_at}
use Rattle.ak_enclu.specs.EnterAnswers.{finds_tcs}
use Rattle.ak_enclu.specs.TcsBytes.{saved_of}
use Rattle.ak_memory.specs.Granting.{is_walked}
use Rattle.ak_machine.specs.Machines.{HasBytes, IsSound, IsState, Parts}
use Rattle.ak_machine.proofs.Held.{few_saved}

-- a walk finds a page just where one of the definitions does
module _ (parts : Parts) (past : History) (state : State) (machine : IsState parts state) (h : TablesStand parts.layout past state) where
  pte_same : (p : ℕ) → p < all_pages parts.layout → mapping_of (pte_at parts.table p) ≡ pte parts.layout past p
  pte_same p low = sym (machine.mapped p low) ∙ h.mapping.mapped p low

  agrees : (f : ℕ) → EntryAgrees parts.layout (entry_at parts.encls.entries f) (held parts.layout past f) (blocked_at past f)
  agrees f = subst (λ (l : List Entry). EntryAgrees parts.layout (entry_at l f) (held parts.layout past f) (blocked_at past f)) machine.paging.entries (h.entries.entry f)

  pub walked_is : (p : ℕ) (kind : Kind) → p < all_pages parts.layout → is_walked parts.encls.entries parts.table (access_to p kind) ≡ walkable parts.layout past p kind
  walked_is p kind low =
      let e = pte_at parts.table p in
      walk_finds-walkable parts.layout past e.flags (entry_at parts.encls.entries e.frame.0) e.frame.0 p kind
      (ap (λ (entry : Mapping). entry.flags) (pte_same p low)) (ap (λ (entry : Mapping). entry.frame) (pte_same p low)) (agrees e.frame.0)

  -- and entering finds the TCS
  pub tcs_found_is : finds_tcs parts.encls.entries parts.table (tcs_page parts.layout) ≡ tcs_walkable parts.layout past
  tcs_found_is =
      let e = pte_at parts.table (tcs_page parts.layout) in
      let low : tcs_page parts.layout < all_pages parts.layout = omega arith in
      tcs_walk_finds-tcs_walkable parts.layout past e.flags (entry_at parts.encls.entries e.frame.0) e.frame.0
      (ap (λ (entry : Mapping). entry.flags) (pte_same (tcs_page parts.layout) low)) (ap (λ (entry : Mapping). entry.frame) (pte_same (tcs_page parts.layout) low))
      (agrees e.frame.0)

-- what was read from the frame that holds the TCS
pub told : (parts : Parts) (entries : List Entry) (f t n : ℕ) (bytes : List ℕ) → entries ≡ parts.encls.entries → t ≡ tcs_page parts.layout →
    has_page (entry_at entries f) t ≡ true → bytes ≡ frame_at parts.encls.frames f → n ≡ saved_of bytes →
    (x : List ℕ) × HasBytes parts.encls (tcs_page parts.layout) x × (n ≡ saved_of x)
told parts entries f t n bytes same is_tcs has read is = (
  bytes,
  record {
    frame = f;
    held = subst (λ (p : ℕ). has_page (entry_at parts.encls.entries f) p ≡ true) is_tcs (subst (λ (l : List Entry). has_page (entry_at l f) t ≡ true) same has);
    bytes_are = read;
  },
  is,
)

-- is the length of the stack, where the machine stands
pub stack_told : (parts : Parts) (image : List ℕ) (past : History) (control : Control) (turns : List ProgramTurn) (state : State) → IsState parts state →
    Stands parts.layout image (at_moment past control turns state) → (bytes : List ℕ) → HasBytes parts.encls (tcs_page parts.layout) bytes → saved_of bytes ≡ length control.stack
stack_told parts image past control turns state machine h bytes b =
    let tcs = tcs_page parts.layout in
    let there =
    has_frame parts.layout past state h.tables b.frame tcs (subst (λ (l : List Entry). has_page (entry_at l b.frame) tcs ≡ true) (sym machine.paging.entries) b.held) in
    let says : IsTcs (length control.stack) control.pending (state.frames b.frame) =
    subst (λ (o : Option (List ℕ)). OfCopy o (IsTcs (length control.stack) control.pending)) (ap (copy state) (h.tables.one_copy.placed tcs b.frame there)) h.bytes.pages.tcs in
    ap saved_of (b.bytes_are ∙ sym (machine.paging.frames b.frame)) ∙ says.saved_is

-- and is three at most
pub few_told : (parts : Parts) → IsSound parts → (bytes : List ℕ) → HasBytes parts.encls (tcs_page parts.layout) bytes → saved_of bytes ≤ 3
few_told parts s bytes b = subst (λ (x : List ℕ). saved_of x ≤ 3) (sym b.bytes_are) (few_saved parts s b.frame b.held)
