-- Setting and reading an entry of the page table.
use Rattle.std.proofs.Common.{◌≡◌, ℕ, ◌<◌, Bool, true, false, List, length, set, nat_lt, ◌==◌, refl, ap, sym, ◌∙◌, subst, arith, if◌then◌else◌, get_or-set_same, get_or-set_other}
use Rattle.std.proofs.lemmas.Bool.{eqb-false, eqb-true, ltb-true}
use Rattle.std.proofs.lemmas.List.{length-set}
use Rattle.std.specs.Prelude.{None}
use Rattle.ak_core.specs.declared.moves.Answer.TheVariants.{Ok, NoPage}
use Rattle.ak_core.specs.declared.moves.Move.TheVariants.{SetPte, ReadPte}
use Rattle.ak_core.specs.declared.page.Page.{Page}
use Rattle.ak_model.specs.Paging.Holdings.{Mapping}
use Rattle.ak_model.specs.Paging.Pages.{all_pages}
use Rattle.ak_pte.specs.Table.{pte_at, unmapped}
use Rattle.ak_pte.specs.declared.table.Pte.{Pte}
use Rattle.ak_relation.proofs.Leaves.DiscardMoves.{set_pte_refused, read_pte_moves, read_pte_refused}
use Rattle.ak_relation.proofs.Leaves.DoneMoves.{set_pte_moves}
use Rattle.ak_relation.specs.Relation.Does.{IsMove}
use Rattle.ak_relation.specs.State.MachineState.{State}
use Rattle.ak_relation.specs.State.TableChanges.{pte_answer, with_mapping}
use Rattle.ak_walk.specs.Mappings.{mapping_of}
use Rattle.ak_machine.specs.Machines.{IsSound, IsState, Parts}
use Rattle.ak_machine.specs.Moves.{Moves, plainly}
use Rattle.ak_machine.proofs.Plain.{counts_none, plain_moves, stays}

module _ (parts : Parts) (s : IsSound parts) (p : Page) where
  -- a page that there is not
  pub not_set : (e : Pte) → nat_lt p.0 (all_pages parts.layout) ≡ false → Moves parts (SetPte p e.frame e.flags) (plainly NoPage) parts
  not_set e none = stays parts (SetPte p e.frame e.flags) NoPage refl (λ state machine. set_pte_refused parts.layout state p e.frame e.flags none)

  pub not_read : nat_lt p.0 (all_pages parts.layout) ≡ false → Moves parts (ReadPte p) (plainly NoPage) parts
  not_read none = stays parts (ReadPte p) NoPage refl (λ state machine. read_pte_refused parts.layout state p none)

  -- reading
  pub is_read : nat_lt p.0 (all_pages parts.layout) ≡ true → Moves parts (ReadPte p) (plainly (pte_answer (mapping_of (pte_at parts.table p.0)))) parts
  is_read has =
      stays parts (ReadPte p) (pte_answer (mapping_of (pte_at parts.table p.0))) refl
      (λ state machine. subst (λ (entry : Mapping). IsMove parts.layout state state (ReadPte p) (pte_answer entry) None)
      (machine.mapped p.0 (ltb-true p.0 (all_pages parts.layout) has))
      (read_pte_moves parts.layout state p has))

  -- setting
  module _ (e : Pte) (has : nat_lt p.0 (all_pages parts.layout) ≡ true) where
    abbrev table : List Pte
    table = set parts.table p.0 e

    within : p.0 < length parts.table
    within = let low = ltb-true p.0 (all_pages parts.layout) has in let many = s.sized in omega (arith, low, many)

    by_page : (state : State) → IsState parts state → (q : ℕ) (b : Bool) → (q == p.0) ≡ b → q < all_pages parts.layout →
        (if b then mapping_of e else state.table q) ≡ mapping_of (pte_at table q)
    by_page state machine q true is low =
        ap mapping_of (sym (get_or-set_same parts.table p.0 e unmapped within)) ∙ ap (λ (i : ℕ). mapping_of (pte_at table i)) (sym (eqb-true q p.0 is))
    by_page state machine q false is low =
        machine.mapped q low ∙ ap mapping_of (sym (get_or-set_other parts.table p.0 q e unmapped (λ same. eqb-false q p.0 is same)))

    entry_set : (state : State) → IsState parts state → IsState (record parts { table = table }) (with_mapping state p.0 (mapping_of e))
    entry_set state machine = record {
      paging = record {
        count = machine.paging.count;
        entries = machine.paging.entries;
        frames = machine.paging.frames;
        sealed_pages = machine.paging.sealed_pages;
        next = machine.paging.next;
        track = machine.paging.track;
        stamps = machine.paging.stamps;
        within = machine.paging.within;
      };
      mapped = λ q low. by_page state machine q (q == p.0) refl low;
      processors = record { each = machine.processors.each; no_more = machine.processors.no_more };
    }

    pub is_set : Moves parts (SetPte p e.frame e.flags) (plainly Ok) (record parts { table = table })
    is_set = record {
      layout = refl;
      each = refl;
      sized = length-set parts.table p.0 e;
      moved = λ state machine. plain_moves parts.layout state (with_mapping state p.0 (mapping_of e)) (SetPte p e.frame e.flags) Ok (record parts { table = table })
          (entry_set state machine) refl refl (set_pte_moves parts.layout state p e.frame e.flags has);
      refused = λ undone. absurd (cc);
      counts = counts_none parts.encls parts.encls Ok refl refl refl refl;
      few = omega arith;
    }
