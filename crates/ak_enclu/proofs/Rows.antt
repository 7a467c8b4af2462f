-- The answers are the rows over a machine's own tables.
use Rattle.std.proofs.Common.{◌≡◌, ℕ, zero, suc, ◌-◌, ◌<◌, ◌≤◌, Bool, true, false, not, ◌&&◌, List, ◌==◌, if◌then◌else◌, refl, ap, sym, ◌∙◌, subst, arith}
use Rattle.std.proofs.lemmas.Bool.{lt-ltb, ne_eqb}
use Rattle.std.specs.Prelude.{nat_lt}
use Rattle.std.specs.List.{list_any}
use Rattle.ak_core.specs.Layout.{Layout}
use Rattle.ak_core.specs.declared.moves.Answer.{Answer}
use Rattle.ak_core.specs.declared.moves.Answer.TheVariants.{Ok, NoLp, Gp, Pending, SsaFault}
use Rattle.ak_core.specs.declared.page.Entry.{Entry}
use Rattle.ak_core.specs.declared.page.Kind.TheVariants.{Write}
use Rattle.ak_epcm.specs.Entries.{entry_at}
use Rattle.ak_model.specs.Paging.Frames.{held, blocked_at}
use Rattle.ak_model.specs.Paging.Histories.{History}
use Rattle.ak_model.specs.Paging.Holdings.{Mapping}
use Rattle.ak_model.specs.Paging.Inside.{processors}
use Rattle.ak_model.specs.Paging.PageTable.{pte}
use Rattle.ak_model.specs.Paging.Pages.{all_pages, tcs_page, ssa_page}
use Rattle.ak_pte.specs.declared.table.Pte.{Pte}
use Rattle.ak_walk.proofs.Bridge.{walk_finds-walkable, tcs_walk_finds-tcs_walkable}
use Rattle.ak_walk.specs.Agrees.{EntryAgrees}
use Rattle.ak_relation.proofs.Entering.EnterAnswers.{walk_same, tcs_same}
use Rattle.ak_relation.specs.Premises.EnterRows.{walk_in, tcs_in, tcs_bytes, enter_row, resume_row}
use Rattle.ak_relation.specs.State.MachineState.{State}
use Rattle.ak_relation.specs.State.Tables.{TablesStand}
use Rattle.ak_encls.specs.Enclave.{Enclave}
use Rattle.ak_enclu.specs.EnterAnswers.{finds_tcs, finds_area, area_page, unless_outside, enter_answer, resume_answer}
use Rattle.ak_pte.specs.Table.{pte_at}
use Rattle.ak_walk.specs.Mappings.{mapping_of}
use Rattle.ak_enclu.specs.Machines.{IsMachine}
use Rattle.ak_enclu.specs.Passing.{tcs_at}
use Rattle.ak_enclu.specs.TcsBytes.{saved_of, pending_of}
use Rattle.ak_enclu.specs.declared.cpu.Cpu.{Cpu}

module _ (layout : Layout) (past : History) (state : State) (cpu : Cpu) (table : List Pte) (encls : Enclave)
    (h : TablesStand layout past state) (m : IsMachine layout cpu table encls state) where
  pte_same : (p : ℕ) → p < all_pages layout → mapping_of (pte_at table p) ≡ pte layout past p
  pte_same p low = sym (m.mapped p low) ∙ h.mapping.mapped p low

  agrees : (f : ℕ) → EntryAgrees layout (entry_at encls.entries f) (held layout past f) (blocked_at past f)
  agrees f = subst (λ (l : List Entry). EntryAgrees layout (entry_at l f) (held layout past f) (blocked_at past f)) m.paging.entries (h.entries.entry f)

  area_found : (p : ℕ) → p < all_pages layout → finds_area encls.entries table p ≡ walk_in layout state p Write
  area_found p low =
      let e = pte_at table p in
      walk_finds-walkable layout past e.flags (entry_at encls.entries e.frame.0) e.frame.0 p Write
      (ap (λ (entry : Mapping). entry.flags) (pte_same p low)) (ap (λ (entry : Mapping). entry.frame) (pte_same p low)) (agrees e.frame.0)
      ∙ sym (walk_same layout past state h p Write low)

  tcs_found : finds_tcs encls.entries table (tcs_page layout) ≡ tcs_in layout state
  tcs_found =
      let e = pte_at table (tcs_page layout) in
      let low : tcs_page layout < all_pages layout = omega arith in
      tcs_walk_finds-tcs_walkable layout past e.flags (entry_at encls.entries e.frame.0) e.frame.0
      (ap (λ (entry : Mapping). entry.flags) (pte_same (tcs_page layout) low)) (ap (λ (entry : Mapping). entry.frame) (pte_same (tcs_page layout) low)) (agrees e.frame.0)
      ∙ sym (tcs_same layout past state h)

  pub bytes_same : tcs_at encls table (tcs_page layout) ≡ tcs_bytes layout state
  bytes_same =
      let low : tcs_page layout < all_pages layout = omega arith in
      sym (m.paging.frames (pte_at table (tcs_page layout)).frame.0)
      ∙ ap state.frames (sym (ap (λ (entry : Mapping). entry.frame) (m.mapped (tcs_page layout) low)))

  -- an area by its number
  abbrev found_row : ℕ → Answer
  found_row n = if not (finds_area encls.entries table (area_page (tcs_page layout) n)) then SsaFault else Ok

  abbrev walked_row : ℕ → Answer
  walked_row n = if not (walk_in layout state (ssa_page layout n) Write) then SsaFault else Ok

  area_same : (n : ℕ) → n ≤ 2 → found_row n ≡ walked_row n
  area_same n le =
      let low : ssa_page layout n < all_pages layout = omega arith in
      ap (λ b. if not b then SsaFault else Ok) (area_found (ssa_page layout n) low)

  to_enter : (n : ℕ) → n ≤ 3 → (if n == 3 then Gp else found_row n) ≡ (if n == 3 then Gp else walked_row n)
  to_enter zero le = area_same 0 (omega arith)
  to_enter (suc zero) le = area_same 1 (omega arith)
  to_enter (suc (suc zero)) le = area_same 2 (omega arith)
  to_enter (suc (suc (suc zero))) le = refl
  to_enter (suc (suc (suc (suc n)))) le = absurd (omega arith)

  by_flag : (pending : Bool) (k : ℕ) → k ≤ 2 → (if pending then Pending else found_row k) ≡ (if pending then Pending else walked_row k)
  by_flag true k le = refl
  by_flag false k le = area_same k le

  to_resume : (pending : Bool) (n : ℕ) → n ≤ 3
      → (if n == 0 then Gp else (if pending then Pending else found_row (n - 1))) ≡ (if n == 0 then Gp else (if pending then Pending else walked_row (n - 1)))
  to_resume pending zero le = refl
  to_resume pending (suc n) le =
      let positive : (suc n == 0) ≡ false = ne_eqb (suc n) 0 (λ wrong. omega (arith, wrong)) in
      ap (λ b. if b then Gp else (if pending then Pending else found_row (suc n - 1))) positive
      ∙ by_flag pending (suc n - 1) (omega arith)
      ∙ sym (ap (λ b. if b then Gp else (if pending then Pending else walked_row (suc n - 1))) positive)

  abbrev busy : Bool
  busy = list_any (λ q. (state.processors q).inside && not (q == cpu.lp.0)) (processors layout)

  -- the same answer, where it is asked for
  chosen : (x y : Answer) (inside found busy : Bool) → (found ≡ true → x ≡ y) → unless_outside inside found busy x ≡ unless_outside inside found busy y
  chosen x y true found busy same = refl
  chosen x y false false busy same = refl
  chosen x y false true busy same = ap (λ a. unless_outside false true busy a) (same refl)

  outside : (x y : Answer) → cpu.lp.0 < layout.lps → (finds_tcs encls.entries table (tcs_page layout) ≡ true → x ≡ y)
      → unless_outside cpu.inside (finds_tcs encls.entries table (tcs_page layout)) busy x
      ≡ (if not (nat_lt cpu.lp.0 layout.lps) then NoLp else unless_outside (state.processors cpu.lp.0).inside (tcs_in layout state) busy y)
  outside x y low same =
      ap (λ b. unless_outside b (finds_tcs encls.entries table (tcs_page layout)) busy x) (sym m.processor.inside)
      ∙ ap (λ b. unless_outside (state.processors cpu.lp.0).inside b busy x) tcs_found
      ∙ chosen x y (state.processors cpu.lp.0).inside (tcs_in layout state) busy (λ found. same (tcs_found ∙ found))
      ∙ ap (λ b. if not b then NoLp else unless_outside (state.processors cpu.lp.0).inside (tcs_in layout state) busy y) (sym (lt-ltb cpu.lp.0 layout.lps low))

  abbrev bytes : List ℕ
  bytes = tcs_at encls table (tcs_page layout)

  pub enters_by_row : cpu.lp.0 < layout.lps → (finds_tcs encls.entries table (tcs_page layout) ≡ true → saved_of bytes ≤ 3)
      → enter_answer encls.entries table (tcs_page layout) bytes cpu.inside busy ≡ enter_row layout state cpu.lp.0
  enters_by_row low few =
      outside _ _ low (λ found. to_enter (saved_of bytes) (few found) ∙ ap (λ l. if saved_of l == 3 then Gp else walked_row (saved_of l)) bytes_same)

  pub resumes_by_row : cpu.lp.0 < layout.lps → (finds_tcs encls.entries table (tcs_page layout) ≡ true → saved_of bytes ≤ 3)
      → resume_answer encls.entries table (tcs_page layout) bytes cpu.inside busy ≡ resume_row layout state cpu.lp.0
  resumes_by_row low few =
      outside _ _ low (λ found. to_resume (pending_of bytes) (saved_of bytes) (few found)
      ∙ ap (λ l. if saved_of l == 0 then Gp else (if pending_of l then Pending else walked_row (saved_of l - 1))) bytes_same)
