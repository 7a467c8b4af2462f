-- The rows of entering and resuming over the machine's own tables are the answers of the definitions.
use Rattle.std.proofs.Math.Path.{fun_ext}
use Rattle.std.proofs.Common.{◌≡◌, ℕ, ◌-◌, ◌<◌, ◌≤◌, List, length, refl, ap, ◌∙◌, subst, arith}
use Rattle.std.proofs.lemmas.Bool.{and_parts, eqb-false}
use Rattle.std.specs.Prelude.{Bool, true, false, ◌&&◌, not, nat_lt, Option, Some, None, is_some, is_none, ◌==◌, if◌then◌else◌}
use Rattle.std.specs.List.{list_any}
use Rattle.ak_core.specs.Layout.{Layout}
use Rattle.ak_core.specs.declared.page.Kind.{Kind}
use Rattle.ak_core.specs.declared.page.Kind.TheVariants.{Write}
use Rattle.ak_core.specs.declared.moves.Answer.{Answer}
use Rattle.ak_core.specs.declared.moves.Answer.TheVariants.{Ok, NoLp, Inside, TcsFault, Busy, Gp, Pending, SsaFault}
use Rattle.ak_model.specs.Paging.Pages.{permits, all_pages, tcs_page, ssa_page}
use Rattle.ak_model.specs.Paging.Histories.{History}
use Rattle.ak_model.specs.Paging.Holdings.{PageFrame, is_page_in, Mapping}
use Rattle.ak_model.specs.Paging.Frames.{held, blocked_at}
use Rattle.ak_model.specs.Paging.PageTable.{pte}
use Rattle.ak_model.specs.Paging.Inside.{inside, processors, another_inside}
use Rattle.ak_model.specs.Paging.Walk.{is_preset, flags_allow, is_in_frame, walkable, tcs_walkable}
use Rattle.ak_model.specs.Control.ControlState.{Control}
use Rattle.ak_model.specs.Control.Answers.{enter_answer, resume_answer}
use Rattle.ak_model.specs.Tapes.ProgramTurns.{ProgramTurn}
use Rattle.ak_model.specs.Sound.Forced.{queue_by}
use Rattle.ak_model.proofs.Control.OrderlyMoves.{three}
use Rattle.ak_epcm.specs.Entries.{entry_at}
use Rattle.ak_relation.specs.State.MachineState.{State, copy}
use Rattle.ak_pager.specs.RuntimePages.{OfCopy}
use Rattle.ak_relation.specs.State.Tables.{TablesStand}
use Rattle.ak_relation.specs.Bytes.Pages.{flag_number, IsTcs}
use Rattle.ak_relation.specs.Premises.EnterRows.{is_in_entry, walk_in, tcs_in, pending_in, tcs_bytes, enter_row, resume_row}
use Rattle.ak_relation.specs.Relation.Stands.{Stands}
use Rattle.ak_relation.specs.Relation.Does.{at_moment}
use Rattle.ak_relation.proofs.Entering.EnterFacts.{holds_is, frame_is}
use Rattle.ak_relation.proofs.Leaves.ViewStands.{view-same}

-- ---- Walks

none_some : (o : Option ℕ) → not (is_some o) ≡ is_none o
none_some None = refl
none_some (Some x) = refl

module _ (layout : Layout) (past : History) (s : State) (h : TablesStand layout past s) where
  in_entry : (p f : ℕ) → is_in_entry s p f ≡ is_in_frame layout past p f
  in_entry p f =
      let same = view-same layout past s h in
      ap (λ k. is_page_in k p && not (entry_at s.entries f).blocked) (same.held f) ∙ by_test (is_page_in (held layout past f) p) refl
    where
      by_test : (b : Bool) → is_page_in (held layout past f) p ≡ b → (b && not (entry_at s.entries f).blocked) ≡ (b && is_none (blocked_at past f))
      by_test true e = let same = view-same layout past s h in ap not (same.blocked f p (holds_is (held layout past f) p e)) ∙ none_some (blocked_at past f)
      by_test false e = refl

  -- a walk over the machine's tables finds what a walk of the definitions does
  pub walk_same : (p : ℕ) (kind : Kind) → p < all_pages layout → walk_in layout s p kind ≡ walkable layout past p kind
  walk_same p kind low =
      ap (λ b. permits layout p kind && (flags_allow (s.table p).flags kind && b)) (in_entry p (s.table p).frame)
      ∙ ap (λ (m : Mapping). permits layout p kind && (flags_allow m.flags kind && is_in_frame layout past p m.frame)) (h.mapping.mapped p low)

  -- and so for the TCS
  pub tcs_same : tcs_in layout s ≡ tcs_walkable layout past
  tcs_same =
      ap (λ b. is_preset (s.table (tcs_page layout)).flags && b) (in_entry (tcs_page layout) (s.table (tcs_page layout)).frame)
      ∙ ap (λ (m : Mapping). is_preset m.flags && is_in_frame layout past (tcs_page layout) m.frame) (h.mapping.mapped (tcs_page layout) (omega arith))

-- ---- Rows

-- the answer by what is found of the processor, the TCS and the others
abbrev outside_by : Bool → Bool → Bool → Bool → Answer → Answer
outside_by low there found busy answer =
    if not low then NoLp else (if there then Inside else (if not found then TcsFault else (if busy then Busy else answer)))

outside_same : (low there found busy : Bool) (x y : Answer) → (found ≡ true → x ≡ y) → outside_by low there found busy x ≡ outside_by low there found busy y
outside_same false there found busy x y h = refl
outside_same true true found busy x y h = refl
outside_same true false false busy x y h = refl
outside_same true false true true x y h = refl
outside_same true false true false x y h = h refl

flag_back : (b : Bool) → (flag_number b == 1) ≡ b
flag_back true = refl
flag_back false = refl

module _ (layout : Layout) (image : List ℕ) (past : History) (control : Control) (turns : List ProgramTurn) (s : State) (lp : ℕ)
    (h : Stands layout image (at_moment past control turns s)) where
  -- where entering finds the TCS, its bytes are those of the control state
  pub tcs_told : tcs_walkable layout past ≡ true → IsTcs (length control.stack) control.pending (tcs_bytes layout s)
  tcs_told found =
      let entry = pte layout past (tcs_page layout) in
      let a = and_parts (is_preset entry.flags) (is_in_frame layout past (tcs_page layout) entry.frame) found in
      let open_frame = frame_is layout past (tcs_page layout) entry.frame a.1 in
      let mapped = h.tables.mapping.mapped (tcs_page layout) (omega arith) in
      let there : held layout past (s.table (tcs_page layout)).frame ≡ PageFrame (tcs_page layout) = ap (λ (m : Mapping). held layout past m.frame) mapped ∙ open_frame.holds in
      subst (λ o. OfCopy o (IsTcs (length control.stack) control.pending)) (ap (copy s) (h.tables.one_copy.placed (tcs_page layout) (s.table (tcs_page layout)).frame there)) h.bytes.pages.tcs

  -- with these contexts saved, the area is a page
  area_low : (n : ℕ) → n ≤ 2 → ssa_page layout n < all_pages layout
  area_low n le = omega arith

  few : length control.stack ≤ 3
  few = three layout (queue_by layout turns) control.phase control.queue control.stack h.laws.orderly.stack

  busy_same : list_any (λ q. (s.processors q).inside && not (q == lp)) (processors layout) ≡ another_inside layout past lp
  busy_same = ap (λ (f : ℕ → Bool). list_any (λ q. f q && not (q == lp)) (processors layout)) (fun_ext (λ q. h.tables.presence.within q))

  outside : (x y : Answer) → (tcs_walkable layout past ≡ true → x ≡ y) →
      outside_by (nat_lt lp layout.lps) (s.processors lp).inside (tcs_in layout s) (list_any (λ q. (s.processors q).inside && not (q == lp)) (processors layout)) x
      ≡ outside_by (nat_lt lp layout.lps) (inside past lp) (tcs_walkable layout past) (another_inside layout past lp) y
  outside x y same =
      ap (λ b. outside_by (nat_lt lp layout.lps) b (tcs_in layout s) (list_any (λ q. (s.processors q).inside && not (q == lp)) (processors layout)) x) (h.tables.presence.within lp)
      ∙ ap (λ b. outside_by (nat_lt lp layout.lps) (inside past lp) b (list_any (λ q. (s.processors q).inside && not (q == lp)) (processors layout)) x) (tcs_same layout past s h.tables)
      ∙ ap (λ b. outside_by (nat_lt lp layout.lps) (inside past lp) (tcs_walkable layout past) b x) busy_same
      ∙ outside_same (nat_lt lp layout.lps) (inside past lp) (tcs_walkable layout past) (another_inside layout past lp) x y same

  area_same : (n : ℕ) → n ≤ 2 → walk_in layout s (ssa_page layout n) Write ≡ walkable layout past (ssa_page layout n) Write
  area_same n le = walk_same layout past s h.tables (ssa_page layout n) Write (area_low n le)

  entering : (n : ℕ) (b : Bool) → (n == 3) ≡ b → n ≤ 3 →
      (if b then Gp else (if not (walk_in layout s (ssa_page layout n) Write) then SsaFault else Ok)) ≡ (if b then Gp else (if not (walkable layout past (ssa_page layout n) Write) then SsaFault else Ok))
  entering n true e le = refl
  entering n false e le = let other = eqb-false n 3 e in ap (λ b. if not b then SsaFault else Ok) (area_same n (omega arith))

  -- the row of an entering
  pub enter_row-answer : enter_row layout s lp ≡ enter_answer layout past control lp
  enter_row-answer =
      outside _ _ (λ found.
      let tcs = tcs_told found in
      ap (λ n. if n == 3 then Gp else (if not (walk_in layout s (ssa_page layout n) Write) then SsaFault else Ok)) tcs.saved_is
      ∙ entering (length control.stack) (length control.stack == 3) refl few)

  resuming : (n : ℕ) (b : Bool) → (n == 0) ≡ b → n ≤ 3 →
      (if b then Gp else (if control.pending then Pending else (if not (walk_in layout s (ssa_page layout (n - 1)) Write) then SsaFault else Ok)))
      ≡ (if b then Gp else (if control.pending then Pending else (if not (walkable layout past (ssa_page layout (n - 1)) Write) then SsaFault else Ok)))
  resuming n true e le = refl
  resuming n false e le = ap (λ b. if control.pending then Pending else (if not b then SsaFault else Ok)) (area_same (n - 1) (omega arith))

  -- the row of a resuming
  pub resume_row-answer : resume_row layout s lp ≡ resume_answer layout past control lp
  resume_row-answer =
      outside _ _ (λ found.
      let tcs = tcs_told found in
      ap (λ n. if n == 0 then Gp else (if pending_in layout s then Pending else (if not (walk_in layout s (ssa_page layout (n - 1)) Write) then SsaFault else Ok))) tcs.saved_is
      ∙ ap (λ b. if length control.stack == 0 then Gp else (if b then Pending else (if not (walk_in layout s (ssa_page layout (length control.stack - 1)) Write) then SsaFault else Ok)))
      (ap (λ n. n == 1) tcs.pending_is ∙ flag_back control.pending)
      ∙ resuming (length control.stack) (length control.stack == 0) refl few)
