-- Translations that walks found just now: each names the open frame of its page.
use Rattle.std.proofs.Common.{◌≡◌, ℕ, List, [], ◌∷◌, ◌++◌, map, refl, sym, ◌∙◌, subst}
use Rattle.std.proofs.lemmas.Bool.{and_parts}
use Rattle.std.specs.Prelude.{true, ◌&&◌, Some}
use Rattle.std.specs.List.{list_all}
use Rattle.ak_core.specs.Layout.{Layout}
use Rattle.ak_core.specs.Mem.{Access}
use Rattle.ak_model.specs.Paging.Pages.{permits}
use Rattle.ak_model.specs.Paging.Histories.{History}
use Rattle.ak_model.specs.Paging.Holdings.{Mapping}
use Rattle.ak_model.specs.Paging.PageTable.{pte}
use Rattle.ak_model.specs.Paging.Inside.{since}
use Rattle.ak_model.specs.Paging.Walk.{flags_allow, is_in_frame}
use Rattle.ak_relation.specs.State.MachineState.{State}
use Rattle.ak_relation.specs.State.Tables.{TablesStand}
use Rattle.ak_model.specs.Laws.OpenFrames.{IsLate}
use Rattle.ak_relation.specs.Program.Reaching.{IsReachedFill, AreReached}
use Rattle.ak_relation.specs.Premises.EnterRows.{walk_in}
use Rattle.ak_tlb.specs.Fills.{Fill}
use Rattle.ak_relation.specs.Premises.Faulting.{AreWalked}
use Rattle.ak_relation.specs.Premises.CallingOut.{walked_fill}
use Rattle.ak_relation.proofs.Entering.EnterFacts.{IsOpenFrame, frame_is}
use Rattle.ak_relation.proofs.Entering.EnterAnswers.{walk_same}
use Rattle.ak_relation.proofs.Exits.WalkedReached.{permits_low, walk_reaches}

module _ (layout : Layout) (past : History) (lp place : ℕ) (is : since past lp ≡ Some place) (s : State) (h : TablesStand layout past s) where
  reached_fill : (t : Access) → walk_in layout s t.page.0 t.kind ≡ true → IsReachedFill layout past place (walked_fill s t)
  reached_fill t found =
      let p = t.page.0 in
      let entry = pte layout past p in
      let permitted = (and_parts (permits layout p t.kind) _ found).0 in
      let low = permits_low layout p t.kind permitted in
      let there = sym (walk_same layout past s h p t.kind low) ∙ found in
      let a = and_parts (permits layout p t.kind) (flags_allow entry.flags t.kind && is_in_frame layout past p entry.frame) there in
      let b = and_parts (flags_allow entry.flags t.kind) (is_in_frame layout past p entry.frame) a.1 in
      let mapped : IsOpenFrame layout past (s.table p).frame p = subst (λ (m : Mapping). IsOpenFrame layout past m.frame p) (sym (h.mapping.mapped p low)) (frame_is layout past p entry.frame b.1) in
      record {
        frame = record { holds = mapped.holds; late = subst (IsLate place) (sym mapped.unblocked) tt };
        reached = walk_reaches layout past lp place is s h past t refl there;
      }

  -- the cached translations, with those that were walked just now
  pub fills_reached : (walked : List Access) (fills : List Fill) → AreWalked layout s walked → AreReached layout past place fills → AreReached layout past place (map (walked_fill s) walked ++ fills)
  fills_reached [] fills found k = k
  fills_reached (t ∷ walked) fills found k =
      let parts = and_parts (walk_in layout s t.page.0 t.kind) (list_all (λ u. walk_in layout s u.page.0 u.kind) walked) found in
      (reached_fill t parts.0, fills_reached walked fills parts.1 k)
