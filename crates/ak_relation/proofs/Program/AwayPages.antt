-- A page that is in no frame has the same bytes after an instruction: each page that it writes is cached after it, and so in a frame.
use Rattle.std.proofs.Common.{◌≡◌, ℕ, ◌*◌, ◌≤◌, List, [], ◌∷◌, ◌++◌, length, map, refl, ap, sym, ◌∙◌, subst}
use Rattle.std.proofs.lemmas.Bool.{eqb-true}
use Rattle.std.specs.Prelude.{Bool, true, false, ◌||◌, Some, ◌==◌}
use Rattle.ak_core.specs.Layout.{Layout}
use Rattle.ak_core.specs.Mem.{Access, access_to}
use Rattle.ak_core.specs.declared.page.Kind.TheVariants.{Write}
use Rattle.ak_model.specs.Paging.Pages.{pages}
use Rattle.ak_model.specs.Paging.Histories.{History}
use Rattle.ak_model.specs.Paging.Holdings.{PageFrame}
use Rattle.ak_model.specs.Paging.Frames.{held}
use Rattle.ak_model.specs.Paging.Inside.{since}
use Rattle.ak_model.specs.Misses.KeptTranslations.{is_among}
use Rattle.ak_model.specs.Flat.FlatRuns.{Flat, End, line, ending, page_bytes}
use Rattle.ak_epcm.specs.Entries.{entry_at}
use Rattle.ak_relation.specs.State.MachineState.{State}
use Rattle.ak_relation.specs.State.Tables.{TablesStand}
use Rattle.ak_relation.specs.State.MachineView.{held_in}
use Rattle.ak_relation.specs.Program.Reaching.{is_filled, AreReached}
use Rattle.ak_tlb.specs.Fills.{Fill}
use Rattle.ak_relation.specs.Premises.Faulting.{AreWalked}
use Rattle.ak_relation.specs.Premises.CallingOut.{walked_fill}
use Rattle.ak_relation.proofs.Leaves.ViewStands.{view-same}
use Rattle.ak_relation.proofs.Program.WalkedFills.{fills_reached}
use Rattle.ak_relation.proofs.Flat.WrittenRuns.{unwritten_same}

left_false : (b c : Bool) → (b || c) ≡ false → b ≡ false
left_false true c e = absurd (cc)
left_false false c e = refl

module _ (layout : Layout) (past : History) (place : ℕ) where
  -- no access of a page that is in no frame is cached
  pub none_filled : (fills : List Fill) → AreReached layout past place fills → (t : Access) → ((f : ℕ) → held layout past f ≡ PageFrame t.page.0 → ⊥) → is_filled fills t ≡ false
  none_filled [] r t gone = refl
  none_filled (fill ∷ fills) r t gone = differs (t.page.0 == fill.access.page.0) refl (none_filled fills r.1 t gone)
    where
      differs : (b : Bool) → (t.page.0 == fill.access.page.0) ≡ b → is_filled fills t ≡ false → is_filled (fill ∷ fills) t ≡ false
      differs true e rest = absurd (gone fill.frame (r.0.frame.holds ∙ ap PageFrame (sym (eqb-true t.page.0 fill.access.page.0 e))))
      differs false e rest = rw e rest

module _ (layout : Layout) (past : History) (lp place : ℕ) (is : since past lp ≡ Some place) (old : State) (h : TablesStand layout past old)
    (cached : AreReached layout past place (old.processors lp).fills) (flat after : Flat) (full : 4096 * pages layout ≤ length flat.bytes) where
  -- what is asked of a turn that completes an instruction, as `away`
  pub away_pages : (walked : List Access) (fills : List Fill) → ending layout flat ≡ End.Next after → AreWalked layout old walked →
      fills ≡ map (walked_fill old) walked ++ (old.processors lp).fills →
      ((t : Access) → is_filled fills t ≡ (is_among (line layout flat).accesses t || is_filled (old.processors lp).fills t)) →
      (p : ℕ) → ((f : ℕ) → held_in (entry_at old.entries f) ≡ PageFrame p → ⊥) → page_bytes flat p ≡ page_bytes after p
  away_pages walked fills ends found are filled p gone =
      let all : AreReached layout past place fills = subst (AreReached layout past place) (sym are) (fills_reached layout past lp place is old h walked (old.processors lp).fills found cached) in
      let same = view-same layout past old h in
      let none : is_filled fills (access_to p Write) ≡ false = none_filled layout past place fills all (access_to p Write) (λ f e. gone f (same.held f ∙ e)) in
      sym (unwritten_same layout flat full after p ends (left_false (is_among (line layout flat).accesses (access_to p Write)) _ (sym (filled (access_to p Write)) ∙ none)))
