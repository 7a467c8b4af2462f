-- The turns of the program that leave with an event, as `IsTurn`: from what the machine shows wherever the program is, and from the
-- saving of its frame.
use Rattle.std.proofs.Common.{◌≡◌, ◌≢◌, ℕ, refl, ap, sym, subst}
use Rattle.std.specs.Prelude.{true, false, Option, Some, None, is_some}
use Rattle.ak_core.specs.Layout.{Layout, IsValid}
use Rattle.ak_core.specs.Mem.{Access}
use Rattle.ak_core.specs.declared.event.Event.TheVariants.{Miss, Trap, Break}
use Rattle.ak_core.specs.declared.moves.Exit.{Exit}
use Rattle.ak_core.specs.declared.registers.Mode.{Mode}
use Rattle.ak_model.specs.Paging.Pages.{cluster_at}
use Rattle.ak_model.specs.Clusters.Queue.{is_in}
use Rattle.ak_model.specs.Paging.Inside.{since, inside}
use Rattle.ak_model.specs.Flat.FlatRuns.{is_forbidden}
use Rattle.ak_model.specs.Control.RuntimeTurn.{shown_fault}
use Rattle.ak_ssa.specs.SavedFrames.{ByVector, ByPage}
use Rattle.ak_relation.specs.State.MachineState.{State}
use Rattle.ak_relation.specs.Premises.Faulting.{ShowsTrap, ShowsFault, SavesFirst}
use Rattle.ak_relation.specs.Relation.Does.{TurnFollows, past_after, at_moment, GoesTo, IsTurn}
use Rattle.ak_relation.proofs.Program.Seen.{sees}
use Rattle.ak_relation.proofs.Exits.EventTurns.{breaks_here, misses_here, denies_here, raises_here}

module _ (layout : Layout) (valid : IsValid layout) (lp : ℕ) (old new : State) (mode : (old.processors lp).regs.mode ≡ Mode.Program) where
  -- a fault in a cluster that is in
  pub break_turns : (access : Access) → ShowsFault layout lp old access → is_in old.queue (cluster_at layout access.page.0) ≡ true → SavesFirst layout lp old new (ByPage access) → IsTurn layout lp old new (Some (shown_fault layout)) (Some (Break old.count))
  break_turns access shows tells s image past control turns within h all = by_place (since past lp) refl
    where
      by_place : (o : Option ℕ) → since past lp ≡ o → GoesTo layout image (TurnFollows layout lp past (Some (shown_fault layout))) (at_moment past control turns old) (past_after past lp all (Some (shown_fault layout))) new (Some (Break old.count))
      by_place None e = absurd (let f : inside past lp ≡ false = ap is_some e in cc)
      by_place (Some place) e =
          subst (λ (n : ℕ). GoesTo layout image (TurnFollows layout lp past (Some (shown_fault layout))) (at_moment past control turns old) (past_after past lp all (Some (shown_fault layout))) new (Some (Break n))) (sym h.counted)
          (breaks_here layout valid lp old new mode image past control turns h all place e access (shows h.bytes.flat (sees layout image past control turns old lp place h e mode)) tells s)

  -- a fault in a cluster that is out
  pub miss_turns : (access : Access) → ShowsFault layout lp old access → is_in old.queue (cluster_at layout access.page.0) ≡ false → SavesFirst layout lp old new (ByPage access) → IsTurn layout lp old new (Some (shown_fault layout)) (Some (Miss old.count (cluster_at layout access.page.0)))
  miss_turns access shows tells s image past control turns within h all = by_place (since past lp) refl
    where
      by_place : (o : Option ℕ) → since past lp ≡ o → GoesTo layout image (TurnFollows layout lp past (Some (shown_fault layout))) (at_moment past control turns old) (past_after past lp all (Some (shown_fault layout))) new (Some (Miss old.count (cluster_at layout access.page.0)))
      by_place None e = absurd (let f : inside past lp ≡ false = ap is_some e in cc)
      by_place (Some place) e =
          subst (λ (n : ℕ). GoesTo layout image (TurnFollows layout lp past (Some (shown_fault layout))) (at_moment past control turns old) (past_after past lp all (Some (shown_fault layout))) new (Some (Miss n (cluster_at layout access.page.0)))) (sym h.counted)
          (misses_here layout valid lp old new mode image past control turns h all place e access (shows h.bytes.flat (sees layout image past control turns old lp place h e mode)) tells s)

  -- an access that its page's permission denies
  pub denied_turns : (access : Access) → ShowsTrap layout lp old 14 → is_forbidden layout access ≡ true → SavesFirst layout lp old new (ByPage access) → IsTurn layout lp old new (Some (shown_fault layout)) (Some (Trap old.count 14))
  denied_turns access shows forbidden s image past control turns within h all = by_place (since past lp) refl
    where
      by_place : (o : Option ℕ) → since past lp ≡ o → GoesTo layout image (TurnFollows layout lp past (Some (shown_fault layout))) (at_moment past control turns old) (past_after past lp all (Some (shown_fault layout))) new (Some (Trap old.count 14))
      by_place None e = absurd (let f : inside past lp ≡ false = ap is_some e in cc)
      by_place (Some place) e =
          subst (λ (n : ℕ). GoesTo layout image (TurnFollows layout lp past (Some (shown_fault layout))) (at_moment past control turns old) (past_after past lp all (Some (shown_fault layout))) new (Some (Trap n 14))) (sym h.counted)
          (denies_here layout valid lp old new mode image past control turns h all place e access (shows h.bytes.flat (sees layout image past control turns old lp place h e mode)) forbidden s)

  -- another vector
  pub vector_turns : (v : ℕ) → ShowsTrap layout lp old v → v ≢ 14 → SavesFirst layout lp old new (ByVector v) → IsTurn layout lp old new (Some (Exit.Vector v)) (Some (Trap old.count v))
  vector_turns v shows other s image past control turns within h all = by_place (since past lp) refl
    where
      by_place : (o : Option ℕ) → since past lp ≡ o → GoesTo layout image (TurnFollows layout lp past (Some (Exit.Vector v))) (at_moment past control turns old) (past_after past lp all (Some (Exit.Vector v))) new (Some (Trap old.count v))
      by_place None e = absurd (let f : inside past lp ≡ false = ap is_some e in cc)
      by_place (Some place) e =
          subst (λ (n : ℕ). GoesTo layout image (TurnFollows layout lp past (Some (Exit.Vector v))) (at_moment past control turns old) (past_after past lp all (Some (Exit.Vector v))) new (Some (Trap n v))) (sym h.counted)
          (raises_here layout valid lp old new mode image past control turns h all place e v (shows h.bytes.flat (sees layout image past control turns old lp place h e mode)) other s)
