-- The interrupt as a move: the machine reads the number of saved contexts in the TCS that it holds.
use Rattle.std.proofs.Common.{◌≡◌, ℕ, [], ◌∷◌, length, refl, ap, sym, ◌∙◌, subst}
use Rattle.std.proofs.lemmas.Bool.{lt-ltb}
use Rattle.std.specs.Prelude.{Bool, true, false, not, nat_lt, Option, Some, None, is_some, if◌then◌else◌}
use Rattle.ak_core.specs.Layout.{Layout}
use Rattle.ak_core.specs.declared.page.Lp.{Lp}
use Rattle.ak_core.specs.declared.moves.Move.TheVariants.{Interrupt}
use Rattle.ak_core.specs.declared.moves.Answer.TheVariants.{Ok, NoLp, Outside}
use Rattle.ak_model.specs.Paging.Pages.{tcs_page}
use Rattle.ak_model.specs.Paging.Inside.{since, inside}
use Rattle.ak_model.specs.Control.ControlState.{Context, Interrupted}
use Rattle.ak_model.specs.Control.RuntimeTurn.{save}
use Rattle.ak_model.specs.Control.Entering.{interrupted_by}
use Rattle.ak_ssa.specs.SavedFrames.{NoCause}
use Rattle.ak_relation.specs.State.MachineState.{State, copy}
use Rattle.ak_pager.specs.RuntimePages.{OfCopy}
use Rattle.ak_relation.specs.Bytes.Pages.{IsTcs}
use Rattle.ak_relation.specs.Program.Reaching.{StaysBy, IsStaying}
use Rattle.ak_relation.specs.Relation.Stands.{runs_at}
use Rattle.ak_relation.specs.Premises.Saving.{Saves}
use Rattle.ak_relation.specs.Relation.Does.{with_rest, MoveFollows, at_moment, GoesTo, IsMove}
use Rattle.ak_model.proofs.Paging.OpenFrames.{known-present}
use Rattle.ak_relation.proofs.Exits.Interrupted.{interrupted_stands}

good : (b c : Bool) → b ≡ true → c ≡ true → (if not b then NoLp else (if not c then Outside else Ok)) ≡ Ok
good b c e f = rw (e, f) refl

module _ (layout : Layout) (lp : Lp) (old new : State) where
  -- the interrupt of a processor that is inside
  pub interrupt_moves : (old.processors lp.0).inside ≡ true →
      ((saved : ℕ) (pending : Bool) → IsTcs saved pending (old.frames (old.processors lp.0).tcs) → Saves layout lp.0 saved pending NoCause old new) →
      IsMove layout old new (Interrupt lp) Ok None
  interrupt_moves within saves image past control turns h = by_place (since past lp.0) refl control.now refl
    where
      there : inside past lp.0 ≡ true
      there = sym (h.tables.presence.within lp.0) ∙ within

      by_place : (o : Option ℕ) → since past lp.0 ≡ o → (now : Option Context) → control.now ≡ now →
          GoesTo layout image (MoveFollows layout past (Interrupt lp) Ok) (at_moment past control turns old) ((Interrupt lp, Ok) ∷ past) new None
      by_place None e now n = absurd (let f : inside past lp.0 ≡ false = ap is_some e in let t : inside past lp.0 ≡ true = there in cc)
      by_place (Some place) e None n = absurd (let f : is_some control.now ≡ false = ap is_some n in let g : is_some control.now ≡ true = h.laws.present.context lp.0 there in cc)
      by_place (Some place) e (Some context) n =
          let stay : IsStaying layout (runs_at layout image control) past control turns lp.0 (old.processors lp.0) place =
          subst (StaysBy layout (runs_at layout image control) past control turns lp.0 (old.processors lp.0)) e (h.reached.stays lp.0) in
          let tcs = subst (λ o. OfCopy o (IsTcs (length control.stack) control.pending)) (ap (copy old) (h.tables.one_copy.placed (tcs_page layout) (old.processors lp.0).tcs stay.tcs.frame.holds)) h.bytes.pages.tcs in
          let known = known-present layout past control h.laws.present in
          record {
            control = save control context Interrupted;
            turns = turns;
            made = [];
            does = record {
              turns = refl;
              traced = λ later ok. record {
                answered = good (nat_lt lp.0 layout.lps) (inside past lp.0) (lt-ltb lp.0 layout.lps (known.low lp.0 there)) there;
                changed = ap (interrupted_by (with_rest control later)) n;
                made_are = refl;
              };
              due = λ later ok. ok;
            };
            told = refl;
            stands = interrupted_stands layout image past control turns old new lp place context h e n (saves (length control.stack) control.pending tcs);
          }
