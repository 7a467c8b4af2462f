-- Entering and resuming as moves, each by its row over the machine's own tables, done or refused.
use Rattle.std.proofs.Common.{◌≡◌, ℕ, ◌<◌, ◌^◌, ◌-◌, List, [], ◌∷◌, length, refl, ap, sym, ◌∙◌, subst, arith}
use Rattle.std.specs.Prelude.{true, false, Some, None, ◌==◌}
use Rattle.ak_core.specs.Layout.{Layout}
use Rattle.ak_core.specs.declared.page.Lp.{Lp}
use Rattle.ak_core.specs.declared.moves.Move.TheVariants.{Eenter, Eresume}
use Rattle.ak_core.specs.declared.moves.Answer.{Answer}
use Rattle.ak_core.specs.declared.moves.Answer.TheVariants.{Ok, Gp}
use Rattle.ak_model.specs.Control.ControlState.{Saved, Control, cssa}
use Rattle.ak_model.specs.Control.Answers.{enter_answer, resume_answer}
use Rattle.ak_model.specs.Control.Entering.{on_ok, entered, resumed_by}
use Rattle.ak_model.specs.Kernels.Repeats.{is_done}
use Rattle.ak_model.proofs.Paging.RefusedMoves.{change-refused}
use Rattle.ak_model.proofs.Paging.SomeoneInside.{other, outside_ok}
use Rattle.ak_relation.specs.State.MachineState.{State}
use Rattle.ak_relation.specs.Premises.EnterRows.{saved_in, enter_row, resume_row}
use Rattle.ak_relation.specs.Premises.Entering.{EntersAt}
use Rattle.ak_relation.specs.Premises.Resuming.{ResumesAt}
use Rattle.ak_relation.specs.Relation.Does.{with_rest, MoveFollows, at_moment, GoesTo, IsMove}
use Rattle.ak_relation.proofs.Leaves.Refused.{refused_keeps}
use Rattle.ak_relation.proofs.Leaves.LeafStands.{leaf_stands}
use Rattle.ak_relation.proofs.Entering.EnterFacts.{enter_found}
use Rattle.ak_relation.proofs.Entering.EnteredStands.{entered_stands}
use Rattle.ak_relation.proofs.Entering.ResumeFacts.{FoundAgain, resume_found}
use Rattle.ak_relation.proofs.Entering.ResumedStands.{resumed_stands}
use Rattle.ak_relation.proofs.Entering.EnterAnswers.{tcs_told, enter_row-answer, resume_row-answer}

-- a refused entering leaves the control state
pub refused_stays : (a : Answer) (control next : Control) → is_done a ≡ false → on_ok a control next ≡ control
refused_stays Ok control next undone = absurd (cc)
refused_stays _ control next undone = refl

module _ (layout : Layout) (old : State) (lp : Lp) where
  -- ---- Entering

  -- an entering that its row answers Ok
  pub enter_moves : (new : State) (v : ℕ) → v < 2 ^ 64 → enter_row layout old lp.0 ≡ Ok → EntersAt layout lp.0 (saved_in layout old) v old new → IsMove layout old new (Eenter lp v) Ok None
  enter_moves new v word row e image past control turns h =
      let ok : enter_answer layout past control lp.0 ≡ Ok = sym (enter_row-answer layout image past control turns old lp.0 h) ∙ row in
      let found = enter_found layout past control lp.0 ok in
      let tcs = tcs_told layout image past control turns old lp.0 h found.tcs in
      record {
        control = entered control v;
        turns = turns;
        made = [];
        does = record {
          turns = refl;
          traced = λ later later_ok. record { answered = ok; changed = refl; made_are = refl };
          due = λ later later_ok. later_ok;
        };
        told = refl;
        stands = entered_stands layout image past control turns old new lp v h ok (subst (λ n. EntersAt layout lp.0 n v old new) tcs.saved_is e) word;
      }

  -- an entering that is refused
  pub enter_refused : (v : ℕ) (a : Answer) → is_done a ≡ false → enter_row layout old lp.0 ≡ a → IsMove layout old old (Eenter lp v) a None
  enter_refused v a undone row image past control turns h =
      let answered : enter_answer layout past control lp.0 ≡ a = sym (enter_row-answer layout image past control turns old lp.0 h) ∙ row in
      record {
        control = control;
        turns = turns;
        made = [];
        does = record {
          turns = refl;
          traced = λ later later_ok. record { answered = answered; changed = refused_stays a (with_rest control later) (entered (with_rest control later) v) undone; made_are = refl };
          due = λ later later_ok. later_ok;
        };
        told = refl;
        stands = leaf_stands layout image past (Eenter lp v, a) control turns old old (refused_keeps layout past (Eenter lp v) a old (change-refused (Eenter lp v) a undone) h.tables) h;
      }

  -- ---- Resuming

  -- a resuming that its row answers Ok
  pub resume_moves : (new : State) → resume_row layout old lp.0 ≡ Ok → ResumesAt layout lp.0 (saved_in layout old - 1) old new → IsMove layout old new (Eresume lp) Ok None
  resume_moves new row e image past control turns h =
      by_stack control.stack refl
    where
      ok : resume_answer layout past control lp.0 ≡ Ok
      ok = sym (resume_row-answer layout image past control turns old lp.0 h) ∙ row

      by_stack : (stack : List Saved) → control.stack ≡ stack → GoesTo layout image (MoveFollows layout past (Eresume lp) Ok) (at_moment past control turns old) ((Eresume lp, Ok) ∷ past) new None
      by_stack [] stacked =
          absurd (let some = (other (cssa control == 0) Gp _ Ok (λ x. cc) (outside_ok layout past lp.0 _ ok).2).0 in
          let none : (cssa control == 0) ≡ true = ap (λ (s : List Saved). length s == 0) stacked in cc)
      by_stack (one ∷ older) stacked =
          let size : length control.stack ≡ length (one ∷ older) = ap length stacked in
          let below : cssa control - 1 ≡ length older = omega arith in
          let found : FoundAgain layout past control (length older) = subst (FoundAgain layout past control) below (resume_found layout past control lp.0 ok) in
          let tcs = tcs_told layout image past control turns old lp.0 h found.tcs in
          let resumes : ResumesAt layout lp.0 (length older) old new = subst (λ n. ResumesAt layout lp.0 n old new) (ap (λ n. n - 1) tcs.saved_is ∙ below) e in
          record {
            control = record control { stack = older; now = Some one.context };
            turns = turns;
            made = [];
            does = record {
              turns = refl;
              traced = λ later later_ok. record { answered = ok; changed = ap (resumed_by (with_rest control later)) stacked; made_are = refl };
              due = λ later later_ok. later_ok;
            };
            told = refl;
            stands = resumed_stands layout image past control turns old new lp one older h stacked ok found resumes;
          }

  -- a resuming that is refused
  pub resume_refused : (a : Answer) → is_done a ≡ false → resume_row layout old lp.0 ≡ a → IsMove layout old old (Eresume lp) a None
  resume_refused a undone row image past control turns h =
      let answered : resume_answer layout past control lp.0 ≡ a = sym (resume_row-answer layout image past control turns old lp.0 h) ∙ row in
      record {
        control = control;
        turns = turns;
        made = [];
        does = record {
          turns = refl;
          traced = λ later later_ok. record { answered = answered; changed = refused_stays a (with_rest control later) (resumed_by (with_rest control later) control.stack) undone; made_are = refl };
          due = λ later later_ok. later_ok;
        };
        told = refl;
        stands = leaf_stands layout image past (Eresume lp, a) control turns old old (refused_keeps layout past (Eresume lp) a old (change-refused (Eresume lp) a undone) h.tables) h;
      }
