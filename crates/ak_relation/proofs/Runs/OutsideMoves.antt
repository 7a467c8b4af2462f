-- A run and an interrupt of a processor that is not inside, as moves: each is refused, and changes nothing.
use Rattle.std.proofs.Common.{◌≡◌, ℕ, List, [], refl, ap, sym, ◌∙◌}
use Rattle.std.specs.Prelude.{Bool, true, false, not, nat_lt, None, reverse, if◌then◌else◌}
use Rattle.ak_core.specs.Layout.{Layout}
use Rattle.ak_core.specs.declared.page.Lp.{Lp}
use Rattle.ak_core.specs.declared.moves.Move.TheVariants.{Run, Interrupt}
use Rattle.ak_core.specs.declared.moves.Answer.{Answer}
use Rattle.ak_core.specs.declared.moves.Answer.TheVariants.{Ok, NoLp, Outside}
use Rattle.ak_model.specs.Paging.Histories.{History}
use Rattle.ak_model.specs.Paging.Inside.{inside}
use Rattle.ak_model.specs.Control.ControlState.{Control}
use Rattle.ak_model.specs.Control.Runs.{run}
use Rattle.ak_model.specs.Control.Entering.{on_exit, interrupted_by}
use Rattle.ak_model.specs.Tapes.ProgramTurns.{ProgramTurn, turns_of_run}
use Rattle.ak_model.specs.Kernels.Repeats.{is_done}
use Rattle.ak_model.proofs.Paging.RefusedMoves.{change-refused}
use Rattle.ak_relation.specs.State.MachineState.{State}
use Rattle.ak_relation.specs.Relation.Stands.{Stands}
use Rattle.ak_relation.specs.Relation.Does.{with_rest, at_moment, IsMove}
use Rattle.ak_relation.specs.Relation.TurnByTurn.{outside_answer}
use Rattle.ak_relation.proofs.Leaves.Refused.{refused_keeps}
use Rattle.ak_relation.proofs.Leaves.LeafStands.{leaf_stands}
use Rattle.ak_relation.proofs.Entering.EnterMoves.{refused_stays}

undone_by : (b : Bool) → is_done (if b then NoLp else Outside) ≡ false
undone_by true = refl
undone_by false = refl

run_stays : (a : Answer) (control next : Control) → is_done a ≡ false → on_exit a control next ≡ control
run_stays (Answer.Exit exit) control next undone = absurd (cc)
run_stays _ control next undone = refl

module _ (layout : Layout) (old : State) (lp : Lp) (out : (old.processors lp.0).inside ≡ false) where
  undone : is_done (outside_answer layout lp.0) ≡ false
  undone = undone_by (not (nat_lt lp.0 layout.lps))

  outside : (image : List ℕ) (past : History) (control : Control) (turns : List ProgramTurn) → Stands layout image (at_moment past control turns old) → inside past lp.0 ≡ false
  outside image past control turns h = sym (h.tables.presence.within lp.0) ∙ out

  -- an interrupt
  pub interrupt_refused : IsMove layout old old (Interrupt lp) (outside_answer layout lp.0) None
  interrupt_refused image past control turns h = record {
    control = control;
    turns = turns;
    made = [];
    does = record {
      turns = refl;
      traced = λ later ok. record {
        answered = ap (λ b. if not (nat_lt lp.0 layout.lps) then NoLp else (if not b then Outside else Ok)) (outside image past control turns h);
        changed = refused_stays (outside_answer layout lp.0) (with_rest control later) (interrupted_by (with_rest control later) control.now) undone;
        made_are = refl;
      };
      due = λ later ok. ok;
    };
    told = refl;
    stands = leaf_stands layout image past (Interrupt lp, outside_answer layout lp.0) control turns old old
        (refused_keeps layout past (Interrupt lp) (outside_answer layout lp.0) old (change-refused (Interrupt lp) (outside_answer layout lp.0) undone) h.tables) h;
  }

  -- a run
  pub run_refused : (n : ℕ) → IsMove layout old old (Run lp n) (outside_answer layout lp.0) None
  run_refused n image past control turns h = record {
    control = control;
    turns = turns;
    made = [];
    does = record {
      turns = refl;
      traced = λ later ok. record {
        answered = ap (λ b. if not (nat_lt lp.0 layout.lps) then NoLp else (if not b then Outside else Answer.Exit (run layout past n (with_rest control later)).exit)) (outside image past control turns h);
        changed = run_stays (outside_answer layout lp.0) (with_rest control later) (run layout past n (with_rest control later)).control undone;
        made_are = ap (λ b. if b then reverse (turns_of_run layout lp.0 past n (with_rest control later)) else []) (outside image past control turns h);
      };
      due = λ later ok. ok;
    };
    told = refl;
    stands = leaf_stands layout image past (Run lp n, outside_answer layout lp.0) control turns old old
        (refused_keeps layout past (Run lp n) (outside_answer layout lp.0) old (change-refused (Run lp n) (outside_answer layout lp.0) undone) h.tables) h;
  }
