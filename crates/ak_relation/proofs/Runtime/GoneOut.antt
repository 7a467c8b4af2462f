-- The relation after a step of the runtime that leaves: all that its row does not say, for any exit.
use Rattle.std.proofs.Common.{◌≡◌, ℕ, List, ◌∷◌, ap, sym, ◌∙◌, subst}
use Rattle.std.proofs.Math.Path.{fun_ext}
use Rattle.std.specs.Prelude.{true, Some, None, is_some}
use Rattle.ak_core.specs.Layout.{Layout}
use Rattle.ak_core.specs.declared.page.Lp.{Lp}
use Rattle.ak_core.specs.declared.moves.Move.TheVariants.{Run}
use Rattle.ak_core.specs.declared.moves.Exit.{Exit}
use Rattle.ak_core.specs.declared.moves.Answer.{Answer}
use Rattle.ak_model.specs.Paging.Histories.{History, Exits, change}
use Rattle.ak_model.specs.Paging.Inside.{since, inside}
use Rattle.ak_model.specs.Flat.FlatRuns.{flat_run}
use Rattle.ak_model.specs.Control.ControlState.{Context, Control}
use Rattle.ak_model.specs.Control.OneTurn.{Leaves}
use Rattle.ak_model.specs.Control.Runs.{turn}
use Rattle.ak_model.specs.Tapes.ProgramTurns.{ProgramTurn}
use Rattle.ak_model.proofs.Control.OrderlySteps.{ClustersFit}
use Rattle.ak_relation.specs.State.MachineState.{State}
use Rattle.ak_relation.specs.Program.Turns.{events_by, TapeStands, TurnsStand}
use Rattle.ak_relation.specs.Program.Reaching.{BreaksStand}
use Rattle.ak_relation.specs.Relation.Stands.{runs_at, copies_at, BytesStand, Stands}
use Rattle.ak_relation.specs.Premises.Works.{IsStep, KeepsTables, Quits}
use Rattle.ak_relation.specs.Relation.Does.{at_moment}
use Rattle.ak_relation.proofs.Program.TurnWords.{inputs_with, turned_words}
use Rattle.ak_relation.proofs.Exits.LeftTables.{copies_left, tables_left, nobody_left, stays_left}
use Rattle.ak_relation.proofs.Runtime.StepLaws.{Keeps, laws_leaving}

module _ (layout : Layout) (fit : ClustersFit layout) (image : List ℕ) (past : History) (control : Control) (turns : List ProgramTurn) (old new : State) (lp : Lp) (place all : ℕ) (context : Context)
    (h : Stands layout image (at_moment past control turns old)) (is : since past lp.0 ≡ Some place) (step : IsStep context) (now : control.now ≡ Some context)
    (k : KeepsTables layout past old new) (q : Quits lp.0 old new) (exit : Exit) (e : change (Run lp all) (Answer.Exit exit) ≡ Exits lp.0 exit)
    (next : Control) (same : control.returned ≡ next.returned) where
  -- the history after the run
  abbrev after : History
  after = (Run lp all, Answer.Exit exit) ∷ past

  within : inside past lp.0 ≡ true
  within = ap is_some is

  same_copies : copies_at layout after new ≡ copies_at layout past new
  same_copies = fun_ext (λ p. copies_left layout past (Run lp all) (Answer.Exit exit) lp.0 exit e new p)

  -- the relation after the step, given its bytes
  pub gone_out : turn layout past control ≡ Leaves exit next → next.now ≡ None → Keeps control next turns → BytesStand layout image next (copies_at layout past new) new.processors →
      BreaksStand layout (runs_at layout image next) turns (copies_at layout past new) next.stack → Stands layout image (at_moment after next turns new)
  gone_out turned none keeps bytes breaks = record {
    inputs = inputs_with layout image control h.inputs next (turned_words layout image control h.inputs past (Leaves exit next) turned);
    tape = subst (λ returned. TapeStands layout (flat_run layout image returned) next.count (events_by turns)) same
        (subst (λ n. TapeStands layout (runs_at layout image control) n (events_by turns)) (sym keeps.count) h.tape);
    turns = subst (λ returned. TurnsStand layout (flat_run layout image returned) turns) same h.turns;
    laws = laws_leaving layout fit past control turns h.laws lp.0 within context step now (Run lp all, Answer.Exit exit) exit next turned none
        (nobody_left layout past (Run lp all) (Answer.Exit exit) lp.0 exit e control h.laws.present within) keeps;
    counted = k.count ∙ h.counted ∙ sym keeps.count;
    queued = k.queue ∙ h.queued;
    tables = tables_left layout past (Run lp all) (Answer.Exit exit) lp.0 exit e old new h.tables k q;
    bytes = subst (λ copies. BytesStand layout image next copies new.processors) (sym same_copies) bytes;
    reached = record {
      stays = λ p. stays_left layout past (Run lp all) (Answer.Exit exit) lp.0 exit e control h.laws.present within (runs_at layout image control) turns old new next q h.reached.stays p
          (runs_at layout image next);
      breaks = subst (λ copies. BreaksStand layout (runs_at layout image next) turns copies next.stack) (sym same_copies) breaks;
    };
  }
