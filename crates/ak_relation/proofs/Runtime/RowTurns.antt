-- From a row of the runtime's table to a turn: given what the row makes of control state, flat state, pages and evidence, the rest once.
use Rattle.std.proofs.Common.{◌≡◌, ℕ, List, [], ◌∷◌, ◌++◌, refl, ap, sym, ◌∙◌, subst}
use Rattle.std.proofs.lemmas.Bool.{eqb-true, eqb-false}
use Rattle.std.specs.Prelude.{Bool, true, false, Option, Some, None, is_some, ◌==◌}
use Rattle.ak_core.specs.Layout.{Layout}
use Rattle.ak_core.specs.declared.page.Lp.{Lp}
use Rattle.ak_core.specs.declared.event.Event.{Event}
use Rattle.ak_core.specs.declared.moves.Move.TheVariants.{Run}
use Rattle.ak_core.specs.declared.moves.Exit.{Exit}
use Rattle.ak_core.specs.declared.moves.Answer.{Answer}
use Rattle.ak_core.specs.declared.registers.Regs.{Regs}
use Rattle.ak_model.specs.Paging.Histories.{History, Exits, change}
use Rattle.ak_model.specs.Paging.Inside.{since, inside}
use Rattle.ak_model.specs.Flat.FlatRuns.{Flat}
use Rattle.ak_model.specs.Control.ControlState.{Context, Control}
use Rattle.ak_model.specs.Control.OneTurn.{Goes, Leaves}
use Rattle.ak_model.specs.Control.Runs.{turn}
use Rattle.ak_model.specs.Laws.Premises.{IsLater}
use Rattle.ak_model.specs.Tapes.ProgramTurns.{ProgramTurn}
use Rattle.ak_model.proofs.Control.OrderlySteps.{ClustersFit}
use Rattle.ak_relation.specs.State.MachineState.{State}
use Rattle.ak_pager.specs.Contexts.{Gives, GivesNow}
use Rattle.ak_relation.specs.Program.FlatPlaces.{IsAt}
use Rattle.ak_relation.specs.Bytes.Pages.{CopiesStand}
use Rattle.ak_relation.specs.Program.Reaching.{BreaksStand}
use Rattle.ak_relation.specs.Relation.Stands.{runs_at, copies_at, BytesStand, Stands}
use Rattle.ak_relation.specs.Premises.Works.{IsStep, KeepsTables, GoesOn, Quits}
use Rattle.ak_relation.specs.Relation.Does.{with_rest, turn_to, TurnFollows, past_after, at_moment, GoesTo}
use Rattle.ak_relation.proofs.Runtime.StepTurns.{made_none}
use Rattle.ak_relation.proofs.Runtime.StepLaws.{Keeps}
use Rattle.ak_relation.proofs.Runtime.GoneOn.{gone_on}
use Rattle.ak_relation.proofs.Runtime.GoneOut.{gone_out}

-- what a row makes of the flat state, the pages and the evidence of breaks
pub record RowBytes (layout : Layout) (image : List ℕ) (past : History) (turns : List ProgramTurn) (new : State) (next : Control) : Type 0 where
  pub flat : Flat
  pub program : IsAt layout image next flat
  pub pages : CopiesStand layout next.phase next.queue next.stack next.pending flat (copies_at layout past new)
  pub breaks : BreaksStand layout (runs_at layout image next) turns (copies_at layout past new) next.stack

module _ (layout : Layout) (fit : ClustersFit layout) (image : List ℕ) (past : History) (control : Control) (turns : List ProgramTurn) (old new : State)
    (lp : Lp) (place all : ℕ) (context : Context)
    (h : Stands layout image (at_moment past control turns old)) (is : since past lp.0 ≡ Some place) (step : IsStep context) (now : control.now ≡ Some context) (next : Control) (keeps : Keeps control next turns) where
  -- the turn as the definitions have it, whatever comes later
  abbrev pub Turned : Option Exit → Type 0
  Turned exit = (later : List Event) → turn layout past (with_rest control later) ≡ turn_to exit (with_rest next later)

  later_same : (later : List Event) → IsLater later next.count → IsLater later control.count
  later_same later ok = subst (IsLater later) keeps.count ok

  -- a step to this control state, as far as its cause tells
  abbrev pub StepTo : Option Exit → History → Type 0
  StepTo exit later = (g : GoesTo layout image (TurnFollows layout lp.0 past exit) (at_moment past control turns old) later new None) × (g.control.cause ≡ next.cause)

  -- a place that the relation allows is one that the turn goes to
  pub goes_there : (exit : Option Exit) → Turned exit → Stands layout image (at_moment (past_after past lp.0 all exit) next turns new) →
      StepTo exit (past_after past lp.0 all exit)
  goes_there exit turned stands = let g : GoesTo layout image (TurnFollows layout lp.0 past exit) (at_moment past control turns old) (past_after past lp.0 all exit) new None = record {
    control = next;
    turns = turns;
    made = [];
    does = record {
      turns = refl;
      traced = λ later ok. record { turned = turned later; made_are = made_none layout past lp.0 control context step now later };
      due = later_same;
    };
    told = refl;
    stands = stands;
  } in (g, refl)

  -- with no event later
  turned_on : Turned None → turn layout past control ≡ Goes next
  turned_on turned = turned control.rest ∙ ap (λ rest. Goes (with_rest next rest)) (sym keeps.rest)

  turned_out : (exit : Exit) → Turned (Some exit) → turn layout past control ≡ Leaves exit next
  turned_out exit turned = turned control.rest ∙ ap (λ rest. Leaves exit (with_rest next rest)) (sym keeps.rest)

  -- ---- A row that goes on

  pub row_goes : (k : KeepsTables layout past old new) (regs : Regs) (g : GoesOn lp.0 regs old new) (context_next : Context) (is_next : next.now ≡ Some context_next) (more : List ℕ) →
      control.returned ++ more ≡ next.returned → next.stack ≡ control.stack → Turned None → (b : RowBytes layout image past turns new next) →
      Gives layout next.phase b.flat context_next regs → StepTo None past
  row_goes k regs g context_next is_next more grown same turned b gives =
      goes_there None turned (gone_on layout fit image past control turns old new lp.0 place context regs h is step now k g next more grown same (turned_on turned) (ap is_some is_next) keeps bytes b.breaks)
    where
      by : (q : ℕ) → (new.processors q).inside ≡ true → (t : Bool) → (q == lp.0) ≡ t → GivesNow layout next.phase b.flat next.now (new.processors q).regs
      by q i true e =
          subst (λ n. GivesNow layout next.phase b.flat n (new.processors q).regs) (sym is_next)
          (subst (Gives layout next.phase b.flat context_next) (sym (ap (λ x. (new.processors x).regs) (eqb-true q lp.0 e) ∙ g.regs_are)) gives)
      by q i false e = absurd (let there : inside past q ≡ true = sym (h.tables.presence.within q) ∙ sym (ap (λ x. x.inside) (g.others q e)) ∙ i in eqb-false q lp.0 e (h.laws.present.alone q lp.0 there (ap is_some is)))

      bytes : BytesStand layout image next (copies_at layout past new) new.processors
      bytes = record { flat = b.flat; program = b.program; pages = b.pages; registers = record { given = λ q i. by q i (q == lp.0) refl } }

  -- ---- A row that leaves

  pub row_leaves : (k : KeepsTables layout past old new) (q : Quits lp.0 old new) (exit : Exit) (e : change (Run lp all) (Answer.Exit exit) ≡ Exits lp.0 exit) → next.now ≡ None →
      control.returned ≡ next.returned → Turned (Some exit) → RowBytes layout image past turns new next →
      StepTo (Some exit) ((Run lp all, Answer.Exit exit) ∷ past)
  row_leaves k q exit e none same turned b =
      goes_there (Some exit) turned (gone_out layout fit image past control turns old new lp place all context h is step now k q exit e next same (turned_out exit turned) none keeps bytes b.breaks)
    where
      bytes : BytesStand layout image next (copies_at layout past new) new.processors
      bytes = record {
        flat = b.flat;
        program = b.program;
        pages = b.pages;
        registers = record { given = λ p i. subst (λ n. GivesNow layout next.phase b.flat n (new.processors p).regs) (sym none) tt };
      }
