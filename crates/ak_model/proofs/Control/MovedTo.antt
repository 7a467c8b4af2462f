-- What a move does at a moment: nothing that the control state reads, or somebody enters, resumes, is interrupted or runs.
use Rattle.std.proofs.Common.{◌≡◌, ℕ, ◌<◌, List, [], ◌∷◌, length, map, reverse, refl, sym, ◌∙◌, subst}
use Rattle.std.specs.Prelude.{Bool, true, false, not, if◌then◌else◌, Option, Some, None, nat_lt, ◌==◌}
use Rattle.std.specs.List.{list_all}
use Rattle.std.proofs.lemmas.Bool.{ltb-true, eqb-false}
use Rattle.std.proofs.lemmas.List.Folds.{list_all-map}
use Rattle.ak_core.specs.Layout.{Layout}
use Rattle.ak_core.specs.declared.moves.Move.{Move}
use Rattle.ak_core.specs.declared.moves.Move.TheVariants.{ReadPte, Ewb, Eenter, Eresume, Run, Interrupt}
use Rattle.ak_core.specs.declared.moves.Answer.{Answer}
use Rattle.ak_core.specs.declared.moves.Answer.TheVariants.{Ok, NoLp, Outside, Gp, Pending}
use Rattle.ak_model.specs.Paging.Histories.{Change, Unchanged, Enters, Resumes, Exits, Interrupts, if_ok, if_left, if_exit}
use Rattle.ak_model.specs.Paging.Inside.{inside, someone_inside}
use Rattle.ak_model.specs.Control.ControlState.{Context, Saved, Control, cssa}
use Rattle.ak_model.specs.Control.Runs.{run, before_turns}
use Rattle.ak_model.specs.Control.Answers.{answer, enter_answer, resume_answer}
use Rattle.ak_model.specs.Control.Entering.{entered, resumed_by, interrupted_by, on_ok, on_exit}
use Rattle.ak_model.specs.Control.Trace.{Moment, after_move}
use Rattle.ak_model.specs.Control.Moments.{turn_moments}
use Rattle.ak_model.specs.Tapes.ProgramTurns.{ProgramTurn, turns_of_run, turns_of_move}
use Rattle.ak_model.specs.Stops.MovesBefore.{changed}
use Rattle.ak_model.proofs.Paging.Tests.{all_of_reverse}
use Rattle.ak_model.proofs.Paging.ChangesByAnswer.{ok_holds, handle_holds}
use Rattle.ak_model.proofs.Paging.Readings.{Reading, reading}
use Rattle.ak_model.proofs.Paging.SomeoneInside.{other, is_someone, outside_ok}

-- a change of the tables alone reads as none
abbrev IsQuiet : Change → Type 0
IsQuiet c = reading c ≡ reading Unchanged

-- what a move does: what is read of its change, the next control state, the program's turns, and the moments before its turns
pub record Effect : Type 0 where
  pub change : Reading
  pub next : Control
  pub turns : List ProgramTurn
  pub moments : List Moment

-- without a turn
abbrev pub only : Change → Control → Effect
only c next = record { change = reading c; next = next; turns = []; moments = [] }

abbrev pub effect : Layout → Moment → Move → Effect
effect layout moment m = record {
  change = reading (changed layout moment m);
  next = (after_move layout moment m).control;
  turns = turns_of_move layout moment m;
  moments = turn_moments layout moment m;
}

-- a run of a processor that is inside
abbrev pub ran : Layout → Moment → ℕ → ℕ → Effect
ran layout moment lp n =
    let made = run layout moment.past n moment.control in
    record {
      change = reading (if_left made.exit (Exits lp made.exit));
      next = made.control;
      turns = reverse (turns_of_run layout lp moment.past n moment.control);
      moments = map (λ control. record moment { control = control }) (reverse (before_turns layout moment.past n moment.control));
    }

-- what each moment before the turns of a run passes, each control state there does
pub turns_all : (layout : Layout) (test : Moment → Bool) (moment : Moment) (n : ℕ) → list_all test (map (λ control. record moment { control = control }) (reverse (before_turns layout moment.past n moment.control))) ≡ true → list_all (λ control. test (record { past = moment.past; control = control })) (before_turns layout moment.past n moment.control) ≡ true
turns_all layout test moment n h =
    let controls : List Control = before_turns layout moment.past n moment.control in
    all_of_reverse (λ control. test (record { past = moment.past; control = control })) controls
    (sym (list_all-map test (λ control. record moment { control = control }) (reverse controls)) ∙ h)

-- what an interrupt leaves as it is
pub record IsSame (control next : Control) : Type 0 where
  pub count : next.count ≡ control.count
  pub rest : next.rest ≡ control.rest
  pub cause : next.cause ≡ control.cause

pub interrupted_same : (control : Control) (now : Option Context) → IsSame control (interrupted_by control now)
interrupted_same control None = record { count = refl; rest = refl; cause = refl }
interrupted_same control (Some context) = record { count = refl; rest = refl; cause = refl }

module _ (layout : Layout) (moment : Moment) (P : Effect → Type 0) where
  -- it holds where nothing is read of the move, and where somebody enters, resumes, is interrupted or runs
  pub record Holds : Type 0 where
    pub quiet : P (only Unchanged moment.control)
    pub enters : (lp v : ℕ) → lp < layout.lps → someone_inside layout moment.past ≡ false → (cssa moment.control == 3) ≡ false → P (only (Enters lp v) (entered moment.control v))
    pub resumes : (lp : ℕ) (saved : Saved) (rest : List Saved) → lp < layout.lps → someone_inside layout moment.past ≡ false → moment.control.pending ≡ false → moment.control.stack ≡ saved ∷ rest → P (only (Resumes lp) (resumed_by moment.control (saved ∷ rest)))
    pub interrupts : (lp : ℕ) → inside moment.past lp ≡ true → P (only (Interrupts lp) (interrupted_by moment.control moment.control.now))
    pub runs : (lp n : ℕ) → inside moment.past lp ≡ true → someone_inside layout moment.past ≡ true → P (ran layout moment lp n)

  module _ (holds : Holds) where
    quietly : (c : Change) → IsQuiet c → P (only c moment.control)
    quietly c q = subst (λ r. P (record { change = r; next = moment.control; turns = []; moments = [] })) (sym q) holds.quiet

    answered : (a : Answer) (c : Change) (next : Control) → (a ≡ Ok → P (only c next)) → P (only (if_ok a c) (on_ok a moment.control next))
    answered Ok c next h = h refl
    answered _ c next h = holds.quiet

    enters : (lp v : ℕ) → enter_answer layout moment.past moment.control lp ≡ Ok → P (only (Enters lp v) (entered moment.control v))
    enters lp v e =
        let o = outside_ok layout moment.past lp _ e in
        let g = other (cssa moment.control == 3) Gp _ Ok (λ x. cc) o.2 in holds.enters lp v o.0 o.1 g.0

    resumes_by : (lp : ℕ) (stack : List Saved) → moment.control.stack ≡ stack → (length stack ≡ 0 → ⊥) → lp < layout.lps → someone_inside layout moment.past ≡ false → moment.control.pending ≡ false → P (only (Resumes lp) (resumed_by moment.control stack))
    resumes_by lp [] e some low out free = absurd (some refl)
    resumes_by lp (saved ∷ rest) e some low out free = holds.resumes lp saved rest low out free e

    resumes_at : (lp : ℕ) → resume_answer layout moment.past moment.control lp ≡ Ok → P (only (Resumes lp) (resumed_by moment.control moment.control.stack))
    resumes_at lp e =
        let o = outside_ok layout moment.past lp _ e in
        let g = other (cssa moment.control == 0) Gp _ Ok (λ x. cc) o.2 in
        let p = other moment.control.pending Pending _ Ok (λ x. cc) g.1 in
        resumes_by lp moment.control.stack refl (eqb-false (cssa moment.control) 0 g.0) o.0 o.1 p.0

    interrupts_by : (lp : ℕ) (there within : Bool) → inside moment.past lp ≡ within → (let a = if not there then NoLp else (if not within then Outside else Ok) in P (only (if_ok a (Interrupts lp)) (on_ok a moment.control (interrupted_by moment.control moment.control.now))))
    interrupts_by lp false within e = holds.quiet
    interrupts_by lp true false e = holds.quiet
    interrupts_by lp true true e = holds.interrupts lp e

    runs_by : (lp n : ℕ) (there within : Bool) → nat_lt lp layout.lps ≡ there → inside moment.past lp ≡ within → (within ≡ true → there ≡ true) → (
        let a = if not there then NoLp else (if not within then Outside else Answer.Exit (run layout moment.past n moment.control).exit) in
        P (record {
          change = reading (if_exit a (λ exit. Exits lp exit));
          next = on_exit a moment.control (run layout moment.past n moment.control).control;
          turns = if within then reverse (turns_of_run layout lp moment.past n moment.control) else [];
          moments = if within then map (λ control. record moment { control = control }) (reverse (before_turns layout moment.past n moment.control)) else [];
        })
        )
    runs_by lp n false true e d low = absurd (let x = low refl in cc)
    runs_by lp n false false e d low = holds.quiet
    runs_by lp n true false e d low = holds.quiet
    runs_by lp n true true e d low = holds.runs lp n d (is_someone layout moment.past lp (ltb-true lp layout.lps e) d)

    -- then it holds of each move: a change of the tables alone, or a refused move, keeps what stands
    pub each_move : ((lp : ℕ) → inside moment.past lp ≡ true → nat_lt lp layout.lps ≡ true) → (m : Move) → P (effect layout moment m)
    each_move low (ReadPte p) = holds.quiet
    each_move low (Ewb f va i) = quietly _ (handle_holds IsQuiet refl (answer layout moment.past moment.control (Ewb f va i)) _ (λ k h. refl))
    each_move low (Eenter lp v) = answered (enter_answer layout moment.past moment.control lp.0) (Enters lp.0 v) (entered moment.control v) (enters lp.0 v)
    each_move low (Eresume lp) = answered (resume_answer layout moment.past moment.control lp.0) (Resumes lp.0) (resumed_by moment.control moment.control.stack) (resumes_at lp.0)
    each_move low (Run lp n) = runs_by lp.0 n (nat_lt lp.0 layout.lps) (inside moment.past lp.0) refl refl (low lp.0)
    each_move low (Interrupt lp) = interrupts_by lp.0 (nat_lt lp.0 layout.lps) (inside moment.past lp.0) refl
    each_move low m = quietly _ (ok_holds IsQuiet refl (answer layout moment.past moment.control m) _ (λ h. refl))
