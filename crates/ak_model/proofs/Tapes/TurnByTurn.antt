-- The program turns of a run, turn by turn.
use Rattle.std.proofs.Common.{◌≡◌, ℕ, suc, ◌+◌, List, [], ◌∷◌, ◌++◌, arith, ap, sym, ◌∙◌, append_assoc}
use Rattle.std.specs.Prelude.{reverse, Some}
use Rattle.std.proofs.lemmas.List.{append-nil, reverse-append}
use Rattle.ak_core.specs.Layout.{Layout}
use Rattle.ak_core.specs.declared.moves.Exit.{Exit}
use Rattle.ak_model.specs.Paging.Histories.{History}
use Rattle.ak_model.specs.Control.ControlState.{Program, Control}
use Rattle.ak_model.specs.Control.OneTurn.{Goes, Leaves}
use Rattle.ak_model.specs.Control.Runs.{turn, unless_left, before_turns}
use Rattle.ak_core.specs.declared.event.Event.{Event}
use Rattle.ak_core.specs.declared.moves.Move.{Move}
use Rattle.ak_model.specs.Control.Trace.{trace}
use Rattle.ak_model.specs.Tapes.ProgramTurns.{ProgramTurn, turn_at, turn_in, turns_in, turns_of_run, turns_of_move, program_turns}

module _ (layout : Layout) (lp : ℕ) (past : History) where
  -- ---- One turn

  -- a turn that goes on
  pub turns-goes : (n : ℕ) (control next : Control) → turn layout past control ≡ Goes next → turns_of_run layout lp past (suc n) control ≡ turn_in lp past control control.now ++ turns_of_run layout lp past n next
  turns-goes n control next e =
      ap (λ t. turn_in lp past control control.now ++ turns_in lp past (unless_left t (before_turns layout past n))) e

  -- a turn that leaves
  pub turns-leaves : (n : ℕ) (control next : Control) (exit : Exit) → turn layout past control ≡ Leaves exit next → turns_of_run layout lp past (suc n) control ≡ turn_in lp past control control.now
  turns-leaves n control next exit e =
      ap (λ t. turn_in lp past control control.now ++ turns_in lp past (unless_left t (before_turns layout past n))) e
      ∙ append-nil (turn_in lp past control control.now)

  -- the context of a turn of the program
  pub program-turn_in : (control : Control) → control.now ≡ Some Program → turn_in lp past control control.now ≡ turn_at lp past control ∷ []
  program-turn_in control e = ap (turn_in lp past control) e

  -- a turn of the program that goes on
  pub program-goes : (n : ℕ) (control next : Control) → control.now ≡ Some Program → turn layout past control ≡ Goes next → turns_of_run layout lp past (suc n) control ≡ turn_at lp past control ∷ turns_of_run layout lp past n next
  program-goes n control next p e =
      turns-goes n control next e ∙ ap (λ made. made ++ turns_of_run layout lp past n next) (program-turn_in control p)

  -- a turn of the program that leaves
  pub program-leaves : (n : ℕ) (control next : Control) (exit : Exit) → control.now ≡ Some Program → turn layout past control ≡ Leaves exit next → turns_of_run layout lp past (suc n) control ≡ turn_at lp past control ∷ []
  program-leaves n control next exit p e = turns-leaves n control next exit e ∙ program-turn_in control p

  -- a step of the runtime that goes on
  pub runtime-goes : (n : ℕ) (control next : Control) → turn_in lp past control control.now ≡ [] → turn layout past control ≡ Goes next → turns_of_run layout lp past (suc n) control ≡ turns_of_run layout lp past n next
  runtime-goes n control next p e =
      turns-goes n control next e ∙ ap (λ made. made ++ turns_of_run layout lp past n next) p

  -- a step of the runtime that leaves
  pub runtime-leaves : (n : ℕ) (control next : Control) (exit : Exit) → turn_in lp past control control.now ≡ [] → turn layout past control ≡ Leaves exit next → turns_of_run layout lp past (suc n) control ≡ []
  runtime-leaves n control next exit p e = turns-leaves n control next exit e ∙ p

  -- ---- What a loop over turns carries

  -- k turns from the first control state on, none of which left, made these program turns and came here
  abbrev pub MadeSoFar : ℕ → Control → List ProgramTurn → Control → Type 0
  MadeSoFar k first made here =
      (more : ℕ) → turns_of_run layout lp past (k + more) first ≡ made ++ turns_of_run layout lp past more here

  -- before the first turn
  pub made-none : (first : Control) → MadeSoFar 0 first [] first
  made-none first more =
      let none : 0 + more ≡ more = omega arith in ap (λ n. turns_of_run layout lp past n first) none

  -- one more turn that goes on
  pub made-goes : (k : ℕ) (first here next : Control) (made : List ProgramTurn) → MadeSoFar k first made here → turn layout past here ≡ Goes next → MadeSoFar (k + 1) first (made ++ turn_in lp past here here.now) next
  made-goes k first here next made h e more =
      let shift : k + 1 + more ≡ k + suc more = omega arith in
      ap (λ n. turns_of_run layout lp past n first) shift
      ∙ h (suc more)
      ∙ ap (λ turns. made ++ turns) (turns-goes more here next e)
      ∙ sym (append_assoc made (turn_in lp past here here.now) (turns_of_run layout lp past more next))

  -- one more turn of the program that goes on
  pub made-program-goes : (k : ℕ) (first here next : Control) (made : List ProgramTurn) → MadeSoFar k first made here → here.now ≡ Some Program → turn layout past here ≡ Goes next → MadeSoFar (k + 1) first (made ++ turn_at lp past here ∷ []) next
  made-program-goes k first here next made h p e more =
      made-goes k first here next made h e more
      ∙ ap (λ turns. (made ++ turns) ++ turns_of_run layout lp past more next) (program-turn_in here p)

  -- one more step of the runtime that goes on
  pub made-runtime-goes : (k : ℕ) (first here next : Control) (made : List ProgramTurn) → MadeSoFar k first made here → turn_in lp past here here.now ≡ [] → turn layout past here ≡ Goes next → MadeSoFar (k + 1) first made next
  made-runtime-goes k first here next made h p e more =
      made-goes k first here next made h e more
      ∙ ap (λ turns. (made ++ turns) ++ turns_of_run layout lp past more next) p
      ∙ ap (λ turns. turns ++ turns_of_run layout lp past more next) (append-nil made)

  -- the last turn of the program leaves
  pub made-program-leaves : (k more : ℕ) (first here next : Control) (exit : Exit) (made : List ProgramTurn) → MadeSoFar k first made here → here.now ≡ Some Program → turn layout past here ≡ Leaves exit next → turns_of_run layout lp past (k + suc more) first ≡ made ++ turn_at lp past here ∷ []
  made-program-leaves k more first here next exit made h p e =
      h (suc more) ∙ ap (λ turns. made ++ turns) (program-leaves more here next exit p e)

  -- the last step of the runtime leaves
  pub made-runtime-leaves : (k more : ℕ) (first here next : Control) (exit : Exit) (made : List ProgramTurn) → MadeSoFar k first made here → turn_in lp past here here.now ≡ [] → turn layout past here ≡ Leaves exit next → turns_of_run layout lp past (k + suc more) first ≡ made
  made-runtime-leaves k more first here next exit made h p e =
      h (suc more) ∙ ap (λ turns. made ++ turns) (runtime-leaves more here next exit p e) ∙ append-nil made

  -- no more turns are left
  pub made-all : (k : ℕ) (first here : Control) (made : List ProgramTurn) → MadeSoFar k first made here → turns_of_run layout lp past k first ≡ made
  made-all k first here made h =
      let whole : k + 0 ≡ k = omega arith in
      sym (ap (λ n. turns_of_run layout lp past n first) whole) ∙ h 0 ∙ append-nil made

-- one more turn is the newest
pub newest-first : (made : List ProgramTurn) (turn : ProgramTurn) (older : List ProgramTurn) → reverse (made ++ turn ∷ []) ++ older ≡ turn ∷ (reverse made ++ older)
newest-first made turn older = ap (λ turns. turns ++ older) (reverse-append made (turn ∷ []))

-- one more move's turns are the newest
pub turns-one_more : (layout : Layout) (tape : List Event) (moves : List Move) (m : Move) → program_turns layout tape (reverse (moves ++ m ∷ [])) ≡ turns_of_move layout (trace layout tape (reverse moves)) m ++ program_turns layout tape (reverse moves)
turns-one_more layout tape moves m = ap (program_turns layout tape) (reverse-append moves (m ∷ []))
