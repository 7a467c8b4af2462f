-- After each move one processor at most is inside, and the kernel counts right.
use Rattle.std.proofs.Common.{◌≡◌, ℕ, List, [], ◌∷◌, refl}
use Rattle.std.specs.Prelude.{true, nat_lt}
use Rattle.ak_core.specs.Layout.{Layout}
use Rattle.ak_core.specs.declared.event.Event.{Event}
use Rattle.ak_core.specs.declared.moves.Move.{Move}
use Rattle.ak_model.specs.Paging.Inside.{inside, someone_inside}
use Rattle.ak_model.specs.Control.Trace.{Moment, after_move, trace}
use Rattle.ak_model.specs.Kernels.Counted.{CountsRight}
use Rattle.ak_model.specs.Laws.Presence.{IsPresent}
use Rattle.ak_model.proofs.Paging.InsideIsOfLayout.{placed}
use Rattle.ak_model.proofs.Control.MovedTo.{each_move}
use Rattle.ak_model.proofs.Control.OneInside.{Present, After, enters, resumes, interrupts, runs}
use Rattle.ak_model.proofs.Control.KernelCounts.{step_counts}

module _ (layout : Layout) where
  abbrev At : Moment → Type 0
  At moment = Present layout (inside moment.past) (someone_inside layout moment.past) moment.control

  step_present : (moment : Moment) → ((p : ℕ) → inside moment.past p ≡ true → nat_lt p layout.lps ≡ true) → At moment → (m : Move) → At (after_move layout moment m)
  step_present moment low old m =
      each_move layout moment (λ e. After layout moment.past moment.control low old e.change e.next)
      (record {
        quiet = old;
        enters = λ lp v there out few. enters layout moment.past moment.control low old lp v there out;
        resumes = λ lp saved rest there out free e. resumes layout moment.past moment.control low old lp saved rest there out;
        interrupts = interrupts layout moment.past moment.control low old;
        runs = λ lp n d someone. runs layout moment.past moment.control low old lp n d;
      })
      low m

  trace_present : (tape : List Event) (moves : List Move) → At (trace layout tape moves)
  trace_present tape [] = record { alone = λ p q h k. absurd (cc); context = λ p h. absurd (cc); someone_is = λ h. absurd (cc) }
  trace_present tape (m ∷ moves) =
      step_present (trace layout tape moves) (λ p. placed layout p tape moves) (trace_present tape moves) m

  -- one processor at most is inside
  pub is_present : (tape : List Event) (moves : List Move) → IsPresent layout (trace layout tape moves)
  is_present tape moves = let h = trace_present tape moves in record { alone = h.alone; context = h.context; someone = h.someone_is }

  -- the kernel counts right
  pub counts_right : (tape : List Event) (moves : List Move) → CountsRight (trace layout tape moves)
  counts_right tape [] = record { saved_is = refl; pending_is = refl; queue_is = refl; requested = tt }
  counts_right tape (m ∷ moves) =
      step_counts layout (trace layout tape moves) m (λ p. placed layout p tape moves) (trace_present tape moves).context (counts_right tape moves)
