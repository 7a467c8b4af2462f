-- Only a processor of the layout is ever inside.
use Rattle.std.proofs.Common.{◌≡◌, ℕ, ◌+◌, List, [], ◌∷◌, length, refl, subst, sym}
use Rattle.std.specs.Prelude.{Bool, true, false, not, if◌then◌else◌, Option, Some, None, is_some, nat_lt, ◌==◌}
use Rattle.std.proofs.lemmas.Bool.{eqb-true}
use Rattle.ak_core.specs.Layout.{Layout}
use Rattle.ak_core.specs.declared.event.Event.{Event}
use Rattle.ak_core.specs.declared.moves.Move.{Move}
use Rattle.ak_core.specs.declared.moves.Move.TheVariants.{ReadPte, Ewb, Eenter, Eresume, Run, Interrupt}
use Rattle.ak_core.specs.declared.moves.Answer.{Answer}
use Rattle.ak_core.specs.declared.moves.Answer.TheVariants.{NoLp}
use Rattle.ak_model.specs.Paging.Histories.{History, Change, Enters, Resumes, Exits, Interrupts, if_ok, change}
use Rattle.ak_model.specs.Paging.Inside.{since_after, since, inside}
use Rattle.ak_model.specs.Control.ControlState.{Control}
use Rattle.ak_model.specs.Control.Answers.{answer}
use Rattle.ak_model.specs.Control.Trace.{trace}
use Rattle.ak_model.proofs.Paging.ChangesByAnswer.{ok_holds, handle_holds, exit_holds}

module _ (layout : Layout) (lp : ℕ) where
  abbrev There : Option ℕ → Type 0
  There o = is_some o ≡ true → nat_lt lp layout.lps ≡ true

  none_there : (b : Bool) (before : Option ℕ) → There before → There (if b then None else before)
  none_there true before h k = cc
  none_there false before h k = h k

  same_there : (q place : ℕ) (before : Option ℕ) (b : Bool) → (lp == q) ≡ b → nat_lt q layout.lps ≡ true → There before → There (if b then Some place else before)
  same_there q place before true e lt h k = subst (λ p. nat_lt p layout.lps ≡ true) (sym (eqb-true lp q e)) lt
  same_there q place before false e lt h k = h k

  module _ (place : ℕ) (before : Option ℕ) (known : There before) where
    abbrev Stays : Change → Type 0
    Stays c = There (since_after c lp place before)

    -- an entry of a processor that the layout does not have is refused
    entry_stays : (q : ℕ) (a : Answer) (c : Change) (b : Bool) → nat_lt q layout.lps ≡ b → (nat_lt q layout.lps ≡ true → Stays c) → Stays (if_ok (if not b then NoLp else a) c)
    entry_stays q a c true e h = ok_holds Stays known a c (λ ok. h e)
    entry_stays q a c false e h = known

    answer_stays : (past : History) (control : Control) (m : Move) → Stays (change m (answer layout past control m))
    answer_stays past control (ReadPte p) = known
    answer_stays past control (Ewb f va i) = handle_holds Stays known (answer layout past control (Ewb f va i)) _ (λ k h. known)
    answer_stays past control (Eenter q v) =
        entry_stays q.0 _ (Enters q.0 v) (nat_lt q.0 layout.lps) refl (λ lt. same_there q.0 place before (lp == q.0) refl lt known)
    answer_stays past control (Eresume q) =
        entry_stays q.0 _ (Resumes q.0) (nat_lt q.0 layout.lps) refl (λ lt. same_there q.0 place before (lp == q.0) refl lt known)
    answer_stays past control (Run q n) =
        exit_holds Stays known (answer layout past control (Run q n)) (λ exit. Exits q.0 exit) (λ exit. none_there (lp == q.0) before known)
    answer_stays past control (Interrupt q) =
        ok_holds Stays known (answer layout past control (Interrupt q)) (Interrupts q.0) (λ h. none_there (lp == q.0) before known)
    answer_stays past control m = ok_holds Stays known (answer layout past control m) _ (λ h. known)

  -- a processor inside is one of the layout's
  pub placed : (tape : List Event) (moves : List Move) → inside (trace layout tape moves).past lp ≡ true → nat_lt lp layout.lps ≡ true
  placed tape [] h = cc
  placed tape (m ∷ moves) h =
      let before = trace layout tape moves in
      answer_stays (length before.past + 1) (since before.past lp) (placed tape moves) before.past before.control m h
