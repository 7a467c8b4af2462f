-- The flat run goes on after a call with the value that it returned: the call was none that ends the program.
use Rattle.std.proofs.Common.{◌≡◌, ℕ, zero, suc, ◌<◌, List, [], ◌∷◌, ◌++◌, arith, refl, ap, sym, ◌∙◌}
use Rattle.std.specs.Prelude.{Bool, true, false, Option, Some, None, option_map, option_and_then, if◌then◌else◌, ◌==◌}
use Rattle.ak_core.specs.Layout.{Layout}
use Rattle.ak_core.specs.declared.event.Event.{Event}
use Rattle.ak_core.specs.declared.event.Event.TheVariants.{Call, Miss, Trap, Break}
use Rattle.ak_model.specs.Flat.FlatRuns.{Flat, End, ending, FlatRun, after_ending, one_more, flat_run}
use Rattle.ak_model.specs.Flat.Instructions.{with_reg, rax}
use Rattle.ak_model.specs.Sound.Events.{completed_by, ending_at, call_at}
use Rattle.ak_model.proofs.Flat.MoreCallAnswers.{flat_run-longer}
use Rattle.ak_relation.specs.Program.FlatPlaces.{Reaches, IsAfterCall}
use Rattle.ak_relation.specs.Program.Turns.{IsGoing, TapeStands}

-- the number of a call, if there is one
abbrev numbered : Option (ℕ × ℕ) → ℕ
numbered None = 0
numbered (Some pair) = pair.0

call_other : (t : Bool) (b x a : ℕ) (others : Option (ℕ × ℕ)) → (others ≡ Some (0, a) → ⊥) → (if t then Some (suc b, x) else others) ≡ Some (0, a) → ⊥
call_other true b x a others never e = absurd (let g : suc b ≡ 0 = ap numbered e in omega arith)
call_other false b x a others never e = never e

-- where the program goes on, no call was its last
no_last : (n i a : ℕ) (events : List Event) → IsGoing n events → call_at events i ≡ Some (0, a) → ⊥
no_last n i a [] h e = absurd (cc)
no_last n i a (Call j zero x ∷ events) h e = absurd h
no_last n i a (Call j (suc b) x ∷ events) h e = call_other (j == i) b x a (call_at events i) (λ f. no_last n i a events h.1 f) e
no_last n i a (Miss j c ∷ events) h e = no_last n i a events h.1 e
no_last n i a (Trap j v ∷ events) h e = absurd h
no_last n i a (Break j ∷ events) h e = absurd h

-- the flat state with the answer
abbrev pub with_answer : Flat → ℕ → Flat
with_answer flat v = record flat { regs = with_reg flat.regs rax v }

module _ (layout : Layout) (image returned : List ℕ) (v : ℕ) where
  answers : (number argument : ℕ) (flat caller : Flat) → ending layout caller ≡ End.Call number argument flat → (number ≡ 0 → ⊥) →
      after_ending (ending layout caller) (v ∷ []) ≡ Some (record { flat = with_answer flat v; answers = [] })
  answers zero argument flat caller e some = absurd (some refl)
  answers (suc b) argument flat caller e some = ap (λ x. after_ending x (v ∷ [])) e

  -- so it comes to the next instruction
  pub answered_reaches : (count : ℕ) (flat : Flat) (events : List Event) → (h : IsAfterCall layout image returned count flat) → TapeStands layout (flat_run layout image returned) count events →
      IsGoing count events → Reaches layout image (returned ++ v ∷ []) count (with_answer flat v)
  answered_reaches count flat events h tape going =
      ap (flat_run layout image (returned ++ v ∷ [])) h.count_is
      ∙ ap (one_more layout) (flat_run-longer layout image (v ∷ []) returned h.before _ h.reached)
      ∙ answers h.number h.argument flat h.caller h.called (λ zero_is. absurd (no_last count h.before h.argument events going (called ∙ ap (λ n. Some (n, h.argument)) zero_is)))
    where
      the_step : ending_at layout (flat_run layout image returned) h.before ≡ Some (End.Call h.number h.argument flat)
      the_step = ap (λ o. option_map (λ (run : FlatRun). ending layout run.flat) o) h.reached ∙ ap Some h.called

      low : h.before < count
      low = let e = h.count_is in omega arith

      called : call_at events h.before ≡ Some (h.number, h.argument)
      called =
          let e : Some (Some (h.number, h.argument)) ≡ Some (call_at events h.before) = sym (ap (option_and_then completed_by) the_step) ∙ tape.completed h.before low in
          sym (inner (Some (h.number, h.argument)) (call_at events h.before) e)
        where
          inner : (x y : Option (ℕ × ℕ)) → Some x ≡ Some y → x ≡ y
          inner x y e = cc
