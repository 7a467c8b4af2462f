-- What the laws' own words forbid: contexts for which a step of the runtime has no row, queues that do not fit, processors that
-- are inside together, and tapes that miss what is in.
use Rattle.std.proofs.Common.{◌≡◌, zero, suc, ◌<◌, ◌≤◌, List, [], ◌∷◌, arith, refl}
use Rattle.std.specs.Prelude.{true, false, Some}
use Rattle.ak_core.specs.declared.event.Event.TheVariants.{Miss}
use Rattle.ak_core.specs.declared.instruction.Instr.TheVariants.{Push, Add}
use Rattle.ak_core.specs.declared.moves.Answer.TheVariants.{Ok}
use Rattle.ak_model.specs.Control.ControlState.{Phase, Running, Asked, Program, Enter, Probe, Finish, Guard, Leave, Saved, Control, control_at_build}
use Rattle.ak_model.specs.Control.RuntimeTurn.{guard}
use Rattle.ak_model.specs.Flat.Instructions.{HasRegisters}
use Rattle.ak_model.specs.Laws.StepRows.{IsInRow}
use Rattle.ak_model.specs.Laws.Presence.{IsPresent}
use Rattle.ak_model.specs.Laws.Orderly.{QueueFits}
use Rattle.ak_model.specs.Laws.Premises.{MissesFit}
use Rattle.ak_model.specs.Laws.MissedClusters.{AreOut}
use Rattle.ak_model.proofs.Rows.Samples.{image_a, image_d, image_j, eenter}

-- ---- Contexts without a row

-- a control state of image D in this phase, with these contexts saved
abbrev control : Phase → List Saved → Control
control phase stack = record (control_at_build []) { phase = phase; stack = stack }

-- the guard, saved
abbrev one : List Saved
one = guard ∷ []

no_entry : IsInRow image_d (control Running []) (Some (Enter 0 5)) → ⊥
no_entry h = let no : false ≡ true = h.1 in cc

no_entry_asked : IsInRow image_d (control (Asked 0) []) (Some (Enter 0 5)) → ⊥
no_entry_asked h = let no : false ≡ true = h.1 in cc

no_later_entry : IsInRow image_d (control Running []) (Some (Enter 1 5)) → ⊥
no_later_entry h = let no : zero ≡ suc zero = h in cc

-- the asked cluster has two pages
no_third_probe : IsInRow image_d (control (Asked 0) one) (Some (Probe 2)) → ⊥
no_third_probe h = let no : 2 < 2 = h.1 in absurd (omega arith)

no_probe : IsInRow image_d (control Running one) (Some (Probe 0)) → ⊥
no_probe h = let no : 0 < 0 = h.1 in absurd (omega arith)

no_finish : IsInRow image_d (control Running one) (Some Finish) → ⊥
no_finish h = let no : false ≡ true = h.1 in cc

no_guard : IsInRow image_d (control Running []) (Some Guard) → ⊥
no_guard h = let no : false ≡ true = h in cc

no_leave : IsInRow image_d (control Running one) (Some (Leave 3 7)) → ⊥
no_leave h = let no : suc zero ≡ zero = h in cc

no_program : IsInRow image_d (control Running one) (Some Program) → ⊥
no_program h = let no : suc zero ≡ zero = h in cc

-- ---- Queues and tapes

-- one cluster twice
no_twice : QueueFits image_j (0 ∷ 1 ∷ 0 ∷ []) → ⊥
no_twice h = let no : true ≡ false = h.distinct.0 in cc

-- five pages, where four may be in
no_fifth : QueueFits image_j (0 ∷ 1 ∷ 2 ∷ 3 ∷ 4 ∷ []) → ⊥
no_fifth h = let no : 5 ≤ 4 = h.small in absurd (omega arith)

-- a miss of what is in by the miss before
no_second_miss : MissesFit image_a [] (Miss 0 0 ∷ Miss 1 0 ∷ []) → ⊥
no_second_miss h = let no : true ≡ false = h.2.1 in cc

no_second_out : AreOut image_a [] (0 ∷ 0 ∷ []) → ⊥
no_second_out h = let no : true ≡ false = h.2.1 in cc

-- a miss of a cluster that there is not
no_such_cluster : MissesFit image_a [] (Miss 0 1 ∷ []) → ⊥
no_such_cluster h = let no : 1 < 1 = h.0 in absurd (omega arith)

-- ---- Processors

no_two : IsPresent image_a (record { past = (eenter 1 0, Ok) ∷ (eenter 0 0, Ok) ∷ []; control = record (control_at_build []) { now = Some Program } }) → ⊥
no_two h = let no : zero ≡ suc zero = h.alone 0 1 refl refl in cc

-- somebody is inside, and nothing goes on; or the other way round
no_context : IsPresent image_a (record { past = (eenter 0 0, Ok) ∷ []; control = control_at_build [] }) → ⊥
no_context h = let no : false ≡ true = h.context 0 refl in cc

nobody : IsPresent image_a (record { past = []; control = record (control_at_build []) { now = Some Program } }) → ⊥
nobody h = let no : false ≡ true = h.someone refl in cc

-- ---- Registers

no_register : HasRegisters (Push 16) → ⊥
no_register h = let no : 16 < 16 = h in absurd (omega arith)

no_second_register : HasRegisters (Add 3 16) → ⊥
no_second_register h = let no : 16 < 16 = h.1 in absurd (omega arith)
