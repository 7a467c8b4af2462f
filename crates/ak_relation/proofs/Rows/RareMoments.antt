-- Moments at which parts of the relation say something that are void at most others: the control state of each is that of the trace of
-- its moves, and the rest is what the relation says there.
use Rattle.std.proofs.Common.{◌≡◌, List, [], ◌∷◌, ◌++◌, refl, ap, sym, subst}
use Rattle.std.specs.Prelude.{Option, Some}
use Rattle.ak_core.specs.declared.event.Event.{Event}
use Rattle.ak_core.specs.declared.event.Event.TheVariants.{Break, Call, Miss}
use Rattle.ak_model.specs.Paging.Histories.{History}
use Rattle.ak_model.specs.Control.ControlState.{Running, Asked, Context, Program, Broke, Control}
use Rattle.ak_model.specs.Control.Trace.{Moment, trace}
use Rattle.ak_model.specs.Flat.Instructions.{reg_of, rax}
use Rattle.ak_model.specs.Laws.OwedAnswers.{oldest, owing_by}
use Rattle.ak_pager.specs.Contexts.{GivesNow}
use Rattle.ak_pager.specs.RuntimePages.{KeepsFrame}
use Rattle.ak_relation.specs.Program.FlatPlaces.{IsAtBy, Reaches}
use Rattle.ak_relation.specs.Program.Reaching.{BreaksStand}
use Rattle.ak_relation.specs.State.MachineState.{State}
use Rattle.ak_relation.specs.Relation.Stands.{runs_at, copies_at}
use Rattle.ak_relation.specs.Relation.MoveByMove.{moves_of, HasMoved, IsTraced}
use Rattle.ak_relation.specs.Relation.Witnesses.{IsWitness, ShowsBreak, ShowsAsking, ShowsValue}
use Rattle.ak_relation.specs.Relation.Example.{one_page, input_program, asked_past, broken_past, returned_past}
use Rattle.ak_relation.proofs.Runs.TracedMoves.{moves_are_traced}
use Rattle.ak_relation.proofs.Rows.BuiltMachine.{page_valid}
use Rattle.ak_relation.proofs.Rows.AskedMachine.{asked, ask_reached}
use Rattle.ak_relation.proofs.Rows.BrokenMachine.{broken, break_reached}
use Rattle.ak_relation.proofs.Rows.ReturnedMachine.{returned_regs, returned, return_reached}

-- ---- Control states, by the trace

traced_control : (past : History) (state : State) (events : List Event) → (r : IsTraced one_page input_program past state events) →
    (trace one_page (events ++ []) (moves_of past)).control ≡ record r.control { rest = [] }
traced_control past state events r = ap (λ (m : Moment). m.control) (r.traced [] tt)

-- ---- Asked

asked_moved : HasMoved one_page input_program asked_past asked (Miss 0 0 ∷ [])
asked_moved = record { valid = page_valid; moves = ask_reached }

pub asked_witness : IsWitness one_page input_program asked_past (Miss 0 0 ∷ []) (ShowsAsking one_page input_program 0)
asked_witness =
    let r = moves_are_traced one_page input_program asked_past asked (Miss 0 0 ∷ []) asked_moved in
    let phase : r.control.phase ≡ Asked 0 = sym (ap (λ (c : Control). c.phase) (traced_control asked_past asked (Miss 0 0 ∷ []) r)) in
    let bytes = r.stands.bytes in
    let state = bytes.pages.state in
    record {
      state = asked;
      moved = asked_moved;
      control = r.control;
      turns = r.turns;
      told = r.told;
      stands = r.stands;
      shown = record {
        asks = phase;
        bytes = asked.frames 6;
        copied = refl;
        flat = bytes.flat;
        program = bytes.program;
        keeps = subst (λ p. KeepsFrame p one_page bytes.flat (asked.frames 6)) phase state.kept;
      };
    }

-- ---- Broken

broken_moved : HasMoved one_page input_program broken_past broken (Miss 0 0 ∷ Break 0 ∷ [])
broken_moved = record { valid = page_valid; moves = break_reached }

pub broken_witness : IsWitness one_page input_program broken_past (Miss 0 0 ∷ Break 0 ∷ []) (ShowsBreak one_page input_program)
broken_witness =
    let r = moves_are_traced one_page input_program broken_past broken (Miss 0 0 ∷ Break 0 ∷ []) broken_moved in
    let stack : r.control.stack ≡ record { context = Program; reason = Broke } ∷ [] = sym (ap (λ (c : Control). c.stack) (traced_control broken_past broken (Miss 0 0 ∷ Break 0 ∷ []) r)) in
    let breaks = subst (BreaksStand one_page (runs_at one_page input_program r.control) r.turns (copies_at one_page broken_past broken)) stack r.stands.reached.breaks in
    record {
      state = broken;
      moved = broken_moved;
      control = r.control;
      turns = r.turns;
      told = r.told;
      stands = r.stands;
      shown = record {
        saved = record { context = Program; reason = Broke };
        older = [];
        newest = stack;
        broke = refl;
        bytes = broken.frames 3;
        copied = refl;
        names = breaks.0;
      };
    }

-- ---- Returned

returned_moved : HasMoved one_page input_program returned_past returned (Call 3 2 0 ∷ [])
returned_moved = record { valid = page_valid; moves = return_reached }

pub returned_witness : IsWitness one_page input_program returned_past (Call 3 2 0 ∷ []) (ShowsValue one_page input_program 0 9)
returned_witness =
    let r = moves_are_traced one_page input_program returned_past returned (Call 3 2 0 ∷ []) returned_moved in
    let same = traced_control returned_past returned (Call 3 2 0 ∷ []) r in
    let values : r.control.returned ≡ 9 ∷ [] = sym (ap (λ (c : Control). c.returned) same) in
    let phase : r.control.phase ≡ Running = sym (ap (λ (c : Control). c.phase) same) in
    let stack : r.control.stack ≡ [] = sym (ap (λ (c : Control). c.stack) same) in
    let now : r.control.now ≡ Some Program = sym (ap (λ (c : Control). c.now) same) in
    let bytes = r.stands.bytes in
    let given : returned_regs ≡ bytes.flat.regs =
    subst (λ n. GivesNow one_page r.control.phase bytes.flat n returned_regs) now (bytes.registers.given 0 refl) in
    let settled : Reaches one_page input_program r.control.returned r.control.count bytes.flat =
    subst (λ (n : Option Context). IsAtBy (owing_by Running (oldest [] n)) one_page input_program r.control.returned r.control.count bytes.flat) now
    (subst (λ s. IsAtBy (owing_by Running (oldest s r.control.now)) one_page input_program r.control.returned r.control.count bytes.flat) stack
    (subst (λ p. IsAtBy (owing_by p (oldest r.control.stack r.control.now)) one_page input_program r.control.returned r.control.count bytes.flat) phase bytes.program)) in
    record {
      state = returned;
      moved = returned_moved;
      control = r.control;
      turns = r.turns;
      told = r.told;
      stands = r.stands;
      shown = record {
        returned = values;
        flat = bytes.flat;
        reached = subst (λ vs. Reaches one_page input_program vs r.control.count bytes.flat) values settled;
        has = sym (ap (λ regs. reg_of regs rax) given);
        inside = refl;
        same = given;
      };
    }
