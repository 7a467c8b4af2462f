-- The values of a control state have 64 bits after each turn, where they have before: a turn brings none.
use Rattle.std.proofs.Common.{◌≡◌, ℕ, zero, suc, List, [], ◌∷◌, ◌++◌, subst}
use Rattle.std.specs.Prelude.{Bool, true, false, Option, Some, None, ◌^◌, ◌<◌, ◌==◌, if◌then◌else◌}
use Rattle.ak_core.specs.Layout.{Layout}
use Rattle.ak_core.specs.Mem.{Access}
use Rattle.ak_core.specs.declared.event.Event.{Event}
use Rattle.ak_core.specs.declared.event.Event.TheVariants.{Call as CallEvent, Miss, Trap, Break}
use Rattle.ak_model.specs.Paging.Histories.{History}
use Rattle.ak_model.specs.Control.ControlState.{Phase, New, Running, Calling, Asked, Ended, Trapped, Dead, Context, Program, Enter, Probe, Finish, Guard, Leave, Reason, Interrupted, Cleared, Raised, Denied, Faulted, Missed, Broke, Saved, Control}
use Rattle.ak_model.specs.Control.OneTurn.{Turn}
use Rattle.ak_model.specs.Control.RuntimeTurn.{guard_top, program_at_bottom, guarded_twice, accesses, first_fault, handle, enter, finish, resume_guard, leave_call, effect, unless_fault}
use Rattle.ak_model.specs.Control.EventTurn.{due, event_turn}
use Rattle.ak_model.specs.Control.Runs.{turn_of, turn}
use Rattle.ak_ssa.specs.SavedRegisters.{AreWords}
use Rattle.ak_relation.specs.Program.Inputs.{BringsWord, BringsWordNow, BringWords, HasWords, TurnHasWords, InputsStand}

-- one more word
one_more : (words : List ℕ) (v : ℕ) → AreWords words → v < 2 ^ 64 → AreWords (words ++ v ∷ [])
one_more [] v h low = (low, tt)
one_more (x ∷ words) v h low = (h.0, one_more words v h.1 low)

-- the stack with the guard on top
guards : (stack : List Saved) → BringWords stack → BringWords (guard_top stack)
guards [] h = tt
guards (saved ∷ older) h = (tt, h.1)

guards_twice : (stack : List Saved) → BringWords stack → BringWords (guarded_twice stack)
guards_twice [] h = tt
guards_twice (saved ∷ older) h = (tt, guards older h.1)

-- and with the program at the bottom
bottoms : (stack : List Saved) → BringWords stack → BringWords (program_at_bottom stack)
bottoms [] h = tt
bottoms (saved ∷ []) h = (tt, tt)
bottoms (saved ∷ next ∷ older) h = (h.0, bottoms (next ∷ older) h.1)

-- either of two turns
either : (b : Bool) (t u : Turn) → TurnHasWords t → TurnHasWords u → TurnHasWords (if b then t else u)
either true t u h k = h
either false t u h k = k

module _ (layout : Layout) (control : Control) (h : HasWords control) where
  gone : HasWords (record control { now = None })
  gone = record { returned = h.returned; saved = h.saved; now = tt }

  -- ---- Steps of the runtime

  by_reason : (k : ℕ) (context : Context) (reason : Reason) (older : List Saved) → TurnHasWords (handle layout control k (record { context = context; reason = reason } ∷ older))
  by_reason k context Interrupted older = gone
  by_reason k context Cleared older = gone
  by_reason k context (Faulted t) older =
      either (k == 2) _ _ (record { returned = h.returned; saved = guards_twice control.stack h.saved; now = tt })
      (record { returned = h.returned; saved = guards control.stack h.saved; now = tt })
  by_reason k context (Raised v) older = record { returned = h.returned; saved = guards control.stack h.saved; now = tt }
  by_reason k context Denied older = record { returned = h.returned; saved = guards control.stack h.saved; now = tt }
  by_reason k context Broke older = record { returned = h.returned; saved = guards control.stack h.saved; now = tt }
  by_reason k context (Missed c) older = record { returned = h.returned; saved = guards control.stack h.saved; now = tt }

  handled : (k : ℕ) (stack : List Saved) → TurnHasWords (handle layout control k stack)
  handled k [] = gone
  handled k (saved ∷ older) = by_reason k saved.context saved.reason older

  enters : (k v : ℕ) (phase : Phase) → v < 2 ^ 64 → TurnHasWords (enter layout control k v phase)
  enters k v (Ended s) low = gone
  enters k v (Trapped x) low = gone
  enters k v Dead low = gone
  enters k v Running low = handled k control.stack
  enters zero v New low = record { returned = h.returned; saved = h.saved; now = tt }
  enters (suc k) v New low = handled (suc k) control.stack
  enters zero v Calling low = record { returned = one_more control.returned v h.returned low; saved = h.saved; now = tt }
  enters (suc k) v Calling low = handled (suc k) control.stack
  enters zero v (Asked c) low = handled zero control.stack
  enters (suc zero) v (Asked c) low = record { returned = h.returned; saved = h.saved; now = tt }
  enters (suc (suc k)) v (Asked c) low = handled (suc (suc k)) control.stack

  probed : (i : ℕ) (b : Bool) → HasWords (record control { now = if b then Some Finish else Some (Probe (suc i)) })
  probed i true = record { returned = h.returned; saved = h.saved; now = tt }
  probed i false = record { returned = h.returned; saved = h.saved; now = tt }

  finished : (phase : Phase) → TurnHasWords (finish control phase)
  finished (Asked c) = record { returned = h.returned; saved = bottoms control.stack h.saved; now = tt }
  finished New = gone
  finished Running = gone
  finished Calling = gone
  finished (Ended s) = gone
  finished (Trapped v) = gone
  finished Dead = gone

  resumed : (phase : Phase) → TurnHasWords (resume_guard control phase)
  resumed (Asked c) = record { returned = h.returned; saved = h.saved; now = tt }
  resumed (Trapped v) = gone
  resumed New = gone
  resumed Running = gone
  resumed Calling = gone
  resumed (Ended s) = gone
  resumed Dead = gone

  left : (b a : ℕ) → TurnHasWords (leave_call control b a)
  left zero s = record { returned = h.returned; saved = h.saved; now = tt }
  left (suc b) a = record { returned = h.returned; saved = h.saved; now = tt }

  effects : (context : Context) → BringsWord context → TurnHasWords (effect layout control context)
  effects (Enter k v) low = enters k v control.phase low
  effects (Probe i) low = probed i (suc i == _)
  effects Finish low = finished control.phase
  effects Guard low = resumed control.phase
  effects (Leave b a) low = left b a
  effects Program low = h

  steps : (context : Context) (o : Option Access) → BringsWord context → TurnHasWords (unless_fault layout control context o)
  steps context None low = effects context low
  steps context (Some t) low = record { returned = h.returned; saved = (low, h.saved); now = tt }

  -- ---- Turns of the program

  events : (o : Option Event) → BringsWordNow control.now → TurnHasWords (event_turn layout control o)
  events None now = record { returned = h.returned; saved = h.saved; now = now }
  events (Some (CallEvent i b a)) now = record { returned = h.returned; saved = h.saved; now = tt }
  events (Some (Miss i c)) now = record { returned = h.returned; saved = (tt, h.saved); now = tt }
  events (Some (Break i)) now = record { returned = h.returned; saved = (tt, h.saved); now = tt }
  events (Some (Trap i v)) now =
      either (v == 14) _ _ (record { returned = h.returned; saved = (tt, h.saved); now = tt }) (record { returned = h.returned; saved = (tt, h.saved); now = tt })

  -- ---- All turns

  turns : (past : History) (now : Option Context) → BringsWordNow now → TurnHasWords (turn_of layout past control now)
  turns past None low = h
  turns past (Some Program) low = events (due control.count control.rest) h.now
  turns past (Some (Enter k v)) low = steps (Enter k v) (first_fault layout past (accesses layout control (Enter k v))) low
  turns past (Some (Probe i)) low = steps (Probe i) (first_fault layout past (accesses layout control (Probe i))) low
  turns past (Some Finish) low = steps Finish (first_fault layout past (accesses layout control Finish)) low
  turns past (Some Guard) low = steps Guard (first_fault layout past (accesses layout control Guard)) low
  turns past (Some (Leave b a)) low = steps (Leave b a) (first_fault layout past (accesses layout control (Leave b a))) low

  -- a turn keeps it
  pub turn-words : (past : History) → TurnHasWords (turn layout past control)
  turn-words past = turns past control.now h.now

-- ---- Inputs

module _ (layout : Layout) (image : List ℕ) (control : Control) (h : InputsStand layout image control) where
  -- the inputs stand of another control state whose values have 64 bits
  pub inputs_with : (next : Control) → HasWords next → InputsStand layout image next
  inputs_with next words = record { valid = h.valid; bytes = h.bytes; whole = h.whole; words = words }

  -- what a turn comes to has values of 64 bits
  pub turned_words : (past : History) (t : Turn) → turn layout past control ≡ t → TurnHasWords t
  turned_words past t e = subst TurnHasWords e (turn-words layout control h.words past)
