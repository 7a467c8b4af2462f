-- An ordinary turn of the program keeps the relation: the whole of it, from what the machine shows.
use Rattle.std.proofs.Common.{◌≡◌, ℕ, ◌+◌, List, [], ◌∷◌, ◌++◌, length, refl, ap, sym, ◌∙◌, subst, arith}
use Rattle.std.proofs.lemmas.Bool.{eqb-true, eqb-false}
use Rattle.std.proofs.lemmas.List.{append-nil}
use Rattle.std.proofs.lemmas.List.Folds.{list_any-append}
use Rattle.std.specs.Prelude.{Bool, true, false, ◌||◌, Option, Some, None, is_some, unwrap_or, ◌==◌, not}
use Rattle.ak_core.specs.Layout.{Layout}
use Rattle.ak_core.specs.Mem.{Access}
use Rattle.ak_model.specs.Paging.Pages.{tcs_page, state_page}
use Rattle.ak_model.specs.Paging.Histories.{History}
use Rattle.ak_model.specs.Paging.Inside.{since, someone_inside}
use Rattle.ak_model.specs.Flat.FlatRuns.{Flat, line}
use Rattle.ak_model.specs.Control.ControlState.{Phase, Running, Program, Control}
use Rattle.ak_model.specs.Tapes.ProgramTurns.{ProgramTurn, turn_at}
use Rattle.ak_model.specs.Laws.Orderly.{IsOrderly, is_live}
use Rattle.ak_model.specs.Sound.Forced.{queue_by}
use Rattle.ak_model.specs.Misses.Reached.{entered_at, accesses_at, accesses_next}
use Rattle.ak_model.specs.Misses.KeptTranslations.{completed_since, is_among, same_access}
use Rattle.ak_relation.specs.State.MachineState.{State}
use Rattle.ak_pager.specs.RuntimePages.{OfCopy, AreasStand, IsState, KeepsFrame}
use Rattle.ak_model.specs.Laws.OwedAnswers.{Settled, oldest, owing_running, owing_by, owing}
use Rattle.ak_relation.specs.Program.FlatPlaces.{IsAtBy, Reaches}
use Rattle.ak_relation.specs.Bytes.Pages.{IsTcs}
use Rattle.ak_model.specs.Laws.Calls.{calls_by, IsReturned}
use Rattle.ak_relation.specs.Program.Turns.{events_by, TapeStands, TurnStands, IsGoing, LawsStand, IsFresh, is_last, is_last_call}
use Rattle.ak_relation.specs.Program.Reaching.{is_filled, granted_to, IsStaying, StaysBy, BreaksStand, HoldsArea, HoldsTcs}
use Rattle.ak_relation.specs.Relation.Stands.{runs_at, copies_at, BytesStand, Stands}
use Rattle.ak_relation.proofs.Program.Ordinary.{Completes}
use Rattle.ak_relation.specs.Relation.Does.{at_moment}
use Rattle.ak_relation.proofs.Program.Completing.{same_id, going_more, reaches-next, tape-next, filled-completes}
use Rattle.ak_relation.proofs.Program.TurnWords.{inputs_with}
use Rattle.ak_model.proofs.Misses.Granted.{granted-completes}
use Rattle.ak_pager.specs.Contexts.{GivesNow}

-- the turn itself
abbrev pub new_turn : ℕ → History → Control → ProgramTurn
new_turn lp past control = record { lp = lp; past = past; count = control.count; event = None }

-- the control state after it
abbrev pub counted : Control → Control
counted control = record control { count = control.count + 1 }

module _ (layout : Layout) (image : List ℕ) (past : History) (control : Control) (turns : List ProgramTurn) (old new : State) (lp place : ℕ) (flat after : Flat)
    (h : Stands layout image (at_moment past control turns old)) (is : since past lp ≡ Some place) (now : control.now ≡ Some Program)
    (running : control.phase ≡ Running) (nothing : control.stack ≡ []) (at : Reaches layout image control.returned control.count flat)
    (c : Completes layout past lp place flat after old new) where
  no_event : events_by (new_turn lp past control ∷ turns) ≡ events_by turns
  no_event = append-nil (events_by turns)

  going : IsGoing control.count (events_by turns)
  going = h.laws.going (ap (λ p. not (is_live p) || is_last control.stack control.now) running
      ∙ ap (λ s. is_last s control.now) nothing ∙ ap is_last_call now)

  -- ---- Tape and turns

  tape : TapeStands layout (runs_at layout image control) (control.count + 1) (events_by (new_turn lp past control ∷ turns))
  tape = subst (TapeStands layout (runs_at layout image control) (control.count + 1)) (sym no_event)
      (tape-next layout image control.returned control.count flat after at c.ends (events_by turns) going h.tape)

  entered : entered_at (new_turn lp past control) ≡ place
  entered = ap (λ o. unwrap_or o (length past + 1)) is

  line_is : accesses_at layout (runs_at layout image control) (new_turn lp past control) ≡ (line layout flat).accesses
  line_is = ap (accesses_next layout) at

  or_true : (a b : Bool) → a ≡ true → (a || b) ≡ true
  or_true true b e = refl
  or_true false b e = absurd (cc)

  turn_stands : TurnStands layout (runs_at layout image control) (new_turn lp past control) turns
  turn_stands = record {
    comes = (record { flat = flat; answers = [] }, at);
    reached = filled-completes layout past place (runs_at layout image control) (new_turn lp past control) (new.processors lp).fills refl entered c.reached
        (λ t among. c.filled t ∙ or_true _ _ (ap (λ ts. is_among ts t) (sym line_is) ∙ among));
    missed = tt;
    broken = tt;
  }

  -- ---- The control state

  orderly : IsOrderly layout (queue_by layout (new_turn lp past control ∷ turns)) (someone_inside layout past) (counted control)
  orderly = let o = h.laws.orderly in
      record {
        stack = o.stack;
        now = o.now;
        inside = o.inside;
        phase = o.phase;
        queue = o.queue;
        served = o.served;
        tape = o.tape;
        pending_only = o.pending_only;
        pending_if = o.pending_if;
        stuck = o.stuck;
      }

  laws : LawsStand layout past (counted control) (new_turn lp past control ∷ turns)
  laws = record {
    orderly = orderly;
    present = record { alone = h.laws.present.alone; context = h.laws.present.context; someone = h.laws.present.someone };
    fresh = subst (λ p. IsFresh p (control.count + 1) control.returned (new_turn lp past control ∷ turns)) (sym running) tt;
    taken = h.laws.taken;
    earlier = (ap is_some is, omega arith, h.laws.earlier);
    answered = let e : 0 + calls_by turns ≡ calls_by turns = omega arith in
        record { returned = subst (λ n. IsReturned (owing control) n (length control.returned)) (sym e) h.laws.answered.returned };
    going = λ live. subst (IsGoing (control.count + 1)) (sym no_event) (going_more control.count (control.count + 1) (events_by turns) (omega arith) going);
  }

  -- ---- Bytes

  settled : owing (counted control) ≡ Settled
  settled = ap (λ p. owing_by p (oldest control.stack control.now)) running ∙ ap (λ s. owing_by Running (oldest s control.now)) nothing ∙ ap owing_running now

  bytes : BytesStand layout image (counted control) (copies_at layout past new) new.processors
  bytes = record {
    flat = after;
    program = subst (λ o. IsAtBy o layout image control.returned (control.count + 1) after) (sym settled)
        (reaches-next layout image control.returned control.count flat after at c.ends);
    pages = record {
      tcs = subst (λ o. OfCopy o (IsTcs (length control.stack) control.pending)) (sym (c.runtime (tcs_page layout) (omega arith))) h.bytes.pages.tcs;
      areas = subst (AreasStand layout control.phase control.queue after (copies_at layout past new)) (sym nothing) tt;
      state = subst (λ o. OfCopy o (IsState layout control.phase control.queue after)) (sym (c.runtime (state_page layout) (omega arith)))
          (state_over (copies_at layout past old (state_page layout)) h.bytes.pages.state);
      program = c.program;
    };
    registers = record { given = λ q within. registers_of q within (q == lp) refl };
  }
    where
      over : (p : Phase) (bytes : List ℕ) → p ≡ Running → KeepsFrame p layout after bytes
      over p bytes e = subst (λ x. KeepsFrame x layout after bytes) (sym e) tt

      state_over : (o : Option (List ℕ)) → OfCopy o (IsState layout control.phase control.queue h.bytes.flat) → OfCopy o (IsState layout control.phase control.queue after)
      state_over None k = tt
      state_over (Some b) k = record { phase_is = k.phase_is; more = k.more; size = k.size; clusters = k.clusters; kept = over control.phase b running }

      registers_of : (q : ℕ) → (new.processors q).inside ≡ true → (b : Bool) → (q == lp) ≡ b → GivesNow layout control.phase after control.now (new.processors q).regs
      registers_of q within true e =
          subst (λ x. GivesNow layout control.phase after x (new.processors q).regs) (sym now)
          (ap (λ x. (new.processors x).regs) (eqb-true q lp e) ∙ c.regs)
      registers_of q within false e =
          absurd (eqb-false q lp e (h.laws.present.alone q lp (sym (c.tables.presence.within q) ∙ within) (ap is_some is)))

  -- ---- What was reached

  stay : IsStaying layout (runs_at layout image control) past control turns lp (old.processors lp) place
  stay = subst (StaysBy layout (runs_at layout image control) past control turns lp (old.processors lp)) is (h.reached.stays lp)

  completed : completed_since (turn_at lp past (counted control)) (new_turn lp past control) ≡ true
  completed =
      let a : (lp == lp) ≡ true = same_id lp lp refl in
      let b : (unwrap_or (since past lp) (length past + 1) == unwrap_or (since past lp) (length past + 1)) ≡ true = same_id (unwrap_or (since past lp) (length past + 1)) (unwrap_or (since past lp) (length past + 1)) refl in
      rw (a, b) refl

  granted : granted_to layout (runs_at layout image control) lp past (counted control) (new_turn lp past control ∷ turns)
      ≡ (line layout flat).accesses ++ granted_to layout (runs_at layout image control) lp past control turns
  granted =
      granted-completes layout (runs_at layout image control) (turn_at lp past (counted control)) (new_turn lp past control) turns completed
      ∙ ap (λ ts. ts ++ granted_to layout (runs_at layout image control) lp past control turns) line_is

  caches : (t : Access) → is_filled (new.processors lp).fills t ≡ is_among (granted_to layout (runs_at layout image control) lp past (counted control) (new_turn lp past control ∷ turns)) t
  caches t =
      c.filled t ∙ ap (λ b. is_among (line layout flat).accesses t || b) (stay.caches t)
      ∙ sym (list_any-append (same_access t) (line layout flat).accesses (granted_to layout (runs_at layout image control) lp past control turns))
      ∙ ap (λ g. is_among g t) (sym granted)

  stays_on : IsStaying layout (runs_at layout image control) past (counted control) (new_turn lp past control ∷ turns) lp (new.processors lp) place
  stays_on = record {
    fills = c.reached;
    caches = caches;
    tcs = subst (HoldsTcs layout past place) (sym c.tcs) stay.tcs;
    area = subst (HoldsArea layout past place (length control.stack)) (sym c.ssa) stay.area;
  }

  outside : (q : ℕ) (o : Option ℕ) → since past q ≡ o → (q == lp) ≡ false → StaysBy layout (runs_at layout image control) past control turns q (old.processors q) o →
      StaysBy layout (runs_at layout image control) past (counted control) (new_turn lp past control ∷ turns) q (new.processors q) o
  outside q None e other k = ap (λ x. x.fills) (c.others q other) ∙ k
  outside q (Some at_q) e other k = absurd (eqb-false q lp other (h.laws.present.alone q lp (ap is_some e) (ap is_some is)))

  stays : (q : ℕ) (b : Bool) → (q == lp) ≡ b → StaysBy layout (runs_at layout image control) past (counted control) (new_turn lp past control ∷ turns) q (new.processors q) (since past q)
  stays q true e =
      subst (λ x. StaysBy layout (runs_at layout image control) past (counted control) (new_turn lp past control ∷ turns) x (new.processors x) (since past x)) (sym (eqb-true q lp e))
      (subst (StaysBy layout (runs_at layout image control) past (counted control) (new_turn lp past control ∷ turns) lp (new.processors lp)) (sym is) stays_on)
  stays q false e = outside q (since past q) refl e (h.reached.stays q)

  -- the relation after the turn
  pub ordinary_stands : Stands layout image (at_moment past (counted control) (new_turn lp past control ∷ turns) new)
  ordinary_stands = record {
    inputs = inputs_with layout image control h.inputs (counted control) (let words = h.inputs.words in record { returned = words.returned; saved = words.saved; now = words.now });
    tape = tape;
    turns = (turn_stands, h.turns);
    laws = laws;
    counted = c.count ∙ ap (λ n. n + 1) h.counted;
    queued = c.queue ∙ h.queued;
    tables = c.tables;
    bytes = bytes;
    reached = record {
      stays = λ q. stays q (q == lp) refl;
      breaks = subst (BreaksStand layout (runs_at layout image control) (new_turn lp past control ∷ turns) (copies_at layout past new)) (sym nothing) tt;
    };
  }
