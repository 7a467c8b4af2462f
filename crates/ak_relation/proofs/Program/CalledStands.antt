-- The relation after a turn of the program that completes a call.
use Rattle.std.proofs.Common.{◌≡◌, ℕ, ◌+◌, ◌*◌, List, [], ◌∷◌, ◌++◌, length, take, drop, refl, ap, sym, ◌∙◌, subst, arith}
use Rattle.std.proofs.lemmas.Bool.{eqb-true, eqb-false}
use Rattle.std.proofs.lemmas.List.Folds.{list_any-append}
use Rattle.std.specs.Prelude.{Bool, true, false, ◌||◌, slice_index, option_map, Option, Some, None, is_some, unwrap_or, ◌==◌}
use Rattle.ak_core.specs.Layout.{Layout}
use Rattle.ak_core.specs.Mem.{Access}
use Rattle.ak_model.specs.Paging.Pages.{tcs_page, state_page}
use Rattle.ak_model.specs.Paging.Histories.{History}
use Rattle.ak_model.specs.Paging.Inside.{since}
use Rattle.ak_model.specs.Flat.FlatRuns.{Flat, End, line, page_bytes}
use Rattle.ak_model.specs.Paging.Holdings.{Place, InFrame, InHandle, Gone}
use Rattle.ak_model.specs.Paging.Handles.{live, page_of, slot, place as place_of}
use Rattle.ak_model.specs.Paging.PageTable.{pte}
use Rattle.ak_model.specs.Paging.Frames.{held, blocked_at}
use Rattle.ak_model.specs.Flat.Instructions.{rdi, rsi}
use Rattle.ak_model.specs.Control.ControlState.{Phase, Running, Program, Leave, Control}
use Rattle.ak_model.specs.Tapes.ProgramTurns.{ProgramTurn, turn_at}
use Rattle.ak_model.specs.Misses.KeptTranslations.{completed_since, is_among, same_access}
use Rattle.ak_core.specs.declared.event.Event.TheVariants.{Call}
use Rattle.ak_relation.specs.State.MachineState.{State, copy}
use Rattle.ak_pager.specs.RuntimePages.{OfCopy, AreasStand, IsState, KeepsFrame}
use Rattle.ak_relation.specs.Program.FlatPlaces.{IsAtBy, Reaches}
use Rattle.ak_relation.specs.Bytes.Pages.{IsTcs}
use Rattle.ak_relation.specs.State.Tables.{EntriesStand, SlotsStand, SealedPageAgrees, MappingStands, FramesStand, TablesStand}
use Rattle.ak_relation.specs.Program.Reaching.{is_filled, granted_to, IsStaying, StaysBy, BreaksStand, HoldsArea, HoldsTcs}
use Rattle.ak_relation.specs.Relation.Stands.{runs_at, copies_at, BytesStand, Stands}
use Rattle.ak_relation.specs.Premises.CallingOut.{CallsOut}
use Rattle.ak_relation.specs.Relation.Does.{at_moment}
use Rattle.ak_relation.proofs.Exits.Departing.{turn_with}
use Rattle.ak_relation.proofs.Flat.FlatLaws.{EndFits}
use Rattle.ak_relation.proofs.Program.CalledTurn.{called, left, line_is, stay, fills, tape, turn_stands, owed, laws}
use Rattle.ak_relation.proofs.Program.Completing.{same_id}
use Rattle.ak_relation.proofs.Program.TurnWords.{inputs_with}
use Rattle.ak_model.proofs.Misses.Granted.{granted-completes}
use Rattle.ak_pager.specs.Contexts.{Gives, GivesNow}

module _ (layout : Layout) (image : List ℕ) (past : History) (control : Control) (turns : List ProgramTurn) (old new : State) (lp place : ℕ) (flat after : Flat) (b a : ℕ)
    (h : Stands layout image (at_moment past control turns old)) (is : since past lp ≡ Some place) (now : control.now ≡ Some Program)
    (running : control.phase ≡ Running) (nothing : control.stack ≡ []) (flat_is : h.bytes.flat ≡ flat) (at : Reaches layout image control.returned control.count flat)
    (c : CallsOut layout lp flat after b a old new) where
  -- the turns with this one
  abbrev more : List ProgramTurn
  more = turn_with lp past control (Call control.count b a) ∷ turns

  its_stay : IsStaying layout (runs_at layout image control) past control turns lp (old.processors lp) place
  its_stay = stay layout image past control turns old new lp place flat after b a h is now running nothing flat_is at c

  call_left : EndFits flat (End.Call b a after)
  call_left = left layout image past control turns old new lp place flat after b a h is now running nothing flat_is at c

  -- ---- Tables

  present : (q : ℕ) (t : Bool) → (q == lp) ≡ t → (new.processors q).inside ≡ is_some (since past q)
  present q true e = ap (λ x. (new.processors x).inside) (eqb-true q lp e) ∙ c.inside ∙ sym (ap (λ x. (old.processors x).inside) (eqb-true q lp e)) ∙ h.tables.presence.within q
  present q false e = ap (λ x. x.inside) (c.others q e) ∙ h.tables.presence.within q

  tables : TablesStand layout past new
  tables = record {
    entries = subst (λ all. EntriesStand layout all (held layout past) (blocked_at past)) (sym c.entries) h.tables.entries;
    slots = subst (λ all. SlotsStand all (held layout past) (slot layout past)) (sym c.frames) h.tables.slots;
    sealed_pages = record {
      sealed_page = λ k. subst (λ all. SealedPageAgrees layout (all k) (live layout past k) (page_of layout past k)) (sym c.sealed_pages) (h.tables.sealed_pages.sealed_page k);
      numbered = c.next ∙ h.tables.sealed_pages.numbered;
    };
    mapping = subst (λ table. MappingStands layout table (pte layout past)) (sym c.table) h.tables.mapping;
    presence = record { within = λ q. present q (q == lp) refl };
    tracking = record {
      built = h.tables.tracking.built;
      steps_are = c.track ∙ h.tables.tracking.steps_are;
      stamped = λ f t e. ap (λ all. all f) c.stamps ∙ h.tables.tracking.stamped f t e;
    };
    frames = subst FramesStand (sym c.frames) h.tables.frames;
    one_copy = h.tables.one_copy;
  }

  -- ---- Bytes

  same_place : (there : Place) → copy new there ≡ copy old there
  same_place (InFrame f) = ap (λ all. Some (all f)) c.frames
  same_place (InHandle k) = ap (λ all. option_map (λ sealed_page. sealed_page.bytes) (all k)) c.sealed_pages
  same_place Gone = refl

  same_copy : (p : ℕ) → copies_at layout past new p ≡ copies_at layout past old p
  same_copy p = same_place (place_of layout past p)

  same_page : (p : ℕ) → page_bytes h.bytes.flat p ≡ page_bytes after p
  same_page p = ap (λ f. page_bytes f p) flat_is ∙ sym (ap (λ bytes. take 4096 (drop (4096 * p) bytes)) call_left.2)

  gives : Gives layout control.phase after (Leave b a) (new.processors lp).regs
  gives =
      let form = call_left.1 in
      let same = c.regs in
      (c.step, c.regs, ap (λ gpr. slice_index gpr rdi) same.gpr ∙ form.number_is, ap (λ gpr. slice_index gpr rsi) same.gpr ∙ form.argument_is)

  bytes : BytesStand layout image (called control b a) (copies_at layout past new) new.processors
  bytes = record {
    flat = after;
    program = subst (λ o. IsAtBy o layout image control.returned (control.count + 1) after) (sym (owed layout image past control turns old new lp place flat after b a h is now running nothing flat_is at c))
        (record { before = control.count; caller = flat; number = b; argument = a; count_is = omega arith; reached = at; called = c.ends });
    pages = record {
      tcs = subst (λ o. OfCopy o (IsTcs (length control.stack) control.pending)) (sym (same_copy (tcs_page layout))) h.bytes.pages.tcs;
      areas = subst (AreasStand layout control.phase control.queue after (copies_at layout past new)) (sym nothing) tt;
      state = subst (λ o. OfCopy o (IsState layout control.phase control.queue after)) (sym (same_copy (state_page layout)))
          (state_over (copies_at layout past old (state_page layout)) h.bytes.pages.state);
      program = λ p lt. subst (λ o. OfCopy o (λ all. all ≡ page_bytes after p)) (sym (same_copy p))
          (subst (λ x. OfCopy (copies_at layout past old p) (λ all. all ≡ x)) (same_page p) (h.bytes.pages.program p lt));
    };
    registers = record { given = λ q within. registers_of q within (q == lp) refl };
  }
    where
      over : (p : Phase) (all : List ℕ) → p ≡ Running → KeepsFrame p layout after all
      over p all e = subst (λ x. KeepsFrame x layout after all) (sym e) tt

      state_over : (o : Option (List ℕ)) → OfCopy o (IsState layout control.phase control.queue h.bytes.flat) → OfCopy o (IsState layout control.phase control.queue after)
      state_over None k = tt
      state_over (Some all) k = record { phase_is = k.phase_is; more = k.more; size = k.size; clusters = k.clusters; kept = over control.phase all running }

      registers_of : (q : ℕ) → (new.processors q).inside ≡ true → (t : Bool) → (q == lp) ≡ t → GivesNow layout control.phase after (Some (Leave b a)) (new.processors q).regs
      registers_of q within true e = subst (λ x. Gives layout control.phase after (Leave b a) (new.processors x).regs) (sym (eqb-true q lp e)) gives
      registers_of q within false e = absurd (eqb-false q lp e (h.laws.present.alone q lp (sym (present q false e) ∙ within) (ap is_some is)))

  -- ---- What was reached

  completed : completed_since (turn_at lp past (called control b a)) (turn_with lp past control (Call control.count b a)) ≡ true
  completed =
      let a : (lp == lp) ≡ true = same_id lp lp refl in
      let b : (unwrap_or (since past lp) (length past + 1) == unwrap_or (since past lp) (length past + 1)) ≡ true = same_id (unwrap_or (since past lp) (length past + 1)) (unwrap_or (since past lp) (length past + 1)) refl in
      rw (a, b) refl

  granted : granted_to layout (runs_at layout image control) lp past (called control b a) more
      ≡ (line layout flat).accesses ++ granted_to layout (runs_at layout image control) lp past control turns
  granted =
      granted-completes layout (runs_at layout image control) (turn_at lp past (called control b a)) (turn_with lp past control (Call control.count b a)) turns completed
      ∙ ap (λ ts. ts ++ granted_to layout (runs_at layout image control) lp past control turns) (line_is layout image past control turns old new lp place flat after b a h is now running nothing flat_is at c)

  caches : (t : Access) → is_filled (new.processors lp).fills t ≡ is_among (granted_to layout (runs_at layout image control) lp past (called control b a) more) t
  caches t =
      c.filled t ∙ ap (λ b. is_among (line layout flat).accesses t || b) (its_stay.caches t)
      ∙ sym (list_any-append (same_access t) (line layout flat).accesses (granted_to layout (runs_at layout image control) lp past control turns))
      ∙ ap (λ g. is_among g t) (sym granted)

  stays_on : IsStaying layout (runs_at layout image control) past (called control b a) more lp (new.processors lp) place
  stays_on = record {
    fills = fills layout image past control turns old new lp place flat after b a h is now running nothing flat_is at c;
    caches = caches;
    tcs = subst (HoldsTcs layout past place) (sym c.tcs) its_stay.tcs;
    area = subst (HoldsArea layout past place (length control.stack)) (sym c.ssa) its_stay.area;
  }

  outside : (q : ℕ) (o : Option ℕ) → since past q ≡ o → (q == lp) ≡ false → StaysBy layout (runs_at layout image control) past control turns q (old.processors q) o →
      StaysBy layout (runs_at layout image control) past (called control b a) more q (new.processors q) o
  outside q None e other k = ap (λ x. x.fills) (c.others q other) ∙ k
  outside q (Some at_q) e other k = absurd (eqb-false q lp other (h.laws.present.alone q lp (ap is_some e) (ap is_some is)))

  stays : (q : ℕ) (t : Bool) → (q == lp) ≡ t → StaysBy layout (runs_at layout image control) past (called control b a) more q (new.processors q) (since past q)
  stays q true e =
      subst (λ x. StaysBy layout (runs_at layout image control) past (called control b a) more x (new.processors x) (since past x)) (sym (eqb-true q lp e))
      (subst (StaysBy layout (runs_at layout image control) past (called control b a) more lp (new.processors lp)) (sym is) stays_on)
  stays q false e = outside q (since past q) refl e (h.reached.stays q)

  -- the relation after the turn
  pub called_stands : Stands layout image (at_moment past (called control b a) more new)
  called_stands = record {
    inputs = inputs_with layout image control h.inputs (called control b a) (let words = h.inputs.words in record { returned = words.returned; saved = words.saved; now = tt });
    tape = tape layout image past control turns old new lp place flat after b a h is now running nothing flat_is at c;
    turns = (turn_stands layout image past control turns old new lp place flat after b a h is now running nothing flat_is at c, h.turns);
    laws = laws layout image past control turns old new lp place flat after b a h is now running nothing flat_is at c;
    counted = c.count ∙ ap (λ n. n + 1) h.counted;
    queued = c.queue ∙ h.queued;
    tables = tables;
    bytes = bytes;
    reached = record {
      stays = λ q. stays q (q == lp) refl;
      breaks = subst (BreaksStand layout (runs_at layout image control) more (copies_at layout past new)) (sym nothing) tt;
    };
  }
