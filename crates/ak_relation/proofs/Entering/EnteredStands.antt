-- The relation after an entering.
use Rattle.std.proofs.Common.{◌≡◌, ℕ, suc, ◌<◌, ◌^◌, ◌+◌, ◌*◌, ◌-◌, List, [], ◌∷◌, length, drop, refl, ap, sym, ◌∙◌, subst, arith}
use Rattle.std.proofs.lemmas.Bool.{eqb-true, lt-ltb}
use Rattle.std.proofs.lemmas.Bool.Decides.{nat_tests}
use Rattle.std.specs.Prelude.{Bool, true, false, ◌||◌, not, nat_lt, unwrap_or, Some, is_some, ◌==◌, if◌then◌else◌}
use Rattle.ak_core.specs.Layout.{Layout}
use Rattle.ak_core.specs.declared.page.Lp.{Lp}
use Rattle.ak_core.specs.declared.page.Kind.TheVariants.{Write}
use Rattle.ak_core.specs.declared.moves.Move.TheVariants.{Eenter}
use Rattle.ak_core.specs.declared.moves.Answer.TheVariants.{Ok, Gp}
use Rattle.ak_model.specs.Paging.Pages.{tcs_page, ssa_page}
use Rattle.ak_model.specs.Paging.Histories.{History, first}
use Rattle.ak_model.specs.Paging.Holdings.{VaFrame, PageFrame}
use Rattle.ak_model.specs.Paging.Frames.{held, blocked_at}
use Rattle.ak_model.specs.Paging.Handles.{live, page_of}
use Rattle.ak_model.specs.Paging.PageTable.{pte}
use Rattle.ak_model.specs.Paging.Inside.{since, inside}
use Rattle.ak_model.specs.Paging.Walk.{tcs_walkable, walkable}
use Rattle.ak_model.specs.Control.ControlState.{Enter, Control, cssa}
use Rattle.ak_model.specs.Control.Entering.{entered}
use Rattle.ak_model.specs.Control.Answers.{enter_answer}
use Rattle.ak_model.specs.Tapes.ProgramTurns.{ProgramTurn, turn_at}
use Rattle.ak_model.specs.Sound.Forced.{queue_by}
use Rattle.ak_model.specs.Laws.Orderly.{is_live}
use Rattle.ak_model.specs.Misses.Reached.{entered_at}
use Rattle.ak_model.specs.Misses.KeptTranslations.{is_among}
use Rattle.ak_model.proofs.Control.OrderlyMoves.{enter_fits}
use Rattle.ak_model.proofs.Control.OneInside.{enters}
use Rattle.ak_model.proofs.Paging.SomeoneInside.{other, outside_ok}
use Rattle.ak_relation.specs.State.MachineState.{State}
use Rattle.ak_pager.specs.Contexts.{GivesNow}
use Rattle.ak_model.specs.Laws.OwedAnswers.{owing_running}
use Rattle.ak_relation.specs.Program.FlatPlaces.{IsAtBy}
use Rattle.ak_relation.specs.Program.Turns.{is_last, LawsStand}
use Rattle.ak_model.specs.Flat.Instructions.{number_at}
use Rattle.ak_track.specs.Steps.{EntersBy}
use Rattle.ak_relation.specs.State.Tables.{EntriesStand, SealedPageAgrees, MappingStands, TablesStand}
use Rattle.ak_relation.specs.Program.Reaching.{AreReached, is_filled, granted_to, StaysBy, IsStaying}
use Rattle.ak_model.specs.Laws.OpenFrames.{HoldsSince, IsLate}
use Rattle.ak_relation.specs.Relation.Stands.{runs_at, Stands}
use Rattle.ak_relation.specs.Premises.Entering.{EntersAt}
use Rattle.ak_relation.specs.Relation.Does.{at_moment}
use Rattle.ak_model.proofs.Tapes.Calls.{other_now}
use Rattle.ak_model.proofs.Tapes.CallTurns.{entered-answered}
use Rattle.ak_relation.proofs.Program.TurnWords.{inputs_with}
use Rattle.ak_model.proofs.Misses.Granted.{granted-none}
use Rattle.ak_relation.proofs.Leaves.LeafStands.{earlier_more}
use Rattle.ak_model.proofs.Paging.OpenFrames.{known-present}
use Rattle.ak_relation.proofs.Entering.EnteredPages.{last_entered, found, empty_now, nobody, tcs_open, area_open, breaks, all_pages_stand}

module _ (layout : Layout) (image : List ℕ) (past : History) (control : Control) (turns : List ProgramTurn) (old new : State) (lp : Lp) (v : ℕ)
    (h : Stands layout image (at_moment past control turns old))
    (ok : enter_answer layout past control lp.0 ≡ Ok) (e : EntersAt layout lp.0 (cssa control) v old new) (word : v < 2 ^ 64) where
  -- the history after the entering
  abbrev here : History
  here = (Eenter lp v, Ok) ∷ past

  low : (p : ℕ) → inside past p ≡ true → nat_lt p layout.lps ≡ true
  low p i = lt-ltb p layout.lps (let known = known-present layout past control h.laws.present in known.low p i)

  laws : LawsStand layout here (entered control v) turns
  laws =
      let out = outside_ok layout past lp.0 _ ok in
      let full = (other (cssa control == 3) Gp _ Ok (λ x. cc) out.2).0 in
      let p = enters layout past control low (record { alone = h.laws.present.alone; context = h.laws.present.context; someone_is = h.laws.present.someone }) lp.0 v out.0 out.1 in
      record {
        orderly = enter_fits layout (queue_by layout turns) past control lp.0 v out.0 out.1 full h.laws.orderly;
        present = record { alone = p.alone; context = p.context; someone = p.someone_is };
        fresh = h.laws.fresh;
        taken = h.laws.taken;
        earlier = earlier_more (length past) (length here) turns (omega arith) h.laws.earlier;
        answered = entered-answered layout control _ h.laws.answered v (empty_now layout image past control turns old new lp v h ok e);
        going = λ live. h.laws.going (ap (λ b. not (is_live control.phase) || b) (ap (is_last control.stack) (empty_now layout image past control turns old new lp v h ok e) ∙ sym (last_entered control.stack (cssa control) v)) ∙ live);
      }

  -- ---- Tables

  present : (q : ℕ) (b : Bool) → (q == lp.0) ≡ b → (new.processors q).inside ≡ is_some (if b then Some (length past + 1) else since past q)
  present q true d = ap (λ x. (new.processors x).inside) (eqb-true q lp.0 d) ∙ e.inside
  present q false d = ap (λ x. x.inside) (e.others q d) ∙ h.tables.presence.within q

  va_apart : (va : ℕ) → held layout past va ≡ VaFrame → (b : Bool) → (va == (old.table (tcs_page layout)).frame) ≡ b → b ≡ false
  va_apart va k false t = refl
  va_apart va k true t =
      let o = tcs_open layout image past control turns old new lp v h ok e in
      absurd (let clash : VaFrame ≡ PageFrame (tcs_page layout) = sym k ∙ ap (held layout past) (eqb-true va (old.table (tcs_page layout)).frame t) ∙ o.holds in cc)

  tables : TablesStand layout here new
  tables = record {
    entries = subst (λ all. EntriesStand layout all (held layout past) (blocked_at past)) (sym e.entries) h.tables.entries;
    slots = record {
      versions = λ va i k lt. ap (λ bytes. number_at bytes (8 * i) 8) (e.frames va (va_apart va k _ refl)) ∙ h.tables.slots.versions va i k lt;
    };
    sealed_pages = record {
      sealed_page = λ k. subst (λ all. SealedPageAgrees layout (all k) (live layout past k) (page_of layout past k)) (sym e.sealed_pages) (h.tables.sealed_pages.sealed_page k);
      numbered = e.next ∙ h.tables.sealed_pages.numbered;
    };
    mapping = subst (λ table. MappingStands layout table (pte layout past)) (sym e.table) h.tables.mapping;
    presence = record { within = λ q. present q (q == lp.0) refl };
    tracking = record {
      built = h.tables.tracking.built;
      steps_are = e.track ∙ ap (λ steps. EntersBy lp.0 ∷ steps) h.tables.tracking.steps_are;
      stamped = λ f t d. ap (λ all. all f) e.stamps ∙ h.tables.tracking.stamped f t d;
    };
    frames = record { whole = e.whole };
    one_copy = h.tables.one_copy;
  }

  -- ---- What was reached

  here_first : first here (length past + 1) ≡ here
  here_first = let n : suc (length past) - (length past + 1) ≡ 0 = omega arith in ap (λ k. drop k here) n

  granted : granted_to layout (runs_at layout image control) lp.0 here (entered control v) turns ≡ []
  granted =
      let same : (lp.0 == lp.0) ≡ true = let n = lp.0 in grind (arith, nat_tests) in
      let at : entered_at (turn_at lp.0 here (entered control v)) ≡ length past + 1 =
      ap (λ b. unwrap_or (if b then Some (length past + 1) else since past lp.0) (length here + 1)) same in
      granted-none layout (runs_at layout image control) (turn_at lp.0 here (entered control v)) turns (length past) h.laws.earlier (omega arith)

  staying : IsStaying layout (runs_at layout image control) here (entered control v) turns lp.0 (new.processors lp.0) (length past + 1)
  staying =
      let t = tcs_open layout image past control turns old new lp v h ok e in
      let a = area_open layout image past control turns old new lp v h ok e in
      let f = found layout image past control turns old new lp v h ok e in
      record {
        fills = subst (AreReached layout here (length past + 1)) (sym e.flushed) tt;
        caches = λ x. ap (λ fills. is_filled fills x) e.flushed ∙ sym (ap (λ g. is_among g x) granted);
        tcs = record {
          frame = subst (λ g. HoldsSince layout here (length past + 1) g (tcs_page layout)) (sym e.tcs)
              (record { holds = t.holds; late = subst (IsLate (length past + 1)) (sym t.unblocked) tt });
          found = ap (tcs_walkable layout) here_first ∙ f.tcs;
        };
        area = record {
          frame = subst (λ g. HoldsSince layout here (length past + 1) g (ssa_page layout (cssa control))) (sym e.ssa)
              (record { holds = a.holds; late = subst (IsLate (length past + 1)) (sym a.unblocked) tt });
          found = ap (λ older. walkable layout older (ssa_page layout (cssa control)) Write) here_first ∙ f.area;
        };
      }

  stays : (q : ℕ) (b : Bool) → (q == lp.0) ≡ b →
      StaysBy layout (runs_at layout image control) here (entered control v) turns q (new.processors q) (if b then Some (length past + 1) else since past q)
  stays q true d =
      subst (λ x. StaysBy layout (runs_at layout image control) here (entered control v) turns x (new.processors x) (Some (length past + 1))) (sym (eqb-true q lp.0 d)) staying
  stays q false d =
      let none = nobody layout image past control turns old new lp v h ok e q in
      subst (StaysBy layout (runs_at layout image control) here (entered control v) turns q (new.processors q)) (sym none)
      (ap (λ x. x.fills) (e.others q d) ∙ subst (StaysBy layout (runs_at layout image control) past control turns q (old.processors q)) none (h.reached.stays q))

  registers : (q : ℕ) (b : Bool) → (q == lp.0) ≡ b → (new.processors q).inside ≡ true → GivesNow layout control.phase h.bytes.flat (Some (Enter (cssa control) v)) (new.processors q).regs
  registers q true d i = ap (λ x. (new.processors x).regs) (eqb-true q lp.0 d) ∙ e.regs
  registers q false d i =
      absurd (let none : is_some (since past q) ≡ false = ap is_some (nobody layout image past control turns old new lp v h ok e q) in
      let there : is_some (since past q) ≡ true = sym (h.tables.presence.within q) ∙ sym (ap (λ x. x.inside) (e.others q d)) ∙ i in cc)

  -- the relation after the entering
  pub entered_stands : Stands layout image (at_moment here (entered control v) turns new)
  entered_stands = record {
    inputs = inputs_with layout image control h.inputs (entered control v) (let words = h.inputs.words in record { returned = words.returned; saved = words.saved; now = word });
    tape = h.tape;
    turns = h.turns;
    laws = laws;
    counted = e.count ∙ h.counted;
    queued = e.queue ∙ h.queued;
    tables = tables;
    bytes = record {
      flat = h.bytes.flat;
      program = subst (λ o. IsAtBy o layout image control.returned control.count h.bytes.flat)
          (other_now control.phase control.stack control.now (Some (Enter (cssa control) v))
          (ap owing_running (empty_now layout image past control turns old new lp v h ok e)) refl) h.bytes.program;
      pages = all_pages_stand layout image past control turns old new lp v h ok e;
      registers = record { given = λ q i. registers q (q == lp.0) refl i };
    };
    reached = record {
      stays = λ q. stays q (q == lp.0) refl;
      breaks = breaks layout image past control turns old new lp v h ok e (runs_at layout image control) control.stack h.reached.breaks;
    };
  }
