-- The relation after a resuming.
use Rattle.std.proofs.Common.{◌≡◌, ℕ, suc, ◌+◌, ◌*◌, ◌-◌, List, [], ◌∷◌, length, drop, refl, ap, sym, ◌∙◌, subst, arith}
use Rattle.std.proofs.lemmas.Bool.{eqb-true, lt-ltb}
use Rattle.std.proofs.lemmas.Bool.Decides.{nat_tests}
use Rattle.std.specs.Prelude.{Bool, true, false, ◌||◌, not, nat_lt, unwrap_or, Some, None, is_some, ◌==◌, if◌then◌else◌}
use Rattle.ak_core.specs.Layout.{Layout}
use Rattle.ak_core.specs.declared.page.Lp.{Lp}
use Rattle.ak_core.specs.declared.page.Kind.TheVariants.{Write}
use Rattle.ak_core.specs.declared.moves.Move.TheVariants.{Eresume}
use Rattle.ak_core.specs.declared.moves.Answer.TheVariants.{Ok}
use Rattle.ak_model.specs.Paging.Pages.{tcs_page, ssa_page}
use Rattle.ak_model.specs.Paging.Histories.{History, first}
use Rattle.ak_model.specs.Paging.Holdings.{VaFrame, PageFrame}
use Rattle.ak_model.specs.Paging.Frames.{held, blocked_at}
use Rattle.ak_model.specs.Paging.Handles.{live, page_of}
use Rattle.ak_model.specs.Paging.PageTable.{pte}
use Rattle.ak_model.specs.Paging.Inside.{since, inside}
use Rattle.ak_model.specs.Paging.Walk.{tcs_walkable, walkable}
use Rattle.ak_model.specs.Control.ControlState.{Saved, Control}
use Rattle.ak_model.specs.Control.Entering.{resumed_by}
use Rattle.ak_model.specs.Control.Answers.{resume_answer}
use Rattle.ak_model.specs.Tapes.ProgramTurns.{ProgramTurn, turn_at}
use Rattle.ak_model.specs.Sound.Forced.{queue_by}
use Rattle.ak_model.specs.Laws.Orderly.{is_live, is_refused, refuses_by}
use Rattle.ak_model.specs.Misses.Reached.{entered_at}
use Rattle.ak_model.specs.Misses.KeptTranslations.{is_among}
use Rattle.ak_model.proofs.Control.OrderlyMoves.{resume_fits}
use Rattle.ak_model.proofs.Control.OneInside.{resumes}
use Rattle.ak_model.proofs.Paging.SomeoneInside.{outside_ok}
use Rattle.ak_relation.specs.State.MachineState.{State}
use Rattle.ak_pager.specs.Contexts.{Gives, GivesNow}
use Rattle.ak_model.specs.Laws.OwedAnswers.{oldest, owing_by}
use Rattle.ak_relation.specs.Program.FlatPlaces.{IsAtBy}
use Rattle.ak_model.specs.Laws.Calls.{calls_by, IsAnswered}
use Rattle.ak_relation.specs.Program.Turns.{is_last, LawsStand}
use Rattle.ak_model.specs.Flat.Instructions.{number_at}
use Rattle.ak_track.specs.Steps.{EntersBy}
use Rattle.ak_relation.specs.State.Tables.{EntriesStand, SealedPageAgrees, MappingStands, TablesStand}
use Rattle.ak_relation.specs.Program.Reaching.{AreReached, is_filled, granted_to, StaysBy, IsStaying, BreaksStand}
use Rattle.ak_model.specs.Laws.OpenFrames.{HoldsSince, IsLate}
use Rattle.ak_relation.specs.Relation.Stands.{runs_at, copies_at, Stands}
use Rattle.ak_relation.specs.Premises.Resuming.{ResumesAt}
use Rattle.ak_relation.specs.Relation.Does.{at_moment}
use Rattle.ak_relation.specs.Program.Inputs.{BringWords}
use Rattle.ak_relation.proofs.Program.TurnWords.{inputs_with}
use Rattle.ak_model.proofs.Tapes.Calls.{oldest_saved}
use Rattle.ak_model.proofs.Tapes.CallTurns.{resumed-answered}
use Rattle.ak_model.proofs.Misses.Granted.{granted-none}
use Rattle.ak_relation.proofs.Leaves.LeafStands.{earlier_more}
use Rattle.ak_model.proofs.Paging.OpenFrames.{known-present}
use Rattle.ak_relation.proofs.Entering.ResumeFacts.{FoundAgain, last_resumed}
use Rattle.ak_relation.proofs.Entering.ResumedPages.{empty_now, nobody, tcs_open, area_open, breaks, gives, all_pages_stand}

module _ (layout : Layout) (image : List ℕ) (past : History) (control : Control) (turns : List ProgramTurn) (old new : State) (lp : Lp) (one : Saved) (older : List Saved)
    (h : Stands layout image (at_moment past control turns old)) (stacked : control.stack ≡ one ∷ older) (ok : resume_answer layout past control lp.0 ≡ Ok)
    (f : FoundAgain layout past control (length older)) (e : ResumesAt layout lp.0 (length older) old new) where
  -- the history after the resuming
  abbrev here : History
  here = (Eresume lp, Ok) ∷ past

  -- the control state after it
  abbrev next : Control
  next = record control { stack = older; now = Some one.context }

  low : (p : ℕ) → inside past p ≡ true → nat_lt p layout.lps ≡ true
  low p i = lt-ltb p layout.lps (let known = known-present layout past control h.laws.present in known.low p i)

  no_now : control.now ≡ None
  no_now = empty_now layout image past control turns old new lp.0 one older h stacked f e

  unrefused : (b : Bool) → is_refused control.stack ≡ b → is_live control.phase ≡ true → refuses_by one.reason ≡ false
  unrefused false r live = sym (ap is_refused stacked) ∙ r
  unrefused true r live = absurd (let p = h.laws.orderly.pending_if (ap is_some no_now) r live in let q = f.free in cc)

  going_on : (b : Bool) → is_live control.phase ≡ b → (not b || is_last older (Some one.context)) ≡ false → (not b || is_last control.stack control.now) ≡ false
  going_on false l g = absurd (cc)
  going_on true l g =
      ap (λ s. is_last s control.now) stacked ∙ ap (is_last (one ∷ older)) no_now ∙ last_resumed one older (unrefused (is_refused control.stack) refl l) ∙ g

  laws : LawsStand layout here next turns
  laws =
      let out = outside_ok layout past lp.0 _ ok in
      let p = resumes layout past control low (record { alone = h.laws.present.alone; context = h.laws.present.context; someone_is = h.laws.present.someone }) lp.0 one older out.0 out.1 in
      record {
        orderly = resume_fits layout (queue_by layout turns) past control lp.0 one older out.0 out.1 f.free stacked h.laws.orderly;
        present = record { alone = p.alone; context = p.context; someone = p.someone_is };
        fresh = h.laws.fresh;
        taken = h.laws.taken;
        earlier = earlier_more (length past) (length here) turns (omega arith) h.laws.earlier;
        answered = subst (λ s. IsAnswered (calls_by turns) (resumed_by control s)) stacked (resumed-answered layout control (calls_by turns) h.laws.answered no_now);
        going = λ live. h.laws.going (going_on (is_live control.phase) refl live);
      }

  -- ---- Tables

  present : (q : ℕ) (b : Bool) → (q == lp.0) ≡ b → (new.processors q).inside ≡ is_some (if b then Some (length past + 1) else since past q)
  present q true d = ap (λ x. (new.processors x).inside) (eqb-true q lp.0 d) ∙ e.inside
  present q false d = ap (λ x. x.inside) (e.others q d) ∙ h.tables.presence.within q

  va_apart : (va : ℕ) → held layout past va ≡ VaFrame → (b : Bool) → (va == (old.table (tcs_page layout)).frame) ≡ b → b ≡ false
  va_apart va k false t = refl
  va_apart va k true t =
      let o = tcs_open layout image past control turns old new lp.0 one older h stacked f e in
      absurd (let clash : VaFrame ≡ PageFrame (tcs_page layout) = sym k ∙ ap (held layout past) (eqb-true va (old.table (tcs_page layout)).frame t) ∙ o.holds in cc)

  tables : TablesStand layout here new
  tables = record {
    entries = subst (λ all. EntriesStand layout all (held layout past) (blocked_at past)) (sym e.entries) h.tables.entries;
    slots = record {
      versions = λ va i k lt. ap (λ bytes. number_at bytes (8 * i) 8) (e.frames va (va_apart va k _ refl)) ∙ h.tables.slots.versions va i k lt;
    };
    sealed_pages = record {
      sealed_page = λ k. subst (λ all. SealedPageAgrees layout (all k) (live layout past k) (page_of layout past k)) (sym e.sealed_pages) (h.tables.sealed_pages.sealed_page k);
      numbered = e.next ∙ h.tables.sealed_pages.numbered;
    };
    mapping = subst (λ table. MappingStands layout table (pte layout past)) (sym e.table) h.tables.mapping;
    presence = record { within = λ q. present q (q == lp.0) refl };
    tracking = record {
      built = h.tables.tracking.built;
      steps_are = e.track ∙ ap (λ steps. EntersBy lp.0 ∷ steps) h.tables.tracking.steps_are;
      stamped = λ f t d. ap (λ all. all f) e.stamps ∙ h.tables.tracking.stamped f t d;
    };
    frames = record { whole = e.whole };
    one_copy = h.tables.one_copy;
  }

  -- ---- What was reached

  here_first : first here (length past + 1) ≡ here
  here_first = let n : suc (length past) - (length past + 1) ≡ 0 = omega arith in ap (λ k. drop k here) n

  granted : granted_to layout (runs_at layout image control) lp.0 here next turns ≡ []
  granted =
      let same : (lp.0 == lp.0) ≡ true = let n = lp.0 in grind (arith, nat_tests) in
      let at : entered_at (turn_at lp.0 here next) ≡ length past + 1 =
      ap (λ b. unwrap_or (if b then Some (length past + 1) else since past lp.0) (length here + 1)) same in
      granted-none layout (runs_at layout image control) (turn_at lp.0 here next) turns (length past) h.laws.earlier (omega arith)

  staying : IsStaying layout (runs_at layout image control) here next turns lp.0 (new.processors lp.0) (length past + 1)
  staying =
      let t = tcs_open layout image past control turns old new lp.0 one older h stacked f e in
      let a = area_open layout image past control turns old new lp.0 one older h stacked f e in
      record {
        fills = subst (AreReached layout here (length past + 1)) (sym e.flushed) tt;
        caches = λ x. ap (λ fills. is_filled fills x) e.flushed ∙ sym (ap (λ g. is_among g x) granted);
        tcs = record {
          frame = subst (λ g. HoldsSince layout here (length past + 1) g (tcs_page layout)) (sym e.tcs)
              (record { holds = t.holds; late = subst (IsLate (length past + 1)) (sym t.unblocked) tt });
          found = ap (tcs_walkable layout) here_first ∙ f.tcs;
        };
        area = record {
          frame = subst (λ g. HoldsSince layout here (length past + 1) g (ssa_page layout (length older))) (sym e.ssa)
              (record { holds = a.holds; late = subst (IsLate (length past + 1)) (sym a.unblocked) tt });
          found = ap (λ before. walkable layout before (ssa_page layout (length older)) Write) here_first ∙ f.area;
        };
      }

  stays : (q : ℕ) (b : Bool) → (q == lp.0) ≡ b →
      StaysBy layout (runs_at layout image control) here next turns q (new.processors q) (if b then Some (length past + 1) else since past q)
  stays q true d =
      subst (λ x. StaysBy layout (runs_at layout image control) here next turns x (new.processors x) (Some (length past + 1))) (sym (eqb-true q lp.0 d)) staying
  stays q false d =
      let none = nobody layout image past control turns old new lp.0 one older h stacked f e q in
      subst (StaysBy layout (runs_at layout image control) here next turns q (new.processors q)) (sym none)
      (ap (λ x. x.fills) (e.others q d) ∙ subst (StaysBy layout (runs_at layout image control) past control turns q (old.processors q)) none (h.reached.stays q))

  registers : (q : ℕ) (b : Bool) → (q == lp.0) ≡ b → (new.processors q).inside ≡ true → GivesNow layout control.phase h.bytes.flat (Some one.context) (new.processors q).regs
  registers q true d i = subst (λ x. Gives layout control.phase h.bytes.flat one.context (new.processors x).regs) (sym (eqb-true q lp.0 d)) (gives layout image past control turns old new lp.0 one older h stacked f e)
  registers q false d i =
      absurd (let none : is_some (since past q) ≡ false = ap is_some (nobody layout image past control turns old new lp.0 one older h stacked f e q) in
      let there : is_some (since past q) ≡ true = sym (h.tables.presence.within q) ∙ sym (ap (λ x. x.inside) (e.others q d)) ∙ i in cc)

  owes : owing_by control.phase (oldest control.stack control.now) ≡ owing_by control.phase (oldest older (Some one.context))
  owes =
      ap (λ s. owing_by control.phase (oldest s control.now)) stacked ∙ ap (λ now. owing_by control.phase (oldest (one ∷ older) now)) no_now
      ∙ ap (owing_by control.phase) (oldest_saved older one.context one.reason)

  saved_breaks : BreaksStand layout (runs_at layout image control) turns (copies_at layout past old) (one ∷ older)
  saved_breaks = subst (BreaksStand layout (runs_at layout image control) turns (copies_at layout past old)) stacked h.reached.breaks

  -- the relation after the resuming
  pub resumed_stands : Stands layout image (at_moment here next turns new)
  resumed_stands = record {
    inputs = inputs_with layout image control h.inputs next (let words = h.inputs.words in let saved = subst BringWords stacked words.saved in record { returned = words.returned; saved = saved.1; now = saved.0 });
    tape = h.tape;
    turns = h.turns;
    laws = laws;
    counted = e.count ∙ h.counted;
    queued = e.queue ∙ h.queued;
    tables = tables;
    bytes = record {
      flat = h.bytes.flat;
      program = subst (λ o. IsAtBy o layout image control.returned control.count h.bytes.flat) owes h.bytes.program;
      pages = all_pages_stand layout image past control turns old new lp.0 one older h stacked f e;
      registers = record { given = λ q i. registers q (q == lp.0) refl i };
    };
    reached = record {
      stays = λ q. stays q (q == lp.0) refl;
      breaks = breaks layout image past control turns old new lp.0 one older h stacked f e (runs_at layout image control) older saved_breaks.1;
    };
  }
