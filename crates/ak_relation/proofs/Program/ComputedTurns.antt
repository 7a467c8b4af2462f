-- A turn of the program that completes an instruction and is no call, as `IsTurn`, from what the machine shows by its own tables.
use Rattle.std.proofs.Common.{◌≡◌, ℕ, ◌*◌, ◌<◌, ◌≤◌, [], ◌∷◌, length, refl, ap, sym, ◌∙◌, subst}
use Rattle.std.proofs.lemmas.Bool.{eqb-true}
use Rattle.std.specs.Prelude.{Bool, true, false, option_map, Option, Some, None, is_some, ◌==◌}
use Rattle.ak_core.specs.Layout.{Layout}
use Rattle.ak_core.specs.declared.registers.Mode.{Mode}
use Rattle.ak_model.specs.Paging.Pages.{pages}
use Rattle.ak_model.specs.Paging.Histories.{History}
use Rattle.ak_model.specs.Paging.Holdings.{VaFrame, PageFrame, Place, InFrame, InHandle, Gone}
use Rattle.ak_model.specs.Paging.Frames.{held, blocked_at}
use Rattle.ak_model.specs.Paging.Handles.{live, page_of, place as place_of}
use Rattle.ak_model.specs.Paging.PageTable.{pte}
use Rattle.ak_model.specs.Paging.Inside.{since, inside}
use Rattle.ak_model.specs.Flat.FlatRuns.{Flat, page_bytes}
use Rattle.ak_epcm.specs.Entries.{entry_at}
use Rattle.ak_relation.specs.State.MachineState.{State, copy}
use Rattle.ak_pager.specs.RuntimePages.{OfCopy}
use Rattle.ak_relation.specs.State.Tables.{EntriesStand, MappingStands, SealedPageAgrees, TablesStand}
use Rattle.ak_model.specs.Flat.Instructions.{number_at}
use Rattle.ak_relation.specs.State.MachineView.{held_in}
use Rattle.ak_relation.specs.Program.Reaching.{AreReached}
use Rattle.ak_relation.specs.Relation.Stands.{copies_at}
use Rattle.ak_relation.proofs.Program.Ordinary.{Completes}
use Rattle.ak_relation.specs.Premises.Computing.{Computes, ShowsComputed}
use Rattle.ak_relation.specs.Relation.Does.{TurnFollows, at_moment, GoesTo, IsTurn}
use Rattle.ak_relation.proofs.Program.OrdinaryTurns.{new_turn, counted, ordinary_stands}
use Rattle.ak_relation.proofs.Program.ProgramTurns.{later_less, follows}
use Rattle.ak_relation.proofs.Program.Seen.{flat_whole, now_program, phase_running, none_saved, comes_at, its_stay, sees}
use Rattle.ak_relation.proofs.Exits.SavedPages.{page_is}
use Rattle.ak_relation.proofs.Leaves.ViewStands.{view-same}
use Rattle.ak_relation.proofs.Program.WalkedFills.{fills_reached}
use Rattle.ak_relation.proofs.Program.AwayPages.{away_pages}

module _ (layout : Layout) (past : History) (lp place : ℕ) (flat after : Flat) (old new : State) (is : since past lp ≡ Some place) (h : TablesStand layout past old)
    (program : (p : ℕ) → p < pages layout → OfCopy (copies_at layout past old p) (λ bytes. bytes ≡ page_bytes flat p))
    (cached : AreReached layout past place (old.processors lp).fills) (full : 4096 * pages layout ≤ length flat.bytes) (c : Computes layout lp flat after old new) where
  held_same : (f : ℕ) → held_in (entry_at old.entries f) ≡ held layout past f
  held_same f = let same = view-same layout past old h in same.held f

  -- ---- Bytes

  sealed : (p k : ℕ) → p < pages layout → place_of layout past p ≡ InHandle k → OfCopy (copy old (InHandle k)) (λ bytes. bytes ≡ page_bytes flat p) →
      OfCopy (copy old (InHandle k)) (λ bytes. bytes ≡ page_bytes after p)
  sealed p k lt at own =
      subst (λ x. OfCopy (copy old (InHandle k)) (λ bytes. bytes ≡ x))
      (away_pages layout past lp place is old h cached flat after full c.walked (new.processors lp).fills c.ends c.found c.fills c.filled p
      (λ f e. (let there : InFrame f ≡ InHandle k = sym (h.one_copy.placed p f (sym (held_same f) ∙ e)) ∙ at in cc))) own

  by_place : (p : ℕ) (at : Place) → place_of layout past p ≡ at → p < pages layout → OfCopy (copy old at) (λ bytes. bytes ≡ page_bytes flat p) → OfCopy (copy new at) (λ bytes. bytes ≡ page_bytes after p)
  by_place p (InFrame f) at lt own = c.written f p (held_same f ∙ h.one_copy.framed p f at) lt own
  by_place p (InHandle k) at lt own =
      subst (λ o. OfCopy o (λ bytes. bytes ≡ page_bytes after p)) (sym (ap (λ all. option_map (λ sealed_page. sealed_page.bytes) (all k)) c.sealed_pages)) (sealed p k lt at own)
  by_place p Gone at lt own = tt

  runtime_place : (p : ℕ) (at : Place) → place_of layout past p ≡ at → pages layout ≤ p → copy new at ≡ copy old at
  runtime_place p (InFrame f) at le =
      ap Some (c.frames f (λ q e. subst (λ n. pages layout ≤ n) (page_is p q (sym (h.one_copy.framed p f at) ∙ sym (held_same f) ∙ e)) le))
  runtime_place p (InHandle k) at le = ap (λ all. option_map (λ sealed_page. sealed_page.bytes) (all k)) c.sealed_pages
  runtime_place p Gone at le = refl

  -- ---- Tables

  present : (q : ℕ) (t : Bool) → (q == lp) ≡ t → (new.processors q).inside ≡ is_some (since past q)
  present q true e = ap (λ x. (new.processors x).inside) (eqb-true q lp e) ∙ c.inside ∙ sym (ap (λ x. (old.processors x).inside) (eqb-true q lp e)) ∙ h.presence.within q
  present q false e = ap (λ x. x.inside) (c.others q e) ∙ h.presence.within q

  va_same : (va : ℕ) → held layout past va ≡ VaFrame → new.frames va ≡ old.frames va
  va_same va v = c.frames va (λ q e. absurd (let clash : VaFrame ≡ PageFrame q = sym v ∙ sym (held_same va) ∙ e in cc))

  tables : TablesStand layout past new
  tables = record {
    entries = subst (λ all. EntriesStand layout all (held layout past) (blocked_at past)) (sym c.entries) h.entries;
    slots = record { versions = λ va i v lt. ap (λ bytes. number_at bytes (8 * i) 8) (va_same va v) ∙ h.slots.versions va i v lt };
    sealed_pages = record {
      sealed_page = λ k. subst (λ all. SealedPageAgrees layout (all k) (live layout past k) (page_of layout past k)) (sym c.sealed_pages) (h.sealed_pages.sealed_page k);
      numbered = c.next ∙ h.sealed_pages.numbered;
    };
    mapping = subst (λ table. MappingStands layout table (pte layout past)) (sym c.table) h.mapping;
    presence = record { within = λ q. present q (q == lp) refl };
    tracking = record {
      built = h.tracking.built;
      steps_are = c.track ∙ h.tracking.steps_are;
      stamped = λ f t e. ap (λ all. all f) c.stamps ∙ h.tracking.stamped f t e;
    };
    frames = record { whole = c.whole };
    one_copy = h.one_copy;
  }

  -- what the machine shows by its own tables shows the same of the history
  pub completes : Completes layout past lp place flat after old new
  completes = record {
    ends = c.ends;
    regs = c.regs;
    filled = c.filled;
    reached = subst (AreReached layout past place) (sym c.fills) (fills_reached layout past lp place is old h c.walked (old.processors lp).fills c.found cached);
    tcs = c.tcs;
    ssa = c.ssa;
    others = c.others;
    program = λ p lt. by_place p (place_of layout past p) refl lt (program p lt);
    runtime = λ p le. runtime_place p (place_of layout past p) refl le;
    count = c.count;
    queue = c.queue;
    tables = tables;
  }

module _ (layout : Layout) (lp : ℕ) (old new : State) where
  -- an instruction that completes, and is no call
  pub computed_turns : (old.processors lp).regs.mode ≡ Mode.Program → ShowsComputed layout lp old new → IsTurn layout lp old new None None
  computed_turns mode shows image past control turns within h all = at_place_of (since past lp) refl
    where
      at_place_of : (o : Option ℕ) → since past lp ≡ o → GoesTo layout image (TurnFollows layout lp past None) (at_moment past control turns old) past new None
      at_place_of None e = absurd (let f : inside past lp ≡ false = ap is_some e in cc)
      at_place_of (Some place) e =
          let shown = shows h.bytes.flat (sees layout image past control turns old lp place h e mode) in
          let now = now_program layout image past control turns old lp place h e mode in
          let stay = its_stay layout image past control turns old lp place h e mode in
          record {
            control = counted control;
            turns = new_turn lp past control ∷ turns;
            made = new_turn lp past control ∷ [];
            does = record { turns = refl; traced = follows layout lp past control now; due = λ later ok. later_less later control.count ok };
            told = refl;
            stands = ordinary_stands layout image past control turns old new lp place h.bytes.flat shown.0 h e now (phase_running layout image past control turns old lp place h e mode)
                (none_saved layout image past control turns old lp place h e mode) (comes_at layout image past control turns old lp place h e mode)
                (completes layout past lp place h.bytes.flat shown.0 old new e h.tables h.bytes.pages.program stay.fills
                (flat_whole layout image past control turns old h) shown.1);
          }
