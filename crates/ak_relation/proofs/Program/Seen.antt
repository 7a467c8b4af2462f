-- Where the relation holds and a processor runs the program, it sees the program at the flat state.
use Rattle.std.proofs.Common.{◌≡◌, ℕ, ◌*◌, ◌<◌, ◌≤◌, List, [], ◌∷◌, length, ap, sym, ◌∙◌, subst, arith}
use Rattle.std.proofs.lemmas.Bool.{and_parts}
use Rattle.std.specs.Prelude.{true, ◌&&◌, Some, is_some}
use Rattle.ak_core.specs.Layout.{Layout}
use Rattle.ak_core.specs.declared.page.Kind.{Kind}
use Rattle.ak_core.specs.declared.registers.Mode.{Mode}
use Rattle.ak_model.specs.Paging.Pages.{pages, permits}
use Rattle.ak_model.specs.Paging.Histories.{History}
use Rattle.ak_model.specs.Paging.Holdings.{PageFrame, Mapping}
use Rattle.ak_model.specs.Paging.Frames.{held}
use Rattle.ak_model.specs.Paging.PageTable.{pte}
use Rattle.ak_model.specs.Paging.Inside.{since}
use Rattle.ak_model.specs.Paging.Walk.{flags_allow, is_in_frame}
use Rattle.ak_model.specs.Flat.FlatRuns.{page_bytes}
use Rattle.ak_model.specs.Control.ControlState.{Running, Program, Control}
use Rattle.ak_model.specs.Laws.Orderly.{NowFits}
use Rattle.ak_model.specs.Laws.OwedAnswers.{owing}
use Rattle.ak_model.specs.Tapes.ProgramTurns.{ProgramTurn}
use Rattle.ak_tlb.specs.Fills.{Fill}
use Rattle.ak_relation.specs.State.MachineState.{State, copy}
use Rattle.ak_pager.specs.RuntimePages.{OfCopy}
use Rattle.ak_pager.specs.Contexts.{GivesNow}
use Rattle.ak_relation.specs.Program.FlatPlaces.{Reaches}
use Rattle.ak_relation.specs.Program.Reaching.{AreReached, StaysBy, IsStaying}
use Rattle.ak_relation.specs.Relation.Stands.{runs_at, Stands}
use Rattle.ak_relation.specs.Program.Seeing.{SeenFills, Sees}
use Rattle.ak_relation.specs.Premises.EnterRows.{walk_in}
use Rattle.ak_relation.specs.Relation.Does.{at_moment}
use Rattle.ak_relation.proofs.Flat.WrittenRuns.{at_all}
use Rattle.ak_relation.proofs.Program.Completing.{empty}
use Rattle.ak_relation.proofs.Entering.EnterFacts.{frame_is}
use Rattle.ak_relation.proofs.Entering.EnterAnswers.{walk_same}
use Rattle.ak_relation.proofs.Program.ProgramTurns.{program_now, settled_at}

-- the flat state has all bytes of the program's pages
pub flat_whole : (layout : Layout) (image : List ℕ) (past : History) (control : Control) (turns : List ProgramTurn) (state : State)
    → (h : Stands layout image (at_moment past control turns state)) → 4096 * pages layout ≤ length h.bytes.flat.bytes
flat_whole layout image past control turns state h =
    let exact : length image ≡ 4096 * pages layout = h.inputs.whole in
    let whole : 4096 * pages layout ≤ length image = omega arith in
    let same : length h.bytes.flat.bytes ≡ length image = at_all layout image control.returned whole (owing control) control.count h.bytes.flat h.bytes.program in
    omega arith

module _ (layout : Layout) (image : List ℕ) (past : History) (control : Control) (turns : List ProgramTurn) (s : State) (lp place : ℕ)
    (h : Stands layout image (at_moment past control turns s)) (is : since past lp ≡ Some place) (mode : (s.processors lp).regs.mode ≡ Mode.Program) where
  within : (s.processors lp).inside ≡ true
  within = h.tables.presence.within lp ∙ ap is_some is

  -- the context is the program
  pub now_program : control.now ≡ Some Program
  now_program = program_now layout control.phase h.bytes.flat control.now (s.processors lp).regs (h.bytes.registers.given lp within) (h.laws.present.context lp (ap is_some is)) mode

  now_fits : NowFits layout control.phase control.stack (Some Program)
  now_fits = subst (NowFits layout control.phase control.stack) now_program h.laws.orderly.now

  -- in the phase Running
  pub phase_running : control.phase ≡ Running
  phase_running = now_fits.1

  -- and nothing is saved
  pub none_saved : control.stack ≡ []
  none_saved = empty control.stack now_fits.0

  -- the flat run comes to the flat state
  pub comes_at : Reaches layout image control.returned control.count h.bytes.flat
  comes_at = settled_at layout lp s s control image h.bytes.flat now_program phase_running none_saved h.bytes.program

  -- the processor's stay
  pub its_stay : IsStaying layout (runs_at layout image control) past control turns lp (s.processors lp) place
  its_stay = subst (StaysBy layout (runs_at layout image control) past control turns lp (s.processors lp)) is (h.reached.stays lp)

  in_frame : (f p : ℕ) → held layout past f ≡ PageFrame p → p < pages layout → s.frames f ≡ page_bytes h.bytes.flat p
  in_frame f p there low =
      subst (λ o. OfCopy o (λ bytes. bytes ≡ page_bytes h.bytes.flat p)) (ap (copy s) (h.tables.one_copy.placed p f there)) (h.bytes.pages.program p low)

  walked : (p : ℕ) (kind : Kind) → p < pages layout → walk_in layout s p kind ≡ true → s.frames (s.table p).frame ≡ page_bytes h.bytes.flat p
  walked p kind low found =
      let entry = pte layout past p in
      let there = sym (walk_same layout past s h.tables p kind (omega arith)) ∙ found in
      let a = and_parts (permits layout p kind) (flags_allow entry.flags kind && is_in_frame layout past p entry.frame) there in
      let b = and_parts (flags_allow entry.flags kind) (is_in_frame layout past p entry.frame) a.1 in
      let open_frame = frame_is layout past p entry.frame b.1 in
      in_frame (s.table p).frame p (ap (λ (m : Mapping). held layout past m.frame) (h.tables.mapping.mapped p (omega arith)) ∙ open_frame.holds) low

  cached : (fills : List Fill) → AreReached layout past place fills → SeenFills layout s h.bytes.flat fills
  cached [] k = tt
  cached (fill ∷ fills) k = (λ low. let own = k.0 in in_frame fill.frame fill.access.page.0 own.frame.holds low, cached fills k.1)

  -- the processor sees the program
  pub sees : Sees layout s lp h.bytes.flat
  sees = record {
    regs = subst (λ x. GivesNow layout control.phase h.bytes.flat x (s.processors lp).regs) now_program (h.bytes.registers.given lp within);
    walked = walked;
    cached = cached (s.processors lp).fills its_stay.fills;
    whole = flat_whole layout image past control turns s h;
  }
