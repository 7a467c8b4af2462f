-- What the answer to an entering tells: nobody is inside, and walks found the TCS and the area.
use Rattle.std.proofs.Common.{◌≡◌, ℕ, refl, ap, sym}
use Rattle.std.proofs.lemmas.Bool.{eqb-true, and_parts}
use Rattle.std.specs.Prelude.{Bool, true, false, ◌&&◌, not, nat_lt, Option, Some, None, is_none, ◌==◌}
use Rattle.ak_core.specs.Layout.{Layout}
use Rattle.ak_core.specs.declared.moves.Answer.TheVariants.{Ok, NoLp, Inside, TcsFault, Gp, SsaFault}
use Rattle.ak_core.specs.declared.page.Kind.TheVariants.{Write}
use Rattle.ak_model.specs.Paging.Pages.{tcs_page, ssa_page, permits}
use Rattle.ak_model.specs.Paging.Histories.{History}
use Rattle.ak_model.specs.Paging.Holdings.{Held, PageFrame, FreeFrame, SecsFrame, VaFrame, is_page_in}
use Rattle.ak_model.specs.Paging.Frames.{held, blocked_at}
use Rattle.ak_model.specs.Paging.PageTable.{pte}
use Rattle.ak_model.specs.Paging.Inside.{inside, someone_inside}
use Rattle.ak_model.specs.Paging.Walk.{is_preset, flags_allow, is_in_frame, walkable, tcs_walkable}
use Rattle.ak_model.specs.Control.ControlState.{Control, cssa}
use Rattle.ak_model.specs.Control.Answers.{enter_answer}
use Rattle.ak_model.proofs.Paging.SomeoneInside.{other, outside_ok}

-- a refusal that did not hold
pub not_false : (b : Bool) → not b ≡ false → b ≡ true
not_false true h = refl
not_false false h = absurd (cc)

-- a frame that holds the page
pub holds_is : (h : Held) (p : ℕ) → is_page_in h p ≡ true → h ≡ PageFrame p
holds_is (PageFrame q) p e = ap PageFrame (sym (eqb-true p q e))
holds_is FreeFrame p e = absurd (cc)
holds_is SecsFrame p e = absurd (cc)
holds_is VaFrame p e = absurd (cc)

none_is : (o : Option ℕ) → is_none o ≡ true → o ≡ None
none_is None e = refl
none_is (Some x) e = absurd (cc)

-- the frame holds the page, and is open
pub record IsOpenFrame (layout : Layout) (past : History) (f p : ℕ) : Type 0 where
  pub holds : held layout past f ≡ PageFrame p
  pub unblocked : blocked_at past f ≡ None

-- a frame that a walk found
pub frame_is : (layout : Layout) (past : History) (p f : ℕ) → is_in_frame layout past p f ≡ true → IsOpenFrame layout past f p
frame_is layout past p f h =
    let a = and_parts (is_page_in (held layout past f) p) (is_none (blocked_at past f)) h in
    record { holds = holds_is (held layout past f) p a.0; unblocked = none_is (blocked_at past f) a.1 }

-- what an entering found
pub record Found (layout : Layout) (past : History) (control : Control) (lp : ℕ) : Type 0 where
  pub known : nat_lt lp layout.lps ≡ true
  pub outside : inside past lp ≡ false
  pub nobody : someone_inside layout past ≡ false
  pub tcs : tcs_walkable layout past ≡ true
  pub tcs_frame : IsOpenFrame layout past (pte layout past (tcs_page layout)).frame (tcs_page layout)
  pub area : walkable layout past (ssa_page layout (cssa control)) Write ≡ true
  pub area_frame : IsOpenFrame layout past (pte layout past (ssa_page layout (cssa control))).frame (ssa_page layout (cssa control))

-- what the answer tells
pub enter_found : (layout : Layout) (past : History) (control : Control) (lp : ℕ) → enter_answer layout past control lp ≡ Ok →
    Found layout past control lp
enter_found layout past control lp h =
    let w = other (not (nat_lt lp layout.lps)) NoLp _ Ok (λ e. cc) h in
    let x = other (inside past lp) Inside _ Ok (λ e. cc) w.1 in
    let y = other (not (tcs_walkable layout past)) TcsFault _ Ok (λ e. cc) x.1 in
    let out = outside_ok layout past lp _ h in
    let g = other (cssa control == 3) Gp _ Ok (λ e. cc) out.2 in
    let s = other (not (walkable layout past (ssa_page layout (cssa control)) Write)) SsaFault _ Ok (λ e. cc) g.1 in
    let tcs = not_false (tcs_walkable layout past) y.0 in
    let area = not_false (walkable layout past (ssa_page layout (cssa control)) Write) s.0 in
    let a = and_parts (is_preset (pte layout past (tcs_page layout)).flags) (is_in_frame layout past (tcs_page layout) (pte layout past (tcs_page layout)).frame) tcs in
    let b = and_parts (permits layout (ssa_page layout (cssa control)) Write) (flags_allow (pte layout past (ssa_page layout (cssa control))).flags Write && is_in_frame layout past (ssa_page layout (cssa control)) (pte layout past (ssa_page layout (cssa control))).frame) area in
    let c = and_parts (flags_allow (pte layout past (ssa_page layout (cssa control))).flags Write) (is_in_frame layout past (ssa_page layout (cssa control)) (pte layout past (ssa_page layout (cssa control))).frame) b.1 in
    record {
      known = not_false (nat_lt lp layout.lps) w.0;
      outside = x.0;
      nobody = out.1;
      tcs = tcs;
      tcs_frame = frame_is layout past (tcs_page layout) (pte layout past (tcs_page layout)).frame a.1;
      area = area;
      area_frame = frame_is layout past (ssa_page layout (cssa control)) (pte layout past (ssa_page layout (cssa control))).frame c.1;
    }
