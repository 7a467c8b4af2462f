-- What the answer to a resuming tells: nobody is inside, a context is saved and may go on, and walks found the TCS and its area.
use Rattle.std.proofs.Common.{◌≡◌, ℕ, ◌-◌, [], ◌∷◌, List, refl, ap}
use Rattle.std.proofs.lemmas.Bool.{and_parts}
use Rattle.std.specs.Prelude.{true, false, ◌&&◌, ◌||◌, not, nat_lt, Option, Some, None, ◌==◌}
use Rattle.ak_core.specs.Layout.{Layout}
use Rattle.ak_core.specs.declared.moves.Answer.TheVariants.{Ok, NoLp, Inside, TcsFault, Gp, Pending, SsaFault}
use Rattle.ak_core.specs.declared.page.Kind.TheVariants.{Write}
use Rattle.ak_model.specs.Paging.Pages.{tcs_page, ssa_page, permits}
use Rattle.ak_model.specs.Paging.Histories.{History}
use Rattle.ak_model.specs.Paging.PageTable.{pte}
use Rattle.ak_model.specs.Paging.Inside.{inside, someone_inside}
use Rattle.ak_model.specs.Paging.Walk.{is_preset, flags_allow, is_in_frame, walkable, tcs_walkable}
use Rattle.ak_model.specs.Control.ControlState.{Context, Reason, Interrupted, Cleared, Raised, Denied, Missed, Broke, Faulted, Saved, Control, cssa}
use Rattle.ak_model.specs.Control.Answers.{resume_answer}
use Rattle.ak_model.specs.Laws.Orderly.{refuses_by}
use Rattle.ak_model.proofs.Paging.SomeoneInside.{other, outside_ok}
use Rattle.ak_relation.specs.Program.Turns.{ends_by, is_last_call, is_last}
use Rattle.ak_relation.proofs.Entering.EnterFacts.{not_false, IsOpenFrame, frame_is}

-- what a resuming found, with so many areas below its own
pub record FoundAgain (layout : Layout) (past : History) (control : Control) (below : ℕ) : Type 0 where
  pub nobody : someone_inside layout past ≡ false
  pub free : control.pending ≡ false
  pub tcs : tcs_walkable layout past ≡ true
  pub tcs_frame : IsOpenFrame layout past (pte layout past (tcs_page layout)).frame (tcs_page layout)
  pub area : walkable layout past (ssa_page layout below) Write ≡ true
  pub area_frame : IsOpenFrame layout past (pte layout past (ssa_page layout below)).frame (ssa_page layout below)

-- what the answer tells
pub resume_found : (layout : Layout) (past : History) (control : Control) (lp : ℕ) → resume_answer layout past control lp ≡ Ok →
    FoundAgain layout past control (cssa control - 1)
resume_found layout past control lp h =
    let w = other (not (nat_lt lp layout.lps)) NoLp _ Ok (λ e. cc) h in
    let x = other (inside past lp) Inside _ Ok (λ e. cc) w.1 in
    let y = other (not (tcs_walkable layout past)) TcsFault _ Ok (λ e. cc) x.1 in
    let out = outside_ok layout past lp _ h in
    let g = other (cssa control == 0) Gp _ Ok (λ e. cc) out.2 in
    let p = other control.pending Pending _ Ok (λ e. cc) g.1 in
    let page = ssa_page layout (cssa control - 1) in
    let s = other (not (walkable layout past page Write)) SsaFault _ Ok (λ e. cc) p.1 in
    let tcs = not_false (tcs_walkable layout past) y.0 in
    let area = not_false (walkable layout past page Write) s.0 in
    let a = and_parts (is_preset (pte layout past (tcs_page layout)).flags) (is_in_frame layout past (tcs_page layout) (pte layout past (tcs_page layout)).frame) tcs in
    let b = and_parts (permits layout page Write) (flags_allow (pte layout past page).flags Write && is_in_frame layout past page (pte layout past page).frame) area in
    let c = and_parts (flags_allow (pte layout past page).flags Write) (is_in_frame layout past page (pte layout past page).frame) b.1 in
    record {
      nobody = out.1;
      free = p.0;
      tcs = tcs;
      tcs_frame = frame_is layout past (tcs_page layout) (pte layout past (tcs_page layout)).frame a.1;
      area = area;
      area_frame = frame_is layout past page (pte layout past page).frame c.1;
    }

-- ---- What ends the program

-- a reason that ends the program refuses a resuming
ends_refuses : (r : Reason) → refuses_by r ≡ false → ends_by r ≡ false
ends_refuses Interrupted e = refl
ends_refuses Cleared e = refl
ends_refuses (Raised v) e = absurd (cc)
ends_refuses Denied e = absurd (cc)
ends_refuses Broke e = absurd (cc)
ends_refuses (Missed c) e = refl
ends_refuses (Faulted t) e = refl

last_any : (saved : Saved) (older : List Saved) (now next : Option Context) → is_last (saved ∷ older) now ≡ is_last (saved ∷ older) next
last_any saved [] now next = refl
last_any saved (deeper ∷ older) now next = last_any deeper older now next

-- the oldest context is the last of the program just where it was, if nothing was refused
pub last_resumed : (one : Saved) (older : List Saved) → refuses_by one.reason ≡ false → is_last (one ∷ older) None ≡ is_last older (Some one.context)
last_resumed one [] e = ap (λ b. b || is_last_call (Some one.context)) (ends_refuses one.reason e)
last_resumed one (deeper ∷ older) e = last_any deeper older None (Some one.context)
