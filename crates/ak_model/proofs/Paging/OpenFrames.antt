-- No leaf takes a frame that has been open since a processor entered that is inside still.
use Rattle.std.proofs.Common.{◌≡◌, ℕ, zero, suc, ◌+◌, ◌<◌, refl, ap, sym, ◌∙◌, arith}
use Rattle.std.proofs.lemmas.Bool.{eqb-true}
use Rattle.std.specs.Prelude.{Bool, true, false, ◌||◌, not, Option, Some, None, is_some, ◌==◌, if◌then◌else◌}
use Rattle.std.specs.List.{list_any, range_with_len}
use Rattle.ak_core.specs.Layout.{Layout}
use Rattle.ak_core.specs.declared.page.Handle.{Handle}
use Rattle.ak_core.specs.declared.moves.Move.{Move}
use Rattle.ak_core.specs.declared.moves.Move.TheVariants.{SetPte, ReadPte, Eblock, Etrack, Ewb, Eldu, Eldb, Eremove, Epa, Discard, Eenter, Eresume, Run, Interrupt}
use Rattle.ak_core.specs.declared.moves.Answer.{Answer}
use Rattle.ak_core.specs.declared.moves.Answer.TheVariants.{Ok, OkHandle, InUse, NotBlocked, NotTracked}
use Rattle.ak_model.specs.Paging.Histories.{History, Change, Exits, change, if_ok, if_handle}
use Rattle.ak_model.specs.Paging.Holdings.{Held, FreeFrame, SecsFrame, VaFrame, PageFrame, is_free}
use Rattle.ak_model.specs.Paging.Frames.{held, blocked_at}
use Rattle.ak_model.specs.Paging.Inside.{since, inside, someone_inside}
use Rattle.ak_model.specs.Paging.Tracking.{cycles, over_after, tracked}
use Rattle.ak_model.specs.Control.ControlState.{Control}
use Rattle.ak_model.specs.Laws.Presence.{IsPresent}
use Rattle.ak_model.specs.Control.LeafRows.{if_page, write_out_row, remove_by_row, remove_row, leaf_row, is_leaf}
use Rattle.ak_model.specs.Control.Answers.{answer}
use Rattle.ak_model.proofs.Paging.ChangesByAnswer.{exit_holds}
use Rattle.ak_model.proofs.Control.LeafRows.{frame_ok}
use Rattle.ak_model.proofs.Paging.SomeoneInside.{other}
use Rattle.ak_model.specs.Paging.Views.{view_of}
use Rattle.ak_model.specs.Laws.OpenFrames.{IsLate, HoldsSince, takes, KeepsOpen}
use Rattle.ak_model.proofs.Paging.WaitingFor.{not_tracked_since}

-- ---- A processor inside is one that there is

some_of_range : (test : ℕ → Bool) (n a : ℕ) → list_any test (range_with_len a n) ≡ true → (q : ℕ) × (q < a + n) × (test q ≡ true)
some_of_range test zero a h = absurd (cc)
some_of_range test (suc n) a h = by_first (some_of_range test n (a + 1)) (test a) refl h
  where
    by_first : (list_any test (range_with_len (a + 1) n) ≡ true → (q : ℕ) × (q < a + 1 + n) × (test q ≡ true)) → (b : Bool) → test a ≡ b →
        (b || list_any test (range_with_len (a + 1) n)) ≡ true → (q : ℕ) × (q < a + suc n) × (test q ≡ true)
    by_first rest true e h = (a, omega arith, e)
    by_first rest false e h = let r = rest h in let low = r.1 in (r.0, omega arith, r.2)

-- a processor that is inside is one of the layout's, and so somebody is inside
pub record IsKnown (layout : Layout) (past : History) : Type 0 where
  pub low : (lp : ℕ) → inside past lp ≡ true → lp < layout.lps
  pub someone : (lp : ℕ) → inside past lp ≡ true → someone_inside layout past ≡ true

-- one processor at most is inside, so it is known
pub known-present : (layout : Layout) (past : History) (control : Control) → IsPresent layout (record { past = past; control = control }) → IsKnown layout past
known-present layout past control h = record {
  low = λ lp i.
      let q = some_of_range (inside past) layout.lps 0 (h.someone (h.context lp i)) in
      let e = h.alone lp q.0 i q.2 in let low = q.1 in omega arith;
  someone = λ lp i. h.someone (h.context lp i);
}

-- ---- What rows say

free_ok : (h : Held) (x : Answer) → (if not (is_free h) then InUse else x) ≡ Ok → h ≡ FreeFrame
free_ok FreeFrame x e = refl
free_ok SecsFrame x e = absurd (cc)
free_ok VaFrame x e = absurd (cc)
free_ok (PageFrame p) x e = absurd (cc)

va_free : (h : Held) → (if is_free h then Ok else InUse) ≡ Ok → h ≡ FreeFrame
va_free FreeFrame e = refl
va_free SecsFrame e = absurd (cc)
va_free VaFrame e = absurd (cc)
va_free (PageFrame p) e = absurd (cc)

by_ok : (a : Answer) (c : Change) (f : ℕ) → (a ≡ Ok → takes c f ≡ false) → takes (if_ok a c) f ≡ false
by_ok Ok c f h = h refl
by_ok _ c f h = refl

by_handle : (a : Answer) (c : ℕ → Change) (f : ℕ) → ((k : Handle) → a ≡ OkHandle k → takes (c k.0) f ≡ false) → takes (if_handle a c) f ≡ false
by_handle (OkHandle k) c f h = h k refl
by_handle _ c f h = refl

-- two frames that hold different things are two
apart : (held : ℕ → Held) (f g p : ℕ) → held f ≡ PageFrame p → (held g ≡ PageFrame p → ⊥) → (f == g) ≡ false
apart held f g p is not_so = by_test (f == g) refl
  where
    by_test : (b : Bool) → (f == g) ≡ b → b ≡ false
    by_test false e = refl
    by_test true e = absurd (not_so (ap held (sym (eqb-true f g e)) ∙ is))

in_page : (h : Held) (x : Answer) (k : Handle) → if_page h x ≡ OkHandle k → x ≡ OkHandle k
in_page (PageFrame p) x k e = e
in_page FreeFrame x k e = absurd (cc)
in_page SecsFrame x k e = absurd (cc)
in_page VaFrame x k e = absurd (cc)

-- ---- The law

module _ (layout : Layout) (past : History) (known : IsKnown layout past) (lp place f p : ℕ) (is : since past lp ≡ Some place) (open_since : HoldsSince layout past place f p) where
  within : inside past lp ≡ true
  within = ap is_some is

  free_apart : (g : ℕ) → held layout past g ≡ FreeFrame → (f == g) ≡ false
  free_apart g free = apart (held layout past) f g p open_since.holds (λ h. let e = sym free ∙ h in cc)

  untracked : (o : Option ℕ) → blocked_at past f ≡ o → IsLate place o → over_after o (cycles layout past) ≡ false
  untracked None e late = refl
  untracked (Some block) e late = not_tracked_since layout lp (known.low lp within) past place block is late

  -- what is written out was tracked
  ewb_apart : (g : ℕ) → tracked layout past g ≡ true → (f == g) ≡ false
  ewb_apart g t = by_test (f == g) refl
    where
      by_test : (b : Bool) → (f == g) ≡ b → b ≡ false
      by_test false e = refl
      by_test true e = absurd (let u = untracked (blocked_at past f) refl open_since.late in let v : tracked layout past f ≡ true = ap (tracked layout past) (eqb-true f g e) ∙ t in cc)

  ewb_tracked : (g va i : ℕ) (k : Handle) → write_out_row (view_of layout past) g va i ≡ OkHandle k → tracked layout past g ≡ true
  ewb_tracked g va i k h =
      let row = in_page (held layout past g) _ k (frame_ok (view_of layout past) g _ (OkHandle k) (λ e. cc) (λ e. cc) h) in
      let blocked = (other (not (is_some (blocked_at past g))) NotBlocked _ (OkHandle k) (λ e. cc) row).1 in
      not_false (tracked layout past g) (other (not (tracked layout past g)) NotTracked _ (OkHandle k) (λ e. cc) blocked).0
    where
      not_false : (b : Bool) → not b ≡ false → b ≡ true
      not_false true e = refl
      not_false false e = absurd (cc)

  -- a page is removed where nobody is inside
  removed_apart : (g : ℕ) → remove_row (view_of layout past) g ≡ Ok → (f == g) ≡ false
  removed_apart g h =
      let row = frame_ok (view_of layout past) g _ Ok (λ e. cc) (λ e. cc) h in
      let active = known.someone lp within in
      apart (held layout past) f g p open_since.holds (λ holds. active_page (someone_inside layout past) (held layout past g) active holds row)
    where
      active_page : (b : Bool) (k : Held) → b ≡ true → k ≡ PageFrame p → remove_by_row b k ≡ Ok → ⊥
      active_page b FreeFrame t holds e = cc
      active_page b SecsFrame t holds e = cc
      active_page b VaFrame t holds e = cc
      active_page true (PageFrame q) t holds e = cc
      active_page false (PageFrame q) t holds e = cc

  leaf_apart : (m : Move) (a : Answer) → is_leaf m ≡ true → leaf_row (view_of layout past) m ≡ a → takes (change m a) f ≡ false
  leaf_apart (Eblock g) a leaf row = by_ok a _ f (λ e. refl)
  leaf_apart Etrack a leaf row = by_ok a _ f (λ e. refl)
  leaf_apart (Discard k) a leaf row = by_ok a _ f (λ e. refl)
  leaf_apart (Ewb g va i) a leaf row = by_handle a _ f (λ k e. ewb_apart g.0 (ewb_tracked g.0 va.0 i k (row ∙ e)))
  leaf_apart (Eldu g k q va i) a leaf row =
      by_ok a _ f (λ e. free_apart g.0 (free_ok (held layout past g.0) _ (frame_ok (view_of layout past) g.0 _ Ok (λ e. cc) (λ e. cc) (row ∙ e))))
  leaf_apart (Eldb g k q va i) a leaf row =
      by_ok a _ f (λ e. free_apart g.0 (free_ok (held layout past g.0) _ (frame_ok (view_of layout past) g.0 _ Ok (λ e. cc) (λ e. cc) (row ∙ e))))
  leaf_apart (Epa g) a leaf row =
      by_ok a _ f (λ e. free_apart g.0 (va_free (held layout past g.0) (frame_ok (view_of layout past) g.0 _ Ok (λ e. cc) (λ e. cc) (row ∙ e))))
  leaf_apart (Eremove g) a leaf row = by_ok a _ f (λ e. removed_apart g.0 (row ∙ e))
  leaf_apart (SetPte q g flags) a leaf row = absurd (cc)
  leaf_apart (ReadPte q) a leaf row = absurd (cc)
  leaf_apart (Eenter lp v) a leaf row = absurd (cc)
  leaf_apart (Eresume lp) a leaf row = absurd (cc)
  leaf_apart (Run lp n) a leaf row = absurd (cc)
  leaf_apart (Interrupt lp) a leaf row = absurd (cc)

-- a leaf takes no frame that has been open since
pub keeps_open : (layout : Layout) (past : History) → IsKnown layout past → (m : Move) (a : Answer) → is_leaf m ≡ true →
    leaf_row (view_of layout past) m ≡ a → KeepsOpen layout past (change m a)
keeps_open layout past known m a leaf row lp place f p is open_since = leaf_apart layout past known lp place f p is open_since m a leaf row

-- nor does any move
pub moves_keep_open : (layout : Layout) (past : History) (control : Control) → IsKnown layout past → (m : Move) → KeepsOpen layout past (change m (answer layout past control m))
moves_keep_open layout past control known (SetPte q g flags) lp place f p is open_since = by_ok (answer layout past control (SetPte q g flags)) _ f (λ e. refl)
moves_keep_open layout past control known (ReadPte q) lp place f p is open_since = refl
moves_keep_open layout past control known (Eenter q v) lp place f p is open_since = by_ok (answer layout past control (Eenter q v)) _ f (λ e. refl)
moves_keep_open layout past control known (Eresume q) lp place f p is open_since = by_ok (answer layout past control (Eresume q)) _ f (λ e. refl)
moves_keep_open layout past control known (Interrupt q) lp place f p is open_since = by_ok (answer layout past control (Interrupt q)) _ f (λ e. refl)
moves_keep_open layout past control known (Run q n) lp place f p is open_since =
    exit_holds (λ c. takes c f ≡ false) refl (answer layout past control (Run q n)) (λ exit. Exits q.0 exit) (λ exit. refl)
moves_keep_open layout past control known m lp place f p is open_since = keeps_open layout past known m (answer layout past control m) refl refl lp place f p is open_since
