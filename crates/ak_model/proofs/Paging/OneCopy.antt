-- In every trace, a page is in a frame exactly where its place says so, and no older handle of it can be loaded.
use Rattle.std.proofs.Common.{◌≡◌, ℕ, ◌+◌, ◌<◌, List, [], ◌∷◌, arith, refl, ap, sym, ◌∙◌, subst}
use Rattle.std.specs.Prelude.{Bool, true, false, not, ◌&&◌, if◌then◌else◌, Option, Some, None, is_some, nat_lt, ◌==◌}
use Rattle.std.specs.Bool.{then_some}
use Rattle.std.proofs.lemmas.Bool.{eqb-true, ltb-true, and_parts, not-true, not-false}
use Rattle.std.proofs.lemmas.Bool.Decides.{nat_tests}
use Rattle.ak_core.specs.Layout.{Layout}
use Rattle.ak_core.specs.declared.event.Event.{Event}
use Rattle.ak_core.specs.declared.page.Handle.{Handle}
use Rattle.ak_core.specs.declared.moves.Move.{Move}
use Rattle.ak_core.specs.declared.moves.Move.TheVariants.{ReadPte, Ewb, Eldu, Eldb, Epa, Discard, Run}
use Rattle.ak_core.specs.declared.moves.Answer.{Answer}
use Rattle.ak_core.specs.declared.moves.Answer.TheVariants.{Ok, OkHandle, InUse, NotBlocked, NotTracked, BadVa, SlotOccupied, MacFail, NoHandle}
use Rattle.ak_model.specs.Paging.Build.{slot_at_build}
use Rattle.ak_model.specs.Paging.Pages.{pages}
use Rattle.ak_model.specs.Paging.Histories.{History, Change, WritesOut, Loads, Removes, MakesVa, Discards, Exits, change}
use Rattle.ak_model.specs.Paging.Holdings.{is_page_in, Held, FreeFrame, SecsFrame, VaFrame, PageFrame, is_free, InHandle, Gone}
use Rattle.ak_model.specs.Paging.Frames.{held, held_after, blocked_at}
use Rattle.ak_model.specs.Paging.Handles.{given, given_after, page_of, page_of_after, page_after, discarded, discarded_after, live, slot, slot_after, place, place_after}
use Rattle.ak_model.specs.Paging.Tracking.{tracked}
use Rattle.ak_model.specs.Control.ControlState.{Control}
use Rattle.ak_model.specs.Paging.Views.{view_of}
use Rattle.ak_model.specs.Control.LeafRows.{if_page, has_slot, write_out_row, mac_row, load_row, va_row}
use Rattle.ak_model.specs.Control.Answers.{answer}
use Rattle.ak_model.specs.Control.Trace.{trace}
use Rattle.ak_model.specs.Laws.OneLiveCopy.{Agrees, OneCopy}
use Rattle.ak_model.proofs.Control.LeafRows.{frame_ok}
use Rattle.ak_model.proofs.Paging.SomeoneInside.{other}
use Rattle.ak_model.proofs.Paging.ChangesByAnswer.{ok_holds, handle_holds, exit_holds}
use Rattle.ak_model.proofs.Paging.LiveCopies.{loads, writes_out, removes, frees, makes_va, discards}

-- ---- After the build

some_then : (b : Bool) (i k : ℕ) → then_some b i ≡ Some k → (b ≡ true) × (i ≡ k)
some_then true i k h = (refl, cc)
some_then false i k h = absurd (cc)

module _ (layout : Layout) where
  built_slot : (va i k : ℕ) → slot_at_build layout va i ≡ Some k → (va ≡ 1) × (i ≡ k) × (k < pages layout)
  built_slot va i k h =
      let a = some_then ((va == 1) && nat_lt i (pages layout)) i k h in
      let b = and_parts (va == 1) (nat_lt i (pages layout)) a.0 in
      let e = eqb-true va 1 b.0 in let l = ltb-true i (pages layout) b.1 in
      let below : k < pages layout = subst (λ x. x < pages layout) a.1 l in
      (e, a.1, below)

  built_one : OneCopy layout []
  built_one = record {
    framed = λ p f h. grind (arith, nat_tests);
    placed = λ p f h. grind (arith, nat_tests);
    named = λ p k h. grind (arith, nat_tests);
    known = λ p k h. grind (arith, nat_tests);
    kept = λ p k h. refl;
    slotted = λ va i k h. (built_slot va i k h).2;
    newest = λ va i k h d. let l = (built_slot va i k h).2 in grind (arith, nat_tests);
    same_va = λ va i wa j k h h'. (built_slot va i k h).0 ∙ sym (built_slot wa j k h').0;
    same_slot = λ va i wa j k h h'. (built_slot va i k h).1 ∙ sym (built_slot wa j k h').1;
    gone = λ k h. absurd (cc);
  }

  -- ---- What an answer says of the change

  abbrev pub Fair : History → Change → Type 0
  Fair past (Loads f k p va i blocked) = (held layout past f ≡ FreeFrame) × (slot layout past va i ≡ Some k) × (discarded past k ≡ false) × (page_of layout past k ≡ p)
  Fair past (WritesOut f va i k) = ((q : ℕ) × (held layout past f ≡ PageFrame q)) × (k ≡ given layout past)
  Fair past (MakesVa f) = held layout past f ≡ FreeFrame
  Fair past (Discards k) = k < given layout past
  Fair past _ = Unit {0}

  free_if : (frame : Held) → is_free frame ≡ true → frame ≡ FreeFrame
  free_if FreeFrame h = refl
  free_if SecsFrame h = absurd (cc)
  free_if VaFrame h = absurd (cc)
  free_if (PageFrame p) h = absurd (cc)

  live_kept : (past : History) (k : ℕ) → live layout past k ≡ true → (k < given layout past) × (discarded past k ≡ false)
  live_kept past k h =
      let a = and_parts (nat_lt k (given layout past)) (not (discarded past k)) h in
      (ltb-true k (given layout past) a.0, not-true (discarded past k) a.1)

  mac_kept : (past : History) (o : Option ℕ) (k p : ℕ) → mac_row (view_of layout past) o k p ≡ Ok → (o ≡ Some k) × (page_of layout past k ≡ p)
  mac_kept past None k p h = absurd (cc)
  mac_kept past (Some j) k p h = both ((j == k) && (page_of layout past k == p)) refl h
    where
      both : (b : Bool) → ((j == k) && (page_of layout past k == p)) ≡ b → (if b then Ok else MacFail) ≡ Ok → (Some j ≡ Some k) × (page_of layout past k ≡ p)
      both true e h =
          let a = and_parts (j == k) (page_of layout past k == p) e in
          (ap Some (eqb-true j k a.0), eqb-true (page_of layout past k) p a.1)
      both false e h = absurd (cc)

  pub load_fair : (past : History) (f k p va i : ℕ) (blocked : Bool) → load_row (view_of layout past) f k p va i ≡ Ok → Fair past (Loads f k p va i blocked)
  load_fair past f k p va i blocked h =
      let a = frame_ok (view_of layout past) f _ Ok (λ e. cc) (λ e. cc) h in
      let b = other (not (is_free (held layout past f))) InUse _ Ok (λ e. cc) a in
      let c = other (not (has_slot (view_of layout past) va i)) BadVa _ Ok (λ e. cc) b.1 in
      let d = other (not (live layout past k)) NoHandle _ Ok (λ e. cc) c.1 in
      let m = mac_kept past (slot layout past va i) k p d.1 in
      let l = live_kept past k (not-false (live layout past k) d.0) in
      (free_if (held layout past f) (not-false (is_free (held layout past f)) b.0), m.0, l.1, m.1)

  pub page_if : (frame : Held) (a : Answer) (k : Handle) → if_page frame a ≡ OkHandle k → ((q : ℕ) × (frame ≡ PageFrame q)) × (a ≡ OkHandle k)
  page_if FreeFrame a k h = absurd (cc)
  page_if SecsFrame a k h = absurd (cc)
  page_if VaFrame a k h = absurd (cc)
  page_if (PageFrame q) a k h = ((q, refl), h)

  out_fair : (past : History) (f va i : ℕ) (k : Handle) → write_out_row (view_of layout past) f va i ≡ OkHandle k → Fair past (WritesOut f va i k.0)
  out_fair past f va i k h =
      let a = frame_ok (view_of layout past) f _ (OkHandle k) (λ e. cc) (λ e. cc) h in
      let b = page_if (held layout past f) _ k a in
      let c = other (not (is_some (blocked_at past f))) NotBlocked _ (OkHandle k) (λ e. cc) b.1 in
      let d = other (not (tracked layout past f)) NotTracked _ (OkHandle k) (λ e. cc) c.1 in
      let e = other (not (has_slot (view_of layout past) va i)) BadVa _ (OkHandle k) (λ e. cc) d.1 in
      let g = other (is_some (slot layout past va i)) SlotOccupied _ (OkHandle k) (λ e. cc) e.1 in
      let same : (let next : Handle = record { 0 = given layout past } in next) ≡ k = cc in
      (b.0, sym (ap (λ x. x.0) same))

  pub va_fair : (past : History) (f : ℕ) → va_row (view_of layout past) f ≡ Ok → held layout past f ≡ FreeFrame
  va_fair past f h = freed (is_free (held layout past f)) refl (frame_ok (view_of layout past) f _ Ok (λ e. cc) (λ e. cc) h)
    where
      freed : (b : Bool) → is_free (held layout past f) ≡ b → (if b then Ok else InUse) ≡ Ok → held layout past f ≡ FreeFrame
      freed true e h = free_if (held layout past f) e
      freed false e h = absurd (cc)

  discard_fair : (past : History) (k : ℕ) → (if live layout past k then Ok else NoHandle) ≡ Ok → k < given layout past
  discard_fair past k h = alive (live layout past k) refl h
    where
      alive : (b : Bool) → live layout past k ≡ b → (if b then Ok else NoHandle) ≡ Ok → k < given layout past
      alive true e h = (live_kept past k e).0
      alive false e h = absurd (cc)

  fair : (past : History) (control : Control) (m : Move) → Fair past (change m (answer layout past control m))
  fair past control (ReadPte p) = tt
  fair past control (Ewb f va i) = handle_holds (Fair past) tt (answer layout past control (Ewb f va i)) _ (out_fair past f.0 va.0 i)
  fair past control (Eldu f k p va i) = ok_holds (Fair past) tt (answer layout past control (Eldu f k p va i)) _ (load_fair past f.0 k.0 p.0 va.0 i false)
  fair past control (Eldb f k p va i) = ok_holds (Fair past) tt (answer layout past control (Eldb f k p va i)) _ (load_fair past f.0 k.0 p.0 va.0 i true)
  fair past control (Epa f) = ok_holds (Fair past) tt (answer layout past control (Epa f)) _ (va_fair past f.0)
  fair past control (Discard k) = ok_holds (Fair past) tt (answer layout past control (Discard k)) _ (discard_fair past k.0)
  fair past control (Run lp n) = exit_holds (Fair past) tt (answer layout past control (Run lp n)) (λ exit. Exits lp.0 exit) (λ exit. tt)
  fair past control m = ok_holds (Fair past) tt (answer layout past control m) _ (λ h. tt)

  -- ---- After a fair change

  abbrev After : History → Change → Type 0
  After past c = Agrees (λ f. held_after c f (held layout past f)) (λ p. place_after layout past c p (place layout past p)) (λ va i. slot_after c va i (slot layout past va i)) (given_after c (given layout past)) (λ j. page_of_after layout past c j (page_of layout past j)) (λ j. discarded_after c j (discarded past j))

  after_removal : (past : History) (old : OneCopy layout past) (f : ℕ) (frame : Held) → held layout past f ≡ frame → Agrees (λ g. if g == f then FreeFrame else held layout past g) (λ p. if is_page_in frame p then Gone else place layout past p) (slot layout past) (given layout past) (page_of layout past) (discarded past)
  after_removal past old f FreeFrame e = frees _ _ _ _ _ _ old f (λ q h. cc)
  after_removal past old f SecsFrame e = frees _ _ _ _ _ _ old f (λ q h. cc)
  after_removal past old f VaFrame e = frees _ _ _ _ _ _ old f (λ q h. cc)
  after_removal past old f (PageFrame q) e = removes _ _ _ _ _ _ old f q e

  after_write : (past : History) (old : OneCopy layout past) (f q va i : ℕ) (frame : Held) (k : ℕ) → held layout past f ≡ PageFrame q → frame ≡ PageFrame q → k ≡ given layout past → Agrees (λ g. if g == f then FreeFrame else held layout past g) (λ p. if is_page_in frame p then InHandle k else place layout past p) (λ wa j. if (wa == va) && (j == i) then Some k else slot layout past wa j) (given layout past + 1) (λ j. page_after frame k j (page_of layout past j)) (discarded past)
  after_write past old f q va i frame k e d g =
      subst (λ x. Agrees (λ g. if g == f then FreeFrame else held layout past g) (λ p. if is_page_in x p then InHandle k else place layout past p) (λ wa j. if (wa == va) && (j == i) then Some k else slot layout past wa j) (given layout past + 1) (λ j. page_after x k j (page_of layout past j)) (discarded past)) (sym d)
      (subst (λ n. Agrees (λ g. if g == f then FreeFrame else held layout past g) (λ p. if p == q then InHandle n else place layout past p) (λ wa j. if (wa == va) && (j == i) then Some n else slot layout past wa j) (given layout past + 1) (λ j. if j == n then q else page_of layout past j) (discarded past)) (sym g)
      (writes_out _ _ _ _ _ _ old f q va i e))

  one_more : (past : History) → OneCopy layout past → (c : Change) → Fair past c → After past c
  one_more past old (Loads f k q va i blocked) h = loads _ _ _ _ _ _ old f k q va i h.0 h.1 h.2 h.3
  one_more past old (WritesOut f va i k) h = after_write past old f h.0.0 va i (held layout past f) k h.0.1 h.0.1 h.1
  one_more past old (Removes f) h = after_removal past old f (held layout past f) refl
  one_more past old (MakesVa f) h = makes_va _ _ _ _ _ _ old f h
  one_more past old (Discards k) h = discards _ _ _ _ _ _ old k h
  one_more past old _ h = old

  pub one_copy : (tape : List Event) (moves : List Move) → OneCopy layout (trace layout tape moves).past
  one_copy tape [] = built_one
  one_copy tape (m ∷ moves) =
      let before = trace layout tape moves in
      one_more before.past (one_copy tape moves) (change m (answer layout before.past before.control m)) (fair before.past before.control m)
