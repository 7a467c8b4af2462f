-- A write-out: the frame's page goes on under the handle, with its bytes, and all else stays.
use Rattle.std.proofs.Common.{◌≡◌, inl, inr, ℕ, ◌+◌, ◌*◌, ◌<◌, refl, ap, sym, ◌∙◌, subst, arith}
use Rattle.std.proofs.lemmas.Bool.{eqb-true, eqb-false}
use Rattle.std.proofs.lemmas.Bool.Decides.{nat_tests, eqb_tells}
use Rattle.std.specs.Prelude.{Bool, true, false, ◌&&◌, not, nat_lt, List, option_map, Option, Some, None, ◌==◌, if◌then◌else◌}
use Rattle.ak_core.specs.Layout.{Layout}
use Rattle.ak_core.specs.declared.page.Entry.{Entry}
use Rattle.ak_model.specs.Paging.Histories.{History}
use Rattle.ak_model.specs.Paging.Holdings.{Held, FreeFrame, VaFrame, PageFrame, is_page_in, Place, InFrame, InHandle, Gone}
use Rattle.ak_model.specs.Paging.Frames.{held, blocked_at}
use Rattle.ak_model.specs.Paging.Handles.{given, page_of, page_after, discarded, slot, place}
use Rattle.ak_model.specs.Laws.OneLiveCopy.{Agrees}
use Rattle.ak_model.proofs.Paging.LiveCopies.{writes_out}
use Rattle.ak_epcm.specs.Entries.{entry_at}
use Rattle.ak_walk.specs.Agrees.{EntryAgrees, HoldsPage}
use Rattle.ak_relation.specs.State.TrackSteps.{stamp_of}
use Rattle.ak_relation.specs.State.MachineState.{State, copy}
use Rattle.ak_relation.specs.State.Tables.{IsSealedPageOf, SealedPageAgrees, TablesStand}
use Rattle.ak_model.specs.Flat.Instructions.{number_at}
use Rattle.ak_sealed.specs.SealedPages.{version, sealed_page_of}
use Rattle.ak_relation.specs.State.TableChanges.{FreesEntry}
use Rattle.ak_relation.specs.Premises.WriteOut.{WritesOutTo}

-- the entry is free, or it is the same
abbrev pub FreedOr : Bool → Entry → Entry → Type 0
FreedOr true old new = new.valid ≡ false
FreedOr false old new = new ≡ old

pub freed_or : (old new : List Entry) (f : ℕ) → FreesEntry old new f → (g : ℕ) (b : Bool) → (g == f) ≡ b → FreedOr b (entry_at old g) (entry_at new g)
freed_or old new f h g true e = subst (λ k. (entry_at new k).valid ≡ false) (sym (eqb-true g f e)) h.freed
freed_or old new f h g false e = h.others g e

-- the entry of the frame is free
pub freed_entry : (layout : Layout) (b : Bool) (old new : Entry) (h : Held) (o : Option ℕ) → FreedOr b old new → EntryAgrees layout old h o →
    EntryAgrees layout new (if b then FreeFrame else h) (if b then None else o)
freed_entry layout true old new h o sets agrees = sets
freed_entry layout false old new h o sets agrees = subst (λ (e : Entry). EntryAgrees layout e h o) (sym sets) agrees

-- a VA frame is another one
pub still_va : (b : Bool) (h : Held) → (if b then FreeFrame else h) ≡ VaFrame → (b ≡ false) × (h ≡ VaFrame)
still_va true h e = absurd (cc)
still_va false h e = (refl, e)

next_live : (j n : ℕ) → (j == n) ≡ false → nat_lt j (n + 1) ≡ nat_lt j n
next_live j n h = grind (arith, nat_tests)

differs : (held : ℕ → Held) (g f : ℕ) (h k : Held) → held g ≡ h → held f ≡ k → (h ≡ k → ⊥) → (g == f) ≡ false
differs held g f h k e d other =
    elim (eqb_tells g f) [
      | inl is ↦ absurd (other (sym e ∙ ap held is.1 ∙ d))
      | inr no_so ↦ no_so.0
    ]

module _ (layout : Layout) (past : History) (old new : State) (f va i q : ℕ) (h : TablesStand layout past old) (w : WritesOutTo old new f va i)
    (is : held layout past f ≡ PageFrame q) (in_va : held layout past va ≡ VaFrame) where
  numbered : old.next ≡ given layout past
  numbered = h.sealed_pages.numbered

  -- ---- Slots

  -- a slot
  pub slot_stands : (wa j : ℕ) (b c : Bool) → (wa == va) ≡ b → (j == i) ≡ c → (wa == f) ≡ false → held layout past wa ≡ VaFrame → j < 512 →
      number_at (new.frames wa) (8 * j) 8 ≡ version (if b && c then Some (given layout past) else slot layout past wa j)
  slot_stands wa j true true e d free v lt =
      ap (λ g. number_at (new.frames g) (8 * j) 8) (eqb-true wa va e) ∙ ap (λ k. number_at (new.frames va) (8 * k) 8) (eqb-true j i d) ∙ w.slot ∙ ap (λ n. n + 1) numbered
  slot_stands wa j true false e d free v lt =
      ap (λ g. number_at (new.frames g) (8 * j) 8) (eqb-true wa va e) ∙ w.slots j d lt
      ∙ sym (ap (λ g. number_at (old.frames g) (8 * j) 8) (eqb-true wa va e)) ∙ h.slots.versions wa j v lt
  slot_stands wa j false c e d free v lt = ap (λ bytes. number_at bytes (8 * j) 8) (w.others wa free e) ∙ h.slots.versions wa j v lt

  -- ---- Sealed pages

  fresh : (b : Bool) → discarded past (given layout past) ≡ b → b ≡ false
  fresh false e = refl
  fresh true e = absurd (let lt = h.one_copy.gone (given layout past) e in omega arith)

  new_sealed_page : IsSealedPageOf layout (sealed_page_of (entry_at old.entries f) (old.frames f)) q
  new_sealed_page =
      let page : HoldsPage layout (entry_at old.entries f) q (blocked_at past f) = subst (λ k. EntryAgrees layout (entry_at old.entries f) k (blocked_at past f)) is (h.entries.entry f) in
      record { page = page.page; kind = page.kind; readable = page.readable; writable = page.writable; executable = page.executable; whole = h.frames.whole f }

  -- the sealed page of a handle
  pub sealed_page_stands : (j : ℕ) (b : Bool) → (j == given layout past) ≡ b → new.sealed_pages j ≡ (if b then Some (sealed_page_of (entry_at old.entries f) (old.frames f)) else old.sealed_pages j) →
      SealedPageAgrees layout (new.sealed_pages j) (nat_lt j (given layout past + 1) && not (discarded past j)) (if b then q else page_of layout past j)
  sealed_page_stands j true e sets =
      subst (λ o. SealedPageAgrees layout o (nat_lt j (given layout past + 1) && not (discarded past j)) q) (sym sets)
      (alive, new_sealed_page)
    where
      alive : (nat_lt j (given layout past + 1) && not (discarded past j)) ≡ true
      alive =
          let k = eqb-true j (given layout past) e in
          let low : nat_lt j (given layout past + 1) ≡ true = grind (arith, nat_tests) in
          let kept : discarded past j ≡ false = ap (discarded past) k ∙ fresh (discarded past (given layout past)) refl in
          rw (low, kept) refl
  sealed_page_stands j false e sets =
      subst (λ o. SealedPageAgrees layout o (nat_lt j (given layout past + 1) && not (discarded past j)) (page_of layout past j)) (sym sets)
      (subst (λ b. SealedPageAgrees layout (old.sealed_pages j) (b && not (discarded past j)) (page_of layout past j)) (sym (next_live j (given layout past) e)) (h.sealed_pages.sealed_page j))

  -- all sealed pages
  pub sealed_pages_are : (j : ℕ) → new.sealed_pages j ≡ (if j == given layout past then Some (sealed_page_of (entry_at old.entries f) (old.frames f)) else old.sealed_pages j)
  sealed_pages_are j = subst (λ n. new.sealed_pages j ≡ (if j == n then Some (sealed_page_of (entry_at old.entries f) (old.frames f)) else old.sealed_pages j)) numbered (w.sealed_page j)

  -- the page of a handle
  pub page_is : (j : ℕ) → page_after (held layout past f) (given layout past) j (page_of layout past j) ≡ (if j == given layout past then q else page_of layout past j)
  page_is j = ap (λ k. page_after k (given layout past) j (page_of layout past j)) is

  -- ---- Copies

  -- the newest copy of a page has the bytes that it had
  pub copy_stands : (p : ℕ) (at : Place) (b : Bool) → (p == q) ≡ b → place layout past p ≡ at → copy new (if b then InHandle (given layout past) else at) ≡ copy old at
  copy_stands p at true e placed =
      let own : at ≡ InFrame f = sym placed ∙ ap (place layout past) (eqb-true p q e) ∙ h.one_copy.placed q f is in
      let here : (given layout past == given layout past) ≡ true = let g = given layout past in grind (arith, nat_tests) in
      ap (option_map (λ sealed_page. sealed_page.bytes)) (sealed_pages_are (given layout past)
      ∙ ap (λ b. if b then Some (sealed_page_of (entry_at old.entries f) (old.frames f)) else old.sealed_pages (given layout past)) here)
      ∙ sym (ap (copy old) own)
  copy_stands p (InFrame g) false e placed =
      let there = h.one_copy.framed p g placed in
      ap Some (w.others g (differs (held layout past) g f (PageFrame p) (PageFrame q) there is (λ s. eqb-false p q e (page_eq p q s))) (differs (held layout past) g va (PageFrame p) VaFrame there in_va (λ s. cc)))
    where
      page_eq : (a b : ℕ) → PageFrame a ≡ PageFrame b → a ≡ b
      page_eq a b s = cc
  copy_stands p (InHandle j) false e placed =
      let low = h.one_copy.known p j placed in
      let other : (j == given layout past) ≡ false = let g = given layout past in grind (arith, nat_tests) in
      ap (option_map (λ sealed_page. sealed_page.bytes)) (sealed_pages_are j ∙ ap (λ b. if b then Some (sealed_page_of (entry_at old.entries f) (old.frames f)) else old.sealed_pages j) other)
  copy_stands p Gone false e placed = refl

  -- ---- One copy

  -- no page has two live copies
  pub copies_after : (k : Held) → k ≡ PageFrame q → Agrees (λ g. if g == f then FreeFrame else held layout past g) (λ p. if is_page_in k p then InHandle (given layout past) else place layout past p)
      (λ wa j. if (wa == va) && (j == i) then Some (given layout past) else slot layout past wa j) (given layout past + 1) (λ j. page_after k (given layout past) j (page_of layout past j)) (discarded past)
  copies_after k e =
      subst (λ x. Agrees (λ g. if g == f then FreeFrame else held layout past g) (λ p. if is_page_in x p then InHandle (given layout past) else place layout past p)
      (λ wa j. if (wa == va) && (j == i) then Some (given layout past) else slot layout past wa j) (given layout past + 1) (λ j. page_after x (given layout past) j (page_of layout past j)) (discarded past)) (sym e)
      (writes_out (held layout past) (place layout past) (slot layout past) (given layout past) (page_of layout past) (discarded past) h.one_copy f q va i is)

  -- stamps
  pub stamp_stands : (g s : ℕ) (b : Bool) → (if b then None else stamp_of past g) ≡ Some s → new.stamps g ≡ h.tracking.built + s
  stamp_stands g s true e = absurd (cc)
  stamp_stands g s false e = ap (λ all. all g) w.stamps ∙ h.tracking.stamped g s e
