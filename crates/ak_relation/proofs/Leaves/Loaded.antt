-- A load: the page comes back into a frame, with its bytes, and all else stays.
use Rattle.std.proofs.Common.{◌≡◌, inl, inr, ℕ, ◌+◌, ◌*◌, ◌<◌, length, refl, ap, sym, ◌∙◌, subst, arith}
use Rattle.std.proofs.lemmas.Bool.{eqb-true}
use Rattle.std.proofs.lemmas.Bool.Decides.{eqb_tells}
use Rattle.std.proofs.lemmas.List.{length-append, length-replicate}
use Rattle.std.specs.Prelude.{Bool, true, false, ◌&&◌, replicate, option_map, Option, Some, None, is_some, ◌==◌, if◌then◌else◌}
use Rattle.std.specs.Bool.{then_some}
use Rattle.ak_core.specs.Layout.{Layout}
use Rattle.ak_core.specs.declared.page.Entry.{Entry}
use Rattle.ak_model.specs.Paging.Histories.{History}
use Rattle.ak_model.specs.Paging.Holdings.{Held, FreeFrame, VaFrame, PageFrame, Place, InFrame, InHandle, Gone}
use Rattle.ak_model.specs.Paging.Frames.{held, blocked_at}
use Rattle.ak_model.specs.Paging.Handles.{given, page_of, discarded, live, slot, place}
use Rattle.ak_model.specs.Laws.OneLiveCopy.{Agrees}
use Rattle.ak_model.proofs.Paging.LiveCopies.{loads}
use Rattle.ak_epcm.specs.Entries.{entry_at}
use Rattle.ak_walk.specs.Agrees.{EntryAgrees}
use Rattle.ak_relation.specs.State.TrackSteps.{steps_of, stamp_of}
use Rattle.ak_relation.specs.State.MachineState.{State, copy}
use Rattle.ak_model.specs.Flat.Instructions.{number_at}
use Rattle.ak_track.specs.Steps.{Cycled}
use Rattle.ak_sealed.specs.SealedPages.{SealedPage, version, entry_of}
use Rattle.ak_relation.specs.State.Tables.{IsSealedPageOf, SealedPageAgrees, TablesStand}
use Rattle.ak_relation.specs.Premises.Loading.{LoadsFrom}

-- what the row of a load tells
pub record IsFair (layout : Layout) (past : History) (f k p va i : ℕ) : Type 0 where
  pub free : held layout past f ≡ FreeFrame
  pub in_va : held layout past va ≡ VaFrame
  pub version : slot layout past va i ≡ Some k
  pub kept : discarded past k ≡ false
  pub page : page_of layout past k ≡ p

sealed_page_is : (layout : Layout) (o : Option SealedPage) (sealed_page : SealedPage) (alive : Bool) (p : ℕ) → o ≡ Some sealed_page → SealedPageAgrees layout o alive p → IsSealedPageOf layout sealed_page p
sealed_page_is layout o sealed_page alive p e h = let k : SealedPageAgrees layout (Some sealed_page) alive p = subst (λ x. SealedPageAgrees layout x alive p) e h in k.1

some_then : (b : Bool) (n : ℕ) → b ≡ is_some (then_some b n)
some_then true n = refl
some_then false n = refl

-- a VA frame is another one
pub other_va : (b : Bool) (p : ℕ) (h : Held) → (if b then PageFrame p else h) ≡ VaFrame → (b ≡ false) × (h ≡ VaFrame)
other_va true p h e = absurd (cc)
other_va false p h e = (refl, e)

module _ (layout : Layout) (past : History) (old new : State) (f k p va i : ℕ) (blocked : Bool) (h : TablesStand layout past old) (w : LoadsFrom old new f k va i blocked)
    (fair : IsFair layout past f k p va i) where
  its_sealed_page : IsSealedPageOf layout w.sealed_page p
  its_sealed_page = subst (IsSealedPageOf layout w.sealed_page) fair.page (sealed_page_is layout (old.sealed_pages k) w.sealed_page (live layout past k) (page_of layout past k) w.sealed (h.sealed_pages.sealed_page k))

  -- ---- Entries and slots

  pub loaded_entry : (g n : ℕ) (b : Bool) → entry_at new.entries g ≡ (if b then entry_of w.sealed_page blocked else entry_at old.entries g) →
      EntryAgrees layout (entry_at new.entries g) (if b then PageFrame p else held layout past g) (if b then then_some blocked n else blocked_at past g)
  loaded_entry g n true sets = let sealed_page = its_sealed_page in
      subst (λ (e : Entry). EntryAgrees layout e (PageFrame p) (then_some blocked n)) (sym sets)
      (record {
        valid = refl;
        kind = sealed_page.kind;
        page = sealed_page.page;
        readable = sealed_page.readable;
        writable = sealed_page.writable;
        executable = sealed_page.executable;
        blocked = some_then blocked n;
      })
  loaded_entry g n false sets = subst (λ (e : Entry). EntryAgrees layout e (held layout past g) (blocked_at past g)) (sym sets) (h.entries.entry g)

  pub loaded_slot : (wa j : ℕ) (b c : Bool) → (wa == va) ≡ b → (j == i) ≡ c → (wa == f) ≡ false → held layout past wa ≡ VaFrame → j < 512 →
      number_at (new.frames wa) (8 * j) 8 ≡ version (if b && c then None else slot layout past wa j)
  loaded_slot wa j true true e d free v lt =
      ap (λ g. number_at (new.frames g) (8 * j) 8) (eqb-true wa va e) ∙ ap (λ x. number_at (new.frames va) (8 * x) 8) (eqb-true j i d) ∙ w.slot
  loaded_slot wa j true false e d free v lt =
      ap (λ g. number_at (new.frames g) (8 * j) 8) (eqb-true wa va e) ∙ w.slots j d lt
      ∙ sym (ap (λ g. number_at (old.frames g) (8 * j) 8) (eqb-true wa va e)) ∙ h.slots.versions wa j v lt
  loaded_slot wa j false c e d free v lt = ap (λ bytes. number_at bytes (8 * j) 8) (w.others wa free e) ∙ h.slots.versions wa j v lt

  -- each frame has all its bytes
  pub loaded_whole : (g : ℕ) (b : Bool) → (g == f) ≡ b → length (new.frames g) ≡ 4096
  loaded_whole g true e = ap (λ x. length (new.frames x)) (eqb-true g f e) ∙ ap length w.bytes ∙ its_sealed_page.whole
  loaded_whole g false e = w.lengths g e ∙ h.frames.whole g

  -- ---- Copies

  apart : (g x : ℕ) (a b : Held) → held layout past g ≡ a → held layout past x ≡ b → (a ≡ b → ⊥) → (g == x) ≡ false
  apart g x a b e d other =
      elim (eqb_tells g x) [
        | inl same ↦ absurd (other (sym e ∙ ap (held layout past) same.1 ∙ d))
        | inr is_not ↦ is_not.0
      ]

  pub loaded_copy : (q : ℕ) (at : Place) (b : Bool) → (q == p) ≡ b → place layout past q ≡ at → copy new (if b then InFrame f else at) ≡ copy old at
  loaded_copy q at true e placed =
      let own : at ≡ InHandle k = sym placed ∙ ap (place layout past) (eqb-true q p e ∙ sym fair.page) ∙ h.one_copy.newest va i k fair.version fair.kept in
      ap Some w.bytes ∙ sym (ap (copy old) own ∙ ap (option_map (λ sealed_page. sealed_page.bytes)) w.sealed)
  loaded_copy q (InFrame g) false e placed =
      let there = h.one_copy.framed q g placed in
      ap Some (w.others g (apart g f (PageFrame q) FreeFrame there fair.free (λ s. cc)) (apart g va (PageFrame q) VaFrame there fair.in_va (λ s. cc)))
  loaded_copy q (InHandle j) false e placed = ap (λ all. option_map (λ sealed_page. sealed_page.bytes) (all j)) w.sealed_pages
  loaded_copy q Gone false e placed = refl

  pub loaded_one : Agrees (λ g. if g == f then PageFrame p else held layout past g) (λ q. if q == p then InFrame f else place layout past q)
      (λ wa j. if (wa == va) && (j == i) then None else slot layout past wa j) (given layout past) (page_of layout past) (discarded past)
  loaded_one = loads _ _ _ _ _ _ h.one_copy f k p va i fair.free fair.version fair.kept fair.page

  -- ---- Stamps

  stamp_by : (b c : Bool) (g t : ℕ) → new.stamps g ≡ (if b then length old.track else old.stamps g) → (if b then then_some c (length (steps_of past)) else stamp_of past g) ≡ Some t →
      new.stamps g ≡ h.tracking.built + t
  stamp_by true true g t is e =
      let n : length (steps_of past) ≡ t = cc in
      let size : length old.track ≡ length (steps_of past) + h.tracking.built = ap length h.tracking.steps_are ∙ length-append (steps_of past) (replicate h.tracking.built Cycled)
      ∙ ap (λ x. length (steps_of past) + x) (length-replicate h.tracking.built Cycled) in
      is ∙ omega arith
  stamp_by true false g t is e = absurd (cc)
  stamp_by false c g t is e = is ∙ h.tracking.stamped g t e

  pub loaded_stamp : (g t : ℕ) → (if g == f then then_some blocked (length (steps_of past)) else stamp_of past g) ≡ Some t → new.stamps g ≡ h.tracking.built + t
  loaded_stamp g t e = stamp_by (g == f) blocked g t (w.stamps g) e
