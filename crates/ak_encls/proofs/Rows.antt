-- The rows of the leaves over an enclave, from what the checks tell.
use Rattle.std.proofs.Common.{◌≡◌, ◌⊎◌, inl, inr, ℕ, zero, suc, ◌+◌, ◌*◌, ◌<◌, ◌≤◌, Bool, true, false, ◌==◌, if◌then◌else◌, List, refl, ap, sym, ◌∙◌, arith}
use Rattle.std.specs.Prelude.{not, ◌&&◌, ◌||◌, Option, Some, None, is_some}
use Rattle.std.specs.List.{list_any, range_with_len}
use Rattle.std.specs.Option.{option_map}
use Rattle.ak_core.specs.Layout.{Layout}
use Rattle.ak_core.specs.declared.page.Entry.{Entry}
use Rattle.ak_core.specs.declared.page.PageType.{PageType}
use Rattle.ak_core.specs.declared.page.PageType.TheVariants.{Secs, Tcs, Reg, Va}
use Rattle.ak_core.specs.declared.moves.Answer.{Answer}
use Rattle.ak_core.specs.declared.moves.Answer.TheVariants.{Ok, OkHandle, InUse, BadVa, NotBlocked, NotTracked, SlotOccupied, NoHandle, SlotEmpty, MacFail, EnclaveActive}
use Rattle.ak_epcm.specs.Entries.{entry_at}
use Rattle.ak_model.specs.Control.LeafRows.{frame_row, page_row, write_out_row, has_slot, load_row, mac_row, remove_row, remove_by_row}
use Rattle.ak_model.specs.Flat.Instructions.{number_at}
use Rattle.ak_model.specs.Paging.Holdings.{FreeFrame, PageFrame, is_free}
use Rattle.ak_model.specs.Paging.Views.{View}
use Rattle.ak_sealed.specs.SealedPages.{SealedPage, entry_of, handle_in, sealed_page_at}
use Rattle.ak_track.specs.Steps.{TrackStep, inside_by}
use Rattle.ak_track.specs.Tracking.{HoldsSteps}
use Rattle.ak_relation.specs.State.MachineState.{State}
use Rattle.ak_relation.specs.State.MachineView.{held_by, held_in, page_on, view_in}
use Rattle.ak_encls.specs.Enclave.{Enclave, frame_at}
use Rattle.ak_encls.specs.Paging.{IsPaging}
use Rattle.ak_encls.specs.Sound.{is_slot, slot_in}

flip : (b : Bool) (x y : Answer) → (if not b then x else y) ≡ (if b then y else x)
flip true x y = refl
flip false x y = refl

-- what is not refused holds
pub true_from : (b : Bool) → not b ≡ false → b ≡ true
true_from true e = refl
true_from false e = absurd (cc)

-- ---- Loads

module _ (view : View) (f k p va i : ℕ) where
  -- the frame is refused
  pub load_refused : (r : Answer) → ((answer : Answer) → frame_row view f (if is_free (view.held f) then answer else InUse) ≡ r) → load_row view f k p va i ≡ r
  load_refused r row = ap (frame_row view f) (flip (is_free (view.held f)) InUse _) ∙ row _

  module _ (free : (answer : Answer) → frame_row view f (if is_free (view.held f) then answer else InUse) ≡ answer) where
    -- the slot is refused
    pub load_no_slot : (r : Answer) → ((answer : Answer) → (if has_slot view va i then answer else BadVa) ≡ r) → load_row view f k p va i ≡ r
    load_no_slot r row = ap (frame_row view f) (flip (is_free (view.held f)) InUse _) ∙ free _ ∙ flip (has_slot view va i) BadVa _ ∙ row _

    module _ (slot : (answer : Answer) → (if has_slot view va i then answer else BadVa) ≡ answer) where
      load_on : load_row view f k p va i ≡ (if not (view.live k) then NoHandle else mac_row view (view.slot va i) k p)
      load_on = ap (frame_row view f) (flip (is_free (view.held f)) InUse _) ∙ free _ ∙ flip (has_slot view va i) BadVa _ ∙ slot _

      -- the handle is not live
      pub load_no_handle : view.live k ≡ false → load_row view f k p va i ≡ NoHandle
      load_no_handle dead = load_on ∙ ap (λ b. if not b then NoHandle else mac_row view (view.slot va i) k p) dead

      load_live : view.live k ≡ true → load_row view f k p va i ≡ mac_row view (view.slot va i) k p
      load_live live = load_on ∙ ap (λ b. if not b then NoHandle else mac_row view (view.slot va i) k p) live

      -- the slot is empty
      pub load_empty : view.live k ≡ true → view.slot va i ≡ None → load_row view f k p va i ≡ SlotEmpty
      load_empty live none = load_live live ∙ ap (λ o. mac_row view o k p) none

      -- the slot holds a version
      pub load_version : (j page : ℕ) (b : Bool) → view.live k ≡ true → view.page_of k ≡ page → view.slot va i ≡ Some j → ((j == k) && (page == p)) ≡ b →
          load_row view f k p va i ≡ (if b then Ok else MacFail)
      load_version j page b live page_is some is =
          load_live live ∙ ap (λ o. mac_row view o k p) some ∙ ap (λ n. if (j == k) && (n == p) then Ok else MacFail) page_is ∙ ap (λ c. if c then Ok else MacFail) is

-- ---- Write-outs

module _ (view : View) (f va i : ℕ) where
  -- the slot is refused
  pub write_no_slot : (r : Answer) → ((answer : Answer) → page_row view f answer ≡ answer) → view.blocked f ≡ true → view.tracked f ≡ true →
      ((answer : Answer) → (if has_slot view va i then answer else BadVa) ≡ r) → write_out_row view f va i ≡ r
  write_no_slot r page blocked tracked row =
      page _
      ∙ ap (λ b. if not b then NotBlocked
      else (if not (view.tracked f) then NotTracked else (if not (has_slot view va i) then BadVa else (if is_some (view.slot va i) then SlotOccupied else OkHandle (record { 0 = view.given }))))) blocked
      ∙ ap (λ b. if not b then NotTracked else (if not (has_slot view va i) then BadVa else (if is_some (view.slot va i) then SlotOccupied else OkHandle (record { 0 = view.given })))) tracked
      ∙ flip (has_slot view va i) BadVa _ ∙ row _

-- ---- What the machine's view has of handles and slots

module _ (layout : Layout) (encls : Enclave) (state : State) (h : IsPaging layout encls state) where
  none_in : (o : Option SealedPage) → option_map (λ s. entry_of s false) o ≡ None → is_some o ≡ false
  none_in None e = refl
  none_in (Some s) e = absurd (let wrong : Some (entry_of s false) ≡ None = e in cc)

  some_found : (o : Option SealedPage) (entry : Entry) → option_map (λ s. entry_of s false) o ≡ Some entry → (is_some o ≡ true) × (page_on o ≡ entry.page.0)
  some_found None entry e = absurd (let wrong : None ≡ Some entry = e in cc)
  some_found (Some s) entry e = (refl, ap (λ (x : Entry). x.page.0) (same e))
    where
      same : Some (entry_of s false) ≡ Some entry → entry_of s false ≡ entry
      same d = cc

  pub is_dead : (k : ℕ) → option_map (λ s. entry_of s false) (sealed_page_at encls.handles k) ≡ None → (view_in layout state).live k ≡ false
  is_dead k e = ap is_some (h.sealed_pages k) ∙ none_in (sealed_page_at encls.handles k) e

  pub is_live : (k : ℕ) (entry : Entry) → option_map (λ s. entry_of s false) (sealed_page_at encls.handles k) ≡ Some entry → (view_in layout state).live k ≡ true
  is_live k entry e = ap is_some (h.sealed_pages k) ∙ (some_found (sealed_page_at encls.handles k) entry e).0

  pub its_page : (k : ℕ) (entry : Entry) → option_map (λ s. entry_of s false) (sealed_page_at encls.handles k) ≡ Some entry → (view_in layout state).page_of k ≡ entry.page.0
  its_page k entry e = ap page_on (h.sealed_pages k) ∙ (some_found (sealed_page_at encls.handles k) entry e).1

  pub slot_is : (va i : ℕ) → is_slot (entry_at encls.entries va) i ≡ true → (view_in layout state).slot va i ≡ slot_in encls.entries encls.frames va i
  slot_is va i slot =
      ap (λ b. handle_in (number_at b (8 * i) 8)) (h.frames va)
      ∙ sym (ap (λ c. if c then handle_in (number_at (frame_at encls.frames va) (8 * i) 8) else None) slot)

  -- ---- Removals

  page_type : (kind : PageType) (p : ℕ) → (kind ≡ Reg) ⊎ (kind ≡ Tcs) → held_by kind p ≡ PageFrame p
  page_type Reg p e = refl
  page_type Tcs p e = refl
  page_type Secs p e = elim e [ inl is ↦ absurd (cc) | inr is ↦ absurd (cc) ]
  page_type Va p e = elim e [ inl is ↦ absurd (cc) | inr is ↦ absurd (cc) ]

  any_same : (p q : ℕ → Bool) (a n : ℕ) → ((x : ℕ) → a ≤ x → x < a + n → p x ≡ q x) → list_any p (range_with_len a n) ≡ list_any q (range_with_len a n)
  any_same p q a zero e = refl
  any_same p q a (suc n) e =
      ap (λ b. b || list_any p (range_with_len (a + 1) n)) (e a (omega arith) (omega arith))
      ∙ ap (λ b. q a || b) (any_same p q (a + 1) n (λ x low high. e x (omega arith) (omega arith)))

  -- a page of the enclave stays while a processor is inside
  pub remove_page : (f : ℕ) (entry : Entry) (active : Bool) → entry ≡ entry_at encls.entries f → not entry.valid ≡ false → (entry.kind ≡ Reg) ⊎ (entry.kind ≡ Tcs) →
      ((answer : Answer) → frame_row (view_in layout state) f answer ≡ answer) →
      ((lps : ℕ) (steps : List TrackStep) → HoldsSteps encls.track lps steps → active ≡ list_any (inside_by steps) (range_with_len 0 lps)) →
      remove_row (view_in layout state) f ≡ (if active then EnclaveActive else Ok)
  remove_page f entry active is valid kind row tells =
      row _
      ∙ ap (λ x. remove_by_row (view_in layout state).active x) (held_page f entry is valid kind)
      ∙ ap (λ b. if b then EnclaveActive else Ok)
      (any_same (λ lp. (state.processors lp).inside) (inside_by state.track) 0 layout.lps (λ lp low high. h.within lp (omega arith))
      ∙ sym (tells layout.lps state.track h.track))
    where
      held_page : (f : ℕ) (entry : Entry) → entry ≡ entry_at encls.entries f → not entry.valid ≡ false → (entry.kind ≡ Reg) ⊎ (entry.kind ≡ Tcs) →
          (view_in layout state).held f ≡ PageFrame entry.page.0
      held_page f entry is valid kind =
          ap (λ l. held_in (entry_at l f)) h.entries ∙ ap held_in (sym is)
          ∙ ap (λ b. if b then held_by entry.kind entry.page.0 else FreeFrame) (true_from entry.valid valid) ∙ page_type entry.kind entry.page.0 kind
