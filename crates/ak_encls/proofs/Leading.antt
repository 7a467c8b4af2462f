-- What each leaf does to an enclave leads from each machine of which this was the paging part to one of which it is.
use Rattle.std.proofs.Common.{◌≡◌, ◌≢◌, ℕ, ◌+◌, ◌*◌, ◌<◌, Bool, true, false, ◌==◌, if◌then◌else◌, List, length, set, replicate, refl, ap, sym, ◌∙◌, subst, length-set, get_or-set_other}
use Rattle.std.proofs.lemmas.List.{length-replicate}
use Rattle.std.specs.Prelude.{Option, Some, None}
use Rattle.std.specs.Option.{option_map}
use Rattle.std.proofs.lemmas.Bool.{eqb-true, eqb-false, false≢true}
use Rattle.ak_core.specs.Layout.{Layout}
use Rattle.ak_core.specs.declared.page.Entry.{Entry}
use Rattle.ak_core.specs.declared.page.Frame.{Frame}
use Rattle.ak_core.specs.declared.page.Handle.{Handle}
use Rattle.ak_core.specs.declared.page.Page.{Page}
use Rattle.ak_core.specs.declared.moves.Move.TheVariants.{Eblock, Ewb, Eremove, Epa, Discard}
use Rattle.ak_epcm.specs.Entries.{free_entry, entry_at}
use Rattle.ak_model.specs.Flat.Instructions.{number_at}
use Rattle.ak_sealed.specs.SealedPages.{SealedPage, sealed_page_of, entry_of, sealed_page_at}
use Rattle.ak_track.specs.Steps.{TrackStep}
use Rattle.ak_track.specs.Tracking.{HoldsSteps, StampOf}
use Rattle.ak_relation.specs.State.MachineState.{State}
use Rattle.ak_relation.specs.State.TableChanges.{FreesEntry, with_block, with_entries, without_sealed_page}
use Rattle.ak_relation.specs.Premises.Loading.{LoadsFrom}
use Rattle.ak_encls.specs.Answering.{load_move}
use Rattle.ak_encls.specs.Building.{va_entry}
use Rattle.ak_encls.specs.Enclave.{Enclave, frame_at, stamp_at}
use Rattle.ak_encls.specs.Paging.{IsPaging, LeadsTo}
use Rattle.ak_encls.proofs.SlotChanges.{frame_same, frame_other, entry_same, entry_other}
use Rattle.ak_encls.proofs.Soundness.{some_in, zero_value}

-- the entry of a sealed page may be a blocked one
pub reblocked : (o : Option SealedPage) (entry : Entry) (blocked : Bool) → option_map (λ s. entry_of s false) o ≡ Some entry →
    option_map (λ s. entry_of s blocked) o ≡ Some (record entry { blocked = blocked })
reblocked None entry blocked e = absurd (let wrong : None ≡ Some entry = e in cc)
reblocked (Some s) entry blocked e = ap (option_map (λ (x : Entry). record x { blocked = blocked })) e

-- an entry that was set is not blocked, so that each blocked one is as it was
still_blocked : (entries : List Entry) (f : ℕ) (entry : Entry) → f < length entries → entry.blocked ≡ false →
    (g : ℕ) (b : Bool) → (g == f) ≡ b → (entry_at (set entries f entry) g).blocked ≡ true → (entry_at entries g).blocked ≡ true
still_blocked entries f entry within unblocked g true e blocked =
    absurd (false≢true (sym unblocked ∙ sym (ap (λ (x : Entry). x.blocked) (entry_same entries f entry within))
    ∙ sym (ap (λ k. (entry_at (set entries f entry) k).blocked) (eqb-true g f e)) ∙ blocked))
still_blocked entries f entry within unblocked g false e blocked =
    sym (ap (λ (x : Entry). x.blocked) (entry_other entries f g entry (eqb-false g f e))) ∙ blocked

module _ (layout : Layout) (old new : Enclave) (state : State) (h : IsPaging layout old state) where
  -- the entry that was set, and the others, beside those of the machine
  entry_kept : (f g : ℕ) (entry : Entry) → new.entries ≡ set old.entries f entry → (g == f) ≡ false → entry_at new.entries g ≡ entry_at state.entries g
  entry_kept f g entry entries other =
      ap (λ l. entry_at l g) entries ∙ entry_other old.entries f g entry (eqb-false g f other) ∙ ap (λ l. entry_at l g) (sym h.entries)

  frees : (f : ℕ) → f < length old.entries → new.entries ≡ set old.entries f free_entry → FreesEntry state.entries new.entries f
  frees f within entries = record {
    freed = ap (λ l. (entry_at l f).valid) entries ∙ ap (λ (x : Entry). x.valid) (entry_same old.entries f free_entry within);
    others = λ g other. entry_kept f g free_entry entries other;
  }

  count_set : (f : ℕ) (entry : Entry) → new.entries ≡ set old.entries f entry → length new.entries ≡ layout.frames
  count_set f entry entries = ap length entries ∙ length-set old.entries f entry ∙ h.count

  -- stamps and tracking stay, and blocked entries are as they were
  stamps_kept : (f : ℕ) (entry : Entry) → f < length old.entries → entry.blocked ≡ false → new.entries ≡ set old.entries f entry → new.stamps ≡ old.stamps →
      (g : ℕ) → (entry_at new.entries g).blocked ≡ true → StampOf (stamp_at new.stamps g) layout.lps state.track (state.stamps g)
  stamps_kept f entry within unblocked entries stamps g blocked =
      subst (λ l. StampOf (stamp_at l g) layout.lps state.track (state.stamps g)) (sym stamps)
      (h.stamps g (still_blocked old.entries f entry within unblocked g (g == f) refl (sym (ap (λ l. (entry_at l g).blocked) entries) ∙ blocked)))

  -- ---- EBLOCK

  module _ (f : Frame) (within : f.0 < length old.entries)
      (entries : new.entries ≡ set old.entries f.0 (record (entry_at old.entries f.0) { blocked = true }))
      (stamp : (lps : ℕ) (steps : List TrackStep) → HoldsSteps old.track lps steps → StampOf (stamp_at new.stamps f.0) lps steps (length steps))
      (stamps : new.stamps ≡ set old.stamps f.0 (stamp_at new.stamps f.0)) (rest : new ≡ record old { entries = new.entries; stamps = new.stamps }) where
    blocked_stamp : (g : ℕ) (b : Bool) → (g == f.0) ≡ b → (entry_at new.entries g).blocked ≡ true →
        StampOf (stamp_at new.stamps g) layout.lps state.track (if b then length state.track else state.stamps g)
    blocked_stamp g true e blocked =
        subst (λ k. StampOf (stamp_at new.stamps k) layout.lps state.track (length state.track)) (sym (eqb-true g f.0 e)) (stamp layout.lps state.track h.track)
    blocked_stamp g false e blocked =
        let other : g ≢ f.0 = eqb-false g f.0 e in
        let stamp_is : stamp_at new.stamps g ≡ stamp_at old.stamps g = ap (λ l. stamp_at l g) stamps ∙ get_or-set_other old.stamps f.0 g (stamp_at new.stamps f.0) _ other in
        let entry_is : entry_at new.entries g ≡ entry_at old.entries g = ap (λ l. entry_at l g) entries ∙ entry_other old.entries f.0 g (record (entry_at old.entries f.0) { blocked = true }) other in
        subst (λ s. StampOf s layout.lps state.track (state.stamps g)) (sym stamp_is) (h.stamps g (sym (ap (λ (x : Entry). x.blocked) entry_is) ∙ blocked))

    blocked_entry : (g : ℕ) (b : Bool) → (g == f.0) ≡ b → entry_at new.entries g ≡ (if b then record (entry_at state.entries g) { blocked = true } else entry_at state.entries g)
    blocked_entry g true e =
        let same = eqb-true g f.0 e in
        ap (λ k. entry_at new.entries k) same ∙ ap (λ l. entry_at l f.0) entries ∙ entry_same old.entries f.0 (record (entry_at old.entries f.0) { blocked = true }) within
        ∙ ap (λ (x : Entry). record x { blocked = true }) (ap (λ l. entry_at l f.0) (sym h.entries) ∙ ap (λ k. entry_at state.entries k) (sym same))
    blocked_entry g false e = entry_kept f.0 g (record (entry_at old.entries f.0) { blocked = true }) entries e

    pub blocks_leads : LeadsTo layout state (Eblock f) new
    blocks_leads = record {
      state = with_block state new.entries f.0;
      paging = record {
        count = count_set f.0 (record (entry_at old.entries f.0) { blocked = true }) entries;
        entries = refl;
        frames = λ g. h.frames g ∙ ap (λ (e : Enclave). frame_at e.frames g) (sym rest);
        sealed_pages = λ k. h.sealed_pages k ∙ ap (λ (e : Enclave). sealed_page_at e.handles k) (sym rest);
        next = h.next ∙ ap (λ (e : Enclave). length e.handles.sealed_pages) (sym rest);
        track = subst (λ (e : Enclave). HoldsSteps e.track layout.lps state.track) (sym rest) h.track;
        stamps = λ g blocked. blocked_stamp g (g == f.0) refl blocked;
        within = h.within;
      };
      does = record { entry = λ g. blocked_entry g (g == f.0) refl; others = refl };
    }

  -- ---- EREMOVE

  pub removes_leads : (f : Frame) → f.0 < length old.entries → new.entries ≡ set old.entries f.0 free_entry → new ≡ record old { entries = new.entries } →
      LeadsTo layout state (Eremove f) new
  removes_leads f within entries rest = record {
    state = with_entries state new.entries;
    paging = record {
      count = count_set f.0 free_entry entries;
      entries = refl;
      frames = λ g. h.frames g ∙ ap (λ (e : Enclave). frame_at e.frames g) (sym rest);
      sealed_pages = λ k. h.sealed_pages k ∙ ap (λ (e : Enclave). sealed_page_at e.handles k) (sym rest);
      next = h.next ∙ ap (λ (e : Enclave). length e.handles.sealed_pages) (sym rest);
      track = subst (λ (e : Enclave). HoldsSteps e.track layout.lps state.track) (sym rest) h.track;
      stamps = λ g blocked. stamps_kept f.0 free_entry within refl entries (ap (λ (e : Enclave). e.stamps) rest) g blocked;
      within = h.within;
    };
    does = record { entry = frees f.0 within entries; others = refl };
  }

  -- ---- Giving up a handle

  pub discards_leads : (k : Handle) → ((j : ℕ) → sealed_page_at new.handles j ≡ (if j == k.0 then None else sealed_page_at old.handles j)) →
      length new.handles.sealed_pages ≡ length old.handles.sealed_pages → new ≡ record old { handles = new.handles } → LeadsTo layout state (Discard k) new
  discards_leads k put next rest = record {
    state = without_sealed_page state k.0;
    paging = record {
      count = ap (λ (e : Enclave). length e.entries) rest ∙ h.count;
      entries = h.entries ∙ ap (λ (e : Enclave). e.entries) (sym rest);
      frames = λ g. h.frames g ∙ ap (λ (e : Enclave). frame_at e.frames g) (sym rest);
      sealed_pages = λ j. ap (λ o. if j == k.0 then None else o) (h.sealed_pages j) ∙ sym (put j);
      next = h.next ∙ sym next;
      track = subst (λ (e : Enclave). HoldsSteps e.track layout.lps state.track) (sym rest) h.track;
      stamps = λ g blocked.
          subst (λ (e : Enclave). StampOf (stamp_at e.stamps g) layout.lps state.track (state.stamps g)) (sym rest)
          (h.stamps g (sym (ap (λ (e : Enclave). (entry_at e.entries g).blocked) rest) ∙ blocked));
      within = h.within;
    };
    does = refl;
  }

  -- ---- EPA

  module _ (f : Frame) (within : f.0 < length old.entries) (in_frames : f.0 < length old.frames) (entries : new.entries ≡ set old.entries f.0 va_entry)
      (frames : new.frames ≡ set old.frames f.0 (replicate (length (frame_at old.frames f.0)) 0))
      (rest : new ≡ record old { entries = new.entries; frames = new.frames }) where
    va_frame : frame_at new.frames f.0 ≡ replicate (length (frame_at old.frames f.0)) 0
    va_frame = ap (λ l. frame_at l f.0) frames ∙ frame_same old.frames f.0 (replicate (length (frame_at old.frames f.0)) 0) in_frames

    other_frame : (g : ℕ) → (g == f.0) ≡ false → frame_at new.frames g ≡ state.frames g
    other_frame g other =
        ap (λ l. frame_at l g) frames ∙ frame_other old.frames f.0 g (replicate (length (frame_at old.frames f.0)) 0) (eqb-false g f.0 other) ∙ sym (h.frames g)

    frame_length : (g : ℕ) (b : Bool) → (g == f.0) ≡ b → length (frame_at new.frames g) ≡ length (state.frames g)
    frame_length g true e =
        let same = eqb-true g f.0 e in
        ap (λ k. length (frame_at new.frames k)) same ∙ ap length va_frame ∙ length-replicate {A = ℕ} (length (frame_at old.frames f.0)) 0
        ∙ ap (λ k. length (frame_at old.frames k)) (sym same) ∙ ap length (sym (h.frames g))
    frame_length g false e = ap length (other_frame g e)

    pub makes_leads : LeadsTo layout state (Epa f) new
    makes_leads = record {
      state = record state { entries = new.entries; frames = frame_at new.frames };
      paging = record {
        count = count_set f.0 va_entry entries;
        entries = refl;
        frames = λ g. refl;
        sealed_pages = λ k. h.sealed_pages k ∙ ap (λ (e : Enclave). sealed_page_at e.handles k) (sym rest);
        next = h.next ∙ ap (λ (e : Enclave). length e.handles.sealed_pages) (sym rest);
        track = subst (λ (e : Enclave). HoldsSteps e.track layout.lps state.track) (sym rest) h.track;
        stamps = λ g blocked. stamps_kept f.0 va_entry within refl entries (ap (λ (e : Enclave). e.stamps) rest) g blocked;
        within = h.within;
      };
      does = record {
        valid = ap (λ l. (entry_at l f.0).valid) entries ∙ ap (λ (x : Entry). x.valid) (entry_same old.entries f.0 va_entry within);
        kind = ap (λ l. (entry_at l f.0).kind) entries ∙ ap (λ (x : Entry). x.kind) (entry_same old.entries f.0 va_entry within);
        entry = λ g other. entry_kept f.0 g va_entry entries other;
        empty = λ j lt. ap (λ b. number_at b (8 * j) 8) va_frame ∙ zero_value 8 (8 * j) (length (frame_at old.frames f.0));
        others = other_frame;
        lengths = λ g. frame_length g (g == f.0) refl;
        sealed_pages = refl;
        next = refl;
        table = refl;
        processors = refl;
        count = refl;
        queue = refl;
        track = refl;
        stamps = refl;
      };
    }

  -- ---- EWB

  module _ (f va : Frame) (i : ℕ) (within : f.0 < length old.entries) (entries : new.entries ≡ set old.entries f.0 free_entry)
      (slot : number_at (frame_at new.frames va.0) (8 * i) 8 ≡ length old.handles.sealed_pages + 1)
      (slots : (j : ℕ) → (j == i) ≡ false → number_at (frame_at new.frames va.0) (8 * j) 8 ≡ number_at (frame_at old.frames va.0) (8 * j) 8)
      (others : (g : ℕ) → (g == va.0) ≡ false → frame_at new.frames g ≡ frame_at old.frames g)
      (lengths : (g : ℕ) → length (frame_at new.frames g) ≡ length (frame_at old.frames g))
      (put : (k : ℕ) → sealed_page_at new.handles k
      ≡ (if k == length old.handles.sealed_pages then Some (sealed_page_of (entry_at old.entries f.0) (frame_at old.frames f.0)) else sealed_page_at old.handles k))
      (next : length new.handles.sealed_pages ≡ length old.handles.sealed_pages + 1)
      (rest : new ≡ record old { entries = new.entries; frames = new.frames; handles = new.handles }) where
    sealed_is : sealed_page_of (entry_at old.entries f.0) (frame_at old.frames f.0) ≡ sealed_page_of (entry_at state.entries f.0) (state.frames f.0)
    sealed_is =
        ap (λ l. sealed_page_of (entry_at l f.0) (frame_at old.frames f.0)) (sym h.entries)
        ∙ ap (λ b. sealed_page_of (entry_at state.entries f.0) b) (sym (h.frames f.0))

    put_in : (j : ℕ) → sealed_page_at new.handles j ≡ (if j == state.next then Some (sealed_page_of (entry_at state.entries f.0) (state.frames f.0)) else state.sealed_pages j)
    put_in j =
        put j
        ∙ ap (λ n. if j == n then Some (sealed_page_of (entry_at old.entries f.0) (frame_at old.frames f.0)) else sealed_page_at old.handles j) (sym h.next)
        ∙ ap (λ s. if j == state.next then Some s else sealed_page_at old.handles j) sealed_is
        ∙ ap (λ o. if j == state.next then Some (sealed_page_of (entry_at state.entries f.0) (state.frames f.0)) else o) (sym (h.sealed_pages j))

    pub writes_leads : LeadsTo layout state (Ewb f va i) new
    writes_leads = record {
      state = record state { entries = new.entries; frames = frame_at new.frames; sealed_pages = sealed_page_at new.handles; next = length new.handles.sealed_pages };
      paging = record {
        count = count_set f.0 free_entry entries;
        entries = refl;
        frames = λ g. refl;
        sealed_pages = λ k. refl;
        next = refl;
        track = subst (λ (e : Enclave). HoldsSteps e.track layout.lps state.track) (sym rest) h.track;
        stamps = λ g blocked. stamps_kept f.0 free_entry within refl entries (ap (λ (e : Enclave). e.stamps) rest) g blocked;
        within = h.within;
      };
      does = record {
        entry = frees f.0 within entries;
        others = λ g no_f no_va. others g no_va ∙ sym (h.frames g);
        slot = slot ∙ ap (λ n. n + 1) (sym h.next);
        slots = λ j other lt. slots j other ∙ ap (λ b. number_at b (8 * j) 8) (sym (h.frames va.0));
        lengths = λ g. lengths g ∙ ap length (sym (h.frames g));
        sealed_page = put_in;
        next = next ∙ ap (λ n. n + 1) (sym h.next);
        table = refl;
        processors = refl;
        count = refl;
        queue = refl;
        track = refl;
        stamps = refl;
      };
    }

  -- ---- ELDU and ELDB

  module _ (f va : Frame) (k : Handle) (p : Page) (i : ℕ) (entry : Entry) (within : f.0 < length old.entries)
      (sealed : option_map (λ s. entry_of s entry.blocked) (sealed_page_at old.handles k.0) ≡ Some entry)
      (entries : new.entries ≡ set old.entries f.0 entry)
      (bytes : option_map (λ (s : SealedPage). s.bytes) (sealed_page_at old.handles k.0) ≡ Some (frame_at new.frames f.0))
      (slot : number_at (frame_at new.frames va.0) (8 * i) 8 ≡ 0)
      (slots : (j : ℕ) → (j == i) ≡ false → number_at (frame_at new.frames va.0) (8 * j) 8 ≡ number_at (frame_at old.frames va.0) (8 * j) 8)
      (others : (g : ℕ) → (g == f.0) ≡ false → (g == va.0) ≡ false → frame_at new.frames g ≡ frame_at old.frames g)
      (lengths : (g : ℕ) → (g == f.0) ≡ false → length (frame_at new.frames g) ≡ length (frame_at old.frames g))
      (stamp : (lps : ℕ) (steps : List TrackStep) → HoldsSteps old.track lps steps → StampOf (stamp_at new.stamps f.0) lps steps (length steps))
      (stamps : new.stamps ≡ set old.stamps f.0 (stamp_at new.stamps f.0))
      (rest : new ≡ record old { entries = new.entries; frames = new.frames; stamps = new.stamps }) where
    same_bytes : (o : Option SealedPage) (s : SealedPage) → o ≡ Some s → option_map (λ (s : SealedPage). s.bytes) o ≡ Some (frame_at new.frames f.0) → frame_at new.frames f.0 ≡ s.bytes
    same_bytes o s e d = let both : Some s.bytes ≡ Some (frame_at new.frames f.0) = sym (ap (option_map (λ (s : SealedPage). s.bytes)) e) ∙ d in cc

    loaded_stamp : (g : ℕ) (b : Bool) → (g == f.0) ≡ b → (entry_at new.entries g).blocked ≡ true →
        StampOf (stamp_at new.stamps g) layout.lps state.track (if b then length state.track else state.stamps g)
    loaded_stamp g true e blocked =
        subst (λ k. StampOf (stamp_at new.stamps k) layout.lps state.track (length state.track)) (sym (eqb-true g f.0 e)) (stamp layout.lps state.track h.track)
    loaded_stamp g false e blocked =
        let other : g ≢ f.0 = eqb-false g f.0 e in
        let stamp_is : stamp_at new.stamps g ≡ stamp_at old.stamps g = ap (λ l. stamp_at l g) stamps ∙ get_or-set_other old.stamps f.0 g (stamp_at new.stamps f.0) _ other in
        let entry_is : entry_at new.entries g ≡ entry_at old.entries g = ap (λ l. entry_at l g) entries ∙ entry_other old.entries f.0 g entry other in
        subst (λ s. StampOf s layout.lps state.track (state.stamps g)) (sym stamp_is) (h.stamps g (sym (ap (λ (x : Entry). x.blocked) entry_is) ∙ blocked))

    loaded_entry : (s : SealedPage) → entry_of s entry.blocked ≡ entry → (g : ℕ) (b : Bool) → (g == f.0) ≡ b →
        entry_at new.entries g ≡ (if b then entry_of s entry.blocked else entry_at state.entries g)
    loaded_entry s is g true e =
        ap (λ k. entry_at new.entries k) (eqb-true g f.0 e) ∙ ap (λ l. entry_at l f.0) entries ∙ entry_same old.entries f.0 entry within ∙ sym is
    loaded_entry s is g false e = entry_kept f.0 g entry entries e

    abbrev after : State
    after = record state { entries = new.entries; frames = frame_at new.frames; stamps = λ g. if g == f.0 then length state.track else state.stamps g }

    loads : LoadsFrom state after f.0 k.0 va.0 i entry.blocked
    loads =
        let some = some_in (sealed_page_at old.handles k.0) entry.blocked entry sealed in
        record {
          sealed_page = some.0;
          sealed = h.sealed_pages k.0 ∙ some.1.0;
          entry = λ g. loaded_entry some.0 some.1.1 g (g == f.0) refl;
          bytes = same_bytes (sealed_page_at old.handles k.0) some.0 some.1.0 bytes;
          others = λ g no_f no_va. others g no_f no_va ∙ sym (h.frames g);
          slot = slot;
          slots = λ j other lt. slots j other ∙ ap (λ b. number_at b (8 * j) 8) (sym (h.frames va.0));
          lengths = λ g other. lengths g other ∙ ap length (sym (h.frames g));
          stamps = λ g. refl;
          sealed_pages = refl;
          next = refl;
          table = refl;
          processors = refl;
          count = refl;
          queue = refl;
          track = refl;
        }

    loads_paging : IsPaging layout new after
    loads_paging = record {
      count = count_set f.0 entry entries;
      entries = refl;
      frames = λ g. refl;
      sealed_pages = λ j. h.sealed_pages j ∙ ap (λ (e : Enclave). sealed_page_at e.handles j) (sym rest);
      next = h.next ∙ ap (λ (e : Enclave). length e.handles.sealed_pages) (sym rest);
      track = subst (λ (e : Enclave). HoldsSteps e.track layout.lps state.track) (sym rest) h.track;
      stamps = λ g blocked. loaded_stamp g (g == f.0) refl blocked;
      within = h.within;
    }

    pub loads_leads : (blocked : Bool) → entry.blocked ≡ blocked → LeadsTo layout state (load_move f k p va i blocked) new
    loads_leads true e = record { state = after; paging = loads_paging; does = subst (LoadsFrom state after f.0 k.0 va.0 i) e loads }
    loads_leads false e = record { state = after; paging = loads_paging; does = subst (LoadsFrom state after f.0 k.0 va.0 i) e loads }
