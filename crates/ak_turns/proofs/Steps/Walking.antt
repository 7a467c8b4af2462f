-- What a memory grants that uses no cached translation: just what walks find.
use Rattle.std.proofs.Common.{◌≡◌, ◌≢◌, ℕ, ◌<◌, Bool, true, false, List, [], refl, ap, sym, ◌∙◌, subst}
use Rattle.std.proofs.lemmas.Bool.{and_parts, eq-eqb}
use Rattle.std.specs.Prelude.{Option, is_some, ◌||◌, ◌&&◌, ◌==◌, if◌then◌else◌}
use Rattle.std.specs.Bool.{then_some}
use Rattle.ak_core.specs.Layout.{Layout}
use Rattle.ak_core.specs.Mem.{Access, access_to}
use Rattle.ak_core.specs.declared.page.Entry.{Entry}
use Rattle.ak_core.specs.declared.page.Frame.{Frame}
use Rattle.ak_core.specs.declared.page.Kind.{Kind}
use Rattle.ak_core.specs.declared.page.Kind.TheVariants.{Read, Write, Exec}
use Rattle.ak_core.specs.declared.page.PageType.TheVariants.{Tcs, Reg}
use Rattle.ak_model.specs.Paging.Frames.{held, blocked_at}
use Rattle.ak_model.specs.Paging.Histories.{History}
use Rattle.ak_model.specs.Paging.Holdings.{PageFrame, Mapping}
use Rattle.ak_model.specs.Paging.PageTable.{pte}
use Rattle.ak_model.specs.Paging.Pages.{all_pages, permits, tcs_page}
use Rattle.ak_model.specs.Paging.Walk.{access_walkable, flags_allow}
use Rattle.ak_epcm.specs.Entries.{entry_at, has_page}
use Rattle.ak_pte.specs.Table.{pte_at}
use Rattle.ak_pte.specs.declared.table.Pte.{Pte}
use Rattle.ak_walk.specs.Agrees.{HoldsPage, EntryAgrees}
use Rattle.ak_walk.specs.Finds.{is_reg, is_open, entry_allows}
use Rattle.ak_walk.proofs.Bridge.{walk_finds-has_page, walk_finds-walkable}
use Rattle.ak_relation.proofs.Exits.HeldFrames.{has_holds}
use Rattle.ak_relation.proofs.Exits.WalkedReached.{permits_low}
use Rattle.ak_relation.specs.State.MachineState.{State}
use Rattle.ak_relation.specs.State.Tables.{TablesStand}
use Rattle.ak_encls.specs.Enclave.{Enclave}
use Rattle.ak_walk.specs.Mappings.{mapping_of}
use Rattle.ak_enclu.specs.Machines.{IsMachine}
use Rattle.ak_enclu.specs.declared.cpu.Cpu.{Cpu}
use Rattle.ak_memory.specs.Granting.{is_walked, is_granted, is_seen}

-- ---- Grants and walks

some_test : (b : Bool) (f : Frame) → is_some (then_some b f) ≡ b
some_test true f = refl
some_test false f = refl

or_true : (b : Bool) → (b || true) ≡ true
or_true true = refl
or_true false = refl

-- some kind of access of the page is found by a walk
pub record IsWalkedPage (entries : List Entry) (table : List Pte) (p : ℕ) : Type 0 where
  pub kind : Kind
  pub found : is_walked entries table (access_to p kind) ≡ true

module _ (entries : List Entry) (table : List Pte) where
  -- an access is granted where a walk finds it
  pub granted_walked : (t : Access) → is_granted entries table [] t ≡ is_walked entries table t
  granted_walked t = some_test (is_walked entries table t) (pte_at table t.page.0).frame

  -- one of three kinds is granted
  abbrev any_some : Frame → Bool → Bool → Bool → Bool
  any_some f r w x = is_some (then_some r f) || (is_some (then_some w f) || (is_some (then_some x f) || false))

  seen_by : (p : ℕ) (r w x : Bool) → is_walked entries table (access_to p Read) ≡ r → is_walked entries table (access_to p Write) ≡ w → is_walked entries table (access_to p Exec) ≡ x
      → any_some (pte_at table p).frame r w x ≡ true → IsWalkedPage entries table p
  seen_by p true w x a b c seen = record { kind = Read; found = a }
  seen_by p false true x a b c seen = record { kind = Write; found = b }
  seen_by p false false true a b c seen = record { kind = Exec; found = c }
  seen_by p false false false a b c seen = absurd (cc)

  -- a page that is seen is found by a walk of some kind
  pub seen_walked : (p : ℕ) → is_seen entries table [] p ≡ true → IsWalkedPage entries table p
  seen_walked p seen =
      seen_by p (is_walked entries table (access_to p Read)) (is_walked entries table (access_to p Write)) (is_walked entries table (access_to p Exec)) refl refl refl seen

  walked_seen_by : (p : ℕ) (kind : Kind) → is_walked entries table (access_to p kind) ≡ true → is_seen entries table [] p ≡ true
  walked_seen_by p Read found = ap (λ b. any_some (pte_at table p).frame b (is_walked entries table (access_to p Write)) (is_walked entries table (access_to p Exec))) found
  walked_seen_by p Write found =
      ap (λ b. any_some (pte_at table p).frame (is_walked entries table (access_to p Read)) b (is_walked entries table (access_to p Exec))) found
      ∙ or_true (is_some (then_some (is_walked entries table (access_to p Read)) (pte_at table p).frame))
  walked_seen_by p Exec found =
      ap (λ b. any_some (pte_at table p).frame (is_walked entries table (access_to p Read)) (is_walked entries table (access_to p Write)) b) found
      ∙ ap (λ b. is_some (then_some (is_walked entries table (access_to p Read)) (pte_at table p).frame) || b) (or_true (is_some (then_some (is_walked entries table (access_to p Write)) (pte_at table p).frame)))
      ∙ or_true (is_some (then_some (is_walked entries table (access_to p Read)) (pte_at table p).frame))

  -- and the other way round
  pub walked_seen : (t : Access) → is_walked entries table t ≡ true → is_seen entries table [] t.page.0 ≡ true
  walked_seen t found = walked_seen_by t.page.0 t.kind found

  -- its frame holds it
  pub walked_page : (t : Access) → is_walked entries table t ≡ true → has_page (entry_at entries (pte_at table t.page.0).frame.0) t.page.0 ≡ true
  walked_page t found = walk_finds-has_page (pte_at table t.page.0).flags (entry_at entries (pte_at table t.page.0).frame.0) t.page.0 t.kind found

  pub seen_page : (p : ℕ) → is_seen entries table [] p ≡ true → has_page (entry_at entries (pte_at table p).frame.0) p ≡ true
  seen_page p seen = let some = seen_walked p seen in walked_page (access_to p some.kind) some.found

-- ---- Where the tables stand

not_tcs : (layout : Layout) (entry : Entry) (p : ℕ) (b : Bool) → (p == tcs_page layout) ≡ b → entry.kind ≡ (if b then Tcs else Reg) → is_reg entry.kind ≡ true → b ≡ false
not_tcs layout entry p false e kind reg = refl
not_tcs layout entry p true e kind reg = absurd (let clash : true ≡ false = sym reg ∙ ap is_reg kind in cc)

allowed : (layout : Layout) (entry : Entry) (p : ℕ) (blocked_since : Option ℕ) (kind : Kind) → HoldsPage layout entry p blocked_since → p ≢ tcs_page layout → entry_allows entry kind ≡ permits layout p kind
allowed layout entry p blocked_since Read h other = h.readable other
allowed layout entry p blocked_since Write h other = h.writable other
allowed layout entry p blocked_since Exec h other = h.executable other

module _ (layout : Layout) (past : History) (cpu : Cpu) (table : List Pte) (encls : Enclave) (state : State) (h : TablesStand layout past state) (m : IsMachine layout cpu table encls state) where
  -- each entry says what the history says of its frame
  pub agrees : (f : ℕ) → EntryAgrees layout (entry_at encls.entries f) (held layout past f) (blocked_at past f)
  agrees f = subst (λ (entries : List Entry). EntryAgrees layout (entry_at entries f) (held layout past f) (blocked_at past f)) m.paging.entries (h.entries.entry f)

  -- a frame with an entry of a page holds the page
  pub holds_by : (f p : ℕ) → has_page (entry_at encls.entries f) p ≡ true → held layout past f ≡ PageFrame p
  holds_by f p has = has_holds layout (entry_at encls.entries f) (held layout past f) (blocked_at past f) p (agrees f) has

  -- what a walk finds is a page of the enclave
  pub walked_low : (t : Access) → is_walked encls.entries table t ≡ true → t.page.0 < all_pages layout
  walked_low t found =
      let p = t.page.0 in
      let e = pte_at table p in
      let entry = entry_at encls.entries e.frame.0 in
      let holds : HoldsPage layout entry p (blocked_at past e.frame.0) =
      subst (λ k. EntryAgrees layout entry k (blocked_at past e.frame.0)) (holds_by e.frame.0 p (walked_page encls.entries table t found)) (agrees e.frame.0) in
      let a = and_parts (flags_allow e.flags t.kind) (is_open entry p && (is_reg entry.kind && entry_allows entry t.kind)) found in
      let b = and_parts (is_open entry p) (is_reg entry.kind && entry_allows entry t.kind) a.1 in
      let c = and_parts (is_reg entry.kind) (entry_allows entry t.kind) b.1 in
      let apart = not_tcs layout entry p (p == tcs_page layout) refl holds.kind c.0 in
      permits_low layout p t.kind (sym (allowed layout entry p (blocked_at past e.frame.0) t.kind holds (λ same. absurd (clash p same apart))) ∙ c.1)
    where
      clash : (p : ℕ) → p ≡ tcs_page layout → (p == tcs_page layout) ≡ false → ⊥
      clash p same apart = let is : (p == tcs_page layout) ≡ true = eq-eqb p (tcs_page layout) same in cc

  -- on the pages of the enclave a walk finds what is walkable
  pub walked_is : (t : Access) → t.page.0 < all_pages layout → is_walked encls.entries table t ≡ access_walkable layout past t
  walked_is t low =
      let p = t.page.0 in
      let e = pte_at table p in
      let mapped : mapping_of e ≡ pte layout past p = sym (m.mapped p low) ∙ h.mapping.mapped p low in
      walk_finds-walkable layout past e.flags (entry_at encls.entries e.frame.0) e.frame.0 p t.kind
      (ap (λ (mapping : Mapping). mapping.flags) mapped) (ap (λ (mapping : Mapping). mapping.frame) mapped) (agrees e.frame.0)

  -- so what a walk finds is walkable, and what none finds is not
  pub walked_walkable : (t : Access) → is_walked encls.entries table t ≡ true → access_walkable layout past t ≡ true
  walked_walkable t found = sym (walked_is t (walked_low t found)) ∙ found

  pub unwalked_unwalkable : (t : Access) → is_walked encls.entries table t ≡ false → access_walkable layout past t ≡ false
  unwalked_unwalkable t lost = by_test (access_walkable layout past t) refl
    where
      by_test : (b : Bool) → access_walkable layout past t ≡ b → b ≡ false
      by_test false e = refl
      by_test true e =
          let low = permits_low layout t.page.0 t.kind (and_parts (permits layout t.page.0 t.kind) _ e).0 in
          absurd (let clash : true ≡ false = sym e ∙ sym (walked_is t low) ∙ lost in cc)
