-- What a walk finds is what is walkable, where the EPCM's entry says what the history says of its frame.
use Rattle.std.proofs.Common.{◌≡◌, ◌≢◌, ℕ, Bool, true, false, not, ◌&&◌, ◌==◌, Option, Some, None, is_some, is_none, is_ok, Ok, Err, Result, List, if◌then◌else◌, nat_lt, ◌≤◌, arith, refl, sym, ◌∙◌, ap, subst, inl, inr}
use Rattle.std.proofs.lemmas.Bool.Decides.{eqb_tells}
use Rattle.std.proofs.lemmas.Bool.Decides.{nat_tests}
use Rattle.ak_core.specs.Layout.{Layout}
use Rattle.ak_core.specs.declared.page.Entry.{Entry}
use Rattle.ak_core.specs.declared.page.Fault.{Fault}
use Rattle.ak_core.specs.declared.page.Frame.{Frame}
use Rattle.ak_core.specs.declared.page.Flags.{Flags}
use Rattle.ak_core.specs.declared.page.Kind.{Kind}
use Rattle.ak_core.specs.declared.page.Kind.TheVariants.{Read, Write, Exec}
use Rattle.ak_core.specs.declared.page.Perm.{Perm}
use Rattle.ak_core.specs.declared.page.PageType.{PageType}
use Rattle.ak_core.specs.declared.page.PageType.TheVariants.{Secs, Tcs, Reg, Va}
use Rattle.ak_model.specs.Paging.Histories.{History}
use Rattle.ak_model.specs.Paging.Holdings.{Held, FreeFrame, SecsFrame, VaFrame, PageFrame, is_page_in}
use Rattle.ak_model.specs.Paging.Frames.{held, blocked_at}
use Rattle.ak_model.specs.Paging.PageTable.{pte}
use Rattle.ak_model.specs.Paging.Pages.{pages, permits, permits_by, tcs_page}
use Rattle.ak_model.specs.Paging.Walk.{flags_allow, is_preset, is_in_frame, walkable, tcs_walkable}
use Rattle.ak_epcm.specs.Entries.{free_entry, entry_at, is_addressed, has_page}
use Rattle.ak_pte.specs.declared.table.Pte.{Pte}
use Rattle.ak_walk.specs.Finds.{is_reg, is_tcs, is_open, entry_allows, walk_finds, tcs_walk_finds}
use Rattle.ak_walk.specs.Agrees.{HoldsPage, EntryAgrees}

-- ---- Truth tables

-- a conjunction of which a part in brackets is false
last_false : (a b c d : Bool) → c ≡ false → ((a && (b && c)) && d) ≡ false
last_false false b c d _ = refl
last_false true false c d _ = refl
last_false true true false d _ = refl
last_false true true true d wrong = cc

-- a conjunction whose second part is false
middle_false : (a b c : Bool) → b ≡ false → (a && (b && c)) ≡ false
middle_false false b c _ = refl
middle_false true false c _ = refl
middle_false true true c wrong = cc

-- a conjunction whose last part is false
right_false : (a b : Bool) → b ≡ false → (a && b) ≡ false
right_false false b _ = refl
right_false true b h = h

-- a valid entry of the page, of the right type
all_held : (valid unblocked here typed held : Bool) → valid ≡ true → here ≡ true → typed ≡ true → held ≡ true
    → ((valid && (unblocked && here)) && typed) ≡ (held && unblocked)
all_held true true true true true _ _ _ _ = refl
all_held true false true true true _ _ _ _ = refl
all_held false u h t d wrong _ _ _ = cc
all_held true u false t d _ wrong _ _ = cc
all_held true u true false d _ _ wrong _ = cc
all_held true u true true false _ _ _ wrong = cc

-- a conjunction whose first part is false
first_false : (a b c : Bool) → a ≡ false → ((a && b) && c) ≡ false
first_false false b c _ = refl
first_false true b c wrong = cc

-- the same, of one that allows the access
all_true : (valid unblocked here typed allowed held : Bool) → valid ≡ true → here ≡ true → typed ≡ true → held ≡ true
    → ((valid && (unblocked && here)) && (typed && allowed)) ≡ (allowed && (held && unblocked))
all_true true true true true true true _ _ _ _ = refl
all_true true true true true false true _ _ _ _ = refl
all_true true false true true true true _ _ _ _ = refl
all_true true false true true false true _ _ _ _ = refl
all_true false u h t a d wrong _ _ _ = cc
all_true true u false t a d _ wrong _ _ = cc
all_true true u true false a d _ _ wrong _ = cc
all_true true u true true a false _ _ _ wrong = cc

-- the first two parts change places
swap : (a b c : Bool) → (a && (b && c)) ≡ (b && (a && c))
swap true true c = refl
swap true false c = refl
swap false true c = refl
swap false false c = refl

-- ---- What a page allows

-- the second choice is taken
second_choice : (a b : Bool) (x y : Option Perm) → a ≡ false → b ≡ true
    → (if a then x else (if b then None else y)) ≡ None
second_choice false true x y _ _ = refl
second_choice true b x y wrong _ = cc
second_choice false false x y _ wrong = cc

-- what is not below does not pass the test
ge_false : (a b : ℕ) → b ≤ a → nat_lt a b ≡ false
ge_false a b h = grind (arith, nat_tests)

-- equal numbers pass the test
eqb_true : (a b : ℕ) → a ≡ b → (a == b) ≡ true
eqb_true a b same = elim (eqb_tells a b) [ inl told ↦ told.0 | inr other ↦ absurd (other.1 same) ]

-- walks of the three kinds find nothing in the TCS page
permits_tcs : (layout : Layout) (p : ℕ) (kind : Kind) → p ≡ tcs_page layout → permits layout p kind ≡ false
permits_tcs layout p kind is_tcs_page =
    ap (λ (perm : Option Perm). permits_by perm kind)
    (second_choice (nat_lt p (pages layout)) (p == tcs_page layout) _ _
    (ge_false p (pages layout) (omega arith)) (eqb_true p (tcs_page layout) is_tcs_page))

-- the entry of another page allows what the page allows
allows_permits : (layout : Layout) (entry : Entry) (p : ℕ) (since : Option ℕ) (kind : Kind) → p ≢ tcs_page layout
    → HoldsPage layout entry p since → entry_allows entry kind ≡ permits layout p kind
allows_permits layout entry p since Read other h = h.readable other
allows_permits layout entry p since Write other h = h.writable other
allows_permits layout entry p since Exec other h = h.executable other

-- ---- The frame of a page

-- an entry of one page is not one of another
other_page : (page q p : ℕ) → page ≡ q → p ≢ q → (page == p) ≡ false
other_page page q p is_q other =
    elim (eqb_tells page p) [ inl same ↦ absurd (other (sym same.1 ∙ is_q)) | inr told ↦ told.0 ]

-- an entry that agrees is unblocked where the frame is
unblocked_none : (blocked : Bool) (since : Option ℕ) → blocked ≡ is_some since → not blocked ≡ is_none since
unblocked_none blocked since h = ap not h

-- the EPCM's part of a walk, in the frame of the page
page_finds : (layout : Layout) (entry : Entry) (p : ℕ) (since : Option ℕ) (kind : Kind) (held_here : Bool)
    → held_here ≡ true → HoldsPage layout entry p since
    → (is_open entry p && (is_reg entry.kind && entry_allows entry kind))
    ≡ (permits layout p kind && (held_here && is_none since))
page_finds layout entry p since kind held_here is_held agrees =
    elim (eqb_tells p (tcs_page layout)) [
      | inl same ↦ middle_false (is_open entry p) (is_reg entry.kind) (entry_allows entry kind)
          (ap is_reg agrees.kind ∙ ap (λ b. is_reg (if b then Tcs else Reg)) same.0)
          ∙ sym (ap (λ b. b && (held_here && is_none since)) (permits_tcs layout p kind same.1))
      | inr other ↦ all_true entry.valid (not entry.blocked) (entry.page.0 == p) (is_reg entry.kind)
          (entry_allows entry kind) held_here agrees.valid (eqb_true entry.page.0 p agrees.page)
          (ap is_reg agrees.kind ∙ ap (λ b. is_reg (if b then Tcs else Reg)) other.0) is_held
          ∙ ap (λ b. b && (held_here && not entry.blocked)) (allows_permits layout entry p since kind other.1 agrees)
          ∙ ap (λ b. permits layout p kind && (held_here && b)) (unblocked_none entry.blocked since agrees.blocked)
    ]

-- the EPCM's part of a walk
entry_finds : (layout : Layout) (entry : Entry) (h : Held) (since : Option ℕ) (p : ℕ) (kind : Kind)
    → EntryAgrees layout entry h since
    → (is_open entry p && (is_reg entry.kind && entry_allows entry kind))
    ≡ (permits layout p kind && (is_page_in h p && is_none since))
entry_finds layout entry FreeFrame since p kind agrees =
    first_false entry.valid _ _ agrees ∙ sym (middle_false (permits layout p kind) false (is_none since) refl)
entry_finds layout entry SecsFrame since p kind agrees =
    middle_false (is_open entry p) (is_reg entry.kind) _ (ap is_reg agrees.kind)
    ∙ sym (middle_false (permits layout p kind) false (is_none since) refl)
entry_finds layout entry VaFrame since p kind agrees =
    middle_false (is_open entry p) (is_reg entry.kind) _ (ap is_reg agrees.kind)
    ∙ sym (middle_false (permits layout p kind) false (is_none since) refl)
entry_finds layout entry (PageFrame q) since p kind agrees =
    elim (eqb_tells p q) [
      | inl same ↦ page_finds layout entry p since kind (p == q) same.0
          (subst (λ (r : ℕ). HoldsPage layout entry r since) (sym same.1) agrees)
      | inr other ↦ last_false entry.valid (not entry.blocked) (entry.page.0 == p) _ (other_page entry.page.0 q p agrees.page other.1)
          ∙ sym (middle_false (permits layout p kind) (p == q) (is_none since) other.0)
    ]

-- the EPCM's part of entering
tcs_finds : (layout : Layout) (entry : Entry) (h : Held) (since : Option ℕ) (p : ℕ) → p ≡ tcs_page layout
    → EntryAgrees layout entry h since
    → (is_open entry p && is_tcs entry.kind) ≡ (is_page_in h p && is_none since)
tcs_finds layout entry FreeFrame since p is_tcs_page agrees = first_false entry.valid _ _ agrees
tcs_finds layout entry SecsFrame since p is_tcs_page agrees =
    right_false (is_open entry p) (is_tcs entry.kind) (ap is_tcs agrees.kind)
tcs_finds layout entry VaFrame since p is_tcs_page agrees =
    right_false (is_open entry p) (is_tcs entry.kind) (ap is_tcs agrees.kind)
tcs_finds layout entry (PageFrame q) since p is_tcs_page agrees =
    elim (eqb_tells p q) [
      | inl same ↦ all_held entry.valid (not entry.blocked) (entry.page.0 == p) (is_tcs entry.kind) (p == q) agrees.valid
          (eqb_true entry.page.0 p (agrees.page ∙ sym same.1))
          (ap is_tcs agrees.kind
          ∙ ap (λ b. is_tcs (if b then Tcs else Reg)) (eqb_true q (tcs_page layout) (sym same.1 ∙ is_tcs_page)))
          same.0
          ∙ ap (λ b. (p == q) && b) (unblocked_none entry.blocked since agrees.blocked)
      | inr other ↦ last_false entry.valid (not entry.blocked) (entry.page.0 == p) (is_tcs entry.kind)
          (other_page entry.page.0 q p agrees.page other.1)
          ∙ sym (ap (λ b. b && is_none since) other.0)
    ]

-- a walk finds what is walkable
pub walk_finds-walkable : (layout : Layout) (past : History) (flags : Flags) (entry : Entry) (f p : ℕ) (kind : Kind)
    → flags ≡ (pte layout past p).flags
    → f ≡ (pte layout past p).frame
    → EntryAgrees layout entry (held layout past f) (blocked_at past f)
    → walk_finds flags entry p kind ≡ walkable layout past p kind
walk_finds-walkable layout past flags entry f p kind is_flags is_frame agrees =
    ap (λ b. flags_allow flags kind && b) (entry_finds layout entry (held layout past f) (blocked_at past f) p kind agrees)
    ∙ swap (flags_allow flags kind) (permits layout p kind) (is_in_frame layout past p f)
    ∙ ap (λ (fl : Flags). permits layout p kind && (flags_allow fl kind && is_in_frame layout past p f)) is_flags
    ∙ ap (λ (g : ℕ). permits layout p kind && (flags_allow (pte layout past p).flags kind && is_in_frame layout past p g)) is_frame

-- entering finds the TCS page where it is walkable
pub tcs_walk_finds-tcs_walkable : (layout : Layout) (past : History) (flags : Flags) (entry : Entry) (f : ℕ)
    → flags ≡ (pte layout past (tcs_page layout)).flags
    → f ≡ (pte layout past (tcs_page layout)).frame
    → EntryAgrees layout entry (held layout past f) (blocked_at past f)
    → tcs_walk_finds flags entry (tcs_page layout) ≡ tcs_walkable layout past
tcs_walk_finds-tcs_walkable layout past flags entry f is_flags is_frame agrees =
    let p = tcs_page layout in
    ap (λ b. is_preset flags && b) (tcs_finds layout entry (held layout past f) (blocked_at past f) p refl agrees)
    ∙ ap (λ (fl : Flags). is_preset fl && is_in_frame layout past p f) is_flags
    ∙ ap (λ (g : ℕ). is_preset (pte layout past p).flags && is_in_frame layout past p g) is_frame

-- ---- What keeps an entry in agreement

-- a frame that is not in use
pub EntryAgrees-free : (layout : Layout) (since : Option ℕ) → EntryAgrees layout free_entry FreeFrame since
EntryAgrees-free layout since = refl

-- a frame that is blocked at this place
pub EntryAgrees-block : (layout : Layout) (entry : Entry) (h : Held) (since : Option ℕ) (place : ℕ)
    → EntryAgrees layout entry h since → EntryAgrees layout (record entry { blocked = true }) h (Some place)
EntryAgrees-block layout entry FreeFrame since place agrees = agrees
EntryAgrees-block layout entry SecsFrame since place agrees = record { valid = agrees.valid; kind = agrees.kind }
EntryAgrees-block layout entry VaFrame since place agrees = record { valid = agrees.valid; kind = agrees.kind }
EntryAgrees-block layout entry (PageFrame p) since place agrees = record {
  valid = agrees.valid;
  kind = agrees.kind;
  page = agrees.page;
  readable = agrees.readable;
  writable = agrees.writable;
  executable = agrees.executable;
  blocked = refl;
}

-- ---- What a caller learns of a walk that found its page

-- the answer is Ok just where the page was found
pub is_ok-if : {A E : Type 0} (found : Bool) (x : A) (e : E) → is_ok (if found then Ok x else Err e) ≡ found
is_ok-if true x e = refl
is_ok-if false x e = refl

-- a walk answers Ok just where the page is walkable
pub is_ok-walkable : (layout : Layout) (past : History) (p : ℕ) (kind : Kind) (e : Pte) (entries : List Entry)
    (result : Result Frame Fault) (refused : Fault)
    → result ≡ (if walk_finds e.flags (entry_at entries e.frame.0) p kind then Ok e.frame else Err refused)
    → e.flags ≡ (pte layout past p).flags
    → e.frame.0 ≡ (pte layout past p).frame
    → EntryAgrees layout (entry_at entries e.frame.0) (held layout past e.frame.0) (blocked_at past e.frame.0)
    → is_ok result ≡ walkable layout past p kind
is_ok-walkable layout past p kind e entries result refused is_walk is_flags is_frame agrees =
    let found = walk_finds e.flags (entry_at entries e.frame.0) p kind in
    ap (λ (r : Result Frame Fault). is_ok r) is_walk
    ∙ is_ok-if found e.frame refused
    ∙ walk_finds-walkable layout past e.flags (entry_at entries e.frame.0) e.frame.0 p kind is_flags is_frame agrees

-- entering answers Ok just where the TCS page is walkable
pub is_ok-tcs_walkable : (layout : Layout) (past : History) (e : Pte) (entries : List Entry)
    (result : Result Frame Fault) (refused : Fault)
    → result ≡ (if tcs_walk_finds e.flags (entry_at entries e.frame.0) (tcs_page layout) then Ok e.frame else Err refused)
    → e.flags ≡ (pte layout past (tcs_page layout)).flags
    → e.frame.0 ≡ (pte layout past (tcs_page layout)).frame
    → EntryAgrees layout (entry_at entries e.frame.0) (held layout past e.frame.0) (blocked_at past e.frame.0)
    → is_ok result ≡ tcs_walkable layout past
is_ok-tcs_walkable layout past e entries result refused is_walk is_flags is_frame agrees =
    let found = tcs_walk_finds e.flags (entry_at entries e.frame.0) (tcs_page layout) in
    ap (λ (r : Result Frame Fault). is_ok r) is_walk
    ∙ is_ok-if found e.frame refused
    ∙ tcs_walk_finds-tcs_walkable layout past e.flags (entry_at entries e.frame.0) e.frame.0 is_flags is_frame agrees

-- an unblocked entry of the page holds it, where its type has an address
holds_page : (valid unblocked addressed here more : Bool) → (more ≡ true → addressed ≡ true)
    → ((valid && (unblocked && here)) && more) ≡ true → ((valid && addressed) && here) ≡ true
holds_page true true a true true typed _ = rw (typed refl) refl
holds_page false u a h m typed wrong = cc
holds_page true false a h m typed wrong = cc
holds_page true true a false m typed wrong = cc
holds_page true true a true false typed wrong = cc

-- the second part of a true conjunction
right_true : (a b : Bool) → (a && b) ≡ true → b ≡ true
right_true true b h = h
right_true false b wrong = cc

-- a regular page has an address
reg_addressed : (type : PageType) (b : Bool) → (is_reg type && b) ≡ true → is_addressed type ≡ true
reg_addressed Reg b _ = refl
reg_addressed Tcs b _ = refl
reg_addressed Secs b wrong = cc
reg_addressed Va b wrong = cc

-- a TCS has an address
tcs_addressed : (type : PageType) → is_tcs type ≡ true → is_addressed type ≡ true
tcs_addressed Tcs _ = refl
tcs_addressed Reg _ = refl
tcs_addressed Secs wrong = cc
tcs_addressed Va wrong = cc

-- the frame that a walk found holds the page
pub walk_finds-has_page : (flags : Flags) (entry : Entry) (p : ℕ) (kind : Kind)
    → walk_finds flags entry p kind ≡ true → has_page entry p ≡ true
walk_finds-has_page flags entry p kind found =
    holds_page entry.valid (not entry.blocked) (is_addressed entry.kind) (entry.page.0 == p)
    (is_reg entry.kind && entry_allows entry kind) (reg_addressed entry.kind (entry_allows entry kind))
    (right_true (flags_allow flags kind) _ found)

-- the frame that entering found holds the page
pub tcs_walk_finds-has_page : (flags : Flags) (entry : Entry) (p : ℕ)
    → tcs_walk_finds flags entry p ≡ true → has_page entry p ≡ true
tcs_walk_finds-has_page flags entry p found =
    holds_page entry.valid (not entry.blocked) (is_addressed entry.kind) (entry.page.0 == p)
    (is_tcs entry.kind) (tcs_addressed entry.kind)
    (right_true (is_preset flags) _ found)
