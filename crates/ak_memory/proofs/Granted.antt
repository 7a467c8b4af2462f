-- Accesses that are granted, and the frames of their pages.
use Rattle.std.proofs.Common.{◌≡◌, ℕ, Bool, true, false, ◌&&◌, ◌||◌, ◌==◌, List, [], ◌∷◌, refl, ◌∙◌, ap, subst}
use Rattle.std.proofs.lemmas.Bool.{and_parts, or_left, or_right, eqb-true}
use Rattle.std.specs.Prelude.{find, cond, Option, Some, None, is_some}
use Rattle.std.specs.Bool.{then_some}
use Rattle.std.specs.List.{list_any, list_all}
use Rattle.std.specs.Option.{option_or}
use Rattle.ak_core.specs.Mem.{Access, access_to, is_touched, is_writable, is_write}
use Rattle.ak_core.specs.declared.page.Entry.{Entry}
use Rattle.ak_core.specs.declared.page.Frame.{Frame}
use Rattle.ak_core.specs.declared.page.Kind.{Kind}
use Rattle.ak_core.specs.declared.page.Kind.TheVariants.{Read, Write, Exec}
use Rattle.ak_epcm.specs.Entries.{entry_at, has_page}
use Rattle.ak_model.proofs.Misses.EqualAccesses.{access_is}
use Rattle.ak_pte.specs.Table.{pte_at}
use Rattle.ak_pte.specs.declared.table.Pte.{Pte}
use Rattle.ak_tlb.specs.Translations.{is_for, found, frame_in}
use Rattle.ak_tlb.specs.declared.translation.Translation.{Translation}
use Rattle.ak_walk.proofs.Bridge.{walk_finds-has_page}
use Rattle.ak_memory.specs.Granting.{is_walked, granted_frame, is_granted, is_seen, in_use, names_page, NamesPages}
use Rattle.ak_memory.specs.Spots.{accesses_in, is_frame, is_spot, spot_names_page}
use Rattle.ak_memory.specs.declared.spot.Spot.{Spot}

-- ---- Pages that are seen

seen_by : (test : Kind → Bool) (kind : Kind) → test kind ≡ true → list_any test (Read ∷ Write ∷ Exec ∷ []) ≡ true
seen_by test Read h = or_left (test Read) (test Write || (test Exec || false)) h
seen_by test Write h = or_right (test Read) (test Write || (test Exec || false)) (or_left (test Write) (test Exec || false) h)
seen_by test Exec h =
    or_right (test Read) (test Write || (test Exec || false)) (or_right (test Write) (test Exec || false) (or_left (test Exec) false h))

-- the page of an access that is granted is seen
pub granted_seen : (entries : List Entry) (table : List Pte) (cached : List Translation) (t : Access)
    → is_granted entries table cached t ≡ true → is_seen entries table cached t.page.0 ≡ true
granted_seen entries table cached t h = seen_by (λ kind. is_granted entries table cached (access_to t.page.0 kind)) t.kind h

-- ---- Frames that hold pages

named_by : (entries : List Entry) (x : Translation) (o : Option Translation) (t : Access) (f : Frame) (b : Bool) → is_for t x ≡ b → names_page entries x ≡ true
    → frame_in (cond b (Some x) o) ≡ Some f → (frame_in o ≡ Some f → has_page (entry_at entries f.0) t.page.0 ≡ true)
    → has_page (entry_at entries f.0) t.page.0 ≡ true
named_by entries x o t f true same names is more =
    let frame : x.frame ≡ f = cc in
    subst (λ (g : Frame). has_page (entry_at entries g.0) t.page.0 ≡ true) frame
    (ap (λ (u : Access). has_page (entry_at entries x.frame.0) u.page.0) (access_is t x.access same) ∙ names)
named_by entries x o t f false same names is more = more is

-- a cached translation names a frame that holds the page
pub found_names : (entries : List Entry) (cached : List Translation) (t : Access) (f : Frame) → NamesPages entries cached
    → frame_in (found cached t) ≡ Some f → has_page (entry_at entries f.0) t.page.0 ≡ true
found_names entries [] t f named is = cc
found_names entries (x ∷ rest) t f named is =
    let parts = and_parts (names_page entries x) (list_all (names_page entries) rest) named in
    named_by entries x (found rest t) t f (is_for t x) refl parts.0 is (found_names entries rest t f parts.1)

one_of : (P : Frame → Type 0) (o : Option Frame) (w : Bool) (g f : Frame) → option_or o (then_some w g) ≡ Some f
    → (o ≡ Some f → P f) → (w ≡ true → P g) → P f
one_of P (Some h) w g f is cached walked = cached is
one_of P None true g f is cached walked = let same : g ≡ f = cc in subst P same (walked refl)
one_of P None false g f is cached walked = cc

-- an access is granted in a frame that holds its page
pub granted_has : (entries : List Entry) (table : List Pte) (cached : List Translation) (t : Access) (f : Frame) → NamesPages entries cached
    → granted_frame entries table cached t ≡ Some f → has_page (entry_at entries f.0) t.page.0 ≡ true
granted_has entries table cached t f named is =
    let pte = pte_at table t.page.0 in
    one_of (λ g. has_page (entry_at entries g.0) t.page.0 ≡ true) (frame_in (found cached t)) (is_walked entries table t) pte.frame f is
    (found_names entries cached t f named) (walk_finds-has_page pte.flags (entry_at entries pte.frame.0) t.page.0 t.kind)

-- those in use do, where all that are cached do
pub named_in_use : (uses : Bool) (entries : List Entry) (cached : List Translation) → NamesPages entries cached → NamesPages entries (in_use uses cached)
named_in_use true entries cached named = named
named_in_use false entries cached named = refl

-- ---- Accesses that are refused

neither : (o : Option Frame) (w : Bool) (g : Frame) → is_some (option_or o (then_some w g)) ≡ false → (o ≡ None) × (w ≡ false)
neither (Some h) w g away = cc
neither None true g away = cc
neither None false g away = (refl, refl)

-- nothing is cached of a refused access, and no walk finds it
pub refused_neither : (entries : List Entry) (table : List Pte) (cached : List Translation) (t : Access) → is_granted entries table cached t ≡ false
    → (frame_in (found cached t) ≡ None) × (is_walked entries table t ≡ false)
refused_neither entries table cached t away = neither (frame_in (found cached t)) (is_walked entries table t) (pte_at table t.page.0).frame away

-- ---- Spots

pub frame_is : (o : Option Frame) (f : Frame) → is_frame o f ≡ true → o ≡ Some f
frame_is None f h = cc
frame_is (Some g) f h = ap (λ n. Some (record { 0 = n })) (eqb-true g.0 f.0 h)

-- a spot's access is granted in its frame
pub spot_granted : (entries : List Entry) (table : List Pte) (cached : List Translation) (spot : Spot) → is_spot entries table cached spot ≡ true
    → granted_frame entries table cached spot.access ≡ Some spot.frame
spot_granted entries table cached spot h =
    frame_is (granted_frame entries table cached spot.access) spot.frame (and_parts (is_frame (granted_frame entries table cached spot.access) spot.frame) _ h).0

pub spot_names : (entries : List Entry) (table : List Pte) (cached : List Translation) (spot : Spot) → NamesPages entries cached
    → is_spot entries table cached spot ≡ true → spot_names_page entries spot ≡ true
spot_names entries table cached spot named h =
    granted_has entries table cached spot.access spot.frame named (spot_granted entries table cached spot h)

first_by : (P Q : Spot → Bool) (x : Spot) (o : Option Spot) (spot : Spot) (b : Bool) → P x ≡ b → Q x ≡ true → cond b (Some x) o ≡ Some spot
    → (o ≡ Some spot → (P spot ≡ true) × (Q spot ≡ true)) → (P spot ≡ true) × (Q spot ≡ true)
first_by P Q x o spot true here all is more =
    let same : x ≡ spot = cc in subst (λ s. (P s ≡ true) × (Q s ≡ true)) same (here, all)
first_by P Q x o spot false here all is more = more is

-- the first spot that passes a test, where all pass another, passes both
pub first_passes : (P Q : Spot → Bool) (spots : List Spot) (spot : Spot) → list_all Q spots ≡ true → find P spots ≡ Some spot
    → (P spot ≡ true) × (Q spot ≡ true)
first_passes P Q [] spot all is = cc
first_passes P Q (x ∷ spots) spot all is =
    let parts = and_parts (Q x) (list_all Q spots) all in
    first_by P Q x (find P spots) spot (P x) refl parts.0 is (first_passes P Q spots spot parts.1)

-- the first spot of a page is in a frame that holds it
pub spot_of_page : (entries : List Entry) (table : List Pte) (cached : List Translation) (spots : List Spot) (p : ℕ) (spot : Spot) → NamesPages entries cached
    → list_all (is_spot entries table cached) spots ≡ true → find (λ s. s.access.page.0 == p) spots ≡ Some spot → has_page (entry_at entries spot.frame.0) p ≡ true
spot_of_page entries table cached spots p spot named all is =
    let both = first_passes (λ s. s.access.page.0 == p) (is_spot entries table cached) spots spot all is in
    subst (λ q. has_page (entry_at entries spot.frame.0) q ≡ true) (eqb-true spot.access.page.0 p both.0) (spot_names entries table cached spot named both.1)

none_by : (b any : Bool) (x : Spot) (o : Option Spot) → (b || any) ≡ true → cond b (Some x) o ≡ None → (any ≡ true → o ≡ None → ⊥) → ⊥
none_by true any x o some none more = cc
none_by false any x o some none more = more some none

-- a page that was touched has a spot
pub touched_spot : (spots : List Spot) (p : ℕ) → is_touched (accesses_in spots) p ≡ true → find (λ spot. spot.access.page.0 == p) spots ≡ None → ⊥
touched_spot [] p some none = cc
touched_spot (x ∷ spots) p some none =
    none_by (x.access.page.0 == p) (is_touched (accesses_in spots) p) x (find (λ spot. spot.access.page.0 == p) spots) some none (touched_spot spots p)

writable_by : (b w any other : Bool) → ((b && w) || any) ≡ true → (any ≡ true → other ≡ true) → (b || other) ≡ true
writable_by true w any other some more = refl
writable_by false w any other some more = more some

-- a page that was touched for writing was touched
pub writable_touched : (touched : List Access) (p : ℕ) → is_writable touched p ≡ true → is_touched touched p ≡ true
writable_touched [] p some = some
writable_touched (t ∷ touched) p some =
    writable_by (t.page.0 == p) (is_write t.kind) (is_writable touched p) (is_touched touched p) some (writable_touched touched p)

-- ---- All of a turn

-- what each spot has, its access has
pub all_accesses : (P : Access → Bool) (Q : Spot → Bool) (spots : List Spot) → ((spot : Spot) → Q spot ≡ true → P spot.access ≡ true)
    → list_all Q spots ≡ true → list_all P (accesses_in spots) ≡ true
all_accesses P Q [] each all = refl
all_accesses P Q (x ∷ spots) each all =
    let parts = and_parts (Q x) (list_all Q spots) all in
    ap (λ b. b && list_all P (accesses_in spots)) (each x parts.0) ∙ all_accesses P Q spots each parts.1

pub all_spots : (P Q : Spot → Bool) (spots : List Spot) → ((spot : Spot) → Q spot ≡ true → P spot ≡ true) → list_all Q spots ≡ true → list_all P spots ≡ true
all_spots P Q [] each all = refl
all_spots P Q (x ∷ spots) each all =
    let parts = and_parts (Q x) (list_all Q spots) all in
    ap (λ b. b && list_all P spots) (each x parts.0) ∙ all_spots P Q spots each parts.1

-- each access that was granted is granted still
pub all_granted : (entries : List Entry) (table : List Pte) (cached : List Translation) (spots : List Spot) → list_all (is_spot entries table cached) spots ≡ true
    → list_all (is_granted entries table cached) (accesses_in spots) ≡ true
all_granted entries table cached spots all =
    all_accesses (is_granted entries table cached) (is_spot entries table cached) spots (λ spot h. ap is_some (spot_granted entries table cached spot h)) all
