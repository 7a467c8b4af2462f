-- What walks cache.
use Rattle.std.proofs.Common.{◌≡◌, ℕ, zero, suc, ◌<◌, Bool, true, false, List, [], ◌∷◌, ◌++◌, drop, length, get_or, ◌==◌, refl, sym, ◌∙◌, ap, arith}
use Rattle.std.proofs.lemmas.Bool.{and_parts, and_from}
use Rattle.std.proofs.lemmas.List.{reverse-append, map-append}
use Rattle.std.proofs.lemmas.List.Elements.{filter-append}
use Rattle.std.proofs.lemmas.List.Folds.{list_all-append}
use Rattle.std.specs.Prelude.{not, map, filter, reverse, cond, Option, Some, None, is_some, if◌then◌else◌}
use Rattle.std.specs.Bool.{then_some}
use Rattle.std.specs.List.{list_any, list_all}
use Rattle.std.specs.Option.{option_or}
use Rattle.ak_core.specs.Mem.{Access}
use Rattle.ak_core.specs.declared.page.Entry.{Entry}
use Rattle.ak_core.specs.declared.page.Frame.{Frame}
use Rattle.ak_epcm.specs.Entries.{entry_at, has_page}
use Rattle.ak_model.proofs.Misses.EqualAccesses.{access_is, access_self}
use Rattle.ak_pte.specs.Table.{pte_at}
use Rattle.ak_pte.specs.declared.table.Pte.{Pte}
use Rattle.ak_tlb.specs.Fills.{Fill, HoldsFills, Once, frame_for}
use Rattle.ak_tlb.specs.Translations.{is_for, found, frame_in, put_in, added, filled, room_made}
use Rattle.ak_tlb.specs.declared.translation.Translation.{Translation}
use Rattle.ak_tlb.proofs.Found.{find_none}
use Rattle.ak_memory.specs.Granting.{is_walked, granted_frame, is_granted, names_page, NamesPages, walked_of, fill_by}
use Rattle.ak_memory.specs.Spots.{accesses_in, is_frame, is_spot, spot_fill, spot_fills, fills_after}
use Rattle.ak_memory.specs.declared.spot.Spot.{Spot}
use Rattle.ak_memory.proofs.Granted.{spot_granted}

-- ---- Pages stay named

put_by : (entries : List Entry) (new x : Translation) (rest put : List Translation) (b : Bool) → names_page entries new ≡ true → names_page entries x ≡ true
    → NamesPages entries rest → NamesPages entries put → NamesPages entries (if b then new ∷ rest else x ∷ put)
put_by entries new x rest put true named here more with_new = and_from (names_page entries new) _ named more
put_by entries new x rest put false named here more with_new = and_from (names_page entries x) _ here with_new

put_named : (entries : List Entry) (new : Translation) (cached : List Translation) → names_page entries new ≡ true → NamesPages entries cached
    → NamesPages entries (put_in new cached)
put_named entries new [] named all = refl
put_named entries new (x ∷ rest) named all =
    let parts = and_parts (names_page entries x) (list_all (names_page entries) rest) all in
    put_by entries new x rest (put_in new rest) (is_for new.access x) named parts.0 parts.1 (put_named entries new rest named parts.1)

drop_named : (entries : List Entry) (cached : List Translation) → NamesPages entries cached → NamesPages entries (drop 1 cached)
drop_named entries [] all = all
drop_named entries (x ∷ rest) all = (and_parts (names_page entries x) (list_all (names_page entries) rest) all).1

room_named : (entries : List Entry) (cached : List Translation) (b : Bool) → NamesPages entries cached → NamesPages entries (if b then drop 1 cached else cached)
room_named entries cached true all = drop_named entries cached all
room_named entries cached false all = all

add_named : (entries : List Entry) (new : Translation) (cached : List Translation) → names_page entries new ≡ true → NamesPages entries cached
    → NamesPages entries (cached ++ new ∷ [])
add_named entries new cached named all =
    list_all-append (names_page entries) cached (new ∷ [])
    ∙ and_from (list_all (names_page entries) cached) _ all (and_from (names_page entries new) true named refl)

one_or_other : (entries : List Entry) (x y : List Translation) (b : Bool) → NamesPages entries x → NamesPages entries y → NamesPages entries (if b then x else y)
one_or_other entries x y true h g = h
one_or_other entries x y false h g = g

-- each translation names a frame that holds its page, with one more that does
pub filled_named : (entries : List Entry) (new : Translation) (cached : List Translation) → names_page entries new ≡ true → NamesPages entries cached
    → NamesPages entries (filled new cached)
unfolding filled
filled_named entries new cached named all =
    one_or_other entries (put_in new cached) (added new cached) (list_any (is_for new.access) cached) (put_named entries new cached named all)
    (add_named entries new (room_made cached) named (room_named entries cached (length cached == 64) all))

-- ---- Fills that name pages

-- what is found first of a translation's own access, where no other is of it
found_self : (x : Translation) (rest : List Translation) → frame_in (found (x ∷ rest) x.access) ≡ Some x.frame
found_self x rest = ap (λ b. frame_in (cond b (Some x) (found rest x.access))) (access_self x.access)

later_found : (x : Translation) (rest : List Translation) (t : Access) (f : Frame) (b : Bool) → is_for t x ≡ b → list_any (is_for x.access) rest ≡ false
    → frame_in (found rest t) ≡ Some f → frame_in (cond b (Some x) (found rest t)) ≡ Some f
later_found x rest t f true same none is =
    let gone : found rest t ≡ None = ap (found rest) (access_is t x.access same) ∙ find_none (is_for x.access) rest none in
    let wrong : None ≡ Some f = sym (ap frame_in gone) ∙ is in cc
later_found x rest t f false same none is = is

-- translations of which each is found name pages, where all that is found does
names_by : (entries : List Entry) (cached : List Translation) → Once cached
    → ((t : Access) (f : Frame) → frame_in (found cached t) ≡ Some f → has_page (entry_at entries f.0) t.page.0 ≡ true) → NamesPages entries cached
names_by entries [] once each = refl
names_by entries (x ∷ rest) once each =
    and_from (names_page entries x) (list_all (names_page entries) rest) (each x.access x.frame (found_self x rest))
    (names_by entries rest once.1 (λ t f is. each t f (later_found x rest t f (is_for t x) refl once.0 is)))

-- what a processor has cached names pages, where all that was cached since the flush does
pub fills_name : (entries : List Entry) (cached : List Translation) (fills : List Fill) → HoldsFills cached fills
    → ((t : Access) (f : Frame) → frame_for fills t ≡ Some f → has_page (entry_at entries f.0) t.page.0 ≡ true) → NamesPages entries cached
fills_name entries cached fills holds each = names_by entries cached holds.once (λ t f is. each t f (holds.last t f is))

-- ---- What was walked, newest first

flip_map : {A B : Type 0} (f : A → B) (x : A) (xs : List A) → map f (reverse (x ∷ xs)) ≡ map f (reverse xs) ++ f x ∷ []
flip_map f x xs = ap (map f) (reverse-append (x ∷ []) xs) ∙ map-append f (reverse xs) (x ∷ [])

fills_by : (spots : List Spot) (spot : Spot) (b : Bool) → spot.by_walk ≡ b
    → map spot_fill (reverse (filter (λ s. s.by_walk) spots ++ cond b (spot ∷ []) [])) ≡ (if b then spot_fill spot ∷ spot_fills spots else spot_fills spots)
fills_by spots spot true is = ap (map spot_fill) (reverse-append (filter (λ s. s.by_walk) spots) (spot ∷ []))
fills_by spots spot false is = ap (map spot_fill) (reverse-append (filter (λ s. s.by_walk) spots) [])

-- one more
pub fills_more : (spots : List Spot) (spot : Spot) → spot_fills (spots ++ spot ∷ []) ≡ fills_after spot (spot_fills spots)
fills_more spots spot =
    ap (λ l. map spot_fill (reverse l)) (filter-append (λ s. s.by_walk) spots (spot ∷ [])) ∙ fills_by spots spot spot.by_walk refl

walked_by : (cached : List Translation) (table : List Pte) (spot : Spot) (spots : List Spot) (b c : Bool) → spot.by_walk ≡ b → b ≡ c → (b ≡ true → spot_fill spot ≡ fill_by table spot.access)
    → spot_fills spots ≡ map (fill_by table) (walked_of cached (accesses_in spots))
    → map spot_fill (reverse (cond b (spot ∷ filter (λ s. s.by_walk) spots) (filter (λ s. s.by_walk) spots)))
    ≡ map (fill_by table) (reverse (cond c (spot.access ∷ filter (λ t. not (is_some (found cached t))) (accesses_in spots)) (filter (λ t. not (is_some (found cached t))) (accesses_in spots))))
walked_by cached table spot spots true true is same fill more =
    flip_map spot_fill spot (filter (λ s. s.by_walk) spots)
    ∙ ap (λ l. l ++ spot_fill spot ∷ []) more
    ∙ ap (λ x. map (fill_by table) (walked_of cached (accesses_in spots)) ++ x ∷ []) (fill refl)
    ∙ sym (flip_map (fill_by table) spot.access (filter (λ t. not (is_some (found cached t))) (accesses_in spots)))
walked_by cached table spot spots false false is same fill more = more
walked_by cached table spot spots true false is same fill more = cc
walked_by cached table spot spots false true is same fill more = cc

flag_is : (cached by_walk : Bool) → (if cached then not by_walk else by_walk) ≡ true → by_walk ≡ not cached
flag_is true true h = cc
flag_is true false h = refl
flag_is false b h = h

not_true : (b : Bool) → not b ≡ true → b ≡ false
not_true true h = cc
not_true false h = refl

walk_frame : (o : Option Translation) (w : Bool) (g f : Frame) → is_some o ≡ false → option_or (frame_in o) (then_some w g) ≡ Some f → g ≡ f
walk_frame (Some x) w g f away is = cc
walk_frame None true g f away is = cc
walk_frame None false g f away is = cc

-- a walk found a spot just where it is not cached
spot_walked : (entries : List Entry) (table : List Pte) (cached : List Translation) (spot : Spot) → is_spot entries table cached spot ≡ true
    → spot.by_walk ≡ not (is_some (found cached spot.access))
spot_walked entries table cached spot h =
    flag_is (is_some (found cached spot.access)) spot.by_walk (and_parts (is_frame (granted_frame entries table cached spot.access) spot.frame) _ h).1

-- and then in the frame of its entry of the page table
spot_filled : (entries : List Entry) (table : List Pte) (cached : List Translation) (spot : Spot) → is_spot entries table cached spot ≡ true
    → spot.by_walk ≡ true → spot_fill spot ≡ fill_by table spot.access
spot_filled entries table cached spot h walked =
    let uncached = not_true (is_some (found cached spot.access)) (sym (spot_walked entries table cached spot h) ∙ walked) in
    let frame = walk_frame (found cached spot.access) (is_walked entries table spot.access) (pte_at table spot.access.page.0).frame spot.frame uncached
    (spot_granted entries table cached spot h) in
    let made : Frame → Fill = λ f. record { access = spot.access; frame = f.0 } in
    ap made (sym frame)

-- what the walks of these spots cache, by the page table
pub fills_are : (entries : List Entry) (table : List Pte) (cached : List Translation) (spots : List Spot) → list_all (is_spot entries table cached) spots ≡ true
    → spot_fills spots ≡ map (fill_by table) (walked_of cached (accesses_in spots))
fills_are entries table cached [] all = refl
fills_are entries table cached (spot ∷ spots) all =
    let parts = and_parts (is_spot entries table cached spot) (list_all (is_spot entries table cached) spots) all in
    walked_by cached table spot spots spot.by_walk (not (is_some (found cached spot.access))) refl (spot_walked entries table cached spot parts.0)
    (spot_filled entries table cached spot parts.0) (fills_are entries table cached spots parts.1)

-- ---- Walked accesses

all_reversed : (P : Access → Bool) (xs : List Access) → list_all P xs ≡ true → list_all P (reverse xs) ≡ true
all_reversed P [] all = refl
all_reversed P (x ∷ xs) all =
    let parts = and_parts (P x) (list_all P xs) all in
    ap (list_all P) (reverse-append (x ∷ []) xs) ∙ list_all-append P (reverse xs) (x ∷ [])
    ∙ and_from (list_all P (reverse xs)) _ (all_reversed P xs parts.1) (and_from (P x) true parts.0 refl)

filtered_by : (P T : Access → Bool) (x : Access) (xs : List Access) (b : Bool) → T x ≡ b → (b ≡ true → P x ≡ true) → list_all P (filter T xs) ≡ true
    → list_all P (cond b (x ∷ filter T xs) (filter T xs)) ≡ true
filtered_by P T x xs true is here more = and_from (P x) (list_all P (filter T xs)) (here refl) more
filtered_by P T x xs false is here more = more

all_filtered : (P Q T : Access → Bool) (xs : List Access) → ((t : Access) → Q t ≡ true → T t ≡ true → P t ≡ true) → list_all Q xs ≡ true
    → list_all P (filter T xs) ≡ true
all_filtered P Q T [] each all = refl
all_filtered P Q T (x ∷ xs) each all =
    let parts = and_parts (Q x) (list_all Q xs) all in
    filtered_by P T x xs (T x) refl (each x parts.0) (all_filtered P Q T xs each parts.1)

walk_found : (o : Option Translation) (w : Bool) (g : Frame) → is_some (option_or (frame_in o) (then_some w g)) ≡ true → not (is_some o) ≡ true → w ≡ true
walk_found (Some x) w g is away = cc
walk_found None true g is away = refl
walk_found None false g is away = cc

-- of accesses that are granted, walks find those that are not cached
pub all_walked : (entries : List Entry) (table : List Pte) (cached : List Translation) (accesses : List Access)
    → list_all (is_granted entries table cached) accesses ≡ true → list_all (is_walked entries table) (walked_of cached accesses) ≡ true
all_walked entries table cached accesses all =
    all_reversed (is_walked entries table) (filter (λ t. not (is_some (found cached t))) accesses)
    (all_filtered (is_walked entries table) (is_granted entries table cached) (λ t. not (is_some (found cached t))) accesses
    (λ t. walk_found (found cached t) (is_walked entries table t) (pte_at table t.page.0).frame) all)

-- ---- In turn

-- what is cached by one more access, and by what came before
pub fills_after-append : (spot : Spot) (xs fills : List Fill) → fills_after spot (xs ++ fills) ≡ fills_after spot xs ++ fills
fills_after-append spot xs fills = by_flag spot.by_walk
  where
    by_flag : (b : Bool) → (if b then spot_fill spot ∷ (xs ++ fills) else xs ++ fills) ≡ (if b then spot_fill spot ∷ xs else xs) ++ fills
    by_flag true = refl
    by_flag false = refl

-- what all pass, one of them passes
pub passes_at : (P : Spot → Bool) (spots : List Spot) (i : ℕ) (d : Spot) → list_all P spots ≡ true → i < length spots → P (get_or spots i d) ≡ true
passes_at P [] i d all within = absurd (omega arith)
passes_at P (x ∷ spots) zero d all within = (and_parts (P x) (list_all P spots) all).0
passes_at P (x ∷ spots) (suc i) d all within = passes_at P spots i d (and_parts (P x) (list_all P spots) all).1 (omega arith)
