-- What a list of translations holds after one more was cached.
use Rattle.std.proofs.Common.{◌≡◌, suc, Bool, true, false, List, [], ◌∷◌, ◌++◌, length, drop, refl, sym, ap, ◌∙◌, arith, length-append}
use Rattle.std.proofs.lemmas.Bool.{eqb-true, and_parts}
use Rattle.std.specs.Prelude.{Option, Some, None, IsSome, ◌==◌, ◌||◌, if◌then◌else◌}
use Rattle.std.specs.List.{list_any}
use Rattle.ak_core.specs.Mem.{Access}
use Rattle.ak_core.specs.declared.page.Frame.{Frame}
use Rattle.ak_model.specs.Misses.KeptTranslations.{same_access, is_among, unless_there, distinct, is_kept}
use Rattle.ak_tlb.specs.declared.translation.Translation.{Translation}
use Rattle.ak_tlb.specs.Translations.{is_for, found, frame_in, put_in, added, filled}
use Rattle.ak_tlb.specs.Fills.{Fill, accesses_of, frame_for, Once, KeepsAll, HoldsFills}
use Rattle.ak_tlb.proofs.Found.{find_put, once_put, length-put, find_more, once_more, once_drop, none_drop, find_drop, find_none, some_any}
use Rattle.ak_tlb.proofs.Counted.{few_count, few_less}

-- ---- Frames

-- what was cached with a translation
abbrev fill_in : Translation → Fill
fill_in new = record { access = new.access; frame = new.frame.0 }

-- the new one's frame, or the one that was found
abbrev or_new : Bool → Translation → Option Frame → Option Frame
or_new b new o = if b then Some new.frame else o

frame_by : (b : Bool) (new : Translation) (o : Option Translation) → frame_in (if b then Some new else o) ≡ or_new b new (frame_in o)
frame_by true new o = refl
frame_by false new o = refl

last_by : (b : Bool) (new : Translation) (f : Frame) (o p : Option Frame) → or_new b new o ≡ Some f → ((g : Frame) → o ≡ Some g → p ≡ Some g) → or_new b new p ≡ Some f
last_by true new f o p h more = h
last_by false new f o p h more = more f h

none_found : (o : Option Translation) → frame_in o ≡ None → o ≡ None
none_found None h = refl
none_found (Some x) h = cc

-- ---- What was cached

none_by : (b : Bool) (f : Frame) (o : Option Frame) (any : Bool) → (if b then Some f else o) ≡ None → (o ≡ None → any ≡ false) → (b || any) ≡ false
none_by true f o any h more = cc
none_by false f o any h more = more h

-- what has no frame was not cached
not_cached : (fills : List Fill) (t : Access) → frame_for fills t ≡ None → is_among (accesses_of fills) t ≡ false
not_cached [] t h = refl
not_cached (fill ∷ fills) t h =
    none_by (same_access t fill.access) (record { 0 = fill.frame }) (frame_for fills t) (is_among (accesses_of fills) t) h (not_cached fills t)

some_by : (b any : Bool) (f : Frame) (o : Option Frame) → (b || any) ≡ false → (any ≡ false → o ≡ None) → (if b then Some f else o) ≡ None
some_by true any f o h more = cc
some_by false any f o h more = more h

-- what was not cached has no frame
no_frame : (fills : List Fill) (t : Access) → is_among (accesses_of fills) t ≡ false → frame_for fills t ≡ None
no_frame [] t h = refl
no_frame (fill ∷ fills) t h =
    some_by (same_access t fill.access) (is_among (accesses_of fills) t) (record { 0 = fill.frame }) (frame_for fills t) h (no_frame fills t)

unless_same : (b : Bool) (t : Access) (xs : List Access) → b ≡ true → length (unless_there b t xs) ≡ length xs
unless_same true t xs h = refl
unless_same false t xs h = cc

unless_more : (b : Bool) (t : Access) (xs : List Access) → b ≡ false → length (unless_there b t xs) ≡ suc (length xs)
unless_more true t xs h = cc
unless_more false t xs h = refl

true_or : (b : Bool) → (b ≡ false → ⊥) → b ≡ true
true_or true h = refl
true_or false h = absurd (h refl)

-- an access that is there was cached, where all is kept
there_cached : (new : Translation) (list : List Translation) (fills : List Fill) → KeepsAll list fills → list_any (is_for new.access) list ≡ true → is_among (accesses_of fills) new.access ≡ true
there_cached new list fills keeps h =
    true_or (is_among (accesses_of fills) new.access)
    (λ no. let none = some_any (is_for new.access) list (none_found (found list new.access) (keeps.all new.access ∙ no_frame fills new.access no)) in cc)

new_cached : (new : Translation) (list : List Translation) (fills : List Fill) → KeepsAll list fills → list_any (is_for new.access) list ≡ false → is_among (accesses_of fills) new.access ≡ false
new_cached new list fills keeps h =
    not_cached fills new.access (sym (keeps.all new.access) ∙ ap frame_in (find_none (is_for new.access) list h))

-- ---- One more

-- the frame that is found, after one that was there
put_frame : (new : Translation) (list : List Translation) (t : Access) → list_any (is_for new.access) list ≡ true →
    frame_in (found (put_in new list) t) ≡ or_new (is_for t new) new (frame_in (found list t))
put_frame new list t h = ap frame_in (find_put new list t h) ∙ frame_by (is_for t new) new (found list t)

-- and after one that was not
more_frame : (new : Translation) (list : List Translation) (t : Access) → list_any (is_for new.access) list ≡ false →
    frame_in (found (list ++ new ∷ []) t) ≡ or_new (is_for t new) new (frame_in (found list t))
more_frame new list t h = ap frame_in (find_more new list t h) ∙ frame_by (is_for t new) new (found list t)

holds_put : (new : Translation) (list : List Translation) (fills : List Fill) → list_any (is_for new.access) list ≡ true → HoldsFills list fills → HoldsFills (put_in new list) (fill_in new ∷ fills)
holds_put new list fills h holds = record {
  once = once_put new list holds.once;
  last = λ t f is. last_by (is_for t new) new f (frame_in (found list t)) (frame_for fills t) (sym (put_frame new list t h) ∙ is) (holds.last t);
  kept = λ few. let keeps = holds.kept (few_less new.access (accesses_of fills) few) in record {
    all = λ t. put_frame new list t h ∙ ap (or_new (is_for t new) new) (keeps.all t);
    count = length-put new list ∙ keeps.count ∙ sym (unless_same (is_among (accesses_of fills) new.access) new.access (distinct (accesses_of fills)) (there_cached new list fills keeps h));
  };
}

holds_more : (new : Translation) (list : List Translation) (fills : List Fill) → list_any (is_for new.access) list ≡ false → HoldsFills list fills → HoldsFills (list ++ new ∷ []) (fill_in new ∷ fills)
holds_more new list fills h holds = record {
  once = once_more new list h holds.once;
  last = λ t f is. last_by (is_for t new) new f (frame_in (found list t)) (frame_for fills t) (sym (more_frame new list t h) ∙ is) (holds.last t);
  kept = λ few. let keeps = holds.kept (few_less new.access (accesses_of fills) few) in record {
    all = λ t. more_frame new list t h ∙ ap (or_new (is_for t new) new) (keeps.all t);
    count = length-append list (new ∷ []) ∙ omega (arith, keeps.count, unless_more (is_among (accesses_of fills) new.access) new.access (distinct (accesses_of fills)) (new_cached new list fills keeps h));
  };
}

-- what is found without the first has the same frame
drop_frame : (list : List Translation) (t : Access) (f : Frame) (o : Option Translation) → Once list → found (drop 1 list) t ≡ o → frame_in o ≡ Some f → frame_in (found list t) ≡ Some f
drop_frame list t f None once is h = cc
drop_frame list t f (Some v) once is h = ap frame_in (find_drop list t v once is) ∙ h

-- in a full list the first is dropped
holds_full : (new : Translation) (list : List Translation) (fills : List Fill) → length list ≡ 64 → list_any (is_for new.access) list ≡ false → HoldsFills list fills →
    HoldsFills (drop 1 list ++ new ∷ []) (fill_in new ∷ fills)
holds_full new list fills full h holds =
    let none = none_drop (is_for new.access) list h in
    record {
      once = once_more new (drop 1 list) none (once_drop list holds.once);
      last = λ t f is. last_by (is_for t new) new f (frame_in (found (drop 1 list) t)) (frame_for fills t) (sym (more_frame new (drop 1 list) t none) ∙ is)
          (λ g there. holds.last t g (drop_frame list t g (found (drop 1 list) t) holds.once refl there));
      kept = λ few.
          let keeps = holds.kept (few_less new.access (accesses_of fills) few) in
          absurd (omega (arith, full, keeps.count, few_count (new.access ∷ accesses_of fills) few, unless_more (is_among (accesses_of fills) new.access) new.access (distinct (accesses_of fills)) (new_cached new list fills keeps h)));
    }

added_by : (b : Bool) (new : Translation) (list : List Translation) (fills : List Fill) → (length list == 64) ≡ b → list_any (is_for new.access) list ≡ false → HoldsFills list fills →
    HoldsFills ((if b then drop 1 list else list) ++ new ∷ []) (fill_in new ∷ fills)
added_by true new list fills full h holds = holds_full new list fills (eqb-true _ _ full) h holds
added_by false new list fills full h holds = holds_more new list fills h holds

filled_by : (b : Bool) (new : Translation) (list : List Translation) (fills : List Fill) → list_any (is_for new.access) list ≡ b → HoldsFills list fills →
    HoldsFills (if b then put_in new list else added new list) (fill_in new ∷ fills)
filled_by true new list fills h holds = holds_put new list fills h holds
filled_by false new list fills h holds = added_by (length list == 64) new list fills refl h holds

-- one more is held
pub holds_filled : (new : Translation) (list : List Translation) (fills : List Fill) → HoldsFills list fills → HoldsFills (filled new list) (fill_in new ∷ fills)
unfolding filled
holds_filled new list fills holds = filled_by (list_any (is_for new.access) list) new list fills refl holds

-- ---- What is kept

some_from : (o p : Option Frame) → o ≡ p → (p ≡ None → ⊥) → IsSome o
some_from None p h some = absurd (some (sym h))
some_from (Some f) p h some = refl

-- the translation of an access that is kept is found
pub kept_found : (list : List Translation) (fills : List Fill) (t : Access) → HoldsFills list fills → is_kept (accesses_of fills) t ≡ true → IsSome (frame_in (found list t))
kept_found list fills t holds kept =
    let parts = and_parts (is_among (accesses_of fills) t) _ kept in
    let keeps = holds.kept parts.1 in
    some_from (frame_in (found list t)) (frame_for fills t) (keeps.all t) (λ none. let not = not_cached fills t none in let there = parts.0 in cc)
