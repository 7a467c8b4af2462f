-- A turn that an exit ends, as the definitions want it: the instruction traps, or an access of it faults.
use Rattle.std.proofs.Common.{◌≡◌, ℕ, ◌<◌, Bool, true, false, List, [], ◌∷◌, ◌++◌, length, take, refl, ap, sym, ◌∙◌, subst, arith}
use Rattle.std.proofs.Math.Seq.{take-append_seam}
use Rattle.std.proofs.lemmas.Bool.{and_parts}
use Rattle.std.proofs.lemmas.List.Folds.{list_any-append}
use Rattle.std.proofs.lemmas.List.Sums.{take_while-cons}
use Rattle.std.specs.Prelude.{Some, None, is_some, ◌&&◌, ◌||◌, not, cond, slice_get, take_while, if◌then◌else◌}
use Rattle.std.specs.List.{list_all, list_any}
use Rattle.ak_core.specs.Layout.{Layout}
use Rattle.ak_core.specs.Mem.{Access}
use Rattle.ak_exec.specs.Turns.{Shows, Raises, Refuses}
use Rattle.ak_model.proofs.Flat.ProgramPages.{AllLow, line_low}
use Rattle.ak_model.proofs.Misses.KeptBySet.{kept_same}
use Rattle.ak_model.specs.Flat.FlatRuns.{Flat, End, line, is_forbidden}
use Rattle.ak_model.specs.Misses.KeptTranslations.{same_access, is_among, is_kept}
use Rattle.ak_model.specs.Misses.Reached.{permitted_accesses}
use Rattle.ak_model.specs.Paging.Pages.{pages}
use Rattle.ak_pte.specs.declared.table.Pte.{Pte}
use Rattle.ak_relation.proofs.Exits.WalkedReached.{among_all}
use Rattle.ak_relation.specs.Premises.Faulting.{IsNext, ShowsDenied, ShowsFault, ShowsTrap}
use Rattle.ak_relation.specs.Program.Seeing.{Sees}
use Rattle.ak_relation.specs.State.MachineState.{State}
use Rattle.ak_tlb.proofs.Counted.{few_less}
use Rattle.ak_tlb.proofs.Holding.{kept_found}
use Rattle.ak_tlb.specs.Fills.{Fill, accesses_of, AreFew, HoldsFills}
use Rattle.ak_tlb.specs.Translations.{found, frame_in}
use Rattle.ak_tlb.specs.declared.translation.Translation.{Translation}
use Rattle.ak_encls.specs.Enclave.{Enclave}
use Rattle.ak_enclu.specs.Machines.{IsMachine}
use Rattle.ak_enclu.specs.declared.cpu.Cpu.{Cpu}
use Rattle.ak_memory.proofs.Granted.{refused_neither}
use Rattle.ak_memory.specs.Granting.{is_granted, is_seen, walked_of}
use Rattle.ak_turns.proofs.ProgramTurns.Covered.{AreThose, are_those, are_walked, covered}
use Rattle.ak_turns.specs.Instructing.{memory_bytes}
use Rattle.ak_turns.proofs.ProgramTurns.Showing.{none_forbidden, all_allowed, shows, walked_in}
use Rattle.ak_turns.proofs.ProgramTurns.Walks.{IsKnown}

-- ---- Lists

-- what stands before the first that fails is of the list
taken_among : (f : Access → Bool) (xs : List Access) (t : Access) → is_among (take_while f xs) t ≡ true → is_among xs t ≡ true
taken_among f [] t some = some
taken_among f (x ∷ xs) t some = by_test (f x) (taken_among f xs t) (ap (λ ys. is_among ys t) (sym (take_while-cons f x xs)) ∙ some)
  where
    more : (a b c : Bool) → (b ≡ true → c ≡ true) → (a || b) ≡ true → (a || c) ≡ true
    more true b c g some = refl
    more false b c g some = g some

    by_test : (b : Bool) → (is_among (take_while f xs) t ≡ true → is_among xs t ≡ true) → is_among (cond b (x ∷ take_while f xs) []) t ≡ true → is_among (x ∷ xs) t ≡ true
    by_test true rest some = more (same_access t x) (is_among (take_while f xs) t) (is_among xs t) rest some
    by_test false rest some = cc

-- where one fails, it is of those that stand before that one
taken_before : (f : Access → Bool) (xs rest : List Access) (x t : Access) → f x ≡ false → is_among (take_while f (xs ++ x ∷ rest)) t ≡ true → is_among xs t ≡ true
taken_before f [] rest x t fails some =
    let none : is_among (cond (f x) (x ∷ take_while f rest) []) t ≡ true = ap (λ ys. is_among ys t) (sym (take_while-cons f x rest)) ∙ some in
    absurd (let wrong = ap (λ b. is_among (cond b (x ∷ take_while f rest) []) t) (sym fails) ∙ none in cc)
taken_before f (y ∷ xs) rest x t fails some =
    by_test (f y) (taken_before f xs rest x t fails) (ap (λ ys. is_among ys t) (sym (take_while-cons f y (xs ++ x ∷ rest))) ∙ some)
  where
    more : (a b c : Bool) → (b ≡ true → c ≡ true) → (a || b) ≡ true → (a || c) ≡ true
    more true b c g some = refl
    more false b c g some = g some

    by_test : (b : Bool) → (is_among (take_while f (xs ++ x ∷ rest)) t ≡ true → is_among xs t ≡ true)
        → is_among (cond b (y ∷ take_while f (xs ++ x ∷ rest)) []) t ≡ true → is_among (y ∷ xs) t ≡ true
    by_test true further some = more (same_access t y) (is_among (take_while f (xs ++ x ∷ rest)) t) (is_among xs t) further some
    by_test false further some = cc

next_is : (xs rest : List Access) (t : Access) → slice_get (xs ++ t ∷ rest) (length xs) ≡ Some t
next_is [] rest t = refl
next_is (x ∷ xs) rest t = next_is xs rest t

front_low : (layout : Layout) (xs ys : List Access) → AllLow layout (xs ++ ys) → AllLow layout xs
front_low layout [] ys low = tt
front_low layout (x ∷ xs) ys low = (low.0, front_low layout xs ys low.1)

next_low : (layout : Layout) (xs rest : List Access) (t : Access) → AllLow layout (xs ++ t ∷ rest) → t.page.0 < pages layout
next_low layout [] rest t low = low.0
next_low layout (x ∷ xs) rest t low = next_low layout xs rest t low.1

-- ---- Kept translations

few_back : (xs ys : List Access) → AreFew (xs ++ ys) → AreFew ys
few_back [] ys few = few
few_back (x ∷ xs) ys few = few_back xs ys (few_less x (xs ++ ys) few)

or_flip : (a b : Bool) → (a || b) ≡ (b || a)
or_flip true true = refl
or_flip true false = refl
or_flip false true = refl
or_flip false false = refl

flipped : (xs ys : List Access) (t : Access) → is_among (xs ++ ys) t ≡ is_among (ys ++ xs) t
flipped xs ys t = list_any-append (same_access t) xs ys ∙ or_flip (is_among xs t) (is_among ys t) ∙ sym (list_any-append (same_access t) ys xs)

-- a translation that is not found, of an access that is not among these, is not kept
unkept : (tlb : List Translation) (fills : List Fill) (granted : List Access) (t : Access) → HoldsFills tlb fills → frame_in (found tlb t) ≡ None → is_among granted t ≡ false
    → is_kept (accesses_of fills ++ granted) t ≡ false
unkept tlb fills granted t holds none apart = by_test (is_kept (granted ++ accesses_of fills) t) refl
  where
    right_of : (a b : Bool) → (a || b) ≡ true → a ≡ false → b ≡ true
    right_of true b some other = cc
    right_of false b some other = some

    both : (a b : Bool) → a ≡ true → b ≡ true → (a && b) ≡ true
    both true b e d = d
    both false b e d = cc

    by_test : (b : Bool) → is_kept (granted ++ accesses_of fills) t ≡ b → is_kept (accesses_of fills ++ granted) t ≡ false
    by_test false e = kept_same (accesses_of fills ++ granted) (granted ++ accesses_of fills) (flipped (accesses_of fills) granted) t ∙ e
    by_test true e =
        let parts = and_parts (is_among (granted ++ accesses_of fills) t) _ e in
        let among = right_of (is_among granted t) (is_among (accesses_of fills) t) (sym (list_any-append (same_access t) granted (accesses_of fills)) ∙ parts.0) apart in
        let few : AreFew (accesses_of fills) = few_back granted (accesses_of fills) parts.1 in
        let there : is_some (frame_in (found tlb t)) ≡ true = kept_found tlb fills t holds (both (is_among (accesses_of fills) t) _ among few) in
        absurd (let gone : is_some (frame_in (found tlb t)) ≡ false = ap is_some none in cc)

-- ---- A turn that traps

module _ (layout : Layout) (cpu : Cpu) (table : List Pte) (encls : Enclave) (k : IsKnown layout cpu table encls) (granted : List Access)
    (all : list_all (is_granted encls.entries table cpu.tlb) granted ≡ true) (state : State) (m : IsMachine layout cpu table encls state) where
  those : AreThose encls.entries table cpu.tlb granted (walked_of cpu.tlb granted)
  those = are_those encls.entries table cpu.tlb granted all

  -- the flat states that the memory shows, with the processor's registers
  abbrev pub Does : (Flat → Type 0) → Type 0
  Does does = (flat : Flat) → flat.regs ≡ cpu.regs → Shows layout (is_seen encls.entries table cpu.tlb) (memory_bytes encls.frames encls.entries) flat → does flat

  pub shows_vector : (v : ℕ) → Does (λ flat. Raises (line layout flat) v granted) → ShowsTrap layout cpu.lp.0 state v
  shows_vector v does flat sees =
      let raises = does flat (sym sees.regs ∙ m.processor.regs) (shows layout cpu table encls k state m flat sees) in
      let low : AllLow layout granted = subst (AllLow layout) (sym raises.all) (line_low layout flat) in
      let none : list_any (is_forbidden layout) (line layout flat).accesses ≡ false =
      subst (λ (accesses : List Access). list_any (is_forbidden layout) accesses ≡ false) raises.all (none_forbidden layout cpu table encls k granted all low) in
      record {
        ends = ap (λ b. if b then End.Vector 14 else (line layout flat).end) none ∙ raises.ends;
        walked = walked_of cpu.tlb granted;
        found = are_walked layout cpu table encls k state m granted (walked_of cpu.tlb granted) low those;
        covers = λ t some.
            let among : is_among granted t ≡ true =
            subst (λ (accesses : List Access). is_among accesses t ≡ true) (sym raises.all) (taken_among (λ u. not (is_forbidden layout u)) (line layout flat).accesses t some) in
            covered cpu.tlb (state.processors cpu.lp.0).fills m.processor.fills encls.entries table granted (walked_of cpu.tlb granted) those t among;
      }

  pub shows_denied : (t : Access) → is_forbidden layout t ≡ true → Does (λ flat. Refuses (line layout flat) t granted) → ShowsTrap layout cpu.lp.0 state 14
  shows_denied t forbidden does flat sees =
      let refuses = does flat (sym sees.regs ∙ m.processor.regs) (shows layout cpu table encls k state m flat sees) in
      let low : AllLow layout (granted ++ t ∷ refuses.rest) = subst (AllLow layout) refuses.next (line_low layout flat) in
      let some_forbidden : list_any (is_forbidden layout) (line layout flat).accesses ≡ true =
      ap (list_any (is_forbidden layout)) refuses.next ∙ list_any-append (is_forbidden layout) granted (t ∷ refuses.rest)
      ∙ ap (λ b. list_any (is_forbidden layout) granted || (b || list_any (is_forbidden layout) refuses.rest)) forbidden ∙ or_true (list_any (is_forbidden layout) granted) in
      record {
        ends = ap (λ b. if b then End.Vector 14 else (line layout flat).end) some_forbidden;
        walked = walked_of cpu.tlb granted;
        found = are_walked layout cpu table encls k state m granted (walked_of cpu.tlb granted) (front_low layout granted (t ∷ refuses.rest) low) those;
        covers = λ u some.
            let among : is_among granted u ≡ true =
            taken_before (λ v. not (is_forbidden layout v)) granted refuses.rest t u (ap not forbidden)
            (subst (λ (accesses : List Access). is_among (permitted_accesses layout accesses) u ≡ true) refuses.next some) in
            covered cpu.tlb (state.processors cpu.lp.0).fills m.processor.fills encls.entries table granted (walked_of cpu.tlb granted) those u among;
      }
    where
      or_true : (b : Bool) → (b || true) ≡ true
      or_true true = refl
      or_true false = refl

  -- ---- A turn that faults

  -- the refused access is of the program's pages
  pub refused_low : (t : Access) → Does (λ flat. Refuses (line layout flat) t granted) → (flat : Flat) → Sees layout state cpu.lp.0 flat → t.page.0 < pages layout
  refused_low t does flat sees =
      let refuses = does flat (sym sees.regs ∙ m.processor.regs) (shows layout cpu table encls k state m flat sees) in
      next_low layout granted refuses.rest t (subst (AllLow layout) refuses.next (line_low layout flat))

  -- it is none of those that were granted
  refused_apart : (t : Access) → is_granted encls.entries table cpu.tlb t ≡ false → is_among granted t ≡ false
  refused_apart t refused = by_test (is_among granted t) refl
    where
      by_test : (b : Bool) → is_among granted t ≡ b → is_among granted t ≡ false
      by_test false e = e
      by_test true e = absurd (let own = among_all (is_granted encls.entries table cpu.tlb) granted t all e in cc)

  -- it comes next
  next_there : (t : Access) → Does (λ flat. Refuses (line layout flat) t granted) → (flat : Flat) → Sees layout state cpu.lp.0 flat
      → (next : IsNext layout state (state.processors cpu.lp.0).fills flat t) × (take next.number (line layout flat).accesses ≡ granted)
  next_there t does flat sees =
      let refuses = does flat (sym sees.regs ∙ m.processor.regs) (shows layout cpu table encls k state m flat sees) in
      let low : AllLow layout (granted ++ t ∷ refuses.rest) = subst (AllLow layout) refuses.next (line_low layout flat) in
      let front : take (length granted) (line layout flat).accesses ≡ granted = ap (take (length granted)) refuses.next ∙ take-append_seam granted (t ∷ refuses.rest) in (
        record {
          number = length granted;
          stands = ap (λ accesses. slice_get accesses (length granted)) refuses.next ∙ next_is granted refuses.rest t;
          allowed = ap (list_all (λ u. not (is_forbidden layout u))) front ∙ all_allowed layout cpu table encls k granted all (front_low layout granted (t ∷ refuses.rest) low);
          walked = walked_of cpu.tlb granted;
          found = are_walked layout cpu table encls k state m granted (walked_of cpu.tlb granted) (front_low layout granted (t ∷ refuses.rest) low) those;
          covers = λ u some.
              covered cpu.tlb (state.processors cpu.lp.0).fills m.processor.fills encls.entries table granted (walked_of cpu.tlb granted) those u
              (ap (λ accesses. is_among accesses u) (sym front) ∙ some);
        },
        front,
      )

  pub shows_fault : (t : Access) → is_forbidden layout t ≡ false → is_granted encls.entries table cpu.tlb t ≡ false → Does (λ flat. Refuses (line layout flat) t granted)
      → ShowsFault layout cpu.lp.0 state t
  shows_fault t permitted refused does flat sees =
      let next = next_there t does flat sees in
      let l : t.page.0 < pages layout = refused_low t does flat sees in
      let neither = refused_neither encls.entries table cpu.tlb t refused in
      record {
        next = next.0;
        permitted = permitted;
        unmapped = sym (walked_in layout cpu table encls k state m t (omega arith)) ∙ neither.1;
        unkept = ap (λ accesses. is_kept (accesses_of (state.processors cpu.lp.0).fills ++ accesses) t) next.1
            ∙ unkept cpu.tlb (state.processors cpu.lp.0).fills granted t m.processor.fills neither.0 (refused_apart t refused);
      }

  -- a denied access comes next, too
  pub shows_refusal : (t : Access) → is_forbidden layout t ≡ true → Does (λ flat. Refuses (line layout flat) t granted) → ShowsDenied layout cpu.lp.0 state t
  shows_refusal t forbidden does = (forbidden, λ flat sees. (next_there t does flat sees).0)
