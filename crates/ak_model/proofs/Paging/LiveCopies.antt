-- Every page has at most one live copy: the frame or the handle that its place names.
use Rattle.std.proofs.Common.{◌≡◌, ℕ, ◌+◌, ◌<◌, arith, refl, subst}
use Rattle.std.specs.Prelude.{Bool, false, ◌&&◌, ◌||◌, if◌then◌else◌, Option, Some, None, ◌==◌}
use Rattle.std.proofs.lemmas.Bool.Decides.{nat_tests}
use Rattle.std.proofs.lemmas.Bool.{or_parts}
use Rattle.ak_model.specs.Paging.Holdings.{Held, FreeFrame, VaFrame, PageFrame, Place, InFrame, InHandle, Gone}
use Rattle.ak_model.specs.Laws.OneLiveCopy.{Agrees}

module _ (held : ℕ → Held) (place : ℕ → Place) (slot : ℕ → ℕ → Option ℕ) (given : ℕ) (page_of : ℕ → ℕ) (discarded : ℕ → Bool) (old : Agrees held place slot given page_of discarded) where
  -- a load
  pub loads : (f k q va i : ℕ) → held f ≡ FreeFrame → slot va i ≡ Some k → discarded k ≡ false → page_of k ≡ q → Agrees (λ g. if g == f then PageFrame q else held g) (λ p. if p == q then InFrame f else place p) (λ wa j. if (wa == va) && (j == i) then None else slot wa j) given page_of discarded
  loads f k q va i hf hs hd hq =
      let pq : place q ≡ InHandle k = subst (λ x. place x ≡ InHandle k) hq (old.newest va i k hs hd) in
      record {
        framed = λ p g h. let a = old.framed p g in grind (arith, nat_tests, a);
        placed = λ p g h. let a = old.placed p g in grind (arith, nat_tests, a);
        named = λ p j h. let a = old.named p j in grind (arith, nat_tests, a);
        known = λ p j h. let a = old.known p j in grind (arith, nat_tests, a);
        kept = λ p j h. let a = old.kept p j in grind (arith, nat_tests, a);
        slotted = λ wa j l h. let a = old.slotted wa j l in grind (arith, nat_tests, a);
        newest = λ wa j l h d. let a = old.newest wa j l in let b = old.same_va va i wa j l in let c = old.same_slot va i wa j l in grind (arith, nat_tests, a, b, c);
        same_va = λ wa j xa m l h h'. let a = old.same_va wa j xa m l in grind (arith, nat_tests, a);
        same_slot = λ wa j xa m l h h'. let a = old.same_slot wa j xa m l in grind (arith, nat_tests, a);
        gone = old.gone;
      }

  -- a write-out, which gives the next handle
  pub writes_out : (f q va i : ℕ) → held f ≡ PageFrame q → Agrees (λ g. if g == f then FreeFrame else held g) (λ p. if p == q then InHandle given else place p) (λ wa j. if (wa == va) && (j == i) then Some given else slot wa j) (given + 1) (λ j. if j == given then q else page_of j) discarded
  writes_out f q va i hf =
      let pq : place q ≡ InFrame f = old.placed q f hf in
      record {
        framed = λ p g h. let a = old.framed p g in grind (arith, nat_tests, a);
        placed = λ p g h. let a = old.placed p g in grind (arith, nat_tests, a);
        named = λ p j h. let a = old.named p j in let b = old.known p j in grind (arith, nat_tests, a, b);
        known = λ p j h. let a = old.known p j in grind (arith, nat_tests, a);
        kept = λ p j h. let a = old.kept p j in let b = old.gone j in grind (arith, nat_tests, a, b);
        slotted = λ wa j l h. let a = old.slotted wa j l in grind (arith, nat_tests, a);
        newest = λ wa j l h d. let a = old.newest wa j l in let b = old.slotted wa j l in grind (arith, nat_tests, a, b);
        same_va = λ wa j xa m l h h'. let a = old.same_va wa j xa m l in let b = old.slotted wa j l in let c = old.slotted xa m l in grind (arith, nat_tests, a, b, c);
        same_slot = λ wa j xa m l h h'. let a = old.same_slot wa j xa m l in let b = old.slotted wa j l in let c = old.slotted xa m l in grind (arith, nat_tests, a, b, c);
        gone = λ k h. let a = old.gone k h in omega arith;
      }

  -- the removal of a page
  pub removes : (f q : ℕ) → held f ≡ PageFrame q → Agrees (λ g. if g == f then FreeFrame else held g) (λ p. if p == q then Gone else place p) slot given page_of discarded
  removes f q hf =
      let pq : place q ≡ InFrame f = old.placed q f hf in
      record {
        framed = λ p g h. let a = old.framed p g in grind (arith, nat_tests, a);
        placed = λ p g h. let a = old.placed p g in grind (arith, nat_tests, a);
        named = λ p j h. let a = old.named p j in grind (arith, nat_tests, a);
        known = λ p j h. let a = old.known p j in grind (arith, nat_tests, a);
        kept = λ p j h. let a = old.kept p j in grind (arith, nat_tests, a);
        slotted = old.slotted;
        newest = λ wa j l h d. let a = old.newest wa j l h d in grind (arith, nat_tests, a);
        same_va = old.same_va;
        same_slot = old.same_slot;
        gone = old.gone;
      }

  -- the removal of a frame that holds no page
  pub frees : (f : ℕ) → ((q : ℕ) → held f ≡ PageFrame q → ⊥) → Agrees (λ g. if g == f then FreeFrame else held g) place slot given page_of discarded
  frees f hf = record {
    framed = λ p g h. let a = old.framed p g h in let b = hf p in grind (arith, nat_tests, a, b);
    placed = λ p g h. let a = old.placed p g in grind (arith, nat_tests, a);
    named = old.named;
    known = old.known;
    kept = old.kept;
    slotted = old.slotted;
    newest = old.newest;
    same_va = old.same_va;
    same_slot = old.same_slot;
    gone = old.gone;
  }

  -- a new VA page
  pub makes_va : (f : ℕ) → held f ≡ FreeFrame → Agrees (λ g. if g == f then VaFrame else held g) place (λ wa j. if wa == f then None else slot wa j) given page_of discarded
  makes_va f hf = record {
    framed = λ p g h. let a = old.framed p g h in grind (arith, nat_tests, a);
    placed = λ p g h. let a = old.placed p g in grind (arith, nat_tests, a);
    named = old.named;
    known = old.known;
    kept = old.kept;
    slotted = λ wa j l h. let a = old.slotted wa j l in grind (arith, nat_tests, a);
    newest = λ wa j l h d. let a = old.newest wa j l in grind (arith, nat_tests, a);
    same_va = λ wa j xa m l h h'. let a = old.same_va wa j xa m l in grind (arith, nat_tests, a);
    same_slot = λ wa j xa m l h h'. let a = old.same_slot wa j xa m l in grind (arith, nat_tests, a);
    gone = old.gone;
  }

  gone_sealed : (k : ℕ) (x : Place) (j : ℕ) → Rattle.ak_model.specs.Paging.Handles.gone_if x k ≡ InHandle j → (x ≡ InHandle j) × (j ≡ k → ⊥)
  gone_sealed k (InHandle l) j h = (grind (arith, nat_tests), λ e. grind (arith, nat_tests))
  gone_sealed k (InFrame f) j h = absurd (cc)
  gone_sealed k Gone j h = absurd (cc)

  gone_framed : (k : ℕ) (x : Place) (f : ℕ) → Rattle.ak_model.specs.Paging.Handles.gone_if x k ≡ InFrame f → x ≡ InFrame f
  gone_framed k (InHandle l) f h = absurd (grind (arith, nat_tests))
  gone_framed k (InFrame g) f h = h
  gone_framed k Gone f h = absurd (cc)

  keeps_sealed : (k : ℕ) (x : Place) (j : ℕ) → x ≡ InHandle j → (j == k) ≡ false → Rattle.ak_model.specs.Paging.Handles.gone_if x k ≡ InHandle j
  keeps_sealed k x j e d = rw e (rw d refl)

  keeps_framed : (k : ℕ) (x : Place) (f : ℕ) → x ≡ InFrame f → Rattle.ak_model.specs.Paging.Handles.gone_if x k ≡ InFrame f
  keeps_framed k x f e = rw e refl

  -- a handle is discarded
  pub discards : (k : ℕ) → k < given → Agrees held (λ p. Rattle.ak_model.specs.Paging.Handles.gone_if (place p) k) slot given page_of (λ j. (j == k) || discarded j)
  discards k hk = record {
    framed = λ p g h. old.framed p g (gone_framed k (place p) g h);
    placed = λ p g h. keeps_framed k (place p) g (old.placed p g h);
    named = λ p j h. old.named p j (gone_sealed k (place p) j h).0;
    known = λ p j h. old.known p j (gone_sealed k (place p) j h).0;
    kept = λ p j h. let a = old.kept p j (gone_sealed k (place p) j h).0 in let b = (gone_sealed k (place p) j h).1 in grind (arith, nat_tests, a, b);
    slotted = old.slotted;
    newest = λ va i j h d. keeps_sealed k (place (page_of j)) j (old.newest va i j h (or_parts (j == k) (discarded j) d).1) (or_parts (j == k) (discarded j) d).0;
    same_va = old.same_va;
    same_slot = old.same_slot;
    gone = λ j h. let a = old.gone j in grind (arith, nat_tests, a);
  }
