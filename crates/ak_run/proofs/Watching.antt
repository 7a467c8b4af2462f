-- The accesses that are watched, and those of them that a move lost.
use Rattle.std.proofs.Common.{◌≡◌, ℕ, ◌<◌, Bool, true, false, inl, inr, refl, ap, sym, ◌∙◌, eq-eqb}
use Rattle.std.proofs.lemmas.Bool.Decides.{eqb_tells}
use Rattle.std.specs.Prelude.{◌&&◌, not, ◌==◌}
use Rattle.ak_core.specs.Layout.{Layout}
use Rattle.ak_core.specs.Mem.{Access}
use Rattle.ak_core.specs.declared.page.Kind.{Kind}
use Rattle.ak_core.specs.declared.page.Kind.TheVariants.{Read, Write, Exec}
use Rattle.ak_model.specs.Paging.Histories.{History}
use Rattle.ak_model.specs.Paging.Pages.{all_pages}
use Rattle.ak_model.specs.Paging.Walk.{access_walkable, walkable}
use Rattle.ak_run.specs.Watching.{AreLeft, finds, watches}
use Rattle.ak_run.specs.declared.watch.Found.{Found}
use Rattle.ak_run.specs.declared.watch.Watch.{Watch}

-- what is left of one access that was watched
left_one : (here old new walks_here walks : Bool) → new ≡ (old && not walks_here) → (here ≡ true → walks_here ≡ walks) → (here && new) ≡ ((here && old) && not walks)
left_one false old new walks_here walks is same = refl
left_one true old new walks_here walks is same = is ∙ ap (λ w. old && not w) (same refl)

-- each kind on its own
pub by_kind : (found : Found) (walks : Kind → Bool) (read write exec : Bool) → read ≡ (found.read && not (walks Read)) → write ≡ (found.write && not (walks Write)) →
    exec ≡ (found.exec && not (walks Exec)) → (kind : Kind) → finds (record { read = read; write = write; exec = exec }) kind ≡ (finds found kind && not (walks kind))
by_kind found walks read write exec r w x Read = r
by_kind found walks read write exec r w x Write = w
by_kind found walks read write exec r w x Exec = x

-- an access whose page is the watched one
same_page : (p q : ℕ) → (p == q) ≡ true → p ≡ q
same_page p q same =
    elim (eqb_tells p q) [
      | inl told ↦ told.1
      | inr told ↦ let other = told.0 in cc
    ]

module _ (layout : Layout) (past : History) (watch : Watch) where
  -- what was found is of a page of the enclave
  pub found_low : ((t : Access) → watches watch t ≡ true → t.page.0 < all_pages layout) → (kind : Kind) → finds watch.found kind ≡ true → watch.page.0 < all_pages layout
  found_low low kind found =
      let here : (watch.page.0 == watch.page.0) ≡ true = eq-eqb watch.page.0 watch.page.0 refl in
      let t : Access = record { page = watch.page; kind = kind } in
      low t (cc)

  pub are_left : (new : Found) → ((kind : Kind) → finds new kind ≡ (finds watch.found kind && not (walkable layout past watch.page.0 kind))) →
      AreLeft layout past watch (record { page = watch.page; found = new })
  are_left new is t =
      left_one (t.page.0 == watch.page.0) (finds watch.found t.kind) (finds new t.kind) (walkable layout past watch.page.0 t.kind) (access_walkable layout past t) (is t.kind)
      (λ same. ap (λ p. walkable layout past p t.kind) (sym (same_page t.page.0 watch.page.0 same)))
