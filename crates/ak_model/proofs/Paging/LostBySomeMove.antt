-- What the build mapped was lost by some move, where no walk finds it any more.
use Rattle.std.proofs.Common.{◌≡◌, ℕ, ◌+◌, ◌<◌, ◌≤◌, [], length, drop, arith, refl, sym, subst, ◌∙◌}
use Rattle.std.specs.Prelude.{true, false, Bool, nat_lt}
use Rattle.std.proofs.lemmas.Bool.{ltb-true, ltb-false}
use Rattle.std.proofs.lemmas.Bool.Decides.{nat_tests}
use Rattle.std.proofs.lemmas.List.{drop_all}
use Rattle.ak_core.specs.Layout.{Layout}
use Rattle.ak_core.specs.Mem.{Access}
use Rattle.ak_core.specs.declared.page.Kind.{Kind}
use Rattle.ak_core.specs.declared.page.Kind.TheVariants.{Write, Exec}
use Rattle.ak_model.specs.Paging.Pages.{pages, all_pages, strong_kind}
use Rattle.ak_model.specs.Paging.Histories.{History}
use Rattle.ak_model.specs.Paging.Walk.{walkable, access_walkable}
use Rattle.ak_model.specs.Stops.Blame.{lost_at}
use Rattle.ak_model.specs.Laws.Orderly.{IsOwnAccess}
use Rattle.ak_model.proofs.Paging.LostAccess.{lost_some}

-- what was found after the build was lost by some move
pub lost-built : (layout : Layout) (past : History) (t : Access) → access_walkable layout [] t ≡ true → access_walkable layout past t ≡ false → 1 ≤ lost_at layout past t
lost-built layout past t built h =
    let none : drop (length past) past ≡ [] = drop_all (length past) past (omega arith) in
    lost_some layout t past h (length past) (subst (λ before. access_walkable layout before t ≡ true) (sym none) built)

module _ (layout : Layout) where
  -- the build maps the runtime's pages for all that they allow
  write_mapped : (p : ℕ) → pages layout < p → p < pages layout + 5 → walkable layout [] p Write ≡ true
  write_mapped p low high = grind (arith, nat_tests)

  code_mapped : (p : ℕ) → p ≡ pages layout + 5 → walkable layout [] p Exec ≡ true
  code_mapped p e = grind (arith, nat_tests)

  own_by : (p : ℕ) (kind : Kind) (below : Bool) → nat_lt p (pages layout + 5) ≡ below → pages layout < p → p < all_pages layout → kind ≡ strong_kind layout p → walkable layout [] p kind ≡ true
  own_by p kind true e low high k =
      let l = ltb-true p (pages layout + 5) e in
      let same : strong_kind layout p ≡ Write = grind (arith, nat_tests) in
      subst (λ x. walkable layout [] p x ≡ true) (sym (k ∙ same)) (write_mapped p low l)
  own_by p kind false e low high k =
      let l = ltb-false p (pages layout + 5) e in
      let last : p ≡ pages layout + 5 = omega arith in
      let same : strong_kind layout p ≡ Exec = grind (arith, nat_tests) in
      subst (λ x. walkable layout [] p x ≡ true) (sym (k ∙ same)) (code_mapped p last)

  -- an access of the runtime's own was lost by some move
  pub lost-own : (past : History) (t : Access) → IsOwnAccess layout t → access_walkable layout past t ≡ false → 1 ≤ lost_at layout past t
  lost-own past t own h = lost-built layout past t (own_by t.page.0 t.kind (nat_lt t.page.0 (pages layout + 5)) refl own.0 own.1 own.2) h
