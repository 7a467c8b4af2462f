-- What walks find: the runtime's pages and each page that is in, and none that is out.
use Rattle.std.proofs.Common.{◌≡◌, ℕ, ◌+◌, ◌-◌, ◌<◌, List, length, arith, refl, ◌∙◌, subst, ap}
use Rattle.std.specs.Prelude.{Bool, true, false, ◌&&◌, Some, nat_lt, ◌==◌, slice_get, get_or}
use Rattle.std.proofs.lemmas.Bool.{lt-ltb}
use Rattle.std.proofs.lemmas.Option.{slice_get-get_or}
use Rattle.std.proofs.lemmas.Bool.Decides.{nat_tests}
use Rattle.ak_core.specs.Layout.{Layout}
use Rattle.ak_core.specs.declared.page.Kind.{Kind}
use Rattle.ak_core.specs.declared.page.Kind.TheVariants.{Read, Write, Exec}
use Rattle.ak_core.specs.declared.page.Perm.{Perm}
use Rattle.ak_core.specs.declared.page.Perm.TheVariants.{R, Rw, Rx}
use Rattle.ak_model.specs.Paging.Pages.{pages, ssa_page, state_page, code_page, perm_of, permits, permits_by, strong_by, strong_flags, flags_for, no_flags, allows}
use Rattle.ak_model.specs.Paging.Build.{entry_at_build}
use Rattle.ak_model.specs.Paging.Histories.{History}
use Rattle.ak_model.specs.Paging.PageTable.{pte}
use Rattle.ak_model.specs.Paging.Walk.{walkable, tcs_walkable, flags_allow, is_in_frame}
use Rattle.ak_model.specs.Kernels.KernelRules.{is_mapped}
use Rattle.ak_model.specs.Kernels.Evictions.{is_unmapped}
use Rattle.ak_model.specs.Laws.OneLiveCopy.{OneCopy}
use Rattle.ak_driver.proofs.Invariant.PageStates.{PageState, Out, In, IsInState}
use Rattle.ak_driver.proofs.Invariant.Untouched.{Untouched}
use Rattle.ak_driver.proofs.Invariant.PagesStand.{PagesStand}

-- the flags for all that a permission allows let its strongest access through
strong_lets : (perm : Perm) → (permits_by (Some perm) (strong_by (Some perm)) ≡ true) × (flags_allow (strong_flags (Some perm)) (strong_by (Some perm)) ≡ true)
strong_lets R = (refl, refl)
strong_lets Rw = (refl, refl)
strong_lets Rx = (refl, refl)

-- without flags nothing is let through
pub none_lets : (kind : Kind) → flags_allow no_flags kind ≡ false
none_lets Read = refl
none_lets Write = refl
none_lets Exec = refl

pub and_false : (b : Bool) → (b && false) ≡ false
and_false true = refl
and_false false = refl

-- each page of a list has a permission
pub some_perm : (perms : List Perm) (p : ℕ) → p < length perms → (perm : Perm) × (slice_get perms p ≡ Some perm)
some_perm perms p low = (get_or perms p R, slice_get-get_or perms p R low)

module _ (layout : Layout) (past : History) (untouched : Untouched layout past) where
  runtime_frame : (i p : ℕ) → i < 6 → p ≡ pages layout + i → is_in_frame layout past p (2 + i) ≡ true
  runtime_frame i p low e =
      let a = untouched.same.runtime i low in let b = untouched.same.unblocked (2 + i) (omega arith) in
      let c : (p == pages layout + i) ≡ true = grind (arith, nat_tests) in
      rw (a, b, c) refl

  -- a page of the runtime for which the build's entry and the permission are these
  runtime_walks : (i p : ℕ) (perm : Perm) (kind : Kind) → i < 6 → p ≡ pages layout + i → perm_of layout p ≡ Some perm → allows perm kind ≡ true
      → entry_at_build layout p ≡ record { frame = 2 + i; flags = flags_for perm } → flags_allow (flags_for perm) kind ≡ true → walkable layout past p kind ≡ true
  runtime_walks i p perm kind low e permitted allowed entry lets =
      let a : pte layout past p ≡ record { frame = 2 + i; flags = flags_for perm } = untouched.same.entries p (omega arith) (omega arith) ∙ entry in
      let b = runtime_frame i p low e in
      rw (permitted, allowed, a, lets, b) refl

  -- the areas for saved contexts, STATE, CODE and the TCS
  pub ssa_walks : (i : ℕ) → i < 3 → walkable layout past (ssa_page layout i) Write ≡ true
  ssa_walks i low =
      let n = pages layout in
      let a : nat_lt (n + 1 + i) n ≡ false = grind (arith, nat_tests) in
      let b : (n + 1 + i == n) ≡ false = grind (arith, nat_tests) in
      let c : nat_lt (n + 1 + i) (n + 5) ≡ true = grind (arith, nat_tests) in
      let d : n + 1 + i - n + 2 ≡ 2 + (1 + i) = omega arith in
      runtime_walks (1 + i) (ssa_page layout i) Rw Write (omega arith) (omega arith) (rw (a, b, c) refl) refl (rw (a, b, c, d) refl) refl

  pub state_walks : walkable layout past (state_page layout) Write ≡ true
  state_walks =
      let n = pages layout in
      let a : nat_lt (n + 4) n ≡ false = grind (arith, nat_tests) in
      let b : (n + 4 == n) ≡ false = grind (arith, nat_tests) in
      let c : nat_lt (n + 4) (n + 5) ≡ true = grind (arith, nat_tests) in
      let d : n + 4 - n + 2 ≡ 6 = omega arith in
      runtime_walks 4 (state_page layout) Rw Write (omega arith) refl (rw (a, b, c) refl) refl (rw (a, b, c, d) refl) refl

  pub code_walks : walkable layout past (code_page layout) Exec ≡ true
  code_walks =
      let n = pages layout in
      let a : nat_lt (n + 5) n ≡ false = grind (arith, nat_tests) in
      let b : (n + 5 == n) ≡ false = grind (arith, nat_tests) in
      let c : nat_lt (n + 5) (n + 5) ≡ false = grind (arith, nat_tests) in
      let d : (n + 5 == n + 5) ≡ true = grind (arith, nat_tests) in
      runtime_walks 5 (code_page layout) Rx Exec (omega arith) refl (rw (a, b, c, d) refl) refl (rw (a, b, c) refl) refl

  pub tcs_walks : tcs_walkable layout past ≡ true
  tcs_walks =
      let n = pages layout in
      let a : nat_lt n n ≡ false = grind (arith, nat_tests) in
      let b : (n == n) ≡ true = grind (arith, nat_tests) in
      let e : pte layout past n ≡ record { frame = 2; flags = flags_for R } = untouched.same.entries n (omega arith) (omega arith) ∙ rw (a, b) refl in
      let f = runtime_frame 0 n (omega arith) (omega arith) in
      rw (e, f) refl

module _ (layout : Layout) (past : History) (states : ℕ → PageState) (copies : OneCopy layout past) (old : PagesStand layout past states) where
  -- a page that is in is mapped
  pub in_mapped : (p : ℕ) → p < pages layout → states p ≡ In → is_mapped layout past p ≡ true
  in_mapped p low e =
      let was : IsInState layout past p In = subst (λ s. IsInState layout past p s) e (old.each p low) in
      let perm = some_perm layout.perms p low in
      let small : nat_lt p (pages layout) ≡ true = lt-ltb p (pages layout) low in
      let has : perm_of layout p ≡ Some perm.0 = rw small perm.1 in
      let entry : pte layout past p ≡ record { frame = was.0.frame; flags = strong_flags (Some perm.0) } = was.2 ∙ ap (λ o. record { frame = was.0.frame; flags = strong_flags o }) has in
      let holds = copies.framed p was.0.frame was.0.placed in let free = was.1 in
      let s : (p == p) ≡ true = grind (arith, nat_tests) in
      let lets = strong_lets perm.0 in let one = lets.0 in let two = lets.1 in
      rw (has, one, entry, two, holds, free, s) refl

  -- no walk finds a page without flags
  pub bare_unmapped : (p : ℕ) → (pte layout past p).flags ≡ no_flags → is_unmapped layout past p ≡ true
  bare_unmapped p e =
      let r = none p Read e in let w = none p Write e in let x = none p Exec e in
      rw (r, w, x) refl
    where
      none : (p : ℕ) (kind : Kind) → (pte layout past p).flags ≡ no_flags → walkable layout past p kind ≡ false
      none p kind e = let n = none_lets kind in rw (e, n) (and_false (permits layout p kind))

  pub out_unmapped : (p : ℕ) → p < pages layout → states p ≡ Out → is_unmapped layout past p ≡ true
  out_unmapped p low e =
      let was : IsInState layout past p Out = subst (λ s. IsInState layout past p s) e (old.each p low) in
      bare_unmapped p was.1
