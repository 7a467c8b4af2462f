-- Whether a translation is kept depends only on which accesses were granted, and not on their order or number.
use Rattle.std.proofs.Math.Path.{fun_ext}
use Rattle.std.proofs.Common.{◌≡◌, ℕ, ◌+◌, ◌*◌, ◌≤◌, List, [], ◌∷◌, length, map, refl, ap, sym, ◌∙◌, subst, arith}
use Rattle.std.proofs.lemmas.Bool.{eqb-true, eq-eqb}
use Rattle.std.proofs.lemmas.List.{length-map}
use Rattle.std.specs.Prelude.{Bool, true, false, ◌&&◌, ◌||◌, cond, filter, nat_le, ◌%◌, ◌==◌}
use Rattle.std.specs.List.{list_all, range_with_len}
use Rattle.ak_core.specs.Mem.{Access, access_to}
use Rattle.ak_core.specs.declared.page.Kind.{Kind}
use Rattle.ak_core.specs.declared.page.Kind.TheVariants.{Read, Write, Exec}
use Rattle.ak_model.specs.Clusters.Queue.{is_in}
use Rattle.ak_model.specs.Laws.Orderly.{IsDistinct}
use Rattle.ak_model.specs.Misses.KeptTranslations.{same_access, is_among, unless_there, distinct, are_few_of, is_kept}
use Rattle.ak_model.proofs.Misses.MissesInARow.{AreAmong, few_distinct}
use Rattle.ak_model.proofs.Misses.EqualAccesses.{access_is, access_self}

-- ---- Accesses as numbers

-- a kind as a number
abbrev kind_code : Kind → ℕ
kind_code Read = 0
kind_code Write = 1
kind_code Exec = 2

-- an access as a number
abbrev code : Access → ℕ
code t = 3 * t.page.0 + kind_code t.kind

kind_low : (k : Kind) → kind_code k ≤ 2
kind_low Read = omega arith
kind_low Write = omega arith
kind_low Exec = omega arith

kind_back : (k l : Kind) → kind_code k ≡ kind_code l → k ≡ l
kind_back Read Read e = refl
kind_back Write Write e = refl
kind_back Exec Exec e = refl
kind_back Read Write e = absurd (omega arith)
kind_back Read Exec e = absurd (omega arith)
kind_back Write Read e = absurd (omega arith)
kind_back Write Exec e = absurd (omega arith)
kind_back Exec Read e = absurd (omega arith)
kind_back Exec Write e = absurd (omega arith)

code_back : (t u : Access) → code t ≡ code u → t ≡ u
code_back t u e =
    let a = kind_low t.kind in
    let b = kind_low u.kind in
    let page : t.page.0 ≡ u.page.0 = omega arith in
    let kind : kind_code t.kind ≡ kind_code u.kind = omega arith in
    ap (λ (n : ℕ). access_to n t.kind) page ∙ ap (access_to u.page.0) (kind_back t.kind u.kind kind)

-- ---- Members

-- a member of a list with this number
pub record HasCode (xs : List Access) (c : ℕ) : Type 0 where
  pub access : Access
  pub among : is_among xs access ≡ true
  pub coded : code access ≡ c

code_of : (xs : List Access) (c : ℕ) → is_in (map code xs) c ≡ true → HasCode xs c
code_of [] c h = absurd (cc)
code_of (x ∷ xs) c h = by_first (code x == c) refl (λ k. code_of xs c k) h
  where
    or_more : (a : Bool) (t : Access) → is_among xs t ≡ true → (a || is_among xs t) ≡ true
    or_more true t e = refl
    or_more false t e = e

    by_first : (b : Bool) → (code x == c) ≡ b → (is_in (map code xs) c ≡ true → HasCode xs c) → (b || is_in (map code xs) c) ≡ true → HasCode (x ∷ xs) c
    by_first true e more k = record { access = x; among = ap (λ b. b || is_among xs x) (access_self x); coded = eqb-true (code x) c e }
    by_first false e more k = let rest = more k in record { access = rest.access; among = or_more (same_access rest.access x) rest.access rest.among; coded = rest.coded }

in_codes : (xs : List Access) (t : Access) → is_among xs t ≡ true → is_in (map code xs) (code t) ≡ true
in_codes [] t h = absurd (cc)
in_codes (x ∷ xs) t h = by_first (same_access t x) refl (λ k. in_codes xs t k) h
  where
    or_more : (a b : Bool) → b ≡ true → (a || b) ≡ true
    or_more true b e = refl
    or_more false b e = e

    by_first : (b : Bool) → same_access t x ≡ b → (is_among xs t ≡ true → is_in (map code xs) (code t) ≡ true) → (b || is_among xs t) ≡ true → ((code x == code t) || is_in (map code xs) (code t)) ≡ true
    by_first true e more k = ap (λ b. b || is_in (map code xs) (code t)) (eq-eqb (code x) (code t) (sym (ap code (access_is t x e))))
    by_first false e more k = or_more (code x == code t) (is_in (map code xs) (code t)) (more k)

module _ (P : Access → Bool) where
  pub filter_among : (xs : List Access) (t : Access) → is_among (filter P xs) t ≡ (P t && is_among xs t)
  filter_among [] t = none (P t)
    where
      none : (b : Bool) → false ≡ (b && false)
      none true = refl
      none false = refl
  filter_among (x ∷ xs) t = by_first (same_access t x) (P x) refl refl (filter_among xs t)
    where
      by_first : (s b : Bool) → same_access t x ≡ s → P x ≡ b → is_among (filter P xs) t ≡ (P t && is_among xs t) → is_among (cond b (x ∷ filter P xs) (filter P xs)) t ≡ (P t && (s || is_among xs t))
      by_first true true e p more = let own : P t ≡ true = ap P (access_is t x e) ∙ p in rw (e, own) refl
      by_first true false e p more = let own : P t ≡ false = ap P (access_is t x e) ∙ p in more ∙ rw own refl
      by_first false true e p more = ap (λ s. s || is_among (filter P xs) t) e ∙ more
      by_first false false e p more = more

distinct_among : (xs : List Access) (t : Access) → is_among (distinct xs) t ≡ is_among xs t
distinct_among [] t = refl
distinct_among (x ∷ xs) t = by_there (is_among xs x) refl (distinct_among xs t)
  where
    by_same : (s : Bool) → same_access t x ≡ s → is_among xs x ≡ true → is_among xs t ≡ (s || is_among xs t)
    by_same true e there = ap (is_among xs) (access_is t x e) ∙ there
    by_same false e there = refl

    by_there : (b : Bool) → is_among xs x ≡ b → is_among (distinct xs) t ≡ is_among xs t → is_among (unless_there b x (distinct xs)) t ≡ (same_access t x || is_among xs t)
    by_there true e more = more ∙ by_same (same_access t x) refl e
    by_there false e more = ap (λ b. same_access t x || b) more

-- ---- Different accesses

module _ (P : Access → Bool) where
  codes_distinct : (xs : List Access) → IsDistinct (map code (filter P (distinct xs)))
  codes_distinct [] = tt
  codes_distinct (x ∷ xs) = by_there (is_among xs x) refl (codes_distinct xs)
    where
      apart : (b : Bool) → is_in (map code (filter P (distinct xs))) (code x) ≡ b → is_among xs x ≡ false → b ≡ false
      apart false e gone = refl
      apart true e gone =
          absurd (let found = code_of (filter P (distinct xs)) (code x) e in
          let is = code_back found.access x found.coded in
          let there : is_among (filter P (distinct xs)) x ≡ true = subst (λ t. is_among (filter P (distinct xs)) t ≡ true) is found.among in
          let both : (P x && is_among xs x) ≡ true = ap (λ b. P x && b) (sym (distinct_among xs x)) ∙ sym (filter_among P (distinct xs) x) ∙ there in
          no_both (P x) (is_among xs x) gone both)
        where
          no_both : (a b : Bool) → b ≡ false → (a && b) ≡ true → ⊥
          no_both true b e h = cc
          no_both false b e h = cc

      by_kept : (b : Bool) → is_among xs x ≡ false → IsDistinct (map code (filter P (distinct xs))) → IsDistinct (map code (cond b (x ∷ filter P (distinct xs)) (filter P (distinct xs))))
      by_kept true e more = (apart (is_in (map code (filter P (distinct xs))) (code x)) refl e, more)
      by_kept false e more = more

      by_there : (b : Bool) → is_among xs x ≡ b → IsDistinct (map code (filter P (distinct xs))) → IsDistinct (map code (filter P (unless_there b x (distinct xs))))
      by_there true e more = more
      by_there false e more = by_kept (P x) e more

  fewer : (xs ys : List Access) → ((t : Access) → is_among xs t ≡ is_among ys t) → length (filter P (distinct xs)) ≤ length (filter P (distinct ys))
  fewer xs ys same =
      let le : length (map code (filter P (distinct xs))) ≤ length (map code (filter P (distinct ys))) =
      few_distinct (map code (filter P (distinct xs))) (map code (filter P (distinct ys))) (codes_distinct xs) among in
      omega (arith, length-map (filter P (distinct xs)) code, length-map (filter P (distinct ys)) code)
    where
      moved : (t : Access) → is_among (filter P (distinct xs)) t ≡ is_among (filter P (distinct ys)) t
      moved t =
          filter_among P (distinct xs) t ∙ ap (λ b. P t && b) (distinct_among xs t ∙ same t ∙ sym (distinct_among ys t)) ∙ sym (filter_among P (distinct ys) t)

      among : AreAmong (map code (filter P (distinct ys))) (map code (filter P (distinct xs)))
      among c h =
          let found = code_of (filter P (distinct xs)) c h in
          subst (λ n. is_in (map code (filter P (distinct ys))) n ≡ true) found.coded (in_codes (filter P (distinct ys)) found.access (sym (moved found.access) ∙ found.among))

-- ---- Kept translations

few_same : (xs ys : List Access) → ((t : Access) → is_among xs t ≡ is_among ys t) → (r : ℕ) → are_few_of xs r ≡ are_few_of ys r
few_same xs ys same r =
    let a = fewer (λ t. t.page.0 % 16 == r) xs ys same in
    let b = fewer (λ t. t.page.0 % 16 == r) ys xs (λ t. sym (same t)) in
    let size : length (filter (λ (t : Access). t.page.0 % 16 == r) (distinct xs)) ≡ length (filter (λ (t : Access). t.page.0 % 16 == r) (distinct ys)) = omega arith in
    ap (λ n. nat_le n 4) size

-- lists with the same accesses keep the same
pub kept_same : (xs ys : List Access) → ((t : Access) → is_among xs t ≡ is_among ys t) → (t : Access) → is_kept xs t ≡ is_kept ys t
kept_same xs ys same t =
    ap (λ b. b && list_all (are_few_of xs) (range_with_len 0 16)) (same t)
    ∙ ap (λ (few : ℕ → Bool). is_among ys t && list_all few (range_with_len 0 16)) (fun_ext (few_same xs ys same))
