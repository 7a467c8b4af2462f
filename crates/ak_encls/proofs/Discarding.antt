-- A sealed page that is given up.
use Rattle.std.proofs.Common.{◌≡◌, ◌⊎◌, inl, inr, ℕ, ◌<◌, Bool, true, false, ◌==◌, if◌then◌else◌, List, length, get_or, refl, ap, sym, ◌∙◌, subst}
use Rattle.std.specs.Prelude.{Option, Some, None, is_some}
use Rattle.std.proofs.lemmas.List.{same_lists}
use Rattle.std.proofs.lemmas.Bool.Decides.{eqb_tells}
use Rattle.ak_encls.proofs.SlotChanges.{read_any}
use Rattle.ak_sealed.specs.SealedPages.{SealedPage, Handles, sealed_page_at}

module _ (old new : Handles) (h : ℕ) (put : (k : ℕ) → sealed_page_at new k ≡ (if k == h then None else sealed_page_at old k)) where
  by : (k : ℕ) (b : Bool) → sealed_page_at new k ≡ (if b then None else sealed_page_at old k) → (sealed_page_at new k ≡ sealed_page_at old k) ⊎ (sealed_page_at new k ≡ None)
  by k true e = inr e
  by k false e = inl e

  -- each other page is as it was
  pub without_one : (k : ℕ) → (sealed_page_at new k ≡ sealed_page_at old k) ⊎ (sealed_page_at new k ≡ None)
  without_one k = by k (k == h) (put k)

  none_there : (o : Option SealedPage) → is_some o ≡ false → o ≡ None
  none_there None e = refl
  none_there (Some page) e = absurd (cc)

  -- so all are, where there was none
  same_page : is_some (sealed_page_at old h) ≡ false → (k : ℕ) → sealed_page_at new k ≡ sealed_page_at old k
  same_page dead k =
      elim (eqb_tells k h) [
        | inl same ↦ put k ∙ ap (λ b. if b then None else sealed_page_at old k) same.0 ∙ sym (none_there (sealed_page_at old h) dead) ∙ ap (sealed_page_at old) (sym same.1)
        | inr other ↦ put k ∙ ap (λ b. if b then None else sealed_page_at old k) other.0
      ]

  pub same_handles : length new.sealed_pages ≡ length old.sealed_pages → new.spare ≡ old.spare → is_some (sealed_page_at old h) ≡ false → new ≡ old
  same_handles next spare dead =
      let pages : new.sealed_pages ≡ old.sealed_pages =
      same_lists new.sealed_pages old.sealed_pages next (λ k d lt. read new.sealed_pages k d lt ∙ same_page dead k ∙ sym (read old.sealed_pages k d (subst (λ n. k < n) next lt))) in
      let made : List (Option SealedPage) → ℕ → Handles = λ all more. record { sealed_pages = all; spare = more } in
      ap (λ all. made all new.spare) pages ∙ ap (λ more. made old.sealed_pages more) spare
    where
      read : (pages : List (Option SealedPage)) (k : ℕ) (d : Option SealedPage) → k < length pages → get_or pages k d ≡ get_or pages k None
      read pages k d lt = read_any pages k d None lt
