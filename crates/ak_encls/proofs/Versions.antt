-- Versions stay those of pages with one live copy.
use Rattle.std.proofs.Common.{◌≡◌, ◌⊎◌, inl, inr, ℕ, ◌+◌, ◌<◌, ◌≤◌, true, ◌==◌, if◌then◌else◌, List, length, refl, ap, sym, ◌∙◌, subst, arith}
use Rattle.std.specs.Prelude.{Option, Some, None}
use Rattle.std.specs.Option.{option_map}
use Rattle.std.proofs.lemmas.Bool.{false≢true}
use Rattle.std.proofs.lemmas.Bool.Decides.{eqb_tells}
use Rattle.ak_core.specs.declared.page.Entry.{Entry}
use Rattle.ak_epcm.specs.Entries.{entry_at, has_page, is_addressed, HasNoFrame}
use Rattle.ak_sealed.specs.SealedPages.{SealedPage, Handles, sealed_page_at}
use Rattle.ak_encls.specs.Sound.{sealed_in, page_in, AreVersions}

abbrev Slots : Type 0
Slots = ℕ → ℕ → Option ℕ

-- ---- Slots and sealed pages become fewer

none_some : {A : Type 0} (x : A) → None ≡ Some x → (B : Type 0) → B
none_some x e B = absurd (cc)

module _ (slots slots' : Slots) (handles handles' : Handles)
    (fewer_slots : (va i : ℕ) → (slots' va i ≡ slots va i) ⊎ (slots' va i ≡ None))
    (fewer_pages : (k : ℕ) → (sealed_page_at handles' k ≡ sealed_page_at handles k) ⊎ (sealed_page_at handles' k ≡ None)) where
  sealed_was : (o : Option ℕ) (p : ℕ) → option_map (λ (s : SealedPage). s.page) (sealed_in handles' o) ≡ Some p → option_map (λ (s : SealedPage). s.page) (sealed_in handles o) ≡ Some p
  sealed_was None p e = e
  sealed_was (Some k) p e =
      elim (fewer_pages k) [
        | inl same ↦ ap (option_map (λ (s : SealedPage). s.page)) (sym same) ∙ e
        | inr gone ↦ none_some p (ap (option_map (λ (s : SealedPage). s.page)) (sym gone) ∙ e) _
      ]

  -- what a slot names, it named before
  pub page_was : (va i p : ℕ) → page_in slots' handles' va i ≡ Some p → page_in slots handles va i ≡ Some p
  page_was va i p e =
      elim (fewer_slots va i) [
        | inl same ↦ ap (λ o. option_map (λ (s : SealedPage). s.page) (sealed_in handles o)) (sym same) ∙ sealed_was (slots' va i) p e
        | inr gone ↦ none_some p (ap (λ o. option_map (λ (s : SealedPage). s.page) (sealed_in handles' o)) (sym gone) ∙ e) _
      ]

  -- so they are versions still, where no page comes into a frame that a slot names
  pub fewer : (entries entries' : List Entry) → AreVersions slots handles entries → length handles.sealed_pages ≤ length handles'.sealed_pages →
      ((va i p : ℕ) → page_in slots' handles' va i ≡ Some p → HasNoFrame entries p → HasNoFrame entries' p) → AreVersions slots' handles' entries'
  fewer entries entries' h more frames = record {
    given = λ va i k e.
        elim (fewer_slots va i) [
          | inl same ↦ let lt = h.given va i k (sym same ∙ e) in omega arith
          | inr gone ↦ none_some k (sym gone ∙ e) _
        ];
    away = λ va i p e. frames va i p e (h.away va i p (page_was va i p e));
    apart = λ va i wa j p e d. h.apart va i wa j p (page_was va i p e) (page_was wa j p d);
    addressed = λ k sealed_page e.
        elim (fewer_pages k) [
          | inl same ↦ h.addressed k sealed_page (sym same ∙ e)
          | inr gone ↦ none_some sealed_page (sym gone ∙ e) _
        ];
  }

-- ---- One more sealed page, named by a slot

module _ (slots slots' : Slots) (handles handles' : Handles) (entries entries' : List Entry) (va i f : ℕ) (sealed_page : SealedPage)
    (h : AreVersions slots handles entries)
    (slot : (wa j : ℕ) → ((wa ≡ va) × (j ≡ i) × (slots' wa j ≡ Some (length handles.sealed_pages))) ⊎ ((slots' wa j ≡ slots wa j) ⊎ (slots' wa j ≡ None)))
    (put : (k : ℕ) → sealed_page_at handles' k ≡ (if k == length handles.sealed_pages then Some sealed_page else sealed_page_at handles k))
    (next : length handles'.sealed_pages ≡ length handles.sealed_pages + 1)
    (was : has_page (entry_at entries f) sealed_page.page ≡ true)
    (addressed : is_addressed sealed_page.kind ≡ true)
    (still : (p : ℕ) → HasNoFrame entries p → HasNoFrame entries' p)
    (gone : HasNoFrame entries' sealed_page.page) where
  new_page : sealed_page_at handles' (length handles.sealed_pages) ≡ Some sealed_page
  new_page =
      elim (eqb_tells (length handles.sealed_pages) (length handles.sealed_pages)) [
        | inl same ↦ put (length handles.sealed_pages) ∙ ap (λ b. if b then Some sealed_page else sealed_page_at handles (length handles.sealed_pages)) same.0
        | inr other ↦ absurd (other.1 refl)
      ]

  old_page : (k : ℕ) → k < length handles.sealed_pages → sealed_page_at handles' k ≡ sealed_page_at handles k
  old_page k lt =
      elim (eqb_tells k (length handles.sealed_pages)) [
        | inl same ↦ absurd (let eq = same.1 in omega arith)
        | inr other ↦ put k ∙ ap (λ b. if b then Some sealed_page else sealed_page_at handles k) other.0
      ]

  same_some : (p q : ℕ) → Some p ≡ Some q → p ≡ q
  same_some p q e = cc

  old_in : (wa j p : ℕ) (o : Option ℕ) → slots wa j ≡ o → option_map (λ (s : SealedPage). s.page) (sealed_in handles' o) ≡ Some p → option_map (λ (s : SealedPage). s.page) (sealed_in handles o) ≡ Some p
  old_in wa j p None d e = e
  old_in wa j p (Some k) d e = ap (option_map (λ (s : SealedPage). s.page)) (sym (old_page k (h.given wa j k d))) ∙ e

  -- a slot that names a page is the new one, or named it before
  told : (wa j p : ℕ) → page_in slots' handles' wa j ≡ Some p → ((wa ≡ va) × (j ≡ i) × (p ≡ sealed_page.page)) ⊎ (page_in slots handles wa j ≡ Some p)
  told wa j p e =
      elim (slot wa j) [
        | inl new ↦ inl (new.0, new.1, same_some p sealed_page.page (sym e ∙ ap (λ o. option_map (λ (s : SealedPage). s.page) (sealed_in handles' o)) new.2 ∙ ap (option_map (λ (s : SealedPage). s.page)) new_page))
        | inr old ↦ elim old [
          | inl same ↦ inr (old_in wa j p (slots wa j) refl (ap (λ o. option_map (λ (s : SealedPage). s.page) (sealed_in handles' o)) (sym same) ∙ e))
          | inr none ↦ none_some p (ap (λ o. option_map (λ (s : SealedPage). s.page) (sealed_in handles' o)) (sym none) ∙ e) _
        ]
      ]

  clash : (wa j p : ℕ) → p ≡ sealed_page.page → page_in slots handles wa j ≡ Some p → (A : Type 0) → A
  clash wa j p is e A =
      absurd (false≢true (sym (h.away wa j sealed_page.page (e ∙ ap Some is) f) ∙ was))

  abbrev kind_in : Option SealedPage → Type 0
  kind_in None = Unit {0}
  kind_in (Some s) = is_addressed s.kind ≡ true

  page_kind : (page : SealedPage) → Some sealed_page ≡ Some page → is_addressed page.kind ≡ true
  page_kind page e = let P : Option SealedPage → Type 0 = λ o. kind_in o in subst P e addressed

  pub written : AreVersions slots' handles' entries'
  written = record {
    given = λ wa j k e.
        elim (slot wa j) [
          | inl new ↦ let is = same_some k (length handles.sealed_pages) (sym e ∙ new.2) in omega arith
          | inr old ↦ elim old [
            | inl same ↦ let lt = h.given wa j k (sym same ∙ e) in omega arith
            | inr none ↦ none_some k (sym none ∙ e) _
          ]
        ];
    away = λ wa j p e.
        elim (told wa j p e) [
          | inl new ↦ subst (HasNoFrame entries') (sym new.2) gone
          | inr old ↦ still p (h.away wa j p old)
        ];
    apart = λ wa j wa' j' p e d.
        elim (told wa j p e) [
          | inl new ↦ elim (told wa' j' p d) [
            | inl also ↦ (new.0 ∙ sym also.0, new.1 ∙ sym also.1)
            | inr old ↦ clash wa' j' p new.2 old _
          ]
          | inr old ↦ elim (told wa' j' p d) [
            | inl new ↦ clash wa j p new.2 old _
            | inr also ↦ h.apart wa j wa' j' p old also
          ]
        ];
    addressed = λ k page e.
        elim (eqb_tells k (length handles.sealed_pages)) [
          | inl same ↦ page_kind page (sym (put k ∙ ap (λ b. if b then Some sealed_page else sealed_page_at handles k) same.0) ∙ e)
          | inr other ↦ h.addressed k page (sym (put k ∙ ap (λ b. if b then Some sealed_page else sealed_page_at handles k) other.0) ∙ e)
        ];
  }
