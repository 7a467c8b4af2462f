-- Lists of EPCM entries of which one is set.
use Rattle.std.proofs.Common.{◌≡◌, ◌≢◌, ℕ, ◌<◌, Bool, true, false, ◌&&◌, ◌==◌, List, length, set, refl, sym, ◌∙◌, ap, subst, inl, inr, get_or-set_same, get_or-set_other}
use Rattle.std.proofs.lemmas.Bool.{cases_lt, eqb-true, false≢true}
use Rattle.std.proofs.lemmas.Bool.Decides.{eqb_tells}
use Rattle.std.proofs.Math.ListN.{length-set, get_or-eq_default}
use Rattle.std.specs.Bool.{OnTrue}
use Rattle.ak_core.specs.declared.page.Entry.{Entry}
use Rattle.ak_epcm.specs.Entries.{free_entry, entry_at, is_of_page, has_page, HasNoFrame, HasDistinctPages, IsEpcm}

-- the entry of the frame that was set
pub entry_at-set_same : (entries : List Entry) (f : ℕ) (e : Entry) → f < length entries
    → entry_at (set entries f e) f ≡ e
entry_at-set_same entries f e within = get_or-set_same entries f e free_entry within

-- the entry of another frame
pub entry_at-set_other : (entries : List Entry) (f g : ℕ) (e : Entry) → g ≢ f
    → entry_at (set entries f e) g ≡ entry_at entries g
entry_at-set_other entries f g e other = get_or-set_other entries f g e free_entry other

-- a frame that is in use is one of the page cache
pub valid_in_range : (entries : List Entry) (f : ℕ) → (entry_at entries f).valid ≡ true → f < length entries
valid_in_range entries f valid =
    elim (cases_lt f (length entries)) [
      | inl below ↦ below
      | inr above ↦ absurd (false≢true (sym (ap (λ (e : Entry). e.valid) (get_or-eq_default entries free_entry above)) ∙ valid))
    ]

-- what holds on true, where it is true
on_true : (b : Bool) (P : Type 0) → OnTrue b P → b ≡ true → P
on_true true P h _ = h
on_true false P h wrong = cc

-- both parts of a true conjunction
both_true : (a b : Bool) → (a && b) ≡ true → (a ≡ true) × (b ≡ true)
both_true true b h = (refl, h)
both_true false b h = cc

-- a page that no frame holds is not held twice
clash : (entries : List Entry) (e : Entry) (g p : ℕ) → OnTrue (is_of_page e) (HasNoFrame entries e.page.0)
    → has_page e p ≡ true → has_page (entry_at entries g) p ≡ true → (f : ℕ) → f ≡ g
clash entries e g p fresh mine other f =
    let both = both_true (is_of_page e) (e.page.0 == p) mine in
    let page : e.page.0 ≡ p = eqb-true e.page.0 p both.1 in
    let Held : ℕ → Type 0 = λ q. has_page (entry_at entries g) q ≡ false in
    let none : has_page (entry_at entries g) p ≡ false =
    subst Held page (on_true (is_of_page e) (HasNoFrame entries e.page.0) fresh both.0 g) in
    cc

-- what the frame that was set has, the entry has
set_has : (entries : List Entry) (f : ℕ) (e : Entry) (a p : ℕ) → f < length entries → a ≡ f
    → has_page (entry_at (set entries f e) a) p ≡ true → has_page e p ≡ true
set_has entries f e a p within same h =
    let there : entry_at (set entries f e) a ≡ e =
    ap (λ i. entry_at (set entries f e) i) same ∙ entry_at-set_same entries f e within in
    subst (λ (x : Entry). has_page x p ≡ true) there h

-- what another frame has, it had before
other_has : (entries : List Entry) (f : ℕ) (e : Entry) (a p : ℕ) → a ≢ f
    → has_page (entry_at (set entries f e) a) p ≡ true → has_page (entry_at entries a) p ≡ true
other_has entries f e a p other h =
    subst (λ (x : Entry). has_page x p ≡ true) (entry_at-set_other entries f a e other) h

-- no two frames have one page after an entry was set whose page no frame had
distinct-set : (entries : List Entry) (f : ℕ) (e : Entry) → f < length entries
    → OnTrue (is_of_page e) (HasNoFrame entries e.page.0) → HasDistinctPages entries
    → HasDistinctPages (set entries f e)
distinct-set entries f e within fresh h a b p at_a at_b =
    elim (eqb_tells a f) [
      | inl is_a ↦ elim (eqb_tells b f) [
        | inl is_b ↦ is_a.1 ∙ sym is_b.1
        | inr not_b ↦ clash entries e b p fresh (set_has entries f e a p within is_a.1 at_a)
            (other_has entries f e b p not_b.1 at_b) a
      ]
      | inr not_a ↦ elim (eqb_tells b f) [
        | inl is_b ↦ sym (clash entries e a p fresh (set_has entries f e b p within is_b.1 at_b)
            (other_has entries f e a p not_a.1 at_a) b)
        | inr not_b ↦ h a b p (other_has entries f e a p not_a.1 at_a) (other_has entries f e b p not_b.1 at_b)
      ]
    ]

-- setting an entry keeps an EPCM one, where no frame has its page
pub IsEpcm-set : (entries : List Entry) (f : ℕ) (e : Entry) → f < length entries
    → OnTrue (is_of_page e) (HasNoFrame entries e.page.0) → IsEpcm entries → IsEpcm (set entries f e)
IsEpcm-set entries f e within fresh h = record {
  few = subst (λ (n : ℕ). n < 4294967296) (sym (length-set entries f e)) h.few;
  distinct = distinct-set entries f e within fresh h.distinct;
}
