-- What clap makes of words from a place of its walk on, for any command.
use Rattle.std.proofs.Common.{◌≡◌, ◌==◌, Bool, true, false, cond, List, [], ◌∷◌, Option, None, length, refl, ap, ◌∙◌, fold, arith}
use Rattle.std.proofs.lemmas.Bool.Decides.{nat_tests}
use Rattle.clap.specs.Words.{Kinds, Row, Shape, Text}
use Rattle.clap.specs.Walk.{Held, Walk, finished, settled, walked}
use Rattle.clap.specs.Kinds.{or_else}
use Rattle.clap.specs.Faults.{check_fault, defaults_fault, settle_fault, turn_fault, walk_fault}
use Rattle.clap.specs.declared.error.ErrorKind.{ErrorKind}
use Rattle.ak_words.specs.Asked.{AskedTexts}

pub nonempty : (k : ErrorKind) (ks : Kinds) → (length (k ∷ ks) == 0) ≡ false
nonempty k ks = grind (arith, nat_tests)

-- there is a fault
abbrev pub HasFault : Kinds → Type 0
HasFault kinds = (k : ErrorKind) × (ks : Kinds) × (kinds ≡ k ∷ ks)

pub first_fault : (a b : Kinds) → HasFault a → HasFault (or_else a b)
first_fault a b h = (h.0, h.1, ap (λ (x : Kinds). or_else x b) h.2)

pub refused : (kinds : Kinds) (o : Option AskedTexts) → HasFault kinds → cond (length kinds == 0) o None ≡ None
refused kinds o h = rw (h.2, nonempty h.0 h.1) refl

pub none_either : (b : Bool) (o : Option AskedTexts) → o ≡ None → cond b o None ≡ None
none_either true o e = e
none_either false o e = refl

module _ (s : Shape) (answer : List Row → Option AskedTexts) where
  -- what follows from the end of a walk
  unfoldable pub rest_faults : Held → Kinds
  rest_faults end =
      or_else (settle_fault s.rules s.args_override_self end)
      (or_else (defaults_fault (settled s.rules end).rows s.rules) (check_fault s (finished s.rules end) false))

  abbrev pub faults : Walk → List Text → Kinds
  faults w ws = or_else (walk_fault s [] w ws) (rest_faults (fold (walked s.rules []) w ws).held)

  unfoldable pub answer_at : Held → Option AskedTexts
  answer_at end = answer (finished s.rules end)

  abbrev pub outcome : Walk → List Text → Option AskedTexts
  outcome w ws = cond (length (faults w ws) == 0) (answer_at (fold (walked s.rules []) w ws).held) None

  -- the outcome after one word, by its fault and the next place
  abbrev after_turn : List Text → Kinds → Walk → Option AskedTexts
  after_turn xs t n =
      cond (length (or_else (or_else t (walk_fault s [] n xs)) (rest_faults (fold (walked s.rules []) n xs).held)) == 0)
      (answer_at (fold (walked s.rules []) n xs).held) None

  -- a word with no fault
  pub goes_on : (w next : Walk) (x : Text) (xs : List Text) → (turn_fault s [] w x ≡ []) → (walked s.rules [] w x ≡ next) → outcome w (x ∷ xs) ≡ outcome next xs
  unfolding walk_fault
  goes_on w next x xs e f = ap (λ (t : Kinds). after_turn xs t (walked s.rules [] w x)) e ∙ ap (λ (n : Walk). after_turn xs [] n) f

  -- a word with a fault
  pub halts : (w : Walk) (x : Text) (xs : List Text) → HasFault (turn_fault s [] w x) → outcome w (x ∷ xs) ≡ None
  unfolding walk_fault
  halts w x xs h = refused (faults w (x ∷ xs)) (answer_at (fold (walked s.rules []) w (x ∷ xs)).held) (first_fault _ _ (first_fault _ _ h))

  -- the end of the words
  pub ends : (w : Walk) → settle_fault s.rules s.args_override_self w.held ≡ [] → defaults_fault (settled s.rules w.held).rows s.rules ≡ []
      → outcome w [] ≡ cond (length (check_fault s (finished s.rules w.held) false) == 0) (answer (finished s.rules w.held)) None
  unfolding walk_fault rest_faults answer_at
  ends w e d = rw (e, d) refl

  pub ends_badly : (w : Walk) → HasFault (settle_fault s.rules s.args_override_self w.held) → outcome w [] ≡ None
  unfolding walk_fault rest_faults
  ends_badly w h = refused (faults w []) (answer_at w.held) (first_fault _ _ h)
