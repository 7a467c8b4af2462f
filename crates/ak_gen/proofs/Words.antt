-- Words one after the other.
use Rattle.std.proofs.Common.{◌≡◌, ℕ, zero, suc, ◌+◌, ◌*◌, List, [], ◌∷◌, ◌++◌, length, refl, sym, ap, ap₂, ◌∙◌, arith, add-zero, add-one, append_assoc, length-append}
use Rattle.std.proofs.lemmas.List.{append-nil, map-id}
use Rattle.std.proofs.lemmas.List.Concat.{flat_map-append}
use Rattle.std.proofs.lemmas.List.FromFn.{map-range_with_len_more}
use Rattle.std.specs.Fn.{iterate}
use Rattle.std.specs.Int.{w64, to_le_bytes}
use Rattle.std.specs.List.{flat_map, range_with_len}
use Rattle.ak_gen.specs.Numbers.{next, number_after, word_of, word_at, word_bytes}

-- ---- Numbers

last_step : (steps x : ℕ) → iterate next steps (next x) ≡ next (iterate next steps x)
last_step zero x = refl
last_step (suc steps) x = last_step steps (next x)

pub number_after-none : (x : ℕ) → number_after 0 x ≡ x
unfolding number_after
number_after-none x = refl

pub number_after-more : (steps x : ℕ) → number_after (steps + 1) x ≡ next (number_after steps x)
unfolding number_after
number_after-more steps x = ap (λ (n : ℕ). iterate next n x) (add-one steps) ∙ last_step steps x

pub number_after-after : (first more x : ℕ) → number_after (first + more) x ≡ number_after more (number_after first x)
number_after-after first zero x = ap (λ (n : ℕ). number_after n x) (add-zero first) ∙ sym (number_after-none (number_after first x))
number_after-after first (suc more) x =
    let e : first + suc more ≡ first + more + 1 = omega arith in
    let f : more + 1 ≡ suc more = omega arith in
    ap (λ (n : ℕ). number_after n x) e
    ∙ (number_after-more (first + more) x
    ∙ (ap next (number_after-after first more x)
    ∙ (sym (number_after-more more (number_after first x)) ∙ ap (λ (n : ℕ). number_after n (number_after first x)) f)))

-- ---- Words

range-more : (count : ℕ) → range_with_len 0 (count + 1) ≡ range_with_len 0 count ++ count ∷ []
range-more count =
    sym (map-id (range_with_len 0 (count + 1)))
    ∙ (map-range_with_len_more (λ x. x) 0 count count (omega arith) ∙ ap (λ l. l ++ count ∷ []) (map-id (range_with_len 0 count)))

pub word_bytes-none : (x : ℕ) → word_bytes 0 x ≡ []
unfolding word_bytes
word_bytes-none x = refl

pub word_bytes-more : (count x : ℕ) → word_bytes (count + 1) x ≡ word_bytes count x ++ to_le_bytes w64 (word_at x count)
unfolding word_bytes
word_bytes-more count x =
    let word : ℕ → List ℕ = λ place. to_le_bytes w64 (word_at x place) in
    ap (flat_map word) (range-more count)
    ∙ (flat_map-append word (range_with_len 0 count) (count ∷ []) ∙ ap (λ l. flat_map word (range_with_len 0 count) ++ l) (append-nil (word count)))

pub word_at-after : (first place x : ℕ) → word_at x (first + place) ≡ word_at (number_after first x) place
word_at-after first place x =
    let e : first + place + 1 ≡ first + (place + 1) = omega arith in
    ap (λ (n : ℕ). word_of (number_after n x)) e ∙ ap word_of (number_after-after first (place + 1) x)

pub word_bytes-append : (first more x : ℕ) → word_bytes (first + more) x ≡ word_bytes first x ++ word_bytes more (number_after first x)
word_bytes-append first zero x =
    ap (λ (n : ℕ). word_bytes n x) (add-zero first)
    ∙ (sym (append-nil (word_bytes first x)) ∙ ap (λ l. word_bytes first x ++ l) (sym (word_bytes-none (number_after first x))))
word_bytes-append first (suc more) x =
    let e : first + suc more ≡ first + more + 1 = omega arith in
    let f : more + 1 ≡ suc more = omega arith in
    let last = to_le_bytes w64 (word_at (number_after first x) more) in
    ap (λ (n : ℕ). word_bytes n x) e
    ∙ (word_bytes-more (first + more) x
    ∙ (ap₂ (λ front word. front ++ to_le_bytes w64 word) (word_bytes-append first more x) (word_at-after first more x)
    ∙ (append_assoc (word_bytes first x) (word_bytes more (number_after first x)) last
    ∙ ap (λ l. word_bytes first x ++ l) (sym (word_bytes-more more (number_after first x)) ∙ ap (λ (n : ℕ). word_bytes n (number_after first x)) f))))

pub length-word_bytes : (count x : ℕ) → length (word_bytes count x) ≡ 8 * count
length-word_bytes zero x = ap length (word_bytes-none x)
length-word_bytes (suc count) x =
    let f : suc count ≡ count + 1 = omega arith in
    let eight : length (to_le_bytes w64 (word_at x count)) ≡ 8 = refl in
    let before : length (word_bytes count x) ≡ 8 * count = length-word_bytes count x in
    let all : length (word_bytes (count + 1) x) ≡ length (word_bytes count x) + length (to_le_bytes w64 (word_at x count)) =
    ap length (word_bytes-more count x) ∙ length-append (word_bytes count x) (to_le_bytes w64 (word_at x count)) in
    ap (λ (n : ℕ). length (word_bytes n x)) f ∙ (all ∙ omega arith)

-- ---- Words added to a list

pub add-none : (bytes : List ℕ) (x : ℕ) → bytes ≡ bytes ++ word_bytes 0 x
add-none bytes x = sym (ap (λ l. bytes ++ l) (word_bytes-none x) ∙ append-nil bytes)

-- one more word
pub add_word : (start old new word : List ℕ) (count x last value : ℕ) → new ≡ old ++ word → old ≡ start ++ word_bytes count x → word ≡ to_le_bytes w64 value → value ≡ word_of last
    → last ≡ number_after (count + 1) x → new ≡ start ++ word_bytes (count + 1) x
add_word start old new word count x last value n o w v l =
    n
    ∙ (ap₂ (λ a b. a ++ b) o (w ∙ ap (λ (k : ℕ). to_le_bytes w64 k) (v ∙ ap word_of l))
    ∙ (append_assoc start (word_bytes count x) (to_le_bytes w64 (word_at x count)) ∙ ap (λ l. start ++ l) (sym (word_bytes-more count x))))

-- so many more words
pub add_words : (start old new : List ℕ) (first more all x last : ℕ) → new ≡ old ++ word_bytes more last → old ≡ start ++ word_bytes first x → last ≡ number_after first x
    → first + more ≡ all → new ≡ start ++ word_bytes all x
add_words start old new first more all x last n o l e =
    n
    ∙ (ap₂ (λ a k. a ++ word_bytes more k) o l
    ∙ (append_assoc start (word_bytes first x) (word_bytes more (number_after first x))
    ∙ ap (λ l. start ++ l) (sym (word_bytes-append first more x) ∙ ap (λ (n : ℕ). word_bytes n x) e)))
