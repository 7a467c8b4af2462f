-- What clap's clauses say of the rows that it finds.
use Rattle.std.proofs.Common.{◌≡◌, ◌⊎◌, inl, inr, ◌==◌, ◌&&◌, Bool, true, false, cond, List, [], ◌∷◌, Option, Some, None, length, refl, sym, ap, ◌∙◌, drop, option_map, ℕ}
use Rattle.std.specs.Option.{option_and_then}
use Rattle.clap.specs.Words.{App, HasMatchesOf, IsAmong, Kinds, Row, Text, fault_of, found_of, is_simple, is_simple_and_free, matches_of, rows_of}
use Rattle.clap.specs.declared.error.ErrorKind.{ErrorKind}
use Rattle.clap.specs.declared.error.ErrorKind.TheVariants.{OutOfMemory}
use Rattle.clap.specs.declared.parser.matches.ArgMatches.{ArgMatches}
use Rattle.ak_words.specs.Clap.{found_by}
use Rattle.clap.specs.Words.{first_of, first_value}
use Rattle.clap.specs.declared.parser.matches.Found.{Found}
use Rattle.clap.proofs.WalkLemmas.{first_value-rows}
use Rattle.ak_words.specs.Asked.{AskedTexts, Measure, Run, demo_given, demo_of, frames_of, measure_given, processors_of, run_given, run_of, single_of}
use Rattle.ak_words.specs.Clap.{demo_app, found_in, measure_app, run_app, those}
use Rattle.ak_words.specs.Scan.{given_by}
use Rattle.ak_words.proofs.Built.{FRAMES, IMAGE, NUMBER, PROCESSORS, SCRIPT, SIGNERS}
use Rattle.ak_words.proofs.Looks.{AllRead}
use Rattle.ak_words.proofs.Outcome.{nonempty}
use Rattle.ak_words.proofs.RunReads.{run_read}
use Rattle.ak_words.proofs.SingleReads.{Single, app, demo, id, meaning, measure, single_read}

first_of_both : (a b : Bool) → (a && b) ≡ true → a ≡ true
first_of_both true b e = refl
first_of_both false b e = e

-- a command that is simple and free is simple
simple_of : (a : App) → is_simple_and_free a ≡ true → is_simple a ≡ true
simple_of a e = first_of_both (is_simple a) _ e

-- where clap takes the words
pub taken : (a : App) (words : List Text) (m : ArgMatches) → is_simple_and_free a ≡ true → HasMatchesOf a words m → (is_simple_and_free a ≡ true → fault_of a words ≡ []) → Some (rows_of (found_of m)) ≡ found_by a words
unfolding found_by
taken a words m free h k = ap (λ (rows : List Row). Some rows) (h (simple_of a free)).0 ∙ sym (rw (k free) refl)

none_found : (kinds : Kinds) (o : Option (List Row)) (k : ErrorKind) → IsAmong k kinds → None ≡ cond (length kinds == 0) o None
none_found [] o k among = absurd among
none_found (x ∷ xs) o k among = rw (nonempty x xs) refl

-- where clap refuses them for another cause than memory
pub refused_for : (a : App) (words : List Text) (k : ErrorKind) → is_simple_and_free a ≡ true → (is_simple_and_free a ≡ true → (k ≡ OutOfMemory) ⊎ IsAmong k (fault_of a words)) → (k ≡ OutOfMemory → ⊥) → None ≡ found_by a words
unfolding found_by
refused_for a words k free h other =
    none_found (fault_of a words) (Some (matches_of a words)) k (elim (h free) [ inl m ↦ absurd (other m) | inr x ↦ x ])

-- a getter's answer, in the rows
pub text_found : (f : Found) (id : Text) (o : Option Text) → o ≡ first_value f id → first_of id (rows_of f) ≡ o
text_found f id o e = sym (e ∙ first_value-rows f id)

-- ---- `run`

-- where a file is not there
fewer_0 : (j k : Option Text) (frames : Option (Option ℕ)) (processors : Option ℕ) → run_of (those None (those j (those k []))) frames processors ≡ None
fewer_0 None None frames processors = refl
fewer_0 None (Some k) frames processors = refl
fewer_0 (Some j) None frames processors = refl
fewer_0 (Some j) (Some k) frames processors = refl

fewer_1 : (i k : Option Text) (frames : Option (Option ℕ)) (processors : Option ℕ) → run_of (those i (those None (those k []))) frames processors ≡ None
fewer_1 None None frames processors = refl
fewer_1 None (Some k) frames processors = refl
fewer_1 (Some i) None frames processors = refl
fewer_1 (Some i) (Some k) frames processors = refl

fewer_2 : (i j : Option Text) (frames : Option (Option ℕ)) (processors : Option ℕ) → run_of (those i (those j (those None []))) frames processors ≡ None
fewer_2 None None frames processors = refl
fewer_2 None (Some j) frames processors = refl
fewer_2 (Some i) None frames processors = refl
fewer_2 (Some i) (Some j) frames processors = refl

pub no_image : (f : Found) → None ≡ first_value f IMAGE → None ≡ run_given (found_in (rows_of f))
no_image f e = sym (rw (text_found f IMAGE None e) (fewer_0 (first_of SIGNERS (rows_of f)) (first_of SCRIPT (rows_of f)) (frames_of (first_of FRAMES (rows_of f))) (processors_of (first_of PROCESSORS (rows_of f)))))

pub no_signers : (f : Found) → None ≡ first_value f SIGNERS → None ≡ run_given (found_in (rows_of f))
no_signers f e = sym (rw (text_found f SIGNERS None e) (fewer_1 (first_of IMAGE (rows_of f)) (first_of SCRIPT (rows_of f)) (frames_of (first_of FRAMES (rows_of f))) (processors_of (first_of PROCESSORS (rows_of f)))))

pub no_script : (f : Found) → None ≡ first_value f SCRIPT → None ≡ run_given (found_in (rows_of f))
no_script f e = sym (rw (text_found f SCRIPT None e) (fewer_2 (first_of IMAGE (rows_of f)) (first_of SIGNERS (rows_of f)) (frames_of (first_of FRAMES (rows_of f))) (processors_of (first_of PROCESSORS (rows_of f)))))

-- where each file is there
pub files_found : (f : Found) (i s t : Text) → Some i ≡ first_value f IMAGE → Some s ≡ first_value f SIGNERS → Some t ≡ first_value f SCRIPT
    → run_given (found_in (rows_of f)) ≡ run_of (i ∷ s ∷ t ∷ []) (frames_of (first_of FRAMES (rows_of f))) (processors_of (first_of PROCESSORS (rows_of f)))
files_found f i s t a b c = rw (text_found f IMAGE (Some i) a, text_found f SIGNERS (Some s) b, text_found f SCRIPT (Some t) c) refl

no_frames : (values : List Text) (processors : Option ℕ) → run_of values None processors ≡ None
no_frames [] processors = refl
no_frames (i ∷ []) processors = refl
no_frames (i ∷ s ∷ []) processors = refl
no_frames (i ∷ s ∷ t ∷ []) processors = refl
no_frames (i ∷ s ∷ t ∷ u ∷ more) processors = refl

pub bad_frames : (f : Found) (i s t : Text) (fr : Option Text) → Some i ≡ first_value f IMAGE → Some s ≡ first_value f SIGNERS → Some t ≡ first_value f SCRIPT
    → fr ≡ first_value f FRAMES → None ≡ frames_of fr → None ≡ run_given (found_in (rows_of f))
bad_frames f i s t fr a b c d e =
    sym (files_found f i s t a b c ∙ rw (text_found f FRAMES fr d, ← e) refl)

pub bad_processors : (f : Found) (i s t : Text) (fr pr : Option Text) (n : Option ℕ) → Some i ≡ first_value f IMAGE → Some s ≡ first_value f SIGNERS → Some t ≡ first_value f SCRIPT
    → fr ≡ first_value f FRAMES → Some n ≡ frames_of fr → pr ≡ first_value f PROCESSORS → None ≡ processors_of pr → None ≡ run_given (found_in (rows_of f))
bad_processors f i s t fr pr n a b c d e g h =
    sym (files_found f i s t a b c ∙ rw (text_found f FRAMES fr d, ← e, text_found f PROCESSORS pr g, ← h) refl)

pub run_found : (f : Found) (i s t : Text) (fr pr : Option Text) (n : Option ℕ) (m : ℕ) → Some i ≡ first_value f IMAGE → Some s ≡ first_value f SIGNERS → Some t ≡ first_value f SCRIPT
    → fr ≡ first_value f FRAMES → Some n ≡ frames_of fr → pr ≡ first_value f PROCESSORS → Some m ≡ processors_of pr
    → Some (Run (record { image = i; signers = s; script = t; frames = n; processors = m })) ≡ run_given (found_in (rows_of f))
run_found f i s t fr pr n m a b c d e g h =
    sym (files_found f i s t a b c ∙ rw (text_found f FRAMES fr d, ← e, text_found f PROCESSORS pr g, ← h) refl)

-- what clap finds is what the words give
pub run_asked : (a : App) (words : List Text) (found : Option (List Row)) (asked : Option AskedTexts) → a ≡ run_app → AllRead (drop 1 words) → found ≡ found_by a words
    → asked ≡ option_and_then (λ rows. run_given (found_in rows)) found → asked ≡ option_and_then run_given (given_by (drop 1 words))
run_asked a words found asked e r f g =
    g ∙ (ap (λ (o : Option (List Row)). option_and_then (λ rows. run_given (found_in rows)) o) (f ∙ ap (λ (x : App). found_by x words) e) ∙ run_read words r)

-- ---- `measure` and `demo`

pub image_found : (f : Found) (o : Option Text) → o ≡ first_value f IMAGE → option_map Measure o ≡ option_map Measure (first_of IMAGE (rows_of f))
image_found f o e = ap (λ (x : Option Text). option_map Measure x) (sym (text_found f IMAGE o e))

pub number_found : (f : Found) (o : Option Text) (asked : Option AskedTexts) → o ≡ first_value f NUMBER → asked ≡ option_and_then demo_of o
    → asked ≡ option_and_then demo_of (first_of NUMBER (rows_of f))
number_found f o asked e g = g ∙ ap (λ (x : Option Text). option_and_then demo_of x) (sym (text_found f NUMBER o e))

single_asked : (which : Single) (words : List Text) (found : Option (List Row)) (asked : Option AskedTexts) → AllRead (drop 1 words) → found ≡ found_by (app which) words
    → asked ≡ option_and_then (λ rows. option_and_then (meaning which) (first_of (id which) rows)) found
    → asked ≡ option_and_then (λ given. single_of (meaning which) given.values given.frames given.processors) (given_by (drop 1 words))
single_asked which words found asked r f g =
    g ∙ (ap (λ (o : Option (List Row)). option_and_then (λ rows. option_and_then (meaning which) (first_of (id which) rows)) o) f ∙ single_read which words r)

map_is : (o : Option Text) → option_map Measure o ≡ option_and_then (λ image. Some (Measure image)) o
map_is None = refl
map_is (Some image) = refl

images_are : (found : Option (List Row)) → option_and_then (λ rows. option_map Measure (first_of IMAGE rows)) found
    ≡ option_and_then (λ rows. option_and_then (λ image. Some (Measure image)) (first_of IMAGE rows)) found
images_are None = refl
images_are (Some rows) = map_is (first_of IMAGE rows)

pub measure_asked : (a : App) (words : List Text) (found : Option (List Row)) (asked : Option AskedTexts) → a ≡ measure_app → AllRead (drop 1 words) → found ≡ found_by a words
    → asked ≡ option_and_then (λ rows. option_map Measure (first_of IMAGE rows)) found → asked ≡ option_and_then measure_given (given_by (drop 1 words))
measure_asked a words found asked e r f g =
    single_asked measure words found asked r (f ∙ ap (λ (x : App). found_by x words) e) (g ∙ images_are found)

pub demo_asked : (a : App) (words : List Text) (found : Option (List Row)) (asked : Option AskedTexts) → a ≡ demo_app → AllRead (drop 1 words) → found ≡ found_by a words
    → asked ≡ option_and_then (λ rows. option_and_then demo_of (first_of NUMBER rows)) found → asked ≡ option_and_then demo_given (given_by (drop 1 words))
demo_asked a words found asked e r f g = single_asked demo words found asked r (f ∙ ap (λ (x : App). found_by x words) e) g
