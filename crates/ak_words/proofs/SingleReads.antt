-- Clap reads the words of a command of one value as the scan does.
use Rattle.std.proofs.Common.{◌≡◌, inl, inr, ◌==◌, Bool, true, false, cond, List, [], ◌∷◌, Option, Some, None, is_some, length, codes, refl, sym, ap, ◌∙◌, drop}
use Rattle.std.proofs.lemmas.Bool.{cases_Bool}
use Rattle.std.specs.Option.{option_and_then}
use Rattle.std.specs.Str.{bytes_eq}
use Rattle.clap.specs.Words.{App, Kinds, Row, Rule, Shape, Text, built, fault_of, first_of, matches_of, with_rule}
use Rattle.clap.specs.Walk.{Walk, idle, nothing_held, walk}
use Rattle.clap.specs.Simple.{entered}
use Rattle.clap.specs.Faults.{entered_fault, level_fault}
use Rattle.clap.proofs.OnLiterals.{clap_on_literals}
use Rattle.clap.specs.declared.error.ErrorKind.TheVariants.{UnknownArgument}
use Rattle.ak_words.specs.Asked.{AskedTexts, Measure, demo_of, single_of}
use Rattle.ak_words.specs.Clap.{command, found_by, value}
use Rattle.ak_words.specs.Scan.{Given, Place, given_by, given_from, kind_of, name_in, nothing_given, text_in}
use Rattle.ak_words.specs.Scan as scan
use Rattle.ak_words.proofs.Built.{IMAGE, NUMBER, shape, single_rules}
use Rattle.ak_words.proofs.Looks.{AllRead, Look, Reads, look}
use Rattle.ak_words.proofs.Looks as looks
use Rattle.ak_words.proofs.Outcome.{answer_at, faults, goes_on, halts, outcome, rest_faults}
use Rattle.ak_words.proofs.Stays.{option_single, single_stays}
use Rattle.ak_words.proofs.Stays as stays
use Rattle.ak_words.proofs.Steps.{at, dashes_idle, plain_file, plain_stray, short_idle, trailing_file, trailing_stray, unknown_idle}

-- the commands of one value
pub data Single : Type 0 where
  measure : Single
  demo : Single

abbrev name : Single → Text
name measure = codes "measure"
name demo = codes "demo"

-- what its value is called, and what a value asks for
abbrev pub id : Single → Text
id measure = IMAGE
id demo = NUMBER

abbrev pub meaning : Single → Text → Option AskedTexts
meaning measure image = Some (Measure image)
meaning demo number = demo_of number

abbrev pub app : Single → App
app which = with_rule (command (name which)) (value (id which))

-- ---- What is computed for each

-- the value is found
value_found : (which : Single) (ended : Bool) (v : Text)
    → outcome (shape (name which) (single_rules (id which))) (λ found. option_and_then (meaning which) (first_of (id which) found)) (at [] (Some (id which, v ∷ [])) idle 2 ended) []
    ≡ meaning which v
unfolding clap_on_literals rest_faults answer_at
value_found measure ended v = refl
value_found demo ended v = refl

no_faults_below : (which : Single) (stop : Option (Text × List Text)) → entered_fault (built (app which)) stop ≡ []
no_faults_below which None = refl
no_faults_below measure (Some p) = refl
no_faults_below demo (Some p) = refl

no_subcommand : (which : Single) (stop : Option (Text × List Text)) → is_some (entered (built (app which)) stop) ≡ false
no_subcommand which None = refl
no_subcommand measure (Some p) = refl
no_subcommand demo (Some p) = refl

-- ---- A command

module _ (which : Single) where
  abbrev NAME : Text
  NAME = name which

  abbrev ID : Text
  ID = id which

  abbrev rules : List Rule
  rules = single_rules ID

  abbrev s : Shape
  s = shape NAME rules

  abbrev answer : List Row → Option AskedTexts
  answer found = option_and_then (meaning which) (first_of ID found)

  abbrev single : Given → Option AskedTexts
  single g = single_of (meaning which) g.values g.frames g.processors

  -- what clap makes of words, and what the scan makes of them
  abbrev clap : Walk → List Text → Option AskedTexts
  clap w ws = outcome s answer w ws

  abbrev plain : Place → Given → List Text → Option AskedTexts
  plain place g ws = option_and_then single (given_from place g ws)

  abbrev place : Bool → Place
  place true = scan.only_values
  place false = scan.any

  -- no value yet, and one
  abbrev none : Bool → Walk
  none ended = at [] None idle 1 ended

  abbrev one : Bool → Text → Walk
  one ended v = at [] (Some (ID, v ∷ [])) idle 2 ended

  abbrev one_given : Text → Given
  one_given v = record { values = v ∷ []; frames = None; processors = None }

  ends-none : (ended : Bool) → clap (none ended) [] ≡ None
  unfolding clap_on_literals rest_faults answer_at
  ends-none ended = refl

  ends-one : (ended : Bool) (v : Text) → clap (one ended v) [] ≡ meaning which v
  ends-one = value_found which

  -- a second word
  second : (v w : Text) (ws : List Text) → Reads w → Look w → bytes_eq w (45 ∷ 45 ∷ []) ≡ false → clap (one false v) (w ∷ ws) ≡ plain scan.any (one_given v) (w ∷ ws)
  second v w ws r (looks.plain p o) d =
      halts s answer (one false v) w ws (UnknownArgument, [], plain_stray NAME rules [] (Some (ID, v ∷ [])) 2 w refl p)
      ∙ sym (rw (d, o) (single_stays (meaning which) ws scan.any (scan.with_value w (one_given v)) (stays.two v w [] refl)))
  second v w ws r (looks.long key x l o n) d =
      halts s answer (one false v) w ws (unknown_idle NAME rules [] (Some (ID, v ∷ [])) 2 w key x d l refl)
      ∙ sym (rw (d, o) (option_single (meaning which) (name_in w) (text_in w) w ws (one_given v)))
  second v w ws r (looks.short flags k l f n o u) d =
      let c = r flags f in
      halts s answer (one false v) w ws (short_idle NAME rules [] (Some (ID, v ∷ [])) 2 w flags k c.0 d l f n c.1 refl)
      ∙ sym (rw (d, o) (option_single (meaning which) (name_in w) (text_in w) w ws (one_given v)))

  after_one : (ended : Bool) (v : Text) (ws : List Text) → AllRead ws → clap (one ended v) ws ≡ plain (place ended) (one_given v) ws
  after_one true v [] r = ends-one true v
  after_one false v [] r = ends-one false v
  after_one true v (w ∷ ws) r =
      halts s answer (one true v) w ws (UnknownArgument, [], trailing_stray NAME rules [] (Some (ID, v ∷ [])) 2 idle w refl)
      ∙ sym (single_stays (meaning which) ws scan.only_values (scan.with_value w (one_given v)) (stays.two v w [] refl))
  after_one false v (w ∷ ws) r = elim (cases_Bool (bytes_eq w (45 ∷ 45 ∷ []))) [
    | inl hit ↦
        let step = dashes_idle NAME rules [] (Some (ID, v ∷ [])) 2 w hit in
        goes_on s answer (one false v) (one true v) w ws step.0 step.1 ∙ (after_one true v ws r.1 ∙ sym (rw hit refl))
    | inr miss ↦ second v w ws r.0 (look w miss) miss
  ]

  -- a first word
  first : (w : Text) (ws : List Text) → Reads w → Look w → bytes_eq w (45 ∷ 45 ∷ []) ≡ false → clap (one false w) ws ≡ plain scan.any (one_given w) ws
      → clap (none false) (w ∷ ws) ≡ plain scan.any nothing_given (w ∷ ws)
  first w ws r (looks.plain p o) d later =
      let step = plain_file NAME rules [] None 1 ID 1 w refl p in
      goes_on s answer (none false) (one false w) w ws step.0 step.1 ∙ (later ∙ sym (rw (d, o) refl))
  first w ws r (looks.long key x l o n) d later =
      halts s answer (none false) w ws (unknown_idle NAME rules [] None 1 w key x d l refl)
      ∙ sym (rw (d, o) (option_single (meaning which) (name_in w) (text_in w) w ws nothing_given))
  first w ws r (looks.short flags k l f n o u) d later =
      let c = r flags f in
      halts s answer (none false) w ws (short_idle NAME rules [] None 1 w flags k c.0 d l f n c.1 refl)
      ∙ sym (rw (d, o) (option_single (meaning which) (name_in w) (text_in w) w ws nothing_given))

  after_none : (ended : Bool) (ws : List Text) → AllRead ws → clap (none ended) ws ≡ plain (place ended) nothing_given ws
  after_none true [] r = ends-none true
  after_none false [] r = ends-none false
  after_none true (w ∷ ws) r =
      let step = trailing_file NAME rules [] None 1 idle ID 1 w refl in
      goes_on s answer (none true) (one true w) w ws step.0 step.1 ∙ after_one true w ws r.1
  after_none false (w ∷ ws) r = elim (cases_Bool (bytes_eq w (45 ∷ 45 ∷ []))) [
    | inl hit ↦
        let step = dashes_idle NAME rules [] None 1 w hit in
        goes_on s answer (none false) (none true) w ws step.0 step.1 ∙ (after_none true ws r.1 ∙ sym (rw hit refl))
    | inr miss ↦ first w ws r.0 (look w miss) miss (after_one false w ws r.1)
  ]

  -- ---- the whole

  faults_are : (words : List Text) → fault_of (app which) words ≡ faults s answer (none false) (drop 1 words)
  unfolding rest_faults
  faults_are words =
      let stop = (walk rules [] nothing_held (drop 1 words)).stopped in
      ap (λ (b : Bool). level_fault s [] nothing_held (drop 1 words) b (entered_fault (built (app which)) stop)) (no_subcommand which stop)
      ∙ ap (λ (k : Kinds). level_fault s [] nothing_held (drop 1 words) false k) (no_faults_below which stop)

  then_answer : (b : Bool) (found : List Row) → option_and_then answer (cond b (Some found) None) ≡ cond b (answer found) None
  then_answer true found = refl
  then_answer false found = refl

  found_is : (words : List Text) → option_and_then answer (found_by (app which) words) ≡ clap (none false) (drop 1 words)
  unfolding found_by answer_at
  found_is words =
      then_answer (length (fault_of (app which) words) == 0) (matches_of (app which) words)
      ∙ ap (λ (kinds : Kinds). cond (length kinds == 0) (answer (matches_of (app which) words)) None) (faults_are words)

  -- what clap finds in the words after the first is what the scan reads
  pub single_read : (words : List Text) → AllRead (drop 1 words) → option_and_then (λ found. option_and_then (meaning which) (first_of ID found)) (found_by (app which) words) ≡ option_and_then single (given_by (drop 1 words))
  single_read words r = found_is words ∙ after_none false (drop 1 words) r
