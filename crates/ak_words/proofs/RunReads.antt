-- Clap reads the words of `run` as the scan does.
use Rattle.std.proofs.Common.{◌≡◌, inl, inr, ℕ, ◌==◌, Bool, true, false, cond, List, [], ◌∷◌, ◌++◌, Option, Some, None, is_some, length, refl, sym, ap, ◌∙◌, drop, option_map}
use Rattle.std.proofs.lemmas.Bool.{cases_Bool}
use Rattle.std.specs.Option.{option_and_then}
use Rattle.std.specs.Str.{bytes_eq}
use Rattle.clap.specs.Words.{Kinds, Row, Shape, Text, built, fault_of, first_of, matches_of}
use Rattle.clap.specs.Walk.{Waiting, Walk, arg_by_id, arg_by_index, arg_by_long, finished, has_row, idle, nothing_held, option, used, walk}
use Rattle.clap.specs.Lexer.{long_of}
use Rattle.clap.specs.Simple.{entered}
use Rattle.clap.specs.Faults.{check_fault, defaults_fault, entered_fault, level_fault, react_fault, turn_fault}
use Rattle.clap.specs.Takes.{is_given}
use Rattle.clap.specs.declared.error.ErrorKind.TheVariants.{ArgumentConflict, InvalidValue, UnknownArgument}
use Rattle.ak_words.specs.Asked.{AskedTexts, frames_of, processors_of, run_given, run_of}
use Rattle.ak_words.specs.Clap.{found_by, found_in, run_app, those}
use Rattle.ak_words.specs.Scan.{Choice, Given, Kind, Place, after_kind, after_word, given_by, given_from, is_dashed, kind_of, nothing_given, with_text, with_value}
use Rattle.ak_words.specs.Scan as scan
use Rattle.ak_words.proofs.Built.{IMAGE, SCRIPT, SIGNERS, file_at, option_of, run_rules, shape}
use Rattle.ak_words.proofs.Looks.{AllRead, IsPlain, Look, Reads, dashes_dashed, look, named}
use Rattle.ak_words.proofs.Looks as looks
use Rattle.ak_words.proofs.Outcome.{HasFault, ends, ends_badly, faults, goes_on, halts, none_either, outcome, answer_at, rest_faults}
use Rattle.ak_words.proofs.Stays.{Over, over_stays}
use Rattle.ak_words.proofs.Uses.{Uses, has_row-is, is_given-is, no_default_faults, no_defaults, rows, use-new}
use Rattle.ak_words.proofs.RunFiles.{Clean, Few, FileStands, Key, NextFile, RUN, Stands, file_settles, first_text, id_of, key_of, known, next_file, option_settles, position, put, put-values, same_id, second_text, text_given, text_stands}
use Rattle.ak_words.proofs.RunFiles as files
use Rattle.ak_words.proofs.Steps.{Pending, at, attached, dashes_idle, dashes_waiting, filled_in, held, opened, option_idle, option_waiting, plain_file, plain_stray, settle_fault_at, settled_at, short_idle, short_waiting, trailing_file, trailing_stray, unknown_idle, unknown_waiting}

abbrev s : Shape
s = shape RUN run_rules

abbrev answer : List Row → Option AskedTexts
answer found = run_given (found_in found)

-- what clap makes of words, and what the scan makes of them
abbrev clap : Walk → List Text → Option AskedTexts
clap w ws = outcome s answer w ws

abbrev plain : Place → Given → List Text → Option AskedTexts
plain place g ws = option_and_then run_given (given_from place g ws)

-- .. after one of them
abbrev rest : List Text → Option (Place × Given) → Option AskedTexts
rest ws next = option_and_then run_given (option_and_then (λ (n : Place × Given). given_from n.0 n.1 ws) next)

abbrev place : Bool → Place
place true = scan.only_values
place false = scan.any

-- ---- what is pending has a fault: whatever follows, there is no run

-- the next file, if there is one
data At (i : ℕ) : Type 0 where
  file : (id : Text) (k : ℕ) → arg_by_index run_rules i ≡ Some (file_at id k) → At i
  none : arg_by_index run_rules i ≡ None → At i

at_place : (vs : List Text) → At (position vs)
at_place [] = file IMAGE 1 refl
at_place (a ∷ []) = file SIGNERS 2 refl
at_place (a ∷ b ∷ []) = file SCRIPT 3 refl
at_place (a ∷ b ∷ c ∷ more) = none refl

module _ (found : List Row) (pending : Pending) (i : ℕ) (h : HasFault (settle_fault_at RUN run_rules found pending)) where
  broken_ended : (ws : List Text) → At i → (waiting : Waiting) → clap (at found pending waiting i true) ws ≡ None
  broken_ended [] p waiting = ends_badly s answer (at found pending waiting i true) h
  broken_ended (w ∷ ws) (file id k e) waiting =
      halts s answer (at found pending waiting i true) w ws (h.0, h.1, (trailing_file RUN run_rules found pending i waiting id k w e).0 ∙ h.2)
  broken_ended (w ∷ ws) (none e) waiting =
      halts s answer (at found pending waiting i true) w ws (UnknownArgument, [], trailing_stray RUN run_rules found pending i waiting w e)

  broken_key : (w key : Text) (v : Option Text) → bytes_eq w (45 ∷ 45 ∷ []) ≡ false → long_of w ≡ Some (key, v) → Key key → HasFault (turn_fault s [] (at found pending idle i false) w)
  broken_key w key v d l (files.option choice a k) = option_idle RUN run_rules found pending i w key (id_of choice) v d l a h
  broken_key w key v d l (files.none a k) = unknown_idle RUN run_rules found pending i w key v d l a

  broken_word : (w : Text) → At i → Reads w → Look w → bytes_eq w (45 ∷ 45 ∷ []) ≡ false → HasFault (turn_fault s [] (at found pending idle i false) w)
  broken_word w (file id k e) r (looks.plain p o) d = (h.0, h.1, (plain_file RUN run_rules found pending i id k w e p).0 ∙ h.2)
  broken_word w (none e) r (looks.plain p o) d = (UnknownArgument, [], plain_stray RUN run_rules found pending i w e p)
  broken_word w p r (looks.long key v l o n) d = broken_key w key v d l (key_of key)
  broken_word w p r (looks.short flags k l f n o u) d = let c = r flags f in short_idle RUN run_rules found pending i w flags k c.0 d l f n c.1 refl

  broken : (ws : List Text) → AllRead ws → At i → clap (at found pending idle i false) ws ≡ None
  broken [] r p = ends_badly s answer (at found pending idle i false) h
  broken (w ∷ ws) r p = elim (cases_Bool (bytes_eq w (45 ∷ 45 ∷ []))) [
    | inl hit ↦
        let step = dashes_idle RUN run_rules found pending i w hit in
        goes_on s answer (at found pending idle i false) (at found pending idle i true) w ws step.0 step.1 ∙ broken_ended ws p idle
    | inr miss ↦ halts s answer (at found pending idle i false) w ws (broken_word w p r.0 (look w miss) miss)
  ]

-- ---- the end of the words

abbrev check : List Row → Kinds
check found = check_fault s found false

-- three files are enough
enough : (all : Uses) (a b c : Text) → first_of IMAGE (rows all) ≡ Some a → first_of SIGNERS (rows all) ≡ Some b → first_of SCRIPT (rows all) ≡ Some c → check (rows all) ≡ []
enough all a b c e f g =
    let image : is_given IMAGE (rows all) ≡ true = is_given-is IMAGE all ∙ ap (λ (o : Option Text). is_some o) e in
    let signers : is_given SIGNERS (rows all) ≡ true = is_given-is SIGNERS all ∙ ap (λ (o : Option Text). is_some o) f in
    let script : is_given SCRIPT (rows all) ≡ true = is_given-is SCRIPT all ∙ ap (λ (o : Option Text). is_some o) g in
    rw (image, signers, script) refl

-- what the rows give, by the files
answer-is : (all : Uses) (g : Given) (i j k : Option Text) → first_of IMAGE (rows all) ≡ i → first_of SIGNERS (rows all) ≡ j → first_of SCRIPT (rows all) ≡ k → Stands all g
    → answer (rows all) ≡ run_of (those i (those j (those k []))) (frames_of g.frames) (processors_of g.processors)
answer-is all g i j k p q r stands = rw (p, q, r, stands.texts scan.frames, stands.texts scan.processors) refl

at_end : (all : Uses) (g : Given) (vs : List Text) → g.values ≡ vs → Few vs → Stands all g → cond (length (check (rows all)) == 0) (answer (rows all)) None ≡ run_given g
at_end all g [] e few stands =
    none_either (length (check (rows all)) == 0) (answer (rows all)) (answer-is all g None None None (stands.image ∙ rw e refl) (stands.signers ∙ rw e refl) (stands.script ∙ rw e refl) stands) ∙ sym (rw e refl)
at_end all g (a ∷ []) e few stands =
    none_either (length (check (rows all)) == 0) (answer (rows all)) (answer-is all g (Some a) None None (stands.image ∙ rw e refl) (stands.signers ∙ rw e refl) (stands.script ∙ rw e refl) stands) ∙ sym (rw e refl)
at_end all g (a ∷ b ∷ []) e few stands =
    none_either (length (check (rows all)) == 0) (answer (rows all)) (answer-is all g (Some a) (Some b) None (stands.image ∙ rw e refl) (stands.signers ∙ rw e refl) (stands.script ∙ rw e refl) stands) ∙ sym (rw e refl)
at_end all g (a ∷ b ∷ c ∷ []) e few stands =
    let i : first_of IMAGE (rows all) ≡ Some a = stands.image ∙ rw e refl in
    let j : first_of SIGNERS (rows all) ≡ Some b = stands.signers ∙ rw e refl in
    let k : first_of SCRIPT (rows all) ≡ Some c = stands.script ∙ rw e refl in
    ap (λ (kinds : Kinds). cond (length kinds == 0) (answer (rows all)) None) (enough all a b c i j k)
    ∙ (answer-is all g (Some a) (Some b) (Some c) i j k stands ∙ sym (rw e refl))
at_end all g (a ∷ b ∷ c ∷ d ∷ more) e few stands = absurd few

ended : (uses : Uses) (pending : Pending) (waiting : Waiting) (i : ℕ) (trailing : Bool) (g : Given) → Few g.values → Clean uses pending g → clap (at (rows uses) pending waiting i trailing) [] ≡ run_given g
ended uses pending waiting i trailing g few c =
    let here = at (rows uses) pending waiting i trailing in
    let defaults : defaults_fault (settled_at RUN run_rules (rows uses) pending) run_rules ≡ [] = no_default_faults (settled_at RUN run_rules (rows uses) pending) run_rules (refl, (refl, (refl, (refl, (refl, tt))))) in
    let end : finished run_rules (held (rows uses) pending) ≡ rows c.all = no_defaults (settled_at RUN run_rules (rows uses) pending) run_rules (refl, (refl, (refl, (refl, (refl, tt))))) ∙ c.settled in
    ends s answer here c.no_fault defaults
    ∙ (ap (λ (found : List Row). cond (length (check found) == 0) (answer found) None) end ∙ at_end c.all g g.values refl few c.stands)

-- ---- by induction over the words

-- where the walk stands: between two words, or where an option waits for its text
data State : Type 0 where
  ready : (trailing : Bool) (uses : Uses) (pending : Pending) (g : Given) → Clean uses pending g → Few g.values → State
  waits : (choice : Choice) (uses : Uses) (g : Given) → Stands uses g → Few g.values → State

abbrev walk_of : State → Walk
walk_of (ready trailing uses pending g c few) = at (rows uses) pending idle (position g.values) trailing
walk_of (waits choice uses g stands few) = at (rows uses) (Some (id_of choice, [])) (option (id_of choice)) (position g.values) false

abbrev plain_of : State → List Text → Option AskedTexts
plain_of (ready trailing uses pending g c few) ws = plain (place trailing) g ws
plain_of (waits choice uses g stands few) ws = plain (scan.text_of choice) g ws

-- the rest of the words is read alike from any place
abbrev Alike : List Text → Type 0
Alike ws = (state : State) → clap (walk_of state) ws ≡ plain_of state ws

-- one more file
abbrev with_file : (trailing : Bool) (uses : Uses) (g : Given) (w id : Text) (i : ℕ) (vs : List Text) → g.values ≡ vs → Stands uses g
    → arg_by_id run_rules id ≡ Some (file_at id i) → Few (vs ++ w ∷ []) → FileStands id vs w → State
with_file trailing uses g w id i vs e stands a few next =
    let one = next uses g e stands in
    let settles = file_settles uses id w i a one.0 in
    ready trailing uses (Some (id, w ∷ [])) (with_value w g)
    (record { all = uses ++ (id, w) ∷ []; no_fault = settles.0; settled = settles.1; stands = one.1 })
    (rw (← e) at few)

place_after : (trailing : Bool) (a b : List Row) (i j : ℕ) (pending : Pending) → a ≡ b → i ≡ j → at a pending idle i trailing ≡ at b pending idle j trailing
place_after trailing a b i j pending e f = rw (e, f) refl

over_three : (vs : List Text) (a b c w : Text) → vs ≡ a ∷ b ∷ c ∷ [] → Over (vs ++ w ∷ [])
over_three vs a b c w e = rw e tt

module _ (uses : Uses) (pending : Pending) (g : Given) (c : Clean uses pending g) (few : Few g.values) (w : Text) (ws : List Text) (alike : Alike ws) where
  -- a word after `--`
  value_ended : NextFile g.values w → clap (at (rows uses) pending idle (position g.values) true) (w ∷ ws) ≡ plain scan.only_values g (w ∷ ws)
  value_ended (files.next id i e a p few_more stands) =
      let here = at (rows uses) pending idle (position g.values) true in
      let state = with_file true c.all g w id i g.values refl c.stands a few_more stands in
      let step = trailing_file RUN run_rules (rows uses) pending (position g.values) idle id i w e in
      goes_on s answer here (walk_of state) w ws (step.0 ∙ c.no_fault) (step.1 ∙ place_after true _ _ _ _ (Some (id, w ∷ [])) c.settled p) ∙ alike state
  value_ended (files.full e a b d v) =
      halts s answer (at (rows uses) pending idle (position g.values) true) w ws (UnknownArgument, [], trailing_stray RUN run_rules (rows uses) pending (position g.values) idle w e)
      ∙ sym (over_stays ws scan.only_values (with_value w g) (over_three g.values a b d w v))

  -- a word that is no option
  value_plain : NextFile g.values w → IsPlain w → clap (at (rows uses) pending idle (position g.values) false) (w ∷ ws) ≡ plain scan.any (with_value w g) ws
  value_plain (files.next id i e a p few_more stands) is_plain =
      let here = at (rows uses) pending idle (position g.values) false in
      let state = with_file false c.all g w id i g.values refl c.stands a few_more stands in
      let step = plain_file RUN run_rules (rows uses) pending (position g.values) id i w e is_plain in
      goes_on s answer here (walk_of state) w ws (step.0 ∙ c.no_fault) (step.1 ∙ place_after false _ _ _ _ (Some (id, w ∷ [])) c.settled p) ∙ alike state
  value_plain (files.full e a b d v) is_plain =
      halts s answer (at (rows uses) pending idle (position g.values) false) w ws (UnknownArgument, [], plain_stray RUN run_rules (rows uses) pending (position g.values) w e is_plain)
      ∙ sym (over_stays ws scan.any (with_value w g) (over_three g.values a b d w v))

-- the text of an option, given for the first time or again
module _ (choice : Choice) (uses : Uses) (g : Given) (stands : Stands uses g) (few : Few g.values) (t : Text) where
  -- the option's first text, which is pending
  abbrev with_option : text_given choice g ≡ None → State
  with_option e =
      let settles = option_settles uses (id_of choice) t (known choice) (stands.texts choice ∙ e) in
      ready false uses (Some (id_of choice, t ∷ [])) (put choice t g)
      (record { all = uses ++ (id_of choice, t) ∷ []; no_fault = settles.0; settled = settles.1; stands = text_stands choice uses t g stands e })
      (rw (put-values choice t g) few)

option_here : (choice : Choice) (uses : Uses) (g : Given) (o : Option Text) → text_given choice g ≡ o → Stands uses g → has_row (id_of choice) (rows uses) ≡ is_some o
option_here choice uses g o e stands = has_row-is (id_of choice) uses ∙ ap (λ (x : Option Text). is_some x) (stands.texts choice ∙ e)

-- `--name=text`
module _ (choice : Choice) (uses : Uses) (pending : Pending) (g : Given) (c : Clean uses pending g) (few : Few g.values) (t : Text) where
  abbrev attached_state : text_given choice g ≡ None → State
  attached_state e =
      ready false (c.all ++ (id_of choice, t) ∷ []) None (put choice t g)
      (record { all = c.all ++ (id_of choice, t) ∷ []; no_fault = refl; settled = refl; stands = text_stands choice c.all t g c.stands e })
      (rw (put-values choice t g) few)

  attached_fits : text_given choice g ≡ None → react_fault run_rules false (option_of (id_of choice)) (t ∷ []) (held (rows uses) pending) ≡ []
  attached_fits e = rw (c.no_fault, c.settled, option_here choice c.all g None e c.stands) refl

  attached_again : (before : Text) → text_given choice g ≡ Some before → HasFault (react_fault run_rules false (option_of (id_of choice)) (t ∷ []) (held (rows uses) pending))
  attached_again before e = (ArgumentConflict, [], rw (c.no_fault, c.settled, option_here choice c.all g (Some before) e c.stands) refl)

  attached_place : (e : text_given choice g ≡ None)
      → at (used (option_of (id_of choice)) (t ∷ []) (settled_at RUN run_rules (rows uses) pending)) None idle (position g.values) false ≡ walk_of (attached_state e)
  attached_place e =
      rw (c.settled, put-values choice t g)
      (ap (λ (found : List Row). at found None idle (position g.values) false) (use-new (id_of choice) t c.all (option_here choice c.all g None e c.stands)))

  attached_word : (w key : Text) (ws : List Text) (o : Option Text) → text_given choice g ≡ o → bytes_eq w (45 ∷ 45 ∷ []) ≡ false → long_of w ≡ Some (key, Some t)
      → arg_by_long run_rules key ≡ Some (option_of (id_of choice)) → Alike ws
      → clap (at (rows uses) pending idle (position g.values) false) (w ∷ ws) ≡ rest ws (option_map (λ more. (scan.any, more)) (with_text choice t g))
  attached_word w key ws None e d l a alike =
      let here = at (rows uses) pending idle (position g.values) false in
      let step = attached RUN run_rules (rows uses) pending (position g.values) w key t (id_of choice) d l a in
      goes_on s answer here (walk_of (attached_state e)) w ws (step.0 ∙ attached_fits e) (step.1 ∙ attached_place e)
      ∙ (alike (attached_state e) ∙ sym (rw (first_text choice t g e) refl))
  attached_word w key ws (Some before) e d l a alike =
      let here = at (rows uses) pending idle (position g.values) false in
      let step = attached RUN run_rules (rows uses) pending (position g.values) w key t (id_of choice) d l a in
      let fault = attached_again before e in
      halts s answer here w ws (fault.0, fault.1, step.0 ∙ fault.2) ∙ sym (rw (second_text choice t before g e) refl)

-- ---- where an option waits for its text

module _ (choice : Choice) (uses : Uses) (g : Given) (stands : Stands uses g) (few : Few g.values) where
  abbrev waiting_here : Walk
  waiting_here = walk_of (waits choice uses g stands few)

  no_text : HasFault (settle_fault_at RUN run_rules (rows uses) (Some (id_of choice, [])))
  no_text = (InvalidValue, [], rw (known choice) refl)

  text_place : (w : Text) (e : text_given choice g ≡ None) → at (rows uses) (Some (id_of choice, w ∷ [])) idle (position g.values) false ≡ walk_of (with_option choice uses g stands few w e)
  text_place w e = rw (put-values choice w g) refl

  second_fault : (w before : Text) → text_given choice g ≡ Some before → HasFault (settle_fault_at RUN run_rules (rows uses) (Some (id_of choice, w ∷ [])))
  second_fault w before e = (ArgumentConflict, [], rw (known choice, option_here choice uses g (Some before) e stands) refl)

  waited_text : (w : Text) (ws : List Text) (o : Option Text) → text_given choice g ≡ o → IsPlain w → AllRead ws → Alike ws
      → clap waiting_here (w ∷ ws) ≡ rest ws (option_map (λ more. (scan.any, more)) (with_text choice w g))
  waited_text w ws None e p r alike =
      let step = filled_in RUN run_rules (rows uses) (position g.values) (id_of choice) w (known choice) (same_id choice) p in
      let state = with_option choice uses g stands few w e in
      goes_on s answer waiting_here (walk_of state) w ws step.0 (step.1 ∙ text_place w e)
      ∙ (alike state ∙ sym (rw (first_text choice w g e) refl))
  waited_text w ws (Some before) e p r alike =
      let step = filled_in RUN run_rules (rows uses) (position g.values) (id_of choice) w (known choice) (same_id choice) p in
      goes_on s answer waiting_here (at (rows uses) (Some (id_of choice, w ∷ [])) idle (position g.values) false) w ws step.0 step.1
      ∙ (broken (rows uses) (Some (id_of choice, w ∷ [])) (position g.values) (second_fault w before e) ws r (at_place g.values)
      ∙ sym (rw (second_text choice w before g e) refl))

  waited_key : (w key : Text) (v : Option Text) → bytes_eq w (45 ∷ 45 ∷ []) ≡ false → long_of w ≡ Some (key, v) → Key key → HasFault (turn_fault s [] waiting_here w)
  waited_key w key v d l (files.option other a k) = option_waiting RUN run_rules (rows uses) (Some (id_of choice, [])) (position g.values) (id_of choice) w key (id_of other) v d l a no_text
  waited_key w key v d l (files.none a k) = unknown_waiting RUN run_rules (rows uses) (Some (id_of choice, [])) (position g.values) (id_of choice) w key v d l a

  waited_word : (w : Text) (ws : List Text) → Reads w → AllRead ws → Look w → bytes_eq w (45 ∷ 45 ∷ []) ≡ false → Alike ws → clap waiting_here (w ∷ ws) ≡ plain (scan.text_of choice) g (w ∷ ws)
  waited_word w ws r more (looks.plain p o) d alike = waited_text w ws (text_given choice g) refl p more alike ∙ sym (rw o refl)
  waited_word w ws r more (looks.long key v l o n) d alike = halts s answer waiting_here w ws (waited_key w key v d l (key_of key)) ∙ sym (rw o refl)
  waited_word w ws r more (looks.short flags k l f n o u) d alike =
      let c = r flags f in
      halts s answer waiting_here w ws (short_waiting RUN run_rules (rows uses) (Some (id_of choice, [])) (position g.values) (id_of choice) w flags k c.0 d l f n c.1 refl) ∙ sym (rw o refl)

  waited : (w : Text) (ws : List Text) → Reads w → AllRead ws → Alike ws → clap waiting_here (w ∷ ws) ≡ plain (scan.text_of choice) g (w ∷ ws)
  waited w ws r more alike = elim (cases_Bool (bytes_eq w (45 ∷ 45 ∷ []))) [
    | inl hit ↦
        let step = dashes_waiting RUN run_rules (rows uses) (Some (id_of choice, [])) (position g.values) (id_of choice) w hit in
        goes_on s answer waiting_here (at (rows uses) (Some (id_of choice, [])) (option (id_of choice)) (position g.values) true) w ws step.0 step.1
        ∙ (broken_ended (rows uses) (Some (id_of choice, [])) (position g.values) no_text ws (at_place g.values) (option (id_of choice)) ∙ sym (rw (dashes_dashed w hit) refl))
    | inr miss ↦ waited_word w ws r more (look w miss) miss alike
  ]

-- ---- between two words

module _ (uses : Uses) (pending : Pending) (g : Given) (c : Clean uses pending g) (few : Few g.values) where
  abbrev here : Walk
  here = at (rows uses) pending idle (position g.values) false

  opened_word : (choice : Choice) (w key : Text) (ws : List Text) → bytes_eq w (45 ∷ 45 ∷ []) ≡ false → long_of w ≡ Some (key, None)
      → arg_by_long run_rules key ≡ Some (option_of (id_of choice)) → Alike ws → clap here (w ∷ ws) ≡ plain (scan.text_of choice) g ws
  opened_word choice w key ws d l a alike =
      let state = waits choice c.all g c.stands few in
      let step = opened RUN run_rules (rows uses) pending (position g.values) w key (id_of choice) d l a in
      goes_on s answer here (walk_of state) w ws (step.0 ∙ c.no_fault) (step.1 ∙ rw c.settled refl) ∙ alike state

  abbrev after : Kind → Text → List Text → Option AskedTexts
  after kind w ws = rest ws (after_kind kind w g)

  long_word : (w key : Text) (v : Option Text) (ws : List Text) → bytes_eq w (45 ∷ 45 ∷ []) ≡ false → long_of w ≡ Some (key, v) → Key key → Alike ws → clap here (w ∷ ws) ≡ after (named key v) w ws
  long_word w key None ws d l (files.option choice a k) alike = opened_word choice w key ws d l a alike ∙ sym (rw (k None) refl)
  long_word w key (Some t) ws d l (files.option choice a k) alike = attached_word choice uses pending g c few t w key ws (text_given choice g) refl d l a alike ∙ sym (rw (k (Some t)) refl)
  long_word w key v ws d l (files.none a k) alike = halts s answer here w ws (unknown_idle RUN run_rules (rows uses) pending (position g.values) w key v d l a) ∙ sym (rw (k v) refl)

  any_word : (w : Text) (ws : List Text) → Reads w → Look w → bytes_eq w (45 ∷ 45 ∷ []) ≡ false → Alike ws → clap here (w ∷ ws) ≡ plain scan.any g (w ∷ ws)
  any_word w ws r (looks.plain p o) d alike = value_plain uses pending g c few w ws alike (next_file g.values w few) p ∙ sym (rw (d, o) refl)
  any_word w ws r (looks.long key v l o n) d alike = long_word w key v ws d l (key_of key) alike ∙ sym (rw (d, o, n) refl)
  any_word w ws r (looks.short flags k l f n o u) d alike =
      let x = r flags f in
      halts s answer here w ws (short_idle RUN run_rules (rows uses) pending (position g.values) w flags k x.0 d l f n x.1 refl) ∙ sym (rw (d, o, u) refl)

  between : (w : Text) (ws : List Text) → Reads w → Alike ws → clap here (w ∷ ws) ≡ plain scan.any g (w ∷ ws)
  between w ws r alike = elim (cases_Bool (bytes_eq w (45 ∷ 45 ∷ []))) [
    | inl hit ↦
        let step = dashes_idle RUN run_rules (rows uses) pending (position g.values) w hit in
        goes_on s answer here (at (rows uses) pending idle (position g.values) true) w ws step.0 step.1 ∙ (alike (ready true uses pending g c few) ∙ sym (rw hit refl))
    | inr miss ↦ any_word w ws r (look w miss) miss alike
  ]

alike : (ws : List Text) → AllRead ws → Alike ws
alike [] r (ready true uses pending g c few) = ended uses pending idle (position g.values) true g few c
alike [] r (ready false uses pending g c few) = ended uses pending idle (position g.values) false g few c
alike [] r (waits choice uses g stands few) = ends_badly s answer (walk_of (waits choice uses g stands few)) (no_text choice uses g stands few)
alike (w ∷ ws) r (ready true uses pending g c few) = value_ended uses pending g c few w ws (alike ws r.1) (next_file g.values w few)
alike (w ∷ ws) r (ready false uses pending g c few) = between uses pending g c few w ws r.0 (alike ws r.1)
alike (w ∷ ws) r (waits choice uses g stands few) = waited choice uses g stands few w ws r.0 r.1 (alike ws r.1)

-- ---- the whole

no_faults_below : (stop : Option (Text × List Text)) → entered_fault (built run_app) stop ≡ []
no_faults_below None = refl
no_faults_below (Some p) = refl

no_subcommand : (stop : Option (Text × List Text)) → is_some (entered (built run_app) stop) ≡ false
no_subcommand None = refl
no_subcommand (Some p) = refl

abbrev start : Walk
start = at [] None idle 1 false

faults_are : (words : List Text) → fault_of run_app words ≡ faults s answer start (drop 1 words)
unfolding rest_faults
faults_are words =
    let stop = (walk run_rules [] nothing_held (drop 1 words)).stopped in
    ap (λ (b : Bool). level_fault s [] nothing_held (drop 1 words) b (entered_fault (built run_app) stop)) (no_subcommand stop)
    ∙ ap (λ (k : Kinds). level_fault s [] nothing_held (drop 1 words) false k) (no_faults_below stop)

then_answer : (b : Bool) (found : List Row) → option_and_then answer (cond b (Some found) None) ≡ cond b (answer found) None
then_answer true found = refl
then_answer false found = refl

found_is : (words : List Text) → option_and_then answer (found_by run_app words) ≡ clap start (drop 1 words)
unfolding found_by answer_at
found_is words =
    then_answer (length (fault_of run_app words) == 0) (matches_of run_app words)
    ∙ ap (λ (kinds : Kinds). cond (length kinds == 0) (answer (matches_of run_app words)) None) (faults_are words)

-- what clap finds in the words after the first is what the scan reads
pub run_read : (words : List Text) → AllRead (drop 1 words) → option_and_then (λ found. run_given (found_in found)) (found_by run_app words) ≡ option_and_then run_given (given_by (drop 1 words))
run_read words r =
    found_is words
    ∙ alike (drop 1 words) r (ready false [] None nothing_given (record {
      all = [];
      no_fault = refl;
      settled = refl;
      stands = record {
        image = refl;
        signers = refl;
        script = refl;
        texts = λ c. elim c as (λ (c : Choice). first_of (id_of c) (rows []) ≡ text_given c nothing_given) [ scan.frames ↦ refl | scan.processors ↦ refl ];
      };
    }) tt)
