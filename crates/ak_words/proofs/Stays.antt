-- What no word takes back: too many values, and an option where there is none.
use Rattle.std.proofs.Common.{◌≡◌, ℕ, Bool, true, false, cond, List, [], ◌∷◌, ◌++◌, Option, Some, None, IfSome, refl, option_map, codes}
use Rattle.std.specs.Str.{bytes_eq}
use Rattle.std.specs.Option.{option_and_then}
use Rattle.ak_words.specs.Asked.{AskedTexts, frames_of, processors_of, run_given, run_of, single_of}
use Rattle.ak_words.specs.Scan.{Choice, Given, Kind, Place, Text, after_kind, after_word, at_end, given_from, is_dashed, kind_of, option_named, with_frames, with_processors, with_text, with_value}
use Rattle.ak_words.specs.Scan as scan

-- a fact of what is given that each word keeps, and by which nothing is asked for
pub record Stays (P : Given → Type 0) (asked : Given → Option AskedTexts) : Type 0 where
  pub value : (w : Text) (g : Given) → P g → P (with_value w g)
  pub frames : (w : Text) (g : Given) → P g → P (record g { frames = Some w })
  pub processors : (w : Text) (g : Given) → P g → P (record g { processors = Some w })
  pub none : (g : Given) → P g → asked g ≡ None

module _ (P : Given → Type 0) (asked : Given → Option AskedTexts) (s : Stays P asked) where
  abbrev Keeps : Option (Place × Given) → Type 0
  Keeps next = IfSome next (λ n. P n.1)

  abbrev then_any : Option Given → Option (Place × Given)
  then_any more = option_map (λ g. (scan.any, g)) more

  by_frames : (before : Option Text) (w : Text) (g : Given) → P g → Keeps (then_any (with_frames before w g))
  by_frames None w g p = s.frames w g p
  by_frames (Some before) w g p = tt

  by_processors : (before : Option Text) (w : Text) (g : Given) → P g → Keeps (then_any (with_processors before w g))
  by_processors None w g p = s.processors w g p
  by_processors (Some before) w g p = tt

  by_text : (choice : Choice) (w : Text) (g : Given) → P g → Keeps (then_any (with_text choice w g))
  by_text scan.frames w g p = by_frames g.frames w g p
  by_text scan.processors w g p = by_processors g.processors w g p

  by_kind : (kind : Kind) (w : Text) (g : Given) → P g → Keeps (after_kind kind w g)
  by_kind scan.value w g p = s.value w g p
  by_kind scan.dashes w g p = p
  by_kind (scan.option choice None) w g p = p
  by_kind (scan.option choice (Some text)) w g p = by_text choice text g p
  by_kind scan.unknown w g p = tt

  by_awaited : (dashed : Bool) (choice : Choice) (w : Text) (g : Given) → P g → Keeps (cond dashed None (then_any (with_text choice w g)))
  by_awaited true choice w g p = tt
  by_awaited false choice w g p = by_text choice w g p

  by_word : (place : Place) (w : Text) (g : Given) → P g → Keeps (after_word place w g)
  by_word scan.any w g p = by_kind (kind_of w) w g p
  by_word (scan.text_of choice) w g p = by_awaited (is_dashed w) choice w g p
  by_word scan.only_values w g p = s.value w g p

  by_end : (place : Place) (g : Given) → P g → option_and_then asked (at_end place g) ≡ None
  by_end scan.any g p = s.none g p
  by_end (scan.text_of choice) g p = refl
  by_end scan.only_values g p = s.none g p

  -- whatever follows, nothing is asked for
  pub stays : (ws : List Text) (place : Place) (g : Given) → P g → option_and_then asked (given_from place g ws) ≡ None
  stays [] place g p = by_end place g p
  stays (w ∷ ws) place g p =
      elim (after_word place w g) as (λ (r : Option (Place × Given)). Keeps r → option_and_then asked (option_and_then (λ (next : Place × Given). given_from next.0 next.1 ws) r) ≡ None) [
        | None ↦ λ _. refl
        | Some next ↦ λ more. stays ws next.0 next.1 more
      ] (by_word place w g p)

-- ---- more than three values are no run

abbrev pub Over : List Text → Type 0
Over (a ∷ b ∷ c ∷ d ∷ more) = Unit {0}
Over _ = ⊥

over_more : (vs : List Text) (w : Text) → Over vs → Over (vs ++ w ∷ [])
over_more (a ∷ b ∷ c ∷ d ∷ more) w o = tt
over_more (a ∷ b ∷ c ∷ []) w o = absurd o
over_more (a ∷ b ∷ []) w o = absurd o
over_more (a ∷ []) w o = absurd o
over_more [] w o = absurd o

over_refused : (vs : List Text) (frames : Option (Option ℕ)) (processors : Option ℕ) → Over vs → run_of vs frames processors ≡ None
over_refused (a ∷ b ∷ c ∷ d ∷ more) frames processors o = refl
over_refused (a ∷ b ∷ c ∷ []) frames processors o = absurd o
over_refused (a ∷ b ∷ []) frames processors o = absurd o
over_refused (a ∷ []) frames processors o = absurd o
over_refused [] frames processors o = absurd o

pub over_stays : (ws : List Text) (place : Place) (g : Given) → Over g.values → option_and_then run_given (given_from place g ws) ≡ None
over_stays ws place g o = stays (λ (g : Given). Over g.values) run_given (record {
  value = λ w g o. over_more g.values w o;
  frames = λ w g o. o;
  processors = λ w g o. o;
  none = λ g o. over_refused g.values (frames_of g.frames) (processors_of g.processors) o;
}) ws place g o

-- ---- two values or an option are no single value

pub data NotSingle (g : Given) : Type 0 where
  two : (a b : Text) (more : List Text) → g.values ≡ a ∷ b ∷ more → NotSingle g
  framed : (text : Text) → g.frames ≡ Some text → NotSingle g
  on_processors : (text : Text) → g.processors ≡ Some text → NotSingle g

module _ (meaning : Text → Option AskedTexts) where
  abbrev single : Given → Option AskedTexts
  single g = single_of meaning g.values g.frames g.processors

  with_frames_refused : (vs : List Text) (text : Text) (processors : Option Text) → single_of meaning vs (Some text) processors ≡ None
  with_frames_refused [] text processors = refl
  with_frames_refused (a ∷ []) text processors = refl
  with_frames_refused (a ∷ b ∷ more) text processors = refl

  with_processors_refused : (vs : List Text) (frames : Option Text) (text : Text) → single_of meaning vs frames (Some text) ≡ None
  with_processors_refused [] frames text = refl
  with_processors_refused (a ∷ []) None text = refl
  with_processors_refused (a ∷ []) (Some f) text = refl
  with_processors_refused (a ∷ b ∷ more) frames text = refl

  not_single : (g : Given) → NotSingle g → single g ≡ None
  not_single g (two a b more e) = rw e refl
  not_single g (framed text e) = rw e (with_frames_refused g.values text g.processors)
  not_single g (on_processors text e) = rw e (with_processors_refused g.values g.frames text)

  more_values : (w : Text) (g : Given) → NotSingle g → NotSingle (with_value w g)
  more_values w g (two a b more e) = two a b (more ++ w ∷ []) (rw e refl)
  more_values w g (framed text e) = framed text e
  more_values w g (on_processors text e) = on_processors text e

  more_frames : (w : Text) (g : Given) → NotSingle g → NotSingle (record g { frames = Some w })
  more_frames w g (two a b more e) = two a b more e
  more_frames w g (framed text e) = framed w refl
  more_frames w g (on_processors text e) = on_processors text e

  more_processors : (w : Text) (g : Given) → NotSingle g → NotSingle (record g { processors = Some w })
  more_processors w g (two a b more e) = two a b more e
  more_processors w g (framed text e) = framed text e
  more_processors w g (on_processors text e) = on_processors w refl

  pub single_stays : (ws : List Text) (place : Place) (g : Given) → NotSingle g → option_and_then single (given_from place g ws) ≡ None
  single_stays ws place g n = stays NotSingle single (record {
    value = more_values;
    frames = more_frames;
    processors = more_processors;
    none = not_single;
  }) ws place g n

  abbrev next_single : List Text → Option Given → Option AskedTexts
  next_single ws more = option_and_then single (option_and_then (λ (next : Place × Given). given_from next.0 next.1 ws) (option_map (λ g. (scan.any, g)) more))

  frames_single : (ws : List Text) (before : Option Text) (w : Text) (g : Given) → next_single ws (with_frames before w g) ≡ None
  frames_single ws None w g = single_stays ws scan.any (record g { frames = Some w }) (framed w refl)
  frames_single ws (Some before) w g = refl

  processors_single : (ws : List Text) (before : Option Text) (w : Text) (g : Given) → next_single ws (with_processors before w g) ≡ None
  processors_single ws None w g = single_stays ws scan.any (record g { processors = Some w }) (on_processors w refl)
  processors_single ws (Some before) w g = refl

  -- the text of an option
  text_single : (ws : List Text) (choice : Choice) (w : Text) (g : Given) → next_single ws (with_text choice w g) ≡ None
  text_single ws scan.frames w g = frames_single ws g.frames w g
  text_single ws scan.processors w g = processors_single ws g.processors w g

  by_dash : (dashed : Bool) (w : Text) (ws : List Text) (choice : Choice) (g : Given)
      → option_and_then single (option_and_then (λ (next : Place × Given). given_from next.0 next.1 ws) (cond dashed None (option_map (λ g. (scan.any, g)) (with_text choice w g)))) ≡ None
  by_dash true w ws choice g = refl
  by_dash false w ws choice g = text_single ws choice w g

  awaited_single : (ws : List Text) (choice : Choice) (g : Given) → option_and_then single (given_from (scan.text_of choice) g ws) ≡ None
  awaited_single [] choice g = refl
  awaited_single (w ∷ ws) choice g = by_dash (is_dashed w) w ws choice g

  -- what the rest of the words asks for, after this
  abbrev pub single_after : List Text → Option (Place × Given) → Option AskedTexts
  single_after ws next = option_and_then single (option_and_then (λ (n : Place × Given). given_from n.0 n.1 ws) next)

  by_names : (a b : Bool) (text : Option Text) (w : Text) (ws : List Text) (g : Given)
      → single_after ws (after_kind (cond a (scan.option scan.frames text) (cond b (scan.option scan.processors text) scan.unknown)) w g) ≡ None
  by_names true b None w ws g = awaited_single ws scan.frames g
  by_names true b (Some text) w ws g = text_single ws scan.frames text g
  by_names false true None w ws g = awaited_single ws scan.processors g
  by_names false true (Some text) w ws g = text_single ws scan.processors text g
  by_names false false text w ws g = refl

  -- a word that is an option, known or not, asks for nothing
  pub option_single : (name : Text) (text : Option Text) (w : Text) (ws : List Text) (g : Given) → single_after ws (after_kind (option_named name text) w g) ≡ None
  option_single name text w ws g = by_names (bytes_eq (codes "--frames") name) (bytes_eq (codes "--processors") name) text w ws g
