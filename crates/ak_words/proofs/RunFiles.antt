-- What is given to `run` so far, in clap's rows.
use Rattle.std.proofs.Common.{◌≡◌, inl, inr, ℕ, true, false, List, [], ◌∷◌, ◌++◌, Option, Some, None, is_some, codes, refl, ap, ◌∙◌}
use Rattle.std.proofs.lemmas.Bool.{cases_Bool}
use Rattle.std.specs.Prelude.{slice_get}
use Rattle.std.specs.Str.{bytes_eq}
use Rattle.clap.specs.Words.{Text, first_of}
use Rattle.clap.specs.Walk.{arg_by_id, arg_by_index, arg_by_long, has_row, next_position}
use Rattle.ak_words.specs.Scan.{Choice, Given, Kind, with_text, with_value}
use Rattle.ak_words.specs.Scan as scan
use Rattle.ak_words.proofs.Built.{FRAMES, IMAGE, PROCESSORS, SCRIPT, SIGNERS, file_at, option_of, run_rules}
use Rattle.ak_words.proofs.Looks.{named}
use Rattle.ak_words.proofs.Uses.{Uses, first_of-more, first_some, has_row-is, rows, use-new}
use Rattle.ak_words.proofs.Steps.{Pending, settle_fault_at, settled_at}

abbrev pub RUN : Text
RUN = codes "run"

-- the id of an option, and what was given for it
abbrev pub id_of : Choice → Text
id_of scan.frames = FRAMES
id_of scan.processors = PROCESSORS

abbrev pub text_given : Choice → Given → Option Text
text_given scan.frames given = given.frames
text_given scan.processors given = given.processors

abbrev pub put : Choice → Text → Given → Given
put scan.frames text given = record given { frames = Some text }
put scan.processors text given = record given { processors = Some text }

-- the rows of these uses say what is given
pub record Stands (uses : Uses) (given : Given) : Type 0 where
  pub image : first_of IMAGE (rows uses) ≡ slice_get given.values 0
  pub signers : first_of SIGNERS (rows uses) ≡ slice_get given.values 1
  pub script : first_of SCRIPT (rows uses) ≡ slice_get given.values 2
  pub texts : (choice : Choice) → first_of (id_of choice) (rows uses) ≡ text_given choice given

-- what clap holds between two words: it settles to rows that say what is given
pub record Clean (uses : Uses) (pending : Pending) (given : Given) : Type 0 where
  pub all : Uses
  pub no_fault : settle_fault_at RUN run_rules (rows uses) pending ≡ []
  pub settled : settled_at RUN run_rules (rows uses) pending ≡ rows all
  pub stands : Stands all given

-- a first file or option settles to one more use
pub file_settles : (uses : Uses) (id w : Text) (i : ℕ) → arg_by_id run_rules id ≡ Some (file_at id i) → first_of id (rows uses) ≡ None
    → (settle_fault_at RUN run_rules (rows uses) (Some (id, w ∷ [])) ≡ []) × (settled_at RUN run_rules (rows uses) (Some (id, w ∷ [])) ≡ rows (uses ++ (id, w) ∷ []))
file_settles uses id w i a f =
    let none : has_row id (rows uses) ≡ false = has_row-is id uses ∙ ap (λ (o : Option Text). is_some o) f in
    (rw (a, none) refl, rw a (use-new id w uses none))

pub option_settles : (uses : Uses) (id w : Text) → arg_by_id run_rules id ≡ Some (option_of id) → first_of id (rows uses) ≡ None
    → (settle_fault_at RUN run_rules (rows uses) (Some (id, w ∷ [])) ≡ []) × (settled_at RUN run_rules (rows uses) (Some (id, w ∷ [])) ≡ rows (uses ++ (id, w) ∷ []))
option_settles uses id w a f =
    let none : has_row id (rows uses) ≡ false = has_row-is id uses ∙ ap (λ (o : Option Text). is_some o) f in
    (rw (a, none) refl, rw a (use-new id w uses none))

pub known : (choice : Choice) → arg_by_id run_rules (id_of choice) ≡ Some (option_of (id_of choice))
known scan.frames = refl
known scan.processors = refl

pub same_id : (choice : Choice) → bytes_eq (id_of choice) (id_of choice) ≡ true
same_id scan.frames = refl
same_id scan.processors = refl

-- the value of one id stays where another is given
first_some-none : (o : Option Text) → first_some o None ≡ o
first_some-none None = refl
first_some-none (Some x) = refl

other : (id : Text) (uses : Uses) (u : Text × Text) (o : Option Text) → bytes_eq u.0 id ≡ false → first_of id (rows uses) ≡ o → first_of id (rows (uses ++ u ∷ [])) ≡ o
other id uses u o e f = first_of-more id uses u ∙ rw e (first_some-none (first_of id (rows uses)) ∙ f)

this : (id w : Text) (uses : Uses) → bytes_eq id id ≡ true → first_of id (rows uses) ≡ None → first_of id (rows (uses ++ (id, w) ∷ [])) ≡ Some w
this id w uses e f = first_of-more id uses (id, w) ∙ rw (f, e) refl

-- one more text of an option
pub text_stands : (choice : Choice) (uses : Uses) (w : Text) (g : Given) → Stands uses g → text_given choice g ≡ None → Stands (uses ++ (id_of choice, w) ∷ []) (put choice w g)
text_stands scan.frames uses w g s e = record {
  image = other IMAGE uses (FRAMES, w) _ refl s.image;
  signers = other SIGNERS uses (FRAMES, w) _ refl s.signers;
  script = other SCRIPT uses (FRAMES, w) _ refl s.script;
  texts = λ c. elim c as (λ (c : Choice). first_of (id_of c) (rows (uses ++ (FRAMES, w) ∷ [])) ≡ text_given c (put scan.frames w g)) [
    | scan.frames ↦ this FRAMES w uses refl (s.texts scan.frames ∙ e)
    | scan.processors ↦ other PROCESSORS uses (FRAMES, w) _ refl (s.texts scan.processors)
  ];
}
text_stands scan.processors uses w g s e = record {
  image = other IMAGE uses (PROCESSORS, w) _ refl s.image;
  signers = other SIGNERS uses (PROCESSORS, w) _ refl s.signers;
  script = other SCRIPT uses (PROCESSORS, w) _ refl s.script;
  texts = λ c. elim c as (λ (c : Choice). first_of (id_of c) (rows (uses ++ (PROCESSORS, w) ∷ [])) ≡ text_given c (put scan.processors w g)) [
    | scan.frames ↦ other FRAMES uses (PROCESSORS, w) _ refl (s.texts scan.frames)
    | scan.processors ↦ this PROCESSORS w uses refl (s.texts scan.processors ∙ e)
  ];
}

-- the place of the next file
abbrev pub position : List Text → ℕ
position [] = 1
position (a ∷ []) = 2
position (a ∷ b ∷ []) = 3
position _ = 4

-- at most three files
abbrev pub Few : List Text → Type 0
Few (a ∷ b ∷ c ∷ d ∷ more) = ⊥
Few _ = Unit {0}

-- one more file stands
abbrev pub FileStands : Text → List Text → Text → Type 0
FileStands id vs w = (uses : Uses) (g : Given) → g.values ≡ vs → Stands uses g → (first_of id (rows uses) ≡ None) × Stands (uses ++ (id, w) ∷ []) (with_value w g)

-- whether a word is one more file, after these
pub data NextFile (vs : List Text) (w : Text) : Type 0 where
  next : (id : Text) (i : ℕ) → arg_by_index run_rules (position vs) ≡ Some (file_at id i) → arg_by_id run_rules id ≡ Some (file_at id i)
      → next_position (file_at id i) (position vs) ≡ position (vs ++ w ∷ []) → Few (vs ++ w ∷ []) → FileStands id vs w → NextFile vs w
  full : arg_by_index run_rules (position vs) ≡ None → (a b c : Text) → vs ≡ a ∷ b ∷ c ∷ [] → NextFile vs w

texts_stay : (id w : Text) (uses : Uses) (g : Given) → ((c : Choice) → bytes_eq id (id_of c) ≡ false) → Stands uses g
    → (c : Choice) → first_of (id_of c) (rows (uses ++ (id, w) ∷ [])) ≡ text_given c (with_value w g)
texts_stay id w uses g e s scan.frames = other FRAMES uses (id, w) _ (e scan.frames) (s.texts scan.frames)
texts_stay id w uses g e s scan.processors = other PROCESSORS uses (id, w) _ (e scan.processors) (s.texts scan.processors)

image_stands : (w : Text) → FileStands IMAGE [] w
image_stands w uses g e s =
    let none : first_of IMAGE (rows uses) ≡ None = s.image ∙ rw e refl in (
      none,
      record {
        image = this IMAGE w uses refl none ∙ rw e refl;
        signers = other SIGNERS uses (IMAGE, w) _ refl s.signers ∙ rw e refl;
        script = other SCRIPT uses (IMAGE, w) _ refl s.script ∙ rw e refl;
        texts = texts_stay IMAGE w uses g (λ c. elim c as (λ (c : Choice). bytes_eq IMAGE (id_of c) ≡ false) [ scan.frames ↦ refl | scan.processors ↦ refl ]) s;
      },
    )

signers_stand : (a w : Text) → FileStands SIGNERS (a ∷ []) w
signers_stand a w uses g e s =
    let none : first_of SIGNERS (rows uses) ≡ None = s.signers ∙ rw e refl in (
      none,
      record {
        image = other IMAGE uses (SIGNERS, w) _ refl s.image ∙ rw e refl;
        signers = this SIGNERS w uses refl none ∙ rw e refl;
        script = other SCRIPT uses (SIGNERS, w) _ refl s.script ∙ rw e refl;
        texts = texts_stay SIGNERS w uses g (λ c. elim c as (λ (c : Choice). bytes_eq SIGNERS (id_of c) ≡ false) [ scan.frames ↦ refl | scan.processors ↦ refl ]) s;
      },
    )

script_stands : (a b w : Text) → FileStands SCRIPT (a ∷ b ∷ []) w
script_stands a b w uses g e s =
    let none : first_of SCRIPT (rows uses) ≡ None = s.script ∙ rw e refl in (
      none,
      record {
        image = other IMAGE uses (SCRIPT, w) _ refl s.image ∙ rw e refl;
        signers = other SIGNERS uses (SCRIPT, w) _ refl s.signers ∙ rw e refl;
        script = this SCRIPT w uses refl none ∙ rw e refl;
        texts = texts_stay SCRIPT w uses g (λ c. elim c as (λ (c : Choice). bytes_eq SCRIPT (id_of c) ≡ false) [ scan.frames ↦ refl | scan.processors ↦ refl ]) s;
      },
    )

pub next_file : (vs : List Text) (w : Text) → Few vs → NextFile vs w
next_file [] w few = next IMAGE 1 refl refl refl tt (image_stands w)
next_file (a ∷ []) w few = next SIGNERS 2 refl refl refl tt (signers_stand a w)
next_file (a ∷ b ∷ []) w few = next SCRIPT 3 refl refl refl tt (script_stands a b w)
next_file (a ∷ b ∷ c ∷ []) w few = full refl a b c refl
next_file (a ∷ b ∷ c ∷ d ∷ more) w few = absurd few

-- the option that a name names
pub data Key (key : Text) : Type 0 where
  option : (choice : Choice) → arg_by_long run_rules key ≡ Some (option_of (id_of choice)) → ((v : Option Text) → named key v ≡ scan.option choice v) → Key key
  none : arg_by_long run_rules key ≡ None → ((v : Option Text) → named key v ≡ scan.unknown) → Key key

pub key_of : (key : Text) → Key key
key_of key = elim (cases_Bool (bytes_eq FRAMES key)) [
  | inl hit ↦ option scan.frames (rw hit refl) (λ v. rw hit refl)
  | inr miss ↦ elim (cases_Bool (bytes_eq PROCESSORS key)) [
    | inl hit ↦ option scan.processors (rw (miss, hit) refl) (λ v. rw (miss, hit) refl)
    | inr none_either ↦ none (rw (miss, none_either) refl) (λ v. rw (miss, none_either) refl)
  ]
]

-- an option may have one text
pub first_text : (choice : Choice) (w : Text) (g : Given) → text_given choice g ≡ None → with_text choice w g ≡ Some (put choice w g)
first_text scan.frames w g e = rw e refl
first_text scan.processors w g e = rw e refl

pub second_text : (choice : Choice) (w before : Text) (g : Given) → text_given choice g ≡ Some before → with_text choice w g ≡ None
second_text scan.frames w before g e = rw e refl
second_text scan.processors w before g e = rw e refl

pub put-values : (choice : Choice) (w : Text) (g : Given) → (put choice w g).values ≡ g.values
put-values scan.frames w g = refl
put-values scan.processors w g = refl
