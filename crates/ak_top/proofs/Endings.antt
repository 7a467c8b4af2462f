-- How a command ends, by what its steps say.
use Rattle.std.proofs.Common.{◌≡◌, ℕ, false, true, List, [], ◌++◌, refl, sym, ◌∙◌, ap, subst, inl, inr, ◌⊎◌}
use Rattle.std.proofs.lemmas.List.{append-nil}
use Rattle.std.specs.Prelude.{Bool, Some, Result, Ok, Err, not, if◌then◌else◌}
use Rattle.ak_report.specs.Report.{report}
use Rattle.ak_run.specs.Runs.{RunParts}
use Rattle.ak_measure.specs.Signers.{knows, allows}
use Rattle.ak_measure.specs.Stages.{◌>>=◌}
use Rattle.ak_image.specs.Image.{Image}
use Rattle.ak_top.specs.Ends.{digest_text, IsTextOf, Ends, Does, WritesText, Runs}
use Rattle.ak_top.specs.Inputs.{Task, Report, Digest, image_in, inputs_in, signed, task_in, asked_in}
use Rattle.ak_top.specs.Reads.{IsDue, CountsBy, is_foreign, is_too_long, AsksBy, ReadsFile, Reads}
use Rattle.ak_top.specs.Layouts.{layout_for}
use Rattle.ak_top.specs.Seen.{FilesState, SinkState, Contents, reads_files}
use Rattle.ak_image.specs.Built.{digest_of}
use Rattle.ak_words.specs.Asked.{RunTexts, AskedTexts, Run, Measure}
use Rattle.ak_top.specs.declared.inputs.Inputs.{Inputs}
use Rattle.ak_top.specs.declared.left.Left.{Left}
use Rattle.ak_top.specs.declared.left.Left.TheVariants as left
use Rattle.ak_top.specs.declared.trouble.Place.{Place}
use Rattle.ak_top.specs.declared.trouble.Trouble.{Trouble}
use Rattle.ak_top.specs.declared.trouble.Trouble.TheVariants.{Usage, ReadFailed, UnknownSigner, NotSigned, WriteFailed, OutOfMemory}
use Rattle.ak_top.proofs.FileReads.{due_err, value_is}
use Rattle.ak_top.proofs.InputReads.{image_read}

-- ---- How a text ends a command

pub text_ends : (task : Task) (given : Left) (text : List ℕ) (wanted : Result Task Trouble) (out out' : SinkState) →
    IsTextOf task given text → wanted ≡ Ok task → WritesText (Ok tt) text out out' → Ends (Ok given) wanted out out'
text_ends task given text wanted out out' is due w = record { task = task; due = due; text = text; is = is; taken = w.0; unfailed = w.1 }

pub text_fails : (task : Task) (given : Left) (text : List ℕ) (wanted : Result Task Trouble) (out out' : SinkState) (trouble : Trouble) →
    IsTextOf task given text → wanted ≡ Ok task → WritesText (Err trouble) text out out' → Ends (Err trouble) wanted out out'
text_fails task given text wanted out out' WriteFailed is due w = record { task = task; due = due; left = given; text = text; is = is; taken = w.0; failed = w.1 }
text_fails task given text wanted out out' OutOfMemory is due w = w
text_fails task given text wanted out out' _ is due w = absurd w

-- a trouble before any text
pub trouble_ends : (trouble : Trouble) (wanted : Result Task Trouble) (out out' : SinkState) → is_foreign trouble ≡ false → IsDue wanted (Err trouble) →
    out' ≡ out → Ends (Err trouble) wanted out out'
trouble_ends WriteFailed wanted out out' own due still = absurd (cc)
trouble_ends OutOfMemory wanted out out' own due still = still
trouble_ends _ wanted out out' own (inl e) still = record { due = sym e; still = still }
trouble_ends _ wanted out out' own (inr e) still = absurd (cc)

no_usage : (trouble : Trouble) → is_foreign trouble ≡ false → ◌≡◌ {A = Result Left Trouble} (Err trouble) (Err Usage) → ⊥
no_usage trouble own e = let is : trouble ≡ Usage = cc in let wrong : true ≡ false = sym (ap is_foreign is) ∙ own in cc

-- all names that are due were asked
pub asks_all : (ending : Result Left Trouble) (command : AskedTexts) (seen : Contents) (asked asked' : List (List ℕ)) → asked' ≡ asked ++ asked_in (Some command) seen →
    AsksBy ending (Some command) seen asked asked'
asks_all (Ok u) command seen asked asked' e = e
asks_all (Err OutOfMemory) command seen asked asked' e =
    record { front = asked_in (Some command) seen; rest = []; whole = append-nil (asked_in (Some command) seen); more = e }
asks_all (Err _) command seen asked asked' e = e

-- ---- A command, after its files

-- where no file failed, the count stayed
pub still_counts : (ending : Result Left Trouble) (before now : ℕ) → ((place : Place) → ending ≡ Err (ReadFailed place) → ⊥) → now ≡ before → CountsBy ending before now
still_counts (Ok u) before now read e = e
still_counts (Err (ReadFailed place)) before now read e = absurd (read place refl)
still_counts (Err OutOfMemory) before now read e = inl e
still_counts (Err _) before now read e = e

module _ {A : Type 0} (command : AskedTexts) (said : Contents → Result A Trouble) (next : A → Result Task Trouble) (files files' : FilesState)
    (is : (seen : Contents) → task_in (Some command) seen ≡ (said seen >>= next)) (reads : reads_files (Some command) ≡ true) where
  -- the files ended it
  pub files_end : (trouble : Trouble) (out : SinkState) → Reads said command files files' (Err trouble) → Does command files files' out out (Err trouble)
  files_end trouble out r =
      let due : IsDue (task_in (Some command) r.seen) (Err trouble) = subst (λ wanted. IsDue wanted (Err trouble)) (sym (is r.seen)) (due_err (said r.seen) next trouble r.due) in
      record {
        seen = r.seen;
        sees = r.sees;
        ends = trouble_ends trouble (task_in (Some command) r.seen) out out r.own due refl;
        counts = r.counts;
        worded = no_usage trouble r.own;
        long = λ e. r.long;
        short = λ e. absurd (cc);
        unread = λ e. absurd (cc);
        asked = r.asked;
      }

  -- the files said something, and it ended after that
  pub ends_after : (x : A) (ending : Result Left Trouble) (out out' : SinkState) → Reads said command files files' (Ok x) → Ends ending (next x) out out' →
      ((place : Place) → ending ≡ Err (ReadFailed place) → ⊥) → is_too_long ending ≡ false → (ending ≡ Err Usage → ⊥) → Does command files files' out out' ending
  ends_after x ending out out' r ends read short worded =
      let due : task_in (Some command) r.seen ≡ next x = is r.seen ∙ ap (λ given. given >>= next) (value_is (said r.seen) x r.due) in
      record {
        seen = r.seen;
        sees = r.sees;
        ends = subst (λ wanted. Ends ending wanted out out') (sym due) ends;
        counts = still_counts ending _ _ read r.counts;
        worded = worded;
        long = λ e. short ∙ r.long;
        short = λ e. short;
        unread = λ e. absurd (cc);
        asked = λ t. asks_all ending command r.seen files.asked files'.asked (r.asked t);
      }

-- ---- What texts end in

-- a trouble of the writing of a text: no trouble of files or words
pub record IsOfText (trouble : Trouble) : Type 0 where
  pub read : (place : Place) → trouble ≡ ReadFailed place → ⊥
  pub worded : trouble ≡ Usage → ⊥
  pub short : is_too_long {A = Left} (Err trouble) ≡ false

pub of_text : (trouble : Trouble) (text : List ℕ) (out out' : SinkState) → WritesText (Err trouble) text out out' → IsOfText trouble
of_text WriteFailed text out out' w = record { read = λ p e. cc; worded = λ e. cc; short = refl }
of_text OutOfMemory text out out' w = record { read = λ p e. cc; worded = λ e. cc; short = refl }
of_text _ text out out' w = absurd w

-- a command that wrote the text of its task, or failed to
module _ {A : Type 0} (command : AskedTexts) (said : Contents → Result A Trouble) (next : A → Result Task Trouble) (files files' : FilesState)
    (is : (seen : Contents) → task_in (Some command) seen ≡ (said seen >>= next)) (reads : reads_files (Some command) ≡ true) (x : A) (r : Reads said command files files' (Ok x))
    (task : Task) (due : next x ≡ Ok task) (given : Left) (text : List ℕ) (is_text : IsTextOf task given text) (out out' : SinkState) where
  text_written : WritesText (Ok tt) text out out' → Does command files files' out out' (Ok given)
  text_written w =
      ends_after command said next files files' is reads x (Ok given) out out' r (text_ends task given text (next x) out out' is_text due w)
      (λ p e. absurd (cc)) refl (λ e. absurd (cc))

  text_unwritten : (trouble : Trouble) → WritesText (Err trouble) text out out' → Does command files files' out out' (Err trouble)
  text_unwritten trouble w =
      let of = of_text trouble text out out' w in
      ends_after command said next files files' is reads x (Err trouble) out out' r (text_fails task given text (next x) out out' trouble is_text due w)
      (λ p e. of.read p (cc)) of.short (λ e. of.worded (cc))

-- ---- A measurement

-- what is to be written of an image
abbrev measured_in : Contents → Result Image Trouble
measured_in seen = image_in seen.image

abbrev digested : Image → Result Task Trouble
digested image = Ok (Digest image)

pub measured : (name : List ℕ) (files files' : FilesState) (out out' : SinkState) (image : Image) →
    ReadsFile image_in name files files' (Ok image) → WritesText (Ok tt) (digest_text (digest_of image)) out out' → Does (Measure name) files files' out out' (Ok left.Nothing)
measured name files files' out out' image r w =
    text_written (Measure name) measured_in digested files files' (λ seen. refl) refl image (image_read name files files' (Ok image) r)
    (Digest image) refl left.Nothing (digest_text (digest_of image)) refl out out' w

pub unwritten : (name : List ℕ) (files files' : FilesState) (out out' : SinkState) (image : Image) (trouble : Trouble) →
    ReadsFile image_in name files files' (Ok image) → WritesText (Err trouble) (digest_text (digest_of image)) out out' → Does (Measure name) files files' out out' (Err trouble)
unwritten name files files' out out' image trouble r w =
    text_unwritten (Measure name) measured_in digested files files' (λ seen. refl) refl image (image_read name files files' (Ok image) r)
    (Digest image) refl left.Nothing (digest_text (digest_of image)) refl out out' trouble w

pub unmeasured : (name : List ℕ) (files files' : FilesState) (out : SinkState) (trouble : Trouble) → ReadsFile image_in name files files' (Err trouble) →
    Does (Measure name) files files' out out (Err trouble)
unmeasured name files files' out trouble r =
    files_end (Measure name) measured_in digested files files' (λ seen. refl) refl trouble out (image_read name files files' (Err trouble) r)

-- ---- A run

-- the image was not signed, or memory ran out
signed_by : (a b : Bool) (inputs : Inputs) (trouble : Trouble) → (if not a then Err UnknownSigner else if not b then Err NotSigned else Ok inputs) ≡ Err trouble →
    (trouble ≡ UnknownSigner) ⊎ (trouble ≡ NotSigned)
signed_by false b inputs trouble e = inl (cc)
signed_by true false inputs trouble e = inr (cc)
signed_by true true inputs trouble e = absurd (cc)

record IsOfRun (trouble : Trouble) : Type 0 where
  own : is_foreign trouble ≡ false
  read : (place : Place) → trouble ≡ ReadFailed place → ⊥
  short : is_too_long {A = Left} (Err trouble) ≡ false

-- the three troubles of a run
unknown_of_run : IsOfRun UnknownSigner
unknown_of_run = record { own = refl; read = λ p e. cc; short = refl }

unsigned_of_run : IsOfRun NotSigned
unsigned_of_run = record { own = refl; read = λ p e. cc; short = refl }

memory_of_run : IsOfRun OutOfMemory
memory_of_run = record { own = refl; read = λ p e. cc; short = refl }

-- what is to be written of inputs
abbrev reported : RunTexts → Inputs → Result Task Trouble
reported asked inputs = signed inputs >>= λ built. Ok (Report (layout_for built.image asked) built)

module _ (asked : RunTexts) (files files' : FilesState) where
  pub not_run : (out : SinkState) (trouble : Trouble) → Reads inputs_in (Run asked) files files' (Err trouble) → Does (Run asked) files files' out out (Err trouble)
  not_run out trouble r = files_end (Run asked) inputs_in (reported asked) files files' (λ seen. refl) refl trouble out r

  module _ (inputs : Inputs) (r : Reads inputs_in (Run asked) files files' (Ok inputs)) where
    of_run : (trouble : Trouble) → Runs (Err trouble) (layout_for inputs.image asked) inputs → IsOfRun trouble
    of_run trouble (inl e) =
        elim (signed_by (knows inputs.signers inputs.image.signer) (allows inputs.signers inputs.image.signer (digest_of inputs.image)) inputs trouble e)
        [ inl is ↦ subst IsOfRun (sym is) unknown_of_run | inr is ↦ subst IsOfRun (sym is) unsigned_of_run ]
    of_run trouble (inr e) = subst IsOfRun (sym e) memory_of_run

    run_due : (trouble : Trouble) → Runs (Err trouble) (layout_for inputs.image asked) inputs → IsDue (reported asked inputs) (Err trouble)
    run_due trouble (inl e) = inl (sym (ap (λ r. r >>= λ built. Ok (Report (layout_for built.image asked) built)) e))
    run_due trouble (inr e) = inr (ap (λ t. Err t) e)

    pub unsigned : (out : SinkState) (trouble : Trouble) → Runs (Err trouble) (layout_for inputs.image asked) inputs → Does (Run asked) files files' out out (Err trouble)
    unsigned out trouble h =
        let own = of_run trouble h in
        ends_after (Run asked) inputs_in (reported asked) files files' (λ seen. refl) refl inputs (Err trouble) out out r
        (trouble_ends trouble (reported asked inputs) out out own.own (run_due trouble h) refl) (λ p e. own.read p (cc)) own.short (no_usage trouble own.own)

    module _ (run : RunParts) (h : Runs (Ok run) (layout_for inputs.image asked) inputs) (out out' : SinkState) where
      due : reported asked inputs ≡ Ok (Report (layout_for inputs.image asked) inputs)
      due = ap (λ r. r >>= λ built. Ok (Report (layout_for built.image asked) built)) h.0

      pub ran : WritesText (Ok tt) (report run.journal) out out' → Does (Run asked) files files' out out' (Ok (left.Run run))
      ran w =
          text_written (Run asked) inputs_in (reported asked) files files' (λ seen. refl) refl inputs r (Report (layout_for inputs.image asked) inputs) due
          (left.Run run) (report run.journal) (h.1, refl) out out' w

      pub unreported : (trouble : Trouble) → WritesText (Err trouble) (report run.journal) out out' → Does (Run asked) files files' out out' (Err trouble)
      unreported trouble w =
          text_unwritten (Run asked) inputs_in (reported asked) files files' (λ seen. refl) refl inputs r (Report (layout_for inputs.image asked) inputs) due
          (left.Run run) (report run.journal) (h.1, refl) out out' trouble w
