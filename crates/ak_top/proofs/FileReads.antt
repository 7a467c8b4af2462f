-- One file is read, and what it says.
use Rattle.std.proofs.Common.{◌≡◌, ◌≢◌, ℕ, ◌<◌, ◌≤◌, List, [], ◌∷◌, ◌++◌, length, refl, sym, ◌∙◌, ap, inl, inr, arith, Vec, Global}
use Rattle.std.proofs.lemmas.Bool.{ltb-true, ltb-false}
use Rattle.std.proofs.lemmas.Bool.Decides.{nat_tests}
use Rattle.std.proofs.lemmas.List.{length-replicate}
use Rattle.std.proofs.lemmas.Result.{err_from_is_err_and}
use Rattle.std.specs.Prelude.{Bool, true, false, IsTrue, IfOk, IsErrAnd, MatchResult, Option, Some, None, Result, Ok, Err, nat_lt, nat_le, replicate}
use Rattle.std.specs.Result.{result_map_both}
use Rattle.ak_measure.specs.Stages.{◌>>=◌}
use Rattle.ak_measure.specs.Signers.{Signed, IsReason}
use Rattle.ak_measure.specs.declared.fault.SignersFault.{SignersFault}
use Rattle.ak_measure.specs.declared.fault.SignersFault.TheVariants as signers
use Rattle.ak_script.specs.Script.{RefusedLine, Script, refused_line}
use Rattle.ak_script.specs.declared.fault.Refusal.{Refusal}
use Rattle.ak_script.specs.declared.fault.ScriptFault.{ScriptFault}
use Rattle.ak_script.specs.declared.fault.ScriptFault.TheVariants as script
use Rattle.ak_image.specs.Image.{Image}
use Rattle.ak_image.specs.declared.fault.ImageFault.{ImageFault}
use Rattle.ak_image.specs.declared.fault.ImageFault.TheVariants as image
use Rattle.ak_outside.specs.Reads.{Asks, CountsRead, Hands, held_length}
use Rattle.ak_outside.specs.declared.files.FilesFault.{FilesFault}
use Rattle.ak_outside.specs.declared.files.FilesFault.TheVariants as fault
use Rattle.ak_top.specs.Inputs.{limit, or_trouble, script_trouble, bytes_in}
use Rattle.ak_top.specs.Reads.{IsDue, is_too_long, is_of_others, CountsBy, AsksFor, ReadsFile}
use Rattle.ak_top.specs.Seen.{FilesState}
use Rattle.ak_top.specs.Trouble.{trouble_of_read, trouble_of_image, trouble_of_signers, trouble_of_script}
use Rattle.ak_top.specs.declared.trouble.Place.{Place}
use Rattle.ak_top.specs.declared.trouble.Trouble.{Trouble}
use Rattle.ak_top.specs.declared.trouble.Trouble.TheVariants.{Usage, ReadFailed, TooLong, ImageRefused, SignersRefused, WriteFailed, OutOfMemory}

-- ---- The bytes of a file

-- enough bytes, and too many
short_enough : (place : Place) (bytes : List ℕ) → length bytes ≤ limit → bytes_in place (Some bytes) ≡ Ok bytes
short_enough place bytes le =
    let test : nat_le (length bytes) limit ≡ true = grind (arith, nat_tests) in rw test refl

too_many : (place : Place) (bytes : List ℕ) → limit < length bytes → bytes_in place (Some bytes) ≡ Err (TooLong place)
too_many place bytes lt =
    let test : nat_le (length bytes) limit ≡ false = grind (arith, nat_tests) in rw test refl

-- a file of which more than the limit was handed over
record IsLong (place : Place) (tells : Bool) (held : Option (List ℕ)) : Type 0 where
  seen : Option (List ℕ)
  sees : IsTrue tells → seen ≡ held
  long : bytes_in place seen ≡ Err (TooLong place)

long_seen : (place : Place) (tells : Bool) (held : Option (List ℕ)) (handed : ℕ) → limit < handed → (IsTrue tells → handed ≤ held_length held) → IsLong place tells held
long_seen place true (Some bytes) handed lt within =
    record { seen = Some bytes; sees = λ t. refl; long = too_many place bytes (let le = within refl in omega arith) }
long_seen place true None handed lt within = absurd (let le = within refl in omega arith)
long_seen place false held handed lt within =
    record { seen = Some (replicate handed 0); sees = λ t. absurd (cc); long = too_many place (replicate handed 0) (omega (arith, length-replicate {A = ℕ} handed 0)) }

-- a read that did not find too many bytes
is_false : (b : Bool) → (b ≡ true → ⊥) → false ≡ b
is_false true h = absurd (h refl)
is_false false h = refl

not_long : (r : Result (Vec ℕ Global) FilesFault) (handed : ℕ) → Hands limit handed r → (r ≡ Err fault.TooLong → ⊥) → false ≡ nat_lt limit handed
not_long r handed hands other = is_false (nat_lt limit handed) (λ e. other (hands.too_long.1 (ltb-true limit handed e)))

module _ (place : Place) (name : List ℕ) (files files' : FilesState) where
  -- what a file was read for, by what the read said
  pub file_read : (r : Result (Vec ℕ Global) FilesFault) →
      (IsTrue files.tells → IfOk r (λ v. files.content name ≡ Some v.items)) →
      files'.content ≡ files.content → files'.tells ≡ files.tells →
      (IsTrue files.tells → Asks files.asked files'.asked name r) → Hands limit files'.handed r →
      (IsTrue files.tells → files'.handed ≤ held_length (files.content name)) →
      CountsRead files.faults files'.faults r →
      ReadsFile (bytes_in place) name files files' (result_map_both (λ (bytes : Vec ℕ Global). bytes.items) (λ f. trouble_of_read f place) r)
  file_read (Ok v) bytes content tells asked handed within counts =
      let short = not_long (Ok v) files'.handed handed (λ e. absurd (cc)) in
      record {
        seen = Some v.items;
        sees = λ t. inl (sym (bytes t));
        due = inl (sym (short_enough place v.items (let le = ltb-false limit files'.handed (sym short) in omega (arith, handed.ok))));
        counts = counts;
        long = short;
        own = refl;
        asked = asked;
        content = content;
        tells = tells;
      }
  file_read (Err fault.Failed) bytes content tells asked handed within counts = record {
    seen = None;
    sees = λ t. inr (refl, omega (arith, counts));
    due = inl refl;
    counts = counts;
    long = not_long (Err fault.Failed) files'.handed handed (λ e. absurd (cc));
    own = refl;
    asked = asked;
    content = content;
    tells = tells;
  }
  file_read (Err fault.TooLong) bytes content tells asked handed within counts =
      let many : limit < files'.handed = handed.too_long.0 refl in
      let long = long_seen place files.tells (files.content name) files'.handed many within in
      record {
        seen = long.seen;
        sees = λ t. inl (long.sees t);
        due = inl (sym long.long);
        counts = counts;
        long = sym (grind (arith, nat_tests, many));
        own = refl;
        asked = asked;
        content = content;
        tells = tells;
      }
  file_read (Err fault.OutOfMemory) bytes content tells asked handed within counts = record {
    seen = files.content name;
    sees = λ t. inl refl;
    due = inr refl;
    counts = counts;
    long = not_long (Err fault.OutOfMemory) files'.handed handed (λ e. absurd (cc));
    own = refl;
    asked = asked;
    content = content;
    tells = tells;
  }

  -- the same, where the fault becomes its trouble
  pub file_read_or : (r : Result (Vec ℕ Global) FilesFault) →
      (IsTrue files.tells → IfOk r (λ v. files.content name ≡ Some v.items)) →
      files'.content ≡ files.content → files'.tells ≡ files.tells →
      (IsTrue files.tells → Asks files.asked files'.asked name r) → Hands limit files'.handed r →
      (IsTrue files.tells → files'.handed ≤ held_length (files.content name)) →
      CountsRead files.faults files'.faults r →
      (given : Result (Vec ℕ Global) Trouble) →
      MatchResult r (λ v. given ≡ Ok v) (λ f. IsErrAnd given (λ trouble. trouble ≡ trouble_of_read f place)) →
      ReadsFile (bytes_in place) name files files' (result_map_both (λ (bytes : Vec ℕ Global). bytes.items) (λ trouble. trouble) given)
  file_read_or (Ok v) bytes content tells asked handed within counts given is =
      rw is (file_read (Ok v) bytes content tells asked handed within counts)
  file_read_or (Err f) bytes content tells asked handed within counts given is =
      let p = err_from_is_err_and given is in
      rw (p.1, p.2) (file_read (Err f) bytes content tells asked handed within counts)

-- ---- What is due, by stages

-- a trouble is the same of each type
pub err_as : {A B : Type 0} (t u : Trouble) → ◌≡◌ {A = Result A Trouble} (Err t) (Err u) → ◌≡◌ {A = Result B Trouble} (Err t) (Err u)
err_as t u e = let is : t ≡ u = cc in ap (λ x. Err x) is

-- a trouble ends the stages
pub due_err : {A B : Type 0} (wanted : Result A Trouble) (next : A → Result B Trouble) (t : Trouble) → IsDue wanted (Err t) → IsDue (wanted >>= next) (Err t)
due_err wanted next t (inl e) = inl (ap (λ x. x >>= next) e)
due_err wanted next t (inr e) = inr (err_as t OutOfMemory e)

-- a value was due
pub value_is : {A : Type 0} (wanted : Result A Trouble) (x : A) → IsDue wanted (Ok x) → wanted ≡ Ok x
value_is wanted x (inl e) = sym e
value_is wanted x (inr e) = absurd (cc)

-- a value goes to the next stage
pub due_then : {A B : Type 0} (wanted : Result A Trouble) (next : A → Result B Trouble) (x : A) (given : Result B Trouble) → IsDue wanted (Ok x) → IsDue (next x) given → IsDue (wanted >>= next) given
due_then wanted next x given due (inl e) = inl (e ∙ sym (ap (λ r. r >>= next) (value_is wanted x due)))
due_then wanted next x given due (inr e) = inr e

-- ---- What the bytes say

-- a trouble of the words, of files or of a sink
abbrev is_of_outside : Trouble → Bool
is_of_outside (ReadFailed place) = true
is_of_outside (TooLong place) = true
is_of_outside WriteFailed = true
is_of_outside Usage = true
is_of_outside _ = false

-- what is given is no such trouble
abbrev pub IsRead : {A : Type 0} → Result A Trouble → Type 0
IsRead (Ok x) = Unit {0}
IsRead (Err trouble) = is_of_outside trouble ≡ false

read_counts : {A : Type 0} (given : Result A Trouble) (before now : ℕ) → IsRead given → now ≡ before → CountsBy given before now
read_counts (Ok x) before now h e = e
read_counts (Err (ReadFailed place)) before now h e = absurd (cc)
read_counts (Err OutOfMemory) before now h e = inl e
read_counts (Err _) before now h e = e

read_not_long : {A : Type 0} (given : Result A Trouble) → IsRead given → is_too_long given ≡ false
read_not_long (Ok x) h = refl
read_not_long (Err (TooLong place)) h = absurd (cc)
read_not_long (Err _) h = refl

read_is_own : {A : Type 0} (given : Result A Trouble) → IsRead given → is_of_others given ≡ false
read_is_own (Ok x) h = refl
read_is_own (Err WriteFailed) h = absurd (cc)
read_is_own (Err Usage) h = absurd (cc)
read_is_own (Err _) h = refl

read_asked : {A : Type 0} (given : Result A Trouble) (name : List ℕ) (asked asked' : List (List ℕ)) → asked' ≡ asked ++ name ∷ [] → AsksFor given name asked asked'
read_asked (Ok x) name asked asked' e = e
read_asked (Err OutOfMemory) name asked asked' e = inl e
read_asked (Err _) name asked asked' e = e

module _ {A : Type 0} (place : Place) (name : List ℕ) (files files' : FilesState) (said : List ℕ → Result A Trouble) where
  -- the bytes were not read
  pub not_read : (trouble : Trouble) → ReadsFile (bytes_in place) name files files' (Err trouble) →
      ReadsFile (λ file. bytes_in place file >>= said) name files files' (Err trouble)
  not_read trouble r = record {
    seen = r.seen;
    sees = r.sees;
    due = due_err (bytes_in place r.seen) said trouble r.due;
    counts = r.counts;
    long = r.long;
    own = r.own;
    asked = r.asked;
    content = r.content;
    tells = r.tells;
  }

  -- they were read, and what they say was given
  pub then_said : (bytes : List ℕ) (given : Result A Trouble) → ReadsFile (bytes_in place) name files files' (Ok bytes) → IsDue (said bytes) given → IsRead given →
      ReadsFile (λ file. bytes_in place file >>= said) name files files' given
  then_said bytes given r due read = record {
    seen = r.seen;
    sees = r.sees;
    due = due_then (bytes_in place r.seen) said bytes given r.due due;
    counts = read_counts given _ _ read r.counts;
    long = read_not_long given read ∙ r.long;
    own = read_is_own given read;
    asked = λ t. read_asked given name files.asked files'.asked (r.asked t);
    content = r.content;
    tells = r.tells;
  }

-- ---- What readers give

-- a value, or a refusal, is what was wanted
pub value_due : {A E : Type 0} (trouble : E → Trouble) (wanted : Result A E) (x : A) → wanted ≡ Ok x → IsDue (or_trouble trouble wanted) (Ok x)
value_due trouble wanted x is = inl (sym (ap (or_trouble trouble) is))

pub refusal_due : {A E : Type 0} (trouble : E → Trouble) (wanted : Result A E) (e : E) → wanted ≡ Err e → IsDue (or_trouble trouble wanted) (Err (trouble e))
refusal_due trouble wanted e is = inl (sym (ap (or_trouble trouble) is))

-- a fault of each reader
pub image_due : (wanted : Result Image ImageFault) (fault : ImageFault) → (fault ≢ image.OutOfMemory → wanted ≡ Err fault) →
    IsDue (or_trouble ImageRefused wanted) (Err (trouble_of_image fault))
image_due wanted image.OutOfMemory h = inr refl
image_due wanted fault h = refusal_due ImageRefused wanted fault (h (λ e. cc))

pub image_read : (fault : ImageFault) → IsRead {A = Image} (Err (trouble_of_image fault))
image_read image.OutOfMemory = refl
image_read fault = refl

pub signers_due : (wanted : Result (Signed) SignersFault) (fault : SignersFault) → IsReason wanted fault →
    IsDue (or_trouble SignersRefused wanted) (Err (trouble_of_signers fault))
signers_due wanted signers.OutOfMemory h = inr refl
signers_due wanted signers.NotToml h = refusal_due SignersRefused wanted signers.NotToml h
signers_due wanted signers.BadKey h = refusal_due SignersRefused wanted signers.BadKey h
signers_due wanted signers.BadDigest h = refusal_due SignersRefused wanted signers.BadDigest h
signers_due wanted signers.Repeated h = refusal_due SignersRefused wanted signers.Repeated h

pub signers_read : (fault : SignersFault) → IsRead {A = Signed} (Err (trouble_of_signers fault))
signers_read signers.OutOfMemory = refl
signers_read fault = refl

pub script_due : (wanted : Result Script RefusedLine) (fault : ScriptFault) →
    ((line : ℕ) (why : Refusal) → fault ≡ script.Refused line why → wanted ≡ Err (refused_line line why)) →
    IsDue (or_trouble script_trouble wanted) (Err (trouble_of_script fault))
script_due wanted script.OutOfMemory h = inr refl
script_due wanted (script.Refused line why) h = refusal_due script_trouble wanted (refused_line line why) (h line why refl)

pub script_read : (fault : ScriptFault) → IsRead {A = Script} (Err (trouble_of_script fault))
script_read script.OutOfMemory = refl
script_read fault = refl
