-- The files of a run are read, one after the other.
use Rattle.std.proofs.Common.{◌≡◌, ℕ, ◌≤◌, false, List, [], ◌∷◌, ◌++◌, refl, sym, ◌∙◌, ap, subst, inl, inr, ◌⊎◌, arith, append_assoc}
use Rattle.std.proofs.lemmas.List.{append-nil}
use Rattle.std.specs.Prelude.{IsTrue, Option, Some, None, Result, Ok, Err, nat_lt}
use Rattle.ak_measure.specs.Signers.{Signed}
use Rattle.ak_measure.specs.Stages.{◌>>=◌}
use Rattle.ak_image.specs.Image.{Image}
use Rattle.ak_script.specs.Script.{Script}
use Rattle.ak_outside.specs.Causes.{Rose}
use Rattle.ak_top.specs.Inputs.{limit, image_in, signers_in, script_in, inputs_in, where_well, asked_in}
use Rattle.ak_top.proofs.FileReads.{due_err, value_is, due_then}
use Rattle.ak_top.specs.Reads.{IsDue, CountsAt, CountsBy, is_long, is_foreign, is_too_long, AskedAt, AsksFor, AsksBy, AsksUpTo, ReadsFile, Reads}
use Rattle.ak_top.specs.Seen.{FilesState, Contents, IsSeen}
use Rattle.ak_words.specs.Asked.{RunTexts, AskedTexts, Run, Measure}
use Rattle.ak_top.specs.declared.inputs.Inputs.{Inputs}
use Rattle.ak_top.specs.declared.trouble.Trouble.{Trouble}
use Rattle.ak_top.specs.declared.trouble.Trouble.TheVariants.{ReadFailed, OutOfMemory}

-- ---- A file, in a longer reading

rose_within : (a b c d : ℕ) → a ≤ b → c ≤ d → Rose b c → Rose a d
rose_within a b c d le le' h = omega arith

seen_within : (a b c d : ℕ) (held seen : Option (List ℕ)) → a ≤ b → c ≤ d → IsSeen b c held seen → IsSeen a d held seen
seen_within a b c d held seen le le' (inl e) = inl e
seen_within a b c d held seen le le' (inr h) = inr (h.0, rose_within a b c d le le' h.1)

-- a file was read at some time of a longer reading
pub record ReadsWithin {A : Type 0} (said : Option (List ℕ) → Result A Trouble) (name : List ℕ) (files files' : FilesState) (given : Result A Trouble) : Type 0 where
  pub seen : Option (List ℕ)
  pub sees : IsTrue files.tells → IsSeen files.faults files'.faults (files.content name) seen
  pub due : IsDue (said seen) given

-- the files are what they were, but for names that were asked and faults that were counted
pub record IsLaterState (files files' : FilesState) : Type 0 where
  pub content : files'.content ≡ files.content
  pub tells : files'.tells ≡ files.tells
  pub later : files.faults ≤ files'.faults

pub same_state : (files : FilesState) → IsLaterState files files
same_state files = record { content = refl; tells = refl; later = omega arith }

pub then_later : (a b c : FilesState) → IsLaterState a b → IsLaterState b c → IsLaterState a c
then_later a b c h k = record { content = k.content ∙ h.content; tells = k.tells ∙ h.tells; later = omega (arith, h.later, k.later) }

counts_later : {A : Type 0} (given : Result A Trouble) (before now : ℕ) → CountsBy given before now → before ≤ now
counts_later (Ok x) before now e = omega (arith, e)
counts_later (Err (ReadFailed place)) before now e = omega (arith, e)
counts_later (Err OutOfMemory) before now (inl e) = omega (arith, e)
counts_later (Err OutOfMemory) before now (inr e) = omega (arith, e)
counts_later (Err _) before now e = omega (arith, e)

pub read_later : {A : Type 0} {said : Option (List ℕ) → Result A Trouble} {name : List ℕ} {files files' : FilesState} {given : Result A Trouble} →
    ReadsFile said name files files' given → IsLaterState files files'
read_later {A} {said} {name} {files} {files'} {given} r = record { content = r.content; tells = r.tells; later = counts_later given files.faults files'.faults r.counts }

pub within : {A : Type 0} {said : Option (List ℕ) → Result A Trouble} {name : List ℕ} {b c : FilesState} {given : Result A Trouble} (a d : FilesState) →
    IsLaterState a b → ReadsFile said name b c given → IsLaterState c d → ReadsWithin said name a d given
within {A} {said} {name} {b} {c} {given} a d h r k = record {
  seen = r.seen;
  sees = λ t.
      let told : IsTrue b.tells = subst (λ t. IsTrue t) (sym h.tells) t in
      let P : (List ℕ → Option (List ℕ)) → Type 0 = λ content. IsSeen a.faults d.faults (content name) r.seen in
      subst P h.content (seen_within a.faults b.faults c.faults d.faults _ r.seen h.later k.later (r.sees told));
  due = r.due;
}

-- ---- The names that were asked for

-- a name after others, up to a trouble
pub asks_up_to : (trouble : Trouble) (command : Option AskedTexts) (seen : Contents) (asked asked' front : List (List ℕ)) (name : List ℕ) (rest : List (List ℕ)) →
    asked_in command seen ≡ front ++ name ∷ rest → (rest ≡ []) ⊎ (trouble ≡ OutOfMemory) →
    AskedAt trouble name (asked ++ front) asked' → AsksUpTo trouble command seen asked asked'
asks_up_to OutOfMemory command seen asked asked' front name rest due last (inl e) =
    record { front = front ++ name ∷ []; rest = rest; whole = append_assoc front (name ∷ []) rest ∙ sym due; more = e ∙ append_assoc asked front (name ∷ []) }
asks_up_to OutOfMemory command seen asked asked' front name rest due last (inr e) =
    record { front = front; rest = name ∷ rest; whole = sym due; more = e }
asks_up_to _ command seen asked asked' front name rest due (inl none) e =
    e ∙ append_assoc asked front (name ∷ []) ∙ ap (λ names. asked ++ names) (sym (due ∙ ap (λ rest. front ++ name ∷ rest) none))
asks_up_to _ command seen asked asked' front name rest due (inr is) e = absurd (cc)

-- where a file was accepted, the next names were due, and else none
after_value : {A : Type 0} (wanted : Result A Trouble) (x : A) (names : List (List ℕ)) → IsDue wanted (Ok x) → where_well wanted names ≡ names
after_value wanted x names due = ap (λ r. where_well r names) (value_is wanted x due)

after_trouble : {A : Type 0} (wanted : Result A Trouble) (t : Trouble) (names : List (List ℕ)) → IsDue wanted (Err t) → (where_well wanted names ≡ []) ⊎ (t ≡ OutOfMemory)
after_trouble wanted t names (inl e) = inl (ap (λ r. where_well r names) (sym e))
after_trouble wanted t names (inr e) = inr (cc)

-- ---- The run's files

module _ (names : RunTexts) (files files' : FilesState) where
  abbrev run : Option AskedTexts
  run = Some (Run names)

  abbrev ImageGives : Result Image Trouble → Type 0
  ImageGives given = ReadsWithin image_in names.image files files' given

  abbrev SignersGive : Result Signed Trouble → Type 0
  SignersGive given = ReadsWithin signers_in names.signers files files' given

  abbrev ScriptGives : Result Script Trouble → Type 0
  ScriptGives given = ReadsWithin script_in names.script files files' given

  -- what the signers' and the script's files add
  abbrev with_script : Contents → Image → Signed → Result Inputs Trouble
  with_script seen image signers = script_in seen.script >>= λ script. Ok (record { image = image; signers = signers; script = script })

  abbrev with_signers : Contents → Image → Result Inputs Trouble
  with_signers seen image = signers_in seen.signers >>= with_script seen image

  -- the image's file ends the reading
  pub image_ends : (trouble : Trouble) → ImageGives (Err trouble) → CountsAt trouble files.faults files'.faults → is_long trouble ≡ nat_lt limit files'.handed → is_foreign trouble ≡ false →
      (IsTrue files.tells → AskedAt trouble names.image files.asked files'.asked) → Reads inputs_in (Run names) files files' (Err trouble)
  image_ends trouble r counts long own asked =
      let seen : Contents = record { image = r.seen; signers = files.content names.signers; script = files.content names.script } in
      let more : List (List ℕ) = names.signers ∷ where_well (signers_in seen.signers) (names.script ∷ []) in
      let last = after_trouble (image_in r.seen) trouble more r.due in
      record {
        seen = seen;
        sees = λ t. record { image = r.sees t; signers = inl refl; script = inl refl };
        due = due_err (image_in r.seen) (with_signers seen) trouble r.due;
        counts = counts;
        long = long;
        own = own;
        asked = λ t. asks_up_to trouble run seen files.asked files'.asked [] names.image (where_well (image_in r.seen) more) refl last (subst (λ all. AskedAt trouble names.image all files'.asked) (sym (append-nil files.asked)) (asked t));
      }

  -- the signers' file ends it
  pub signers_end : (image : Image) (trouble : Trouble) → ImageGives (Ok image) → SignersGive (Err trouble) → CountsAt trouble files.faults files'.faults → is_long trouble ≡ nat_lt limit files'.handed → is_foreign trouble ≡ false →
      (IsTrue files.tells → AskedAt trouble names.signers (files.asked ++ names.image ∷ []) files'.asked) → Reads inputs_in (Run names) files files' (Err trouble)
  signers_end image trouble r s counts long own asked =
      let seen : Contents = record { image = r.seen; signers = s.seen; script = files.content names.script } in
      let more : List (List ℕ) = where_well (signers_in s.seen) (names.script ∷ []) in
      let due : asked_in run seen ≡ names.image ∷ names.signers ∷ more = ap (λ rest. names.image ∷ rest) (after_value (image_in r.seen) image _ r.due) in
      let last = after_trouble (signers_in s.seen) trouble (names.script ∷ []) s.due in
      record {
        seen = seen;
        sees = λ t. record { image = r.sees t; signers = s.sees t; script = inl refl };
        due = due_then (image_in r.seen) (with_signers seen) image (Err trouble) r.due (due_err (signers_in s.seen) (with_script seen image) trouble s.due);
        counts = counts;
        long = long;
        own = own;
        asked = λ t. asks_up_to trouble run seen files.asked files'.asked (names.image ∷ []) names.signers more due last (asked t);
      }

  -- the script's file ends it
  pub script_ends : (image : Image) (signers : Signed) (trouble : Trouble) → ImageGives (Ok image) → SignersGive (Ok signers) → ScriptGives (Err trouble) →
      CountsAt trouble files.faults files'.faults → is_long trouble ≡ nat_lt limit files'.handed → is_foreign trouble ≡ false →
      (IsTrue files.tells → AskedAt trouble names.script (files.asked ++ names.image ∷ names.signers ∷ []) files'.asked) → Reads inputs_in (Run names) files files' (Err trouble)
  script_ends image signers trouble r s m counts long own asked =
      let seen : Contents = record { image = r.seen; signers = s.seen; script = m.seen } in
      let due : asked_in run seen ≡ names.image ∷ names.signers ∷ names.script ∷ [] =
      ap (λ rest. names.image ∷ rest) (after_value (image_in r.seen) image _ r.due ∙ ap (λ rest. names.signers ∷ rest) (after_value (signers_in s.seen) signers _ s.due)) in
      record {
        seen = seen;
        sees = λ t. record { image = r.sees t; signers = s.sees t; script = m.sees t };
        due = due_then (image_in r.seen) (with_signers seen) image (Err trouble) r.due
            (due_then (signers_in s.seen) (with_script seen image) signers (Err trouble) s.due (due_err (script_in m.seen) _ trouble m.due));
        counts = counts;
        long = long;
        own = own;
        asked = λ t. asks_up_to trouble run seen files.asked files'.asked (names.image ∷ names.signers ∷ []) names.script [] due (inl refl) (asked t);
      }

  -- all was read
  pub all_read : (image : Image) (signers : Signed) (script : Script) → ImageGives (Ok image) → SignersGive (Ok signers) → ScriptGives (Ok script) →
      files'.faults ≡ files.faults → is_too_long {A = Inputs} (Ok (record { image = image; signers = signers; script = script })) ≡ nat_lt limit files'.handed →
      (IsTrue files.tells → files'.asked ≡ files.asked ++ names.image ∷ names.signers ∷ names.script ∷ []) →
      Reads inputs_in (Run names) files files' (Ok (record { image = image; signers = signers; script = script }))
  all_read image signers script r s m counts long asked =
      let seen : Contents = record { image = r.seen; signers = s.seen; script = m.seen } in
      let due : asked_in run seen ≡ names.image ∷ names.signers ∷ names.script ∷ [] =
      ap (λ rest. names.image ∷ rest) (after_value (image_in r.seen) image _ r.due ∙ ap (λ rest. names.signers ∷ rest) (after_value (signers_in s.seen) signers _ s.due)) in
      let inputs : Inputs = record { image = image; signers = signers; script = script } in
      record {
        seen = seen;
        sees = λ t. record { image = r.sees t; signers = s.sees t; script = m.sees t };
        due = due_then (image_in r.seen) (with_signers seen) image (Ok inputs) r.due
            (due_then (signers_in s.seen) (with_script seen image) signers (Ok inputs) s.due (due_then (script_in m.seen) _ script (Ok inputs) m.due (inl refl)));
        counts = counts;
        long = long;
        own = refl;
        asked = λ t. asked t ∙ ap (λ names. files.asked ++ names) (sym due);
      }

-- ---- The readings in a row

pub stops_at_image : (names : RunTexts) (s0 s1 : FilesState) (trouble : Trouble) → ReadsFile image_in names.image s0 s1 (Err trouble) →
    Reads inputs_in (Run names) s0 s1 (Err trouble)
stops_at_image names s0 s1 trouble r = image_ends names s0 s1 trouble (within s0 s1 (same_state s0) r (same_state s1)) r.counts r.long r.own r.asked

still_tells : (s0 s1 : FilesState) → IsLaterState s0 s1 → IsTrue s0.tells → IsTrue s1.tells
still_tells s0 s1 h t = subst (λ t. IsTrue t) (sym h.tells) t

pub stops_at_signers : (names : RunTexts) (s0 s1 s2 : FilesState) (image : Image) (trouble : Trouble) →
    ReadsFile image_in names.image s0 s1 (Ok image) → ReadsFile signers_in names.signers s1 s2 (Err trouble) → Reads inputs_in (Run names) s0 s2 (Err trouble)
stops_at_signers names s0 s1 s2 image trouble r s =
    let first = read_later r in
    signers_end names s0 s2 image trouble (within s0 s2 (same_state s0) r (read_later s)) (within s0 s2 first s (same_state s2))
    (subst (λ before. CountsAt trouble before s2.faults) r.counts s.counts) s.long s.own
    (λ t. subst (λ all. AskedAt trouble names.signers all s2.asked) (r.asked t) (s.asked (still_tells s0 s1 first t)))

module _ (names : RunTexts) (s0 s1 s2 s3 : FilesState) (image : Image) (signers : Signed) (r : ReadsFile image_in names.image s0 s1 (Ok image)) (s : ReadsFile signers_in names.signers s1 s2 (Ok signers)) where
  both_later : IsLaterState s0 s2
  both_later = then_later s0 s1 s2 (read_later r) (read_later s)

  both_count : s2.faults ≡ s0.faults
  both_count = s.counts ∙ r.counts

  -- the names of the image and of the signers were asked for
  both_asked : IsTrue s0.tells → s2.asked ≡ s0.asked ++ names.image ∷ names.signers ∷ []
  both_asked t =
      s.asked (still_tells s0 s1 (read_later r) t) ∙ ap (λ all. all ++ names.signers ∷ []) (r.asked t) ∙ append_assoc s0.asked (names.image ∷ []) (names.signers ∷ [])

  pub stops_at_script : (trouble : Trouble) → ReadsFile script_in names.script s2 s3 (Err trouble) → Reads inputs_in (Run names) s0 s3 (Err trouble)
  stops_at_script trouble m =
      let last = read_later m in
      script_ends names s0 s3 image signers trouble
      (within s0 s3 (same_state s0) r (then_later s1 s2 s3 (read_later s) last)) (within s0 s3 (read_later r) s last) (within s0 s3 both_later m (same_state s3))
      (subst (λ before. CountsAt trouble before s3.faults) both_count m.counts) m.long m.own
      (λ t. subst (λ all. AskedAt trouble names.script all s3.asked) (both_asked t) (m.asked (still_tells s0 s2 both_later t)))

  pub reads_all : (script : Script) → ReadsFile script_in names.script s2 s3 (Ok script) →
      Reads inputs_in (Run names) s0 s3 (Ok (record { image = image; signers = signers; script = script }))
  reads_all script m =
      let last = read_later m in
      all_read names s0 s3 image signers script
      (within s0 s3 (same_state s0) r (then_later s1 s2 s3 (read_later s) last)) (within s0 s3 (read_later r) s last) (within s0 s3 both_later m (same_state s3)) (m.counts ∙ both_count) m.long
      (λ t. m.asked (still_tells s0 s2 both_later t) ∙ ap (λ all. all ++ names.script ∷ []) (both_asked t) ∙ append_assoc s0.asked (names.image ∷ names.signers ∷ []) (names.script ∷ []))

-- ---- The image alone

pub image_read : (name : List ℕ) (files files' : FilesState) (given : Result Image Trouble) → ReadsFile image_in name files files' given →
    Reads (λ seen. image_in seen.image) (Measure name) files files' given
image_read name files files' given r =
    let seen : Contents = record { image = r.seen; signers = None; script = None } in
    record {
      seen = seen;
      sees = λ t. record { image = r.sees t; signers = inl refl; script = inl refl };
      due = r.due;
      counts = r.counts;
      long = r.long;
      own = r.own;
      asked = λ t. asks_image given (r.asked t);
    }
  where
    asks_image : (given : Result Image Trouble) → AsksFor given name files.asked files'.asked →
        AsksBy given (Some (Measure name)) (record { image = r.seen; signers = None; script = None }) files.asked files'.asked
    asks_image (Ok image) e = e
    asks_image (Err t) e =
        asks_up_to t (Some (Measure name)) (record { image = r.seen; signers = None; script = None }) files.asked files'.asked [] name [] refl (inl refl)
        (subst (λ all. AskedAt t name all files'.asked) (sym (append-nil files.asked)) e)
