-- What each status says, by how the call ended.
use Rattle.std.proofs.Common.{◌≡◌, ℕ, ◌<◌, List, [], refl, sym, ◌∙◌, ap, subst, inl, inr, ◌⊎◌, arith}
use Rattle.std.proofs.lemmas.Bool.{ltb-true, ltb-false}
use Rattle.std.proofs.lemmas.List.{append-nil}
use Rattle.std.specs.Prelude.{true, false, Option, Some, None, Result, Ok, Err, nat_lt}
use Rattle.ak_outside.specs.Causes.{Rose}
use Rattle.ak_core.specs.declared.event.Stop.{Stop}
use Rattle.ak_top.specs.Ends.{IsTextOf, Ends, Does}
use Rattle.ak_top.specs.Inputs.{limit, Task, Report, Digest, Summary, task_in, asked_in}
use Rattle.ak_top.specs.Reads.{CountsBy, is_too_long}
use Rattle.ak_top.specs.Seen.{FilesState, SinkState, Contents, contents_of, reads_files, IsSeen, AreSeen}
use Rattle.ak_top.specs.Told.{Told}
use Rattle.ak_top.specs.TopCall.{status_stopped, status_by, left_by, Tells, IsStatusOf, Serves}
use Rattle.ak_top.specs.Trouble.{line_of}
use Rattle.ak_words.specs.Asked.{AskedTexts, Run, Measure, Demo}
use Rattle.ak_top.specs.declared.left.Left.{Left}
use Rattle.ak_top.specs.declared.left.Left.TheVariants as left
use Rattle.ak_top.specs.declared.trouble.Trouble.{Trouble}
use Rattle.ak_top.specs.declared.trouble.Trouble.TheVariants.{Usage, ReadFailed, TooLong, WriteFailed, OutOfMemory}

-- ---- Without a command

pub serves_usage : (files : FilesState) (out err err' : SinkState) → Told err err' (line_of Usage None) → Serves 2 None files files out out err err' left.Nothing
serves_usage files out err err' told = record {
  seen = record { image = None; signers = None; script = None };
  sees = λ t. record { image = inl refl; signers = inl refl; script = inl refl };
  ending = Err Usage;
  ends = record { due = refl; still = refl };
  status_is = refl;
  left_is = refl;
  tells = told;
  asked = λ t. sym (append-nil files.asked);
  usage = λ e. refl;
  unused = λ e. inl refl;
  unread = λ e. refl;
  counts = refl;
  read = λ e. absurd (cc);
  long = λ e. absurd (cc);
  too_long = λ reads. absurd (cc);
  demo = λ number e. absurd (cc);
  complete = λ t files out. inl refl;
}

-- memory ran out at the words: nothing was read
pub serves_nothing : (command : Option AskedTexts) (files : FilesState) (out err err' : SinkState) → Told err err' (line_of OutOfMemory None) →
    Serves 7 command files files out out err err' left.Nothing
unfolding line_of
serves_nothing command files out err err' told = record {
  seen = contents_of files.content command;
  sees = λ t. record { image = inl refl; signers = inl refl; script = inl refl };
  ending = Err OutOfMemory;
  ends = refl;
  status_is = refl;
  left_is = refl;
  tells = told;
  asked = λ t. record { front = []; rest = asked_in command (contents_of files.content command); whole = refl; more = sym (append-nil files.asked) };
  usage = λ e. absurd (cc);
  unused = λ e. inr refl;
  unread = λ e. refl;
  counts = inl refl;
  read = λ e. absurd (cc);
  long = λ e. absurd (cc);
  too_long = λ reads long. inr (refl, refl);
  demo = λ number e. inr refl;
  complete = λ t files out. inr refl;
}

-- ---- With a command

-- a text that was written has status 0 or 10
written_status : (given : Left) → (status_by (Ok given) ≡ 0) ⊎ (status_by (Ok given) ≡ 10)
written_status left.Nothing = inl refl
written_status (left.Run run) = by_stop run.journal.stop
  where
    by_stop : (stop : Option Stop) → (status_stopped stop ≡ 0) ⊎ (status_stopped stop ≡ 10)
    by_stop None = inl refl
    by_stop (Some stop) = inr refl

-- and no other
not_status : {n : ℕ} → (given : Left) → (0 ≡ n → ⊥) → (10 ≡ n → ⊥) → status_by (Ok given) ≡ n → ⊥
not_status given zero ten e = elim (written_status given) [ inl is ↦ zero (sym is ∙ e) | inr is ↦ ten (sym is ∙ e) ]

at_usage : (ending : Result Left Trouble) → status_by ending ≡ 2 → ending ≡ Err Usage
at_usage (Err Usage) e = refl
at_usage (Ok given) e = absurd (not_status given (λ z. cc) (λ t. cc) e)
at_usage (Err _) e = absurd (cc)

module _ (files files' : FilesState) where
  at_read : (ending : Result Left Trouble) → CountsBy ending files.faults files'.faults → status_by ending ≡ 5 → Rose files.faults files'.faults
  at_read (Err (ReadFailed place)) h e = omega (arith, h)
  at_read (Ok given) h e = absurd (not_status given (λ z. cc) (λ t. cc) e)
  at_read (Err _) h e = absurd (cc)

  at_long : (ending : Result Left Trouble) → is_too_long ending ≡ nat_lt limit files'.handed → status_by ending ≡ 8 → limit < files'.handed
  at_long (Err (TooLong place)) h e = ltb-true _ _ (sym h)
  at_long (Ok given) h e = absurd (not_status given (λ z. cc) (λ t. cc) e)
  at_long (Err _) h e = absurd (cc)

  from_long : (ending : Result Left Trouble) → is_too_long ending ≡ nat_lt limit files'.handed → limit < files'.handed → status_by ending ≡ 8
  from_long (Err (TooLong place)) h lt = refl
  from_long (Ok u) h lt = absurd (omega (arith, ltb-false _ _ (sym h)))
  from_long (Err _) h lt = absurd (omega (arith, ltb-false _ _ (sym h)))

  not_long : (ending : Result Left Trouble) → is_too_long ending ≡ false → status_by ending ≡ 8 → ⊥
  not_long (Err (TooLong place)) h e = cc
  not_long (Ok given) h e = not_status given (λ z. cc) (λ t. cc) e
  not_long (Err _) h e = cc

  -- such a status is one of a command that reads files
  long_by : (command : AskedTexts) (ending : Result Left Trouble) → (reads_files (Some command) ≡ true → is_too_long ending ≡ nat_lt limit files'.handed) →
      (reads_files (Some command) ≡ false → is_too_long ending ≡ false) → status_by ending ≡ 8 → (reads_files (Some command) ≡ true) × (limit < files'.handed)
  long_by (Run names) ending long short e = (refl, at_long ending (long refl) e)
  long_by (Measure image) ending long short e = (refl, at_long ending (long refl) e)
  long_by (Demo number) ending long short e = absurd (not_long ending (short refl) e)

  -- where no fault rose, all was seen that is held
  held_seen : (held seen : Option (List ℕ)) → (Rose files.faults files'.faults → ⊥) → IsSeen files.faults files'.faults held seen → seen ≡ held
  held_seen held seen unrisen (inl e) = e
  held_seen held seen unrisen (inr h) = absurd (unrisen h.1)

  all_seen : (held seen : Contents) → (Rose files.faults files'.faults → ⊥) → AreSeen files.faults files'.faults held seen → seen ≡ held
  all_seen held seen unrisen s =
      let image = held_seen held.image seen.image unrisen s.image in
      let signers = held_seen held.signers seen.signers unrisen s.signers in
      let script = held_seen held.script seen.script unrisen s.script in
      ap (λ i. record { image = i; signers = seen.signers; script = seen.script }) image
      ∙ ap (λ g. record { image = held.image; signers = g; script = seen.script }) signers
      ∙ ap (λ m. record { image = held.image; signers = held.signers; script = m }) script

-- the status of a text is one of its task
text_status : (task : Task) (given : Left) (text : List ℕ) → IsTextOf task given text → IsStatusOf (Ok task) (status_by (Ok given))
text_status (Report layout inputs) given text is = written_status given
text_status (Digest image) left.Nothing text is = refl
text_status (Digest image) (left.Run run) text is = absurd is
text_status (Summary number) left.Nothing text is = absurd is
text_status (Summary number) (left.Run run) text is = ap status_stopped is.0.unstopped

-- where neither failed, the status is one of what was seen
due_status : (ending : Result Left Trouble) (wanted : Result Task Trouble) (out out' : SinkState) → (Rose out.faults out'.faults → ⊥) → Ends ending wanted out out' →
    IsStatusOf wanted (status_by ending) ⊎ (status_by ending ≡ 7)
due_status (Ok given) wanted out out' unrisen h =
    let P : Result Task Trouble → Type 0 = λ due. IsStatusOf due (status_by (Ok given)) in
    inl (subst P (sym h.due) (text_status h.task given h.text h.is))
due_status (Err WriteFailed) wanted out out' unrisen h = absurd (unrisen (omega (arith, h.failed)))
due_status (Err OutOfMemory) wanted out out' unrisen h = inr refl
due_status (Err trouble) wanted out out' unrisen h =
    let P : Result Task Trouble → Type 0 = λ due. IsStatusOf due (status_by (Err trouble)) in
    inl (subst P (sym h.due) refl)

-- the statuses of a demo
demo_status : (ending : Result Left Trouble) (number : ℕ) (out out' : SinkState) → Ends ending (Ok (Summary number)) out out' →
    ((status_by ending ≡ 0) ⊎ (status_by ending ≡ 6)) ⊎ (status_by ending ≡ 7)
demo_status (Ok given) number out out' h =
    let P : Result Task Trouble → Type 0 = λ due. IsStatusOf due (status_by (Ok given)) in
    inl (inl (subst P (sym h.due) (text_status h.task given h.text h.is)))
demo_status (Err WriteFailed) number out out' h = inl (inr refl)
demo_status (Err OutOfMemory) number out out' h = inr refl
demo_status (Err trouble) number out out' h = absurd (let wrong = h.due in cc)

pub serves : (command : AskedTexts) (files files' : FilesState) (out out' err err' : SinkState) (ending : Result Left Trouble) →
    Does command files files' out out' ending → Tells ending (Some command) err err' →
    Serves (status_by ending) (Some command) files files' out out' err err' (left_by ending)
serves command files files' out out' err err' ending d tells = record {
  seen = d.seen;
  sees = d.sees;
  ending = ending;
  ends = d.ends;
  status_is = refl;
  left_is = refl;
  tells = tells;
  asked = d.asked;
  usage = λ e. absurd (d.worded (at_usage ending e));
  unused = λ e. absurd (cc);
  unread = d.unread;
  counts = d.counts;
  read = at_read files files' ending d.counts;
  long = long_by files files' command ending d.long d.short;
  too_long = λ reads long. inl (from_long files files' ending (d.long reads) long);
  demo = λ number e.
      let E : Option AskedTexts → Type 0 = λ command. Ends ending (task_in command d.seen) out out' in
      demo_status ending number out out' (subst E e d.ends);
  complete = λ t no_fault no_sink.
      let P : Contents → Type 0 = λ seen. IsStatusOf (task_in (Some command) seen) (status_by ending) ⊎ (status_by ending ≡ 7) in
      subst P (all_seen files files' _ d.seen no_fault (d.sees t)) (due_status ending (task_in (Some command) d.seen) out out' no_sink d.ends);
}
