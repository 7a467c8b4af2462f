-- The run of a number, and how its command ends.
use Rattle.std.proofs.Common.{◌≡◌, ℕ, List, [], refl, sym, ◌∙◌, subst, inl, arith}
use Rattle.std.proofs.lemmas.List.{append-nil}
use Rattle.std.specs.Prelude.{true, Some, None, Ok, Err}
use Rattle.ak_core.specs.Layout.{Layout}
use Rattle.ak_driver.specs.EndingExits.{last_is_result}
use Rattle.ak_driver.specs.HonestRuns.{IsRoomy, IsHonestJournal}
use Rattle.ak_driver.proofs.Keeping.HonestJournals.{unstopped, ideal, all_answered, ends_at_the_end}
use Rattle.ak_gen.specs.Generated.{generated}
use Rattle.ak_model.specs.Kernels.HonestKernel.{drive}
use Rattle.ak_model.specs.Paging.Histories.{History}
use Rattle.ak_model.specs.Sound.SoundJournal.{Sound}
use Rattle.ak_report.specs.Summary.{summary}
use Rattle.ak_run.specs.Runs.{Faithful, RunParts}
use Rattle.ak_run.proofs.Sound.{faithful_sound}
use Rattle.ak_words.specs.Asked.{Demo}
use Rattle.ak_top.specs.Demo.{layout_by, IsDemoOf}
use Rattle.ak_top.specs.Ends.{Does, WritesText}
use Rattle.ak_top.specs.Follows.{Drives, past_of}
use Rattle.ak_top.specs.Inputs.{Summary}
use Rattle.ak_top.specs.Seen.{FilesState, SinkState, contents_of}
use Rattle.ak_top.specs.declared.left.Left.TheVariants as left
use Rattle.ak_top.specs.declared.trouble.Trouble.{Trouble}
use Rattle.ak_top.specs.declared.trouble.Trouble.TheVariants.{OutOfMemory}
use Rattle.ak_top.proofs.Driven.{is_driven}
use Rattle.ak_top.proofs.Pasts.{tells_trace}
use Rattle.ak_top.proofs.Endings.{asks_all, still_counts, text_ends, text_fails, of_text}

-- ---- The run

-- a faithful run that the honest kernel drove, on a roomy machine, is honest
honest : (image : List ℕ) (layout : Layout) (run : RunParts) (n : ℕ) → IsRoomy layout → Sound image layout run.journal →
    Drives layout [] n [] (past_of run.journal) → IsHonestJournal image layout run.journal []
honest image layout run n roomy sound drives =
    record { sound = sound; roomy = roomy; driven = is_driven image layout run.journal [] n sound drives }

-- the frames are room for the budget
has_room : (number : ℕ) → IsRoomy (layout_by number)
has_room number = record { room = omega arith }

pub demo_run : (number : ℕ) (layout : Layout) (run : RunParts) → layout ≡ layout_by number → run.machine.layout ≡ layout →
    Faithful (generated number).bytes run → Drives layout [] 20000 [] (past_of run.journal) → IsDemoOf number run
demo_run number layout run is same faithful drives =
    let image = (generated number).bytes in
    let S : Layout → Type 0 = λ layout. Sound image layout run.journal in
    let D : Layout → Type 0 = λ layout. Drives layout [] 20000 [] (past_of run.journal) in
    let sound = subst S (same ∙ is) (faithful_sound image run faithful) in
    let led = subst D is drives in
    let all = honest image (layout_by number) run 20000 (has_room number) sound led in
    record {
      layout_is = same ∙ is;
      drives = led;
      faithful = faithful;
      sound = sound;
      unstopped = unstopped image (layout_by number) run.journal [] all;
      ideal = ideal image (layout_by number) run.journal [] all;
      done = all_answered image (layout_by number) run.journal [] all;
      ends =
          let E : History → Type 0 = λ past. drive (layout_by number) past [] ≡ None → last_is_result past ≡ true in
          subst E (sym (tells_trace image (layout_by number) run.journal sound)) (ends_at_the_end image (layout_by number) run.journal [] all);
    }

-- ---- How the command ends

module _ (number : ℕ) (files : FilesState) where
  -- memory ran out before any text
  pub no_memory : (out : SinkState) → Does (Demo number) files files out out (Err OutOfMemory)
  no_memory out = record {
    seen = contents_of files.content (Some (Demo number));
    sees = λ t. record { image = inl refl; signers = inl refl; script = inl refl };
    ends = refl;
    counts = inl refl;
    worded = λ e. absurd (cc);
    long = λ e. absurd (cc);
    short = λ e. refl;
    unread = λ e. refl;
    asked = λ t. record { front = []; rest = []; whole = refl; more = sym (append-nil files.asked) };
  }

  module _ (out out' : SinkState) (run : RunParts) (is : IsDemoOf number run) where
    abbrev text : List ℕ
    text = summary number run.machine.layout run.journal

    -- the summary was written
    pub shown : WritesText (Ok tt) text out out' → Does (Demo number) files files out out' (Ok (left.Run run))
    shown w = record {
      seen = contents_of files.content (Some (Demo number));
      sees = λ t. record { image = inl refl; signers = inl refl; script = inl refl };
      ends = text_ends (Summary number) (left.Run run) text (Ok (Summary number)) out out' (is, refl) refl w;
      counts = refl;
      worded = λ e. absurd (cc);
      long = λ e. absurd (cc);
      short = λ e. refl;
      unread = λ e. refl;
      asked = λ t. sym (append-nil files.asked);
    }

    -- it was not
    pub unshown : (trouble : Trouble) → WritesText (Err trouble) text out out' → Does (Demo number) files files out out' (Err trouble)
    unshown trouble w =
        let of = of_text trouble text out out' w in
        record {
          seen = contents_of files.content (Some (Demo number));
          sees = λ t. record { image = inl refl; signers = inl refl; script = inl refl };
          ends = text_fails (Summary number) (left.Run run) text (Ok (Summary number)) out out' trouble (is, refl) refl w;
          counts = still_counts (Err trouble) files.faults files.faults (λ p e. of.read p (cc)) refl;
          worded = λ e. of.worded (cc);
          long = λ e. absurd (cc);
          short = λ e. of.short;
          unread = λ e. refl;
          asked = λ t. asks_all (Err trouble) (Demo number) (contents_of files.content (Some (Demo number))) files.asked files.asked (sym (append-nil files.asked));
        }
