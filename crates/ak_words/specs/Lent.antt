-- What the program lends of the words, as texts.
use Rattle.std.specs.Prelude.{◌≤◌, IfSome}
use Rattle.ak_words.specs.Asked.{AskedTexts, RunTexts, Run, Measure, Demo}
use Rattle.ak_words.specs.declared.asked.Asked.{Asked}
use Rattle.ak_words.specs.declared.asked.Asked.TheVariants as lent
use Rattle.ak_words.specs.declared.asked.RunAsked.{RunAsked}

-- the texts and numbers of a run
abbrev pub run_texts : RunAsked → RunTexts
run_texts run = record {
  image = run.image.now;
  signers = run.signers.now;
  script = run.script.now;
  frames = run.frames;
  processors = run.processors;
}

-- the texts and numbers of what is asked for
abbrev pub asked_of : Asked → AskedTexts
asked_of (lent.Run run) = Run (run_texts run)
asked_of (lent.Measure image) = Measure image.now
asked_of (lent.Demo number) = Demo number

-- the numbers of a run are in their ranges: 9 to 8192 frames, 1 to 4 processors
pub record AreInRanges (run : RunAsked) : Type 0 where
  pub frames : IfSome run.frames (λ frames. (9 ≤ frames) × (frames ≤ 8192))
  pub processors : (1 ≤ run.processors) × (run.processors ≤ 4)

-- the numbers of what is asked for are in their ranges
abbrev pub AskedInRanges : Asked → Type 0
AskedInRanges (lent.Run run) = AreInRanges run
AskedInRanges (lent.Measure image) = Unit {0}
AskedInRanges (lent.Demo number) = Unit {0}
