-- A sound journal of the honest kernel: its events have no break, so that its moves are an honest run.
use Rattle.std.proofs.Common.{◌≡◌, ℕ, List, [], ◌∷◌, reverse, refl, ap, ◌∙◌, subst}
use Rattle.std.specs.Prelude.{Bool, true, false, map, None}
use Rattle.std.specs.List.{list_all}
use Rattle.std.proofs.lemmas.Bool.{and_parts, and_from}
use Rattle.std.proofs.lemmas.List.{reverse-append}
use Rattle.std.proofs.lemmas.List.Folds.{list_all-append, list_all-map}
use Rattle.ak_core.specs.Layout.{Layout}
use Rattle.ak_core.specs.Journal.{Journal}
use Rattle.ak_model.specs.Kernels.HonestKernel.{drive}
use Rattle.ak_model.specs.Kernels.Repeats.{is_done}
use Rattle.ak_model.specs.Laws.IdealMisses.{MissesAreIdeal}
use Rattle.ak_model.specs.Sound.Forced.{EachTurn, BrokenBy, turns_of}
use Rattle.ak_model.specs.Stops.ShownStop.{has_break}
use Rattle.ak_model.specs.Tapes.LastMoment.{last_moment, runs_of}
use Rattle.ak_model.proofs.Kernels.NoBreakOnTape.{journal-unstopped}
use Rattle.ak_model.proofs.Misses.IdealMisses.{misses-ideal}
use Rattle.ak_model.proofs.Misses.SoundMissesFit.{sound-misses}
use Rattle.ak_model.proofs.Misses.Unkept.{each-broken-without}
use Rattle.ak_driver.specs.EndingExits.{last_is_result}
use Rattle.ak_driver.specs.HonestRuns.{IsHonestRun, IsHonestJournal}
use Rattle.ak_driver.proofs.Driving.AllRuns.{all_done}
use Rattle.ak_driver.proofs.Driving.RunEnds.{ends_by_result}
use Rattle.ak_driver.proofs.Keeping.BreakStays.{break_stays}
use Rattle.ak_driver.proofs.Keeping.LastBreak.{ends_broken, break_is_last}
use Rattle.ak_driver.proofs.Keeping.RulesKept.{honours, evicts}

-- a test that all pass all pass in the other order
reverse_passes : {A : Type 0} (test : A → Bool) (xs : List A) → list_all test xs ≡ true → list_all test (reverse xs) ≡ true
reverse_passes test [] h = refl
reverse_passes test (x ∷ xs) h =
    let parts = and_parts (test x) (list_all test xs) h in
    let last : list_all test (x ∷ []) ≡ true = and_from (test x) true parts.0 refl in
    ap (list_all test) (reverse-append (x ∷ []) xs) ∙ list_all-append test (reverse xs) (x ∷ []) ∙ and_from (list_all test (reverse xs)) (list_all test (x ∷ [])) (reverse_passes test xs parts.1) last

module _ (image : List ℕ) (layout : Layout) (journal : Journal) (inputs : List ℕ) (all : IsHonestJournal image layout journal inputs) where
  breaks : EachTurn (λ turn. λ older. BrokenBy layout (runs_of layout image journal) turn older turn.event) (turns_of layout journal)
  breaks = each-broken-without layout (runs_of layout image journal) journal.stop (turns_of layout journal) all.sound.breaks.turns_break

  -- the program never breaks: a break would stay on the tape, of which nothing is left
  pub unbroken : has_break journal.events ≡ false
  unbroken = by (has_break journal.events) refl
    where
      by : (b : Bool) → has_break journal.events ≡ b → has_break journal.events ≡ false
      by false e = e
      by true e =
          let last = break_is_last journal.events all.sound.events.tape e in
          let stays = break_stays layout all.sound.valid all.roomy (runs_of layout image journal) journal.events all.sound.events.tape (sound-misses image layout journal all.sound) last inputs (reverse journal.moves) breaks all.driven in
          let none : ends_broken [] ≡ true = subst (λ rest. ends_broken rest ≡ true) all.sound.answers.taken stays.0 in
          absurd (cc)

  pub honest_run : IsHonestRun layout journal.events inputs (reverse journal.moves)
  honest_run = record {
    valid = all.sound.valid;
    roomy = all.roomy;
    misses = sound-misses image layout journal all.sound;
    unbroken = unbroken;
    driven = all.driven;
  }

  pub unstopped : journal.stop ≡ None
  unstopped = journal-unstopped image layout journal all.sound (honours layout journal.events inputs (reverse journal.moves) honest_run)

  pub ideal : MissesAreIdeal image layout journal
  ideal = misses-ideal image layout journal all.sound (evicts layout journal.events inputs (reverse journal.moves) honest_run)

  pub all_answered : list_all is_done journal.answers ≡ true
  all_answered =
      let run = honest_run in
      let done = all_done layout run.valid run.roomy journal.events run.misses run.unbroken inputs (reverse journal.moves) run.driven in
      ap (list_all is_done) all.sound.answers.answered
      ∙ reverse_passes is_done (map (λ pair. pair.1) (last_moment layout journal).past) (list_all-map is_done (λ pair. pair.1) (last_moment layout journal).past ∙ done)

  pub ends_at_the_end : drive layout (last_moment layout journal).past inputs ≡ None → last_is_result (last_moment layout journal).past ≡ true
  ends_at_the_end none =
      let run = honest_run in
      ends_by_result layout run.valid run.roomy journal.events run.misses run.unbroken inputs (reverse journal.moves) run.driven none
