-- A sound journal that is cut has the answers of the trace of the moves and events by then.
use Rattle.std.proofs.Common.{◌≡◌, ℕ, suc, List, [], ◌∷◌, ◌++◌, length, arith, refl, sym, ◌∙◌, ap}
use Rattle.std.proofs.lemmas.Bool.{lt-leb}
use Rattle.std.proofs.lemmas.List.{length-append, length-map, length-reverse, length-take, reverse-append, take-append-drop, take-append-le, take_all, take_min}
use Rattle.std.specs.Prelude.{drop, map, min, reverse, take}
use Rattle.ak_core.specs.Journal.{Journal}
use Rattle.ak_core.specs.Layout.{Layout}
use Rattle.ak_core.specs.declared.event.Event.{Event}
use Rattle.ak_core.specs.declared.moves.Answer.{Answer}
use Rattle.ak_core.specs.declared.moves.Move.{Move}
use Rattle.ak_model.specs.Control.Answers.{answer}
use Rattle.ak_model.specs.Control.Trace.{answers, trace}
use Rattle.ak_model.specs.Laws.Premises.{all_but_last}
use Rattle.ak_model.specs.Sound.SoundJournal.{Sound}
use Rattle.ak_model.proofs.Tapes.CutTraces.{trace-cut}
use Rattle.ak_run.specs.Cuts.{taken}

-- ---- The first answers of a trace

module _ (layout : Layout) (tape : List Event) where
  past_length : (moves : List Move) → length (trace layout tape moves).past ≡ length moves
  past_length [] = refl
  past_length (m ∷ moves) = ap suc (past_length moves)

  -- each move has one answer
  answers_length : (moves : List Move) → length (answers (trace layout tape moves)) ≡ length moves
  answers_length moves =
      let past = (trace layout tape moves).past in
      length-reverse (map (λ pair. pair.1) past) ∙ length-map past (λ pair. pair.1) ∙ past_length moves

  -- later moves change no answer to earlier ones
  earlier_answers : (earlier later : List Move) → take (length earlier) (answers (trace layout tape (later ++ earlier))) ≡ answers (trace layout tape earlier)
  earlier_answers earlier [] =
      let count = answers_length earlier in
      take_all (length earlier) (answers (trace layout tape earlier)) (omega arith)
  earlier_answers earlier (m ∷ later) =
      let moment = trace layout tape (later ++ earlier) in
      let a = answer layout moment.past moment.control m in
      let count = answers_length (later ++ earlier) in
      let both = length-append later earlier in
      ap (take (length earlier)) (reverse-append (a ∷ []) (map (λ pair. pair.1) moment.past))
      ∙ take-append-le (length earlier) (answers moment) (a ∷ []) (omega arith)
      ∙ earlier_answers earlier later

  -- the first k answers are those to the first k moves
  first_answers : (moves : List Move) (k : ℕ) → take k (answers (trace layout tape (reverse moves))) ≡ answers (trace layout tape (reverse (take k moves)))
  first_answers moves k =
      let all : List Answer = answers (trace layout tape (reverse moves)) in
      let earlier : List Move = reverse (take k moves) in
      let later : List Move = reverse (drop k moves) in
      let count : min k (length all) ≡ length earlier =
      ap (min k) (answers_length (reverse moves) ∙ length-reverse moves) ∙ sym (length-take k moves) ∙ sym (length-reverse (take k moves)) in
      let parts : reverse moves ≡ later ++ earlier = ap reverse (sym (take-append-drop k moves)) ∙ reverse-append (take k moves) (drop k moves) in
      sym (take_min k all) ∙ ap (λ n. take n all) count ∙ ap (λ moves. take (length earlier) (answers (trace layout tape moves))) parts
      ∙ earlier_answers earlier later

-- ---- The events that were taken

all_taken : (events : List Event) → all_but_last (length events) events ≡ []
all_taken [] = refl
all_taken (event ∷ rest) = rw (lt-leb (suc (length rest)) (length rest) (omega arith)) refl

module _ (layout : Layout) (journal : Journal) (k : ℕ) where
  abbrev by_then : List Move
  by_then = reverse (take k journal.moves)

  -- the events taken by then give the same answers
  taken_answers : answers (trace layout (taken k layout journal) by_then) ≡ answers (trace layout journal.events by_then)
  taken_answers =
      let left = length (trace layout journal.events by_then).control.rest in
      ap answers (trace-cut layout left journal.events by_then (omega arith))

  -- and none of them is left
  pub none_left : (trace layout (taken k layout journal) by_then).control.rest ≡ []
  none_left =
      let rest = (trace layout journal.events by_then).control.rest in
      ap (λ moment. moment.control.rest) (trace-cut layout (length rest) journal.events by_then (omega arith)) ∙ all_taken rest

-- ---- Sound journals

-- the answers of a sound journal that is cut are traced
pub cut_answers : (image : List ℕ) (layout : Layout) (journal : Journal) (k : ℕ) → Sound image layout journal → take k journal.answers ≡ answers (trace layout (taken k layout journal) (reverse (take k journal.moves)))
cut_answers image layout journal k sound =
    ap (take k) sound.answers.answered ∙ first_answers layout journal.events journal.moves k ∙ sym (taken_answers layout journal k)

-- two that agree so far have given the same answers
pub cuts_agree : (image image' : List ℕ) (layout layout' : Layout) (journal journal' : Journal) (k : ℕ) → Sound image layout journal → Sound image' layout' journal' → layout ≡ layout' → take k journal.moves ≡ take k journal'.moves → taken k layout journal ≡ taken k layout' journal' → take k journal.answers ≡ take k journal'.answers
cuts_agree image image' layout layout' journal journal' k sound sound' same moves events =
    cut_answers image layout journal k sound
    ∙ ap (λ tape. answers (trace layout tape (reverse (take k journal.moves)))) events
    ∙ ap (λ layout. answers (trace layout (taken k layout' journal') (reverse (take k journal.moves)))) same
    ∙ ap (λ moves. answers (trace layout' (taken k layout' journal') (reverse moves))) moves
    ∙ sym (cut_answers image' layout' journal' k sound')
