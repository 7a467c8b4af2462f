-- The history that a journal tells is that of its trace.
use Rattle.std.proofs.Common.{◌≡◌, ℕ, ◌<◌, ◌^◌, List, [], ◌∷◌, ◌++◌, length, refl, sym, ◌∙◌, ap, ap₂, subst}
use Rattle.std.proofs.lemmas.List.{map-append, reverse-append, reverse-reverse, length-reverse}
use Rattle.std.specs.Prelude.{map, reverse, zip}
use Rattle.ak_core.specs.Journal.{Journal}
use Rattle.ak_core.specs.Layout.{Layout}
use Rattle.ak_core.specs.declared.event.Event.{Event}
use Rattle.ak_core.specs.declared.moves.Answer.{Answer}
use Rattle.ak_core.specs.declared.moves.Move.{Move}
use Rattle.ak_model.specs.Control.Answers.{answer}
use Rattle.ak_model.specs.Control.Trace.{trace}
use Rattle.ak_model.specs.Paging.Histories.{History, Pair, change}
use Rattle.ak_model.specs.Sound.SoundJournal.{Sound}
use Rattle.ak_model.specs.Tapes.LastMoment.{last_moment}
use Rattle.ak_model.proofs.Misses.SoundMissesFit.{sound-misses}
use Rattle.ak_relation.specs.Relation.MoveByMove.{moves_of, answers_of}
use Rattle.ak_driver.specs.Notes.{IsPlausible}
use Rattle.ak_driver.proofs.Noting.TracedMoves.{traced}
use Rattle.ak_run.specs.Runs.{Faithful, RunParts}
use Rattle.ak_run.proofs.Sound.{faithful_sound}
use Rattle.ak_top.specs.Follows.{past_of}

-- ---- Pairs

map_reverse : {A B : Type 0} (f : A → B) (xs : List A) → map f (reverse xs) ≡ reverse (map f xs)
map_reverse f [] = refl
map_reverse f (x ∷ xs) =
    ap (map f) (reverse-append (x ∷ []) xs) ∙ map-append f (reverse xs) (x ∷ []) ∙ ap (λ rest. rest ++ f x ∷ []) (map_reverse f xs)
    ∙ sym (reverse-append (f x ∷ []) (map f xs))

zip_parts : (past : History) → zip (map (λ pair. pair.0) past) (map (λ pair. pair.1) past) ≡ past
zip_parts [] = refl
zip_parts (pair ∷ past) = ap (λ rest. pair ∷ rest) (zip_parts past)

-- the journal of a history's moves and answers tells that history
pub tells : (journal : Journal) (past : History) → journal.moves ≡ reverse (moves_of past) → journal.answers ≡ answers_of past → past_of journal ≡ past
tells journal past moves answers =
    ap reverse
    (ap₂ zip (moves ∙ sym (map_reverse (λ pair. pair.0) past)) (answers ∙ sym (map_reverse (λ pair. pair.1) past)) ∙ zip_parts (reverse past))
    ∙ reverse-reverse past

-- two lists that are equal have equal parts
cons_parts : {A : Type 0} {x y : A} {xs ys : List A} → x ∷ xs ≡ y ∷ ys → (x ≡ y) × (xs ≡ ys)
cons_parts e = (cc, cc)

-- ---- The trace

trace_moves : (layout : Layout) (tape : List Event) (moves : List Move) → moves_of (trace layout tape moves).past ≡ moves
trace_moves layout tape [] = refl
trace_moves layout tape (m ∷ moves) = ap (λ rest. m ∷ rest) (trace_moves layout tape moves)

-- the journal tells the history of its trace
pub tells_trace : (image : List ℕ) (layout : Layout) (journal : Journal) → Sound image layout journal → past_of journal ≡ (last_moment layout journal).past
tells_trace image layout journal sound =
    tells journal (last_moment layout journal).past
    (sym (reverse-reverse journal.moves) ∙ ap reverse (sym (trace_moves layout journal.events (reverse journal.moves)))) sound.answers.answered

-- ---- One more move

module _ (image : List ℕ) (old new : RunParts) (before : Faithful image old) (after : Faithful image new) (m : Move) (a : Answer)
    (moves : new.journal.moves ≡ old.journal.moves ++ m ∷ []) (answers : new.journal.answers ≡ old.journal.answers ++ a ∷ []) where
  abbrev past : History
  past = past_of old.journal

  old_tells : past ≡ before.past
  old_tells = tells old.journal before.past before.keeps.has.moves_are before.keeps.has.answers_are

  -- what the journal tells has one more pair
  pub one_more : past_of new.journal ≡ (m, a) ∷ past
  one_more =
      tells new.journal ((m, a) ∷ before.past)
      (moves ∙ ap (λ all. all ++ m ∷ []) before.keeps.has.moves_are ∙ sym (reverse-append (m ∷ []) (moves_of before.past)))
      (answers ∙ ap (λ all. all ++ a ∷ []) before.keeps.has.answers_are ∙ sym (reverse-append (a ∷ []) (map (λ pair. pair.1) before.past)))
      ∙ ap (λ all. (m, a) ∷ all) (sym old_tells)

  -- and the kernel may be told of it
  pub may_come : length old.journal.moves < 2 ^ 31 → IsPlausible new.machine.layout past (change m a)
  may_come few =
      let layout = new.machine.layout in
      let tape = new.journal.events in
      let earlier = reverse old.journal.moves in
      let sound = faithful_sound image new after in
      let moment = trace layout tape earlier in
      let moves_back : reverse new.journal.moves ≡ m ∷ earlier = ap reverse moves ∙ reverse-append old.journal.moves (m ∷ []) in
      let all : (m, a) ∷ past ≡ (m, answer layout moment.past moment.control m) ∷ moment.past =
      sym one_more ∙ tells_trace image layout new.journal sound ∙ ap (λ moves. (trace layout tape moves).past) moves_back in
      let parts = cons_parts all in
      let same_past : moment.past ≡ past = sym parts.1 in
      let same_answer : answer layout moment.past moment.control m ≡ a = ap (λ (pair : Pair). pair.1) (sym parts.0) in
      let few_moves : length earlier < 2 ^ 31 = subst (λ n. n < 2 ^ 31) (sym (length-reverse old.journal.moves)) few in
      let P : History → Answer → Type 0 = λ past a. IsPlausible layout past (change m a) in
      subst (λ a. P past a) same_answer
      (subst (λ past. P past (answer layout moment.past moment.control m)) same_past (traced layout tape sound.valid (sound-misses image layout new.journal sound) earlier m few_moves))
