use Rattle.ak_gen.proofs.Places.{first_page-at, word-at}
use Rattle.ak_gen.proofs.laws.words_are_in_place.Goals as goal

pub returns-clause-first : goal.returns-clause-first
returns-clause-first c = first_page-at

pub returns-clause-words : goal.returns-clause-words
returns-clause-words c = word-at
