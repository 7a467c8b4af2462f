-- A frame that is tracked, and one that is not, by the places of ETRACK.
use Rattle.std.proofs.Common.{◌≡◌, [], ◌∷◌, arith, refl}
use Rattle.std.specs.Prelude.{true, false}
use Rattle.ak_core.specs.declared.moves.Move.TheVariants.{Etrack}
use Rattle.ak_core.specs.declared.moves.Answer.TheVariants.{Ok, PrevIncomplete}
use Rattle.ak_model.specs.Paging.Histories.{History}
use Rattle.ak_model.specs.Laws.Waiting.{still_inside, IsTracked, IsIncomplete}
use Rattle.ak_model.proofs.Rows.Samples.{image_a, eblock, eldu, eenter, interrupt}
use Rattle.ak_model.proofs.Paging.EtracksAndCycles.{is-tracked, is-incomplete}

-- frame 8 is blocked while a processor is inside, between two ETRACKs, and a third one is refused
unfoldable while_inside : History
while_inside = (Etrack, PrevIncomplete) ∷ (Etrack, Ok) ∷ (eblock 8, Ok) ∷ (eenter 0 0, Ok) ∷ (Etrack, Ok) ∷ (eldu 8 0 0 1 0, Ok) ∷ []

-- the processor leaves
unfoldable after_leaving : History
unfolding while_inside
after_leaving = (interrupt 0, Ok) ∷ while_inside

-- the ETRACK at place 5 waits for the processor, and the one at place 2 for nobody
waiting : still_inside image_a while_inside 5 ≡ 0 ∷ []
unfolding while_inside
waiting = refl

waiting_none : still_inside image_a while_inside 2 ≡ []
unfolding while_inside
waiting_none = refl

not_tracked : IsTracked image_a while_inside 8 → ⊥
unfolding while_inside
not_tracked h = let no : false ≡ true = (is-tracked image_a while_inside 8).1 h in cc

-- nothing after place 5 is an ETRACK that was done
still_incomplete : IsIncomplete image_a while_inside
unfolding while_inside
still_incomplete = (is-incomplete image_a while_inside).0 refl

-- after the leaving the ETRACK at place 5 waits for nobody, and counts for the block at place 4
now_tracked : IsTracked image_a after_leaving 8
unfolding after_leaving while_inside
now_tracked = record { block = 4; blocked = refl; place = 5; after = omega arith; etrack = refl; left = refl }

now_complete : IsIncomplete image_a after_leaving → ⊥
unfolding after_leaving while_inside
now_complete h = let no : false ≡ true = (is-incomplete image_a after_leaving).1 h in cc
