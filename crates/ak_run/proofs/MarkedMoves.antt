-- The marks after a move of the machine, by what was watched before it and left after it.
use Rattle.std.proofs.Common.{◌≡◌, ℕ, ◌+◌, ◌*◌, ◌<◌, true, ◌∷◌, length, ap, sym, ◌∙◌, subst}
use Rattle.std.specs.Prelude.{slice_index, if◌then◌else◌}
use Rattle.ak_core.specs.Layout.{Layout}
use Rattle.ak_core.specs.Mem.{Access}
use Rattle.ak_core.specs.declared.moves.Answer.{Answer}
use Rattle.ak_core.specs.declared.moves.Move.{Move}
use Rattle.ak_model.specs.Kernels.Counted.{saved_after}
use Rattle.ak_model.specs.Paging.Histories.{History, change}
use Rattle.ak_model.specs.Paging.Pages.{all_pages}
use Rattle.ak_model.specs.Stops.Blame.{enters_at_one, faults, resumes}
use Rattle.ak_relation.specs.State.MachineState.{State}
use Rattle.ak_relation.specs.State.Tables.{TablesStand}
use Rattle.ak_machine.specs.Machines.{IsState, Parts}
use Rattle.ak_run.specs.Blaming.{Marked, Marks, access_number}
use Rattle.ak_run.specs.Watching.{AreLeft, IsWatched, framed_by, named_by, watches}
use Rattle.ak_run.specs.declared.watch.Watch.{Watch}
use Rattle.ak_run.proofs.Marking.{left_fits, marked_more, watched_low}
use Rattle.ak_run.proofs.Moving.{others_walk}

module _ (before after : Parts) (same : after.layout ≡ before.layout) (m : Move) (a : Answer) (place : ℕ) (first second first_left second_left : Watch)
    (watched_first : (past : History) (state : State) → IsState before state → TablesStand before.layout past state → IsWatched before.layout past (named_by m) first)
    (watched_second : (past : History) (state : State) → IsState before state → TablesStand before.layout past state → IsWatched before.layout past (framed_by before.encls.entries m) second)
    (left_first : (past : History) (state : State) → IsState after state → TablesStand after.layout past state →
    ((t : Access) → watches first t ≡ true → t.page.0 < all_pages after.layout) → AreLeft after.layout past first first_left)
    (left_second : (past : History) (state : State) → IsState after state → TablesStand after.layout past state →
    ((t : Access) → watches second t ≡ true → t.page.0 < all_pages after.layout) → AreLeft after.layout past second second_left)
    (old noted once twice : Marks) (sized : length old.lost ≡ 3 * all_pages before.layout)
    (noted_lost : noted.lost ≡ old.lost)
    (noted_at_fault : noted.lost_at_fault ≡ (if faults (change m a) then old.lost else old.lost_at_fault))
    (noted_returned : noted.returned ≡ (if enters_at_one (change m a) old.saved then place else old.returned))
    (noted_resumed : noted.resumed ≡ (if resumes (change m a) then place else old.resumed))
    (noted_saved : noted.saved ≡ saved_after (change m a) old.saved)
    (lost_once : ((t : Access) → watches first_left t ≡ true → access_number t < length noted.lost) →
    (t : Access) → slice_index once.lost (access_number t) ≡ (if watches first_left t then place else slice_index noted.lost (access_number t)))
    (size_once : length once.lost ≡ length noted.lost) (rest_once : once ≡ record noted { lost = once.lost })
    (lost_twice : ((t : Access) → watches second_left t ≡ true → access_number t < length once.lost) →
    (t : Access) → slice_index twice.lost (access_number t) ≡ (if watches second_left t then place else slice_index once.lost (access_number t)))
    (rest_twice : twice ≡ record once { lost = twice.lost }) where
  pub marks_moved : (past : History) (state later : State) → place ≡ length past + 1 → Marked before.layout past old → IsState before state → TablesStand before.layout past state →
      IsState after later → TablesStand after.layout ((m, a) ∷ past) later → Marked after.layout ((m, a) ∷ past) twice
  marks_moved past state later here marked machine tables machine' tables' =
      let layout = before.layout in
      let named = named_by m in
      let framed = framed_by before.encls.entries m in
      let is_first : IsWatched before.layout past named first = watched_first past state machine tables in
      let is_second : IsWatched before.layout past framed second = watched_second past state machine tables in
      let are_first : AreLeft before.layout ((m, a) ∷ past) first first_left =
      subst (λ l. AreLeft l ((m, a) ∷ past) first first_left) same (left_first ((m, a) ∷ past) later machine' tables'
      (λ t w. subst (λ (l : Layout). t.page.0 < all_pages l) (sym same) (watched_low layout past named first is_first t w))) in
      let are_second : AreLeft before.layout ((m, a) ∷ past) second second_left =
      subst (λ l. AreLeft l ((m, a) ∷ past) second second_left) same (left_second ((m, a) ∷ past) later machine' tables'
      (λ t w. subst (λ (l : Layout). t.page.0 < all_pages l) (sym same) (watched_low layout past framed second is_second t w))) in
      let size_noted : length noted.lost ≡ 3 * all_pages before.layout = ap length noted_lost ∙ sized in
      subst (λ l. Marked l ((m, a) ∷ past) twice) (sym same)
      (marked_more layout past m a place here named framed first second first_left second_left is_first is_second are_first are_second
      (others_walk before past state machine tables m a) old noted once twice marked noted_lost noted_at_fault noted_returned noted_resumed noted_saved
      (lost_once (left_fits layout past ((m, a) ∷ past) named first first_left (length noted.lost) is_first are_first size_noted)) rest_once
      (lost_twice (left_fits layout past ((m, a) ∷ past) framed second second_left (length once.lost) is_second are_second (size_once ∙ size_noted))) rest_twice)
