-- The marks after one more move are those of the history with it.
use Rattle.std.proofs.Common.{◌≡◌, ℕ, ◌+◌, ◌*◌, ◌<◌, ◌≤◌, Bool, true, false, List, ◌∷◌, length, refl, ap, sym, ◌∙◌, subst, arith}
use Rattle.std.specs.Prelude.{◌&&◌, not, slice_index, Option, if◌then◌else◌}
use Rattle.ak_core.specs.Layout.{Layout}
use Rattle.ak_core.specs.Mem.{Access}
use Rattle.ak_core.specs.declared.moves.Answer.{Answer}
use Rattle.ak_core.specs.declared.moves.Move.{Move}
use Rattle.ak_core.specs.declared.page.Kind.{Kind}
use Rattle.ak_core.specs.declared.page.Kind.TheVariants.{Read, Write, Exec}
use Rattle.ak_core.specs.declared.page.Page.{Page}
use Rattle.ak_model.specs.Kernels.Counted.{saved_after, saved_count}
use Rattle.ak_model.specs.Paging.Histories.{History, change}
use Rattle.ak_model.specs.Paging.Pages.{all_pages, permits}
use Rattle.ak_model.specs.Paging.Walk.{access_walkable}
use Rattle.ak_model.specs.Stops.Blame.{enters_at_one, faults, lost_at, past_before_fault, resumes}
use Rattle.ak_relation.proofs.Exits.WalkedReached.{permits_low}
use Rattle.ak_run.specs.Blaming.{AreLost, Marked, Marks, access_number, kind_number}
use Rattle.ak_run.specs.Watching.{AreLeft, IsWatched, is_page, watches}
use Rattle.ak_run.specs.declared.watch.Watch.{Watch}

-- ---- Accesses that are watched

first_true : (a b : Bool) → (a && b) ≡ true → a ≡ true
first_true true b h = refl
first_true false b h = cc

second_true : (a b : Bool) → (a && b) ≡ true → b ≡ true
second_true true b h = h
second_true false b h = cc

-- an access that is watched is of a page of the enclave
pub watched_low : (layout : Layout) (past : History) (page : Option Page) (watch : Watch) → IsWatched layout past page watch →
    (t : Access) → watches watch t ≡ true → t.page.0 < all_pages layout
watched_low layout past page watch is t w =
    let walked = second_true (is_page page t.page.0) (access_walkable layout past t) (sym (is t) ∙ w) in
    permits_low layout t.page.0 t.kind (first_true (permits layout t.page.0 t.kind) _ walked)

few_kinds : (kind : Kind) → kind_number kind ≤ 2
few_kinds Read = omega arith
few_kinds Write = omega arith
few_kinds Exec = omega arith

-- so is one that is left, and there is a place for it
pub left_fits : (layout : Layout) (past later : History) (page : Option Page) (watch left : Watch) (n : ℕ) → IsWatched layout past page watch → AreLeft layout later watch left →
    n ≡ 3 * all_pages layout → (t : Access) → watches left t ≡ true → access_number t < n
left_fits layout past later page watch left n is are size t w =
    let low : t.page.0 < all_pages layout = watched_low layout past page watch is t (first_true (watches watch t) (not (access_walkable layout later t)) (sym (are t) ∙ w)) in
    let few = few_kinds t.kind in
    omega arith

-- ---- One more move

-- of the accesses of the two pages just those that walks found, and find no more, get the new place; each other access walks find as before
one_place : (named framed before after : Bool) (place old : ℕ) → (named ≡ false → framed ≡ false → after ≡ before) →
    (if (framed && before) && not after then place else (if (named && before) && not after then place else old)) ≡ (if before && not after then place else old)
one_place true true true true place old stays = refl
one_place true true true false place old stays = refl
one_place true true false after place old stays = refl
one_place false true true true place old stays = refl
one_place false true true false place old stays = refl
one_place false true false after place old stays = refl
one_place true false before after place old stays = refl
one_place false false true true place old stays = refl
one_place false false true false place old stays = let h = stays refl refl in cc
one_place false false false after place old stays = refl

-- the marks at a page fault are the new ones, and else stay
at_fault : (layout : Layout) (past : History) (b : Bool) (lost frozen places : List ℕ) → places ≡ (if b then lost else frozen) → AreLost layout past lost → AreLost layout (past_before_fault past) frozen →
    AreLost layout (if b then past else past_before_fault past) places
at_fault layout past true lost frozen places is now before = subst (AreLost layout past) (sym is) now
at_fault layout past false lost frozen places is now before = subst (AreLost layout (past_before_fault past)) (sym is) before

module _ (layout : Layout) (past : History) (m : Move) (a : Answer) (place : ℕ) (here : place ≡ length past + 1)
    (named framed : Option Page) (first second first_left second_left : Watch)
    (watched_first : IsWatched layout past named first) (watched_second : IsWatched layout past framed second)
    (left_first : AreLeft layout ((m, a) ∷ past) first first_left) (left_second : AreLeft layout ((m, a) ∷ past) second second_left)
    (others : (t : Access) → is_page named t.page.0 ≡ false → is_page framed t.page.0 ≡ false → access_walkable layout ((m, a) ∷ past) t ≡ access_walkable layout past t)
    (old noted once twice : Marks) (marked : Marked layout past old)
    (noted_lost : noted.lost ≡ old.lost)
    (noted_at_fault : noted.lost_at_fault ≡ (if faults (change m a) then old.lost else old.lost_at_fault))
    (noted_returned : noted.returned ≡ (if enters_at_one (change m a) old.saved then place else old.returned))
    (noted_resumed : noted.resumed ≡ (if resumes (change m a) then place else old.resumed))
    (noted_saved : noted.saved ≡ saved_after (change m a) old.saved)
    (lost_once : (t : Access) → slice_index once.lost (access_number t) ≡ (if watches first_left t then place else slice_index noted.lost (access_number t)))
    (rest_once : once ≡ record noted { lost = once.lost })
    (lost_twice : (t : Access) → slice_index twice.lost (access_number t) ≡ (if watches second_left t then place else slice_index once.lost (access_number t)))
    (rest_twice : twice ≡ record once { lost = twice.lost }) where
  later : History
  later = (m, a) ∷ past

  -- what is left of an access that was watched
  left_of : (page : Option Page) (watch left : Watch) → IsWatched layout past page watch → AreLeft layout ((m, a) ∷ past) watch left → (t : Access) →
      watches left t ≡ ((is_page page t.page.0 && access_walkable layout past t) && not (access_walkable layout ((m, a) ∷ past) t))
  left_of page watch left is are t = are t ∙ ap (λ b. b && not (access_walkable layout ((m, a) ∷ past) t)) (is t)

  lost_now : (t : Access) → slice_index twice.lost (access_number t) ≡ lost_at layout ((m, a) ∷ past) t
  lost_now t =
      let walked = access_walkable layout past t in
      let walks = access_walkable layout ((m, a) ∷ past) t in
      let so_far = slice_index once.lost (access_number t) in
      let before = slice_index noted.lost (access_number t) in
      let at_first : before ≡ lost_at layout past t = ap (λ (xs : List ℕ). slice_index xs (access_number t)) noted_lost ∙ marked.lost.place t in
      lost_twice t
      ∙ ap (λ b. if b then place else so_far) (left_of framed second second_left watched_second left_second t)
      ∙ ap (λ n. if (is_page framed t.page.0 && walked) && not walks then place else n)
      (lost_once t ∙ ap (λ b. if b then place else before) (left_of named first first_left watched_first left_first t))
      ∙ one_place (is_page named t.page.0) (is_page framed t.page.0) walked walks place before (others t)
      ∙ ap (λ n. if walked && not walks then n else before) here
      ∙ ap (λ n. if walked && not walks then length past + 1 else n) at_first

  same_rest : twice ≡ record noted { lost = twice.lost }
  same_rest = rest_twice ∙ ap (λ (marks : Marks). record marks { lost = twice.lost }) rest_once

  pub marked_more : Marked layout ((m, a) ∷ past) twice
  marked_more = record {
    lost = record { place = lost_now };
    lost_at_fault = at_fault layout past (faults (change m a)) old.lost old.lost_at_fault twice.lost_at_fault
        (ap (λ (marks : Marks). marks.lost_at_fault) same_rest ∙ noted_at_fault) marked.lost marked.lost_at_fault;
    returned = ap (λ (marks : Marks). marks.returned) same_rest ∙ noted_returned
        ∙ ap (λ n. if enters_at_one (change m a) n then place else old.returned) marked.saved
        ∙ ap (λ n. if enters_at_one (change m a) (saved_count past) then n else old.returned) here
        ∙ ap (λ n. if enters_at_one (change m a) (saved_count past) then length past + 1 else n) marked.returned;
    resumed = ap (λ (marks : Marks). marks.resumed) same_rest ∙ noted_resumed
        ∙ ap (λ n. if resumes (change m a) then n else old.resumed) here
        ∙ ap (λ n. if resumes (change m a) then length past + 1 else n) marked.resumed;
    saved = ap (λ (marks : Marks). marks.saved) same_rest ∙ noted_saved ∙ ap (saved_after (change m a)) marked.saved;
  }
