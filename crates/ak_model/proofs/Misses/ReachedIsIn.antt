-- Under a kernel that evicts, an access of the program that was reached is of a cluster that is in.
use Rattle.std.proofs.Common.{◌≡◌, ◌⊎◌, inl, inr, ℕ, ◌+◌, ◌<◌, ◌≤◌, List, [], ◌∷◌, length, arith, refl, ap, sym, ◌∙◌, subst}
use Rattle.std.specs.Prelude.{Bool, true, false, not, ◌&&◌, ◌||◌, Some, is_some, nat_le}
use Rattle.std.specs.List.{list_all}
use Rattle.std.proofs.lemmas.Bool.{or_cases, and_parts, leb-true, ltb-true, eqb-true}
use Rattle.std.proofs.lemmas.List.Folds.{list_all-append}
use Rattle.ak_core.specs.Layout.{Layout}
use Rattle.ak_core.specs.Mem.{Access}
use Rattle.ak_core.specs.declared.page.Kind.{Kind}
use Rattle.ak_core.specs.declared.page.Kind.TheVariants.{Read, Write, Exec}
use Rattle.ak_core.specs.declared.event.Event.{Event}
use Rattle.ak_core.specs.declared.moves.Move.{Move}
use Rattle.ak_model.specs.Paging.Pages.{pages, cluster_at}
use Rattle.ak_model.specs.Paging.Histories.{History}
use Rattle.ak_model.specs.Paging.Inside.{since, inside, someone_inside}
use Rattle.ak_model.specs.Paging.Walk.{walkable, access_walkable}
use Rattle.ak_model.specs.Clusters.Queue.{is_in}
use Rattle.ak_model.specs.Control.ControlState.{Phase, New, Running, Calling, Asked, Ended, Trapped, Dead, Control}
use Rattle.ak_model.specs.Control.Trace.{Moment, trace}
use Rattle.ak_model.specs.Control.Moments.{turn_moments, moments}
use Rattle.ak_model.specs.Misses.Reached.{reached_since}
use Rattle.ak_model.specs.Kernels.Evictions.{is_asked_for, is_out, is_unmapped, keeps_out}
use Rattle.ak_model.proofs.Paging.Tests.{implied, all_in_range}
use Rattle.ak_model.proofs.Paging.InsideIsOfLayout.{placed}
use Rattle.ak_model.proofs.Paging.SomeoneInside.{is_someone}
use Rattle.ak_model.proofs.Control.OneInsideTrace.{is_present}
use Rattle.ak_model.proofs.Control.QueueStays.{Kept, then_kept, step_stays}

not_or : (a b : Bool) → (not a || b) ≡ true → b ≡ false → a ≡ false
not_or false b h e = refl
not_or true b h e = absurd (cc)

one_of : (a b : Bool) → (not a && not b) ≡ false → (a ≡ true) ⊎ (b ≡ true)
one_of true b h = inl refl
one_of false true h = inr refl
one_of false false h = absurd (cc)

module _ (layout : Layout) where
  some_kind : (past : History) (p : ℕ) (kind : Kind) → walkable layout past p kind ≡ true → is_unmapped layout past p ≡ false
  some_kind past p Read h = rw h refl
  some_kind past p Write h = second (walkable layout past p Read) (walkable layout past p Write) (walkable layout past p Exec) h
    where
      second : (a b c : Bool) → b ≡ true → not (a || (b || (c || false))) ≡ false
      second true b c e = refl
      second false true c e = refl
      second false false c e = absurd (cc)
  some_kind past p Exec h = third (walkable layout past p Read) (walkable layout past p Write) (walkable layout past p Exec) h
    where
      third : (a b c : Bool) → c ≡ true → not (a || (b || (c || false))) ≡ false
      third true b c e = refl
      third false true c e = refl
      third false false true e = refl
      third false false false e = absurd (cc)

  asked_phase : (phase : Phase) (c : ℕ) → is_asked_for phase c ≡ true → phase ≡ Asked c
  asked_phase (Asked d) c h = ap Asked (eqb-true d c h)
  asked_phase New c h = absurd (cc)
  asked_phase Running c h = absurd (cc)
  asked_phase Calling c h = absurd (cc)
  asked_phase (Ended s) c h = absurd (cc)
  asked_phase (Trapped v) c h = absurd (cc)
  asked_phase Dead c h = absurd (cc)

  -- where a walk finds a page while a processor is inside, its cluster is in or asked for
  found_in : (moment : Moment) (t : Access) → keeps_out layout moment ≡ true → someone_inside layout moment.past ≡ true → t.page.0 < pages layout → access_walkable layout moment.past t ≡ true → (is_in moment.control.queue (cluster_at layout t.page.0) ≡ true) ⊎ (is_asked_for moment.control.phase (cluster_at layout t.page.0) ≡ true)
  found_in moment t out someone low h =
      let all = implied (someone_inside layout moment.past) _ someone out in
      let here = all_in_range (λ p. not (is_out layout moment.control p) || is_unmapped layout moment.past p) (pages layout) 0 t.page.0 (omega arith) (omega arith) all in
      one_of (is_in moment.control.queue (cluster_at layout t.page.0)) (is_asked_for moment.control.phase (cluster_at layout t.page.0))
      (not_or (is_out layout moment.control t.page.0) (is_unmapped layout moment.past t.page.0) here (some_kind moment.past t.page.0 t.kind h))

  module _ (tape : List Event) (lp place : ℕ) (t : Access) (low : t.page.0 < pages layout) (last : Control) (running : last.phase ≡ Running) where
    -- since the entering
    pub reached_in : (moves : List Move) → list_all (keeps_out layout) (moments layout tape moves) ≡ true → since (trace layout tape moves).past lp ≡ Some place → Kept (trace layout tape moves).control last → reached_since layout place (trace layout tape moves).past t ≡ true → is_in last.queue (cluster_at layout t.page.0) ≡ true
    reached_in [] out at kept h = absurd (cc)
    reached_in (m ∷ moves) out at kept h =
        let before : Moment = trace layout tape moves in
        let here : Moment = trace layout tape (m ∷ moves) in
        let parts = and_parts (nat_le place (length before.past + 1)) (access_walkable layout here.past t || reached_since layout place before.past t) h in
        let outs = and_parts (keeps_out layout here) _ out in
        let within : inside here.past lp ≡ true = ap is_some at in
        let someone = is_someone layout here.past lp (ltb-true lp layout.lps (placed layout lp tape (m ∷ moves) within)) within in
        elim (or_cases (access_walkable layout here.past t) (reached_since layout place before.past t) parts.1) [
          | inl found ↦
              elim (found_in here t outs.0 someone low found) [
                | inl i ↦ subst (λ q. is_in q (cluster_at layout t.page.0) ≡ true) (sym kept.queue) i
                | inr a ↦
                    let asked = kept.asked (cluster_at layout t.page.0) (asked_phase here.control.phase (cluster_at layout t.page.0) a) in
                    absurd (cc)
              ]
          | inr earlier ↦
              let le : place ≤ length before.past = earlier_place before.past earlier in
              let more = step_stays layout before m lp place (λ q. placed layout q tape moves) (is_present layout tape moves) le at in
              let rest : list_all (keeps_out layout) (moments layout tape moves) ≡ true = (and_parts (list_all (keeps_out layout) (turn_moments layout before m)) _ (sym (list_all-append (keeps_out layout) (turn_moments layout before m) (moments layout tape moves)) ∙ outs.1)).1 in
              reached_in moves rest more.0 (then_kept before.control here.control last more.1 kept) earlier
        ]
      where
        earlier_place : (past : History) → reached_since layout place past t ≡ true → place ≤ length past
        earlier_place [] g = absurd (cc)
        earlier_place (pair ∷ past) g =
            let l = leb-true place (length past + 1) (and_parts (nat_le place (length past + 1)) (access_walkable layout (pair ∷ past) t || reached_since layout place past t) g).0 in omega arith
