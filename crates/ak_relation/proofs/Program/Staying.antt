-- What a processor inside has reached stays reached, by every move that keeps the frames in use.
use Rattle.std.proofs.Common.{◌≡◌, ℕ, suc, ◌+◌, ◌-◌, ◌≤◌, List, [], ◌∷◌, length, drop, refl, ap, sym, ◌∙◌, subst, arith}
use Rattle.std.specs.Prelude.{Bool, true, false, ◌&&◌, ◌||◌, Option, Some, None, nat_le, filter, flat_map, unwrap_or, ◌==◌, if◌then◌else◌}
use Rattle.std.specs.Bool.{then_some}
use Rattle.std.proofs.lemmas.Bool.{le-leb}
use Rattle.ak_core.specs.Layout.{Layout}
use Rattle.ak_core.specs.Mem.{Access}
use Rattle.ak_model.specs.Paging.Histories.{History, Pair, first, Change, Unchanged, Maps, Blocks, Cycles, WritesOut, Loads, Removes, MakesVa, Discards, Enters, Resumes, Exits, Interrupts, change_of}
use Rattle.ak_model.specs.Paging.Pages.{tcs_page, ssa_page}
use Rattle.ak_model.specs.Paging.Holdings.{Held, FreeFrame, VaFrame, PageFrame}
use Rattle.ak_model.specs.Paging.Frames.{held, held_after, blocked_at, blocked_after, blocks_first}
use Rattle.ak_model.specs.Paging.Inside.{since}
use Rattle.ak_model.specs.Paging.Walk.{access_walkable, tcs_walkable, walkable}
use Rattle.ak_core.specs.declared.page.Kind.TheVariants.{Write}
use Rattle.ak_model.specs.Control.ControlState.{Control}
use Rattle.ak_model.specs.Tapes.LastMoment.{FlatRuns}
use Rattle.ak_model.specs.Tapes.ProgramTurns.{ProgramTurn}
use Rattle.ak_model.specs.Misses.Reached.{entered_at, accesses_at, reached_since}
use Rattle.ak_model.specs.Misses.KeptTranslations.{completes_by, is_among}
use Rattle.ak_tlb.specs.Fills.{Fill}
use Rattle.ak_relation.specs.State.MachineState.{Processor}
use Rattle.ak_relation.specs.Program.Reaching.{granted_to, AreReached, StaysBy}
use Rattle.ak_model.specs.Laws.OpenFrames.{IsLate, HoldsSince, takes, KeepsOpen}
use Rattle.ak_model.proofs.Paging.SincePast.{since_past}

first_more : (pair : Pair) (past : History) (place : ℕ) → place ≤ length past → first (pair ∷ past) place ≡ first past place
first_more pair past place le =
    let e : suc (length past) - place ≡ suc (length past - place) = omega arith in ap (λ n. drop n (pair ∷ past)) e

-- ---- After one more move

more_true : (a b r : Bool) → a ≡ true → r ≡ true → (a && (b || r)) ≡ true
more_true true true r h k = refl
more_true true false r h k = k
more_true false b r h k = absurd (cc)

late_first : (place n : ℕ) (o : Option ℕ) → place ≤ n → IsLate place o → IsLate place (blocks_first o (n + 1))
late_first place n None le h = omega arith
late_first place n (Some b) le h = h

late_if : (b : Bool) (place : ℕ) (x y : Option ℕ) → IsLate place x → IsLate place y → IsLate place (if b then x else y)
late_if true place x y h k = h
late_if false place x y h k = k

-- a change that does not take the frame leaves it held
holds_after : (c : Change) (f p : ℕ) (h : Held) → takes c f ≡ false → h ≡ PageFrame p → held_after c f h ≡ PageFrame p
holds_after (WritesOut g va i k) f p h free is = ap (λ b. if b then FreeFrame else h) free ∙ is
holds_after (Loads g k q va i blocked) f p h free is = ap (λ b. if b then PageFrame q else h) free ∙ is
holds_after (Removes g) f p h free is = ap (λ b. if b then FreeFrame else h) free ∙ is
holds_after (MakesVa g) f p h free is = ap (λ b. if b then VaFrame else h) free ∙ is
holds_after Unchanged f p h free is = is
holds_after (Maps q g flags) f p h free is = is
holds_after (Blocks g) f p h free is = is
holds_after Cycles f p h free is = is
holds_after (Discards k) f p h free is = is
holds_after (Enters lp v) f p h free is = is
holds_after (Resumes lp) f p h free is = is
holds_after (Exits lp exit) f p h free is = is
holds_after (Interrupts lp) f p h free is = is

-- and its block is late still
late_after : (c : Change) (f place n : ℕ) (o : Option ℕ) → takes c f ≡ false → place ≤ n → IsLate place o → IsLate place (blocked_after c f (n + 1) o)
late_after (WritesOut g va i k) f place n o free le h = subst (λ b. IsLate place (if b then None else o)) (sym free) h
late_after (Loads g k q va i blocked) f place n o free le h = subst (λ b. IsLate place (if b then then_some blocked (n + 1) else o)) (sym free) h
late_after (Removes g) f place n o free le h = subst (λ b. IsLate place (if b then None else o)) (sym free) h
late_after (MakesVa g) f place n o free le h = subst (λ b. IsLate place (if b then None else o)) (sym free) h
late_after (Blocks g) f place n o free le h = late_if (f == g) place (blocks_first o (n + 1)) o (late_first place n o le h) h
late_after Unchanged f place n o free le h = h
late_after (Maps q g flags) f place n o free le h = h
late_after Cycles f place n o free le h = h
late_after (Discards k) f place n o free le h = h
late_after (Enters lp v) f place n o free le h = h
late_after (Resumes lp) f place n o free le h = h
late_after (Exits lp exit) f place n o free le h = h
late_after (Interrupts lp) f place n o free le h = h

module _ (layout : Layout) (past : History) (pair : Pair) where
  -- a frame that was open since stays
  pub holds_more : (place f p : ℕ) → place ≤ length past → takes (change_of pair) f ≡ false → HoldsSince layout past place f p → HoldsSince layout (pair ∷ past) place f p
  holds_more place f p le free h = record {
    holds = holds_after (change_of pair) f p (held layout past f) free h.holds;
    late = late_after (change_of pair) f place (length past) (blocked_at past f) free le h.late;
  }

  -- what was reached stays so
  pub reached_more : (place : ℕ) (t : Access) → place ≤ length past → reached_since layout place past t ≡ true → reached_since layout place (pair ∷ past) t ≡ true
  reached_more place t le h = more_true (nat_le place (length past + 1)) (access_walkable layout (pair ∷ past) t) _ (le-leb place (length past + 1) (omega arith)) h

  module _ (keeps : KeepsOpen layout past (change_of pair)) (lp place : ℕ) (is : since past lp ≡ Some place) (le : place ≤ length past) where
    frame_more : (f p : ℕ) → HoldsSince layout past place f p → HoldsSince layout (pair ∷ past) place f p
    frame_more f p h = holds_more place f p le (keeps lp place f p is h) h

    fills_more : (fills : List Fill) → AreReached layout past place fills → AreReached layout (pair ∷ past) place fills
    fills_more [] h = tt
    fills_more (fill ∷ fills) h =
        (record { frame = frame_more fill.frame fill.access.page.0 h.0.frame; reached = reached_more place fill.access le h.0.reached }, fills_more fills h.1)

  module _ (runs : FlatRuns) (control : Control) (turns : List ProgramTurn) (lp : ℕ) (processor : Processor) where
    granted_by : ℕ → List Access
    granted_by n =
        flat_map (accesses_at layout runs) (filter (λ earlier. completes_by earlier.event && ((earlier.lp == lp) && (entered_at earlier == n))) turns)

    same_granted : (place : ℕ) → since past lp ≡ Some place → since (pair ∷ past) lp ≡ since past lp →
        granted_to layout runs lp past control turns ≡ granted_to layout runs lp (pair ∷ past) control turns
    unfolding granted_by
    same_granted place is same =
        ap granted_by (ap (λ o. unwrap_or o (length past + 1)) is ∙ sym (ap (λ o. unwrap_or o (length (pair ∷ past) + 1)) (same ∙ is)))

    -- a processor that stays inside
    pub stays-more : (o : Option ℕ) → since past lp ≡ o → since (pair ∷ past) lp ≡ since past lp → KeepsOpen layout past (change_of pair) →
        StaysBy layout runs past control turns lp processor o → StaysBy layout runs (pair ∷ past) control turns lp processor o
    stays-more None is same keeps h = h
    stays-more (Some place) is same keeps h =
        let le = since_past past lp place is in
        record {
          fills = fills_more keeps lp place is le processor.fills h.fills;
          caches = λ t. h.caches t ∙ ap (λ g. is_among g t) (same_granted place is same);
          tcs = record {
            frame = frame_more keeps lp place is le processor.tcs (tcs_page layout) h.tcs.frame;
            found = ap (λ older. tcs_walkable layout older) (first_more pair past place le) ∙ h.tcs.found;
          };
          area = record {
            frame = frame_more keeps lp place is le processor.ssa (ssa_page layout (length control.stack)) h.area.frame;
            found = ap (λ older. walkable layout older (ssa_page layout (length control.stack)) Write) (first_more pair past place le) ∙ h.area.found;
          };
        }
