-- Laws of flat runs: an instruction changes only pages that it writes, and each state has as many bytes as the image.
use Rattle.std.proofs.Common.{◌≡◌, ℕ, zero, suc, ◌*◌, ◌≤◌, List, [], ◌∷◌, ◌++◌, length, arith, refl, ap, ◌∙◌, subst, inl, inr}
use Rattle.std.specs.Prelude.{Bool, true, false, if◌then◌else◌, Option, Some, None, nat_lt}
use Rattle.std.specs.List.{list_any}
use Rattle.ak_core.specs.Layout.{Layout}
use Rattle.ak_core.specs.Mem.{Access, access_to}
use Rattle.ak_core.specs.declared.page.Kind.TheVariants.{Exec}
use Rattle.ak_core.specs.declared.instruction.Decoded.{Decoded}
use Rattle.ak_core.specs.declared.instruction.Decoded.TheVariants.{Whole, NeedMore, Illegal}
use Rattle.ak_model.specs.Paging.Pages.{pages}
use Rattle.ak_model.specs.Flat.Encodings.{decode}
use Rattle.ak_model.specs.Flat.FlatRuns.{Flat, End, Line, line_of, page_at, is_program, straddling, in_first_page, line, is_forbidden, rest_of_page, page_bytes, ending, FlatRun, after_call, after_ending, one_more, flat_run}
use Rattle.ak_relation.specs.Program.FlatPlaces.{Reaches, IsAfterCall, IsAtBy}
use Rattle.ak_model.specs.Laws.OwedAnswers.{Owing, Settled, Owed, Unknown}
use Rattle.ak_relation.specs.Program.FlatFits.{Unwritten, EndKeeps}
use Rattle.ak_relation.proofs.Flat.WrittenPages.{LineKeeps, plan_short, carry_keeps}

module _ (layout : Layout) where
  module _ (flat : Flat) (full : 4096 * pages layout ≤ length flat.bytes) where
    straddling_keeps : (accesses : List Access) (d : Decoded) → LineKeeps layout flat full (straddling layout flat accesses d)
    straddling_keeps accesses (Whole instr size) = carry_keeps layout flat full accesses _ (plan_short instr _)
    straddling_keeps accesses NeedMore = tt
    straddling_keeps accesses Illegal = tt

    choose_keeps : (b : Bool) (x y : Line) → LineKeeps layout flat full x → LineKeeps layout flat full y → LineKeeps layout flat full (if b then x else y)
    choose_keeps true x y h k = h
    choose_keeps false x y h k = k

    first_keeps : (p : ℕ) (d : Decoded) → LineKeeps layout flat full (in_first_page layout flat p d)
    first_keeps p (Whole instr size) = carry_keeps layout flat full (access_to p Exec ∷ []) _ (plan_short instr _)
    first_keeps p Illegal = tt
    first_keeps p NeedMore =
        choose_keeps (nat_lt (suc p) (pages layout)) (straddling layout flat (access_to p Exec ∷ access_to (suc p) Exec ∷ []) (decode (rest_of_page layout flat p ++ page_bytes flat (suc p))))
        (line_of (access_to p Exec ∷ []) (End.Vector 13)) (straddling_keeps _ (decode (rest_of_page layout flat p ++ page_bytes flat (suc p)))) tt

    line_keeps : LineKeeps layout flat full (line layout flat)
    line_keeps =
        choose_keeps (is_program layout flat.regs.rip 1) (in_first_page layout flat (page_at layout flat.regs.rip) (decode (rest_of_page layout flat (page_at layout flat.regs.rip)))) (line_of [] (End.Vector 13))
        (first_keeps (page_at layout flat.regs.rip) (decode (rest_of_page layout flat (page_at layout flat.regs.rip)))) tt

    end_keeps : (accesses : List Access) (b : Bool) (e : End) → EndKeeps accesses flat e → EndKeeps accesses flat (if b then End.Vector 14 else e)
    end_keeps accesses true e h = tt
    end_keeps accesses false e h = h

    -- an instruction keeps the number of bytes, and each page that it does not write
    pub step_keeps : EndKeeps (line layout flat).accesses flat (ending layout flat)
    step_keeps = end_keeps (line layout flat).accesses (list_any (is_forbidden layout) (line layout flat).accesses) (line layout flat).end line_keeps

    -- a page that the instruction does not write
    pub unwritten_same : (after : Flat) (p : ℕ) → ending layout flat ≡ End.Next after → Unwritten (line layout flat).accesses p → page_bytes after p ≡ page_bytes flat p
    unwritten_same after p e u = (subst (EndKeeps (line layout flat).accesses flat) e step_keeps).1 p u

  -- ---- Runs

  module _ (image answers : List ℕ) (full : 4096 * pages layout ≤ length image) where
    -- it holds of a run, if there is one
    abbrev HasAll : Option FlatRun → Type 0
    HasAll None = Unit {0}
    HasAll (Some run) = length run.flat.bytes ≡ length image

    answered_all : (b : ℕ) (flat : Flat) (given : List ℕ) → length flat.bytes ≡ length image → HasAll (after_call b flat given)
    answered_all zero flat given h = tt
    answered_all (suc b) flat [] h = tt
    answered_all (suc b) flat (v ∷ given) h = h

    ended_all : (accesses : List Access) (flat : Flat) (e : End) (given : List ℕ) → length flat.bytes ≡ length image → EndKeeps accesses flat e → HasAll (after_ending e given)
    ended_all accesses flat (End.Next after) given h k = k.0 ∙ h
    ended_all accesses flat (End.Call b a after) given h k = answered_all b after given (ap length k ∙ h)
    ended_all accesses flat (End.Vector v) given h k = tt

    more_all : (o : Option FlatRun) → HasAll o → HasAll (one_more layout o)
    more_all None h = tt
    more_all (Some run) h = ended_all (line layout run.flat).accesses run.flat (ending layout run.flat) run.answers h (step_keeps run.flat (omega arith))

    run_all : (i : ℕ) → HasAll (flat_run layout image answers i)
    run_all zero = refl
    run_all (suc i) = more_all (flat_run layout image answers i) (run_all i)

    -- at each state of a run
    pub reaches_all : (i : ℕ) (flat : Flat) → Reaches layout image answers i flat → length flat.bytes ≡ length image
    reaches_all i flat e = subst HasAll e (run_all i)

    called_by : (caller : Flat) (e : End) (number argument : ℕ) (flat : Flat) → e ≡ End.Call number argument flat → EndKeeps (line layout caller).accesses caller e → flat.bytes ≡ caller.bytes
    called_by caller e number argument flat same k = subst (EndKeeps (line layout caller).accesses caller) same k

    called_all : (count : ℕ) (flat : Flat) → IsAfterCall layout image answers count flat → length flat.bytes ≡ length image
    called_all count flat c =
        let before = reaches_all c.before c.caller c.reached in
        ap length (called_by c.caller (ending layout c.caller) c.number c.argument flat c.called (step_keeps c.caller (omega arith))) ∙ before

    -- and so at the program's flat state, whether an answer is owed or not
    pub at_all : (owing : Owing) (count : ℕ) (flat : Flat) → IsAtBy owing layout image answers count flat → length flat.bytes ≡ length image
    at_all Settled count flat h = reaches_all count flat h
    at_all Owed count flat h = called_all count flat h
    at_all Unknown count flat (inl h) = reaches_all count flat h
    at_all Unknown count flat (inr h) = called_all count flat h
