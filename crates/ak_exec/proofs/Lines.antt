-- What a line is, by what the fetch found.
use Rattle.std.proofs.Common.{◌≡◌, ℕ, suc, ◌+◌, ◌-◌, ◌*◌, ◌/◌, ◌%◌, ◌<◌, ◌≤◌, List, [], ◌∷◌, ◌++◌, append_assoc, append-nil, take, drop, arith, refl, ap, sym, ◌∙◌, subst}
use Rattle.std.specs.Prelude.{Bool, true, false, nat_le, nat_lt, if◌then◌else◌}
use Rattle.std.proofs.lemmas.Bool.{le-leb}
use Rattle.std.proofs.lemmas.Bool.Decides.{nat_tests}
use Rattle.ak_core.specs.Layout.{Layout}
use Rattle.ak_core.specs.Mem.{Access, access_to}
use Rattle.ak_core.specs.declared.page.Kind.TheVariants.{Exec}
use Rattle.ak_core.specs.declared.registers.Regs.{Regs}
use Rattle.ak_core.specs.declared.instruction.Instr.{Instr}
use Rattle.ak_core.specs.declared.instruction.Decoded.{Decoded}
use Rattle.ak_core.specs.declared.instruction.Decoded.TheVariants.{Whole, NeedMore, Illegal}
use Rattle.ak_model.specs.Paging.Pages.{pages}
use Rattle.ak_model.specs.Flat.Encodings.{decode}
use Rattle.ak_model.specs.Flat.Instructions.{Plan, RaisesVector, Computes, Reads, Writes, CallsOut, plan}
use Rattle.ak_model.specs.Flat.FlatRuns.{Flat, End, Line, Next, Call, Vector, line, line_of, page_at, carry_out, perform, straddling, in_first_page, page_bytes, rest_of_page}
use Rattle.ak_exec.specs.Turns.{Shows, Refuses, DoesLine, Performs}
use Rattle.ak_exec.specs.declared.turn.Turn.{Turn}
use Rattle.ak_exec.specs.Carried.{CarriesOut}
use Rattle.ak_exec.specs.Fetches.{Finds, Crosses, found_in}
use Rattle.ak_exec.specs.declared.fetching.Fetched.{Fetched}
use Rattle.ak_exec.specs.declared.fetching.Fetched.TheVariants.{Found, Raised, Refused}
use Rattle.ak_exec.proofs.Windows.{by_window, with_more}

-- ---- Where RIP is in the program

line-inside : (layout : Layout) (flat : Flat) → layout.base ≤ flat.regs.rip → flat.regs.rip - layout.base < 4096 * pages layout → line layout flat ≡ in_first_page layout flat (page_at layout flat.regs.rip) (decode (rest_of_page layout flat (page_at layout flat.regs.rip)))
line-inside layout flat low high =
    let a : nat_le layout.base flat.regs.rip ≡ true = le-leb _ _ low in
    let b : nat_le (flat.regs.rip + 1) (layout.base + 4096 * pages layout) ≡ true = le-leb _ _ (omega arith) in
    rw (a, b) refl

-- the line, by what is decoded of the first page from this RIP on
line-at : (layout : Layout) (flat : Flat) (rip base : ℕ) (d : Decoded) → base ≡ layout.base → flat.regs.rip ≡ rip → base ≤ rip → rip - base < 4096 * pages layout → d ≡ decode (drop ((rip - base) % 4096) (page_bytes flat ((rip - base) / 4096))) → line layout flat ≡ in_first_page layout flat ((rip - base) / 4096) d
line-at layout flat rip base d b r low high e =
    let far : flat.regs.rip - layout.base ≡ rip - base = omega arith in
    line-inside layout flat (omega arith) (omega arith)
    ∙ ap (λ n. in_first_page layout flat (n / 4096) (decode (drop (n % 4096) (page_bytes flat (n / 4096))))) far
    ∙ ap (in_first_page layout flat ((rip - base) / 4096)) (sym e)

-- the line, by the window that was read of the first page
pub first_line : (layout : Layout) (flat : Flat) (rip base : ℕ) (d : Decoded) (page window : List ℕ) → base ≡ layout.base → flat.regs.rip ≡ rip → base ≤ rip → rip - base < 4096 * pages layout → page ≡ page_bytes flat ((rip - base) / 4096) → window ≡ take 10 (drop ((rip - base) % 4096) page) → d ≡ decode window → line layout flat ≡ in_first_page layout flat ((rip - base) / 4096) d
first_line layout flat rip base d page window b r low high p w e =
    let offset = (rip - base) % 4096 in let n = (rip - base) / 4096 in
    line-at layout flat rip base d b r low high
    (by_window window (drop offset page) d e w ∙ ap (λ xs. decode (drop offset xs)) p)

-- ---- Where the bytes of the first page are not enough

pub at_the_end : (layout : Layout) (flat : Flat) (p : ℕ) → pages layout ≤ p + 1 → in_first_page layout flat p NeedMore ≡ line_of (access_to p Exec ∷ []) (Vector 13)
at_the_end layout flat p h =
    let no : nat_lt (suc p) (pages layout) ≡ false = grind (arith, nat_tests) in rw no refl

going_on : (layout : Layout) (flat : Flat) (p : ℕ) → p + 1 < pages layout → in_first_page layout flat p NeedMore ≡ straddling layout flat (access_to p Exec ∷ access_to (p + 1) Exec ∷ []) (decode (rest_of_page layout flat p ++ page_bytes flat (p + 1)))
going_on layout flat p h =
    let yes : nat_lt (suc p) (pages layout) ≡ true = grind (arith, nat_tests) in
    let next : suc p ≡ p + 1 = omega arith in
    rw yes (ap (λ q. straddling layout flat (access_to p Exec ∷ access_to q Exec ∷ []) (decode (rest_of_page layout flat p ++ page_bytes flat q))) next)

-- ---- The accesses of a line begin with those of its fetch

-- a list begins with another
abbrev Begins : List Access → List Access → Type 0
Begins all front = (rest : List Access) × (all ≡ front ++ rest)

nothing_more : (front : List Access) → Begins front front
nothing_more front = ([], sym (append-nil front))

operand_begins : (b : Bool) (accesses more : List Access) (end other : End) → Begins (if b then line_of (accesses ++ more) end else line_of accesses other).accesses accesses
operand_begins true accesses more end other = (more, refl)
operand_begins false accesses more end other = nothing_more accesses

carry_begins : (layout : Layout) (flat : Flat) (accesses : List Access) (p : Plan) → Begins (carry_out layout flat accesses p).accesses accesses
carry_begins layout flat accesses (RaisesVector v) = nothing_more accesses
carry_begins layout flat accesses (Computes regs) = nothing_more accesses
carry_begins layout flat accesses (CallsOut b a regs) = nothing_more accesses
carry_begins layout flat accesses (Reads address count regs) = operand_begins _ accesses _ _ _
carry_begins layout flat accesses (Writes address new regs) = operand_begins _ accesses _ _ _

straddling_begins : (layout : Layout) (flat : Flat) (accesses : List Access) (d : Decoded) → Begins (straddling layout flat accesses d).accesses accesses
straddling_begins layout flat accesses (Whole instr size) = carry_begins layout flat accesses _
straddling_begins layout flat accesses NeedMore = nothing_more accesses
straddling_begins layout flat accesses Illegal = nothing_more accesses

needing_begins : (b : Bool) (layout : Layout) (flat : Flat) (t u : Access) (d : Decoded) (end : End) → Begins (if b then straddling layout flat (t ∷ u ∷ []) d else line_of (t ∷ []) end).accesses (t ∷ [])
needing_begins true layout flat t u d end = let more = straddling_begins layout flat (t ∷ u ∷ []) d in (u ∷ more.0, more.1)
needing_begins false layout flat t u d end = nothing_more (t ∷ [])

first_begins : (layout : Layout) (flat : Flat) (p : ℕ) (d : Decoded) → Begins (in_first_page layout flat p d).accesses (access_to p Exec ∷ [])
first_begins layout flat p (Whole instr size) = carry_begins layout flat (access_to p Exec ∷ []) _
first_begins layout flat p Illegal = nothing_more (access_to p Exec ∷ [])
first_begins layout flat p NeedMore = needing_begins _ layout flat (access_to p Exec) _ _ _

refuses : (l : Line) (front granted : List Access) (fault t : Access) → granted ≡ front → fault ≡ t → Begins l.accesses (front ++ t ∷ []) → Refuses l fault granted
refuses l front granted fault t g f more = record {
  rest = more.0;
  next = more.1 ∙ append_assoc front (t ∷ []) more.0 ∙ ap (λ xs. xs ++ t ∷ more.0) (sym g) ∙ ap (λ u. granted ++ u ∷ more.0) (sym f);
}

-- the first access is refused
pub first_refused : (layout : Layout) (flat : Flat) (rip base : ℕ) (granted : List Access) (fault : Access) → base ≡ layout.base → flat.regs.rip ≡ rip → base ≤ rip → rip - base < 4096 * pages layout → granted ≡ [] → fault ≡ access_to ((rip - base) / 4096) Exec → Refuses (line layout flat) fault granted
first_refused layout flat rip base granted fault b r low high g f =
    let p = (rip - base) / 4096 in
    let d = decode (drop ((rip - base) % 4096) (page_bytes flat p)) in
    refuses (line layout flat) [] granted fault (access_to p Exec) g f
    (subst (λ l. Begins l.accesses (access_to p Exec ∷ [])) (sym (line-at layout flat rip base d b r low high refl)) (first_begins layout flat p d))

-- ---- The instruction goes on in the next page

line_found : Layout → Flat → List Access → Fetched → Line
line_found layout flat accesses (Found instr size) = perform layout flat accesses instr size
line_found layout flat accesses (Raised vector) = line_of accesses (Vector vector)
line_found layout flat accesses (Refused fault) = line_of accesses (Vector 0)

straddling_found : (layout : Layout) (flat : Flat) (accesses : List Access) (d : Decoded) → straddling layout flat accesses d ≡ line_found layout flat accesses (found_in d)
unfolding line_found
straddling_found layout flat accesses (Whole instr size) = refl
straddling_found layout flat accesses NeedMore = refl
straddling_found layout flat accesses Illegal = refl

-- what was found over both pages
pub across : (layout : Layout) (flat : Flat) (p : ℕ) (result : Fetched) (bytes all : List ℕ) (holds : ℕ → Bool) (before after : List Access) → line layout flat ≡ straddling layout flat (access_to p Exec ∷ access_to (p + 1) Exec ∷ []) (decode all) → (holds (p + 1) ≡ true → decode bytes ≡ decode all) → before ≡ access_to p Exec ∷ [] → Crosses (access_to (p + 1) Exec) bytes result holds before after → Finds layout flat result after
unfolding line_found
across layout flat p (Found instr size) bytes all holds before after l d b h =
    l ∙ straddling_found layout flat (access_to p Exec ∷ access_to (p + 1) Exec ∷ []) (decode all)
    ∙ ap (λ x. line_found layout flat (access_to p Exec ∷ access_to (p + 1) Exec ∷ []) (found_in x)) (sym (d h.held))
    ∙ ap (line_found layout flat (access_to p Exec ∷ access_to (p + 1) Exec ∷ [])) (sym h.decoded)
    ∙ ap (λ ts. perform layout flat ts instr size) (sym (h.granted ∙ ap (λ ts. ts ++ access_to (p + 1) Exec ∷ []) b))
across layout flat p (Raised vector) bytes all holds before after l d b h =
    l ∙ straddling_found layout flat (access_to p Exec ∷ access_to (p + 1) Exec ∷ []) (decode all)
    ∙ ap (λ x. line_found layout flat (access_to p Exec ∷ access_to (p + 1) Exec ∷ []) (found_in x)) (sym (d h.held))
    ∙ ap (line_found layout flat (access_to p Exec ∷ access_to (p + 1) Exec ∷ [])) (sym h.decoded)
    ∙ ap (λ ts. line_of ts (Vector vector)) (sym (h.granted ∙ ap (λ ts. ts ++ access_to (p + 1) Exec ∷ []) b))
across layout flat p (Refused fault) bytes all holds before after l d b h =
    refuses (line layout flat) (access_to p Exec ∷ []) after fault (access_to (p + 1) Exec) (h.granted ∙ b) h.fault
    (subst (λ x. Begins x.accesses (access_to p Exec ∷ access_to (p + 1) Exec ∷ [])) (sym l) (straddling_begins layout flat (access_to p Exec ∷ access_to (p + 1) Exec ∷ []) (decode all)))

-- the line over both pages, by what was read of them
pub next_line : (layout : Layout) (flat : Flat) (rip base : ℕ) (result : Fetched) (page window more : List ℕ) (holds : ℕ → Bool) (before after : List Access) → base ≡ layout.base → flat.regs.rip ≡ rip → base ≤ rip → rip - base < 4096 * pages layout → (rip - base) / 4096 + 1 < pages layout → page ≡ page_bytes flat ((rip - base) / 4096) → window ≡ take 10 (drop ((rip - base) % 4096) page) → (holds ((rip - base) / 4096 + 1) ≡ true → more ≡ page_bytes flat ((rip - base) / 4096 + 1)) → NeedMore ≡ decode window → before ≡ access_to ((rip - base) / 4096) Exec ∷ [] → Crosses (access_to ((rip - base) / 4096 + 1) Exec) (window ++ more) result holds before after → Finds layout flat result after
next_line layout flat rip base result page window more holds before after b r low high next p w m e g h =
    let n = (rip - base) / 4096 in let offset = (rip - base) % 4096 in
    let far : (flat.regs.rip - layout.base) % 4096 ≡ offset = omega arith in
    let rest : rest_of_page layout flat n ≡ drop offset page = ap (λ k. drop k (page_bytes flat n)) far ∙ ap (drop offset) (sym p) in
    across layout flat n result (window ++ more) (rest_of_page layout flat n ++ page_bytes flat (n + 1)) holds before after
    (first_line layout flat rip base NeedMore page window b r low high p w e ∙ going_on layout flat n next)
    (λ held. with_more window (drop offset page) more w ∙ ap (λ xs. decode (drop offset page ++ xs)) (m held) ∙ ap (λ xs. decode (xs ++ page_bytes flat (n + 1))) (sym rest))
    g h

-- ---- A plan that asks nothing of memory

-- it is carried out as the line says
pub carried_out : (layout : Layout) (flat : Flat) (accesses : List Access) (p : Plan) (turn : Turn) (old new : Regs) (holds : ℕ → Bool) (bytes : ℕ → List ℕ) → Shows layout holds bytes flat → Performs p turn old new → DoesLine layout (carry_out layout flat accesses p) turn new holds bytes accesses
carried_out layout flat accesses (RaisesVector v) turn old new holds bytes s h =
    subst (λ t. DoesLine layout (line_of accesses (Vector v)) t new holds bytes accesses) (sym h.0) (record { all = refl; ends = refl })
carried_out layout flat accesses (Computes regs) turn old new holds bytes s h =
    subst (λ t. DoesLine layout (line_of accesses (Next (record flat { regs = regs }))) t new holds bytes accesses) (sym h.0)
    (record { all = refl; after = record flat { regs = regs }; ends = refl; registers = sym h.1; shows = s })
carried_out layout flat accesses (CallsOut b a regs) turn old new holds bytes s h =
    subst (λ t. DoesLine layout (line_of accesses (Call b a (record flat { regs = regs }))) t new holds bytes accesses) (sym h.0)
    (record { all = refl; after = record flat { regs = regs }; ends = refl; registers = sym h.1; shows = s })
carried_out layout flat accesses (Reads address count regs) turn old new holds bytes s h = absurd h
carried_out layout flat accesses (Writes address new_bytes regs) turn old new holds bytes s h = absurd h

-- an instruction that was found is performed as its line says
pub performed : (layout : Layout) (flat : Flat) (before after : List Access) (instr : Instr) (size : ℕ) (turn : Turn) (old new : Regs) (holds : ℕ → Bool) (bytes_old bytes_new : ℕ → List ℕ) → flat.regs ≡ old → Shows layout holds bytes_old flat → line layout flat ≡ perform layout flat before instr size → CarriesOut layout (plan instr (record old { rip = old.rip + size })) turn new holds bytes_old bytes_new before after → DoesLine layout (line layout flat) turn new holds bytes_new after
performed layout flat before after instr size turn old new holds bytes_old bytes_new e s l h =
    subst (λ x. DoesLine layout x turn new holds bytes_new after) (sym l)
    (subst (λ (r : Regs). DoesLine layout (carry_out layout flat before (plan instr (record r { rip = r.rip + size }))) turn new holds bytes_new after) (sym e) (h flat s))
