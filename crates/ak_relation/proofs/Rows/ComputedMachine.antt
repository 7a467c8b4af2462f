-- The machine of the example after the program completed an instruction: a run of two turns, with a cached translation.
use Rattle.std.proofs.Common.{◌≡◌, ◌+◌, [], ◌∷◌, drop, refl, ap, sym, ◌∙◌, arith}
use Rattle.std.specs.Prelude.{Bool, true, false, ◌||◌, None, ◌==◌, if◌then◌else◌}
use Rattle.ak_core.specs.declared.page.Kind.TheVariants.{Exec}
use Rattle.ak_core.specs.declared.moves.Move.TheVariants.{Run}
use Rattle.ak_core.specs.declared.moves.Answer.{Answer}
use Rattle.ak_core.specs.declared.moves.Exit.{Exit}
use Rattle.ak_core.specs.declared.registers.Regs.{Regs}
use Rattle.ak_model.specs.Flat.Encodings.{decode}
use Rattle.ak_model.specs.Flat.FlatRuns.{Flat, End, line_of, in_first_page, line, end_of, page_bytes}
use Rattle.ak_model.specs.Misses.KeptTranslations.{is_among, same_access}
use Rattle.ak_tlb.specs.Fills.{Fill}
use Rattle.ak_relation.specs.State.MachineState.{Processor, State}
use Rattle.ak_relation.specs.Program.Reaching.{is_filled}
use Rattle.ak_relation.specs.Program.Seeing.{Sees}
use Rattle.ak_relation.specs.Premises.Computing.{Computes}
use Rattle.ak_relation.specs.Relation.Does.{IsTurn, IsMove}
use Rattle.ak_relation.specs.Relation.MoveByMove.{AreMoves}
use Rattle.ak_relation.specs.Relation.Example.{one_page, input_program, computed_past, IsReached}
use Rattle.ak_relation.proofs.Program.ComputedTurns.{computed_turns}
use Rattle.ak_relation.proofs.Runs.WholeRuns.{still_moves}
use Rattle.ak_relation.proofs.Rows.BuiltMachine.{page_valid, outside}
use Rattle.ak_relation.proofs.Rows.ProgramMachine.{begun, begin_reached}
use Rattle.ak_relation.proofs.Rows.StartedMachine.{fetch, first_regs, starting, started, started_whole, start_turn}

-- ---- The instruction

-- the registers after it
abbrev pub next_regs : Regs
next_regs = record first_regs { rip = one_page.base + 1 }

-- what the page's first byte says
decoded : (flat : Flat) → flat.regs ≡ first_regs → in_first_page one_page flat 0 (decode (drop 0 input_program)) ≡ line_of (fetch ∷ []) (End.Next (record flat { regs = next_regs }))
unfolding input_program
decoded flat same = ap (λ (regs : Regs). line_of (fetch ∷ []) (End.Next (record flat { regs = record regs { rip = regs.rip + 1 } }))) same

its_line : (flat : Flat) → flat.regs ≡ first_regs → page_bytes flat 0 ≡ input_program → line one_page flat ≡ line_of (fetch ∷ []) (End.Next (record flat { regs = next_regs }))
its_line flat same bytes =
    ap (λ (regs : Regs). line one_page (record flat { regs = regs })) same
    ∙ ap (λ page. in_first_page one_page (record flat { regs = first_regs }) 0 (decode (drop 0 page))) bytes
    ∙ decoded (record flat { regs = first_regs }) refl

-- ---- The machine

-- what was cached
abbrev pub cached : Fill
cached = record { access = fetch; frame = 8 }

-- the processor
abbrev going : Processor
going = record starting { regs = next_regs; fills = cached ∷ [] }

-- the machine
abbrev pub computed : State
computed = record started { processors = λ lp. if lp == 0 then going else outside; count = 1 }

twice : (b : Bool) → (b || false) ≡ ((b || false) || false)
twice true = refl
twice false = refl

computes : (flat : Flat) → Sees one_page started 0 flat → Computes one_page 0 flat (record flat { regs = next_regs }) started computed
computes flat seen =
    let line_is = its_line flat (sym seen.regs) (sym (seen.walked 0 Exec (omega arith) refl)) in
    record {
      ends = ap (end_of one_page) line_is;
      regs = refl;
      written = λ f p there low own. own;
      frames = λ f none. refl;
      whole = started_whole;
      walked = fetch ∷ [];
      found = refl;
      fills = refl;
      filled = λ t. twice (same_access t fetch) ∙ sym (ap (λ l. is_among l.accesses t || is_filled [] t) line_is);
      inside = refl;
      tcs = refl;
      ssa = refl;
      others = λ q e. ap (λ b. if b then going else outside) e ∙ sym (ap (λ b. if b then starting else outside) e);
      count = refl;
      queue = refl;
      entries = refl;
      stamps = refl;
      track = refl;
      sealed_pages = refl;
      next = refl;
      table = refl;
    }

compute_turn : IsTurn one_page 0 started computed None None
compute_turn = computed_turns one_page 0 started computed refl (λ flat seen. (record flat { regs = next_regs }, computes flat seen))

-- both turns are a run
run_move : IsMove one_page begun computed (Run (record { 0 = 0 }) 2) (Answer.Exit Exit.Still) None
run_move =
    still_moves one_page (record { 0 = 0 }) begun refl refl 2 computed None
    (started, None, None, (begun, None, None, (refl, refl), start_turn, refl), compute_turn, refl)

-- the moves
pub compute_reached : AreMoves one_page input_program computed_past computed []
compute_reached = (begun, [], None, begin_reached, run_move, refl)

-- some machine has cached a translation, and completed an instruction
pub computed_reached : IsReached computed_past []
computed_reached = (computed, record { valid = page_valid; moves = compute_reached })
