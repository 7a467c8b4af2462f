-- The machine of the example after its build.
use Rattle.std.proofs.Common.{◌≡◌, ℕ, zero, suc, ◌+◌, ◌*◌, ◌<◌, List, [], ◌∷◌, ◌++◌, length, take, refl, ap, sym, ◌∙◌, subst, arith}
use Rattle.std.proofs.lemmas.Bool.Decides.{nat_tests}
use Rattle.std.proofs.lemmas.List.{length-replicate, take_all}
use Rattle.std.proofs.lemmas.List.Elements.{All-cons, All-replicate}
use Rattle.std.specs.Prelude.{Bool, true, false, ◌&&◌, nat_lt, replicate, Option, Some, None, ◌==◌, if◌then◌else◌}
use Rattle.ak_core.specs.Layout.{IsValid, enclave_size}
use Rattle.ak_core.specs.declared.page.Entry.{Entry}
use Rattle.ak_core.specs.declared.page.PageType.{PageType}
use Rattle.ak_core.specs.declared.page.PageType.TheVariants.{Secs, Tcs, Reg, Va}
use Rattle.ak_core.specs.declared.registers.Mode.{Mode}
use Rattle.ak_model.specs.Paging.Pages.{pages}
use Rattle.ak_model.specs.Paging.Build.{entry_at_build}
use Rattle.ak_model.specs.Paging.Holdings.{FreeFrame, VaFrame}
use Rattle.ak_model.specs.Paging.Frames.{held}
use Rattle.ak_model.specs.Paging.Handles.{slot, live, page_of}
use Rattle.ak_model.specs.Flat.FlatRuns.{zeroed, page_bytes}
use Rattle.ak_model.proofs.Paging.OneCopy.{one_copy}
use Rattle.ak_epcm.specs.Entries.{entry_at}
use Rattle.ak_walk.specs.Agrees.{EntryAgrees}
use Rattle.ak_relation.specs.Program.FlatFits.{AreBytes}
use Rattle.ak_relation.specs.State.MachineState.{Processor, State}
use Rattle.ak_pager.specs.RuntimePages.{OfCopy}
use Rattle.ak_model.specs.Flat.Instructions.{number_at}
use Rattle.ak_sealed.specs.SealedPages.{SealedPage, version}
use Rattle.ak_relation.specs.State.Tables.{SealedPageAgrees, TablesStand}
use Rattle.ak_relation.specs.Premises.Built.{first_state, IsBuilt}
use Rattle.ak_relation.specs.Relation.Stands.{copies_at}
use Rattle.ak_relation.specs.Relation.Example.{one_page, input_program, built_past, IsReached}
use Rattle.ak_relation.proofs.Rows.BlankPages.{blank, blank_at, blank_whole, one_slot, one_slot_whole, first_slot, other_slots}

-- the layout is valid
pub page_valid : IsValid one_page
unfolding enclave_size
page_valid = record {
  clustered = refl;
  numbered = refl;
  some_page = omega arith;
  few_pages = omega arith;
  aligned = refl;
  low = omega arith;
  entered = omega arith;
  large_budget = omega arith;
  small_budget = omega arith;
  some_frames = omega arith;
  few_frames = omega arith;
  some_lp = omega arith;
  few_lps = omega arith;
}

-- ---- The EPCM

-- an entry in use
abbrev pub in_use : PageType → ℕ → Bool → Bool → Bool → Entry
in_use kind p r w x = record { valid = true; kind = kind; page = record { 0 = p }; r = r; w = w; x = x; blocked = false }

-- the SECS, the VA page, the TCS, the areas, STATE and CODE
abbrev pub built_entries : List Entry
built_entries =
    in_use Secs 0 false false false ∷ in_use Va 0 false false false ∷ in_use Tcs 1 false false false ∷ in_use Reg 2 true true false
    ∷ in_use Reg 3 true true false ∷ in_use Reg 4 true true false ∷ in_use Reg 5 true true false ∷ in_use Reg 6 true false true ∷ []

free_later : (f : ℕ) → held one_page [] (suc (suc (suc (suc (suc (suc (suc (suc f)))))))) ≡ FreeFrame
free_later f = grind (arith, nat_tests)

agrees : (f : ℕ) → EntryAgrees one_page (entry_at built_entries f) (held one_page [] f) None
agrees zero = record { valid = refl; kind = refl }
agrees (suc zero) = record { valid = refl; kind = refl }
agrees (suc (suc zero)) =
    record { valid = refl; kind = refl; page = refl; readable = λ n. absurd (n refl); writable = λ n. absurd (n refl); executable = λ n. absurd (n refl); blocked = refl }
agrees (suc (suc (suc zero))) = record { valid = refl; kind = refl; page = refl; readable = λ n. refl; writable = λ n. refl; executable = λ n. refl; blocked = refl }
agrees (suc (suc (suc (suc zero)))) = record { valid = refl; kind = refl; page = refl; readable = λ n. refl; writable = λ n. refl; executable = λ n. refl; blocked = refl }
agrees (suc (suc (suc (suc (suc zero))))) = record { valid = refl; kind = refl; page = refl; readable = λ n. refl; writable = λ n. refl; executable = λ n. refl; blocked = refl }
agrees (suc (suc (suc (suc (suc (suc zero)))))) = record { valid = refl; kind = refl; page = refl; readable = λ n. refl; writable = λ n. refl; executable = λ n. refl; blocked = refl }
agrees (suc (suc (suc (suc (suc (suc (suc zero))))))) = record { valid = refl; kind = refl; page = refl; readable = λ n. refl; writable = λ n. refl; executable = λ n. refl; blocked = refl }
agrees (suc (suc (suc (suc (suc (suc (suc (suc f)))))))) =
    subst (λ h. EntryAgrees one_page (entry_at built_entries (suc (suc (suc (suc (suc (suc (suc (suc f))))))))) h None) (sym (free_later f)) refl

-- ---- Frames

-- the VA page in frame 1; all other pages are blank
abbrev pub built_frames : ℕ → List ℕ
built_frames f = if f == 1 then one_slot else blank

pub built_whole : (f : ℕ) → length (built_frames f) ≡ 4096
built_whole f = by (f == 1)
  where
    by : (b : Bool) → length (if b then one_slot else blank) ≡ 4096
    by true = one_slot_whole
    by false = blank_whole

only_va : (va : ℕ) → held one_page [] va ≡ VaFrame → va ≡ 1
only_va va h = grind (arith, nat_tests)

at_slot : (i : ℕ) → number_at one_slot (8 * i) 8 ≡ version (slot one_page [] 1 i)
at_slot zero = first_slot
at_slot (suc j) = let late : nat_lt (suc j) 1 ≡ false = grind (arith, nat_tests) in other_slots j ∙ sym (rw late refl)

-- ---- The sealed page

-- the program's page
abbrev pub program_sealed : SealedPage
program_sealed = record { kind = Reg; page = 0; r = true; w = false; x = true; bytes = input_program }

-- by its handle
abbrev pub built_sealed : ℕ → Option SealedPage
built_sealed k = if k == 0 then Some program_sealed else None

pub image_whole : length input_program ≡ 4096
unfolding input_program
image_whole = ap (λ n. 26 + n) (length-replicate {A = ℕ} 4070 144)

-- each is a byte
abbrev all_bytes : List ℕ → Bool
all_bytes [] = true
all_bytes (v ∷ vs) = nat_lt v 256 && all_bytes vs

are_bytes : (vs rest : List ℕ) → all_bytes vs ≡ true → AreBytes rest → AreBytes (vs ++ rest)
are_bytes [] rest t all = all
are_bytes (v ∷ vs) rest t all = by (nat_lt v 256) refl t (are_bytes vs rest)
  where
    by : (b : Bool) → nat_lt v 256 ≡ b → (b && all_bytes vs) ≡ true → (all_bytes vs ≡ true → AreBytes rest → AreBytes (vs ++ rest)) → AreBytes (v ∷ vs ++ rest)
    by true e t later = let low : v < 256 = grind (arith, nat_tests) in All-cons (λ v. v < 256) v (vs ++ rest) low (later t all)
    by false e t later = absurd (cc)

image_bytes : AreBytes input_program
unfolding input_program
image_bytes = are_bytes (take 26 input_program) (replicate 4070 0x90) refl (All-replicate (λ v. v < 256) 4070 0x90 (omega arith))

seals : (k : ℕ) → SealedPageAgrees one_page (built_sealed k) (live one_page [] k) (page_of one_page [] k)
seals zero = (refl, record { page = refl; kind = refl; readable = λ n. refl; writable = λ n. refl; executable = λ n. refl; whole = image_whole })
seals (suc k) =
    let other : (suc k == 0) ≡ false = grind (arith, nat_tests) in
    let gone : live one_page [] (suc k) ≡ false = grind (arith, nat_tests) in
    subst (λ b. SealedPageAgrees one_page (if b then Some program_sealed else None) (live one_page [] (suc k)) (suc k)) (sym other) gone

-- ---- The machine

-- a processor that is outside
abbrev pub outside : Processor
outside = record { inside = false; regs = record (zeroed 0) { mode = Mode.Program }; tcs = 0; ssa = 0; fills = [] }

-- the machine
abbrev pub built : State
built = record {
  entries = built_entries;
  stamps = λ f. 0;
  track = [];
  frames = built_frames;
  sealed_pages = built_sealed;
  next = 1;
  table = entry_at_build one_page;
  processors = λ lp. outside;
  count = 0;
  queue = [];
}

tables : TablesStand one_page [] built
tables = record {
  entries = record { entry = agrees };
  slots = record { versions = λ va i h lt. subst (λ f. number_at (built_frames f) (8 * i) 8 ≡ version (slot one_page [] f i)) (sym (only_va va h)) (at_slot i) };
  sealed_pages = record { sealed_page = seals; numbered = refl };
  mapping = record { mapped = λ p lt. refl };
  presence = record { within = λ lp. refl };
  tracking = record { built = 0; steps_are = refl; stamped = λ f s e. absurd (cc) };
  frames = record { whole = built_whole };
  one_copy = one_copy one_page [] [];
}

program : (p : ℕ) → p < pages one_page → OfCopy (copies_at one_page [] built p) (λ bytes. bytes ≡ page_bytes (first_state one_page input_program) p)
program zero lt = sym (take_all 4096 input_program (let all : length input_program ≡ 4096 = image_whole in omega arith))
program (suc p) lt = absurd (omega arith)

-- the build
pub is_built : IsBuilt one_page input_program built
is_built = record {
  bytes = image_bytes;
  whole = image_whole;
  tables = tables;
  pages = record {
    tcs = record { saved_is = blank_at 24 4; pending_is = blank_at 72 1 };
    areas = tt;
    state = record { phase_is = blank_at 0 8; more = tt; size = blank_at 24 8; clusters = λ i c e. absurd (cc); kept = tt };
    program = program;
  };
  count = refl;
  queue = refl;
  outside = λ lp. refl;
  flushed = λ lp. refl;
}

-- some machine is built
pub built_reached : IsReached built_past []
built_reached = (built, record { valid = page_valid; moves = (is_built, refl) })
