-- Rows on what a walk asks of an entry, on what was reached since an entering, and on a copy that was discarded.
use Rattle.std.specs.Prelude.{◌≡◌, ℕ, Bool, true, false, List, [], ◌∷◌, map, None, refl}
use Rattle.ak_core.specs.Mem.{access_to}
use Rattle.ak_core.specs.declared.moves.Answer.TheVariants.{Ok}
use Rattle.ak_core.specs.declared.page.Flags.{Flags}
use Rattle.ak_core.specs.declared.page.Kind.TheVariants.{Read, Write, Exec}
use Rattle.ak_model.specs.Paging.Histories.{History}
use Rattle.ak_model.specs.Paging.Holdings.{Gone}
use Rattle.ak_model.specs.Paging.Handles.{place, live}
use Rattle.ak_model.specs.Paging.Walk.{walkable}
use Rattle.ak_model.specs.Tapes.ProgramTurns.{ProgramTurn}
use Rattle.ak_model.specs.Misses.Reached.{reached}
use Rattle.ak_model.proofs.Rows.Samples.{image_a, image_d, none, pxad, setpte, eblock, eldu, discard, eenter}

-- ---- The flags of an entry

-- these flags, as in scripts: present, writable, executable, accessed, dirty
abbrev flags : Bool → Bool → Bool → Bool → Bool → Flags
flags p w x a d = record { p = p; w = w; x = x; a = a; d = d }

-- a page of image D was loaded, and mapped with these flags; whether a walk finds it to read, to write and to execute
abbrev finds : ℕ → Flags → List Bool
finds p fs = map (walkable image_d ((setpte p 8 fs, Ok) ∷ (eldu 8 p p 1 p, Ok) ∷ []) p) (Read ∷ Write ∷ Exec ∷ [])

-- a page of code, with each flag, and with one of them missing
code_flags : map (finds 0) (flags true true true true true ∷ flags false true true true true ∷ flags true false true true true
    ∷ flags true true false true true ∷ flags true true true false true ∷ flags true true true true false ∷ [])
    ≡ (true ∷ false ∷ true ∷ []) ∷ (false ∷ false ∷ false ∷ []) ∷ (true ∷ false ∷ true ∷ [])
    ∷ (true ∷ false ∷ false ∷ []) ∷ (false ∷ false ∷ false ∷ []) ∷ (false ∷ false ∷ false ∷ []) ∷ []
code_flags = refl

-- a page of data, likewise
data_flags : map (finds 1) (flags true true true true true ∷ flags false true true true true ∷ flags true false true true true
    ∷ flags true true false true true ∷ flags true true true false true ∷ flags true true true true false ∷ [])
    ≡ (true ∷ true ∷ false ∷ []) ∷ (false ∷ false ∷ false ∷ []) ∷ (true ∷ false ∷ false ∷ [])
    ∷ (true ∷ true ∷ false ∷ []) ∷ (false ∷ false ∷ false ∷ []) ∷ (false ∷ false ∷ false ∷ []) ∷ []
data_flags = refl

-- the entry must name the frame that holds the page, unblocked
wrong_frame : walkable image_d ((setpte 0 9 pxad, Ok) ∷ (eldu 8 0 0 1 0, Ok) ∷ []) 0 Exec ≡ false
wrong_frame = refl

other_page : walkable image_d ((setpte 0 8 pxad, Ok) ∷ (eldu 8 1 1 1 1, Ok) ∷ []) 0 Exec ≡ false
other_page = refl

blocked : walkable image_d ((eblock 8, Ok) ∷ (setpte 0 8 pxad, Ok) ∷ (eldu 8 0 0 1 0, Ok) ∷ []) 0 Exec ≡ false
blocked = refl

-- ---- What was reached

-- a turn of processor 0 after this history
abbrev turn_after : History → ProgramTurn
turn_after past = record { lp = 0; past = past; count = 0; event = None }

-- found and lost before the entering: not reached
lost_before_entering : reached image_a (turn_after ((eenter 0 0, Ok) ∷ (setpte 0 0 none, Ok) ∷ (setpte 0 8 pxad, Ok) ∷ (eldu 8 0 0 1 0, Ok) ∷ [])) (access_to 0 Exec) ≡ false
lost_before_entering = refl

-- found at the entering and lost after it: reached
lost_after_entering : reached image_a (turn_after ((setpte 0 0 none, Ok) ∷ (eenter 0 0, Ok) ∷ (setpte 0 8 pxad, Ok) ∷ (eldu 8 0 0 1 0, Ok) ∷ [])) (access_to 0 Exec) ≡ true
lost_after_entering = refl

-- found since the entering, but not to write
found_to_execute : reached image_a (turn_after ((eenter 0 0, Ok) ∷ (setpte 0 8 pxad, Ok) ∷ (eldu 8 0 0 1 0, Ok) ∷ [])) (access_to 0 Write) ≡ false
found_to_execute = refl

-- ---- A discarded copy

-- the only copy was discarded: the page is nowhere, and nothing can load it
discarded_copy : place image_a ((discard 0, Ok) ∷ []) 0 ≡ Gone
discarded_copy = refl

discarded_handle : live image_a ((discard 0, Ok) ∷ []) 0 ≡ false
discarded_handle = refl
