-- The rules of a well-behaved kernel, each broken alone; and what is kept, at the edges of the rule of replacement.
use Rattle.std.specs.Prelude.{◌≡◌, ℕ, Bool, true, false, List, [], ◌∷◌, map, replicate, Option, Some, None, refl}
use Rattle.std.specs.List.{list_all}
use Rattle.ak_core.specs.Mem.{access_to}
use Rattle.ak_core.specs.declared.event.Event.{Event}
use Rattle.ak_core.specs.declared.event.Event.TheVariants.{Miss, Trap, Break, Call}
use Rattle.ak_core.specs.declared.moves.Move.{Move}
use Rattle.ak_core.specs.declared.page.Kind.TheVariants.{Read, Write, Exec}
use Rattle.ak_model.specs.Flat.FlatRuns.{flat_run}
use Rattle.ak_model.specs.Tapes.Tape.{is_tape}
use Rattle.ak_model.specs.Misses.KeptTranslations.{granted_before, is_kept}
use Rattle.ak_model.specs.Control.ControlState.{Context, Program, Enter}
use Rattle.ak_model.specs.Control.Moments.{moments}
use Rattle.ak_model.specs.Kernels.KernelRules.{keeps_mapped, keeps_fetched}
use Rattle.ak_model.specs.Kernels.Evictions.{keeps_out}
use Rattle.ak_model.proofs.Rows.Samples.{image_a, image_d, none, pad, pwad, pxad, setpte, eblock, eldu, eenter, run, interrupt}
use Rattle.ak_model.proofs.Rows.WorkedFlat.{image_b, bytes_b}

-- ---- What is to be mapped while a processor is inside

-- a page is mapped to nothing, while a processor is inside
abbrev unmapped_inside : ℕ → Bool
unmapped_inside p = list_all (keeps_mapped image_a) (moments image_a [] (setpte p 0 none ∷ eenter 0 0 ∷ []))

-- the program's page, whose cluster is out, may be so; the TCS, the saved-state areas, STATE and CODE may not
each_page : map unmapped_inside (0 ∷ 1 ∷ 2 ∷ 3 ∷ 4 ∷ 5 ∷ 6 ∷ []) ≡ true ∷ replicate 6 false
each_page = refl

-- while nobody is inside each may be so
abbrev unmapped_outside : ℕ → Bool
unmapped_outside p = list_all (keeps_mapped image_a) (moments image_a [] (setpte p 0 none ∷ interrupt 0 ∷ eenter 0 0 ∷ []))

each_page_outside : map unmapped_outside (0 ∷ 1 ∷ 2 ∷ 3 ∷ 4 ∷ 5 ∷ 6 ∷ []) ≡ replicate 7 true
each_page_outside = refl

-- a saved-state area is to be writable, and CODE executable; a blocked page is not mapped
abbrev kept_after : Move → Bool
kept_after move = list_all (keeps_mapped image_a) (moments image_a [] (move ∷ eenter 0 0 ∷ []))

for_all_it_allows : map kept_after (setpte 2 3 pad ∷ setpte 2 3 pwad ∷ setpte 6 7 pad ∷ setpte 6 7 pxad ∷ eblock 2 ∷ eblock 3 ∷ eblock 8 ∷ []) ≡ false ∷ true ∷ false ∷ true ∷ false ∷ false ∷ true ∷ []
for_all_it_allows = refl

-- ---- What is to be mapped while it is probed

-- the moves up to the entering after an ask, the newest first
abbrev back : List Move
back = eenter 0 0 ∷ setpte 1 9 pwad ∷ setpte 0 8 pxad ∷ eldu 9 1 1 1 1 ∷ eldu 8 0 0 1 0 ∷ run 0 9 ∷ eenter 0 0 ∷ run 0 9 ∷ eenter 0 0 ∷ []

-- the first page of the asked cluster is lost after so many turns
abbrev lost_after : ℕ → Bool
lost_after n = list_all (keeps_fetched image_d) (moments image_d (Miss 0 0 ∷ []) (setpte 0 0 none ∷ run 0 n ∷ back))

-- it is to be mapped until the last of the two was probed
until_probed : map lost_after (0 ∷ 1 ∷ 2 ∷ 3 ∷ []) ≡ false ∷ false ∷ false ∷ true ∷ []
until_probed = refl

-- ---- What is to be out

-- the program's page is mapped for this kind while its cluster is out, and a processor is inside or not
abbrev out_inside : Bool
out_inside = list_all (keeps_out image_a) (moments image_a [] (eenter 0 0 ∷ setpte 0 8 pad ∷ eldu 8 0 0 1 0 ∷ []))

abbrev out_outside : Bool
out_outside = list_all (keeps_out image_a) (moments image_a [] (setpte 0 8 pad ∷ eldu 8 0 0 1 0 ∷ []))

out_rows : out_inside ∷ out_outside ∷ [] ≡ false ∷ true ∷ []
out_rows = refl

-- ---- Moments

-- the context of the processor inside at each moment, the newest first: after the build, after each move, and before each turn of
-- a run, which are fewer where the run leaves
abbrev contexts : List Event → List Move → List (Option Context)
contexts tape moves = map (λ moment. moment.control.now) (moments image_a tape moves)

each_moment : contexts (Miss 1 0 ∷ []) (run 0 2 ∷ run 0 9 ∷ eenter 0 5 ∷ []) ≡ None ∷ None ∷ Some Program ∷ Some Program ∷ Some (Enter 0 5) ∷ Some (Enter 0 5) ∷ None ∷ []
each_moment = refl

-- ---- What is kept

-- five accesses whose pages differ by 8 have two remainders, and all are kept
apart_by_eight : is_kept (access_to 1 Exec ∷ access_to 9 Read ∷ access_to 17 Read ∷ access_to 25 Read ∷ access_to 33 Read ∷ []) (access_to 17 Read) ≡ true
apart_by_eight = refl

-- five of the first remainder, and five of the last
first_remainder : is_kept (access_to 0 Exec ∷ access_to 16 Read ∷ access_to 32 Read ∷ access_to 48 Read ∷ access_to 64 Read ∷ []) (access_to 16 Read) ≡ false
first_remainder = refl

last_remainder : is_kept (access_to 15 Exec ∷ access_to 31 Read ∷ access_to 47 Read ∷ access_to 63 Read ∷ access_to 79 Read ∷ []) (access_to 31 Read) ≡ false
last_remainder = refl

-- the accesses that stand before in the turn's own instruction were granted
own_line : granted_before image_b (flat_run image_b bytes_b []) (record { lp = 0; past = []; count = 0; event = None }) [] 3 ≡ access_to 0 Exec ∷ access_to 1 Exec ∷ access_to 2 Write ∷ []
unfolding image_b bytes_b
own_line = refl

-- ---- Tapes

-- misses of one count follow one another; what comes after a call has a greater count
tapes : map is_tape ((Miss 3 0 ∷ Miss 3 1 ∷ Call 3 1 7 ∷ Miss 4 0 ∷ Trap 4 6 ∷ []) ∷ (Miss 3 0 ∷ Break 3 ∷ []) ∷ (Call 3 5 0 ∷ Call 4 0 0 ∷ []) ∷ []) ≡ true ∷ true ∷ true ∷ []
tapes = refl

-- counts fall, or do not grow past a call
falling : map is_tape ((Miss 3 0 ∷ Miss 2 1 ∷ []) ∷ (Call 3 1 7 ∷ Miss 3 0 ∷ []) ∷ (Call 3 1 7 ∷ Call 3 1 7 ∷ []) ∷ []) ≡ false ∷ false ∷ false ∷ []
falling = refl

-- something follows the end: a trap, a break, or a call with number 0
after_end : map is_tape ((Trap 3 6 ∷ Miss 4 0 ∷ []) ∷ (Break 3 ∷ Miss 4 0 ∷ []) ∷ (Call 3 0 0 ∷ Miss 4 0 ∷ []) ∷ []) ≡ false ∷ false ∷ false ∷ []
after_end = refl
