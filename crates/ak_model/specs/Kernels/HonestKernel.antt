-- The honest kernel: its next move, from the moves and answers so far.
use Rattle.std.specs.Prelude.{◌≡◌, ℕ, ◌-◌, Bool, true, false, not, List, [], ◌∷◌, find, count_by, flat_map, Option, Some, None, is_some, is_none, slice_index, ◌==◌, if◌then◌else◌}
use Rattle.std.specs.List.{range_with_len, list_any}
use Rattle.ak_core.specs.Layout.{Layout}
use Rattle.ak_core.specs.declared.event.Event.{Event}
use Rattle.ak_core.specs.declared.moves.Exit.{Exit}
use Rattle.ak_core.specs.declared.moves.Exit.TheVariants.{Call, Stopped, Ended, Trapped}
use Rattle.ak_core.specs.declared.moves.Move.{Move}
use Rattle.ak_core.specs.declared.moves.Move.TheVariants.{SetPte, Eblock, Etrack, Ewb, Eldu, Eenter, Eresume, Run}
use Rattle.ak_model.specs.Paging.Pages.{pages_of, perm_of, strong_flags, no_flags}
use Rattle.ak_model.specs.Paging.Holdings.{is_page_in, is_free, Place, InFrame}
use Rattle.ak_model.specs.Paging.Histories.{History, Change, change_of, WritesOut, Exits}
use Rattle.ak_model.specs.Paging.Frames.{held, blocked_at}
use Rattle.ak_model.specs.Paging.Handles.{place}
use Rattle.ak_model.specs.Paging.PageTable.{pte}
use Rattle.ak_model.specs.Paging.Inside.{inside, processors}
use Rattle.ak_model.specs.Paging.Tracking.{tracked}
use Rattle.ak_model.specs.Control.Trace.{trace}
use Rattle.ak_model.specs.Kernels.Counted.{saved_count, is_pending, Request, service}
use Rattle.ak_model.specs.Kernels.KernelRules.{is_mapped}
use Rattle.ak_model.specs.Kernels.Repeats.{unless_refused}

-- ---- What the kernel has seen

-- an exit after which there is nothing to do
abbrev pub is_end : Exit → Bool
is_end (Ended s) = true
is_end (Trapped v) = true
is_end Stopped = true
is_end _ = false

-- a change by such an exit
abbrev pub ends : Change → Bool
ends (Exits lp exit) = is_end exit
ends _ = false

-- the program has ended, or the enclave has stopped
abbrev pub is_ended : History → Bool
is_ended past = list_any (λ pair. ends (change_of pair)) past

-- a call with number 2, which asks for an input
abbrev pub is_input : Exit → Bool
is_input (Call b a) = b == 2
is_input _ = false

-- the change is such a call
abbrev pub asks_input : Change → Bool
asks_input (Exits lp exit) = is_input exit
asks_input _ = false

-- how often the program asked for an input
abbrev pub inputs_asked : History → ℕ
inputs_asked past = count_by (λ pair. asks_input (change_of pair)) past

-- whether the last exit asked for an input, after one more change
abbrev pub input_after : Change → Bool → Bool
input_after (Exits lp exit) before = is_input exit
input_after _ before = before

-- the last exit asked for an input
abbrev pub last_exit_is_input : History → Bool
last_exit_is_input [] = false
last_exit_is_input (pair ∷ past) = input_after (change_of pair) (last_exit_is_input past)

-- the value to enter with: the next input after a call for one, and 0 else
abbrev pub next_value : History → List ℕ → ℕ
next_value past inputs = if last_exit_is_input past then slice_index inputs (inputs_asked past - 1) else 0

-- where a page's newest sealed copy is
pub record Copy : Type 0 where
  pub handle : ℕ
  pub va : ℕ
  pub slot : ℕ

-- the newest copy after one more change
abbrev pub copy_after : Layout → History → Change → ℕ → Copy → Copy
copy_after layout past (WritesOut f va i k) p before =
    if is_page_in (held layout past f) p then record { handle = k; va = va; slot = i } else before
copy_after layout past _ p before = before

-- the page's newest sealed copy: that of its last write-out, or else the one of the build
abbrev pub newest_copy : Layout → History → ℕ → Copy
newest_copy layout [] p = record { handle = p; va = 1; slot = p }
newest_copy layout (pair ∷ past) p = copy_after layout past (change_of pair) p (newest_copy layout past p)

-- the frame of a place
abbrev pub frame_in : Place → Option ℕ
frame_in (InFrame f) = Some f
frame_in _ = None

-- the frame that holds a page
abbrev pub frame_of : Layout → History → ℕ → Option ℕ
frame_of layout past p = frame_in (place layout past p)

-- the lowest free frame
abbrev pub lowest_free : Layout → History → Option ℕ
lowest_free layout past = find (λ f. is_free (held layout past f)) (range_with_len 0 layout.frames)

-- ---- Rules

-- what a rule says: it does not apply, or it gives the move, or that there is none
pub data Rule : Type 0 where
  Passes : Rule
  Gives : (move : Option Move) → Rule

-- the first rule that applies
abbrev pub or_else : Rule → Rule → Rule
or_else Passes next = next
or_else (Gives move) next = Gives move

-- the rule for a page, where there is one
abbrev pub rule_on : Option ℕ → (ℕ → Rule) → Rule
rule_on None rule_of = Passes
rule_on (Some p) rule_of = rule_of p

-- the rule for the first of these pages that passes the test
abbrev pub for_first : List ℕ → (ℕ → Bool) → (ℕ → Rule) → Rule
for_first all test rule_of = rule_on (find test all) rule_of

-- there is a frame, and it passes the test
abbrev pub on_frame : Option ℕ → (ℕ → Bool) → Bool
on_frame None test = false
on_frame (Some f) test = test f

-- the move on a frame, where there is one
abbrev pub move_on : Option ℕ → (ℕ → Move) → Rule
move_on None move = Passes
move_on (Some f) move = Gives (Some (move f))

-- ---- Serving a miss: (a) to (d) for the pages to evict, (e) and (f) for those to fetch

-- (a) unmap the first evicted page that is mapped
abbrev pub unmap_evicted : Layout → History → List ℕ → Rule
unmap_evicted layout past evicted =
    for_first evicted (λ p. (pte layout past p).flags.p) (λ p. Gives (Some (SetPte (record { 0 = p }) (record { 0 = 0 }) no_flags)))

-- (b) block the first evicted page that is in a frame and not blocked
abbrev pub block_rule : Layout → History → List ℕ → Rule
block_rule layout past evicted =
    for_first evicted
    (λ p. on_frame (frame_of layout past p) (λ f. is_none (blocked_at past f)))
    (λ p. move_on (frame_of layout past p) (λ f. Eblock (record { 0 = f })))

-- (c) a tracking cycle, where an evicted page is in a frame that is not tracked
abbrev pub track_rule : Layout → History → List ℕ → Rule
track_rule layout past evicted =
    for_first evicted (λ p. on_frame (frame_of layout past p) (λ f. not (tracked layout past f))) (λ p. Gives (Some Etrack))

-- (d) write out the first evicted page that is in a frame
abbrev pub write_out_rule : Layout → History → List ℕ → Rule
write_out_rule layout past evicted =
    for_first evicted
    (λ p. is_some (frame_of layout past p))
    (λ p. move_on (frame_of layout past p) (λ f. Ewb (record { 0 = f }) (record { 0 = 1 }) p))

-- load a copy into a frame; without a free frame there is no move
abbrev pub load_into : ℕ → Copy → Option ℕ → Rule
load_into p copy None = Gives None
load_into p copy (Some f) =
    Gives (Some (Eldu (record { 0 = f }) (record { 0 = copy.handle }) (record { 0 = p }) (record { 0 = copy.va }) copy.slot))

-- (e) load the first fetched page that is in no frame
abbrev pub load_rule : Layout → History → List ℕ → Rule
load_rule layout past fetched =
    for_first fetched
    (λ p. is_none (frame_of layout past p))
    (λ p. load_into p (newest_copy layout past p) (lowest_free layout past))

-- (f) map the first fetched page that is not mapped for all that it allows
abbrev pub map_rule : Layout → History → List ℕ → Rule
map_rule layout past fetched =
    for_first fetched
    (λ p. not (is_mapped layout past p))
    (λ p. move_on (frame_of layout past p) (λ f. SetPte (record { 0 = p }) (record { 0 = f }) (strong_flags (perm_of layout p))))

-- enter with this value
abbrev pub enter_with : ℕ → Rule
enter_with v = Gives (Some (Eenter (record { 0 = 0 }) v))

-- what an open request wants, and (g) then the entry
abbrev pub serve : Layout → History → Option Request → Rule
serve layout past None = Passes
serve layout past (Some request) =
    let evicted = flat_map (pages_of layout) request.dropped in
    let fetched = pages_of layout request.cluster in
    or_else (unmap_evicted layout past evicted)
    (or_else (block_rule layout past evicted)
    (or_else (track_rule layout past evicted)
    (or_else (write_out_rule layout past evicted)
    (or_else (load_rule layout past fetched)
    (or_else (map_rule layout past fetched)
    (enter_with 0))))))

-- ---- All rules

-- run the processor that is inside
abbrev pub run_inside : Layout → History → Rule
run_inside layout past = for_first (processors layout) (inside past) (λ q. Gives (Some (Run (record { 0 = q }) 1000)))

-- in order: nothing after the end; run who is inside; enter where resuming is refused, unless three contexts are saved;
-- enter where none is saved; serve where one is saved and a cluster is asked for; resume
abbrev pub rules : Layout → History → List ℕ → Rule
rules layout past inputs =
    let saved = saved_count past in
    or_else (if is_ended past then Gives None else Passes)
    (or_else (run_inside layout past)
    (or_else (if is_pending past then (if saved == 3 then Gives None else enter_with 0) else Passes)
    (or_else (if saved == 0 then enter_with (next_value past inputs) else Passes)
    (or_else (if saved == 1 then serve layout past (service past).request else Passes)
    (Gives (Some (Eresume (record { 0 = 0 }))))))))

-- the move that a rule gives
abbrev pub given_by : Rule → Option Move
given_by Passes = None
given_by (Gives move) = move

-- the next move, if there is one, with these inputs at hand
abbrev pub drive : Layout → History → List ℕ → Option Move
drive layout past inputs = unless_refused past (given_by (rules layout past inputs))

-- each of these moves, the newest first, is the one that the honest kernel makes then
abbrev pub IsDriven : Layout → List Event → List ℕ → List Move → Type 0
IsDriven layout tape inputs [] = Unit {0}
IsDriven layout tape inputs (m ∷ moves) =
    (drive layout (trace layout tape moves).past inputs ≡ Some m) × IsDriven layout tape inputs moves
