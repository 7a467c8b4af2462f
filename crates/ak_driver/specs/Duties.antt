-- What the code does to a page, and the moves that it gives for an open request, by what it keeps.
use Rattle.std.specs.Prelude.{ℕ, Bool, false, not, ◌&&◌, List, take, find, flat_map, Option, Some, None, option_map, is_some, is_none, slice_get, ◌==◌, if◌then◌else◌}
use Rattle.std.specs.List.{range_with_len}
use Rattle.ak_core.specs.Layout.{Layout}
use Rattle.ak_core.specs.declared.moves.Move.TheVariants.{SetPte, Eblock, Etrack, Ewb, Eresume, Run}
use Rattle.ak_core.specs.declared.page.Page.{Page}
use Rattle.ak_core.specs.declared.page.Perm.{Perm}
use Rattle.ak_model.specs.Paging.Pages.{pages_of, perm_of, strong, strong_flags, no_flags}
use Rattle.ak_model.specs.Paging.Holdings.{is_page_in}
use Rattle.ak_model.specs.Paging.Walk.{flags_allow}
use Rattle.ak_model.specs.Kernels.HonestKernel.{Rule, Passes, Gives, or_else, rule_on, for_first, on_frame, move_on, load_into, enter_with}
use Rattle.ak_driver.specs.NotedCounts.{value_by}
use Rattle.ak_driver.specs.NotedTables.{holding, frame_note, page_note, noted, is_free_note, PageFacts}
use Rattle.ak_driver.specs.NotedCycles.{entered_at, newest_over, is_over_since}
use Rattle.ak_driver.specs.declared.driver.Driver.{Driver}
use Rattle.ak_driver.specs.declared.duties.Duty.{Duty}
use Rattle.ak_driver.specs.declared.duties.Duty.TheVariants.{Unmap, Block, Track, WriteOut, Load, Map}
use Rattle.ak_driver.specs.declared.tables.FrameNote.{FrameNote}

-- a page's number
abbrev pub page_number : Option Page → Option ℕ
page_number p = option_map (λ (q : Page). q.0) p

-- what the driver says of a page
abbrev pub facts_by : Driver → ℕ → PageFacts
facts_by driver p = noted (page_note driver.tables.pages.items p)

-- what it says of a frame
abbrev pub frame_by : Driver → ℕ → FrameNote
frame_by driver f = frame_note driver.tables.frames.items f

-- a cycle that began after the frame was blocked is over
abbrev pub tracked_by : Driver → ℕ → Bool
tracked_by driver f = is_over_since (frame_by driver f).blocked (newest_over driver.tracking.entered driver.tracking.newest)

-- the frame is unblocked and holds the page
abbrev pub is_in_frame_by : Driver → ℕ → ℕ → Bool
is_in_frame_by driver p f = is_page_in (holding (frame_by driver f).held) p && is_none (frame_by driver f).blocked

-- the page's entry lets a walk through for all that it allows
abbrev pub is_mapped_by : Driver → ℕ → Option Perm → Bool
is_mapped_by driver p None = false
is_mapped_by driver p (Some perm) =
    flags_allow (facts_by driver p).entry.flags (strong perm) && is_in_frame_by driver p (facts_by driver p).entry.frame

-- the page wants this next
abbrev pub wants : Driver → Layout → Duty → ℕ → Bool
wants driver layout Unmap p = (facts_by driver p).entry.flags.p
wants driver layout Block p = on_frame (facts_by driver p).frame (λ f. is_none (frame_by driver f).blocked)
wants driver layout Track p = on_frame (facts_by driver p).frame (λ f. not (tracked_by driver f))
wants driver layout WriteOut p = is_some (facts_by driver p).frame
wants driver layout Load p = is_none (facts_by driver p).frame
wants driver layout Map p = not (is_mapped_by driver p (slice_get layout.perms p))

-- the clusters that were dropped
abbrev pub dropped_by : Driver → List ℕ
dropped_by driver = take driver.requests.dropped driver.requests.clusters.items

-- the rule by which a page is loaded
abbrev pub loaded_by : Driver → Layout → ℕ → Rule
loaded_by driver layout p =
    load_into p (facts_by driver p).copy (find (is_free_note driver.tables.frames.items) (range_with_len 0 layout.frames))

-- the rules by which a cluster is fetched
abbrev pub fetched_by : Driver → Layout → ℕ → Rule
fetched_by driver layout c =
    let fetched = pages_of layout c in
    or_else (for_first fetched (wants driver layout Load) (loaded_by driver layout))
    (or_else (for_first fetched (wants driver layout Map)
    (λ p. move_on (facts_by driver p).frame (λ f. SetPte (record { 0 = p }) (record { 0 = f }) (strong_flags (perm_of layout p)))))
    (enter_with 0))

-- the rules by which a request is served
abbrev pub served_by : Driver → Layout → ℕ → Rule
served_by driver layout c =
    let evicted = flat_map (pages_of layout) (dropped_by driver) in
    or_else (for_first evicted (wants driver layout Unmap) (λ p. Gives (Some (SetPte (record { 0 = p }) (record { 0 = 0 }) no_flags))))
    (or_else (for_first evicted (wants driver layout Block) (λ p. move_on (facts_by driver p).frame (λ f. Eblock (record { 0 = f }))))
    (or_else (for_first evicted (wants driver layout Track) (λ p. Gives (Some Etrack)))
    (or_else (for_first evicted (wants driver layout WriteOut)
    (λ p. move_on (facts_by driver p).frame (λ f. Ewb (record { 0 = f }) (record { 0 = 1 }) p)))
    (fetched_by driver layout c))))

-- the rules for the cluster that is asked for, if there is one
abbrev pub asked_rule : Driver → Layout → Option ℕ → Rule
asked_rule driver layout None = Passes
asked_rule driver layout (Some c) = served_by driver layout c

-- the processor is inside
abbrev pub inside_by : Driver → ℕ → Bool
inside_by driver lp = is_some (entered_at driver.tracking.entered lp)

-- all rules, by whether the end was seen, who is inside, whether resuming is refused, how many contexts are saved, the value to
-- enter with, and the rules for the request
abbrev pub ruled_by : Bool → Option ℕ → Bool → ℕ → ℕ → Rule → Rule
ruled_by ended first pending saved value serving =
    or_else (if ended then Gives None else Passes)
    (or_else (rule_on first (λ q. Gives (Some (Run (record { 0 = q }) 1000))))
    (or_else (if pending then (if saved == 3 then Gives None else enter_with 0) else Passes)
    (or_else (if saved == 0 then enter_with value else Passes)
    (or_else (if saved == 1 then serving else Passes)
    (Gives (Some (Eresume (record { 0 = 0 }))))))))

-- all rules, by what the driver keeps
abbrev pub rules_by : Driver → Layout → List ℕ → Rule
rules_by driver layout inputs =
    ruled_by driver.counts.is_ended (find (inside_by driver) (range_with_len 0 4)) driver.counts.is_pending driver.counts.saved
    (value_by driver.counts inputs) (asked_rule driver layout driver.requests.asked)
