-- The rules that a well-behaved kernel keeps. (The Autarky paper, self-paging runtime: what the runtime asks of the kernel.)
use Rattle.std.specs.Prelude.{IsTrue, ℕ, ◌+◌, ◌-◌, Bool, true, false, ◌&&◌, ◌||◌, not, List, [], ◌∷◌, length, Option, Some, None, ◌==◌}
use Rattle.std.specs.List.{range_with_len, list_any, list_all}
use Rattle.ak_core.specs.Layout.{Layout}
use Rattle.ak_core.specs.declared.moves.Exit.TheVariants.{Ask}
use Rattle.ak_core.specs.declared.moves.Move.{Move}
use Rattle.ak_core.specs.declared.event.Event.{Event}
use Rattle.ak_model.specs.Paging.Pages.{pages, pages_of, strong_kind}
use Rattle.ak_model.specs.Paging.Histories.{History, Change, change, change_of, Enters, Exits}
use Rattle.ak_model.specs.Paging.Inside.{someone_inside}
use Rattle.ak_model.specs.Paging.Walk.{walkable, tcs_walkable}
use Rattle.ak_model.specs.Control.ControlState.{Phase, Asked, Context, Probe, Finish, Reason, Faulted, Control, cssa, is_asked}
use Rattle.ak_model.specs.Control.Answers.{answer}
use Rattle.ak_model.specs.Control.Trace.{Moment, trace}
use Rattle.ak_model.specs.Control.Moments.{moments}
use Rattle.ak_model.specs.Stops.Blame.{resumes}

-- ---- What is in stays mapped

-- a page is walkable for all that it allows
abbrev pub is_mapped : Layout → History → ℕ → Bool
is_mapped layout past p = walkable layout past p (strong_kind layout p)

-- each page of a cluster is mapped
abbrev pub cluster_is_mapped : Layout → History → ℕ → Bool
cluster_is_mapped layout past c = list_all (is_mapped layout past) (pages_of layout c)

-- saved-state areas, STATE and CODE
abbrev pub runtime_pages : Layout → List ℕ
runtime_pages layout = range_with_len (pages layout + 1) 5

-- while a processor is inside, the runtime's pages and those of the clusters that are in are mapped
abbrev pub keeps_mapped : Layout → Moment → Bool
keeps_mapped layout moment =
    not (someone_inside layout moment.past)
    || (tcs_walkable layout moment.past
    && (list_all (is_mapped layout moment.past) (runtime_pages layout)
    && list_all (cluster_is_mapped layout moment.past) moment.control.queue))

-- ---- What was asked for is mapped while it is probed

-- whether an entering stands after the last ask, after one more change
abbrev pub entered_after : Change → Bool → Bool
entered_after (Enters lp v) before = true
entered_after (Exits lp (Ask d c)) before = false
entered_after _ before = before

-- an entering stands after the last ask
abbrev pub entered_since_ask : History → Bool
entered_since_ask [] = false
entered_since_ask (pair ∷ past) = entered_after (change_of pair) (entered_since_ask past)

-- the step after the last probe
abbrev pub is_finish : Context → Bool
is_finish Finish = true
is_finish _ = false

-- that step is next
abbrev pub is_finish_now : Option Context → Bool
is_finish_now None = false
is_finish_now (Some context) = is_finish context

-- a context was saved after the turn of the last probe, or by that turn's own fault
abbrev pub is_past_probes : ℕ → Context → Reason → Bool
is_past_probes last Finish reason = true
is_past_probes last (Probe i) (Faulted t) = i == last
is_past_probes last _ reason = false

-- the turn of the last probe is over
abbrev pub probes_done : Layout → ℕ → Control → Bool
probes_done layout c control =
    is_finish_now control.now
    || list_any (λ saved. is_past_probes (length (pages_of layout c) - 1) saved.context saved.reason) control.stack

-- while a cluster is asked for, it is mapped from the entering that follows on until it was probed
abbrev pub fetched_by : Layout → Moment → Phase → Bool
fetched_by layout moment (Asked c) =
    not (entered_since_ask moment.past) || (probes_done layout c moment.control || cluster_is_mapped layout moment.past c)
fetched_by layout moment _ = true

-- from the entering that follows an ask to the turn of the last probe, the asked cluster is mapped
abbrev pub keeps_fetched : Layout → Moment → Bool
keeps_fetched layout moment = fetched_by layout moment moment.control.phase

-- ---- What was asked for is not resumed

-- this move resumes the guard, while a cluster is asked for
abbrev pub resumes_early : Layout → Moment → Move → Bool
resumes_early layout moment m =
    resumes (change m (answer layout moment.past moment.control m)) && ((cssa moment.control == 1) && is_asked moment.control.phase)

-- no such move was made
abbrev pub never_resumes_early : Layout → List Event → List Move → Bool
never_resumes_early layout tape [] = true
never_resumes_early layout tape (m ∷ moves) =
    not (resumes_early layout (trace layout tape moves) m) && never_resumes_early layout tape moves

-- the kernel keeps its three rules
pub record Honours (layout : Layout) (tape : List Event) (moves : List Move) : Type 0 where
  pub mapped : IsTrue (list_all (keeps_mapped layout) (moments layout tape moves))
  pub fetched : IsTrue (list_all (keeps_fetched layout) (moments layout tape moves))
  pub resumed : IsTrue (never_resumes_early layout tape moves)
