-- A kernel that evicts: while a processor is inside, no page of a cluster that is out can be found by a walk.
use Rattle.std.specs.Prelude.{IsTrue, ℕ, Bool, false, ◌&&◌, ◌||◌, not, List, [], ◌∷◌, ◌==◌}
use Rattle.std.specs.List.{range_with_len, list_any, list_all}
use Rattle.ak_core.specs.Layout.{Layout}
use Rattle.ak_core.specs.declared.page.Kind.TheVariants.{Read, Write, Exec}
use Rattle.ak_core.specs.declared.event.Event.{Event}
use Rattle.ak_core.specs.declared.moves.Move.{Move}
use Rattle.ak_model.specs.Paging.Pages.{pages, cluster_at}
use Rattle.ak_model.specs.Paging.Histories.{History}
use Rattle.ak_model.specs.Paging.Inside.{someone_inside}
use Rattle.ak_model.specs.Paging.Walk.{walkable}
use Rattle.ak_model.specs.Clusters.Queue.{is_in}
use Rattle.ak_model.specs.Control.ControlState.{Phase, Asked, Control}
use Rattle.ak_model.specs.Control.Trace.{Moment}
use Rattle.ak_model.specs.Control.Moments.{moments}

-- this cluster is asked for
abbrev pub is_asked_for : Phase → ℕ → Bool
is_asked_for (Asked c) d = c == d
is_asked_for _ d = false

-- the page's cluster is neither in nor asked for
abbrev pub is_out : Layout → Control → ℕ → Bool
is_out layout control p = not (is_in control.queue (cluster_at layout p)) && not (is_asked_for control.phase (cluster_at layout p))

-- no walk of any kind finds the page
abbrev pub is_unmapped : Layout → History → ℕ → Bool
is_unmapped layout past p = not (list_any (walkable layout past p) (Read ∷ Write ∷ Exec ∷ []))

-- while a processor is inside, no page of a cluster that is out is walkable
abbrev pub keeps_out : Layout → Moment → Bool
keeps_out layout moment =
    not (someone_inside layout moment.past)
    || list_all (λ p. not (is_out layout moment.control p) || is_unmapped layout moment.past p) (range_with_len 0 (pages layout))

-- the kernel keeps no page of a cluster that is out mapped
abbrev pub Evicts : Layout → List Event → List Move → Type 0
Evicts layout tape moves = IsTrue (list_all (keeps_out layout) (moments layout tape moves))
