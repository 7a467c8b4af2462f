-- A journal that is cut after some of its moves.
use Rattle.std.specs.Prelude.{ℕ, List, length, reverse, take}
use Rattle.ak_core.specs.Layout.{Layout}
use Rattle.ak_core.specs.Journal.{Journal}
use Rattle.ak_core.specs.declared.event.Event.{Event}
use Rattle.ak_model.specs.Control.Trace.{trace}
use Rattle.ak_model.specs.Laws.Premises.{all_but_last}

-- the events of a journal that were taken by its first k moves: all but those that were still to come after these
abbrev pub taken : ℕ → Layout → Journal → List Event
taken k layout journal =
    let moment = trace layout journal.events (reverse (take k journal.moves)) in
    all_but_last (length moment.control.rest) journal.events
