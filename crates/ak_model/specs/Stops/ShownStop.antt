-- What tells that an enclave stopped: a break on the tape, or an exit that says so.
use Rattle.std.specs.Prelude.{Bool, true, false, List, Some}
use Rattle.std.specs.List.{list_any}
use Rattle.ak_core.specs.declared.event.Event.{Event}
use Rattle.ak_core.specs.declared.moves.Exit.{Exit}
use Rattle.ak_core.specs.declared.moves.Exit.TheVariants.{Stopped}
use Rattle.ak_model.specs.Paging.Histories.{History, Change, change_of, Exits}
use Rattle.ak_model.specs.Laws.ToldFault.{is_break}

-- some event of the tape is a break
abbrev pub has_break : List Event → Bool
has_break tape = list_any (λ event. is_break (Some event)) tape

-- the runtime says that it has stopped
abbrev pub is_stopped : Exit → Bool
is_stopped Stopped = true
is_stopped _ = false

-- a processor left with that exit
abbrev pub says_stopped : Change → Bool
says_stopped (Exits lp exit) = is_stopped exit
says_stopped _ = false

-- some processor has
abbrev pub shows_stop : History → Bool
shows_stop past = list_any (λ pair. says_stopped (change_of pair)) past
