-- An example: an enclave of one page, and moments of it that some machine reaches.
use Rattle.std.specs.Prelude.{ℕ, List, [], ◌∷◌, ◌++◌, replicate}
use Rattle.ak_core.specs.Layout.{Layout}
use Rattle.ak_core.specs.declared.event.Event.{Event}
use Rattle.ak_core.specs.declared.page.Perm.TheVariants.{Rw, Rx}
use Rattle.ak_core.specs.declared.moves.Move.TheVariants.{SetPte, Eblock, Etrack, Ewb, Eldu, Eenter, Eresume, Run, Interrupt}
use Rattle.ak_core.specs.declared.moves.Answer.{Answer}
use Rattle.ak_core.specs.declared.moves.Answer.TheVariants.{Ok, OkHandle}
use Rattle.ak_core.specs.declared.moves.Exit.{Exit}
use Rattle.ak_model.specs.Paging.Histories.{History}
use Rattle.ak_model.specs.Paging.Pages.{flags_for, no_flags}
use Rattle.ak_model.specs.Control.RuntimeTurn.{shown_fault}
use Rattle.ak_relation.specs.State.MachineState.{State}
use Rattle.ak_relation.specs.Relation.MoveByMove.{HasMoved}

-- one page that may be read and executed, sealed by the build; nine frames and one processor
abbrev pub one_page : Layout
one_page =
    record { base = 268435456; entry = 0; perms = Rx ∷ []; cluster_of = 0 ∷ []; clusters = 1; budget = 1; frames = 9; lps = 1 }

-- its image: an instruction that does nothing, then a call of number 2, which reads a value (MOV RDI, 2; MOV RAX, 4; ENCLU), and then
-- one that is undefined
unfoldable pub input_program : List ℕ
input_program =
    0x90 ∷ 0x48 ∷ 0xbf ∷ 2 ∷ replicate 7 0 ++ (0x48 ∷ 0xb8 ∷ 4 ∷ replicate 7 0
    ++ (0x0f ∷ 0x01 ∷ 0xd7 ∷ 0x0f ∷ 0x0b ∷ replicate 4070 0x90))

-- after the build nothing has happened
abbrev pub built_past : History
built_past = []

-- then the processor enters, with a value
abbrev pub entered_past : History
entered_past = (Eenter (record { 0 = 0 }) 7, Ok) ∷ built_past

-- and is interrupted
abbrev pub interrupted_past : History
interrupted_past = (Interrupt (record { 0 = 0 }), Ok) ∷ entered_past

-- the area of its saved frame is blocked, and a cycle begins
abbrev pub blocked_past : History
blocked_past = (Eblock (record { 0 = 3 }), Ok) ∷ interrupted_past

abbrev pub cycled_past : History
cycled_past = (Etrack, Ok) ∷ blocked_past

-- it is written out
abbrev pub written_past : History
written_past = (Ewb (record { 0 = 3 }) (record { 0 = 1 }) 1, OkHandle (record { 0 = 1 })) ∷ cycled_past

-- it is loaded into the last frame, and mapped there
abbrev pub loaded_past : History
loaded_past = (Eldu (record { 0 = 8 }) (record { 0 = 1 }) (record { 0 = 2 }) (record { 0 = 1 }) 1, Ok) ∷ written_past

abbrev pub mapped_past : History
mapped_past = (SetPte (record { 0 = 2 }) (record { 0 = 8 }) (flags_for Rw), Ok) ∷ loaded_past

-- and the processor is resumed from it
abbrev pub resumed_past : History
resumed_past = (Eresume (record { 0 = 0 }), Ok) ∷ mapped_past

-- or, after the build, the program's page is loaded and mapped
abbrev pub fetched_past : History
fetched_past = (Eldu (record { 0 = 8 }) (record { 0 = 0 }) (record { 0 = 0 }) (record { 0 = 1 }) 0, Ok) ∷ built_past

abbrev pub shown_past : History
shown_past = (SetPte (record { 0 = 0 }) (record { 0 = 8 }) (flags_for Rx), Ok) ∷ fetched_past

-- the processor enters
abbrev pub begun_past : History
begun_past = (Eenter (record { 0 = 0 }) 7, Ok) ∷ shown_past

-- and makes two turns: the runtime starts the program, which completes an instruction
abbrev pub computed_past : History
computed_past = (Run (record { 0 = 0 }) 2, Answer.Exit Exit.Still) ∷ begun_past

-- or one, after which the page is not mapped any more
abbrev pub started_past : History
started_past = (Run (record { 0 = 0 }) 1, Answer.Exit Exit.Still) ∷ begun_past

abbrev pub hidden_past : History
hidden_past = (SetPte (record { 0 = 0 }) (record { 0 = 0 }) no_flags, Ok) ∷ started_past

-- and the program misses it
abbrev pub missed_past : History
missed_past = (Run (record { 0 = 0 }) 1, Answer.Exit (shown_fault one_page)) ∷ hidden_past

-- the processor enters again, and the runtime asks for the cluster
abbrev pub handling_past : History
handling_past = (Eenter (record { 0 = 0 }) 7, Ok) ∷ missed_past

abbrev pub asked_past : History
asked_past = (Run (record { 0 = 0 }) 1, Answer.Exit (Exit.Ask 0 0)) ∷ handling_past

-- the kernel enters without mapping the page, and the runtime's probe faults
abbrev pub trying_past : History
trying_past = (Eenter (record { 0 = 0 }) 7, Ok) ∷ asked_past

abbrev pub faulted_past : History
faulted_past = (Run (record { 0 = 0 }) 2, Answer.Exit (shown_fault one_page)) ∷ trying_past

-- or the page is mapped again, and the runtime finds it
abbrev pub restored_past : History
restored_past = (SetPte (record { 0 = 0 }) (record { 0 = 8 }) (flags_for Rx), Ok) ∷ asked_past

abbrev pub probing_past : History
probing_past = (Eenter (record { 0 = 0 }) 7, Ok) ∷ restored_past

abbrev pub ready_past : History
ready_past = (Run (record { 0 = 0 }) 3, Answer.Exit Exit.Ready) ∷ probing_past

-- the program is resumed; its page is not mapped any more, though its cluster is in; and it breaks
abbrev pub continued_past : History
continued_past = (Eresume (record { 0 = 0 }), Ok) ∷ ready_past

abbrev pub lost_past : History
lost_past = (SetPte (record { 0 = 0 }) (record { 0 = 0 }) no_flags, Ok) ∷ continued_past

abbrev pub broken_past : History
broken_past = (Run (record { 0 = 0 }) 1, Answer.Exit (shown_fault one_page)) ∷ lost_past

-- the processor enters again, and the runtime stops the enclave
abbrev pub stopping_past : History
stopping_past = (Eenter (record { 0 = 0 }) 7, Ok) ∷ broken_past

abbrev pub stopped_past : History
stopped_past = (Run (record { 0 = 0 }) 1, Answer.Exit Exit.Stopped) ∷ stopping_past

-- the kernel resumes what was saved, which is the guard
abbrev pub guarded_past : History
guarded_past = (Eresume (record { 0 = 0 }), Ok) ∷ stopped_past

-- or, after the first instruction, four turns more: two instructions, the call, and the runtime's step that leaves with it
abbrev pub called_past : History
called_past = (Run (record { 0 = 0 }) 4, Answer.Exit (Exit.Call 2 0)) ∷ computed_past

-- the kernel answers with a value, and the program goes on with it
abbrev pub answering_past : History
answering_past = (Eenter (record { 0 = 0 }) 9, Ok) ∷ called_past

abbrev pub returned_past : History
returned_past = (Run (record { 0 = 0 }) 1, Answer.Exit Exit.Still) ∷ answering_past

-- and its next instruction raises a vector
abbrev pub raised_past : History
raised_past = (Run (record { 0 = 0 }) 1, Answer.Exit (Exit.Vector 6)) ∷ returned_past

-- the processor enters again, and the runtime ends the program
abbrev pub trapping_past : History
trapping_past = (Eenter (record { 0 = 0 }) 7, Ok) ∷ raised_past

abbrev pub trapped_past : History
trapped_past = (Run (record { 0 = 0 }) 1, Answer.Exit (Exit.Trapped 6)) ∷ trapping_past

-- some machine went through these moves, with these events of the program
abbrev pub IsReached : History → List Event → Type 0
IsReached past events = (state : State) × HasMoved one_page input_program past state events
