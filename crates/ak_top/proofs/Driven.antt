-- The moves of a sound journal that the honest kernel drove are the honest kernel's over the tape of the journal's events.
use Rattle.std.proofs.Common.{◌≡◌, ℕ, zero, suc, true, List, [], ◌∷◌, refl, sym, subst}
use Rattle.std.specs.List.{list_all}
use Rattle.std.specs.Prelude.{Option, Some, None, reverse}
use Rattle.ak_core.specs.Journal.{Journal}
use Rattle.ak_core.specs.Layout.{Layout}
use Rattle.ak_core.specs.declared.event.Event.{Event}
use Rattle.ak_core.specs.declared.moves.Move.{Move}
use Rattle.ak_model.specs.Control.Trace.{trace}
use Rattle.ak_model.specs.Kernels.HonestKernel.{drive, IsDriven}
use Rattle.ak_model.specs.Paging.Histories.{History}
use Rattle.ak_model.specs.Sound.SoundJournal.{Sound}
use Rattle.ak_script.specs.Script.{Script}
use Rattle.ak_script.specs.declared.items.Item.{Item}
use Rattle.ak_script.specs.declared.items.Item.TheVariants as item
use Rattle.ak_top.specs.Follows.{GoesOn, Drives, Leads, Follows, IsAutoAlone, is_auto, past_of}
use Rattle.ak_top.proofs.Pasts.{tells_trace}

module _ (layout : Layout) (inputs : List ℕ) where
  -- each move of a history is the honest kernel's then
  abbrev EachDriven : History → Type 0
  EachDriven [] = Unit {0}
  EachDriven (pair ∷ past) = (drive layout past inputs ≡ Some pair.0) × EachDriven past

  -- so it is by its next move, where it is so from there on
  by_move : (n : ℕ) (next : Option Move) (past last : History) → EachDriven past →
      ((past : History) → EachDriven past → Drives layout inputs n past last → EachDriven last) → drive layout past inputs ≡ next →
      GoesOn next (λ next. Drives layout inputs n next last) (last ≡ past) past → EachDriven last
  by_move n None past last before then is h = subst EachDriven (sym h) before
  by_move n (Some m) past last before then is h = then ((m, h.0) ∷ past) (is, before) h.1

  -- so it is in a history to which the kernel leads
  each_driven : (n : ℕ) (past last : History) → EachDriven past → Drives layout inputs n past last → EachDriven last
  each_driven zero past last before h = subst EachDriven (sym h) before
  each_driven (suc n) past last before h =
      by_move n (drive layout past inputs) past last before (λ past before h. each_driven n past last before h) refl h

  -- and where each item leaves its moves to it
  each_led : (items : List Item) (past last : History) → list_all is_auto items ≡ true → EachDriven past → Leads layout inputs items past last → EachDriven last
  each_led [] past last alone before h = subst EachDriven (sym h) before
  each_led (item.Move m ∷ items) past last alone before h = absurd (cc)
  each_led (item.Auto n ∷ items) past last alone before h = each_led items h.0 last alone (each_driven n past h.0 before h.1) h.2

  -- and then the moves of a trace are the kernel's
  trace_driven : (tape : List Event) (moves : List Move) → EachDriven (trace layout tape moves).past → IsDriven layout tape inputs moves
  trace_driven tape [] h = tt
  trace_driven tape (m ∷ moves) h = (h.0, trace_driven tape moves h.1)

-- the moves of a sound journal are those of a trace
journal_driven : (image : List ℕ) (layout : Layout) (journal : Journal) (inputs : List ℕ) → Sound image layout journal →
    EachDriven layout inputs (past_of journal) → IsDriven layout journal.events inputs (reverse journal.moves)
journal_driven image layout journal inputs sound h =
    trace_driven layout inputs journal.events (reverse journal.moves) (subst (EachDriven layout inputs) (tells_trace image layout journal sound) h)

-- from the build on
pub is_driven : (image : List ℕ) (layout : Layout) (journal : Journal) (inputs : List ℕ) (n : ℕ) → Sound image layout journal →
    Drives layout inputs n [] (past_of journal) → IsDriven layout journal.events inputs (reverse journal.moves)
is_driven image layout journal inputs n sound h = journal_driven image layout journal inputs sound (each_driven layout inputs n [] (past_of journal) tt h)

-- by a script of `auto` alone
pub script_driven : (image : List ℕ) (layout : Layout) (journal : Journal) (script : Script) → Sound image layout journal →
    IsAutoAlone script → Follows layout script journal → IsDriven layout journal.events script.inputs (reverse journal.moves)
script_driven image layout journal script sound alone h =
    journal_driven image layout journal script.inputs sound (each_led layout script.inputs script.items [] (past_of journal) alone tt h)
