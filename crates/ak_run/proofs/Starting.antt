-- The run of a machine that was just built.
use Rattle.std.proofs.Common.{◌≡◌, ℕ, zero, suc, List, [], refl, ap, sym, ◌∙◌, subst}
use Rattle.std.specs.Prelude.{None, replicate, slice_index}
use Rattle.ak_core.specs.Layout.{Layout, IsValid}
use Rattle.ak_core.specs.Journal.{Journal}
use Rattle.ak_model.specs.Sound.Forced.{turns_of}
use Rattle.ak_model.specs.Tapes.LastMoment.{runs_of}
use Rattle.ak_relation.specs.Relation.Journals.{StopNamesBreak}
use Rattle.ak_relation.proofs.Runs.KeptJournals.{built_journal}
use Rattle.ak_machine.specs.Machines.{IsJustBuilt, Parts}
use Rattle.ak_run.specs.Blaming.{AreLost, Marks, access_number}
use Rattle.ak_run.specs.Runs.{Faithful}

-- each of these places is 0
none_lost : (n i : ℕ) → slice_index (replicate n 0) i ≡ 0
none_lost zero i = refl
none_lost (suc n) zero = refl
none_lost (suc n) (suc i) = none_lost n i

all_none : (layout : Layout) (places : List ℕ) (n : ℕ) → places ≡ replicate n 0 → AreLost layout [] places
all_none layout places n is = record { place = λ t. ap (λ xs. slice_index xs (access_number t)) is ∙ none_lost n (access_number t) }

module _ (image : List ℕ) (parts : Parts) (valid : IsValid parts.layout) (built : IsJustBuilt image parts)
    (journal : Journal) (moves : journal.moves ≡ []) (answers : journal.answers ≡ []) (events : journal.events ≡ []) (outputs : journal.outputs ≡ []) (stop : journal.stop ≡ None)
    (queue : List ℕ) (nothing : queue ≡ []) (marks : Marks) (n : ℕ) (lost : marks.lost ≡ replicate n 0) (lost_at_fault : marks.lost_at_fault ≡ replicate n 0)
    (returned : marks.returned ≡ 0) (resumed : marks.resumed ≡ 0) (saved : marks.saved ≡ 0) where
  pub just_begun : Faithful image (record { machine = parts; journal = journal; count = 0; queue = queue; marks = marks })
  just_begun = record {
    past = [];
    state = built.state;
    machine = built.machine;
    keeps = built_journal parts.layout image built.state journal valid built.built moves answers events outputs stop;
    names = subst (StopNamesBreak parts.layout (runs_of parts.layout image journal) (turns_of parts.layout journal)) (sym stop) tt;
    count = sym built.built.count;
    queue = nothing ∙ sym built.built.queue;
    marks = record {
      lost = all_none parts.layout marks.lost n lost;
      lost_at_fault = all_none parts.layout marks.lost_at_fault n lost_at_fault;
      returned = returned;
      resumed = resumed;
      saved = saved;
    };
  }
