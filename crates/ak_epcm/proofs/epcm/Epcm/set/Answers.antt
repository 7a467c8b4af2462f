use Rattle.ak_epcm.proofs.epcm.Epcm.set.Goals as goal
use Rattle.ak_epcm.proofs.EntryLists.{IsEpcm-set}

pub invariant_of-self : goal.invariant_of-self
invariant_of-self c =
    IsEpcm-set _ _ _ (rw c.self.view_is c.requires.in_range) (rw c.self.view_is c.requires.fresh) c.self.invariant
