use Rattle.std.proofs.Common.{◌≡◌, true, ◌++◌, ap, ◌∙◌, subst}
use Rattle.std.specs.List.{list_all}
use Rattle.ak_tlb.specs.Fills.{HoldsFills}
use Rattle.ak_memory.specs.Granting.{in_use}
use Rattle.ak_memory.specs.Spots.{is_spot, spot_fills, spot_names_page}
use Rattle.ak_memory.proofs.Cached.{fills_are}
use Rattle.ak_memory.proofs.Granted.{all_spots, named_in_use, spot_names}
use Rattle.ak_memory.proofs.memory.Memory.cache_walked.Goals as goal

pub invariant_of-self-clause-named : goal.invariant_of-self-clause-named
invariant_of-self-clause-named c =
    let m = c.args.self.now in
    let entries = m.encls.entries in
    let cached = in_use m.uses_cache m.tlb in
    let names : list_all (spot_names_page entries) c.as_slice.result.now ≡ true =
    ap (list_all (spot_names_page entries)) c.as_slice.ensures.value
    ∙ all_spots (spot_names_page entries) (is_spot entries m.table cached) m.touched.items
    (λ spot h. spot_names entries m.table cached spot (named_in_use m.uses_cache entries m.tlb m.named) h) m.spots in
    c.fill_walked.ensures.named entries names m.named

pub returns-clause-tlb : goal.returns-clause-tlb
returns-clause-tlb c = λ fills h.
    let m = c.args.self.now in
    let cached = in_use m.uses_cache m.tlb in
    subst (λ xs. HoldsFills c.fill_walked.new.tlb (xs ++ fills))
    (ap spot_fills c.as_slice.ensures.value ∙ fills_are m.encls.entries m.table cached m.touched.items m.spots)
    (c.fill_walked.ensures.holds fills h)
