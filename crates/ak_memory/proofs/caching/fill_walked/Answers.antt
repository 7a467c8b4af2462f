use Rattle.std.proofs.Common.{false, ◌++◌, get_or, take, ap, sym, ◌∙◌, subst}
use Rattle.std.proofs.lemmas.List.{take_more}
use Rattle.ak_core.specs.declared.page.Kind.TheVariants.{Read}
use Rattle.ak_tlb.specs.Fills.{HoldsFills}
use Rattle.ak_memory.specs.Spots.{spot_fills, spot_names_page}
use Rattle.ak_memory.specs.declared.spot.Spot.{Spot}
use Rattle.ak_memory.proofs.Cached.{fills_more, fills_after-append, passes_at}
use Rattle.ak_memory.proofs.caching.fill_walked.Goals as goal

-- past the end
none : Spot
none = record { access = record { page = record { 0 = 0 }; kind = Read }; frame = record { 0 = 0 }; by_walk = false }

pub loop-spot-preserved : goal.loop-spot-preserved
unfolding none
loop-spot-preserved c =
    let spots = c.args.spots.now in
    let i = c.loop-spot.spot-index in
    let spot = get_or spots i none in
    record {
      holds = λ fills h.
          subst (HoldsFills c.fill_if_walked.new.tlb)
          (fills_after-append spot (spot_fills (take i spots)) fills
          ∙ ap (λ xs. xs ++ fills) (sym (fills_more (take i spots) spot) ∙ ap spot_fills (sym (take_more spots i none c.loop-spot-test.true))))
          (c.fill_if_walked.ensures.holds (spot_fills (take i spots) ++ fills) (c.loop-spot.invariant.holds fills h));
      named = λ entries all h.
          c.fill_if_walked.ensures.named entries (passes_at (spot_names_page entries) spots i none all c.loop-spot-test.true) (c.loop-spot.invariant.named entries all h);
    }
