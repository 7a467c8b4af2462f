use Rattle.std.proofs.Common.{◌≡◌, Bool, true, false, cond, not, ◌+◌, ◌∷◌, ◌++◌, [], take, drop, Some, is_some, List, ℕ, Option, subst, ap, sym, ◌∙◌}
use Rattle.std.specs.List.{list_any}
use Rattle.std.specs.Option.{IfSome}
use Rattle.std.specs.Str.{bytes_eq}
use Rattle.ak_measure.specs.Collected.{digest_at}
use Rattle.ak_measure.specs.Signers.{repeats}
use Rattle.ak_measure.specs.Stages.{each_of}
use Rattle.ak_measure.proofs.Places.{split, take-next, read_of_item, found_at}
use Rattle.ak_measure.proofs.Reading.{each_of-more}
use Rattle.ak_measure.proofs.Repeats.{repeats-more, repeats-again}
use Rattle.ak_measure.proofs.digests.distinct_digests.Goals as goal

from_not : (a b c : Bool) → a ≡ not b → a ≡ c → b ≡ not c
from_not a true c of_a is = ap not (sym of_a ∙ is)
from_not a false c of_a is = ap not (sym of_a ∙ is)

pub unreachable-requires : goal.unreachable-requires
unreachable-requires c =
    let items = c.args.items.now in
    let i = c.loop-item.item-index in
    let item = c.item-item.result in
    let some = read_of_item digest_at (take i items) item (drop (i + 1) items) items c.loop-item.digests.keys
    (split items i item c.loop-item-test.true c.item-item.is) c.loop-item.invariant.read c.requires in
    cc (sym some ∙ ap is_some (sym c.digest_of.ensures ∙ c.in_default.is))

pub returns-then-not-is_new-clause-repeated : goal.returns-then-not-is_new-clause-repeated
returns-then-not-is_new-clause-repeated c _ =
    let items = c.args.items.now in
    let i = c.loop-item.item-index in
    let item = c.item-item.result in
    let digests = c.loop-item.digests.keys in
    let digest = c.in-Some.digest in
    let before : list_any (bytes_eq digest) digests ≡ true = from_not _ _ false c.in_ok-is_new.ensures.added c.if-not-is_new.true in
    found_at digest_at (take i items) item (drop (i + 1) items) items digests (split items i item c.loop-item-test.true c.item-item.is) c.loop-item.invariant.read
    (λ d. list_any (bytes_eq d) digests ≡ true) repeats (subst (λ (o : Option (List ℕ)). IfSome o (λ d. list_any (bytes_eq d) digests ≡ true)) c.in-Some.ensures before)
    (λ d rest among. repeats-again digests d rest among)

pub loop-item-preserved : goal.loop-item-preserved
loop-item-preserved c =
    let items = c.args.items.now in
    let i = c.loop-item.item-index in
    let item = c.item-item.result in
    let digests = c.loop-item.digests.keys in
    let digest = c.in-Some.digest in
    let new : list_any (bytes_eq digest) digests ≡ false = from_not _ _ true c.in_ok-is_new.ensures.added c.if-not-is_new.false in
    let keys : c.insert_full.new.self.keys ≡ digests ++ digest ∷ [] = c.in_ok-is_new.ensures.keys ∙ ap (λ b. cond b digests (digests ++ digest ∷ [])) new in
    record {
      read =
          ap (each_of digest_at) (take-next items i item c.loop-item-test.true c.item-item.is)
          ∙ (each_of-more digest_at (take i items) item digests digest c.loop-item.invariant.read (sym c.in-Some.ensures) ∙ ap Some (sym keys));
      distinct = ap repeats keys ∙ repeats-more digests digest c.loop-item.invariant.distinct new;
    }
