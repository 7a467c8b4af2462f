use Rattle.std.proofs.Common.{◌≡◌, ◌++◌, ◌∷◌, [], Some, option_map, true, string_bytes, ap, sym, ◌∙◌}
use Rattle.std.proofs.lemmas.List.{map-append}
use Rattle.std.specs.Map.{keys_of}
use Rattle.toml.proofs.Views.{Entry}
use Rattle.ak_measure.specs.Collected.{digests_at, signer_at, named}
use Rattle.ak_measure.specs.Signers.{repeats, any_repeats}
use Rattle.ak_measure.proofs.NamedEntries.{turn, in_order, any_repeats-more, any_repeats-at, if_named}
use Rattle.ak_measure.proofs.NamesInOrder.{insert_entry-last}
use Rattle.ak_measure.proofs.Places.{found_at}
use Rattle.ak_measure.proofs.Reading.{each_of-more}
use Rattle.ak_measure.proofs.signers.by_name.Goals as goal

pub returns-in-Err-clause-repeated : goal.returns-in-Err-clause-repeated
returns-in-Err-clause-repeated c repeated =
    let e : Entry = (c.in-Some.name, c.in-Some.value) in
    let all = c.args.document.entries in
    let whole : c.loop-name.yielded ++ (e ∷ c.next.new.self) ≡ all =
    turn c.loop-name.yielded c.into_iter-name-iterator.result c.loop-name.name-iterator c.next.new.self all c.next.result e
    c.into_iter-name-iterator.ensures.into_iter_gives.0 c.loop-name.yielded_by c.in-Some.is c.next.ensures.steps in
    found_at signer_at c.loop-name.yielded e c.next.new.self all (named (λ s. s.keys) c.loop-name.names.entries) whole c.loop-name.invariant.read
    (λ s. repeats s.1 ≡ true) any_repeats (if_named (string_bytes c.in-Some.name) (digests_at c.in-Some.value) (c.in-Err.ensures.repeated cc))
    (λ s rest twice. any_repeats-at (named (λ s. s.keys) c.loop-name.names.entries) rest s twice)

pub loop-name-preserved : goal.loop-name-preserved
loop-name-preserved c =
    let e : Entry = (c.in-Some.name, c.in-Some.value) in
    let all = c.args.document.entries in
    let old = c.loop-name.names.entries in
    let digests = c.in-Ok.digests in
    let whole : c.loop-name.yielded ++ (e ∷ c.next.new.self) ≡ all =
    turn c.loop-name.yielded c.into_iter-name-iterator.result c.loop-name.name-iterator c.next.new.self all c.next.result e
    c.into_iter-name-iterator.ensures.into_iter_gives.0 c.loop-name.yielded_by c.in-Some.is c.next.ensures.steps in
    let entries : c.add.new.names.entries ≡ old ++ (c.in-Some.name, digests) ∷ [] =
    c.in_ok-add-in-Ok.ensures.added
    ∙ insert_entry-last old (keys_of c.loop-name.yielded) c.in-Some.name (keys_of c.next.new.self) digests c.loop-name.invariant.names
    (in_order c.loop-name.yielded e c.next.new.self all whole c.into_iter-name-iterator.ensures.into_iter_gives.5) in
    let signers : named (λ s. s.keys) c.add.new.names.entries ≡ named (λ s. s.keys) old ++ (string_bytes c.in-Some.name, digests.keys) ∷ [] =
    ap (named (λ s. s.keys)) entries ∙ map-append (λ x. (string_bytes x.0, x.1.keys)) old ((c.in-Some.name, digests) ∷ []) in
    record {
      can_next = tt;
      is_finite = tt;
      read =
          each_of-more signer_at c.loop-name.yielded e (named (λ s. s.keys) old) (string_bytes c.in-Some.name, digests.keys) c.loop-name.invariant.read
          (ap (option_map (λ ds. (string_bytes c.in-Some.name, ds))) c.in-Ok.ensures.read)
          ∙ ap Some (sym signers);
      distinct = ap any_repeats signers ∙ any_repeats-more (named (λ s. s.keys) old) (string_bytes c.in-Some.name, digests.keys) c.loop-name.invariant.distinct c.in-Ok.ensures.distinct;
      ordered = c.add.ensures.ordered;
      names =
          ap keys_of entries
          ∙ (map-append (λ x. x.0) old ((c.in-Some.name, digests) ∷ []) ∙ (ap (λ ks. ks ++ c.in-Some.name ∷ []) c.loop-name.invariant.names ∙ sym (map-append (λ x. x.0) c.loop-name.yielded (e ∷ []))));
    }
