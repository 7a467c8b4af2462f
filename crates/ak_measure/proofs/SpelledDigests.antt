-- What the tests of values say of the document.
use Rattle.std.proofs.Common.{◌≡◌, Vec, Global, is_some, ap, ◌∙◌}
use Rattle.std.specs.Option.{option_and_then}
use Rattle.std.specs.List.{list_all}
use Rattle.toml.specs.Data.{as_str}
use Rattle.toml.specs.View.{view}
use Rattle.toml.specs.declared.value.Value.{Value, Array}
use Rattle.toml.proofs.Views.{view-Array}
use Rattle.ak_measure.specs.Stages.{each_of}
use Rattle.ak_measure.specs.Signers.{texts_of, spelled_digest}
use Rattle.ak_measure.proofs.Documents.{listed-items_view}
use Rattle.ak_measure.proofs.Reading.{is_some-each_of, each_of-map, each_of-then}

-- the texts of an array
texts_of-Array : (value : Value) (items : Vec Value Global) → value ≡ Array items → texts_of (view value) ≡ each_of (λ v. as_str (view v)) items.items
texts_of-Array value items is =
    ap (λ v. texts_of (view v)) is ∙ (ap texts_of (view-Array items) ∙ (ap (each_of as_str) (listed-items_view items.items) ∙ each_of-map as_str view items.items))

-- the digests of an array
pub digests_of-Array : (value : Value) (items : Vec Value Global) → value ≡ Array items
    → option_and_then (each_of spelled_digest) (texts_of (view value)) ≡ each_of (λ v. option_and_then spelled_digest (as_str (view v))) items.items
digests_of-Array value items is =
    ap (option_and_then (each_of spelled_digest)) (texts_of-Array value items is) ∙ each_of-then (λ v. as_str (view v)) spelled_digest items.items

pub is_some-texts_of : (value : Value) (items : Vec Value Global) → value ≡ Array items → is_some (texts_of (view value)) ≡ list_all (λ v. is_some (as_str (view v))) items.items
is_some-texts_of value items is = ap is_some (texts_of-Array value items is) ∙ is_some-each_of (λ v. as_str (view v)) items.items

pub is_some-digests_of : (value : Value) (items : Vec Value Global) → value ≡ Array items
    → is_some (option_and_then (each_of spelled_digest) (texts_of (view value))) ≡ list_all (λ v. is_some (option_and_then spelled_digest (as_str (view v)))) items.items
is_some-digests_of value items is =
    ap is_some (digests_of-Array value items is) ∙ is_some-each_of (λ v. option_and_then spelled_digest (as_str (view v))) items.items
