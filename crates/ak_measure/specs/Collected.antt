-- What the values of the code spell.
use Rattle.std.specs.Prelude.{ℕ, List, map, Option, option_and_then, String, string_bytes}
use Rattle.std.specs.Option.{option_map}
use Rattle.std.specs.declared.alloc.Global.{Global}
use Rattle.toml.specs.Data.{as_str}
use Rattle.toml.specs.View.{view}
use Rattle.toml.specs.declared.value.Value.{Value}
use Rattle.ak_measure.specs.Stages.{each_of}
use Rattle.ak_measure.specs.Signers.{Signed, texts_of, spelled_digest}

-- the digest of an item
abbrev pub digest_at : Value → Option (List ℕ)
digest_at item = option_and_then spelled_digest (as_str (view item))

-- the digests of the value of a name
abbrev pub digests_at : Value → Option (List (List ℕ))
digests_at value = option_and_then (each_of spelled_digest) (texts_of (view value))

-- names with what shows the digests of each
abbrev pub named : {X : Type 0} → (X → List (List ℕ)) → List (String Global × X) → Signed
named digests entries = map (λ e. (string_bytes e.0, digests e.1)) entries

-- a name with its digests
abbrev pub signer_at : String Global × Value → Option (List ℕ × List (List ℕ))
signer_at e = option_map (λ digests. (string_bytes e.0, digests)) (digests_at e.1)
