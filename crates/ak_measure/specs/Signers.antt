-- The signers that a file names, each with the digests of the enclaves that it signed.
use Rattle.std.specs.Prelude.{◌≡◌, ⊤, ◌⊎◌, ℕ, Bool, false, ◌||◌, List, [], ◌∷◌, map, Option, None, Result, Ok, Err, is_some, Contains, if◌then◌else◌}
use Rattle.std.specs.Cmp.Lexicographic.{slice_cmp}
use Rattle.std.specs.List.{list_any}
use Rattle.std.specs.List.Sorted.{IsStrictlySortedBy}
use Rattle.std.specs.Map.{lookup}
use Rattle.std.specs.Ordering.{nat_cmp}
use Rattle.std.specs.Option.{ok_or, option_map, option_map_or}
use Rattle.std.specs.Result.{result_ok}
use Rattle.std.specs.Str.{bytes_eq}
use Rattle.hex.specs.Hex.{decode_sized}
use Rattle.toml.specs.Data.{Data, array, as_str}
use Rattle.ak_measure.specs.Document.{document_of, listed, entries_of}
use Rattle.ak_measure.specs.Stages.{◌>>=◌, each_of}
use Rattle.ak_measure.specs.declared.fault.SignersFault.{SignersFault}
use Rattle.ak_measure.specs.declared.fault.SignersFault.TheVariants.{NotToml, BadKey, BadDigest, Repeated, OutOfMemory}

-- names, each with what belongs to it
abbrev pub Named : Type 0 → Type 0
Named A = List (List ℕ × A)

-- the names
abbrev pub names_of : {A : Type 0} → Named A → List (List ℕ)
names_of named = map (λ e. e.0) named

-- the same names, with what is read of what belongs to each
abbrev pub each_named : {A B : Type 0} → (A → Option B) → Named A → Option (Named B)
each_named read named = each_of (λ e. option_map (λ y. (e.0, y)) (read e.1)) named

-- signers, each with the digests of the enclaves that it signed
abbrev pub Signed : Type 0
Signed = Named (List (List ℕ))

-- one signer, who signed one enclave
abbrev pub single : List ℕ → List ℕ → Signed
single name digest = (name, digest ∷ []) ∷ []

-- the texts of an array of strings
abbrev pub texts_of : Data → Option (List (List ℕ))
texts_of (array items) = each_of as_str (listed items)
texts_of _ = None

-- the 32 bytes that 64 hexadecimal digits spell, in either case
abbrev pub spelled_digest : List ℕ → Option (List ℕ)
spelled_digest text = result_ok (decode_sized text 32)

-- a digest stands twice
abbrev pub repeats : List (List ℕ) → Bool
repeats [] = false
repeats (digest ∷ digests) = list_any (λ later. bytes_eq later digest) digests || repeats digests

-- a signer has a digest twice
abbrev pub any_repeats : Signed → Bool
any_repeats signers = list_any (λ s. repeats s.1) signers

-- the signers that the bytes spell, each with its digests; or the first reason why they spell none
abbrev pub signers_of : List ℕ → Result (Signed) SignersFault
signers_of bytes = do
  document ← ok_or (document_of bytes) NotToml
  texts ← ok_or (each_named texts_of (entries_of document)) BadKey
  signers ← ok_or (each_named (each_of spelled_digest) texts) BadDigest
  if any_repeats signers then Err Repeated else Ok signers

-- the digests of a signer, where there is one of this name
abbrev pub digests_of : Signed → List ℕ → Option (List (List ℕ))
digests_of signers name = lookup (bytes_eq name) signers

-- there is a signer of this name
abbrev pub knows : Signed → List ℕ → Bool
knows signers name = is_some (digests_of signers name)

-- there is one, and it signed this digest
abbrev pub allows : Signed → List ℕ → List ℕ → Bool
allows signers name digest = option_map_or (list_any (bytes_eq digest)) (digests_of signers name) false

-- a signer of this name has this digest among its digests
abbrev pub HasSigned : Signed → List ℕ → List ℕ → Type 0
HasSigned signers name digest = (digests : List (List ℕ)) × Contains signers (name, digests) × Contains digests digest

-- names ascend, so that each is there once
abbrev pub Ascend : List (List ℕ) → Type 0
Ascend names = IsStrictlySortedBy (slice_cmp nat_cmp) names

-- bytes are refused with this fault: memory ran out, or it is the reason why they spell no signers
abbrev pub IsReason : Result (Signed) SignersFault → SignersFault → Type 0
IsReason spelled OutOfMemory = ⊤
IsReason spelled fault = spelled ≡ Err fault

-- the answer is this fault, or memory ran out
abbrev pub IsRefusedFor : Result (Signed) SignersFault → SignersFault → Type 0
IsRefusedFor answer fault = (answer ≡ Err fault) ⊎ (answer ≡ Err OutOfMemory)
