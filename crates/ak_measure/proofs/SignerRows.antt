-- What small signers files spell.
use Rattle.std.proofs.Common.{◌≡◌, ℕ, List, [], ◌∷◌, ◌++◌, Ok, Err, codes, replicate, refl}
use Rattle.std.specs.Str.{is_utf8, chars}
use Rattle.hex.proofs.OnLiterals.{hex_on_literals}
use Rattle.toml.proofs.OnLiterals.{toml_on_literals}
use Rattle.ak_measure.specs.Signers.{signers_of}
use Rattle.ak_measure.specs.declared.fault.SignersFault.TheVariants.{NotToml, BadKey, BadDigest, Repeated}

-- a line with a name and two digests, each of 62 zeros and two more digits
abbrev line : List ℕ → List ℕ → List ℕ
line first second =
    codes "lab = ['00000000000000000000000000000000000000000000000000000000000000" ++ first
    ++ codes "', '00000000000000000000000000000000000000000000000000000000000000" ++ second ++ codes "']\n"

nothing : signers_of [] ≡ Ok []
unfolding is_utf8 chars toml_on_literals
nothing = refl

no_digest : signers_of (codes "lab = [] # none yet\r\n") ≡ Ok ((codes "lab", []) ∷ [])
unfolding is_utf8 chars toml_on_literals
no_digest = refl

two_digests : signers_of (line (codes "aB") (codes "00")) ≡ Ok ((codes "lab", (replicate 31 0 ++ 171 ∷ []) ∷ replicate 32 0 ∷ []) ∷ [])
unfolding is_utf8 chars toml_on_literals hex_on_literals
two_digests = refl

same_digest : signers_of (line (codes "aB") (codes "Ab")) ≡ Err Repeated
unfolding is_utf8 chars toml_on_literals hex_on_literals
same_digest = refl

long_digest : signers_of (line (codes "00") (codes "000")) ≡ Err BadDigest
unfolding is_utf8 chars toml_on_literals hex_on_literals
long_digest = refl

no_array : signers_of (codes "lab = ''\n") ≡ Err BadKey
unfolding is_utf8 chars toml_on_literals
no_array = refl

same_name : signers_of (codes "lab = []\nlab = []\n") ≡ Err NotToml
unfolding is_utf8 chars toml_on_literals
same_name = refl

-- with two reasons, the first one
key_before_digest : signers_of (codes "a = ['']\nb = 1\n") ≡ Err BadKey
unfolding is_utf8 chars toml_on_literals hex_on_literals
key_before_digest = refl

digest_before_repeated : signers_of (line (codes "00") (codes "00") ++ codes "z = ['']\n") ≡ Err BadDigest
unfolding is_utf8 chars toml_on_literals hex_on_literals
digest_before_repeated = refl

byte_order_mark : signers_of (0xef ∷ 0xbb ∷ 0xbf ∷ codes "lab = []") ≡ Ok ((codes "lab", []) ∷ [])
unfolding is_utf8 chars toml_on_literals
byte_order_mark = refl

no_text : signers_of (0x23 ∷ 0xff ∷ []) ≡ Err NotToml
unfolding is_utf8 chars toml_on_literals
no_text = refl
