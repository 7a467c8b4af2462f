-- The stages of reading signers, by the values of the code.
use Rattle.std.proofs.Common.{◌≡◌, ℕ, true, false, cond, List, [], ◌∷◌, Option, Some, None, option_map, is_some, IsSome, Result, Ok, Err, string_bytes, refl, ap, ◌∙◌}
use Rattle.std.specs.List.{list_all}
use Rattle.std.specs.Option.{option_and_then, ok_or, IfSome}
use Rattle.std.specs.Map.{values_of}
use Rattle.toml.specs.Data.{Data, Members}
use Rattle.toml.specs.View.{view, members_view}
use Rattle.toml.proofs.Views.{Entry}
use Rattle.ak_measure.specs.Collected.{digests_at, signer_at}
use Rattle.ak_measure.specs.Document.{document_of, entries_of}
use Rattle.ak_measure.specs.Stages.{◌>>=◌, each_of}
use Rattle.ak_measure.specs.Signers.{Signed, each_named, texts_of, spelled_digest, any_repeats, signers_of}
use Rattle.ak_measure.specs.declared.fault.SignersFault.{SignersFault}
use Rattle.ak_measure.specs.declared.fault.SignersFault.TheVariants.{NotToml, BadKey, BadDigest, Repeated}
use Rattle.ak_measure.proofs.Documents.{entries_of-members_view}
use Rattle.ak_measure.proofs.Reading.{is_some-each_of, each_of-map, each_of-then, each_of-same}

-- a name and what belongs to it
abbrev with_name : {B : Type 0} → List ℕ → B → List ℕ × B
with_name name y = (name, y)

-- what is read of the values of the entries, with their names
abbrev named_by : {B : Type 0} → (Data → Option B) → Entry → Option (List ℕ × B)
named_by read e = option_map (with_name (string_bytes e.0)) (read (view e.1))

each_named-entries : {B : Type 0} (read : Data → Option B) (es : List Entry) → each_named read (entries_of (members_view es)) ≡ each_of (named_by read) es
each_named-entries read es =
    ap (each_named read) (entries_of-members_view es) ∙ each_of-map (λ e. option_map (with_name e.0) (read e.1)) (λ e. with_name (string_bytes e.0) (view e.1)) es

is_some-option_map : {A B : Type 0} (f : A → B) (o : Option A) → is_some (option_map f o) ≡ is_some o
is_some-option_map f None = refl
is_some-option_map f (Some x) = refl

all-named_by : {B : Type 0} (read : Data → Option B) (es : List Entry) → list_all (λ e. is_some (named_by read e)) es ≡ list_all (λ v. is_some (read (view v))) (values_of es)
all-named_by read [] = refl
all-named_by read (e ∷ es) = rw (is_some-option_map (with_name (string_bytes e.0)) (read (view e.1)), all-named_by read es) refl

-- something is read of the value of each name
is_some-each_named : {B : Type 0} (read : Data → Option B) (es : List Entry) → is_some (each_named read (entries_of (members_view es))) ≡ list_all (λ v. is_some (read (view v))) (values_of es)
is_some-each_named read es = ap is_some (each_named-entries read es) ∙ (is_some-each_of (named_by read) es ∙ all-named_by read es)

-- the digests that the texts of a name spell
abbrev each_digests : List ℕ × List (List ℕ) → Option (List ℕ × List (List ℕ))
each_digests t = option_map (with_name t.0) (each_of spelled_digest t.1)

-- the digests of all values, with their names
named_signers : (es : List Entry) → option_and_then (each_named (each_of spelled_digest)) (each_named texts_of (entries_of (members_view es))) ≡ each_of signer_at es
named_signers es =
    ap (option_and_then (each_named (each_of spelled_digest))) (each_named-entries texts_of es)
    ∙ (each_of-then (named_by texts_of) each_digests es
    ∙ each_of-same (λ e. option_and_then each_digests (named_by texts_of e)) signer_at (λ e. same (string_bytes e.0) (texts_of (view e.1))) es)
  where
    same : (name : List ℕ) (texts : Option (List (List ℕ)))
        → option_and_then each_digests (option_map (with_name name) texts) ≡ option_map (with_name name) (option_and_then (each_of spelled_digest) texts)
    same name None = refl
    same name (Some texts) = refl

all_signers : (es : List Entry) → list_all (λ e. is_some (signer_at e)) es ≡ list_all (λ v. is_some (digests_at v)) (values_of es)
all_signers [] = refl
all_signers (e ∷ es) = rw (is_some-option_map (with_name (string_bytes e.0)) (digests_at e.1), all_signers es) refl

-- digests are read of the value of each name
is_some-signers : (es : List Entry) → is_some (each_of signer_at es) ≡ list_all (λ v. is_some (digests_at v)) (values_of es)
is_some-signers es = is_some-each_of signer_at es ∙ all_signers es

-- the last two stages
abbrev judged : Option Signed → Result Signed SignersFault
judged signers = ok_or signers BadDigest >>= λ s. cond (any_repeats s) (Err Repeated) (Ok s)

-- the last three
abbrev staged : Option Signed → Result Signed SignersFault
staged texts = ok_or texts BadKey >>= λ t. judged (each_named (each_of spelled_digest) t)

staged-judged : (texts signers : Option Signed) → is_some texts ≡ true → option_and_then (each_named (each_of spelled_digest)) texts ≡ signers → staged texts ≡ judged signers
staged-judged None signers some is = cc
staged-judged (Some texts) signers some is = ap judged is

nothing : {A : Type 0} (o : Option A) → is_some o ≡ false → o ≡ None
nothing None none = refl
nothing (Some x) none = cc

module _ (bytes : List ℕ) (es : List Entry) (read : document_of bytes ≡ Some (members_view es)) where
  by_stages : signers_of bytes ≡ staged (each_named texts_of (entries_of (members_view es)))
  by_stages = ap (λ (o : Option Members). ok_or o NotToml >>= λ d. staged (each_named texts_of (entries_of d))) read

  pub signers_of-bad_key : list_all (λ v. is_some (texts_of (view v))) (values_of es) ≡ false → signers_of bytes ≡ Err BadKey
  signers_of-bad_key bad = by_stages ∙ ap staged (nothing _ (is_some-each_named texts_of es ∙ bad))

  module _ (good : list_all (λ v. is_some (texts_of (view v))) (values_of es) ≡ true) where
    by_judgement : signers_of bytes ≡ judged (each_of signer_at es)
    by_judgement = by_stages ∙ staged-judged _ _ (is_some-each_named texts_of es ∙ good) (named_signers es)

    pub signers_of-bad_digest : list_all (λ v. is_some (digests_at v)) (values_of es) ≡ false → signers_of bytes ≡ Err BadDigest
    signers_of-bad_digest bad = by_judgement ∙ ap judged (nothing _ (is_some-signers es ∙ bad))

    pub signers_of-signers : (signers : Signed) → each_of signer_at es ≡ Some signers → any_repeats signers ≡ false → signers_of bytes ≡ Ok signers
    signers_of-signers signers are once = by_judgement ∙ (ap judged are ∙ ap (λ b. cond b (Err Repeated) (Ok signers)) once)

    pub signers_of-repeated : list_all (λ v. is_some (digests_at v)) (values_of es) ≡ true → IfSome (each_of signer_at es) (λ signers. any_repeats signers ≡ true)
        → signers_of bytes ≡ Err Repeated
    signers_of-repeated all twice = by_judgement ∙ judged-repeated (each_of signer_at es) (is_some-signers es ∙ all) twice
      where
        judged-repeated : (signers : Option Signed) → IsSome signers → IfSome signers (λ s. any_repeats s ≡ true) → judged signers ≡ Err Repeated
        judged-repeated None some twice = cc
        judged-repeated (Some s) some twice = ap (λ b. cond b (Err Repeated) (Ok s)) twice
