use Rattle.std.proofs.Common.{◌≡◌, ℕ, ◌+◌, List, true, false, refl, ap, sym, ◌∙◌}
use Rattle.std.specs.Prelude.{Err}
use Rattle.sha2.specs.Sha256.{sha256}
use Rattle.ak_image.specs.Built.{pages_of, digest_of}
use Rattle.ak_image.specs.Image.{Image}
use Rattle.ak_image.proofs.Measured.{digest_of-all}
use Rattle.ak_measure.specs.Signers.{Signed, knows, allows}
use Rattle.ak_build.specs.Adding.{blocks_so_far}
use Rattle.ak_build.proofs.Stands.{built_as, holds_pages}
use Rattle.ak_build.proofs.building.build.Goals as goal

-- the signers know the name, and do not allow the digest under it
abbrev NotSigned : Signed → List ℕ → List ℕ → Type 0
NotSigned signers name digest = (knows signers name ≡ true) × (allows signers name digest ≡ false)

-- it is said of the blocks that were absorbed as of the digest of the image
as_measured : (signers : Signed) (image : Image) (name : List ℕ) → name ≡ image.signer → NotSigned signers image.signer (digest_of image) →
    NotSigned signers name (sha256 (blocks_so_far image (pages_of image + 6)))
as_measured signers image name named h = (
  ap (knows signers) named ∙ h.0,
  ap (λ (n : List ℕ). allows signers n (sha256 (blocks_so_far image (pages_of image + 6)))) named
      ∙ ap (allows signers image.signer) (digest_of-all image (pages_of image + 6) refl) ∙ h.1,
)

of_image : (signers : Signed) (image : Image) (name : List ℕ) → name ≡ image.signer → NotSigned signers name (sha256 (blocks_so_far image (pages_of image + 6))) →
    NotSigned signers image.signer (digest_of image)
of_image signers image name named h = (
  ap (knows signers) (sym named) ∙ h.0,
  ap (allows signers image.signer) (sym (digest_of-all image (pages_of image + 6) refl))
      ∙ ap (λ (n : List ℕ). allows signers n (sha256 (blocks_so_far image (pages_of image + 6)))) (sym named) ∙ h.1,
)

pub returns-in-Ok-einit-clause-unsigned : goal.returns-in-Ok-einit-clause-unsigned
returns-in-Ok-einit-clause-unsigned c =
    let image = c.args.image.now in
    let said = c.in-Ok-einit.ensures.unsigned (blocks_so_far image (pages_of image + 6)) c.in-Ok.ensures.added.measured in
    (λ e. absurd (cc), λ refused. let wrong = said.1 (as_measured c.args.signers.now image c.signer.result.now c.signer.ensures refused) in absurd (cc))

pub returns-in-Ok-einit-clause-built : goal.returns-in-Ok-einit-clause-built
returns-in-Ok-einit-clause-built c = λ processors out.
    built_as c.args.image.now c.args.frames c.args.lps c.in-Ok.built c.in-Ok.ensures.bytes c.in-Ok.ensures.added c.in-Ok.ensures.mapped processors out

pub returns-in-Ok-einit-clause-pages : goal.returns-in-Ok-einit-clause-pages
returns-in-Ok-einit-clause-pages c = holds_pages c.args.image.now c.args.frames c.args.lps c.in-Ok.built.encls c.in-Ok.ensures.added

pub returns-clause-unsigned : goal.returns-clause-unsigned
returns-clause-unsigned c =
    let image = c.args.image.now in
    let said = c.in-Err-MeasurementNotSigned.ensures.unsigned (blocks_so_far image (pages_of image + 6)) c.in-Ok.ensures.added.measured in
    (λ e. of_image c.args.signers.now image c.signer.result.now c.signer.ensures (said.0 (ap Err c.in-Err-MeasurementNotSigned.field-0-is)), λ refused. refl)
