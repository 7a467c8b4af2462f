-- A run's enclave is built where its image is signed.
use Rattle.std.proofs.Common.{◌≡◌, refl, Bool, true, false}
use Rattle.std.specs.Prelude.{Ok, Err, not, if◌then◌else◌}
use Rattle.ak_image.specs.Built.{digest_of}
use Rattle.ak_measure.specs.Signers.{knows, allows}
use Rattle.ak_core.specs.declared.failure.BuildFault.{BuildFault}
use Rattle.ak_core.specs.declared.failure.BuildFault.TheVariants.{UnknownSigner as NoSuchSigner, MeasurementNotSigned, OutOfMemory as OutOfMemoryBuild}
use Rattle.ak_top.specs.Inputs.{signed}
use Rattle.ak_top.specs.Trouble.{trouble_of_build}
use Rattle.ak_top.specs.declared.inputs.Inputs.{Inputs}
use Rattle.ak_top.specs.declared.trouble.Trouble.TheVariants.{UnknownSigner, NotSigned, OutOfMemory}

is_true : (b : Bool) → (b ≡ false → ⊥) → b ≡ true
is_true true h = refl
is_true false h = absurd (h refl)

-- the signer is known, and signed the image's measurement
pub signed_is : (inputs : Inputs) → (knows inputs.signers inputs.image.signer ≡ false → ⊥) →
    ((knows inputs.signers inputs.image.signer ≡ true) × (allows inputs.signers inputs.image.signer (digest_of inputs.image) ≡ false) → ⊥) → signed inputs ≡ Ok inputs
signed_is inputs known allowed =
    by_tests (knows inputs.signers inputs.image.signer) (allows inputs.signers inputs.image.signer (digest_of inputs.image))
    (is_true (knows inputs.signers inputs.image.signer) known)
    (is_true (allows inputs.signers inputs.image.signer (digest_of inputs.image)) (λ e. allowed (is_true (knows inputs.signers inputs.image.signer) known, e)))
  where
    by_tests : (a b : Bool) → a ≡ true → b ≡ true → (if not a then Err UnknownSigner else if not b then Err NotSigned else Ok inputs) ≡ Ok inputs
    by_tests true true e f = refl
    by_tests true false e f = absurd (cc)
    by_tests false b e f = absurd (cc)

-- where its own signer signed it, its build fails only where memory ran out
pub only_memory : (fault : BuildFault) → (fault ≡ NoSuchSigner → ⊥) → (fault ≡ MeasurementNotSigned → ⊥) → trouble_of_build fault ≡ OutOfMemory
only_memory OutOfMemoryBuild known allowed = refl
only_memory NoSuchSigner known allowed = absurd (known refl)
only_memory MeasurementNotSigned known allowed = absurd (allowed refl)
