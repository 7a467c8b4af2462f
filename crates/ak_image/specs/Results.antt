-- What a stage's result says.
use Rattle.std.specs.Prelude.{◌≡◌, ◌≢◌, Result, Ok, Err, MatchResult}
use Rattle.ak_image.specs.declared.fault.ImageFault.{ImageFault}
use Rattle.ak_image.specs.declared.fault.ImageFault.TheVariants.{OutOfMemory}

-- the call gave what it should give, seen by a view, or the refusal that it should give, unless memory ran out
abbrev pub Gives : {A B : Type 0} → (A → B) → Result A ImageFault → Result B ImageFault → Type 0
Gives view result wanted = MatchResult result (λ x. wanted ≡ Ok (view x)) (λ fault. fault ≢ OutOfMemory → wanted ≡ Err fault)
