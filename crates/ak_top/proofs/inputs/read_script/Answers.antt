use Rattle.std.proofs.Common.{ap}
use Rattle.std.proofs.lemmas.Result.{err_from_is_err_and}
use Rattle.std.specs.Prelude.{Ok, Err}
use Rattle.ak_script.specs.Script.{script_of}
use Rattle.ak_top.specs.Inputs.{or_trouble, script_trouble, script_in}
use Rattle.ak_top.specs.declared.trouble.Place.TheVariants as place
use Rattle.ak_top.proofs.FileReads.{not_read, then_said, value_due, script_due, script_read}
use Rattle.ak_top.proofs.inputs.read_script.Goals as goal

pub returns-in_err-bytes : goal.returns-in_err-bytes
unfolding script_in
returns-in_err-bytes g c =
    let p = err_from_is_err_and c.from_residual.result c.from_residual.ensures.1 in
    rw (p.1, p.2) (not_read place.Script _ _ _ (λ bytes. or_trouble script_trouble (script_of bytes)) c.in_err-bytes.field-0.0 c.in_err-bytes.ensures.reads)

pub returns-in_err-read : goal.returns-in_err-read
unfolding script_in
returns-in_err-read g c =
    let p = err_from_is_err_and c.from_residual-in_err-read.result c.from_residual-in_err-read.ensures.1 in
    let refused = rw c.deref.ensures.value at c.in_err-read.ensures.refused in
    let fault = c.in_err-read.field-0.0 in
    rw (p.1, p.2) (then_said place.Script _ _ _ (λ bytes. or_trouble script_trouble (script_of bytes)) c.in_ok-bytes.bytes.items _ c.in_ok-bytes.ensures.reads
    (script_due _ fault (λ line why e. refused line why (ap (λ fault. Err fault) e))) (script_read fault))

pub returns : goal.returns
unfolding script_in
returns g c =
    let value = rw c.deref.ensures.value at c.in_ok-read.ensures.read in
    then_said place.Script _ _ _ (λ bytes. or_trouble script_trouble (script_of bytes)) c.in_ok-bytes.bytes.items (Ok c.in_ok-read.field-0) c.in_ok-bytes.ensures.reads
    (value_due script_trouble _ _ value) tt
