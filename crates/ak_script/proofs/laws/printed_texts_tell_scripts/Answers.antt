use Rattle.std.proofs.Common.{◌∙◌, ap, sym}
use Rattle.ak_script.specs.Script.{script_of}
use Rattle.ak_script.proofs.PrintedRead.{printed_is_read}
use Rattle.ak_script.proofs.laws.printed_texts_tell_scripts.Goals as goal

pub returns : goal.returns
returns c first second keeps keeps_too same =
    let read = sym (printed_is_read first keeps) ∙ ap script_of same ∙ printed_is_read second keeps_too in
    cc
