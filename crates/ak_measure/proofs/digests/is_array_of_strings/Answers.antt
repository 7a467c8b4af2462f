use Rattle.std.proofs.Common.{sym}
use Rattle.ak_measure.proofs.SpelledDigests.{is_some-texts_of}
use Rattle.ak_measure.proofs.digests.is_array_of_strings.Goals as goal

pub returns-in-Array : goal.returns-in-Array
returns-in-Array c = rw (c.are_strings.ensures, c.deref.ensures.value) (sym (is_some-texts_of c.args.value.now c.in-Array.items c.in-Array.is))
