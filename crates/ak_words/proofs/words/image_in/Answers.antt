use Rattle.std.proofs.Common.{Some, None}
use Rattle.clap.specs.Words.{found_of}
use Rattle.ak_words.proofs.Finds.{image_found}
use Rattle.ak_words.proofs.words.image_in.Goals as goal

pub returns-in_default-clause-image : goal.returns-in_default-clause-image
returns-in_default-clause-image c = image_found (found_of c.args.matches.now) None c.in_default.ensures

pub returns-clause-image : goal.returns-clause-image
returns-clause-image c = image_found (found_of c.args.matches.now) (Some c.in-Some.image.now) c.in-Some.ensures
