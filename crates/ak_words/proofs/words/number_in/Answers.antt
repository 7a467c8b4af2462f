use Rattle.std.proofs.Common.{Some, None, refl, ap}
use Rattle.std.specs.Option.{option_map}
use Rattle.clap.specs.Words.{found_of}
use Rattle.ak_words.specs.Asked.{Demo}
use Rattle.ak_words.proofs.Finds.{number_found}
use Rattle.ak_words.proofs.words.number_in.Goals as goal

pub returns-in_default-clause-number : goal.returns-in_default-clause-number
returns-in_default-clause-number c = number_found (found_of c.args.matches.now) None None c.in_default.ensures refl

pub returns-in_default-number_between-clause-number : goal.returns-in_default-number_between-clause-number
returns-in_default-number_between-clause-number c =
    number_found (found_of c.args.matches.now) (Some c.in-Some.text.now) None c.in-Some.ensures (ap (option_map Demo) c.in_default-number_between.ensures.number)

pub returns-clause-number : goal.returns-clause-number
returns-clause-number c =
    number_found (found_of c.args.matches.now) (Some c.in-Some.text.now) _ c.in-Some.ensures (ap (option_map Demo) c.in-Some-number_between.ensures.number)
