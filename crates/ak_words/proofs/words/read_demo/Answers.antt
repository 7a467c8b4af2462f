use Rattle.std.proofs.Common.{Some, None, map, option_map, refl, string_bytes}
use Rattle.clap.specs.Words.{app_of, found_of, rows_of}
use Rattle.ak_words.specs.Lent.{asked_of}
use Rattle.ak_words.proofs.Finds.{demo_asked}
use Rattle.ak_words.proofs.Looks.{all_read_after}
use Rattle.ak_words.proofs.words.read_demo.Goals as goal

pub returns-in_default-2-clause-asked : goal.returns-in_default-2-clause-asked
returns-in_default-2-clause-asked c =
    demo_asked (app_of c.in-Ok.command) (map string_bytes c.args.words.now) None None c.in-Ok.ensures (all_read_after c.args.words.now)
    (rw c.in_default-2.is at c.in_ok-matches.ensures) refl

pub returns-clause-asked : goal.returns-clause-asked
returns-clause-asked c =
    demo_asked (app_of c.in-Ok.command) (map string_bytes c.args.words.now) (Some (rows_of (found_of c.in-Some.matches))) (option_map asked_of c.number_in.result) c.in-Ok.ensures (all_read_after c.args.words.now)
    (rw c.in-Some.is at c.in_ok-matches.ensures) c.number_in.ensures.number
