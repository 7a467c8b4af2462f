use Rattle.std.proofs.Common.{Some, None, map, refl, string_bytes}
use Rattle.clap.specs.Words.{app_of, found_of, rows_of}
use Rattle.ak_words.specs.Asked.{Run}
use Rattle.ak_words.specs.Lent.{run_texts}
use Rattle.ak_words.proofs.Finds.{run_asked}
use Rattle.ak_words.proofs.Looks.{all_read_after}
use Rattle.ak_words.proofs.words.read_run.Goals as goal

pub returns-in_default-2-clause-asked : goal.returns-in_default-2-clause-asked
returns-in_default-2-clause-asked c =
    run_asked (app_of c.in-Ok.command) (map string_bytes c.args.words.now) None None c.in-Ok.ensures (all_read_after c.args.words.now)
    (rw c.in_default-2.is at c.in_ok-matches.ensures) refl

pub returns-in_default-run_in-clause-asked : goal.returns-in_default-run_in-clause-asked
returns-in_default-run_in-clause-asked c =
    run_asked (app_of c.in-Ok.command) (map string_bytes c.args.words.now) (Some (rows_of (found_of c.in-Some.matches))) None c.in-Ok.ensures (all_read_after c.args.words.now)
    (rw c.in-Some.is at c.in_ok-matches.ensures) c.in_default-run_in.ensures.run

pub returns-clause-asked : goal.returns-clause-asked
returns-clause-asked c =
    run_asked (app_of c.in-Ok.command) (map string_bytes c.args.words.now) (Some (rows_of (found_of c.in-Some.matches))) (Some (Run (run_texts c.in-Some-run_in.run'))) c.in-Ok.ensures (all_read_after c.args.words.now)
    (rw c.in-Some.is at c.in_ok-matches.ensures) c.in-Some-run_in.ensures.run
