use Rattle.clap.specs.Words.{app_of}
use Rattle.ak_words.proofs.Finds.{refused_for, taken}
use Rattle.ak_words.proofs.commands.matches_of.Goals as goal

pub returns-in-Ok : goal.returns-in-Ok
returns-in-Ok c = taken (app_of c.args.command) _ c.in-Ok.matches c.requires c.in-Ok.ensures.matches c.in-Ok.ensures.kinds

pub returns : goal.returns
returns c =
    refused_for (app_of c.args.command) _ c.kind.result c.requires (λ t. rw c.kind.ensures (c.in-Err.ensures.kinds t)) c.in_default.not-OutOfMemory
