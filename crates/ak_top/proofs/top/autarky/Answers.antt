use Rattle.std.proofs.Common.{◌≡◌, refl, sym, subst}
use Rattle.std.specs.Prelude.{Option, Some, None, Ok, Err, map, string_bytes}
use Rattle.ak_words.specs.Asked.{AskedTexts, words_of}
use Rattle.ak_words.specs.Lent.{asked_of}
use Rattle.ak_top.specs.Seen.{files_at, sink_at}
use Rattle.ak_top.specs.TopCall.{Serves}
use Rattle.ak_top.specs.Trouble.{line_of, status_of}
use Rattle.ak_top.specs.Told.{Told}
use Rattle.ak_top.specs.declared.left.Left.TheVariants as left
use Rattle.ak_top.specs.declared.trouble.Trouble.{Trouble}
use Rattle.ak_top.specs.declared.trouble.Trouble.TheVariants.{OutOfMemory}
use Rattle.ak_top.proofs.Statuses.{serves_usage, serves_nothing, serves}
use Rattle.ak_top.proofs.top.autarky.Goals as goal

pub returns-in-Ok-None : goal.returns-in-Ok-None
returns-in-Ok-None g c =
    let files = files_at g.F.Files c.args.files.now in
    let out = sink_at g.O.Sink c.args.out.now in
    let err = sink_at g.E.Sink c.args.err.now in
    let err' = sink_at g.E.Sink c.tell.new.err in
    let words = rw c.in-Ok-None.field-0-is at c.in-Ok-None.ensures.asked in
    let Q : Option AskedTexts → Type 0 = λ command. Serves c.tell.result command files files out out err err' left.Nothing in
    subst Q words
    (subst (λ status. Serves status None files files out out err err' left.Nothing) (sym c.tell.ensures.status) (serves_usage files out err err' c.tell.ensures.line))

pub returns-in-Err : goal.returns-in-Err
returns-in-Err g c =
    let files = files_at g.F.Files c.args.files.now in
    let out = sink_at g.O.Sink c.args.out.now in
    let err = sink_at g.E.Sink c.args.err.now in
    let err' = sink_at g.E.Sink c.tell-in-Err.new.err in
    let command = words_of (map string_bytes c.args.words.now) in
    let is : c.from.result ≡ OutOfMemory = c.from.ensures in
    let line = subst (λ (trouble : Trouble). Told err err' (line_of trouble None)) is c.tell-in-Err.ensures.line in
    let status = subst (λ (trouble : Trouble). c.tell-in-Err.result ≡ status_of trouble) is c.tell-in-Err.ensures.status in
    subst (λ status. Serves status command files files out out err err' left.Nothing) (sym status) (serves_nothing command files out err err' line)

pub returns-in-Ok : goal.returns-in-Ok
returns-in-Ok g c =
    let files = files_at g.F.Files c.args.files.now in
    let files' = files_at g.F.Files c.do_command.new.files in
    let out = sink_at g.O.Sink c.args.out.now in
    let out' = sink_at g.O.Sink c.do_command.new.out in
    let err = sink_at g.E.Sink c.args.err.now in
    let words = rw c.in-Ok-Some.field-0-is at c.in-Ok-Some.ensures.asked in
    let command = asked_of c.in-Ok-Some.command in
    let Q : Option AskedTexts → Type 0 = λ command. Serves c.status-status.result command files files' out out' err err c.in-Ok.done in
    subst Q words
    (subst (λ status. Serves status (Some command) files files' out out' err err c.in-Ok.done) (sym c.status-status.ensures)
    (serves command files files' out out' err err (Ok c.in-Ok.done) c.in-Ok.ensures refl))

pub returns-in-Err-do_command : goal.returns-in-Err-do_command
returns-in-Err-do_command g c =
    let files = files_at g.F.Files c.args.files.now in
    let files' = files_at g.F.Files c.do_command.new.files in
    let out = sink_at g.O.Sink c.args.out.now in
    let out' = sink_at g.O.Sink c.do_command.new.out in
    let err = sink_at g.E.Sink c.args.err.now in
    let err' = sink_at g.E.Sink c.tell-in-Err-do_command.new.err in
    let words = rw c.in-Ok-Some.field-0-is at c.in-Ok-Some.ensures.asked in
    let command = asked_of c.in-Ok-Some.command in
    let Q : Option AskedTexts → Type 0 = λ command. Serves c.tell-in-Err-do_command.result command files files' out out' err err' left.Nothing in
    subst Q words
    (subst (λ status. Serves status (Some command) files files' out out' err err' left.Nothing) (sym c.tell-in-Err-do_command.ensures.status)
    (serves command files files' out out' err err' (Err c.in-Err-do_command.trouble) c.in-Err-do_command.ensures c.tell-in-Err-do_command.ensures.line))
