use Rattle.std.proofs.Common.{◌≡◌, rules}
use Rattle.std.specs.Prelude.{Ok, IsErrAnd, MatchResult}
use Rattle.ak_top.specs.Seen.{files_at}
use Rattle.ak_top.specs.Trouble.{trouble_of_read}
use Rattle.ak_top.proofs.FileReads.{file_read_or}
use Rattle.ak_top.proofs.inputs.read_file.Goals as goal

pub returns-clause-reads : goal.returns-clause-reads
returns-clause-reads g c =
    let before = files_at g.F.Files c.args.files.now in
    let after = files_at g.F.Files c.read.new.self in
    let read = c.read.ensures in
    let given = c.map_err.result in
    let is : MatchResult c.read.result (λ v. given ≡ Ok v) (λ f. IsErrAnd given (λ trouble. trouble ≡ trouble_of_read f c.args.place)) = search rules in
    file_read_or c.args.place c.args.name.now before after c.read.result read.bytes read.keeps read.tells read.asked read.handed read.within read.count given is
