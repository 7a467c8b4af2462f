use Rattle.std.proofs.Common.{◌≡◌, Some, ◌∙◌, sym, rules}
use Rattle.toml.specs.View.{table_view}
use Rattle.ak_measure.specs.Document.{document_of}
use Rattle.ak_measure.proofs.Documents.{document_of-read, document_of-none}
use Rattle.ak_measure.proofs.document.read_document.Goals as goal

pub returns-in-Ok-clause-read : goal.returns-in-Ok-clause-read
returns-in-Ok-clause-read c = document_of-read _ _ c.in-Ok.ensures.ok.0 c.in-Ok.ensures.ok.1

pub returns-in-Ok-clause-refused : goal.returns-in-Ok-clause-refused
returns-in-Ok-clause-refused c none =
    let some : document_of c.args.bytes.now ≡ Some (table_view c.in-Ok.table) = document_of-read _ _ c.in-Ok.ensures.ok.0 c.in-Ok.ensures.ok.1 in
    cc (sym none ∙ some)

pub returns-else-is_memory-clause-not_toml : goal.returns-else-is_memory-clause-not_toml
returns-else-is_memory-clause-not_toml c _ =
    document_of-none _ (c.in-Err.ensures.refused (search (rules, c.is_memory.ensures, c.if-is_memory.false)))
