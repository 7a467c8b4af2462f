use Rattle.std.proofs.Common.{arith}
use Rattle.std.proofs.lemmas.Map.Text.{text_keys}
use Rattle.ak_outside.proofs.memory_files.MemFiles.put.Goals as goal

pub returns-in-Ok-insert-clause-ok : goal.returns-in-Ok-insert-clause-ok
returns-in-Ok-insert-clause-ok c = record {
  put = grind (arith, text_keys);
  others = λ other differs. grind (arith, text_keys);
}
