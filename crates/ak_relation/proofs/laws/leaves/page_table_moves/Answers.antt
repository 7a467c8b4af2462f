use Rattle.ak_relation.proofs.Leaves.DoneMoves.{set_pte_moves}
use Rattle.ak_relation.proofs.Leaves.DiscardMoves.{set_pte_refused, read_pte_moves, read_pte_refused}
use Rattle.ak_relation.proofs.laws.leaves.page_table_moves.Goals as goal

pub returns : goal.returns
returns c = record {
  set = set_pte_moves;
  set_refused = set_pte_refused;
  read = read_pte_moves;
  read_refused = read_pte_refused;
}
