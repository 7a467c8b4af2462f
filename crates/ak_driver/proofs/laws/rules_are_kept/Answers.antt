use Rattle.ak_driver.proofs.Keeping.RulesKept.{honours as keeps_rules, evicts as keeps_out}
use Rattle.ak_driver.proofs.laws.rules_are_kept.Goals as goal

pub returns : goal.returns
returns c = record {
  honours = keeps_rules;
  evicts = keeps_out;
}
