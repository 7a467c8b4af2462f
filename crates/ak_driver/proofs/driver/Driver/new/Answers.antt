use Rattle.std.proofs.Common.{refl}
use Rattle.ak_driver.proofs.driver.Driver.new.Goals as goal

pub returns : goal.returns
returns c = record {
  valid = c.in_ok-tables.ensures.valid;
  place_is = refl;
  tables_are = c.in_ok-tables.ensures.tables;
  cycles_are = c.new-2.ensures c.args.layout.now c.in_ok-tables.ensures.valid.few_lps;
  counts_are = record {
    saved_is = c.new-3.ensures.saved;
    pending_is = c.new-3.ensures.pending;
    ended_is = c.new-3.ensures.ended;
    input_is = c.new-3.ensures.input;
    asked_is = c.new-3.ensures.asked;
  };
  requests_are = c.new-4.ensures;
  refused_is = λ m. refl;
}
