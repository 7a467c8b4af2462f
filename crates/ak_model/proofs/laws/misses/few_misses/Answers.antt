use Rattle.ak_model.proofs.Misses.FewMisses.{sound_four, sound_distinct, sound_few}
use Rattle.ak_model.proofs.laws.misses.few_misses.Goals as goal

pub returns : goal.returns
returns c = record {
  four = λ image. λ layout. λ journal. λ i. λ sound. sound_four image layout journal sound i;
  once = λ image. λ layout. λ journal. λ i. λ sound. sound_distinct image layout journal sound i;
  accesses = λ image. λ layout. λ journal. λ i. λ sound. sound_few image layout journal sound i;
}
