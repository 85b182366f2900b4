use Rattle.std.proofs.Common.{arith}
use Rattle.two_way.proofs.Sound.{sound}
use Rattle.two_way.proofs.Words.{table_one_more}
use Rattle.two_way.proofs.Sames.{extended_same, verdict_same, table_in, words_same, reads_same}
use Rattle.two_way.proofs.right_congruence.Goals as goal

pub returns : goal.returns
returns c A law = record {
  one_more = table_one_more A;
  table_in = table_in A (sound A law);
  extended_same = λ T U i s a h. extended_same A (sound A law) T i a (omega arith) U s;
  verdict_same = verdict_same A (sound A law);
  words_same = words_same A (sound A law);
  reads_same = reads_same A (sound A law);
}
