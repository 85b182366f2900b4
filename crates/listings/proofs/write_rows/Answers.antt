use Rattle.std.proofs.Common.{arith}
use Rattle.listings.proofs.Alone.{answered_alone}
use Rattle.listings.proofs.write_rows.Goals as goal

pub returns : goal.returns
returns c = record {
  answer = c.write_sound.ensures.answer;
  out = c.write_sound.ensures.out;
  law = answered_alone c.args.rows c.args.letters c.args.dfa.now c.args.out.now c.write_sound.result (omega arith) (omega arith) c.write_sound.ensures.answer;
}
