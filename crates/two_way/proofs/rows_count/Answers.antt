use Rattle.two_way.proofs.Sound.{sound}
use Rattle.two_way.proofs.Counting.{every, ask_right, no_more, apart_different}
use Rattle.two_way.proofs.rows_count.Goals as goal

pub returns : goal.returns
returns c A law n row cell cl = record {
  in_range = λ w h. (every A (sound A law) n row cell cl w h).0;
  tables = λ w h. (every A (sound A law) n row cell cl w h).1;
  verdicts = ask_right A (sound A law) n row cell cl;
  no_more = no_more A (sound A law) n row cell cl;
  as_many = apart_different A n row;
}
