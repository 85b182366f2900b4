use Rattle.std.proofs.Common.{length}
use Rattle.two_way.specs.Runs.{column}
use Rattle.two_way.proofs.Sound.{sound}
use Rattle.two_way.proofs.Words.{tape_of}
use Rattle.two_way.proofs.Bound.{here_after}
use Rattle.two_way.proofs.Walk.{accepts_within, rejects_within, some_walk, one_walk, walk_within, walk_reads}
use Rattle.two_way.proofs.walks_end.Goals as goal

pub returns : goal.returns
returns c A law w h = record {
  between = here_after A (sound A law) (length w) (column A w) (tape_of A w h);
  accepts_within = λ a. let r = accepts_within A (sound A law) w h a in (r.0, r.1, r.2.0);
  rejects_within = λ a. let r = rejects_within A (sound A law) w h a in (r.0, r.1, r.2.0);
  some_walk = some_walk A (sound A law) w h;
  one_walk = one_walk A (sound A law) w h;
  walk_within = walk_within A (sound A law) w h;
  walk_reads = walk_reads A (sound A law) w h;
}
