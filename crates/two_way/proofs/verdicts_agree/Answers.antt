use Rattle.two_way.proofs.Sound.{sound}
use Rattle.two_way.proofs.Words.{reads_verdict, reads_one}
use Rattle.two_way.proofs.verdicts_agree.Goals as goal

pub returns : goal.returns
returns c A law w h = (reads_verdict A (sound A law) w h, reads_one A (sound A law) w h)
