use Rattle.two_way.proofs.Sound.{sound}
use Rattle.two_way.proofs.Outs.{state_tells, arrival_tells}
use Rattle.two_way.proofs.crossings_tell.Goals as goal

pub returns : goal.returns
returns c A law x z h = (state_tells A (sound A law) x z h, arrival_tells A (sound A law) x z h)
