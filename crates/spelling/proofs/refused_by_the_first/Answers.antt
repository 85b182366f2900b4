use Rattle.spelling.proofs.First.{first_is_met}
use Rattle.spelling.proofs.refused_by_the_first.Goals as goal

pub returns : goal.returns
returns c = first_is_met
