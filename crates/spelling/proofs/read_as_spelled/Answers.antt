use Rattle.spelling.proofs.Spelled.{read_is_spelled}
use Rattle.spelling.proofs.read_as_spelled.Goals as goal

pub returns : goal.returns
returns c = read_is_spelled
