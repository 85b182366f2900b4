use Rattle.spelling.proofs.Spelled.{spelled_lawful}
use Rattle.spelling.proofs.spelled_lawfully.Goals as goal

pub returns : goal.returns
returns c = spelled_lawful
