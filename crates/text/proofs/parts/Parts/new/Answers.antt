use Rattle.text.proofs.Parting.{parted_only}
use Rattle.text.proofs.parts.Parts.new.Goals as goal

pub returns-clause-law : goal.returns-clause-law
returns-clause-law c = parted_only c.args.separator c.args.text.now
