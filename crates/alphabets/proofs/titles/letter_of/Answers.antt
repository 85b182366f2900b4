use Rattle.std.proofs.Common.{rules}
use Rattle.alphabets.specs.Titles.{title_letter}
use Rattle.alphabets.proofs.Follows.{entry}
use Rattle.alphabets.proofs.titles.letter_of.Goals as goal

pub returns : goal.returns
returns c = entry title_letter c.table.result.now c.table.ensures c.args.byte (search rules)
