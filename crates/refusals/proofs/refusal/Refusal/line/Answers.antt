use Rattle.std.proofs.Common.{arith}
use Rattle.refusals.proofs.Telling.{told_alone}
use Rattle.refusals.proofs.refusal.Refusal.line.Goals as goal

pub returns-clause-law : goal.returns-clause-law
returns-clause-law c = told_alone c.args.self (omega arith, omega arith)
