use Rattle.rules.proofs.Pairing.{pair_law}
use Rattle.rules.proofs.pair.PairRule.check.Goals as goal

pub returns-then-fits-clause-law : goal.returns-then-fits-clause-law
returns-then-fits-clause-law g c = pair_law _ _ (g.met.A.Rule.lawful c.args.self.now.first) (g.met.B.Rule.lawful c.args.self.now.second)

pub returns-else-fits-clause-law : goal.returns-else-fits-clause-law
returns-else-fits-clause-law g c = pair_law _ _ (g.met.A.Rule.lawful c.args.self.now.first) (g.met.B.Rule.lawful c.args.self.now.second)
