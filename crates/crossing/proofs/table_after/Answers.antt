use Rattle.std.proofs.Common.{rules, tests}
use Rattle.two_way.specs.Tables.{extended}
use Rattle.two_way.specs.Rows.{of_row}
use Rattle.crossing.specs.Computed.{extended_of}
use Rattle.crossing.proofs.table_after.Goals as goal

pub returns : goal.returns
unfolding extended_of
returns g c =
    let A = g.R.Rule.meaning c.args.rule.now in
    c.table_of.ensures (extended A (of_row c.args.before.now.answers) c.args.letter) c.first_after-first.ensures (λ q p l k. search (rules, tests))
