use Rattle.std.proofs.Common.{Some, ap, ◌∙◌, rules, tests}
use Rattle.two_way.specs.Automaton.{to}
use Rattle.two_way.specs.Tables.{empty_table}
use Rattle.crossing.specs.Computed.{empty_of}
use Rattle.crossing.proofs.empty_table.Goals as goal

pub returns : goal.returns
unfolding empty_of
returns g c =
    let A = g.R.Rule.meaning c.args.rule.now in
    c.table_of.ensures (empty_table A) (ap Some (c.past_left-first.ensures ∙ ap (λ q. to A q A.letters) c.start.ensures)) (λ q p l k. search (rules, tests))
