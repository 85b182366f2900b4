use Rattle.std.proofs.Common.{◌≡◌, ◌-◌}
use Rattle.two_way.specs.Tables.{crossing}
use Rattle.two_way.specs.Rows.{of_row}
use Rattle.two_way.proofs.Loops.{run}
use Rattle.crossing.proofs.crossed.Given as goal

-- what is left of the turns gives the answer that all of them give
abbrev pub invariant-loop-turn : goal.invariant-loop-turn
invariant-loop-turn g l =
    run (crossing (g.R.Rule.meaning l.rule) (of_row l.before.answers).at l.letter) l.turns l.from
    ≡ run (crossing (g.R.Rule.meaning l.rule) (of_row l.before.answers).at l.letter) (l.turns - l._turn) l.state
