use Rattle.std.proofs.Common.{◌≡◌, ◌-◌}
use Rattle.two_way.specs.Tables.{ending}
use Rattle.two_way.specs.Rows.{of_row}
use Rattle.two_way.proofs.Loops.{run}
use Rattle.crossing.proofs.ended.Given as goal

-- what is left of the turns gives the answer that all of them give
abbrev pub invariant-loop-turn : goal.invariant-loop-turn
invariant-loop-turn g l =
    run (ending (g.R.Rule.meaning l.rule) (of_row l.table.answers).at) l._turn-end l.initial.state
    ≡ run (ending (g.R.Rule.meaning l.rule) (of_row l.table.answers).at) (l._turn-end - l._turn) l.state
