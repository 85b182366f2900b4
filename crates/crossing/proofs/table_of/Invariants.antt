use Rattle.std.proofs.Common.{◌≡◌, ℕ, ◌<◌, Option}
use Rattle.two_way.specs.Tables.{Table}
use Rattle.crossing.proofs.Turning.{Written}
use Rattle.crossing.proofs.table_of.Given as goal

-- whatever table the answers are from, its first ones stand in the row
abbrev pub invariant-loop-state : goal.invariant-loop-state
invariant-loop-state g l =
    (t : Table) → ((q : ℕ) (p : Option ℕ) → q < (g.R.Rule.meaning l.rule).states → goal.F-post g l.answer q p → p ≡ t.at q) → Written t l.state l.answers
