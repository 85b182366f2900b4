use Rattle.std.proofs.Common.{◌≡◌, ◌+◌}
use Rattle.text.specs.Left.{lines_left}
use Rattle.loading.specs.Drawn.{Going}
use Rattle.loading.proofs.load.Given as goal

abbrev pub invariant-loop-number : goal.invariant-loop-number
invariant-loop-number l =
    (goal.iterator-loop-number).can_next l.number-iterator
    × (goal.iterator-loop-number).is_finite l.number-iterator
    × Going l.sheet (lines_left l.number-iterator.b) l.draft
    × (l.number-iterator.a.start ≡ l.draft.lines + 1)
