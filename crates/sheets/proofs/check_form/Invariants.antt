use Rattle.std.proofs.Common.{◌≡◌, ◌+◌, ◌≤◌, length, codes}
use Rattle.text.specs.Left.{lines_left}
use Rattle.sheets.specs.Form.{checked, form_of, longest}
use Rattle.sheets.proofs.check_form.Given as goal

abbrev pub invariant-loop-number : goal.invariant-loop-number
invariant-loop-number l =
    (goal.iterator-loop-number).can_next l.number-iterator
    × (goal.iterator-loop-number).is_finite l.number-iterator
    × (checked (codes "at") l.number-iterator.a.start (lines_left l.number-iterator.b) ≡ form_of l.sheet)
    × (l.number-iterator.a.start + length (lines_left l.number-iterator.b) ≤ longest + 1)
