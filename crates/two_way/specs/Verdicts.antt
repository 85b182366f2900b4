-- The numbers of the three verdicts.
use Rattle.std.specs.Prelude.{ℕ, cond, Some, None, Option, ◌==◌}
use Rattle.two_way.specs.declared.Verdict.{Verdict}

abbrev pub number_of : Verdict → ℕ
number_of Verdict.Accepts = 1
number_of Verdict.Rejects = 2
number_of Verdict.Loops = 3

-- the verdict with this number
abbrev pub named : ℕ → Option Verdict
named n = cond (n == 1) (Some Verdict.Accepts) (cond (n == 2) (Some Verdict.Rejects) (cond (n == 3) (Some Verdict.Loops) None))
