-- Rows that are no shelf. Assumes nothing.
use Rattle.std.specs.Prelude.{ℕ, cond, List, length, Some, None, Option, ◌==◌, nat_lt}
use Rattle.refusals.specs.declared.fault.Fault.TheVariants.{NoRows, DamagedTable}
use Rattle.refusals.specs.declared.refusal.Refusal.{Refusal}
use Rattle.refusals.specs.Line.{unplaced}
use Rattle.dfa.specs.declared.rows.DfaRow.{DfaRow}

-- why the first n rows are refused: they are none, or more than there are
abbrev pub unshelved : ℕ → List DfaRow → Option Refusal
unshelved n ds =
    cond (n == 0) (Some (unplaced NoRows))
    (cond (nat_lt (length ds) n) (Some (unplaced DamagedTable)) None)
