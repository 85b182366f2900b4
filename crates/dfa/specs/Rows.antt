-- Rows of the one-way table. Assumes nothing.
use Rattle.std.specs.Prelude.{ℕ, List, replicate}
use Rattle.dfa.specs.declared.rows.DfaRow.{DfaRow}

abbrev pub row_of : List ℕ → ℕ → DfaRow
row_of cells verdict = record { cells = cells; verdict = verdict }

abbrev pub blank_row : DfaRow
blank_row = row_of (replicate 16 0) 0
