-- The rows of a rule: row 0 is the empty word's table; rows are taken by number and letters by number, and each new table gets the next row.
-- Assumes nothing.
use Rattle.std.specs.Prelude.{ℕ, zero, suc, cond, List, [], ◌∷◌, map, length, nat_lt, slice_index_or}
use Rattle.std.specs.List.{range_with_len}
use Rattle.std.specs.Option.{unwrap_or}
use Rattle.two_way.specs.Automaton.{Automaton}
use Rattle.two_way.specs.Tables.{verdict}
use Rattle.two_way.specs.Rows.{of_row}
use Rattle.two_way.specs.Verdicts.{number_of}
use Rattle.register.specs.Keys.{place_of, with_key}
use Rattle.register.specs.Tables.{blank_table, alike_tables}
use Rattle.register.specs.declared.tables.CrossingTable.{CrossingTable}
use Rattle.crossing.specs.Computed.{empty_of, extended_of}
use Rattle.dfa.specs.declared.rows.DfaRow.{DfaRow}
use Rattle.dfa.specs.Rows.{row_of}

-- the row of a table, or the number of rows where it has none
abbrev pub place : List CrossingTable → CrossingTable → ℕ
place xs t = unwrap_or (place_of alike_tables xs t) (length xs)

-- the rows xs, and those of t and each of the first a letters
abbrev pub lettered : Automaton → CrossingTable → List CrossingTable → ℕ → List CrossingTable
lettered A t xs zero = xs
lettered A t xs (suc a) = with_key alike_tables (lettered A t xs a) (extended_of A t a)

abbrev pub row : List CrossingTable → ℕ → CrossingTable
row xs i = slice_index_or xs i blank_table

-- the rows xs with row i taken, if there is one
abbrev pub taken : Automaton → ℕ → List CrossingTable → List CrossingTable
taken A i xs = cond (nat_lt i (length xs)) (lettered A (row xs i) xs A.letters) xs

-- the rows once the first i are taken
abbrev pub known : Automaton → ℕ → List CrossingTable
known A zero = empty_of A ∷ []
known A (suc i) = taken A i (known A i)

-- the row that a letter leads to from t, 0 past the last letter
abbrev pub cell : Automaton → List CrossingTable → CrossingTable → ℕ → ℕ
cell A xs t a = cond (nat_lt a A.letters) (place xs (extended_of A t a)) 0

-- the row of the table t, where the rows are xs
abbrev pub dfa_row : Automaton → List CrossingTable → CrossingTable → DfaRow
dfa_row A xs t = row_of (map (cell A xs t) (range_with_len 0 16)) (number_of (verdict A (of_row t.answers)))

abbrev pub dfa_of : Automaton → List CrossingTable → List DfaRow
dfa_of A xs = map (dfa_row A xs) xs
