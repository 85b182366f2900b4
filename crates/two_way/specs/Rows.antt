-- A table as a row of 33 bytes: the answer of state q at byte q, of the first arrival at byte 32. 255 is "never comes out", and stands at
-- the states that the automaton does not have.
use Rattle.std.specs.Prelude.{ℕ, cond, List, [], ◌∷◌, map, replicate, Some, None, Option, ◌==◌, nat_lt, slice_index_or}
use Rattle.std.specs.List.{range_with_len}
use Rattle.two_way.specs.Automaton.{Automaton}
use Rattle.two_way.specs.Tables.{Table, empty_table, extended}

abbrev pub byte_of : Option ℕ → ℕ
byte_of None = 255
byte_of (Some p) = p

abbrev pub of_byte : ℕ → Option ℕ
of_byte b = cond (b == 255) None (Some b)

-- byte j of the row
abbrev pub answer : Automaton → Table → ℕ → ℕ
answer A T j = cond (j == 32) (byte_of T.first) (cond (nat_lt j A.states) (byte_of (T.at j)) 255)

abbrev pub row_of : Automaton → Table → List ℕ
row_of A T = map (answer A T) (range_with_len 0 33)

-- back from a row to a table
abbrev pub of_row : List ℕ → Table
of_row r = record { first = of_byte (slice_index_or r 32 255); at = λ q. of_byte (slice_index_or r q 255) }

-- a row that answers "never" everywhere
abbrev pub blank_row : List ℕ
blank_row = replicate 33 255

abbrev pub empty_row : Automaton → List ℕ
empty_row A = row_of A (empty_table A)

-- a row and one letter more
abbrev pub extended_row : Automaton → List ℕ → ℕ → List ℕ
extended_row A r a = row_of A (extended A (of_row r) a)

abbrev pub row_from : Automaton → List ℕ → List ℕ → List ℕ
row_from A r [] = r
row_from A r (a ∷ w) = row_from A (extended_row A r a) w

-- the row of a word, made from rows alone
abbrev pub row : Automaton → List ℕ → List ℕ
row A w = row_from A (empty_row A) w
