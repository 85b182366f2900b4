-- The crossing tables of words, as rows of 33 bytes. Assumes nothing.
use Rattle.std.specs.Prelude.{ℕ}
use Rattle.two_way.specs.Automaton.{Automaton}
use Rattle.two_way.specs.Rows.{empty_row, extended_row}
use Rattle.register.specs.declared.tables.CrossingTable.{CrossingTable}

-- the empty word's
unfoldable pub empty_of : Automaton → CrossingTable
empty_of A = record { answers = empty_row A }

-- that of a word and one letter more, from the word's
unfoldable pub extended_of : Automaton → CrossingTable → ℕ → CrossingTable
extended_of A t a = record { answers = extended_row A t.answers a }
