-- Crossing tables as keys. Assumes nothing.
use Rattle.std.specs.Prelude.{ℕ, Bool, cond, replicate, Some, None, Option, ◌==◌, slice_index_or}
use Rattle.std.specs.Str.{bytes_eq}
use Rattle.register.specs.declared.tables.CrossingTable.{CrossingTable}

abbrev pub blank_table : CrossingTable
blank_table = record { answers = replicate 33 255 }

-- the answer at a place: none where the byte is 255, and past the last place
abbrev pub answer_at : CrossingTable → ℕ → Option ℕ
answer_at t i = let b = slice_index_or t.answers i 255 in cond (b == 255) None (Some b)

abbrev pub alike_tables : CrossingTable → CrossingTable → Bool
alike_tables a b = bytes_eq a.answers b.answers
