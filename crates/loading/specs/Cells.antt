-- A row of cells for each state, and in it one for each column. Assumes nothing.
use Rattle.std.specs.Prelude.{ℕ, List, [], None, Option, slice_index_or}
use Rattle.rules.specs.declared.rule.Move.{Move}

-- the step of a state at a column, if there is one
abbrev pub cell : List (List (Option Move)) → ℕ → ℕ → Option Move
cell cells q c = slice_index_or (slice_index_or cells q []) c None
