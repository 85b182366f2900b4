-- The five fields of a line. Assumes nothing.
use Rattle.std.specs.Prelude.{ℕ, List, [], ◌∷◌}
use Rattle.sheets.specs.declared.fields.Fields.{Fields}

-- the word and the four fields after it
abbrev pub all_fields : List ℕ → Fields → List (List ℕ)
all_fields word x = word ∷ x.second.now ∷ x.third.now ∷ x.fourth.now ∷ x.fifth.now ∷ []
