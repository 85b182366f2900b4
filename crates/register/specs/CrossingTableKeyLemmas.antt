-- Crossing tables are equal where their bytes are: what the law of tables as keys needs. Assumes nothing.
use Rattle.std.specs.Prelude.{◌≡◌, ℕ, List}
use Rattle.std.proofs.Common.{ap}
use Rattle.register.specs.declared.tables.CrossingTable.{CrossingTable}

pub equal : (a b : CrossingTable) → a.answers ≡ b.answers → a ≡ b
equal a b e = let table : List ℕ → CrossingTable = λ answers. record { answers = answers } in ap table e
