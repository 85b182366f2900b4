-- Text put at the place where a writer is. Assumes nothing.
use Rattle.std.specs.Prelude.{◌≡◌, ℕ, ◌+◌, ◌<◌, ◌≤◌, List, ◌++◌, length, take, drop, Some, None, Option}
use Rattle.listings.specs.declared.writing.Writer.{Writer}

abbrev pub laid : ℕ → List ℕ → List ℕ → List ℕ
laid at text out = take at out ++ (text ++ drop (at + length text) out)

-- the writer is past the text, which is laid into its slice where that is as long; none where the text ends past the room
abbrev pub Placed : Writer → List ℕ → Option (Unit {0}) → Writer → Type 0
Placed w text (Some _) w' = (w'.at ≡ w.at + length text) × (w'.at ≤ length w.out.now → w'.out.now ≡ laid w.at text w.out.now)
Placed w text None w' = w.room < w.at + length text

-- the same room and the same loan of a slice
pub record Continues (w w' : Writer) : Type 0 where
  pub room : w'.room ≡ w.room
  pub long : length w'.out.now ≡ length w.out.now
  pub lent : w'.out.ghost_name ≡ w.out.ghost_name
