-- What a build leaves, where there are p places. Assumes nothing.
use Rattle.std.specs.Prelude.{◌≡◌, ℕ, ◌<◌, min, Bool, cond, List, ◌++◌, map, length, drop, replicate, Some, None, Option, nat_lt}
use Rattle.std.specs.List.{range_with_len}
use Rattle.two_way.specs.Automaton.{Automaton}
use Rattle.register.specs.Keys.{laid_in}
use Rattle.register.specs.Tables.{blank_table}
use Rattle.register.specs.declared.tables.CrossingTable.{CrossingTable}
use Rattle.dfa.specs.declared.rows.DfaRow.{DfaRow}
use Rattle.dfa.specs.Rows.{blank_row}
use Rattle.dfa.specs.Known.{lettered, known, cell, dfa_of}

-- the smaller of the two lengths, at most 4,096
abbrev pub capacity : List CrossingTable → List DfaRow → ℕ
capacity ts ds = min (min (length ts) (length ds)) 4096

-- more rows than p
abbrev pub too_few : Automaton → ℕ → Bool
too_few A p = nat_lt p (length (known A p))

abbrev pub rows_of : Automaton → ℕ → Option ℕ
rows_of A p = cond (too_few A p) None (Some (length (known A p)))

-- the rows and then what stood past them; or as many blanks as places, and then what stood past them
abbrev pub tables_left : Automaton → ℕ → List CrossingTable → List CrossingTable
tables_left A p ts = cond (too_few A p) (replicate p blank_table ++ drop p ts) (known A p ++ drop (length (known A p)) ts)

abbrev pub dfa_left : Automaton → ℕ → List DfaRow → List DfaRow
dfa_left A p ds = cond (too_few A p) (replicate p blank_row ++ drop p ds) (dfa_of A (known A p) ++ drop (length (known A p)) ds)

-- a row is taken: the tables of t and each letter are added to xs, over the places ps
pub record Taken (A : Automaton) (t : CrossingTable) (ps xs : List CrossingTable) (cells : List ℕ) (ps' xs' : List CrossingTable) : Type 0 where
  pub rows : xs' ≡ lettered A t xs A.letters
  pub others : ps' ≡ laid_in ps xs'
  pub cells_are : cells ≡ map (cell A xs' t) (range_with_len 0 16)

-- or the places are too few for them
abbrev pub Grown : Automaton → CrossingTable → List CrossingTable → List CrossingTable → Option (List ℕ) → List CrossingTable → List CrossingTable → Type 0
Grown A t ps xs (Some cells) ps' xs' = Taken A t ps xs cells ps' xs'
Grown A t ps xs None ps' xs' = length ps < length (lettered A t xs A.letters)
