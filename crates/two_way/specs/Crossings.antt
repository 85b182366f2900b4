-- What an answer of a table says of the run, and lists of tables: closed under the letters, and of pairwise different ones.
use Rattle.std.specs.Prelude.{◌≡◌, ℕ, suc, ◌<◌, ◌≤◌, ◌↔◌, List, [], ◌∷◌, Some, None, Option}
use Rattle.two_way.specs.Automaton.{Automaton}
use Rattle.two_way.specs.Runs.{Word, Config, after}
use Rattle.two_way.specs.Tables.{Table, table, empty_table, extended, Same}

-- the run from x first leaves the positions 0 to i into position i + 1, in state p
abbrev pub ComesOut : Automaton → (ℕ → ℕ) → ℕ → ℕ → Config → Type 0
ComesOut A c i p x = (n : ℕ) × (after A c n x ≡ record { state = p; place = suc i }) × ((j : ℕ) → j < n → (after A c j x).place ≤ i)

-- the answer o is right about P: it is p exactly when P p holds, and "never" exactly when P holds of no p
abbrev pub Tells : Option ℕ → (ℕ → Type 0) → Type 0
Tells o P = ((p : ℕ) → (o ≡ Some p) ↔ P p) × ((o ≡ None) ↔ ((p : ℕ) → P p → ⊥))

-- n tables, number 0 the empty word's, and `cell i a` the number of the table that the letter a leads to from number i
pub record Closed (A : Automaton) (n : ℕ) (row : ℕ → Table) (cell : ℕ → ℕ → ℕ) : Type 0 where
  pub any : 0 < n
  pub origin : Same A (row 0) (empty_table A)
  pub cells : (i a : ℕ) → i < n → a < A.letters → cell i a < n
  pub steps : (i a : ℕ) → i < n → a < A.letters → Same A (row (cell i a)) (extended A (row i) a)

-- the number reached from i, letter by letter
abbrev pub reached : (ℕ → ℕ → ℕ) → ℕ → List ℕ → ℕ
reached cell i [] = i
reached cell i (a ∷ w) = reached cell (cell i a) w

-- n tables, each of some word, no two the same
pub record Apart (A : Automaton) (n : ℕ) (row : ℕ → Table) : Type 0 where
  pub word : ℕ → List ℕ
  pub are : (i : ℕ) → i < n → Word A (word i)
  pub made : (i : ℕ) → i < n → Same A (table A (word i)) (row i)
  pub one : (i j : ℕ) → i < n → j < n → Same A (row i) (row j) → i ≡ j

-- n words with pairwise different tables
pub record Different (A : Automaton) (n : ℕ) : Type 0 where
  pub word : ℕ → List ℕ
  pub are : (i : ℕ) → i < n → Word A (word i)
  pub differ : (i j : ℕ) → i < n → j < n → Same A (table A (word i)) (table A (word j)) → i ≡ j
