-- What is proved of two-way automata and their crossing tables.
use Rattle.std.specs.Prelude.{◌≡◌, ℕ, ◌+◌, ◌<◌, ◌≤◌, ◌⊎◌, ◌↔◌, List, [], ◌∷◌, ◌++◌, length, slice_index_or}
use Rattle.two_way.specs.declared.Verdict.{Verdict}
use Rattle.two_way.specs.Automaton.{Automaton, Lawful}
use Rattle.two_way.specs.Runs.{Word, column, after, begin, Accepts, Rejects, Reads, state_after, most, Walks}
use Rattle.two_way.specs.Tables.{Table, table, extended, verdict, Same, Inside}
use Rattle.two_way.specs.Rows.{row_of, of_row, extended_row, row}
use Rattle.two_way.specs.Crossings.{ComesOut, Tells, Closed, reached, Apart, Different}
use Rattle.two_way.specs.Pairs.{Fits, pair, both}

-- Whatever follows the prefix x: the answer of its table at a state tells where the run from that state on the last position of x comes out
-- of x, and the answer at the first arrival tells where the run from the beginning does.
abbrev pub CrossingsTell : Type 0
CrossingsTell =
    (A : Automaton) → Lawful A → (x z : List ℕ) → Word A (x ++ z)
    → ((q : ℕ) → q < A.states → Tells ((table A x).at q) (λ p. ComesOut A (column A (x ++ z)) (length x) p (record { state = q; place = length x })))
    × Tells (table A x).first (λ p. ComesOut A (column A (x ++ z)) (length x) p (begin A))

-- The verdict of a word's table is the verdict of the run on the word, and no other is.
abbrev pub VerdictsAgree : Type 0
VerdictsAgree =
    (A : Automaton) → Lawful A → (w : List ℕ) → Word A w
    → Reads A w (verdict A (table A w)) × ((v : Verdict) → Reads A w v → v ≡ verdict A (table A w))

-- what tables that are the same have in common
pub record Shares (A : Automaton) : Type 0 where
  pub one_more : (x : List ℕ) (a : ℕ) → table A (x ++ a ∷ []) ≡ extended A (table A x) a
  pub table_in : (x : List ℕ) → Word A x → Inside A (table A x)
  pub extended_same : (T U : Table) → Inside A T → Same A T U → (a : ℕ) → a < A.letters → Same A (extended A T a) (extended A U a)
  pub verdict_same : (T U : Table) → Inside A T → Same A T U → verdict A T ≡ verdict A U
  pub words_same : (x y z : List ℕ) → Word A (x ++ z) → Same A (table A x) (table A y) → Same A (table A (x ++ z)) (table A (y ++ z))
  pub reads_same : (x y z : List ℕ) → Word A (x ++ z) → Word A (y ++ z) → Same A (table A x) (table A y)
      → (v : Verdict) → Reads A (x ++ z) v → Reads A (y ++ z) v

-- A table is determined by the table before it and the letter. Tables that are the same stay so with a letter more, and have the same
-- verdict; so words with the same table may share it, and nothing that follows them tells them apart.
abbrev pub RightCongruence : Type 0
RightCongruence = (A : Automaton) → Lawful A → Shares A

-- where a run goes and how a walk ends
pub record Walked (A : Automaton) (w : List ℕ) : Type 0 where
  pub between : (n : ℕ) → (state_after A w n < A.states) × ((after A (column A w) n (begin A)).place < length w + 2)
  pub accepts_within : Accepts A w → (n : ℕ) × (n ≤ most A (length w)) × (state_after A w n ≡ A.accept)
  pub rejects_within : Rejects A w → (n : ℕ) × (n ≤ most A (length w)) × (state_after A w n ≡ A.reject)
  pub some_walk : (v : Verdict) × (n : ℕ) × Walks A w v n
  pub one_walk : (v u : Verdict) (n l : ℕ) → Walks A w v n → Walks A w u l → (v ≡ u) × (n ≡ l)
  pub walk_within : (v : Verdict) (n : ℕ) → Walks A w v n → n ≤ most A (length w)
  pub walk_reads : (v : Verdict) (n : ℕ) → Walks A w v n → Reads A w v

-- A run stays in the states and between the ends. If it enters accept or reject, it does so within `most` steps. Every word has one walk
-- and only one; its count never passes `most`, and its verdict is that of the run.
abbrev pub WalksEnd : Type 0
WalksEnd = (A : Automaton) → Lawful A → (w : List ℕ) → Word A w → Walked A w

-- what n tables that are closed under the letters answer, and how many they are
pub record Counts (A : Automaton) (n : ℕ) (row : ℕ → Table) (cell : ℕ → ℕ → ℕ) : Type 0 where
  pub in_range : (w : List ℕ) → Word A w → reached cell 0 w < n
  pub tables : (w : List ℕ) → Word A w → Same A (table A w) (row (reached cell 0 w))
  pub verdicts : (w : List ℕ) → Word A w → Reads A w (verdict A (row (reached cell 0 w)))
  pub no_more : (l : ℕ) → Different A l → l ≤ n
  pub as_many : Apart A n row → Different A n

-- Tables that are closed under the letters hold the table of every word, where its letters lead from the empty word's, and so its verdict.
-- Words with pairwise different tables are no more than they; and where they are tables of words and pairwise different, they are as many
-- as the words of the longest such list.
abbrev pub RowsCount : Type 0
RowsCount = (A : Automaton) → Lawful A → (n : ℕ) (row : ℕ → Table) (cell : ℕ → ℕ → ℕ) → Closed A n row cell → Counts A n row cell

-- P decides what A and B decide one after the other
pub record PairDecides (P A B : Automaton) (w : List ℕ) : Type 0 where
  pub accepts : Accepts P w ↔ (Accepts A w × Accepts B w)
  pub rejects : Rejects P w ↔ (Rejects A w ⊎ (Accepts A w × Rejects B w))
  pub reads : (u v : Verdict) → Reads A w u → Reads B w v → Reads P w (both u v)

-- The pair of lawful automata is lawful. Where they fit, it accepts what both accept, and rejects what the first rejects and what the first
-- accepts and the second rejects, and so loops on all other words; where they do not, it rejects every word.
abbrev pub PairsDecide : Type 0
PairsDecide =
    (A B : Automaton) → Lawful A → Lawful B
    → Lawful (pair A B) × (Fits A B → (w : List ℕ) → Word A w → PairDecides (pair A B) A B w) × ((Fits A B → ⊥) → (w : List ℕ) → Rejects (pair A B) w)

-- what the rows of words hold
pub record RowsRight (A : Automaton) : Type 0 where
  pub size : (x : List ℕ) → length (row_of A (table A x)) ≡ 33
  pub bytes : (x : List ℕ) → Word A x → (j : ℕ) → j < 33 → slice_index_or (row_of A (table A x)) j 255 < 256
  pub equal : (x y : List ℕ) → Word A x → Word A y → (row_of A (table A x) ≡ row_of A (table A y)) ↔ Same A (table A x) (table A y)
  pub read_back : (x : List ℕ) → Word A x → Same A (of_row (row_of A (table A x))) (table A x)
  pub one_more : (x : List ℕ) → Word A x → (a : ℕ) → a < A.letters → extended_row A (row_of A (table A x)) a ≡ row_of A (table A (x ++ a ∷ []))
  pub from_rows : (x : List ℕ) → Word A x → row A x ≡ row_of A (table A x)

-- A row has 33 bytes. Rows are equal exactly when their tables are the same, a row tells the answers of its table, and the row of a word
-- and one letter more is made from the row of the word and the letter.
abbrev pub RowsTell : Type 0
RowsTell = (A : Automaton) → Lawful A → RowsRight A
