-- A one-way table as text, with n rows in use and m letters. Assumes nothing.
use Rattle.std.specs.Prelude.{◌≡◌, ℕ, ◌^◌, ◌<◌, List, [], ◌∷◌, ◌++◌, map, codes, decimal, slice_index}
use Rattle.std.specs.List.{range_with_len, join_with_byte, flat_map}
use Rattle.text.specs.Parts.{tab, line_feed}
use Rattle.dfa.specs.declared.rows.DfaRow.{DfaRow}
use Rattle.dfa.specs.Asked.{row_at}

-- fields parted by tabs, and a line feed
abbrev pub line : List (List ℕ) → List ℕ
line fields = join_with_byte tab fields ++ (line_feed ∷ [])

-- the cell of a letter; a row has sixteen cells, and past them this is 0
abbrev pub cell_of : DfaRow → ℕ → ℕ
cell_of d a = slice_index d.cells a

-- the rows in use, and the letters
abbrev pub head_fields : ℕ → ℕ → List (List ℕ)
head_fields n m = codes "shelf" ∷ decimal n ∷ decimal m ∷ []

-- the number of a row, its verdict's number and its first m cells
abbrev pub row_fields : ℕ → ℕ → DfaRow → List (List ℕ)
row_fields m i d = codes "row" ∷ decimal i ∷ decimal d.verdict ∷ map (λ a. decimal (cell_of d a)) (range_with_len 0 m)

-- a line of the numbers, and then a line for each row in use
unfoldable pub listing : ℕ → ℕ → List DfaRow → List ℕ
listing n m ds = line (head_fields n m) ++ flat_map (λ i. line (row_fields m i (row_at ds i))) (range_with_len 0 n)

-- the numbers that are listed are below 2^64
pub record Small (n m : ℕ) (ds : List DfaRow) : Type 0 where
  pub rows : n < 2 ^ 64
  pub letters : m < 2 ^ 64
  pub verdicts : (i : ℕ) → i < n → (row_at ds i).verdict < 2 ^ 64
  pub cells : (i a : ℕ) → i < n → a < m → cell_of (row_at ds i) a < 2 ^ 64

-- the same rows in use, letters, verdicts and cells
pub record Same (n m : ℕ) (ds : List DfaRow) (n' m' : ℕ) (ds' : List DfaRow) : Type 0 where
  pub rows : n' ≡ n
  pub letters : m' ≡ m
  pub verdicts : (i : ℕ) → i < n → (row_at ds' i).verdict ≡ (row_at ds i).verdict
  pub cells : (i a : ℕ) → i < n → a < m → cell_of (row_at ds' i) a ≡ cell_of (row_at ds i) a

-- every table with this listing is the same
abbrev pub ListedAlone : ℕ → ℕ → List DfaRow → Type 0
ListedAlone n m ds = (n' m' : ℕ) (ds' : List DfaRow) → Small n' m' ds' → listing n' m' ds' ≡ listing n m ds → Same n m ds n' m' ds'
