-- The form of a sheet as it is written: rows of five fields. Assumes nothing.
use Rattle.std.specs.Prelude.{◌≡◌, ℕ, ◌+◌, ◌<◌, ◌≤◌, List, [], ◌∷◌, ◌++◌, length, Ok, Err, codes, Result, ◌≢◌}
use Rattle.std.specs.Str.Iter.{LacksByte}
use Rattle.std.specs.List.{join_with_byte, flat_map, AllByRecursion}
use Rattle.text.specs.Parts.{tab, line_feed}
use Rattle.refusals.specs.declared.refusal.Refusal.{Refusal}
use Rattle.sheets.specs.Form.{longest, too_long, misformed_at}

-- a row: its first word and four fields more
pub record Row : Type 0 where
  pub word : List ℕ
  pub second : List ℕ
  pub third : List ℕ
  pub fourth : List ℕ
  pub fifth : List ℕ

abbrev pub row_fields : Row → List (List ℕ)
row_fields r = r.word ∷ r.second ∷ r.third ∷ r.fourth ∷ r.fifth ∷ []

-- the fields parted by tabs, and a line feed
abbrev pub row_text : Row → List ℕ
row_text r = join_with_byte tab (row_fields r) ++ (line_feed ∷ [])

-- the row begins with the word, and no field has a tab or a line feed
pub record Begins (word : List ℕ) (r : Row) : Type 0 where
  pub first : r.word ≡ word
  pub no_tab : AllByRecursion (LacksByte tab) (row_fields r)
  pub no_feed : AllByRecursion (LacksByte line_feed) (row_fields r)

-- rows that begin with the word, and after the first with `at`
abbrev pub Rows : List ℕ → List Row → Type 0
Rows word [] = Unit {0}
Rows word (r ∷ rs) = Begins word r × Rows (codes "at") rs

-- the text is these rows, of which there is one, and not too long
pub record WellFormed (sheet : List ℕ) : Type 0 where
  pub first : Row
  pub rest : List Row
  pub rows : Rows (codes "rule") (first ∷ rest)
  pub text : flat_map row_text (first ∷ rest) ≡ sheet
  pub short : length sheet ≤ longest

-- the word of the row that follows these
abbrev pub word_after : List ℕ → List Row → List ℕ
word_after word [] = word
word_after word (r ∷ rs) = codes "at"

-- good rows, and then text that begins with no good row and is not the end
pub record Stops (word text : List ℕ) (n : ℕ) : Type 0 where
  pub before : List Row
  pub rest : List ℕ
  pub rows : Rows word before
  pub whole : flat_map row_text before ++ rest ≡ text
  pub count : n ≡ length before
  pub stuck : (r : Row) (more : List ℕ) → Begins (word_after word before) r → row_text r ++ more ≢ rest
  pub goes_on : rest ≡ [] → ⊥

-- why and where a sheet is refused: its length; that it has no line; or its first line that is not of its form
pub data Refused (sheet : List ℕ) : Refusal → Type 0 where
  by_length : longest < length sheet → Refused sheet too_long
  empty : sheet ≡ [] → Refused sheet (misformed_at 1)
  on_line : {n : ℕ} → length sheet ≤ longest → Stops (codes "rule") sheet n → Refused sheet (misformed_at (n + 1))

-- good exactly where the sheet is well formed
abbrev pub Judged : List ℕ → Result (Unit {0}) Refusal → Type 0
Judged sheet (Ok _) = WellFormed sheet
Judged sheet (Err e) = (WellFormed sheet → ⊥) × Refused sheet e
