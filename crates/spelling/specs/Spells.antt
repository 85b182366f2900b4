-- What is written on a sheet, and the rule that it spells: the format as a librarian knows it. Assumes nothing.
use Rattle.std.specs.Prelude.{◌≡◌, ℕ, ◌+◌, ◌<◌, ◌≤◌, ◌⊎◌, List, [], ◌∷◌, ◌++◌, length, Some, None, codes, decimal}
use Rattle.std.specs.Str.Iter.{LacksByte}
use Rattle.std.specs.List.{join_with_byte, flat_map, AllByRecursion, slice_get}
use Rattle.two_way.specs.Automaton.{Automaton, Keeps, Way, L, R}
use Rattle.text.specs.Parts.{tab, line_feed}
use Rattle.spelling.specs.Said.{in_order}
use Rattle.sheets.specs.Form.{longest}

pub data Column : Type 0 where
  left_end right_end : Column
  letter : ℕ → Column

-- a line for a state's name and a column: the next state's name and the direction
pub record Entry : Type 0 where
  pub state : List ℕ
  pub column : Column
  pub next : List ℕ
  pub way : Way

-- what is written on a sheet
pub record Sheet : Type 0 where
  pub letters : ℕ
  pub start : List ℕ
  pub accept : List ℕ
  pub reject : List ℕ
  pub entries : List Entry

-- fields parted by tabs, and a line feed
abbrev pub line_text : List (List ℕ) → List ℕ
line_text fs = join_with_byte tab fs ++ (line_feed ∷ [])

abbrev pub column_text : Column → List ℕ
column_text left_end = codes "<"
column_text right_end = codes ">"
column_text (letter n) = decimal n

abbrev pub way_text : Way → List ℕ
way_text L = codes "L"
way_text R = codes "R"

abbrev pub entry_fields : Entry → List (List ℕ)
entry_fields e = codes "at" ∷ e.state ∷ column_text e.column ∷ e.next ∷ way_text e.way ∷ []

abbrev pub entry_text : Entry → List ℕ
entry_text e = line_text (entry_fields e)

abbrev pub rule_fields : Sheet → List (List ℕ)
rule_fields S = codes "rule" ∷ decimal S.letters ∷ S.start ∷ S.accept ∷ S.reject ∷ []

abbrev pub sheet_text : Sheet → List ℕ
sheet_text S = line_text (rule_fields S) ++ flat_map entry_text S.entries

-- 1 to 16 bytes, of which none is a tab or a line feed
pub record Name (x : List ℕ) : Type 0 where
  pub some : 1 ≤ length x
  pub few : length x ≤ 16
  pub no_tab : LacksByte tab x
  pub no_feed : LacksByte line_feed x

abbrev pub said : List Entry → List (List ℕ)
said [] = []
said (e ∷ es) = e.state ∷ e.next ∷ said es

-- the names on a sheet, in the order of the text
abbrev pub all_names : Sheet → List (List ℕ)
all_names S = S.start ∷ S.accept ∷ S.reject ∷ said S.entries

-- each once, as they first appear: state q has the q-th of them
abbrev pub order : Sheet → List (List ℕ)
order S = in_order [] (all_names S)

abbrev pub Numbered : Sheet → List ℕ → ℕ → Type 0
Numbered S x q = slice_get (order S) q ≡ Some x

-- the columns among m letters: the letters, then the left end, then the right end
abbrev pub column_number : ℕ → Column → ℕ
column_number m left_end = m
column_number m right_end = m + 1
column_number m (letter n) = n

abbrev pub way_number : Way → ℕ
way_number L = 0
way_number R = 1

abbrev pub Halting : Sheet → List ℕ → Type 0
Halting S x = (x ≡ S.accept) ⊎ (x ≡ S.reject)

-- the ends turn back, and a letter is one of m
abbrev pub Turning : ℕ → Column → Way → Type 0
Turning m left_end w = w ≡ R
Turning m right_end w = w ≡ L
Turning m (letter n) w = n < m

-- an entry is for a state that neither accepts nor rejects
pub record Allowed (S : Sheet) (e : Entry) : Type 0 where
  pub goes_on : Halting S e.state → ⊥
  pub turns : Turning S.letters e.column e.way

-- the entry at place i is for the name x and the column c
pub record EntryAt (S : Sheet) (x : List ℕ) (c i : ℕ) : Type 0 where
  pub entry : Entry
  pub at : slice_get S.entries i ≡ Some entry
  pub state : entry.state ≡ x
  pub column : column_number S.letters entry.column ≡ c

-- a sheet that keeps the rules of sheets
pub record Proper (S : Sheet) : Type 0 where
  pub letters_low : 1 ≤ S.letters
  pub letters_high : S.letters ≤ 16
  pub named : AllByRecursion Name (all_names S)
  pub few : length (order S) ≤ 32
  pub apart : S.accept ≡ S.reject → ⊥
  pub allowed : AllByRecursion (Allowed S) S.entries
  -- every state that neither accepts nor rejects has one entry for each column
  pub each : (x : List ℕ) (q c : ℕ) → Numbered S x q → (Halting S x → ⊥) → c < S.letters + 2 → (i : ℕ) × EntryAt S x c i
  pub once : (x : List ℕ) (c i j : ℕ) → EntryAt S x c i → EntryAt S x c j → i ≡ j
  pub short : length (sheet_text S) ≤ longest

-- the six answers that a sheet gives
pub record Gives (S : Sheet) (A : Automaton) : Type 0 where
  pub states : A.states ≡ length (order S)
  pub letters : A.letters ≡ S.letters
  pub start : Numbered S S.start A.start
  pub accept : Numbered S S.accept A.accept
  pub reject : Numbered S S.reject A.reject
  pub step : (x : List ℕ) (c i q p : ℕ) (e : EntryAt S x c i) → Numbered S x q → Numbered S e.entry.next p
      → A.next q c ≡ Some (p, way_number e.entry.way)
  pub accepts : Keeps A A.accept
  pub rejects : Keeps A A.reject
  pub past_states : (q c : ℕ) → A.states ≤ q → A.next q c ≡ None
  pub past_columns : (q c : ℕ) → A.letters + 2 ≤ c → A.next q c ≡ None

-- the bytes spell the rule with these six answers
pub record Spells (b : List ℕ) (A : Automaton) : Type 0 where
  pub sheet : Sheet
  pub proper : Proper sheet
  pub text : sheet_text sheet ≡ b
  pub gives : Gives sheet A
