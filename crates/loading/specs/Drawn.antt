-- What the code holds of the lines read so far. Assumes nothing.
use Rattle.std.specs.Prelude.{◌≡◌, ℕ, ◌+◌, ◌<◌, ◌≤◌, false, cond, ◌||◌, List, [], ◌∷◌, ◌++◌, map, length, Some, None, Option, ◌==◌, ◌≢◌}
use Rattle.std.specs.Option.{unwrap_or}
use Rattle.std.specs.List.{slice_get}
use Rattle.std.specs.Str.{bytes_eq}
use Rattle.text.specs.Lines.{Line, lines}
use Rattle.two_way.specs.Automaton.{Lawful}
use Rattle.rules.specs.Steps.{told, onward}
use Rattle.register.specs.Keys.{place_of}
use Rattle.register.specs.Names.{as_name}
use Rattle.register.specs.Held.{held}
use Rattle.spelling.specs.Said.{field, names, letters, found}
use Rattle.sheets.specs.Form.{longest}
use Rattle.spelling.specs.Conditions.{lacks, refused, refused_from}
use Rattle.spelling.specs.Reading.{step_of, rule_of}
use Rattle.loading.specs.Fields.{Heads}
use Rattle.loading.specs.Cells.{cell}
use Rattle.loading.specs.declared.draft.Draft.{Draft}

-- the step that entries among m letters give at column c for a name, if there is one
abbrev pub given_for : List (List ℕ) → ℕ → List Line → ℕ → Option (List ℕ) → Option (ℕ × ℕ)
given_for ns m es c None = None
given_for ns m es c (Some x) = step_of ns (found m x c es)

-- the same for the q-th of the names
abbrev pub given : List (List ℕ) → ℕ → List Line → ℕ → ℕ → Option (ℕ × ℕ)
given ns m es q c = given_for ns m es c (slice_get ns q)

-- the draft of the lines h ∷ es, whose names are ns
pub record DrawnBy (ns : List (List ℕ)) (h : Line) (es : List Line) (x : Draft) : Type 0 where
  pub heads : Heads h x.header
  pub named : held x.states.names ≡ map as_name ns
  pub start : place_of bytes_eq ns (field 3 h) ≡ Some x.start
  pub accept : place_of bytes_eq ns (field 4 h) ≡ Some x.accept
  pub reject : place_of bytes_eq ns (field 5 h) ≡ Some x.reject
  pub cells : (q c : ℕ) → q < 32 → c < 18 → told (cell x.steps.cells q c) ≡ given ns (letters (h ∷ [])) es q c

abbrev pub Drawn : Line → List Line → Draft → Type 0
Drawn h es x = DrawnBy (names (h ∷ es)) h es x

-- a step of the rule
abbrev pub settled : Draft → ℕ → ℕ → ℕ × ℕ
settled x q c = cond (q == x.accept || q == x.reject) (q, onward x.header.letters c) (unwrap_or (told (cell x.steps.cells q c)) (0, 0))

-- state q of k, which neither accepts nor rejects, lacks column c
pub record Gap (x : Draft) (k q c : ℕ) : Type 0 where
  pub state : q < k
  pub goes_on : (q ≢ x.accept) × (q ≢ x.reject)
  pub column : c < x.header.letters + 2
  pub none : cell x.steps.cells q c ≡ None

-- the draft of lines that are lawful where no column lacks
pub record Ready (x : Draft) : Type 0 where
  pub head : Line
  pub rest : List Line
  pub drawn : Drawn head rest x
  pub lawful : lacks (head ∷ rest) ≡ false → Lawful (rule_of (head ∷ rest))
  pub short : x.lines ≤ longest

-- the first lines of a sheet are read, none of them refused; `left` are the others
pub record Going (sheet : List ℕ) (left : List Line) (x : Draft) : Type 0 where
  pub head : Line
  pub done : List Line
  pub drawn : Drawn head done x
  pub counted : x.lines ≡ length done + 1
  pub all : lines sheet ≡ head ∷ (done ++ left)
  pub on : refused sheet ≡ refused_from (head ∷ done) left
  pub short : x.lines + length left ≤ longest
