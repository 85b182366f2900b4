-- What the lines of a sheet say together: the first line is the rule's, the others are entries. Assumes nothing.
use Rattle.std.specs.Prelude.{ℕ, Bool, false, cond, ◌&&◌, ◌||◌, List, [], ◌∷◌, Some, None, Option, ◌==◌, slice_index_or}
use Rattle.std.specs.Option.{unwrap_or}
use Rattle.std.specs.Str.{bytes_eq}
use Rattle.text.specs.Parts.{parts, tab}
use Rattle.text.specs.Lines.{Line}
use Rattle.register.specs.Keys.{place_of, with_key}
use Rattle.spelling.specs.Words.{letters_of, column_of}

-- the field of a line with this number, counted from 1
abbrev pub field : ℕ → Line → List ℕ
field n l = slice_index_or ([] ∷ parts tab l.text) n []

-- names with one more, unless it is among them already
abbrev pub with_name : List (List ℕ) → List ℕ → List (List ℕ)
with_name ns x = with_key bytes_eq ns x

-- names and then others, each once, as they first appear
abbrev pub in_order : List (List ℕ) → List (List ℕ) → List (List ℕ)
in_order ns [] = ns
in_order ns (x ∷ xs) = in_order (with_name ns x) xs

-- the number of the state with this name
abbrev pub state_of : List (List ℕ) → List ℕ → ℕ
state_of ns x = unwrap_or (place_of bytes_eq ns x) 0

-- the names on entries, in the order of the text
abbrev pub entry_names : List Line → List (List ℕ)
entry_names [] = []
entry_names (e ∷ es) = field 2 e ∷ field 4 e ∷ entry_names es

-- the names on all lines, in the order of the text
abbrev pub spoken : List Line → List (List ℕ)
spoken [] = []
spoken (h ∷ es) = field 3 h ∷ field 4 h ∷ field 5 h ∷ entry_names es

-- the states' names: state q has the q-th name that appears
abbrev pub names : List Line → List (List ℕ)
names ls = in_order [] (spoken ls)

abbrev pub first_line : List Line → Line
first_line [] = record { text = []; ended = false }
first_line (h ∷ es) = h

abbrev pub entries : List Line → List Line
entries [] = []
entries (h ∷ es) = es

abbrev pub letters : List Line → ℕ
letters ls = unwrap_or (letters_of (field 2 (first_line ls))) 0

abbrev pub start_name : List Line → List ℕ
start_name ls = field 3 (first_line ls)

abbrev pub accept_name : List Line → List ℕ
accept_name ls = field 4 (first_line ls)

abbrev pub reject_name : List Line → List ℕ
reject_name ls = field 5 (first_line ls)

-- the name of the accept or of the reject state
abbrev pub halts : List Line → List ℕ → Bool
halts ls x = bytes_eq (accept_name ls) x || bytes_eq (reject_name ls) x

-- the entry is for this name and this column, among m letters
abbrev pub is_for : ℕ → List ℕ → ℕ → Line → Bool
is_for m x c e = bytes_eq (field 2 e) x && unwrap_or (column_of m (field 3 e)) 0 == c

abbrev pub found : ℕ → List ℕ → ℕ → List Line → Option Line
found m x c [] = None
found m x c (e ∷ es) = cond (is_for m x c e) (Some e) (found m x c es)

-- the first entry for a state's name and a column
abbrev pub entry_for : List Line → List ℕ → ℕ → Option Line
entry_for ls x c = found (letters ls) x c (entries ls)
