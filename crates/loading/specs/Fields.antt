-- What the code holds of the fields of one line. Assumes nothing.
use Rattle.std.specs.Prelude.{◌≡◌, ℕ, Some}
use Rattle.text.specs.Lines.{Line}
use Rattle.register.specs.Names.{as_name}
use Rattle.rules.specs.Steps.{direction_number}
use Rattle.spelling.specs.Words.{letters_of, column_of, direction_of}
use Rattle.spelling.specs.Said.{field}
use Rattle.loading.specs.declared.words.Header.{Header}
use Rattle.loading.specs.declared.words.Entry.{Entry}

-- the words of line 1
pub record Heads (l : Line) (x : Header) : Type 0 where
  pub letters : letters_of (field 2 l) ≡ Some x.letters
  pub start : x.start ≡ as_name (field 3 l)
  pub accept : x.accept ≡ as_name (field 4 l)
  pub reject : x.reject ≡ as_name (field 5 l)

-- the words of a later line, among m letters
pub record Says (m : ℕ) (l : Line) (x : Entry) : Type 0 where
  pub state : x.state ≡ as_name (field 2 l)
  pub column : column_of m (field 3 l) ≡ Some x.column
  pub next : x.next ≡ as_name (field 4 l)
  pub direction : direction_of (field 5 l) ≡ Some (direction_number x.direction)
