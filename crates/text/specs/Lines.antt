-- The lines of a text. Assumes nothing.
use Rattle.std.specs.Prelude.{◌≡◌, ℕ, ◌<◌, Bool, true, false, cond, List, [], ◌∷◌, ◌++◌, length}
use Rattle.std.specs.Str.Iter.{LacksByte}
use Rattle.std.specs.List.{flat_map, AllByRecursion}
use Rattle.text.specs.Parts.{parts, line_feed}

-- a line: its bytes, and whether a line feed ends it
pub record Line : Type 0 where
  pub text : List ℕ
  pub ended : Bool

-- what follows the last line feed, which is a line where it has a byte
abbrev pub last_line : List ℕ → List Line
last_line [] = []
last_line (b ∷ bs) = record { text = b ∷ bs; ended = false } ∷ []

-- the lines that the parts between line feeds are: each is ended but the last
abbrev pub as_lines : List (List ℕ) → List Line
as_lines [] = []
as_lines (p ∷ []) = last_line p
as_lines (p ∷ q ∷ ps) = record { text = p; ended = true } ∷ as_lines (q ∷ ps)

abbrev pub lines : List ℕ → List Line
lines text = as_lines (parts line_feed text)

-- the bytes of a line, with the line feed that ends it
abbrev pub line_bytes : Line → List ℕ
line_bytes l = l.text ++ cond l.ended (line_feed ∷ []) []

-- each line is ended but the last, which is not empty where it is not
abbrev pub Ended : List Line → Type 0
Ended [] = Unit {0}
Ended (l ∷ []) = l.ended ≡ false → 0 < length l.text
Ended (l ∷ k ∷ ls) = (l.ended ≡ true) × Ended (k ∷ ls)

-- lines without a line feed inside, which one after another are the text
pub record LinedAs (text : List ℕ) (ls : List Line) : Type 0 where
  pub whole : flat_map line_bytes ls ≡ text
  pub clear : AllByRecursion (λ l. LacksByte line_feed l.text) ls
  pub ended : Ended ls

-- and no other lines are such
abbrev pub Lined : List ℕ → List Line → Type 0
Lined text ls = LinedAs text ls × ((ks : List Line) → LinedAs text ks → ks ≡ ls)
