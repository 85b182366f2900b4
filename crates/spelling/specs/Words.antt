-- What a field of a line says: a name, a number of letters, a column, a direction. Assumes nothing.
use Rattle.std.specs.Prelude.{ℕ, ◌+◌, Bool, cond, ◌&&◌, List, length, Some, None, codes, Option, nat_le, nat_lt}
use Rattle.std.specs.Str.{bytes_eq}
use Rattle.text.specs.Numbers.{number}

-- 1 to 16 bytes
abbrev pub is_name : List ℕ → Bool
is_name f = nat_le 1 (length f) && nat_le (length f) 16

-- the number, if it is from low up to, and without, high
abbrev pub within : ℕ → ℕ → Option ℕ → Option ℕ
within low high None = None
within low high (Some n) = cond (nat_le low n && nat_lt n high) (Some n) None

-- the number of letters: 1 to 16
abbrev pub letters_of : List ℕ → Option ℕ
letters_of f = within 1 17 (number 16 f)

-- the column among m letters: `<` is m, `>` is m + 1, and else it is a letter
abbrev pub column_of : ℕ → List ℕ → Option ℕ
column_of m f = cond (bytes_eq f (codes "<")) (Some m) (cond (bytes_eq f (codes ">")) (Some (m + 1)) (within 0 m (number 16 f)))

-- the direction: L is 0 and R is 1
abbrev pub direction_of : List ℕ → Option ℕ
direction_of f = cond (bytes_eq f (codes "L")) (Some 0) (cond (bytes_eq f (codes "R")) (Some 1) None)
