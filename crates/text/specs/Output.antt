-- Bytes written to the front of others. Assumes nothing.
use Rattle.std.specs.Prelude.{◌≡◌, ℕ, ◌≤◌, cond, List, ◌++◌, length, take, drop, Some, None, decimal, Option, nat_le}
use Rattle.text.specs.Numbers.{number}

-- how many bytes are written: all, or none where there is no room
abbrev pub room : List ℕ → List ℕ → Option ℕ
room bytes out = cond (nat_le (length bytes) (length out)) (Some (length bytes)) None

-- the bytes in front, and the others as they were
abbrev pub put : List ℕ → List ℕ → List ℕ
put bytes out = cond (nat_le (length bytes) (length out)) (bytes ++ drop (length bytes) out) out

-- the digits of n are written to the front of out, and are read back as n; r says how many
pub record Written (n : ℕ) (out : List ℕ) (r : Option ℕ) (new : List ℕ) : Type 0 where
  pub answer : r ≡ room (decimal n) out
  pub after : new ≡ put (decimal n) out
  pub read_back : (k most : ℕ) → r ≡ Some k → n ≤ most → number most (take k new) ≡ Some n
