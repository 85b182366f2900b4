-- Bytes that are their own letters. Assumes nothing.
use Rattle.std.specs.Prelude.{ℕ, ◌-◌, min, max, cond, nat_lt}

-- a number of letters: 1 at least, 16 at most
abbrev pub letter_count : ℕ → ℕ
letter_count n = max 1 (min n 16)

-- among n letters: the byte's own, or the last
abbrev pub plain_letter : ℕ → ℕ → ℕ
plain_letter n b = cond (nat_lt b n) b (n - 1)
