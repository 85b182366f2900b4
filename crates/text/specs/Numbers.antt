-- Decimal numbers as text; `decimal n` is what Rust's `{n}` writes. Assumes nothing.
use Rattle.std.specs.Prelude.{◌≡◌, ℕ, ◌+◌, ◌-◌, ◌*◌, ◌≤◌, Bool, true, false, cond, not, ◌&&◌, List, [], ◌∷◌, Some, None, decimal, Option, ◌==◌, ◌≢◌, nat_le}
use Rattle.std.specs.Str.{all_ascii_digits}

-- a byte or more, and no needless zero (48) in front
abbrev pub plain : List ℕ → Bool
plain [] = false
plain (b ∷ []) = true
plain (b ∷ c ∷ bs) = not (b == 48)

-- the number that digits write, after those of n
abbrev pub value_after : ℕ → List ℕ → ℕ
value_after n [] = n
value_after n (b ∷ bs) = value_after (n * 10 + (b - 48)) bs

-- the number that a text is, where it is one of at most this
abbrev pub number : ℕ → List ℕ → Option ℕ
number most text = cond (plain text && (all_ascii_digits text && nat_le (value_after 0 text) most)) (Some (value_after 0 text)) None

-- the number's digits are the text; where there is none, no such number has these digits
abbrev pub WrittenAs : ℕ → List ℕ → Option ℕ → Type 0
WrittenAs most text None = (n : ℕ) → n ≤ most → decimal n ≢ text
WrittenAs most text (Some n) = (n ≤ most) × (decimal n ≡ text)
