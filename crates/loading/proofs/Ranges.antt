-- A test that no number below a bound passed.
use Rattle.std.proofs.Common.{◌≡◌, ℕ, ◌<◌, Bool, true, false, length, MatchBool, ◌∙◌, subst, zero-add, zero-le, arith}
use Rattle.std.specs.List.{AllWithin, range_with_len}
use Rattle.std.proofs.lemmas.List.FromFn.{length-range_with_len, get_or-range_with_len}

-- a test that no number passed
pub none_below : (Yes : Type 0) (No : ℕ → Type 0) (n : ℕ) (r : Bool) → MatchBool r Yes (AllWithin No (range_with_len 0 n) 0 (length (range_with_len 0 n))) → r ≡ false → (k : ℕ) → k < n → No k
none_below Yes No n false h e k l = subst No (get_or-range_with_len 0 n k 0 l ∙ zero-add k) (h k 0 zero-le (omega (arith, length-range_with_len 0 n)))
none_below Yes No n true h e k l = absurd (let z : ◌≡◌ {A = ℕ} 0 1 = cc in omega arith)
