-- A number's digits, counted and written from the first to the last.
use Rattle.std.proofs.Common.{◌≡◌, ℕ, ◌+◌, ◌/◌, ◌%◌, ◌^◌, ◌<◌, ◌≤◌, List, [], ◌∷◌, ◌++◌, length, get_or, drop, set, decimal, sym, refl, ap, ◌∙◌, append_assoc, arith}
use Rattle.std.proofs.lemmas.List.{length_push, drop_more, set_at}
use Rattle.std.proofs.lemmas.Fmt.{decimal_digit, decimal_step}

pub one_digit : (n : ℕ) → n < 10 → 1 ≡ length (decimal n)
one_digit n h = sym (ap length (decimal_digit n h))

pub one_more : (n : ℕ) → 10 ≤ n → n < 2 ^ 64 → length (decimal (n / 10)) + 1 ≡ length (decimal n)
one_more n h l = sym (ap length (decimal_step n h l) ∙ length_push (decimal (n / 10)) (48 + n % 10))

-- the front of a list, written over
pub put_one : (x : ℕ) (out : List ℕ) → 1 ≤ length out → set out 0 x ≡ (x ∷ []) ++ drop 1 out
put_one x [] h = absurd (omega arith)
put_one x (b ∷ out) h = refl

pub put_more : (p out : List ℕ) (x : ℕ) → length p < length out → set (p ++ drop (length p) out) (length p) x ≡ (p ++ (x ∷ [])) ++ drop (length p + 1) out
put_more p out x h =
    ap (λ (t : List ℕ). set (p ++ t) (length p) x) (drop_more out (length p) 0 h)
    ∙ set_at p (get_or out (length p) 0) (drop (length p + 1) out) x (length p) refl
    ∙ sym (append_assoc p (x ∷ []) (drop (length p + 1) out))
