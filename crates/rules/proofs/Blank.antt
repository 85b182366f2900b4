-- The table of the new stored rule.
use Rattle.std.proofs.Common.{◌≡◌, ℕ, zero, suc, ◌<◌, true, List, set, replicate, Option, refl, ap, arith}
use mathlib.Core.Path.{fun_ext}
use Rattle.std.proofs.lemmas.Bool.Decides.{nat_tests}
use Rattle.two_way.specs.Pairs.{blank}
use Rattle.rules.specs.Steps.{stored, at, onward, allowed, Kept}

abbrev rows : List (List (ℕ × ℕ))
rows =
    let first = set (replicate 18 (0, 1)) 2 (0, 0) in
    let second = set (replicate 18 (1, 1)) 2 (1, 0) in
    set (set (set (replicate 32 (replicate 18 (0, 1))) 0 first) 1 (replicate 18 (1, 1))) 1 second

-- each of the six steps, by computing
each : (P : ℕ → ℕ → Type 0) → P 0 0 × P 0 1 × P 0 2 × P 1 0 × P 1 1 × P 1 2 → (q c : ℕ) → q < 2 → c < 3 → P q c
each P p zero zero h k = p.0
each P p zero (suc zero) h k = p.1
each P p zero (suc (suc zero)) h k = p.2
each P p (suc zero) zero h k = p.3
each P p (suc zero) (suc zero) h k = p.4
each P p (suc zero) (suc (suc zero)) h k = p.5
each P p zero (suc (suc (suc c))) h k = absurd (omega arith)
each P p (suc zero) (suc (suc (suc c))) h k = absurd (omega arith)
each P p (suc (suc q)) c h k = absurd (omega arith)

pub new_kept : Kept 2 1 0 1 (at rows)
new_kept q c h = each (λ q c. allowed 2 1 0 1 q c (at rows q c) ≡ true) (refl, refl, refl, refl, refl, refl) q c h.0 h.1

pub new_means : stored 2 1 1 0 1 rows ≡ blank 1
new_means =
    ap (λ (n : ℕ → ℕ → Option (ℕ × ℕ)). record { states = 2; letters = 1; start = 1; accept = 0; reject = 1; next = n })
    (fun_ext (λ q. fun_ext (λ c. grind (arith, nat_tests, each (λ q c. at rows q c ≡ (q, onward 1 c)) (refl, refl, refl, refl, refl, refl) q c))))
