-- The distance rule: it decides whether the mark at a distance from the end is a letter of a set.
use Rattle.std.specs.Prelude.{◌≡◌, ℕ, ◌+◌, ◌-◌, ◌/◌, ◌%◌, ◌^◌, ◌<◌, ◌≤◌, Bool, true, cond, ◌↔◌, List, length, ◌==◌, nat_lt, slice_index}
use Rattle.refusals.specs.declared.fault.Fault.TheVariants.{DistanceRange}
use Rattle.refusals.specs.declared.refusal.Refusal.{Refusal}
use Rattle.two_way.specs.declared.Verdict.{Verdict}
use Rattle.two_way.specs.Automaton.{Automaton}
use Rattle.two_way.specs.Runs.{Accepts, Rejects, Reads}
use Rattle.rules.specs.Steps.{automaton, onward}

-- a set of letters is a number: bit a is 1 where the letter a is in the set
abbrev pub has : ℕ → ℕ → Bool
has set a = (set / 2 ^ a % 2) == 1

-- a distance, a number of letters, and a set with no bit at the letters or above
abbrev pub Ranged : ℕ → ℕ → ℕ → Type 0
Ranged d m set = (1 ≤ d) × (d ≤ 29) × (1 ≤ m) × (m ≤ 16) × (set < 2 ^ m)

abbrev pub out_of_range : Refusal
out_of_range = record { fault = DistanceRange; line = 0; field = 0 }

-- the states 1 to d on a letter: back to the next one, and at the distance to accept or to reject
abbrev pub counted : ℕ → ℕ → ℕ → ℕ → ℕ × ℕ
counted d set q a = cond (nat_lt q d) (q + 1, 0) (cond (has set a) (d + 1, 1) (d + 2, 1))

-- State 0 runs to the right end and turns there into state 1. The states 1 to d reject at an end. Accept is d + 1 and reject d + 2.
abbrev pub distance_step : ℕ → ℕ → ℕ → ℕ → ℕ → ℕ × ℕ
distance_step d m set q c =
    cond (q == 0) (cond (nat_lt c (m + 1)) (0, 1) (1, 0))
    (cond (nat_lt d q) (q, onward m c)
    (cond (nat_lt c m) (counted d set q c) (d + 2, onward m c)))

abbrev pub distance_rule : ℕ → ℕ → ℕ → Automaton
distance_rule d m set = automaton (d + 3) m 0 (d + 1) (d + 2) (distance_step d m set)

-- there are at least d marks, and the d-th from the end is in the set
abbrev pub Marked : ℕ → ℕ → List ℕ → Type 0
Marked d set w = (d ≤ length w) × (has set (slice_index w (length w - d)) ≡ true)

-- A accepts w exactly when it is so marked, and else rejects it
pub record DistanceDecides (A : Automaton) (d set : ℕ) (w : List ℕ) : Type 0 where
  pub accepts : Accepts A w ↔ Marked d set w
  pub rejects : Rejects A w ↔ (Marked d set w → ⊥)
  pub no_loop : Reads A w Verdict.Loops → ⊥
