-- Steps as an automaton has them; an automaton from its numbers and a total function of steps, and the test that its steps keep the laws.
use Rattle.std.specs.Prelude.{◌≡◌, ℕ, ◌+◌, ◌<◌, ◌≤◌, Bool, true, cond, ◌&&◌, ◌||◌, List, [], Some, None, Option, ◌==◌, ◌≢◌, nat_lt, slice_index_or}
use Rattle.two_way.specs.Automaton.{Automaton, Way, L, R}
use Rattle.rules.specs.declared.rule.Direction.{Direction}
use Rattle.rules.specs.declared.rule.Direction.TheVariants.{Left, Right}
use Rattle.rules.specs.declared.rule.Move.{Move}

abbrev pub direction_number : Direction → ℕ
direction_number Left = 0
direction_number Right = 1

abbrev pub way_of : Direction → Way
way_of Left = L
way_of Right = R

-- the next state, and the direction's number
abbrev pub pair_of : Move → ℕ × ℕ
pair_of s = (s.to, direction_number s.direction)

-- what is done where there is no step
abbrev pub stay : ℕ → Move
stay q = record { to = q; direction = Left }

abbrev pub told : Option Move → Option (ℕ × ℕ)
told None = None
told (Some s) = Some (pair_of s)

-- k states, m letters, start s, accept t, reject r
abbrev pub automaton : ℕ → ℕ → ℕ → ℕ → ℕ → (ℕ → ℕ → ℕ × ℕ) → Automaton
automaton k m s t r step = record {
  states = k;
  letters = m;
  start = s;
  accept = t;
  reject = r;
  next = λ q c. cond (nat_lt q k && nat_lt c (m + 2)) (Some (step q c)) None;
}

-- a row of steps for each state
abbrev pub at : List (List (ℕ × ℕ)) → ℕ → ℕ → ℕ × ℕ
at steps q c = slice_index_or (slice_index_or steps q []) c (0, 0)

abbrev pub stored : ℕ → ℕ → ℕ → ℕ → ℕ → List (List (ℕ × ℕ)) → Automaton
stored k m s t r steps = automaton k m s t r (at steps)

abbrev pub Sizes : ℕ → ℕ → ℕ → ℕ → ℕ → Type 0
Sizes k m s t r = ((2 ≤ k) × (k ≤ 32) × (1 ≤ m) × (m ≤ 16)) × ((s < k) × (t < k) × (r < k) × (t ≢ r))

-- R, but L at the right end
abbrev pub onward : ℕ → ℕ → ℕ
onward m c = cond (nat_lt c (m + 1)) 1 0

-- a step that the state q may have at the column c: accept and reject keep themselves going onward, the ends turn back
abbrev pub allowed : ℕ → ℕ → ℕ → ℕ → ℕ → ℕ → ℕ × ℕ → Bool
allowed k m t r q c x =
    cond (q == t || q == r) (x.0 == q && x.1 == onward m c)
    (nat_lt x.0 k && cond (nat_lt c m) (nat_lt x.1 2) (x.1 == onward m c))

-- every step of the state q is allowed
abbrev pub RowKept : ℕ → ℕ → ℕ → ℕ → (ℕ → ℕ → ℕ × ℕ) → ℕ → Type 0
RowKept k m t r step q = (c : ℕ) → c < m + 2 → allowed k m t r q c (step q c) ≡ true

abbrev pub Kept : ℕ → ℕ → ℕ → ℕ → (ℕ → ℕ → ℕ × ℕ) → Type 0
Kept k m t r step = (q c : ℕ) → (q < k) × (c < m + 2) → allowed k m t r q c (step q c) ≡ true
