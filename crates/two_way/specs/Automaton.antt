-- A two-way automaton is what it answers to six questions, and it is lawful when its answers keep four laws.
-- It reads columns: column a is the letter a, column `letters` the left end, column `letters + 1` the right end.
use Rattle.std.specs.Prelude.{◌≡◌, ℕ, ◌+◌, ◌<◌, ◌≤◌, cond, Some, None, Option, ◌==◌, ◌≢◌}

-- `next` is the step of a state at a column: the next state, and the direction, 0 for L and 1 for R
pub record Automaton : Type 0 where
  pub states : ℕ
  pub letters : ℕ
  pub start : ℕ
  pub accept : ℕ
  pub reject : ℕ
  pub next : ℕ → ℕ → Option (ℕ × ℕ)

abbrev pub left_end : Automaton → ℕ
left_end A = A.letters

abbrev pub right_end : Automaton → ℕ
right_end A = A.letters + 1

-- the state q keeps itself, going R everywhere but at the right end, where it goes L
pub record Keeps (A : Automaton) (q : ℕ) : Type 0 where
  pub on : (c : ℕ) → c < right_end A → A.next q c ≡ Some (q, 1)
  pub at_right : A.next q (right_end A) ≡ Some (q, 0)

pub record Lawful (A : Automaton) : Type 0 where
  -- the numbers are in range
  pub states_low : 2 ≤ A.states
  pub states_high : A.states ≤ 32
  pub letters_low : 1 ≤ A.letters
  pub letters_high : A.letters ≤ 16
  pub start_in : A.start < A.states
  pub accept_in : A.accept < A.states
  pub reject_in : A.reject < A.states
  pub apart : A.accept ≡ A.reject → ⊥
  -- there is a step exactly for each state and column in range, and it leads to a state
  pub inside : (q c : ℕ) → q < A.states → c < A.letters + 2 → A.next q c ≢ None
  pub past_states : (q c : ℕ) → A.states ≤ q → A.next q c ≡ None
  pub past_columns : (q c : ℕ) → A.letters + 2 ≤ c → A.next q c ≡ None
  pub state_in : (q c p d : ℕ) → A.next q c ≡ Some (p, d) → p < A.states
  pub direction_in : (q c p d : ℕ) → A.next q c ≡ Some (p, d) → d < 2
  -- the ends turn the automaton back
  pub at_left : (q p d : ℕ) → A.next q (left_end A) ≡ Some (p, d) → d ≡ 1
  pub at_right : (q p d : ℕ) → A.next q (right_end A) ≡ Some (p, d) → d ≡ 0
  -- what is accepted or rejected stays so
  pub accept_keeps : Keeps A A.accept
  pub reject_keeps : Keeps A A.reject

pub data Way : Type 0 where
  L R : Way

-- The step as two total functions. Where there is no step the state stays and the way is L: a run of a lawful automaton never asks there.
unfoldable pub to : Automaton → ℕ → ℕ → ℕ
to A q c = elim (A.next q c) [ Some x ↦ x.0 | None ↦ q ]

unfoldable pub way : Automaton → ℕ → ℕ → Way
way A q c = elim (A.next q c) [ Some x ↦ cond (x.1 == 1) R L | None ↦ L ]
