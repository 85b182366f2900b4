-- The pair of two automata over the same letters: the first one's states, then the second one's. It runs the first; where that accepts, it
-- goes back to the left end and runs the second.
use Rattle.std.specs.Prelude.{◌≡◌, ℕ, ◌+◌, ◌-◌, ◌≤◌, Bool, cond, ◌&&◌, Some, None, Option, ◌==◌, nat_le, nat_lt}
use Rattle.two_way.specs.declared.Verdict.{Verdict}
use Rattle.two_way.specs.Automaton.{Automaton, left_end, right_end}

-- a step of the second automaton, whose states are renumbered
abbrev pub shifted : ℕ → Option (ℕ × ℕ) → Option (ℕ × ℕ)
shifted k None = None
shifted k (Some x) = Some (k + x.0, x.1)

-- the first one's accept: back to the left end, and there the second one's first step
abbrev pub handed_over : Automaton → Automaton → ℕ → Option (ℕ × ℕ)
handed_over A B c = cond (c == left_end A) (shifted A.states (B.next B.start c)) (Some (A.accept, 0))

-- the first one's reject: on to the second one's
abbrev pub given_up : Automaton → Automaton → ℕ → Option (ℕ × ℕ)
given_up A B c = Some (A.states + B.reject, cond (nat_lt c (right_end A)) 1 0)

abbrev pub first_next : Automaton → Automaton → ℕ → ℕ → Option (ℕ × ℕ)
first_next A B q c = cond (q == A.accept) (handed_over A B c) (cond (q == A.reject) (given_up A B c) (A.next q c))

abbrev pub composed_step : Automaton → Automaton → ℕ → ℕ → Option (ℕ × ℕ)
composed_step A B q c =
    cond (nat_lt c (A.letters + 2))
    (cond (nat_lt q A.states) (first_next A B q c) (shifted A.states (B.next (q - A.states) c)))
    None

abbrev pub composed : Automaton → Automaton → Automaton
composed A B = record {
  states = A.states + B.states;
  letters = A.letters;
  start = A.start;
  accept = A.states + B.accept;
  reject = A.states + B.reject;
  next = composed_step A B;
}

-- two states, both of which run to the right end; it begins in reject
abbrev pub blank : ℕ → Automaton
blank m = record {
  states = 2;
  letters = m;
  start = 1;
  accept = 0;
  reject = 1;
  next = λ q c. cond (nat_lt q 2 && nat_lt c (m + 2)) (Some (q, cond (nat_lt c (m + 1)) 1 0)) None;
}

abbrev pub Fits : Automaton → Automaton → Type 0
Fits A B = (A.states + B.states ≤ 32) × (A.letters ≡ B.letters)

-- the test of `Fits`
abbrev pub fits : Automaton → Automaton → Bool
fits A B = nat_le (A.states + B.states) 32 && A.letters == B.letters

-- two automata that do not fit have a pair that rejects every word
abbrev pub pair : Automaton → Automaton → Automaton
pair A B = cond (fits A B) (composed A B) (blank A.letters)

-- the pair's verdict, from those of the two
abbrev pub both : Verdict → Verdict → Verdict
both Verdict.Accepts v = v
both Verdict.Rejects v = Verdict.Rejects
both Verdict.Loops v = Verdict.Loops
