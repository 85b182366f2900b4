-- The crossing table of a word says in which state the automaton comes out of the word to the right: from each state in which it may stand
-- on the last position of the word, and from the beginning, where coming out is the first arrival at the position after the word. Or it
-- says that it never comes out. The table has a verdict, that of the words whose table it is.
use Rattle.std.specs.Prelude.{◌≡◌, ℕ, zero, suc, ◌<◌, Bool, false, cond, ◌||◌, List, [], ◌∷◌, Some, None, Option, ◌==◌}
use Rattle.two_way.specs.declared.Verdict.{Verdict}
use Rattle.two_way.specs.Automaton.{Automaton, left_end, right_end, Way, L, R, to, way}

-- `None` is "never comes out"
pub record Table : Type 0 where
  pub first : Option ℕ
  pub at : ℕ → Option ℕ

-- One turn at a position: the automaton comes back to it in another state, or the turns stop with an answer.
pub data Turn (X Y : Type 0) : Type 0 where
  on : X → Turn X Y
  stop : Y → Turn X Y

abbrev pub turned : {X Y : Type 0} → Turn X Y → (X → Y) → Y
turned (on x) k = k x
turned (stop y) k = y

abbrev pub has : List ℕ → ℕ → Bool
has [] p = false
has (q ∷ met) p = p == q || has met p

-- Turn by turn from the state p, the states `met` behind it. A state met again would be met for ever, so the answer is then `never`.
-- At most n turns: with `states + 1` of them either the turns stop or a state is met again, since there are `states` states to meet.
abbrev pub follow : {Y : Type 0} → Y → (ℕ → Turn ℕ Y) → ℕ → List ℕ → ℕ → Y
follow never f zero met p = never
follow never f (suc n) met p = let rest = turned (f p) (λ q. follow never f n (p ∷ met) q) in cond (has met p) never rest

-- what follows an answer: `never`, or k of the state
abbrev pub arriving : {Y : Type 0} → Y → Option ℕ → (ℕ → Y) → Y
arriving never None k = never
arriving never (Some p) k = k p

-- A turn on a letter, which leads to the state q: going R it comes out; going L it stands in q on the last position before the letter,
-- where the answers are T.
abbrev pub turn_by : (ℕ → Option ℕ) → ℕ → Way → Turn ℕ (Option ℕ)
turn_by T q R = stop (Some q)
turn_by T q L = arriving (stop None) (T q) on

abbrev pub crossing : Automaton → (ℕ → Option ℕ) → ℕ → ℕ → Turn ℕ (Option ℕ)
crossing A T a p = turn_by T (to A p a) (way A p a)

-- the state in which the automaton, standing on the letter a in state p, comes out of it to the right
unfoldable pub cross : Automaton → (ℕ → Option ℕ) → ℕ → ℕ → Option ℕ
cross A T a p = follow None (crossing A T a) (suc A.states) [] p

-- before the first letter there is the left end alone
abbrev pub empty_table : Automaton → Table
empty_table A = record { first = Some (to A A.start (left_end A)); at = λ q. Some (to A q (left_end A)) }

-- one letter more
abbrev pub extended : Automaton → Table → ℕ → Table
extended A T a = record { first = arriving None T.first (cross A T.at a); at = cross A T.at a }

abbrev pub table_from : Automaton → Table → List ℕ → Table
table_from A T [] = T
table_from A T (a ∷ w) = table_from A (extended A T a) w

abbrev pub table : Automaton → List ℕ → Table
table A w = table_from A (empty_table A) w

-- a turn that stops in accept and in reject
abbrev pub sieve : {X : Type 0} → Automaton → ℕ → Turn X Verdict → Turn X Verdict
sieve A q rest = cond (q == A.accept) (stop Verdict.Accepts) (cond (q == A.reject) (stop Verdict.Rejects) rest)

-- a turn at the right end: it goes L into the word, whose answers are T
abbrev pub ending : Automaton → (ℕ → Option ℕ) → ℕ → Turn ℕ Verdict
ending A T q = sieve A q (arriving (stop Verdict.Loops) (T (to A q (right_end A))) on)

-- the verdict of the words that have the table: from the first arrival on, at the right end
unfoldable pub verdict : Automaton → Table → Verdict
verdict A T = arriving Verdict.Loops T.first (follow Verdict.Loops (ending A T.at) (suc A.states) [])

-- the same answer at the first arrival and at every state
pub record Same (A : Automaton) (T U : Table) : Type 0 where
  pub firsts : T.first ≡ U.first
  pub ats : (q : ℕ) → q < A.states → T.at q ≡ U.at q

-- the answers are states
pub record Inside (A : Automaton) (T : Table) : Type 0 where
  pub first_in : (p : ℕ) → T.first ≡ Some p → p < A.states
  pub at_in : (q p : ℕ) → q < A.states → T.at q ≡ Some p → p < A.states
