-- The run of an automaton on a word, step by step, its verdict, and the steps that are counted.
use Rattle.std.specs.Prelude.{◌≡◌, ℕ, zero, suc, ◌+◌, ◌-◌, ◌*◌, ◌<◌, List, [], ◌∷◌, length, ◌≢◌, slice_index_or}
use Rattle.two_way.specs.declared.Verdict.{Verdict}
use Rattle.two_way.specs.Automaton.{Automaton, left_end, right_end, Way, L, R, to, way}

-- the letters of a word are the automaton's
abbrev pub Word : Automaton → List ℕ → Type 0
Word A [] = Unit {0}
Word A (a ∷ w) = (a < A.letters) × Word A w

-- the column at each position: the left end at 0, then the marks, then the right end
abbrev pub column : Automaton → List ℕ → ℕ → ℕ
column A w zero = left_end A
column A w (suc i) = slice_index_or w i (right_end A)

-- where a run stands: in a state, at a position
pub record Config : Type 0 where
  pub state : ℕ
  pub place : ℕ

abbrev pub moved : Way → ℕ → ℕ
moved L i = i - 1
moved R i = suc i

-- one step, with the column c i at position i
abbrev pub step : Automaton → (ℕ → ℕ) → Config → Config
step A c x = record { state = to A x.state (c x.place); place = moved (way A x.state (c x.place)) x.place }

-- n steps from x
abbrev pub after : Automaton → (ℕ → ℕ) → ℕ → Config → Config
after A c zero x = x
after A c (suc n) x = step A c (after A c n x)

-- a run begins in the start state at the left end
abbrev pub begin : Automaton → Config
begin A = record { state = A.start; place = 0 }

-- the run from x enters the state h, x itself counted
pub data Enters (A : Automaton) (c : ℕ → ℕ) (h : ℕ) : Config → Type 0 where
  now : {x : Config} → x.state ≡ h → Enters A c h x
  later : {x : Config} → Enters A c h (step A c x) → Enters A c h x

abbrev pub Accepts : Automaton → List ℕ → Type 0
Accepts A w = Enters A (column A w) A.accept (begin A)

abbrev pub Rejects : Automaton → List ℕ → Type 0
Rejects A w = Enters A (column A w) A.reject (begin A)

-- the verdict of the run on w is v
abbrev pub Reads : Automaton → List ℕ → Verdict → Type 0
Reads A w Verdict.Accepts = Accepts A w
Reads A w Verdict.Rejects = Rejects A w
Reads A w Verdict.Loops = (Accepts A w → ⊥) × (Rejects A w → ⊥)

-- neither accept nor reject
abbrev pub Going : Automaton → ℕ → Type 0
Going A q = (q ≢ A.accept) × (q ≢ A.reject)

-- the state of the run on w after n steps
abbrev pub state_after : Automaton → List ℕ → ℕ → ℕ
state_after A w n = (after A (column A w) n (begin A)).state

-- after n steps the run on w is in h, and before that it was never in accept or reject
abbrev pub HaltsAt : Automaton → List ℕ → ℕ → ℕ → Type 0
HaltsAt A w h n = (state_after A w n ≡ h) × ((i : ℕ) → i < n → Going A (state_after A w i))

-- the most steps that a run on n marks takes to enter accept or reject
abbrev pub most : Automaton → ℕ → ℕ
most A n = (A.states - 2) * (n + 2)

-- a walk over w has the verdict v and counts n steps: those up to the first that enters accept or reject, and `most` where none does
abbrev pub Walks : Automaton → List ℕ → Verdict → ℕ → Type 0
Walks A w Verdict.Accepts n = HaltsAt A w A.accept n
Walks A w Verdict.Rejects n = HaltsAt A w A.reject n
Walks A w Verdict.Loops n = Reads A w Verdict.Loops × (n ≡ most A (length w))
