-- Keys in their order of arrival: the place of a key, the list with a key added, and what the two mean.
-- `alike` is the sameness of a kind of key. Assumes nothing.
use Rattle.std.specs.Prelude.{◌≡◌, ℕ, suc, ◌<◌, Bool, cond, ◌⊎◌, List, [], ◌∷◌, ◌++◌, length, drop, is_some, Some, None, Option, nat_le, slice_index_or}

-- the next place
abbrev pub next_of : Option ℕ → Option ℕ
next_of None = None
next_of (Some i) = Some (suc i)

-- the place of a key: the first that has it, or none
abbrev pub place_of : {K : Type 0} → (K → K → Bool) → List K → K → Option ℕ
place_of alike [] k = None
place_of alike (x ∷ xs) k = cond (alike x k) (Some 0) (next_of (place_of alike xs k))

-- the list with a key added: at the end, unless the key has a place already
abbrev pub with_key : {K : Type 0} → (K → K → Bool) → List K → K → List K
with_key alike xs k = cond (is_some (place_of alike xs k)) xs (xs ++ k ∷ [])

-- whether `room` places hold the list with a key added
abbrev pub fits_in : {K : Type 0} → (K → K → Bool) → ℕ → List K → K → Bool
fits_in alike room xs k = nat_le (length (with_key alike xs k)) room

-- what adding a key answers: its place in the list with it added, or none where that list does not fit
unfoldable pub seat_of : {K : Type 0} → (K → K → Bool) → ℕ → List K → K → Option ℕ
seat_of alike room xs k = cond (fits_in alike room xs k) (place_of alike (with_key alike xs k) k) None

-- the keys that adding a key leaves: the list with it added, or the old one where that does not fit
unfoldable pub keys_after : {K : Type 0} → (K → K → Bool) → ℕ → List K → K → List K
keys_after alike room xs k = cond (fits_in alike room xs k) (with_key alike xs k) xs

-- places whose first ones have these keys, and whose others are as they were
abbrev pub laid_in : {K : Type 0} → List K → List K → List K
laid_in places xs = xs ++ drop (length xs) places

-- the key k stands at place i
abbrev pub At : {K : Type 0} → List K → K → ℕ → Type 0
At xs k i = (i < length xs) × (slice_index_or xs i k ≡ k)

-- no place has k
abbrev pub Absent : {K : Type 0} → List K → K → Type 0
Absent xs k = (i : ℕ) → At xs k i → ⊥

-- the keys are pairwise different: none stands at two places
abbrev pub Differ : {K : Type 0} → List K → Type 0
Differ {K} xs = (k : K) (i j : ℕ) → (i < j) × At xs k i × At xs k j → ⊥

-- What finding k among different keys xs means for its answer r.
pub record Tells {K : Type 0} (xs : List K) (k : K) (r : Option ℕ) : Type 0 where
  pub some : (i : ℕ) → r ≡ Some i → At xs k i
  pub some_back : (i : ℕ) → At xs k i → r ≡ Some i
  pub none : r ≡ None → Absent xs k
  pub none_back : Absent xs k → r ≡ None

-- What adding k to the keys xs, with `room` places for keys, means for its answer r and the keys ys after.
pub record Grows {K : Type 0} (room : ℕ) (xs : List K) (k : K) (r : Option ℕ) (ys : List K) : Type 0 where
  pub different : Differ ys
  pub stands : (i : ℕ) → r ≡ Some i → At ys k i
  pub stay : (x : K) (i : ℕ) → At xs x i → At ys x i
  pub others : (x : K) (i : ℕ) → At ys x i → At xs x i ⊎ (x ≡ k)
  pub none : r ≡ None → Absent xs k × (length xs ≡ room) × (ys ≡ xs)
  pub none_back : Absent xs k → length xs ≡ room → r ≡ None

-- What adding k answers and leaves: the places before, of which the first ones have the keys xs, and after, with the keys ys.
pub record Added {K : Type 0} (alike : K → K → Bool) (before xs : List K) (k : K) (r : Option ℕ) (after ys : List K) : Type 0 where
  pub place : r ≡ seat_of alike (length before) xs k
  pub keys : ys ≡ keys_after alike (length before) xs k
  pub others : after ≡ laid_in before ys
  pub room : length after ≡ length before
  pub grows : Grows (length before) xs k r ys
