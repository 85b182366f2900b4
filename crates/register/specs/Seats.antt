-- What adding a key comes to, by where it was found, before anything is written. Assumes nothing.
use Rattle.std.specs.Prelude.{◌≡◌, ℕ, ◌+◌, Bool, List, length, take, Some, None, Option, ◌≢◌, slice_set}
use Rattle.register.specs.Keys.{Added}

-- what adding k answers and leaves, where the first n places have keys, and k was found among them or not
abbrev pub Seated : {K : Type 0} → (K → K → Bool) → List K → ℕ → K → Option ℕ → Type 0
Seated alike places n k (Some i) = Added alike places (take n places) k (Some i) places (take n places)
Seated alike places n k None =
    (n ≡ length places → Added alike places (take n places) k None places (take n places))
    × (n ≢ length places → Added alike places (take n places) k (Some n) (slice_set places n k) (take (n + 1) (slice_set places n k)))
