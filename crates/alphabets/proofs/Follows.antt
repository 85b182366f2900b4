-- A table that passes the test follows its rule at each of its places. Assumes nothing.
use Rattle.std.proofs.Common.{◌≡◌, ℕ, zero, suc, ◌+◌, ◌<◌, true, eqb, List, [], ◌∷◌, length, get_or, sym, ap, ◌∙◌, le_of_suc-le-suc, not-suc-le-zero, add-zero, add-suc, suc-add, zero-add}
use Rattle.std.proofs.lemmas.Bool.{and_parts, eqb-true}
use Rattle.alphabets.specs.Titles.{follows}

from : (rule : ℕ → ℕ) (xs : List ℕ) (i : ℕ) → follows rule i xs ≡ true → (k : ℕ) → k < length xs → get_or xs k 0 ≡ rule (i + k)
from rule [] i t k h = absurd (not-suc-le-zero h)
from rule (x ∷ xs) i t zero h =
    let p = and_parts (eqb x (rule i)) (follows rule (suc i) xs) t in
    eqb-true x (rule i) p.0 ∙ ap rule (sym (add-zero i))
from rule (x ∷ xs) i t (suc k) h =
    let p = and_parts (eqb x (rule i)) (follows rule (suc i) xs) t in
    from rule xs (suc i) p.1 k (le_of_suc-le-suc h) ∙ ap rule (suc-add i k ∙ sym (add-suc i k))

pub entry : (rule : ℕ → ℕ) (xs : List ℕ) → follows rule 0 xs ≡ true → (k : ℕ) → k < length xs → get_or xs k 0 ≡ rule k
entry rule xs t k h = from rule xs 0 t k h ∙ ap rule (zero-add k)
