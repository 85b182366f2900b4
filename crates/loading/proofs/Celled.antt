-- A cell that is written.
use Rattle.std.proofs.Common.{◌≡◌, ℕ, ◌<◌, cond, eqb, List, length, get_or, set, Some, None, Option, inl, inr}
use Rattle.std.proofs.lemmas.List.{get_or-set_same, get_or-set_other}
use Rattle.std.proofs.lemmas.Bool.{cases_eq, eq-eqb, ne_eqb}
use Rattle.rules.specs.declared.rule.Move.{Move}

pub put_row : (row : List (Option Move)) (c : ℕ) (m : Move) → c < length row → (k : ℕ) → get_or (set row c (Some m)) k None ≡ cond (eqb k c) (Some m) (get_or row k None)
put_row row c m l k = elim (cases_eq k c) [
  | inl e ↦ rw (e, eq-eqb c c (λ i. c)) (get_or-set_same row c (Some m) None l)
  | inr n ↦ rw (ne_eqb k c n) (get_or-set_other row c k (Some m) None n)
]
