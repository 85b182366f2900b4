-- The fields of a line by their numbers.
use Rattle.std.proofs.Common.{◌≡◌, ℕ, List, [], ◌∷◌, get_or, ap}
use Rattle.text.specs.Parts.{parts, tab}
use Rattle.text.specs.Lines.{Line}
use Rattle.sheets.specs.Fields.{all_fields}
use Rattle.sheets.specs.declared.fields.Fields.{Fields}
use Rattle.spelling.specs.Said.{field}

pub record Fielded (l : Line) (x : Fields) : Type 0 where
  pub second : field 2 l ≡ x.second.now
  pub third : field 3 l ≡ x.third.now
  pub fourth : field 4 l ≡ x.fourth.now
  pub fifth : field 5 l ≡ x.fifth.now

pub fielded : (word : List ℕ) (l : Line) (x : Fields) → parts tab l.text ≡ all_fields word x → Fielded l x
fielded word l x e = record { second = at 2; third = at 3; fourth = at 4; fifth = at 5 } where
  at : (n : ℕ) → field n l ≡ get_or ([] ∷ all_fields word x) n []
  at n = ap (λ (fs : List (List ℕ)). get_or ([] ∷ fs) n []) e
