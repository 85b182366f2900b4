-- What an ask answers, with m letters and n rows in use. Assumes nothing.
use Rattle.std.specs.Prelude.{ℕ, zero, suc, Bool, true, cond, ◌&&◌, List, [], ◌∷◌, length, is_some, Some, None, Err, Option, Result, ◌==◌, nat_lt, slice_index, slice_index_or}
use Rattle.std.specs.Option.{ok_or}
use Rattle.two_way.specs.declared.Verdict.{Verdict}
use Rattle.two_way.specs.Verdicts.{named}
use Rattle.refusals.specs.declared.fault.Fault.TheVariants.{NoRows, DamagedTable}
use Rattle.refusals.specs.declared.refusal.Refusal.{Refusal}
use Rattle.refusals.specs.Line.{unplaced}
use Rattle.dfa.specs.declared.rows.DfaRow.{DfaRow}
use Rattle.dfa.specs.Rows.{blank_row}

-- the first m cells are rows in use
abbrev pub leads : ℕ → ℕ → DfaRow → Bool
leads zero n d = true
leads (suc a) n d = leads a n d && nat_lt (slice_index d.cells a) n

-- the verdict of a row, where it has one and its cells are rows in use
abbrev pub verdict_in : ℕ → ℕ → DfaRow → Option Verdict
verdict_in m n d = cond (leads m n d) (named d.verdict) None

abbrev pub row_at : List DfaRow → ℕ → DfaRow
row_at ds i = slice_index_or ds i blank_row

-- the row that a letter leads to from row i, which has to be sound
abbrev pub next_row : ℕ → ℕ → List DfaRow → ℕ → ℕ → Option ℕ
next_row m n ds i a = cond (is_some (verdict_in m n (row_at ds i))) (Some (slice_index (row_at ds i).cells a)) None

-- from row i by the letters one after another; each row met has to be sound
abbrev pub followed : ℕ → ℕ → List DfaRow → ℕ → List ℕ → Option Verdict
followed m n ds i [] = verdict_in m n (row_at ds i)
followed m n ds i (a ∷ w) = cond (is_some (verdict_in m n (row_at ds i))) (followed m n ds (slice_index (row_at ds i).cells a) w) None

abbrev pub asked : ℕ → ℕ → List DfaRow → List ℕ → Result Verdict Refusal
asked m n ds w =
    cond (n == 0) (Err (unplaced NoRows))
    (cond (nat_lt (length ds) n) (Err (unplaced DamagedTable))
    (ok_or (followed m n ds 0 w) (unplaced DamagedTable)))
