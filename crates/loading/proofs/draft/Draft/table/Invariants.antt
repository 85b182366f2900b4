use Rattle.std.proofs.Common.{◌≡◌, ℕ, ◌<◌, [], map, length, get_or}
use Rattle.std.specs.List.{range_with_len}
use Rattle.loading.specs.Drawn.{settled}
use Rattle.loading.proofs.draft.Draft.table.Given as goal

-- there are as many rows, and those so far are the states'
abbrev pub invariant-loop-state : goal.invariant-loop-state
invariant-loop-state l = (length l.row-items ≡ 32) × ((j : ℕ) → j < l.state → get_or l.row-items j [] ≡ map (settled l.self j) (range_with_len 0 18))
