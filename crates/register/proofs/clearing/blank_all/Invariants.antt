use Rattle.std.proofs.Common.{◌≡◌, ℕ, ◌<◌, get_or}
use Rattle.register.proofs.clearing.blank_all.Given as goal

-- the places so far are blank
abbrev pub invariant-loop-key : goal.invariant-loop-key
invariant-loop-key g l = (j : ℕ) → j < l.key-index → get_or l.keys j g.K.Blank.blank ≡ g.K.Blank.blank
