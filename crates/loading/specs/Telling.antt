-- What the answer to a sheet tells. Assumes nothing.
use Rattle.std.specs.Prelude.{◌≡◌, ℕ, Some, Ok, Err, Option, Result}
use Rattle.refusals.specs.declared.fault.Fault.{Fault}
use Rattle.refusals.specs.declared.refusal.Refusal.{Refusal}
use Rattle.two_way.specs.Automaton.{Automaton}
use Rattle.rules.specs.Kinds.{of_stored}
use Rattle.rules.specs.declared.stored.StoredRule.{StoredRule}

-- the rule's meaning, or the refusal
abbrev pub told : Result StoredRule Refusal → Result Automaton Refusal
told (Ok x) = Ok (of_stored x)
told (Err e) = Err e

-- the refusal is of line n, by the condition that was met first
abbrev pub told_on : ℕ → Refusal → Option (Fault × ℕ) → Type 0
told_on n e o = (e.line ≡ n) × (o ≡ Some (e.fault, e.field))
