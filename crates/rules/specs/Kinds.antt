-- The meaning of each kind of rule, by its fields.
use Rattle.std.specs.Prelude.{◌≡◌, Some, None, Option}
use Rattle.two_way.specs.Automaton.{Automaton, Lawful}
use Rattle.two_way.specs.Pairs.{pair}
use Rattle.rules.specs.Steps.{stored}
use Rattle.rules.specs.Distance.{distance_rule}
use Rattle.rules.specs.declared.distance.DistanceRule.{DistanceRule}
use Rattle.rules.specs.declared.pair.PairRule.{PairRule}
use Rattle.rules.specs.declared.stored.StoredRule.{StoredRule}

abbrev pub of_stored : StoredRule → Automaton
of_stored x = let n = x.numbers in stored n.states n.letters n.start n.accept n.reject x.steps

-- a rule that means A exactly when A is lawful, and else none
abbrev pub Loaded : Automaton → Option StoredRule → Type 0
Loaded A (Some x) = Lawful A × (of_stored x ≡ A)
Loaded A None = Lawful A → ⊥

abbrev pub of_distance : DistanceRule → Automaton
of_distance x = distance_rule x.distance x.letters x.set

-- from what the rules of either type mean
abbrev pub of_pair : {A B : Type 0} → (A → Automaton) → (B → Automaton) → PairRule A B → Automaton
of_pair first second x = pair (first x.first) (second x.second)
