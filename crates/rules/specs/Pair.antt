-- What the check of a pair answers, and the law of the pair.
use Rattle.std.specs.Prelude.{ℕ, Bool, cond, List, Ok, Err, Result}
use Rattle.refusals.specs.declared.fault.Fault.TheVariants.{PairMisfit}
use Rattle.refusals.specs.declared.refusal.Refusal.{Refusal}
use Rattle.two_way.specs.Automaton.{Automaton}
use Rattle.two_way.specs.Runs.{Word, Rejects}
use Rattle.two_way.specs.Pairs.{Fits, pair}
use Rattle.two_way.specs.Theorems.{PairDecides}

abbrev pub checked : Bool → Result (Unit {0}) Refusal
checked fit = cond fit (Ok tt) (Err (record { fault = PairMisfit; line = 0; field = 0 }))

-- where A and B fit the pair decides what they decide one after the other, and elsewhere it rejects every word
pub record PairLaw (A B : Automaton) : Type 0 where
  pub fitting : Fits A B → (w : List ℕ) → Word A w → PairDecides (pair A B) A B w
  pub misfit : (Fits A B → ⊥) → (w : List ℕ) → Rejects (pair A B) w
