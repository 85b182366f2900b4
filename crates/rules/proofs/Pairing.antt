-- The law of the pair, from the theorem on pairs.
use Rattle.std.proofs.Common.{sym, refl, subst}
use Rattle.two_way.specs.Automaton.{Automaton, Lawful}
use Rattle.two_way.specs.Runs.{Rejects, now}
use Rattle.two_way.specs.Theorems.{PairDecides}
use Rattle.two_way.proofs.Composed.{pair_fits, pair_blank}
use Rattle.two_way.proofs.Paired.{decides}
use Rattle.rules.specs.Pair.{PairLaw}

pub pair_law : (A B : Automaton) → Lawful A → Lawful B → PairLaw A B
pair_law A B la lb = record {
  fitting = λ f w h. subst (λ P. PairDecides P A B w) (sym (pair_fits A B f)) (decides A B la lb f.1 w h);
  misfit = λ n w. subst (λ P. Rejects P w) (sym (pair_blank A B n)) (now refl);
}
