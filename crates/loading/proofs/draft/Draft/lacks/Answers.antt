use Rattle.std.proofs.Common.{ℕ, arith, rules, tests}
use Rattle.std.proofs.lemmas.Iterator.{cases_from_any, YieldsList-from_range}
use Rattle.loading.specs.Drawn.{Gap}
use Rattle.loading.proofs.Ranges.{none_below}
use Rattle.loading.proofs.draft.Draft.lacks.Goals as goal

pub returns-clause-full : goal.returns-clause-full
returns-clause-full c e q k g =
    let n = c.args.states in
    let Some_gap : ℕ → Type 0 = λ q. (k : ℕ) × Gap c.args.self.now n q k in
    let No_gap : ℕ → Type 0 = λ q. (k : ℕ) → Gap c.args.self.now n q k → ⊥ in
    none_below _ No_gap n c.any.result
    (cases_from_any _ _ _ Some_gap No_gap c.any.ensures.ran (YieldsList-from_range 0 n n (cc) (omega arith)) (λ x q k. search (rules, tests)) (λ x q k. search (rules, tests)))
    e q g.state k g
