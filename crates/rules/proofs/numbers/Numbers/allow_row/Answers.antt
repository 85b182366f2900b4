use Rattle.std.proofs.Common.{◌≡◌, ℕ, ◌+◌, true, refl, arith, rules, tests}
use Rattle.std.proofs.lemmas.Iterator.{cases_from_all, YieldsList-from_range}
use Rattle.rules.specs.Steps.{allowed, at}
use Rattle.rules.proofs.Ranging.{decided}
use Rattle.rules.proofs.numbers.Numbers.allow_row.Goals as goal

pub returns : goal.returns
returns c =
    let s = c.args.self in
    let P : ℕ → Type 0 = λ q. allowed s.states s.letters s.accept s.reject c.args.state q (at c.args.steps.now c.args.state q) ≡ true in
    decided P (s.letters + 2) c.all.result
    (cases_from_all _ _ c.all.result P (λ q. P q → ⊥) c.all.ensures.ran (YieldsList-from_range 0 (s.letters + 2) (s.letters + 2) refl (omega arith)) (λ x q k. search (rules, tests)) (λ x q k. search (rules, tests)))
