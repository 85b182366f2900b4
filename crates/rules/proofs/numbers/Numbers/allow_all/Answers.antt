use Rattle.std.proofs.Common.{refl, arith, rules, tests}
use Rattle.std.proofs.lemmas.Iterator.{cases_from_all, YieldsList-from_range}
use Rattle.rules.specs.Steps.{at, RowKept}
use Rattle.rules.proofs.Ranging.{decided}
use Rattle.rules.proofs.numbers.Numbers.allow_all.Goals as goal

pub returns : goal.returns
returns c =
    let s = c.args.self in
    let P = RowKept s.states s.letters s.accept s.reject (at c.args.steps.now) in
    let d =
    decided P s.states c.all.result
    (cases_from_all _ _ c.all.result P (λ q. P q → ⊥) c.all.ensures.ran (YieldsList-from_range 0 s.states s.states refl (omega arith)) (λ x q k. search (rules, tests)) (λ x q k. search (rules, tests))) in
    (λ e q c h. d.0 e q h.0 c h.1, λ f. d.1 (λ q l c l'. f q c (l, l')))
