use Rattle.std.proofs.Common.{◌≡◌, ℕ, ◌+◌, ◌≢◌, None, arith, rules, tests}
use Rattle.std.proofs.lemmas.Iterator.{cases_from_any, YieldsList-from_range}
use Rattle.loading.specs.Cells.{cell}
use Rattle.loading.proofs.Ranges.{none_below}
use Rattle.loading.proofs.draft.Draft.row_lacks.Goals as goal

pub returns-clause-full : goal.returns-clause-full
returns-clause-full c =
    let n = c.args.self.now.header.letters + 2 in
    let Lacks : ℕ → Type 0 = λ k. cell c.args.self.now.steps.cells c.args.state k ≡ None in
    let Has : ℕ → Type 0 = λ k. cell c.args.self.now.steps.cells c.args.state k ≢ None in
    none_below _ Has n c.any.result
    (cases_from_any _ _ _ Lacks Has c.any.ensures.ran (YieldsList-from_range 0 n n (cc) (omega arith)) (λ x q k. search (rules, tests)) (λ x q k. search (rules, tests)))
