use Rattle.std.proofs.Common.{ℕ, take, ltb, ◌∙◌, arith, rules, tests}
use Rattle.std.proofs.lemmas.Iterator.{YieldsList-from_slice}
use Rattle.std.proofs.lemmas.Iterator.Search.{all_from_yields_List}
use Rattle.dfa.proofs.Following.{leads_all}
use Rattle.dfa.proofs.rows.DfaRow.leads_on.Goals as goal

pub returns : goal.returns
returns c =
    let n = c.args.rows in
    let m = c.args.letters in
    all_from_yields_List (λ (k : ℕ). ltb k n) _ _ c.all.result c.all.ensures.ran (YieldsList-from_slice (take m c.args.self.now.cells) cc) (λ x b q k. search (rules, tests))
    ∙ leads_all m n c.args.self.now (search (arith, rules))
