use Rattle.std.proofs.Common.{ℕ, ◌<◌, ◌≢◌, List, [], length, get_or, ap, ◌∙◌, arith, get_or-set_other, get_or-set_same, length-set, below_more}
use Rattle.std.proofs.lemmas.List.FromFn.{get_or-map-range_with_len}
use Rattle.loading.specs.Drawn.{settled}
use Rattle.loading.proofs.draft.Draft.table.Goals as goal

pub loop-state-preserved : goal.loop-state-preserved
loop-state-preserved c =
    let l = c.loop-state in
    let i = l.invariant in (
      length-set l.row-items l.state _ ∙ i.0,
      below_more _ _
          (λ k h. let ne : k ≢ l.state = omega arith in get_or-set_other l.row-items l.state k _ [] ne ∙ i.1 k h)
          (let lt : l.state < length l.row-items = omega (arith, i.0) in get_or-set_same l.row-items l.state _ [] lt ∙ c.row.ensures),
    )

pub returns : goal.returns
returns c q k hq hk =
    ap (λ (r : List (ℕ × ℕ)). get_or r k (0, 0)) (c.loop-state.invariant.1 q (omega arith))
    ∙ get_or-map-range_with_len (settled c.args.self.now q) 0 18 k k (0, 0) hk (omega arith)
