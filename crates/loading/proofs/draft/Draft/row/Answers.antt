use Rattle.std.proofs.Common.{◌≡◌, ℕ, sym, refl, ◌∙◌, arith, rules, ext_get_or}
use Rattle.std.proofs.lemmas.List.FromFn.{get_or-map-range_with_len}
use Rattle.rules.proofs.Ranging.{made}
use Rattle.loading.specs.Drawn.{settled}
use Rattle.loading.proofs.draft.Draft.row.Goals as goal

pub returns : goal.returns
returns c =
    let items = c.from_fn.ensures.items in
    let value = settled c.args.self.now c.args.state in
    let Is : ℕ → ℕ × ℕ → Type 0 = λ b y. y ≡ value b in
    ext_get_or (0, 0) _ _ (items.long ∙ refl)
    (λ k h. made _ Is _ (λ j y p n. search rules) c.from_fn.result (0, 0) 18 k items.each (omega (arith, items.long))
    ∙ sym (get_or-map-range_with_len value 0 18 k k (0, 0) (omega (arith, items.long)) (omega arith)))
