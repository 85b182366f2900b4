use Rattle.std.proofs.Common.{◌≡◌, None, ◌∙◌, rules}
use Rattle.std.specs.ControlFlow.{continue_value}
use Rattle.std.proofs.lemmas.Iterator.{YieldsList-from_slice}
use Rattle.text.proofs.Reading.{read_on_is}
use Rattle.text.proofs.Folding.{try_folded}
use Rattle.text.proofs.numbers.digits_after.Goals as goal

pub returns : goal.returns
returns c = λ low.
    try_folded (λ o k. o ≡ continue_value k) (λ e o. o ≡ None) c.args.most c.args.first c.args.text.now _ _ c.try_fold.result c.try_fold.ensures.ran (YieldsList-from_slice c.args.text.now (cc))
    (λ o a h. h) (λ o e h. h) (λ e o h. h) (λ a x o q h. search rules)
    ∙ read_on_is c.args.most c.args.text.now c.args.first low
