use Rattle.std.proofs.Common.{◌<◌, length, sym, ◌∙◌, arith, ext_get_or}
use lib.ListN.{length-replicate, get_or-replicate}
use Rattle.register.proofs.clearing.blank_all.Goals as goal

pub returns : goal.returns
returns g c =
    ext_get_or g.K.Blank.blank _ _ (search (arith, length-replicate))
    (λ k h. let lt : k < length c.args.keys.now = omega arith in c.loop-key.invariant k (omega arith) ∙ sym (get_or-replicate _ k _ _ lt))
