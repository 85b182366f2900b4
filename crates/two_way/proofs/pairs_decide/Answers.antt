use Rattle.std.proofs.Common.{sym, refl, subst}
use Rattle.two_way.specs.Runs.{Rejects, now}
use Rattle.two_way.specs.Theorems.{PairDecides}
use Rattle.two_way.proofs.Composed.{pair_fits, pair_blank, pair_lawful}
use Rattle.two_way.proofs.Paired.{decides}
use Rattle.two_way.proofs.pairs_decide.Goals as goal

pub returns : goal.returns
returns c A B la lb = (
  pair_lawful A B la lb,
  λ f w h. subst (λ P. PairDecides P A B w) (sym (pair_fits A B f)) (decides A B la lb f.1 w h),
  λ n w. subst (λ P. Rejects P w) (sym (pair_blank A B n)) (now refl),
)
