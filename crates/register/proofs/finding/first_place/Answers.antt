use Rattle.std.proofs.Common.{◌≡◌, true, false, rules, tests}
use Rattle.std.proofs.lemmas.Iterator.{IsFirst-from_position, YieldsList-from_slice}
use Rattle.register.proofs.Places.{first_place, tells}
use Rattle.register.proofs.finding.first_place.Goals as goal

pub returns : goal.returns
returns g c =
    let xs = c.args.keys.now in
    let k = c.args.key.now in
    let alike = g.K.Key.alike in
    let e =
    first_place alike xs k c.position.result
    (IsFirst-from_position _ _ c.position.result (λ x. alike x k ≡ true) (λ x. alike x k ≡ false) c.position.ensures.ran (YieldsList-from_slice xs c.iter.ensures.rest) (λ x q n. search (rules, tests)) (λ x q n. search (rules, tests))) in
    record { place = e; exactly = rw e (tells alike g.met.K.Key.decides xs k c.requires) }
