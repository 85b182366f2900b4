use Rattle.std.proofs.Common.{◌≡◌, ◌-◌, ◌+◌, ◌∷◌, length, take, drop, ap, ◌∙◌, arith, rules}
use Rattle.text.specs.Parts.{parts}
use Rattle.text.specs.Left.{parts_left, parts_of}
use Rattle.text.proofs.Parting.{first_part, parts_one}
use Rattle.text.proofs.parts.PartsIterator.next.Goals as goal
use Rattle.std.proofs.iter.Next.{firm}

pub returns-in_default-clause-steps : goal.returns-in_default-clause-steps
returns-in_default-clause-steps c =
    ap (parts_of c.args.self.now.separator) c.in_ok-rest.was ∙ parts_one c.args.self.now.separator c.in_ok-rest.rest.now c.in_default.ensures

pub returns : goal.returns
returns c =
    let x = c.args.self.now.separator in
    let rest = c.in_ok-rest.rest.now in
    let at = c.in-Some.at in
    let p = c.in-Some.ensures in
    let step : parts_left c.args.self.now ≡ take at rest ∷ parts x (take (length rest - (at + 1)) (drop (at + 1) rest)) =
    ap (parts_of x) c.in_ok-rest.was ∙ first_part x rest at p.0 p.2 p.1 in
    record { steps = step; goes = firm ((tt, tt, omega (arith, ap length step))) (λ h. search rules) }
