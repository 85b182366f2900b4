use Rattle.register.proofs.Adding.{seated}
use Rattle.register.proofs.Register.seat_for.Goals as goal

pub returns : goal.returns
returns g c =
    let s = c.args.self.now in
    seated g.K.Key.alike g.met.K.Key.decides s.keys.now s.count c.args.key.now c.find.result s.fits s.different c.find.ensures.place
