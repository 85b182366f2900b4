use Rattle.std.proofs.Common.{arith}
use Rattle.register.specs.Names.{alike_names}
use Rattle.register.specs.Held.{held}
use Rattle.spelling.proofs.LoadSeats.{seat_low}
use Rattle.loading.proofs.states.States.named.Goals as goal

pub overflow_cast-result : goal.overflow_cast-result
overflow_cast-result c =
    let l = seat_low alike_names _ (held c.args.self.now.names) c.args.name c.in_ok-place.place c.in_ok-place.ensures.added.place in
    omega (arith, c.args.self.now.room)
