use Rattle.std.proofs.Common.{arith}
use Rattle.text.proofs.Reading.{lawful}
use Rattle.text.proofs.numbers.read_number.Goals as goal

pub returns : goal.returns
returns c =
    let x = lawful c.args.most c.args.text.now c.number_in.result (omega arith) c.number_in.ensures in
    record { number = x.0; law = x.1 }
