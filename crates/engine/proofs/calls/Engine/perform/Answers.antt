use Rattle.std.proofs.Common.{ap}
use Rattle.engine.specs.Calls.{Meaning, Outcome}
use Rattle.engine.proofs.Lawfully.{law_from}
use Rattle.engine.proofs.calls.Engine.perform.Goals as goal

pub returns : goal.returns
returns g c =
    let W : Meaning g.row.R.Denot g.row.L.Denot g.row.L-Mark.Denot = record { rule = g.R.Rule.meaning; count = g.L.Alphabet.letters; letter = g.L.Alphabet.letter } in
    let O = Outcome g.row.R.Denot g.row.L.Denot in
    let o = c.dispatch.ensures in
    let a = ap (λ (x : O). x.answer) o in
    let n = ap (λ (x : O). x.engine) o in
    let t = ap (λ (x : O). x.tables) o in
    let d = ap (λ (x : O). x.dfa) o in
    record { answer = a; engine = n; tables = t; dfa = d; law = law_from W g.met.R.Rule.lawful g.met.L.Alphabet.below c.args.self.now c.args.call c.args.tables.now c.args.dfa.now c.args.marks.now _ _ _ a d n }
