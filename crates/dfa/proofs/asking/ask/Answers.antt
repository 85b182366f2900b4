use Rattle.std.proofs.Common.{◌∙◌}
use Rattle.std.specs.Option.{ok_or}
use Rattle.dfa.proofs.Following.{asked_taken}
use Rattle.dfa.proofs.asking.ask.Goals as goal

pub returns : goal.returns
returns g c =
    let a = c.args.alphabet.now in
    let shelf = c.in_ok-shelf.ensures in
    c.ok_or.ensures.value ∙ (λ i. ok_or (c.follow.ensures i) (c.unplaced.ensures i))
    ∙ asked_taken (g.L.Alphabet.letter a) (g.L.Alphabet.letters a) c.args.rows c.args.dfa.now (g.met.L.Alphabet.below a) c.in_ok-shelf.shelf.letters c.in_ok-shelf.shelf.rows.now c.args.marks.now shelf.refused shelf.rows
    (shelf.letters ∙ c.letters.ensures)
