use Rattle.std.proofs.Common.{sym, ap, ◌∙◌}
use Rattle.engine.proofs.Steps.{col_in}
use Rattle.engine.proofs.walking.Tape.column.Goals as goal

pub returns-then-place-self : goal.returns-then-place-self
returns-then-place-self g c =
    let s = c.args.self.now in
    let letter = g.L.Alphabet.letter s.alphabet.now in
    let read = c.index-self-place.is in
    c.letter.ensures ∙ (ap letter (sym read) ∙ col_in (g.R.Rule.meaning s.rule.now) letter s.marks.now c.args.place c.index-self-place.result c.if-place-eq0.false c.if-place-self.true read)
