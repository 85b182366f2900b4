use Rattle.std.proofs.Common.{ap, ◌∙◌, arith}
use Rattle.rules.specs.Steps.{way_of}
use Rattle.two_way.proofs.Sound.{sound}
use Rattle.engine.proofs.Steps.{not_left, not_right, step_low}
use Rattle.engine.proofs.walking.Tape.advance.Goals as goal

pub overflow_sub-result : goal.overflow_sub-result
overflow_sub-result g c =
    let s = c.args.self.now in
    let A = g.R.Rule.meaning s.rule.now in
    let law = g.met.R.Rule.lawful s.rule.now in
    not_left A (sound A law) (g.L.Alphabet.letter s.alphabet.now) s.marks.now c.args.at.state c.args.at.place c.column.result c.column.ensures c.requires.0 (c.step-step.ensures.way ∙ ap way_of c.in-Left.is)

pub returns-in-Right-clause-low : goal.returns-in-Right-clause-low
returns-in-Right-clause-low g c =
    let s = c.args.self.now in
    step_low (g.R.Rule.meaning s.rule.now) (g.met.R.Rule.lawful s.rule.now) c.args.at.state c.column.result c.step-step.result.to c.step-step.ensures.to c.requires.0

pub returns-in-Left-clause-low : goal.returns-in-Left-clause-low
returns-in-Left-clause-low g c =
    let s = c.args.self.now in
    step_low (g.R.Rule.meaning s.rule.now) (g.met.R.Rule.lawful s.rule.now) c.args.at.state c.column.result c.step-step.result.to c.step-step.ensures.to c.requires.0

pub returns-in-Right-clause-within : goal.returns-in-Right-clause-within
returns-in-Right-clause-within g c =
    let s = c.args.self.now in
    let A = g.R.Rule.meaning s.rule.now in
    let law = g.met.R.Rule.lawful s.rule.now in
    let r =
    not_right A (sound A law) (g.L.Alphabet.letter s.alphabet.now) s.marks.now c.args.at.state c.args.at.place c.column.result c.column.ensures c.requires.0 (c.step-step.ensures.way ∙ ap way_of c.in-Right.is) c.requires.1.0 in
    omega (arith, r)
