use Rattle.std.proofs.Common.{Some, None, sym, ◌∙◌}
use Rattle.two_way.specs.Tables.{crossing}
use Rattle.two_way.specs.Rows.{of_row}
use Rattle.crossing.proofs.Turning.{at_turn, next_turn, no_turn, leaves, stays, comes_back, crossed_by}
use Rattle.crossing.proofs.crossed.Goals as goal

pub returns-in-Right : goal.returns-in-Right
returns-in-Right g c =
    let A = g.R.Rule.meaning c.args.rule.now in
    let r = c.args.before.now.answers in
    let a = c.args.letter in
    let s = c.step-step in
    crossed_by A r a c.args.from (Some (Some s.result.to))
    (at_turn (crossing A (of_row r).at a) c.states-turns.result A.states c.loop-turn._turn c.loop-turn.state c.args.from c.states-turns.ensures c.loop-turn.invariant c.loop-turn-test.true _
    (leaves A r a c.loop-turn.state s.result.to s.result.direction s.ensures.to s.ensures.way c.in-Right.is))

pub returns-in_err-state-in-Left : goal.returns-in_err-state-in-Left
returns-in_err-state-in-Left g c =
    let A = g.R.Rule.meaning c.args.rule.now in
    let r = c.args.before.now.answers in
    let a = c.args.letter in
    let s = c.step-step in
    c.from_residual.ensures ∙ crossed_by A r a c.args.from (Some None)
    (at_turn (crossing A (of_row r).at a) c.states-turns.result A.states c.loop-turn._turn c.loop-turn.state c.args.from c.states-turns.ensures c.loop-turn.invariant c.loop-turn-test.true _
    (stays A r a c.loop-turn.state s.result.to s.result.direction s.ensures.to s.ensures.way c.in-Left.is (sym c.answer.ensures ∙ c.in_err-state-in-Left.was)))

pub loop-turn-preserved : goal.loop-turn-preserved
loop-turn-preserved g c =
    let A = g.R.Rule.meaning c.args.rule.now in
    let r = c.args.before.now.answers in
    let a = c.args.letter in
    let s = c.step-step in
    next_turn (crossing A (of_row r).at a) c.states-turns.result A.states c.loop-turn._turn c.loop-turn.state c.args.from c.states-turns.ensures c.loop-turn.invariant c.loop-turn-test.true _
    (comes_back A r a c.loop-turn.state s.result.to s.result.direction s.ensures.to s.ensures.way c.in_ok-state-in-Left.state c.in-Left.is (sym c.answer.ensures ∙ c.in_ok-state-in-Left.was))

pub returns : goal.returns
returns g c =
    let A = g.R.Rule.meaning c.args.rule.now in
    let r = c.args.before.now.answers in
    crossed_by A r c.args.letter c.args.from None
    (no_turn (crossing A (of_row r).at c.args.letter) c.states-turns.result A.states c.loop-turn._turn c.loop-turn.state c.args.from
    c.states-turns.ensures c.loop-turn.invariant c.loop-turn-test.false)
