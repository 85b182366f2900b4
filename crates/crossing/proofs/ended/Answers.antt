use Rattle.std.proofs.Common.{◌+◌, Some, None, unwrap_or, sym, ap, ◌∙◌}
use Rattle.two_way.specs.declared.Verdict.{Verdict}
use Rattle.two_way.specs.Automaton.{to}
use Rattle.two_way.specs.Tables.{ending}
use Rattle.two_way.specs.Rows.{of_row}
use Rattle.crossing.proofs.Turning.{at_turn, next_turn, no_turn, accepted, rejected, lost, again, no_arrival, judged}
use Rattle.crossing.proofs.ended.Goals as goal

pub returns-in_err-state : goal.returns-in_err-state
returns-in_err-state g c =
    ap (λ o. unwrap_or o Verdict.Loops) c.from_residual.ensures ∙ no_arrival (g.R.Rule.meaning c.args.rule.now) c.args.table.now.answers (sym c.answer.ensures ∙ c.in_err-state.was)

pub returns-then-state-accept : goal.returns-then-state-accept
returns-then-state-accept g c =
    let A = g.R.Rule.meaning c.args.rule.now in
    let r = c.args.table.now.answers in
    judged A r c.in_ok-state.state (sym c.answer.ensures ∙ c.in_ok-state.was) (Some Verdict.Accepts)
    (at_turn (ending A (of_row r).at) c.states-turn-end.result A.states c.loop-turn._turn c.loop-turn.state c.in_ok-state.state c.states-turn-end.ensures c.loop-turn.invariant c.loop-turn-test.true _
    (accepted A r c.loop-turn.state (c.if-state-accept.true ∙ c.accept.ensures)))

pub returns-then-state-reject : goal.returns-then-state-reject
returns-then-state-reject g c =
    let A = g.R.Rule.meaning c.args.rule.now in
    let r = c.args.table.now.answers in
    judged A r c.in_ok-state.state (sym c.answer.ensures ∙ c.in_ok-state.was) (Some Verdict.Rejects)
    (at_turn (ending A (of_row r).at) c.states-turn-end.result A.states c.loop-turn._turn c.loop-turn.state c.in_ok-state.state c.states-turn-end.ensures c.loop-turn.invariant c.loop-turn-test.true _
    (rejected A r c.loop-turn.state (λ e. c.if-state-accept.false (e ∙ sym c.accept.ensures)) (c.if-state-reject.true ∙ c.reject.ensures)))

pub returns-in_err-state-2 : goal.returns-in_err-state-2
returns-in_err-state-2 g c =
    let A = g.R.Rule.meaning c.args.rule.now in
    let r = c.args.table.now.answers in
    let goes_to = c.step.ensures.to ∙ ap (λ m. to A c.loop-turn.state (m + 1)) c.letters-right.ensures in
    ap (λ o. unwrap_or o Verdict.Loops) c.from_residual-in_err-state-2.ensures ∙ judged A r c.in_ok-state.state (sym c.answer.ensures ∙ c.in_ok-state.was) (Some Verdict.Loops)
    (at_turn (ending A (of_row r).at) c.states-turn-end.result A.states c.loop-turn._turn c.loop-turn.state c.in_ok-state.state c.states-turn-end.ensures c.loop-turn.invariant c.loop-turn-test.true _
    (lost A r c.loop-turn.state c.step.result.to goes_to
    (λ e. c.if-state-accept.false (e ∙ sym c.accept.ensures)) (λ e. c.if-state-reject.false (e ∙ sym c.reject.ensures)) (sym c.answer-in-loop-turn.ensures ∙ c.in_err-state-2.was)))

pub loop-turn-preserved : goal.loop-turn-preserved
loop-turn-preserved g c =
    let A = g.R.Rule.meaning c.args.rule.now in
    let r = c.args.table.now.answers in
    let goes_to = c.step.ensures.to ∙ ap (λ m. to A c.loop-turn.state (m + 1)) c.letters-right.ensures in
    next_turn (ending A (of_row r).at) c.states-turn-end.result A.states c.loop-turn._turn c.loop-turn.state c.in_ok-state.state c.states-turn-end.ensures c.loop-turn.invariant c.loop-turn-test.true _
    (again A r c.loop-turn.state c.step.result.to goes_to
    (λ e. c.if-state-accept.false (e ∙ sym c.accept.ensures)) (λ e. c.if-state-reject.false (e ∙ sym c.reject.ensures)) c.in_ok-state-2.state (sym c.answer-in-loop-turn.ensures ∙ c.in_ok-state-2.was))

pub returns : goal.returns
returns g c =
    let A = g.R.Rule.meaning c.args.rule.now in
    let r = c.args.table.now.answers in
    judged A r c.in_ok-state.state (sym c.answer.ensures ∙ c.in_ok-state.was) None
    (no_turn (ending A (of_row r).at) c.states-turn-end.result A.states c.loop-turn._turn c.loop-turn.state c.in_ok-state.state c.states-turn-end.ensures c.loop-turn.invariant c.loop-turn-test.false)
