use Rattle.std.proofs.Common.{ℕ, List, ap, ◌∙◌, arith}
use Rattle.register.specs.declared.tables.CrossingTable.{CrossingTable}
use Rattle.two_way.specs.Rows.{byte_of}
use Rattle.crossing.proofs.Turning.{or_never, made, none_written, one_written}
use Rattle.crossing.proofs.table_of.Goals as goal

pub loop-state-init : goal.loop-state-init
loop-state-init g c = λ t h. none_written t

pub loop-state-preserved : goal.loop-state-preserved
loop-state-preserved g c = λ t h.
    let few = (g.met.R.Rule.lawful c.args.rule.now).states_high in
    one_written t c.loop-state.state _ c.loop-state.answers (omega arith) (c.loop-state.invariant t h)
    (c.unwrap_or.ensures ∙ (or_never c.answer.result ∙ ap byte_of (h c.loop-state.state c.answer.result (omega (arith, c.states-state-end.ensures)) c.answer.ensures)))

pub returns : goal.returns
returns g c = λ t e h.
    let A = g.R.Rule.meaning c.args.rule.now in
    let few = (g.met.R.Rule.lawful c.args.rule.now).states_high in
    let w = c.loop-state.invariant t h in
    let wrap : List ℕ → CrossingTable = λ xs. record { answers = xs } in
    c.new.ensures ∙ ap wrap (made A t c.states-state-end.result c.unwrap_or-2.result c.loop-state.answers c.states-state-end.ensures (omega arith) w.0
    (λ j k. w.1 j (omega arith)) (λ j k l. w.2 j (omega arith) l) (c.unwrap_or-2.ensures ∙ (or_never c.args.first ∙ ap byte_of e)))
