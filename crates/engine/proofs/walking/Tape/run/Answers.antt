use Rattle.std.proofs.Common.{◌≡◌, ◌+◌, ◌-◌, ◌*◌, map, length, sym, ap, ◌∙◌, arith}
use Rattle.std.proofs.lemmas.List.{length-map}
use Rattle.two_way.specs.Runs.{Config, column, most}
use Rattle.engine.proofs.Steps.{turn_goes, starts}
use Rattle.engine.proofs.walking.Tape.run.Goals as goal

pub loop-steps-init : goal.loop-steps-init
loop-steps-init g c =
    let s = c.args.self.now in
    let A = g.R.Rule.meaning s.rule.now in
    let letter = g.L.Alphabet.letter s.alphabet.now in
    let ms = s.marks.now in
    let w = map letter ms in
    let limit = (c.states.result - 2) * (length ms + 2) in
    let e : limit ≡ most A (length w) = ap (λ k. (k - 2) * (length ms + 2)) c.states.ensures ∙ ap (λ n. (A.states - 2) * (n + 2)) (sym (length-map ms letter)) in
    let low = (g.met.R.Rule.lawful s.rule.now).start_in in
    (omega (arith, low, c.start.ensures), omega arith, starts A w limit c.start.result e c.start.ensures)

pub loop-steps-preserved : goal.loop-steps-preserved
loop-steps-preserved g c =
    let s = c.args.self.now in
    let A = g.R.Rule.meaning s.rule.now in
    let ms = s.marks.now in
    let w = map (g.L.Alphabet.letter s.alphabet.now) ms in
    let x : Config = record { state = c.loop-steps.at.state; place = c.loop-steps.at.place } in
    let y : Config = record { state = c.advance-at.result.state; place = c.advance-at.result.place } in (
      c.advance-at.ensures.low,
      c.advance-at.ensures.within,
      c.loop-steps.invariant.2 ∙ turn_goes A (column A w) ((c.states.result - 2) * (length ms + 2)) c.loop-steps.steps x c.loop-steps-test.true (λ e. c.if-at-accept.false (e ∙ sym c.accept.ensures)) (λ e. c.if-at-reject.false (e ∙ sym c.reject.ensures)) y c.advance-at.ensures.after,
    )
