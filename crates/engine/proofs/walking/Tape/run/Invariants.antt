use Rattle.std.proofs.Common.{◌≡◌, ◌+◌, ◌-◌, ◌<◌, ◌≤◌, map, length}
use Rattle.two_way.specs.Runs.{column}
use Rattle.engine.specs.Walks.{walk_from, walked}
use Rattle.engine.proofs.walking.Tape.run.Given as goal

-- the turns that are left give what all of them give
abbrev pub invariant-loop-steps : goal.invariant-loop-steps
invariant-loop-steps g l =
    let A = g.R.Rule.meaning l.self.rule.now in
    let w = map (g.L.Alphabet.letter l.self.alphabet.now) l.self.marks.now in
    (l.at.state < A.states)
    × (l.at.place ≤ length l.self.marks.now + 1)
    × (walked A w ≡ walk_from A (column A w) l.limit (l.steps-end - l.steps) (record { state = l.at.state; place = l.at.place }) l.steps)
