use Rattle.std.proofs.Common.{◌≡◌, ◌<◌, Some, length, ap, ◌∙◌, sym, subst}
use Rattle.dfa.specs.Asked.{next_row}
use Rattle.dfa.proofs.Following.{followed_more, next_low}
use Rattle.dfa.proofs.asking.follow.Goals as goal

pub loop-mark-preserved : goal.loop-mark-preserved
loop-mark-preserved g c =
    let s = c.args.shelf.now in
    let alphabet = c.args.alphabet.now in
    let letter = g.L.Alphabet.letter alphabet in
    let n = length s.rows.now in
    let x = c.mark-item.result in
    let inv = c.loop-mark.invariant in
    let next : Some c.in_ok-row.row ≡ next_row s.letters n s.rows.now c.loop-mark.row (letter x) = c.in_ok-row.ensures ∙ ap (next_row s.letters n s.rows.now c.loop-mark.row) c.letter.ensures in
    let few : letter x < s.letters = subst (λ k. letter x < k) (sym c.requires) (g.met.L.Alphabet.below alphabet x) in (
      next_low s.letters n s.rows.now c.loop-mark.row (letter x) c.in_ok-row.row few next,
      inv.1 ∙ followed_more letter s.letters n s.rows.now c.args.marks.now c.loop-mark.row c.loop-mark.mark-index c.in_ok-row.row x c.loop-mark-test.true c.mark-item.is next,
    )
