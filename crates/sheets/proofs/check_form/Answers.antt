use Rattle.std.proofs.Common.{◌≡◌, ◌∷◌, Ok, Err, sym, ◌∙◌, arith, rules}
use Rattle.text.specs.Left.{line_of, lines_left}
use Rattle.text.specs.Lines.{lines}
use Rattle.sheets.specs.Form.{form_of}
use Rattle.sheets.proofs.Forms.{after_first, judged}
use Rattle.sheets.proofs.check_form.Goals as goal

pub loop-number-init : goal.loop-number-init
loop-number-init c =
    let e : lines c.args.sheet.now ≡ line_of c.in_ok-first.first ∷ lines_left c.next.new.self = sym c.new-lines.ensures.lines ∙ rw c.in_ok-first.ensures.ok_part at c.next.ensures.steps in
    let f = rw c.in_ok-ok_or.ensures.ok_part at c.read_fields.ensures in
    let x = after_first c.args.sheet.now _ _ c.if-sheet-gt-LONGEST.false e f.0 in
    rw (c.into_iter-number-iterator.ensures.into_iter_gives, c.zip-number-items.ensures.first, c.zip-number-items.ensures.second)
    ((tt, tt), tt, x.0, omega arith)

pub returns-then-sheet-gt-LONGEST-clause-law : goal.returns-then-sheet-gt-LONGEST-clause-law
returns-then-sheet-gt-LONGEST-clause-law c =
    let e : Err c.unplaced.result ≡ form_of c.args.sheet.now = search rules in
    judged c.args.sheet.now (Err c.unplaced.result) e

pub returns-clause-law : goal.returns-clause-law
returns-clause-law c =
    let e : Ok tt ≡ form_of c.args.sheet.now = search rules in
    judged c.args.sheet.now (Ok tt) e
