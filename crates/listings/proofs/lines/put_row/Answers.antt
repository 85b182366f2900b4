use Rattle.std.proofs.Common.{ℕ, List, [], ◌∷◌, ◌+◌, ◌++◌, length, Some, codes, decimal, ap, subst, arith}
use Rattle.text.specs.Parts.{tab, line_feed}
use Rattle.listings.specs.Listing.{line, row_fields}
use Rattle.listings.specs.Placed.{Placed}
use Rattle.listings.proofs.Placing.{placed_more, placed_past, goes_on}
use Rattle.listings.proofs.Spelling.{cells_text, row_text, row_long}
use Rattle.listings.proofs.lines.put_row.Goals as goal

pub returns-in_err-put_cells-clause-placed : goal.returns-in_err-put_cells-clause-placed
returns-in_err-put_cells-clause-placed c =
    let e = c.in_ok-put.ensures in
    let f = c.in_ok-put_field.ensures in
    let g = c.in_ok-put_field-2.ensures in
    let row = c.args.row.now in
    placed_past c.args.writer.now c.put_field-2.new.self c.put_cells.new.writer (cells_text c.args.letters row) (line (row_fields c.args.letters c.args.number row)) c.from_residual-in_err-put_cells.result
    (3 + (1 + length (decimal c.args.number)) + (1 + length (decimal row.verdict))) c.from_residual-in_err-put_cells.ensures (goes_on (goes_on e.continues f.continues) g.continues)
    (omega (arith, e.placed.0, f.placed.0, g.placed.0, ap (λ x. length (decimal x)) c.verdict.ensures)) c.in_err-put_cells.ensures.placed (omega (arith, row_long c.args.letters c.args.number row))

pub returns-clause-placed : goal.returns-clause-placed
returns-clause-placed c =
    let u = c.args.writer.now in
    let row = c.args.row.now in
    let field = λ (k : ℕ). tab ∷ decimal k in
    let word = codes "row" in
    let i = field c.args.number in
    let v = field row.verdict in
    let cells = cells_text c.args.letters row in
    let e = c.in_ok-put.ensures in
    let f = c.in_ok-put_field.ensures in
    let g = c.in_ok-put_field-2.ensures in
    let h = c.in_ok-put_cells.ensures in
    let verdict = subst (λ x. Placed c.put_field.new.self (field x) (Some tt) c.put_field-2.new.self) c.verdict.ensures g.placed in
    let two = placed_more u c.put.new.self c.put_field.new.self word i (Some tt) e.continues e.placed f.placed in
    let past2 = goes_on e.continues f.continues in
    let three = placed_more u c.put_field.new.self c.put_field-2.new.self (word ++ i) v (Some tt) past2 two verdict in
    let past3 = goes_on past2 g.continues in
    let four = placed_more u c.put_field-2.new.self c.put_cells.new.writer ((word ++ i) ++ v) cells (Some tt) past3 three h.placed in
    let five = placed_more u c.put_cells.new.writer c.put-2.new.self (((word ++ i) ++ v) ++ cells) (line_feed ∷ []) c.put-2.result (goes_on past3 h.continues) four c.put-2.ensures.placed in
    subst (λ (t : List ℕ). Placed u t c.put-2.result c.put-2.new.self) (row_text c.args.letters c.args.number row) five
